-- The forest that a run gives can be written out as rows and read back: its texts lie in the pool, and its numbers are words. By what Shape says of each row, and on the derivation of the run.
use Prim.Native.Nat.{ℕ, zero, suc, ◌+◌, ◌≤◌, ◌<◌}
use Rattle.std.specs.Prelude.{◌≡◌, Bool, List, [], ◌∷◌, ◌++◌, get_or}
use Rattle.std.proofs.Math.Path.{refl}
use Rattle.std.proofs.Math.Bool.{true, false}
use native.Mathlib.Omega.{arith}
use borrow.Author.Tests.{leb-true, ltb-true, eqb-true}
use Rattle.meaning.specs.Tests.{in_table}
use Rattle.meaning.specs.Limits.{most_depth, last_label, most_pool}
use Rattle.meaning.specs.Sheet.{Cells, Script, Grove, Sheet, queries_of, statements_of, rows_of, script_of, grove_of, sheet_of}
use Rattle.meaning.specs.Kinds.{Query, Statement, query_form, statement_form, query_at, statement_at}
use Rattle.meaning.specs.Forest.{Forest, nil, cons, only, ◌⊕◌, tree_form, forest, forest_at, forest_of}
use Rattle.meaning.specs.Walk.{Unasked, gives, Settles}
use Rattle.meaning.specs.Run.{Env, run_walk}
use Rattle.meaning.specs.Figures.{
  Inside,
  in_node,
  in_other,
  Kept,
  k_none,
  k_tree,
  k_other,
  Gives,
  g_empty,
  g_join,
  g_tree,
  g_text,
  g_bool,
  g_variable,
  g_let,
  g_if_true,
  g_if_false,
  g_same,
  g_children,
  g_pick,
  g_for,
  each_none,
  each_tree,
  GivesAll,
  all_none,
  all_more,
  Takes,
  t_skip,
  t_then,
  t_if_true,
  t_if_false,
  t_insert,
  t_delete,
  t_rename,
  t_let,
  t_snapshot,
  t_test,
  t_pass,
  t_children,
  t_left,
  t_right,
  t_iter,
  t_call,
  iter_none,
  iter_tree,
}
use Rattle.meaning.specs.Shape.{word_ok, words_ok, query_uses, statement_uses, forest_uses, absent, is_label as label-ok, is_size, shapely}
use Rattle.meaning.specs.Reply.{done, Loads, sound, run_settled}
use Rattle.meaning.specs.Laws.Bools.{and_left, and_right}
use Rattle.meaning.specs.Laws.Tests.{table_high}
use Rattle.meaning.specs.Laws.Shaped.{cells, queries_say, statements_say, rows_say, queries_pass, statements_pass, rows_pass, few_rows, few_bytes}
use Rattle.meaning.specs.Laws.Walk.{settle_settles}
use Rattle.meaning.specs.Theorems.ReadBack.{InPool, Words, TreeWords, decoded_in_pool}
use Rattle.meaning.specs.Theorems.ExactRun.{derived_run}
use Rattle.meaning.specs.Theorems.Sound.Judgments.{Named-procedures}

-- ---- what Shape says of the rows that a run reads

-- a label, and a text's place and size, are words
abbrev QueryFine : Query → Type 0
QueryFine Query.none = Unit {0}
QueryFine Query.empty = Unit {0}
QueryFine (Query.join p q) = Unit {0}
QueryFine (Query.tree n q) = n < 65536
QueryFine (Query.text p q) = (p < 65536) × (q < 65536)
QueryFine (Query.bool b) = Unit {0}
QueryFine (Query.variable v) = Unit {0}
QueryFine (Query.letin p q) = Unit {0}
QueryFine (Query.if p q r) = Unit {0}
QueryFine (Query.same p q) = Unit {0}
QueryFine (Query.children v) = Unit {0}
QueryFine (Query.pick p l) = Unit {0}
QueryFine (Query.for p q) = Unit {0}

-- and a called procedure is one of the n that there are
abbrev StatementFine : ℕ → Statement → Type 0
StatementFine n Statement.none = Unit {0}
StatementFine n Statement.skip = Unit {0}
StatementFine n (Statement.then p q) = Unit {0}
StatementFine n (Statement.if p q r) = Unit {0}
StatementFine n (Statement.insert p) = Unit {0}
StatementFine n Statement.delete = Unit {0}
StatementFine n (Statement.rename l) = l < 65536
StatementFine n (Statement.letin p q) = Unit {0}
StatementFine n (Statement.snapshot p) = Unit {0}
StatementFine n (Statement.test t r) = Unit {0}
StatementFine n (Statement.children p) = Unit {0}
StatementFine n (Statement.left p) = Unit {0}
StatementFine n (Statement.right p) = Unit {0}
StatementFine n (Statement.iter p) = Unit {0}
StatementFine n (Statement.call c l) = in_table n c ≡ true

abbrev RowFine : Cells → Type 0
RowFine c = (c.p < 65536) × (c.q < 65536)

module _ (s : Sheet) where
  label_word : (w : ℕ) → label-ok w ≡ true → w < 65536
  label_word w e = omega (arith, leb-true w last_label e)

  zero_word : (w : ℕ) → absent w ≡ true → w < 65536
  zero_word w e = omega (arith, eqb-true w 0 e)

  module _ (pool : s.grove.pool ≤ most_pool) where
    place_word : (p q : ℕ) → is_size s.grove.pool p q ≡ true → (p < 65536) × (q < 65536)
    place_word p q e = let h = leb-true (p + q) s.grove.pool e in (omega arith, omega arith)

    query_fine : (i k p q r : ℕ) → words_ok s (query_uses (cells k p q r)) i (cells k p q r) ≡ true → QueryFine (query_form (cells k p q r))
    unfolding word_ok
    query_fine i zero p q r e = tt
    query_fine i (suc zero) p q r e = tt
    query_fine i (suc (suc zero)) p q r e = tt
    query_fine i (suc (suc (suc zero))) p q r e = label_word p (search and_left)
    query_fine i (suc (suc (suc (suc zero)))) p q r e = place_word p q (search and_left)
    query_fine i (suc (suc (suc (suc (suc zero))))) p q r e = tt
    query_fine i (suc (suc (suc (suc (suc (suc zero)))))) p q r e = tt
    query_fine i (suc (suc (suc (suc (suc (suc (suc zero))))))) p q r e = tt
    query_fine i (suc (suc (suc (suc (suc (suc (suc (suc zero)))))))) p q r e = tt
    query_fine i (suc (suc (suc (suc (suc (suc (suc (suc (suc zero))))))))) p q r e = tt
    query_fine i (suc (suc (suc (suc (suc (suc (suc (suc (suc (suc zero)))))))))) p q r e = tt
    query_fine i (suc (suc (suc (suc (suc (suc (suc (suc (suc (suc (suc zero))))))))))) p q r e = tt
    query_fine i (suc (suc (suc (suc (suc (suc (suc (suc (suc (suc (suc (suc zero)))))))))))) p q r e = tt
    query_fine i (suc (suc (suc (suc (suc (suc (suc (suc (suc (suc (suc (suc (suc zero))))))))))))) p q r e = tt
    query_fine i (suc (suc (suc (suc (suc (suc (suc (suc (suc (suc (suc (suc (suc (suc k)))))))))))))) p q r e = tt

    row_fine : (i k p q r : ℕ) → i < 65536 → words_ok s (forest_uses (cells k p q r)) i (cells k p q r) ≡ true → RowFine (cells k p q r)
    unfolding word_ok
    row_fine i zero p q r l e = (zero_word p (search (and_left, and_right)), zero_word q (search (and_left, and_right)))
    row_fine i (suc zero) p q r l e = place_word p q (search and_left)
    row_fine i (suc (suc zero)) p q r l e = (zero_word p (search (and_left, and_right)), zero_word q (search (and_left, and_right)))
    row_fine i (suc (suc (suc zero))) p q r l e = (zero_word p (search (and_left, and_right)), zero_word q (search (and_left, and_right)))
    row_fine i (suc (suc (suc (suc zero)))) p q r l e = (label_word p (search (and_left, and_right)), omega (arith, ltb-true q i (search (and_left, and_right))))
    row_fine i (suc (suc (suc (suc (suc k))))) p q r l e = (zero_word p (search (and_left, and_right)), zero_word q (search (and_left, and_right)))

  statement_fine : (i k p q r : ℕ) → words_ok s (statement_uses s.script.procedure_row (cells k p q r)) i (cells k p q r) ≡ true
      → StatementFine s.script.procedures (statement_form (cells k p q r))
  unfolding word_ok
  statement_fine i zero p q r e = tt
  statement_fine i (suc zero) p q r e = tt
  statement_fine i (suc (suc zero)) p q r e = tt
  statement_fine i (suc (suc (suc zero))) p q r e = tt
  statement_fine i (suc (suc (suc (suc zero)))) p q r e = tt
  statement_fine i (suc (suc (suc (suc (suc zero))))) p q r e = tt
  statement_fine i (suc (suc (suc (suc (suc (suc zero)))))) p q r e = label_word p (search (and_left, and_right))
  statement_fine i (suc (suc (suc (suc (suc (suc (suc zero))))))) p q r e = tt
  statement_fine i (suc (suc (suc (suc (suc (suc (suc (suc zero)))))))) p q r e = tt
  statement_fine i (suc (suc (suc (suc (suc (suc (suc (suc (suc zero))))))))) p q r e = tt
  statement_fine i (suc (suc (suc (suc (suc (suc (suc (suc (suc (suc zero)))))))))) p q r e = tt
  statement_fine i (suc (suc (suc (suc (suc (suc (suc (suc (suc (suc (suc zero))))))))))) p q r e = tt
  statement_fine i (suc (suc (suc (suc (suc (suc (suc (suc (suc (suc (suc (suc zero)))))))))))) p q r e = tt
  statement_fine i (suc (suc (suc (suc (suc (suc (suc (suc (suc (suc (suc (suc (suc zero))))))))))))) p q r e = tt
  statement_fine i (suc (suc (suc (suc (suc (suc (suc (suc (suc (suc (suc (suc (suc (suc zero)))))))))))))) p q r e = search (and_left, and_right)
  statement_fine i (suc (suc (suc (suc (suc (suc (suc (suc (suc (suc (suc (suc (suc (suc (suc k))))))))))))))) p q r e = tt

-- in a sheet that passes Shape: rows of its tables by the tests, and what is not a row reads as zeros
module _ (s : List ℕ) (e : shapely s ≡ true) where
  queries_fine : (i : ℕ) → QueryFine (query_at (script_of s) i)
  unfolding sheet_of script_of
  queries_fine i = go (in_table (queries_of s) i) refl
    where
      go : (b : Bool) → in_table (queries_of s) i ≡ b → QueryFine (query_at (script_of s) i)
      go true h = let c = (script_of s).query_row i in
          query_fine (sheet_of s) (few_bytes s e) i c.kind c.p c.q c.r (queries_say (sheet_of s) i (queries_pass s e) h)
      go false h = rw h tt

  statements_fine : (i : ℕ) → StatementFine (script_of s).procedures (statement_at (script_of s) i)
  unfolding sheet_of script_of
  statements_fine i = go (in_table (statements_of s) i) refl
    where
      go : (b : Bool) → in_table (statements_of s) i ≡ b → StatementFine (script_of s).procedures (statement_at (script_of s) i)
      go true h = let c = (script_of s).statement_row i in
          statement_fine (sheet_of s) i c.kind c.p c.q c.r (statements_say (sheet_of s) i (statements_pass s e) h)
      go false h = rw h tt

  rows_fine : (i : ℕ) → RowFine ((grove_of s).row i)
  unfolding sheet_of grove_of
  rows_fine i = go (in_table (rows_of s) i) refl
    where
      go : (b : Bool) → in_table (rows_of s) i ≡ b → RowFine ((grove_of s).row i)
      go true h = let c = (grove_of s).row i in let l = table_high (rows_of s) i h in
          row_fine (sheet_of s) (few_bytes s e) i c.kind c.p c.q c.r (omega (arith, few_rows s e)) (and_right (in_table 4 c.kind) _ (rows_say (sheet_of s) i (rows_pass s e) h))
      go false h = rw h (omega arith, omega arith)

  pub calls_named : Named-procedures (script_of s)
  calls_named i c l h = rw h at (statements_fine i)

-- ---- a run's forest lies in the pool, and its numbers are words

tree_words : (byte : ℕ → ℕ) (c : Cells) (f : Forest) → RowFine c → Words f → TreeWords (tree_form byte c f)
tree_words byte c f h w = go c.kind
  where
    go : (k : ℕ) → TreeWords (tree_form byte (cells k c.p c.q c.r) f)
    go zero = (h.0, w)
    go (suc zero) = (h.0, h.1)
    go (suc (suc zero)) = tt
    go (suc (suc (suc zero))) = tt
    go (suc (suc (suc (suc k)))) = (h.0, w)

forest_words : (byte : ℕ → ℕ) (row : ℕ → Cells) → ((i : ℕ) → RowFine (row i)) → (k r : ℕ) → Words (forest byte row k r)
unfolding forest
forest_words byte row h zero r = tt
forest_words byte row h (suc k) zero = tt
forest_words byte row h (suc k) (suc r) = (
  tree_words byte (row (suc r)) (forest byte row k (row (suc r)).q) (h (suc r)) (forest_words byte row h k (row (suc r)).q),
  forest_words byte row h k (row (suc r)).r,
)

grove_words : (G : Grove) → ((i : ℕ) → RowFine (G.row i)) → Words (forest_of G)
unfolding forest_at
grove_words G h = forest_words G.byte G.row h G.root G.root

module _ (byte : ℕ → ℕ) where
  -- can be written out as rows and read back
  abbrev pub Writable : Forest → Type 0
  Writable f = InPool byte f × Words f

  abbrev WritableAll : Env → Type 0
  WritableAll [] = Unit {0}
  WritableAll (x ∷ γ) = Writable x × WritableAll γ

  writable_join : (f g : Forest) → Writable f → Writable g → Writable (f ⊕ g)
  unfolding ◌⊕◌
  writable_join nil g h k = k
  writable_join (cons t f) g h k = let r = writable_join f g (h.0.1, h.1.1) k in ((h.0.0, r.0), (h.1.0, r.1))

  writable_kept : {l : ℕ} {f g : Forest} → Kept l f g → Writable f → Writable g
  writable_kept k_none h = h
  writable_kept (k_tree m k) h = let r = writable_kept k (h.0.1, h.1.1) in ((h.0.0, r.0), (h.1.0, r.1))
  writable_kept (k_other d k) h = writable_kept k (h.0.1, h.1.1)

  writable_inside : {f g : Forest} → Inside f g → Writable f → Writable g
  writable_inside in_node h = (h.0.0, h.1.0.1)
  writable_inside (in_other d) h = (tt, tt)

  writable_at : (γ : Env) (v : ℕ) → WritableAll γ → Writable (get_or γ v nil)
  writable_at [] v h = (tt, tt)
  writable_at (x ∷ γ) zero h = h.0
  writable_at (x ∷ γ) (suc v) h = writable_at γ v h.1

  writable_also : (γ : Env) (x : Forest) → WritableAll γ → Writable x → WritableAll (γ ++ x ∷ [])
  writable_also [] x h k = (k, tt)
  writable_also (y ∷ γ) x h k = (h.0, writable_also γ x h.1 k)

  module _ (S : Script) (queries : (i : ℕ) → QueryFine (query_at S i)) (statements : (i : ℕ) → StatementFine S.procedures (statement_at S i)) where
    gives_writable : {γ : Env} {i : ℕ} {x : Forest} → Gives S byte γ i x → WritableAll γ → Writable x
    gives_writable g = elim g as (λ γ i x _. WritableAll γ → Writable x) (λ γ q f x _. WritableAll γ → Writable f → Writable x) [
      | g_empty e ↦ λ h. (tt, tt)
      | g_join {x = x} {y = y} e (_ → a) (_ → b) d ↦ λ h. rw d at (writable_join x y (a h) (b h))
      | g_tree {i = i} e (_ → a) ↦ λ h. let n = rw e at (queries i) in let r = a h in ((r.0, tt), ((n, r.1), tt))
      | g_text {i = i} e d ↦ λ h. let n = rw e at (queries i) in rw (← d) ((refl, tt), (n, tt))
      | g_bool e ↦ λ h. ((tt, tt), (tt, tt))
      | g_variable {γ = γ} {v = v} e d ↦ λ h. rw d at (writable_at γ v h)
      | g_let {γ = γ} {x = x} e (_ → a) (_ → b) ↦ λ h. b (writable_also γ x h (a h))
      | g_if_true e _ (_ → b) ↦ b
      | g_if_false e _ (_ → b) ↦ b
      | g_same e _ _ _ ↦ λ h. ((tt, tt), (tt, tt))
      | g_children {γ = γ} {v = v} e d ↦ λ h. writable_inside d (writable_at γ v h)
      | g_pick e (_ → a) d ↦ λ h. writable_kept d (a h)
      | g_for e (_ → a) (_ → b) ↦ λ h. b h (a h)
      | each_none ↦ λ h k. k
      | each_tree {γ = γ} {t = t} {x = x} {y = y} (_ → a) (_ → b) d ↦ λ h k. rw d at (writable_join x y (a (writable_also γ (only t) h ((k.0.0, tt), (k.1.0, tt)))) (b h (k.0.1, k.1.1)))
    ]

    all_writable : {γ : Env} {l : List ℕ} {m : List Forest} → GivesAll S byte γ l m → WritableAll γ → WritableAll m
    all_writable all_none h = tt
    all_writable (all_more a b) h = (gives_writable a h, all_writable b h)

    takes_writable : {γ : Env} {i : ℕ} {f g : Forest} → Takes S byte γ i f g → WritableAll γ → Writable f → Writable g
    takes_writable t = elim t as (λ γ i f g _. WritableAll γ → Writable f → Writable g) (λ γ p f g _. WritableAll γ → Writable f → Writable g) [
      | t_skip e ↦ λ h k. k
      | t_then e (_ → a) (_ → b) ↦ λ h k. b h (a h k)
      | t_if_true e _ (_ → b) ↦ b
      | t_if_false e _ (_ → b) ↦ b
      | t_insert e a ↦ λ h k. gives_writable a h
      | t_delete e ↦ λ h k. (tt, tt)
      | t_rename {i = i} e ↦ λ h k. let n = rw e at (statements i) in (k.0, ((n, k.1.0.1), tt))
      | t_let {γ = γ} {x = x} e a (_ → b) ↦ λ h k. b (writable_also γ x h (gives_writable a h)) k
      | t_snapshot {γ = γ} {f = f} e (_ → a) ↦ λ h k. a (writable_also γ f h k) k
      | t_test e m (_ → a) ↦ a
      | t_pass e m ↦ λ h k. k
      | t_children e (_ → a) ↦ λ h k. let r = a h (k.0.0, k.1.0.1) in ((r.0, tt), ((k.1.0.0, r.1), tt))
      | t_left {f = f} {x = x} e (_ → a) d ↦ λ h k. rw d at (writable_join x f (a h (tt, tt)) k)
      | t_right {f = f} {x = x} e (_ → a) d ↦ λ h k. rw d at (writable_join f x k (a h (tt, tt)))
      | t_iter e (_ → a) ↦ a
      | t_call e a (_ → b) ↦ λ h k. b (all_writable a h) k
      | iter_none ↦ λ h k. k
      | iter_tree {x = x} {y = y} (_ → a) (_ → b) d ↦ λ h k. rw d at (writable_join x y (a h ((k.0.0, tt), (k.1.0, tt))) (b h (k.0.1, k.1.1)))
    ]

pub loads_shapely : {s : List ℕ} → Loads s done → shapely s ≡ true
loads_shapely (sound e n u) = e

-- the forest that a run gives can be written and read back
pub given_writable : {s : List ℕ} → Loads s done → (f : Forest) → (run_settled s).verdict ≡ gives f → Writable (grove_of s).byte f
unfolding run_walk sheet_of
given_writable {s} loads f g =
    let p = loads_shapely loads in
    let t : Settles Unasked (run_walk (sheet_of s)) (sheet_of s).run_fuel (gives f) (run_settled s).left = rw g at (settle_settles (run_walk (sheet_of s)) (sheet_of s).run_fuel) in
    takes_writable (grove_of s).byte (script_of s) (queries_fine s p) (statements_fine s p)
    (derived_run (script_of s) (grove_of s).byte most_depth [] (script_of s).main (forest_of (grove_of s)) f _ _ t) tt
    (decoded_in_pool (grove_of s), grove_words (grove_of s) (rows_fine s p))
