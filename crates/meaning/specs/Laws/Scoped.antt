-- Shape's scope test in any number of steps: rows refer to lower rows, so a test passed in as many steps as a row's number is passed in any number of them.
-- The evaluators take as many steps as there are levels of depth left; a call's arguments are as many as its body has parameters.
use Prim.Native.Nat.{ℕ, zero, suc, ◌≤◌}
use Rattle.std.specs.Prelude.{◌≡◌, Bool, ◌&&◌, cond}
use Rattle.std.proofs.Math.Path.{refl, subst}
use Rattle.std.proofs.Common.{sym, ap, arith}
use Rattle.std.proofs.Math.Bool.{true, false}
use Rattle.std.proofs.lemmas.Bool.{false≢true}
use Rattle.std.proofs.Math.Dec.{eqb}
use mathlib.Core.List.{List, [], ◌∷◌, ◌++◌}
use borrow.Author.Tests.{ne_eqb}
use Rattle.meaning.specs.Tests.{in_table}
use Rattle.meaning.specs.Sheet.{Cells, Procedure, Script, Sheet, queries_of, statements_of, script_of, sheet_of}
use Rattle.meaning.specs.Kinds.{Query, Statement, query_form, statement_form, query_at, statement_at, present}
use Rattle.meaning.specs.Shape.{
  Scope,
  a_forest,
  a_tree,
  unused,
  query,
  argument,
  word_ok,
  words_ok,
  query_uses,
  statement_uses,
  has_place,
  query_scope,
  arguments_scope,
  statement_scope,
  parameters_scope,
  query_scoped,
  statement_scoped,
  scope_ok,
  shapely,
}
use Rattle.meaning.specs.Laws.Bools.{and_left, and_right, and_both, not_both}
use Rattle.meaning.specs.Laws.Tests.{every_at, table_low, table_high}
use Rattle.meaning.specs.Laws.Shaped.{cells, Part, part_of, queries_say, statements_say, body_says, roots, queries_pass, statements_pass, procedures_pass, roots_pass, scope_pass}

-- ---- the parts of a row are lower rows

abbrev LowerQuery : Query → ℕ → Type 0
LowerQuery Query.none i = Unit {0}
LowerQuery Query.empty i = Unit {0}
LowerQuery (Query.join p q) i = (Part i p) × (Part i q)
LowerQuery (Query.tree n q) i = Part i q
LowerQuery (Query.text p q) i = Unit {0}
LowerQuery (Query.bool b) i = Unit {0}
LowerQuery (Query.variable v) i = Unit {0}
LowerQuery (Query.letin p q) i = (Part i p) × (Part i q)
LowerQuery (Query.if p q r) i = (Part i p) × (Part i q) × (Part i r)
LowerQuery (Query.same p q) i = (Part i p) × (Part i q)
LowerQuery (Query.children v) i = Unit {0}
LowerQuery (Query.pick p l) i = Part i p
LowerQuery (Query.for p q) i = (Part i p) × (Part i q)

-- queries are rows of their table, of n rows
abbrev Asked : ℕ → ℕ → Type 0
Asked n q = in_table n q ≡ true

abbrev AllAsked : ℕ → List ℕ → Type 0
AllAsked n [] = Unit {0}
AllAsked n (q ∷ l) = (Asked n q) × (AllAsked n l)

abbrev LowerStatement : ℕ → Statement → ℕ → Type 0
LowerStatement n Statement.none i = Unit {0}
LowerStatement n Statement.skip i = Unit {0}
LowerStatement n (Statement.then p q) i = (Part i p) × (Part i q)
LowerStatement n (Statement.if p q r) i = (Asked n p) × (Part i q) × (Part i r)
LowerStatement n (Statement.insert p) i = Asked n p
LowerStatement n Statement.delete i = Unit {0}
LowerStatement n (Statement.rename l) i = Unit {0}
LowerStatement n (Statement.letin p q) i = (Asked n p) × (Part i q)
LowerStatement n (Statement.snapshot p) i = Part i p
LowerStatement n (Statement.test t r) i = Part i r
LowerStatement n (Statement.children p) i = Part i p
LowerStatement n (Statement.left p) i = Part i p
LowerStatement n (Statement.right p) i = Part i p
LowerStatement n (Statement.iter p) i = Part i p
LowerStatement n (Statement.call c l) i = AllAsked n l

zero_kind : (k : ℕ) → k ≡ 14 → k ≡ 0 → ⊥
zero_kind k e f = omega arith

module _ (s : Sheet) where
  query_lower : (i k p q r : ℕ) → words_ok s (query_uses (cells k p q r)) i (cells k p q r) ≡ true → LowerQuery (query_form (cells k p q r)) i
  unfolding word_ok
  query_lower i zero p q r e = tt
  query_lower i (suc zero) p q r e = tt
  query_lower i (suc (suc zero)) p q r e = (part_of i p (search (and_left, and_right)), part_of i q (search (and_left, and_right)))
  query_lower i (suc (suc (suc zero))) p q r e = part_of i q (search (and_left, and_right))
  query_lower i (suc (suc (suc (suc zero)))) p q r e = tt
  query_lower i (suc (suc (suc (suc (suc zero))))) p q r e = tt
  query_lower i (suc (suc (suc (suc (suc (suc zero)))))) p q r e = tt
  query_lower i (suc (suc (suc (suc (suc (suc (suc zero))))))) p q r e = tt
  query_lower i (suc (suc (suc (suc (suc (suc (suc (suc zero)))))))) p q r e = (part_of i p (search (and_left, and_right)), part_of i q (search (and_left, and_right)))
  query_lower i (suc (suc (suc (suc (suc (suc (suc (suc (suc zero))))))))) p q r e =
      (part_of i p (search (and_left, and_right)), part_of i q (search (and_left, and_right)), part_of i r (search (and_left, and_right)))
  query_lower i (suc (suc (suc (suc (suc (suc (suc (suc (suc (suc zero)))))))))) p q r e = (part_of i p (search (and_left, and_right)), part_of i q (search (and_left, and_right)))
  query_lower i (suc (suc (suc (suc (suc (suc (suc (suc (suc (suc (suc zero))))))))))) p q r e = tt
  query_lower i (suc (suc (suc (suc (suc (suc (suc (suc (suc (suc (suc (suc zero)))))))))))) p q r e = part_of i p (search (and_left, and_right))
  query_lower i (suc (suc (suc (suc (suc (suc (suc (suc (suc (suc (suc (suc (suc zero))))))))))))) p q r e = (part_of i p (search (and_left, and_right)), part_of i q (search (and_left, and_right)))
  query_lower i (suc (suc (suc (suc (suc (suc (suc (suc (suc (suc (suc (suc (suc (suc k)))))))))))))) p q r e = tt

  -- an argument is there exactly where the parameter is, and is a query
  same_zero : (i x w : ℕ) → word_ok s (argument x) i w ≡ true → eqb w 0 ≡ eqb x 0
  unfolding word_ok
  same_zero i x w h = go (eqb x 0) h
    where
      go : (b : Bool) → word_ok s (cond b unused query) i w ≡ true → eqb w 0 ≡ b
      go true h = h
      go false h = ne_eqb w 0 (λ e. omega (arith, table_low s.script.queries w h))

  argued : (i x w : ℕ) → word_ok s (argument x) i w ≡ true → eqb w 0 ≡ false → Asked s.script.queries w
  unfolding word_ok
  argued i x w h some = go (eqb x 0) h
    where
      go : (b : Bool) → word_ok s (cond b unused query) i w ≡ true → Asked s.script.queries w
      go true h = absurd (not_both h some)
      go false h = h

  all_asked : (q r : ℕ) → (eqb q 0 ≡ false → Asked s.script.queries q) → (eqb r 0 ≡ false → Asked s.script.queries r) → AllAsked s.script.queries (present q r)
  all_asked q r f g = go (eqb q 0) (eqb r 0) f g
    where
      go : (a b : Bool) → (a ≡ false → Asked s.script.queries q) → (b ≡ false → Asked s.script.queries r) → AllAsked s.script.queries (cond a [] (cond b (q ∷ []) (q ∷ r ∷ [])))
      go true b f g = tt
      go false true f g = (f refl, tt)
      go false false f g = (f refl, (g refl, tt))

  statement_lower : (i k p q r : ℕ) → words_ok s (statement_uses s.script.procedure_row (cells k p q r)) i (cells k p q r) ≡ true
      → LowerStatement s.script.queries (statement_form (cells k p q r)) i
  unfolding word_ok
  statement_lower i zero p q r e = tt
  statement_lower i (suc zero) p q r e = tt
  statement_lower i (suc (suc zero)) p q r e = (part_of i p (search (and_left, and_right)), part_of i q (search (and_left, and_right)))
  statement_lower i (suc (suc (suc zero))) p q r e = (search (and_left, and_right), part_of i q (search (and_left, and_right)), part_of i r (search (and_left, and_right)))
  statement_lower i (suc (suc (suc (suc zero)))) p q r e = search (and_left, and_right)
  statement_lower i (suc (suc (suc (suc (suc zero))))) p q r e = tt
  statement_lower i (suc (suc (suc (suc (suc (suc zero)))))) p q r e = tt
  statement_lower i (suc (suc (suc (suc (suc (suc (suc zero))))))) p q r e = (search (and_left, and_right), part_of i q (search (and_left, and_right)))
  statement_lower i (suc (suc (suc (suc (suc (suc (suc (suc zero)))))))) p q r e = part_of i p (search (and_left, and_right))
  statement_lower i (suc (suc (suc (suc (suc (suc (suc (suc (suc zero))))))))) p q r e = part_of i r (search (and_left, and_right))
  statement_lower i (suc (suc (suc (suc (suc (suc (suc (suc (suc (suc zero)))))))))) p q r e = part_of i p (search (and_left, and_right))
  statement_lower i (suc (suc (suc (suc (suc (suc (suc (suc (suc (suc (suc zero))))))))))) p q r e = part_of i p (search (and_left, and_right))
  statement_lower i (suc (suc (suc (suc (suc (suc (suc (suc (suc (suc (suc (suc zero)))))))))))) p q r e = part_of i p (search (and_left, and_right))
  statement_lower i (suc (suc (suc (suc (suc (suc (suc (suc (suc (suc (suc (suc (suc zero))))))))))))) p q r e = part_of i p (search (and_left, and_right))
  statement_lower i (suc (suc (suc (suc (suc (suc (suc (suc (suc (suc (suc (suc (suc (suc zero)))))))))))))) p q r e =
      all_asked q r (argued i (s.script.procedure_row p).first q (search (and_left, and_right))) (argued i (s.script.procedure_row p).second r (search (and_left, and_right)))
  statement_lower i (suc (suc (suc (suc (suc (suc (suc (suc (suc (suc (suc (suc (suc (suc (suc k))))))))))))))) p q r e = tt

  -- and so the arguments and the parameters make one scope
  parameters_same : (i x y q r : ℕ) → word_ok s (argument x) i q ≡ true → word_ok s (argument y) i r ≡ true → parameters_scope (present x y) ≡ parameters_scope (present q r)
  unfolding parameters_scope
  parameters_same i x y q r f g = go (eqb x 0) (eqb y 0) (eqb q 0) (eqb r 0) (same_zero i x q f) (same_zero i y r g)
    where
      go : (a b c d : Bool) → c ≡ a → d ≡ b → parameters_scope (cond a [] (cond b (x ∷ []) (x ∷ y ∷ []))) ≡ parameters_scope (cond c [] (cond d (q ∷ []) (q ∷ r ∷ [])))
      go true b true d e f = refl
      go false true false true e f = refl
      go false false false false e f = refl
      go true b false d e f = absurd (false≢true e)
      go false b true d e f = absurd (false≢true (sym e))
      go false true false false e f = absurd (false≢true f)
      go false false false true e f = absurd (false≢true (sym f))

-- ---- one test, then another

-- every part that passes the one passes the other
abbrev Passes : (Scope → ℕ → Bool) → (Scope → ℕ → Bool) → ℕ → Type 0
Passes go go' i = (p : ℕ) → Part i p → (Γ : Scope) → go Γ p ≡ true → go' Γ p ≡ true

two : {a b a' b' : Bool} → (a ≡ true → a' ≡ true) → (b ≡ true → b' ≡ true) → a && b ≡ true → a' && b' ≡ true
two {a} {b} {a'} {b'} f g h = and_both a' b' (f (and_left a b h)) (g (and_right a b h))

module _ (go go' : Scope → ℕ → Bool) (i : ℕ) (f : Passes go go' i) (Γ : Scope) where
  query_other : (form : Query) → LowerQuery form i → query_scope form go Γ ≡ true → query_scope form go' Γ ≡ true
  unfolding query_scope
  query_other Query.none l h = h
  query_other Query.empty l h = h
  query_other (Query.join p q) l h = two (f p l.0 Γ) (f q l.1 Γ) h
  query_other (Query.tree n q) l h = f q l Γ h
  query_other (Query.text p q) l h = h
  query_other (Query.bool b) l h = h
  query_other (Query.variable v) l h = h
  query_other (Query.letin p q) l h = two (two (f p l.0 Γ) (λ e. e)) (f q l.1 (Γ ++ a_forest ∷ [])) h
  query_other (Query.if p q r) l h = two (two (f p l.0 Γ) (f q l.1 Γ)) (f r l.2 Γ) h
  query_other (Query.same p q) l h = two (f p l.0 Γ) (f q l.1 Γ) h
  query_other (Query.children v) l h = h
  query_other (Query.pick p n) l h = f p l Γ h
  query_other (Query.for p q) l h = two (two (f p l.0 Γ) (λ e. e)) (f q l.1 (Γ ++ a_tree ∷ [])) h

  module _ (asks asks' : Scope → ℕ → Bool) (n : ℕ) (g : (p : ℕ) → Asked n p → (Γ : Scope) → asks Γ p ≡ true → asks' Γ p ≡ true) where
    arguments_other : (l : List ℕ) → AllAsked n l → arguments_scope (asks Γ) l ≡ true → arguments_scope (asks' Γ) l ≡ true
    unfolding arguments_scope
    arguments_other [] a h = refl
    arguments_other (q ∷ l) a h = two (g q a.0 Γ) (arguments_other l a.1) h

    statement_other : (form : Statement) → LowerStatement n form i → statement_scope form go asks Γ ≡ true → statement_scope form go' asks' Γ ≡ true
    unfolding statement_scope
    statement_other Statement.none l h = h
    statement_other Statement.skip l h = h
    statement_other (Statement.then p q) l h = two (f p l.0 Γ) (f q l.1 Γ) h
    statement_other (Statement.if p q r) l h = two (two (g p l.0 Γ) (f q l.1 Γ)) (f r l.2 Γ) h
    statement_other (Statement.insert p) l h = g p l Γ h
    statement_other Statement.delete l h = h
    statement_other (Statement.rename n) l h = h
    statement_other (Statement.letin p q) l h = two (two (g p l.0 Γ) (λ e. e)) (f q l.1 (Γ ++ a_forest ∷ [])) h
    statement_other (Statement.snapshot p) l h = two (λ (e : has_place Γ ≡ true). e) (f p l (Γ ++ a_forest ∷ [])) h
    statement_other (Statement.test t r) l h = f r l Γ h
    statement_other (Statement.children p) l h = f p l Γ h
    statement_other (Statement.left p) l h = f p l Γ h
    statement_other (Statement.right p) l h = f p l Γ h
    statement_other (Statement.iter p) l h = f p l Γ h
    statement_other (Statement.call c l) a h = arguments_other l a h

-- ---- in any number of steps

module _ (S : Script) (lower : (i : ℕ) → LowerQuery (query_at S i) i) where
  -- k steps, where n were enough
  query_steps : (k n i : ℕ) (Γ : Scope) → 1 ≤ i → i ≤ n → query_scoped S n Γ i ≡ true → query_scoped S k Γ i ≡ true
  unfolding query_scoped
  query_steps zero n i Γ o l h = refl
  query_steps (suc k) zero i Γ o l h = absurd (omega arith)
  query_steps (suc k) (suc n) i Γ o l h = query_other (query_scoped S n) (query_scoped S k) i (λ p b Δ e. query_steps k n p Δ b.low (omega (arith, b.lower)) e) Γ (query_at S i) (lower i) h

module _ (S : Script) (lower : (i : ℕ) → LowerStatement S.queries (statement_at S i) i) where
  statement_steps : (k n i : ℕ) (Γ : Scope) → 1 ≤ i → i ≤ n → statement_scoped S n Γ i ≡ true → statement_scoped S k Γ i ≡ true
  unfolding statement_scoped
  statement_steps zero n i Γ o l h = refl
  statement_steps (suc k) zero i Γ o l h = absurd (omega arith)
  statement_steps (suc k) (suc n) i Γ o l h = statement_other (statement_scoped S n) (statement_scoped S k) i (λ p b Δ e. statement_steps k n p Δ b.low (omega (arith, b.lower)) e) Γ
      (query_scoped S S.queries) (query_scoped S S.queries) S.queries (λ p b Δ e. e) (statement_at S i) (lower i) h

-- ---- a sheet that passes Shape

module _ (s : List ℕ) (e : shapely s ≡ true) where
  -- what is no row has no part
  queries_low : (i : ℕ) → LowerQuery (query_at (script_of s) i) i
  unfolding sheet_of script_of
  queries_low i = go (in_table (queries_of s) i) refl
    where
      go : (b : Bool) → in_table (queries_of s) i ≡ b → LowerQuery (query_at (script_of s) i) i
      go true h = let c = (script_of s).query_row i in
          query_lower (sheet_of s) i c.kind c.p c.q c.r (queries_say (sheet_of s) i (queries_pass s e) h)
      go false h = rw h tt

  words_pass : (i : ℕ) → in_table (script_of s).statements i ≡ true → words_ok (sheet_of s) (statement_uses (script_of s).procedure_row ((script_of s).statement_row i)) i
      ((script_of s).statement_row i) ≡ true
  unfolding sheet_of
  words_pass i h = statements_say (sheet_of s) i (statements_pass s e) h

  statements_low : (i : ℕ) → LowerStatement (script_of s).queries (statement_at (script_of s) i) i
  unfolding sheet_of script_of
  statements_low i = go (in_table (statements_of s) i) refl
    where
      go : (b : Bool) → in_table (statements_of s) i ≡ b → LowerStatement (script_of s).queries (statement_at (script_of s) i) i
      go true h = let c = (script_of s).statement_row i in
          statement_lower (sheet_of s) i c.kind c.p c.q c.r (words_pass i h)
      go false h = rw h tt

  -- a query row in scope is so at every depth
  pub query_in_scope : (d i : ℕ) (Γ : Scope) → in_table (script_of s).queries i ≡ true → query_scoped (script_of s) (script_of s).queries Γ i ≡ true → query_scoped (script_of s) d Γ i ≡ true
  query_in_scope d i Γ t h = query_steps (script_of s) queries_low d (script_of s).queries i Γ (table_low (script_of s).queries i t) (table_high (script_of s).queries i t) h

  -- and a statement row
  pub statement_in_scope : (d i : ℕ) (Γ : Scope) → in_table (script_of s).statements i ≡ true → statement_scoped (script_of s) (script_of s).statements Γ i ≡ true
      → statement_scoped (script_of s) d Γ i ≡ true
  statement_in_scope d i Γ t h = statement_steps (script_of s) statements_low d (script_of s).statements i Γ (table_low (script_of s).statements i t) (table_high (script_of s).statements i t) h

  main_row : in_table (script_of s).statements (script_of s).main ≡ true
  unfolding sheet_of
  main_row = (roots (sheet_of s) (roots_pass s e)).main

  -- main has no variables
  pub main_in_scope : (d : ℕ) → statement_scoped (script_of s) d [] (script_of s).main ≡ true
  unfolding scope_ok
  main_in_scope d = statement_in_scope d (script_of s).main [] main_row (and_left (statement_scoped (script_of s) (script_of s).statements [] (script_of s).main) _ (scope_pass s e))

  body_row : (c : ℕ) → in_table (script_of s).procedures c ≡ true → in_table (script_of s).statements ((script_of s).procedure_row c).body ≡ true
  unfolding sheet_of
  body_row c t = body_says (sheet_of s) c (procedures_pass s e) t

  -- a body sees its parameters only
  abbrev pub parameters : ℕ → Scope
  parameters c = parameters_scope (present ((script_of s).procedure_row c).first ((script_of s).procedure_row c).second)

  pub body_in_scope : (d c : ℕ) → in_table (script_of s).procedures c ≡ true → statement_scoped (script_of s) d (parameters c) ((script_of s).procedure_row c).body ≡ true
  unfolding scope_ok
  body_in_scope d c t = statement_in_scope d ((script_of s).procedure_row c).body (parameters c) (body_row c t)
      (every_at (λ i. statement_scoped (script_of s) (script_of s).statements (parameters i) ((script_of s).procedure_row i).body) (script_of s).procedures
      (and_right (statement_scoped (script_of s) (script_of s).statements [] (script_of s).main) _ (scope_pass s e)) c (table_low (script_of s).procedures c t)
      (table_high (script_of s).procedures c t))

  -- ---- a statement row's parts, with a level of depth less

  pub statement_parts : (d i : ℕ) (Γ : Scope) → statement_scoped (script_of s) (suc d) Γ i ≡ true
      → statement_scope (statement_at (script_of s) i) (statement_scoped (script_of s) d) (query_scoped (script_of s) d) Γ ≡ true
  unfolding statement_scoped
  statement_parts d i Γ h = statement_other (statement_scoped (script_of s) d) (statement_scoped (script_of s) d) i (λ p b Δ e. e) Γ (query_scoped (script_of s) (script_of s).queries)
      (query_scoped (script_of s) d) (script_of s).queries (λ p b Δ e. query_in_scope d p Δ b e) (statement_at (script_of s) i) (statements_low i) h

  -- a call's body, with the arguments alone
  pub call_in_scope : (d i p q r : ℕ) → (script_of s).statement_row i ≡ cells 14 p q r → statement_scoped (script_of s) d (parameters_scope (present q r)) ((script_of s).procedure_row p).body ≡ true
  unfolding sheet_of script_of word_ok
  call_in_scope d i p q r is = go (in_table (statements_of s) i) refl
    where
      go : (b : Bool) → in_table (statements_of s) i ≡ b → statement_scoped (script_of s) d (parameters_scope (present q r)) ((script_of s).procedure_row p).body ≡ true
      go true h =
          let w : words_ok (sheet_of s) (statement_uses (script_of s).procedure_row (cells 14 p q r)) i (cells 14 p q r) ≡ true =
          subst (λ (c : Cells). words_ok (sheet_of s) (statement_uses (script_of s).procedure_row c) i c ≡ true) is (words_pass i h) in
          let one : Procedure = (script_of s).procedure_row p in
          let same = parameters_same (sheet_of s) i one.first one.second q r (search (and_left, and_right)) (search (and_left, and_right)) in
          subst (λ (Γ : Scope). statement_scoped (script_of s) d Γ one.body ≡ true) same (body_in_scope d p (search (and_left, and_right)))
      go false h = absurd (zero_kind ((script_of s).statement_row i).kind (ap (λ (c : Cells). c.kind) is) (rw h))
