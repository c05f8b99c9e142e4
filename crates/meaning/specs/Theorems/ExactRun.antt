-- The run's walk and figures 3 and 12 say the same: what the walk gives is derived within its levels, by the closure of `All`; what is derived is given for its charge (`Charges`),
-- with levels and units enough, and else Fuel or Depth ends it, by the laws of `Priced`. So the figures derive one value at most.
use Prim.Native.Nat.{ℕ, zero, suc, ◌+◌, ◌≤◌}
use Rattle.std.specs.Prelude.{◌≡◌, true, false, ◌↔◌}
use Rattle.std.proofs.Math.Path.{refl}
use Rattle.std.proofs.Common.{sym, ap, arith}
use mathlib.Core.List.{List, [], ◌∷◌, ◌++◌}
use Rattle.meaning.specs.Limits.{most_depth}
use Rattle.meaning.specs.Sheet.{Script, Sheet}
use Rattle.meaning.specs.Kinds.{Query, Test, Statement, query_at, statement_at}
use Rattle.meaning.specs.Forest.{Tree, Forest, nil, cons, only, ◌⊕◌, count, forest_of}
use Rattle.meaning.specs.Walk.{Place, of_query, of_statement, ret, pay, ◌>>=◌, Verdict, gives, Quiet, Unasked, Settles}
use Rattle.meaning.specs.Run.{Env, Seen, seen, Fate, misfit, matched, passed, tested, kept, each, branch, same_texts, query_of}
use Rattle.meaning.specs.Run.{insert_of, rename_of, test_of, children_of, arguments, statement_of, query, statement, run_walk}
use Rattle.meaning.specs.Figures.{Gives, g_empty, g_join, g_tree, g_text, g_bool, g_variable, g_let, g_if_true, g_if_false}
use Rattle.meaning.specs.Figures.{g_same, g_children, g_pick, g_for, GivesEach, each_none, each_tree, GivesAll, all_none, all_more}
use Rattle.meaning.specs.Figures.{Takes, t_skip, t_then, t_if_true, t_if_false, t_insert, t_delete, t_rename, t_let, t_snapshot}
use Rattle.meaning.specs.Figures.{t_test, t_pass, t_children, t_left, t_right, t_iter, t_call, TakesEach, iter_none, iter_tree}
use Rattle.meaning.specs.Charges.{gives_charge, each_charge, all_charge, takes_charge, iter_charge, gives_levels, each_levels, all_levels, takes_levels, iter_levels}
use Rattle.meaning.specs.Laws.Figures.{matches_tested, tested_matches, differs_tested, tested_differs, inside_is, inside_one, kept_is, kept_one, same_is, same_one}
use Rattle.meaning.specs.Laws.Walk.{All, all_given, all_then, all_map, all_pay}
use Rattle.meaning.specs.Laws.Sure.{Spent, Found, Priced, priced_ret, priced_tick, priced_pay, priced_row, priced_as, priced_then, sure_at, sure_ended, sure_found, sure_gives, sure_one}

abbrev Ever : {A : Type 0} → (A → Type 0) → Quiet A → Type 0
Ever P w = All Unasked P w

-- ---- one law for iter and for

module _ (R : Forest → Forest → Type 0) (body : Forest → Quiet Forest) (none : R nil nil)
    (more : (t : Tree) (f : Forest) → Ever (λ x. (y : Forest) → R f y → R (cons t f) (x ⊕ y)) (body (only t))) where
  each_all : (f : Forest) → Ever (R f) (each body f)
  unfolding each All
  each_all nil = none
  each_all (cons t f) = all_then Unasked _ _ (body (only t)) _ (more t f) λ x a.
      all_pay Unasked _ (count x) (each body f >>= λ y. ret (x ⊕ y)) (all_then Unasked _ _ (each body f) _ (each_all f) λ y b. a y b)

-- no test matches, or passes by, what is not one tree
nothing_misfit : (t : Test) → tested t Seen.nothing ≡ misfit
unfolding tested
nothing_misfit Test.text = refl
nothing_misfit Test.any = refl
nothing_misfit (Test.label l) = refl

many_misfit : (t : Test) → tested t Seen.many ≡ misfit
unfolding tested
many_misfit Test.text = refl
many_misfit Test.any = refl
many_misfit (Test.label l) = refl

-- one law for the two ifs
branch_all : (P : Forest → Type 0) (at : Place) (x : Forest) (yes_arm no_arm : Quiet Forest)
    → (x ≡ only (Tree.bool true) → Ever P yes_arm) → (x ≡ only (Tree.bool false) → Ever P no_arm) → Ever P (branch at (seen x) yes_arm no_arm)
unfolding branch seen All
branch_all P at nil v w a b = tt
branch_all P at (cons (Tree.text t) nil) v w a b = tt
branch_all P at (cons (Tree.bool true) nil) v w a b = a refl
branch_all P at (cons (Tree.bool false) nil) v w a b = b refl
branch_all P at (cons (Tree.node n f) nil) v w a b = tt
branch_all P at (cons t (cons u f)) v w a b = tt

module _ (S : Script) (byte : ℕ → ℕ) where
  -- ---- what the walk gives is derived, within its levels

  -- derived with at most d levels
  abbrev Given : ℕ → Env → ℕ → Forest → Type 0
  Given d γ i x = (g : Gives S byte γ i x) × (gives_levels g ≤ d)

  abbrev GivenEach : ℕ → Env → ℕ → Forest → Forest → Type 0
  GivenEach d γ q f x = (g : GivesEach S byte γ q f x) × (each_levels g ≤ d)

  abbrev GivenAll : ℕ → Env → List ℕ → List Forest → Type 0
  GivenAll d γ l m = (g : GivesAll S byte γ l m) × (all_levels g ≤ d)

  abbrev pub Taken : ℕ → Env → ℕ → Forest → Forest → Type 0
  Taken d γ i f g = (t : Takes S byte γ i f g) × (takes_levels t ≤ d)

  abbrev TakenEach : ℕ → Env → ℕ → Forest → Forest → Type 0
  TakenEach d γ p f g = (t : TakesEach S byte γ p f g) × (iter_levels t ≤ d)

  -- queries, given what the rows below give
  module _ (d : ℕ) (go : Env → ℕ → Quiet Forest) (ih : (γ : Env) (p : ℕ) → Ever (Given d γ p) (go γ p)) (γ : Env) where
    same_all : (i p q : ℕ) → query_at S i ≡ Query.same p q → (x y : Forest) → Given d γ p x → Given d γ q y → Ever (Given (suc d) γ i) (same_texts (of_query i) (seen x) (seen y))
    unfolding same_texts seen All pay gives_levels
    same_all i p q e nil y a b = tt
    same_all i p q e (cons (Tree.bool c) nil) y a b = tt
    same_all i p q e (cons (Tree.node n f) nil) y a b = tt
    same_all i p q e (cons t (cons u f)) y a b = tt
    same_all i p q e (cons (Tree.text w) nil) nil a b = tt
    same_all i p q e (cons (Tree.text w) nil) (cons (Tree.bool c) nil) a b = tt
    same_all i p q e (cons (Tree.text w) nil) (cons (Tree.node n f) nil) a b = tt
    same_all i p q e (cons (Tree.text w) nil) (cons t (cons u f)) a b = tt
    same_all i p q e (cons (Tree.text w) nil) (cons (Tree.text v) nil) a b = (g_same e a.0 b.0 (same_is w v), omega (arith, a.1, b.1))

    for_all : (q : ℕ) (f : Forest) → Ever (GivenEach d γ q f) (each (λ t. go (γ ++ t ∷ []) q) f)
    unfolding each_levels
    for_all q = each_all (GivenEach d γ q) _ (each_none, omega arith)
        λ t f. all_map Unasked _ _ (go (γ ++ only t ∷ []) q) (ih (γ ++ only t ∷ []) q) λ x a y b. (each_tree a.0 b.0 refl, omega (arith, a.1, b.1))

    query_all : (i : ℕ) (c : Query) → query_at S i ≡ c → Ever (Given (suc d) γ i) (query_of byte c i go γ)
    unfolding query_of All pay gives_levels
    query_all i Query.none e = tt
    query_all i Query.empty e = (g_empty e, omega arith)
    query_all i (Query.join p q) e = all_then Unasked _ _ (go γ p) _ (ih γ p) λ x a. all_then Unasked _ _ (go γ q) _ (ih γ q) λ y b.
        all_pay Unasked _ (count x) (ret (x ⊕ y)) (g_join e a.0 b.0 refl, omega (arith, a.1, b.1))
    query_all i (Query.tree n q) e = all_then Unasked _ _ (go γ q) _ (ih γ q) λ x a. (g_tree e a.0, omega (arith, a.1))
    query_all i (Query.text p q) e = (g_text e refl, omega arith)
    query_all i (Query.bool b) e = (g_bool e, omega arith)
    query_all i (Query.variable v) e = (g_variable e refl, omega arith)
    query_all i (Query.letin p q) e = all_then Unasked _ _ (go γ p) _ (ih γ p) λ x a.
        all_map Unasked _ _ (go (γ ++ x ∷ []) q) (ih (γ ++ x ∷ []) q) λ y b. (g_let e a.0 b.0, omega (arith, a.1, b.1))
    query_all i (Query.if p q r) e = all_then Unasked _ _ (go γ p) _ (ih γ p) λ x a. branch_all _ (of_query i) x (go γ q) (go γ r)
        (λ h. let c : Given d γ p (only (Tree.bool true)) = rw h at a in all_map Unasked _ _ (go γ q) (ih γ q) λ y b. (g_if_true e c.0 b.0, omega (arith, c.1, b.1)))
        (λ h. let c : Given d γ p (only (Tree.bool false)) = rw h at a in all_map Unasked _ _ (go γ r) (ih γ r) λ y b. (g_if_false e c.0 b.0, omega (arith, c.1, b.1)))
    query_all i (Query.same p q) e = all_then Unasked _ _ (go γ p) _ (ih γ p) λ x a. all_then Unasked _ _ (go γ q) _ (ih γ q) λ y b. same_all i p q e x y a b
    query_all i (Query.children v) e = (g_children e (inside_is _), omega arith)
    query_all i (Query.pick p l) e = all_then Unasked _ _ (go γ p) _ (ih γ p) λ x a.
        all_pay Unasked _ (count (kept l x)) (ret (kept l x)) (g_pick e a.0 (kept_is l x), omega (arith, a.1))
    query_all i (Query.for p q) e = all_then Unasked _ _ (go γ p) _ (ih γ p) λ x a.
        all_map Unasked _ _ (each (λ t. go (γ ++ t ∷ []) q) x) (for_all q x) λ y b. (g_for e a.0 b.0, omega (arith, a.1, b.1))

    arguments_all : (l : List ℕ) → Ever (GivenAll d γ l) (arguments (go γ) l)
    unfolding arguments All all_levels
    arguments_all [] = (all_none, omega arith)
    arguments_all (q ∷ l) = all_then Unasked _ _ (go γ q) _ (ih γ q) λ x a.
        all_then Unasked _ _ (arguments (go γ) l) _ (arguments_all l) λ y b. (all_more a.0 b.0, omega (arith, a.1, b.1))

  asks_all : (d : ℕ) (γ : Env) (i : ℕ) → Ever (Given d γ i) (query S byte d γ i)
  unfolding query All
  asks_all zero γ i = tt
  asks_all (suc d) γ i = query_all d (query S byte d) (asks_all d) γ i (query_at S i) refl

  -- statements
  module _ (d : ℕ) (go : Env → ℕ → Forest → Quiet Forest) (ih : (γ : Env) (p : ℕ) (f : Forest) → Ever (Taken d γ p f) (go γ p f))
      (asks : Env → ℕ → Quiet Forest) (ah : (γ : Env) (p : ℕ) → Ever (Given d γ p) (asks γ p)) (γ : Env) (i : ℕ) where
    insert_all : (p : ℕ) → statement_at S i ≡ Statement.insert p → (f : Forest) → Ever (Taken (suc d) γ i f) (insert_of (of_statement i) f (asks γ p))
    unfolding insert_of All takes_levels
    insert_all p e nil = all_map Unasked _ _ (asks γ p) (ah γ p) λ x a. (t_insert e a.0, omega (arith, a.1))
    insert_all p e (cons t f) = tt

    rename_all : (l : ℕ) → statement_at S i ≡ Statement.rename l → (f : Forest) → Ever (Taken (suc d) γ i f) (rename_of (of_statement i) l (seen f))
    unfolding rename_of seen All pay takes_levels
    rename_all l e nil = tt
    rename_all l e (cons (Tree.text w) nil) = tt
    rename_all l e (cons (Tree.bool b) nil) = tt
    rename_all l e (cons (Tree.node n f) nil) = (t_rename e, omega arith)
    rename_all l e (cons t (cons u f)) = tt

    fate_all : (t : Test) (r : ℕ) → statement_at S i ≡ Statement.test t r → (u : Tree) (k : Fate) → tested t (seen (only u)) ≡ k
        → Ever (Taken (suc d) γ i (only u)) (test_of (of_statement i) k (only u) (go γ r))
    unfolding test_of All takes_levels
    fate_all t r e u misfit h = tt
    fate_all t r e u matched h = all_map Unasked _ _ (go γ r (only u)) (ih γ r (only u)) λ x a. (t_test e (tested_matches t u h) a.0, omega (arith, a.1))
    fate_all t r e u passed h = (t_pass e (tested_differs t u h), omega arith)

    test_all : (t : Test) (r : ℕ) → statement_at S i ≡ Statement.test t r → (f : Forest) → Ever (Taken (suc d) γ i f) (test_of (of_statement i) (tested t (seen f)) f (go γ r))
    unfolding test_of seen All
    test_all t r e nil = rw (nothing_misfit t) tt
    test_all t r e (cons u nil) = fate_all t r e u _ refl
    test_all t r e (cons u (cons v f)) = rw (many_misfit t) tt

    children_all : (p : ℕ) → statement_at S i ≡ Statement.children p → (f : Forest) → Ever (Taken (suc d) γ i f) (children_of (of_statement i) (seen f) (go γ p))
    unfolding children_of seen All pay takes_levels
    children_all p e nil = tt
    children_all p e (cons (Tree.text w) nil) = tt
    children_all p e (cons (Tree.bool b) nil) = tt
    children_all p e (cons (Tree.node n f) nil) = all_then Unasked _ _ (go γ p f) _ (ih γ p f) λ x a. (t_children e a.0, omega (arith, a.1))
    children_all p e (cons t (cons u f)) = tt

    iter_all : (p : ℕ) (f : Forest) → Ever (TakenEach d γ p f) (each (go γ p) f)
    unfolding iter_levels
    iter_all p = each_all (TakenEach d γ p) (go γ p) (iter_none, omega arith)
        λ t f. all_map Unasked _ _ (go γ p (only t)) (ih γ p (only t)) λ x a y b. (iter_tree a.0 b.0 refl, omega (arith, a.1, b.1))

    statement_all : (f : Forest) (c : Statement) → statement_at S i ≡ c → Ever (Taken (suc d) γ i f) (statement_of c i go asks (λ c. (S.procedure_row c).body) γ f)
    unfolding statement_of All takes_levels
    statement_all f Statement.none e = tt
    statement_all f Statement.skip e = (t_skip e, omega arith)
    statement_all f (Statement.then p q) e = all_then Unasked _ _ (go γ p f) _ (ih γ p f) λ x a.
        all_map Unasked _ _ (go γ q x) (ih γ q x) λ y b. (t_then e a.0 b.0, omega (arith, a.1, b.1))
    statement_all f (Statement.if p q r) e = all_then Unasked _ _ (asks γ p) _ (ah γ p) λ x a. branch_all _ (of_statement i) x (go γ q f) (go γ r f)
        (λ h. let c : Given d γ p (only (Tree.bool true)) = rw h at a in all_map Unasked _ _ (go γ q f) (ih γ q f) λ y b. (t_if_true e c.0 b.0, omega (arith, c.1, b.1)))
        (λ h. let c : Given d γ p (only (Tree.bool false)) = rw h at a in all_map Unasked _ _ (go γ r f) (ih γ r f) λ y b. (t_if_false e c.0 b.0, omega (arith, c.1, b.1)))
    statement_all f (Statement.insert p) e = insert_all p e f
    statement_all f Statement.delete e = (t_delete e, omega arith)
    statement_all f (Statement.rename l) e = rename_all l e f
    statement_all f (Statement.letin p q) e = all_then Unasked _ _ (asks γ p) _ (ah γ p) λ x a.
        all_map Unasked _ _ (go (γ ++ x ∷ []) q f) (ih (γ ++ x ∷ []) q f) λ y b. (t_let e a.0 b.0, omega (arith, a.1, b.1))
    statement_all f (Statement.snapshot p) e = all_map Unasked _ _ (go (γ ++ f ∷ []) p f) (ih (γ ++ f ∷ []) p f) λ x a. (t_snapshot e a.0, omega (arith, a.1))
    statement_all f (Statement.test t r) e = test_all t r e f
    statement_all f (Statement.children p) e = children_all p e f
    statement_all f (Statement.left p) e = all_then Unasked _ _ (go γ p nil) _ (ih γ p nil) λ x a. all_pay Unasked _ (count x) (ret (x ⊕ f)) (t_left e a.0 refl, omega (arith, a.1))
    statement_all f (Statement.right p) e = all_then Unasked _ _ (go γ p nil) _ (ih γ p nil) λ x a. all_pay Unasked _ (count f) (ret (f ⊕ x)) (t_right e a.0 refl, omega (arith, a.1))
    statement_all f (Statement.iter p) e = all_map Unasked _ _ (each (go γ p) f) (iter_all p f) λ x a. (t_iter e a.0, omega (arith, a.1))
    statement_all f (Statement.call c l) e = all_then Unasked _ _ (arguments (asks γ) l) _ (arguments_all d asks ah γ l) λ m a.
        all_map Unasked _ _ (go m (S.procedure_row c).body f) (ih m (S.procedure_row c).body f) λ x b. (t_call e a.0 b.0, omega (arith, a.1, b.1))

  goes_all : (d : ℕ) (γ : Env) (i : ℕ) (f : Forest) → Ever (Taken d γ i f) (statement S byte d γ i f)
  unfolding statement All
  goes_all zero γ i f = tt
  goes_all (suc d) γ i f = statement_all d (statement S byte d) (goes_all d) (query S byte d) (asks_all d) γ i f (statement_at S i) refl

  -- what the walk gives, the figures derive
  pub derived_query : (d : ℕ) (γ : Env) (i : ℕ) (x : Forest) (n m : ℕ) → Settles Unasked (query S byte d γ i) n (gives x) m → Gives S byte γ i x
  derived_query d γ i x n m s = (all_given Unasked (Given d γ i) s (asks_all d γ i)).0

  pub derived_run : (d : ℕ) (γ : Env) (i : ℕ) (f g : Forest) (n m : ℕ) → Settles Unasked (statement S byte d γ i f) n (gives g) m → Takes S byte γ i f g
  derived_run d γ i f g n m s = (all_given Unasked (Taken d γ i f) s (goes_all d γ i f)).0

  -- ---- what is derived is given, for its charge

  abbrev Prices : {A : Type 0} → A → ℕ → ℕ → (ℕ → Quiet A) → Type 0
  Prices x deep u w = Priced (λ (q : ⊥). ⊥) x deep u w

  query_row_lem : (γ : Env) (i : ℕ) (c : Query) {x : Forest} {deep deep' u v : ℕ} → query_at S i ≡ c → Prices x deep u (λ d. query_of byte c i (query S byte d) γ)
      → suc deep ≤ deep' → suc u ≡ v → Prices x deep' v (λ d. query S byte d γ i)
  unfolding query
  query_row_lem γ i c e s l k = priced_as l k (priced_row _ refl (λ d. rw e refl) s)

  mutual
    unfolding query_of branch same_texts seen each gives_charge each_charge gives_levels each_levels

    gives_priced : {γ : Env} {i : ℕ} {x : Forest} (g : Gives S byte γ i x) → Prices x (gives_levels g) (gives_charge g) (λ d. query S byte d γ i)
    gives_priced (g_empty e) = query_row_lem _ _ _ e (priced_ret refl) (omega arith) (omega arith)
    gives_priced (g_join e a b h) = query_row_lem _ _ _ e (priced_then _ (gives_priced a) (priced_then _ (gives_priced b) (priced_pay _ (priced_ret h)))) (omega arith) (omega arith)
    gives_priced (g_tree e a) = query_row_lem _ _ _ e (priced_then _ (gives_priced a) (priced_pay _ (priced_ret refl))) (omega arith) (omega arith)
    gives_priced (g_text e h) = query_row_lem _ _ _ e (priced_pay _ (priced_ret (ap (λ w. only (Tree.text w)) h))) (omega arith) (omega arith)
    gives_priced (g_bool e) = query_row_lem _ _ _ e (priced_pay _ (priced_ret refl)) (omega arith) (omega arith)
    gives_priced (g_variable e h) = query_row_lem _ _ _ e (priced_ret h) (omega arith) (omega arith)
    gives_priced (g_let e a b) = query_row_lem _ _ _ e (priced_then _ (gives_priced a) (gives_priced b)) (omega arith) (omega arith)
    gives_priced (g_if_true e a b) = query_row_lem _ _ _ e (priced_then _ (gives_priced a) (gives_priced b)) (omega arith) (omega arith)
    gives_priced (g_if_false e a b) = query_row_lem _ _ _ e (priced_then _ (gives_priced a) (gives_priced b)) (omega arith) (omega arith)
    gives_priced (g_same e a b h) = query_row_lem _ _ _ e (priced_then _ (gives_priced a) (priced_then _ (gives_priced b) (priced_pay _ (priced_ret (ap (λ b. only (Tree.bool b)) (same_one h))))))
        (omega arith) (omega arith)
    gives_priced (g_children e h) = query_row_lem _ _ _ e (priced_ret (inside_one h)) (omega arith) (omega arith)
    gives_priced (g_pick e a h) = query_row_lem _ _ _ e (priced_then _ (gives_priced a) (priced_pay _ (priced_ret (kept_one h)))) (omega arith) (omega (arith, ap count (kept_one h)))
    gives_priced (g_for e a b) = query_row_lem _ _ _ e (priced_then _ (gives_priced a) (each_priced b)) (omega arith) (omega arith)

    each_priced : {γ : Env} {q : ℕ} {f x : Forest} (g : GivesEach S byte γ q f x) → Prices x (each_levels g) (each_charge g) (λ d. each (λ t. query S byte d (γ ++ t ∷ []) q) f)
    each_priced each_none = priced_ret refl
    each_priced (each_tree a b h) = priced_as (omega arith) (omega arith) (priced_tick (priced_then _ (gives_priced a) (priced_pay _ (priced_then _ (each_priced b) (priced_ret h)))))

  arguments_priced : {γ : Env} {l : List ℕ} {m : List Forest} (g : GivesAll S byte γ l m) → Prices m (all_levels g) (all_charge g) (λ d. arguments (query S byte d γ) l)
  unfolding arguments all_charge all_levels
  arguments_priced all_none = priced_ret refl
  arguments_priced (all_more a b) = priced_as (omega arith) (omega arith) (priced_then _ (gives_priced a) (priced_then _ (arguments_priced b) (priced_ret refl)))

  statement_row_lem : (γ : Env) (i : ℕ) (f : Forest) (c : Statement) {g : Forest} {deep deep' u v : ℕ} → statement_at S i ≡ c
      → Prices g deep u (λ d. statement_of c i (statement S byte d) (query S byte d) (λ c. (S.procedure_row c).body) γ f)
      → suc deep ≤ deep' → suc u ≡ v → Prices g deep' v (λ d. statement S byte d γ i f)
  unfolding statement
  statement_row_lem γ i f c e s l k = priced_as l k (priced_row _ refl (λ d. rw e refl) s)

  mutual
    unfolding statement_of branch seen insert_of rename_of test_of children_of each takes_charge iter_charge takes_levels iter_levels

    takes_priced : {γ : Env} {i : ℕ} {f g : Forest} (t : Takes S byte γ i f g) → Prices g (takes_levels t) (takes_charge t) (λ d. statement S byte d γ i f)
    takes_priced (t_skip e) = statement_row_lem _ _ _ _ e (priced_ret refl) (omega arith) (omega arith)
    takes_priced (t_then e a b) = statement_row_lem _ _ _ _ e (priced_then _ (takes_priced a) (takes_priced b)) (omega arith) (omega arith)
    takes_priced (t_if_true e a b) = statement_row_lem _ _ _ _ e (priced_then _ (gives_priced a) (takes_priced b)) (omega arith) (omega arith)
    takes_priced (t_if_false e a b) = statement_row_lem _ _ _ _ e (priced_then _ (gives_priced a) (takes_priced b)) (omega arith) (omega arith)
    takes_priced (t_insert e a) = statement_row_lem _ _ _ _ e (gives_priced a) (omega arith) (omega arith)
    takes_priced (t_delete e) = statement_row_lem _ _ _ _ e (priced_ret refl) (omega arith) (omega arith)
    takes_priced (t_rename e) = statement_row_lem _ _ _ _ e (priced_pay _ (priced_ret refl)) (omega arith) (omega arith)
    takes_priced (t_let e a b) = statement_row_lem _ _ _ _ e (priced_then _ (gives_priced a) (takes_priced b)) (omega arith) (omega arith)
    takes_priced (t_snapshot e a) = statement_row_lem _ _ _ _ e (takes_priced a) (omega arith) (omega arith)
    takes_priced (t_test e h a) = statement_row_lem _ _ _ _ {deep = takes_levels a} {u = takes_charge a} e (rw (matches_tested h) (takes_priced a)) (omega arith) (omega arith)
    takes_priced (t_pass {t = t} {u = u} e h) = statement_row_lem _ _ _ _ {deep = 0} {u = 0} e (rw (differs_tested t u h) (priced_ret refl)) (omega arith) (omega arith)
    takes_priced (t_children e a) = statement_row_lem _ _ _ _ e (priced_then _ (takes_priced a) (priced_pay _ (priced_ret refl))) (omega arith) (omega arith)
    takes_priced (t_left e a h) = statement_row_lem _ _ _ _ e (priced_then _ (takes_priced a) (priced_pay _ (priced_ret h))) (omega arith) (omega arith)
    takes_priced (t_right e a h) = statement_row_lem _ _ _ _ e (priced_then _ (takes_priced a) (priced_pay _ (priced_ret h))) (omega arith) (omega arith)
    takes_priced (t_iter e a) = statement_row_lem _ _ _ _ e (iter_priced a) (omega arith) (omega arith)
    takes_priced (t_call e a b) = statement_row_lem _ _ _ _ e (priced_then _ (arguments_priced a) (takes_priced b)) (omega arith) (omega arith)

    iter_priced : {γ : Env} {p : ℕ} {f g : Forest} (t : TakesEach S byte γ p f g) → Prices g (iter_levels t) (iter_charge t) (λ d. each (statement S byte d γ p) f)
    iter_priced iter_none = priced_ret refl
    iter_priced (iter_tree a b h) = priced_as (omega arith) (omega arith) (priced_tick (priced_then _ (takes_priced a) (priced_pay _ (priced_then _ (iter_priced b) (priced_ret h)))))

  -- ---- the theorems

  -- what is derived, the walk gives, unless Fuel or Depth ends it
  pub given_or_deep : {γ : Env} {i : ℕ} {x : Forest} → Gives S byte γ i x → (d n m : ℕ) (v : Verdict Forest) → Settles Unasked (query S byte d γ i) n v m → Found (Spent ⊥ (Unit {0})) x v
  given_or_deep g = sure_found ⊥ Unasked (λ q h a j. absurd q) (sure_at (gives_priced g))

  pub taken_or_deep : {γ : Env} {i : ℕ} {f g : Forest} → Takes S byte γ i f g → (d n m : ℕ) (v : Verdict Forest) → Settles Unasked (statement S byte d γ i f) n v m → Found (Spent ⊥ (Unit {0})) g v
  taken_or_deep t = sure_found ⊥ Unasked (λ q h a j. absurd q) (sure_at (takes_priced t))

  -- and gives it for its charge, with levels and units enough
  pub given_enough : {γ : Env} {i : ℕ} {x : Forest} (g : Gives S byte γ i x) (d n : ℕ) → gives_levels g ≤ d → Settles Unasked (query S byte d γ i) (gives_charge g + n) (gives x) n
  given_enough g = sure_gives (sure_at (gives_priced g))

  pub taken_enough : {γ : Env} {i : ℕ} {f g : Forest} (t : Takes S byte γ i f g) (d n : ℕ) → takes_levels t ≤ d → Settles Unasked (statement S byte d γ i f) (takes_charge t + n) (gives g) n
  taken_enough t = sure_gives (sure_at (takes_priced t))

  -- so the walk gives g exactly if the figures derive it within the levels, and it leaves what the charge leaves
  pub run_exactly : (d : ℕ) (γ : Env) (i : ℕ) (f g : Forest) (n m : ℕ)
      → Settles Unasked (statement S byte d γ i f) n (gives g) m ↔ ((t : Takes S byte γ i f g) × (takes_levels t ≤ d) × (takes_charge t + m ≡ n))
  run_exactly d γ i f g n m = (to, from)
    where
      to : Settles Unasked (statement S byte d γ i f) n (gives g) m → (t : Takes S byte γ i f g) × (takes_levels t ≤ d) × (takes_charge t + m ≡ n)
      to s = let t = all_given Unasked (Taken d γ i f) s (goes_all d γ i f) in
          let e = sure_ended ⊥ Unasked (λ q h a j. absurd q) (sure_at (takes_priced t.0)) d n m (gives g) s in
          (t.0, t.1, sym e.1)

      from : (t : Takes S byte γ i f g) × (takes_levels t ≤ d) × (takes_charge t + m ≡ n) → Settles Unasked (statement S byte d γ i f) n (gives g) m
      from p = rw p.2 at (taken_enough p.0 d m p.1)

  -- the figures derive one value at most (FLUX, theorem 1)
  pub gives_one : {γ : Env} {i : ℕ} {x y : Forest} → Gives S byte γ i x → Gives S byte γ i y → x ≡ y
  gives_one g h = sure_one (sure_at (gives_priced g)) (sure_at (gives_priced h))

  pub takes_one : {γ : Env} {i : ℕ} {f g h : Forest} → Takes S byte γ i f g → Takes S byte γ i f h → g ≡ h
  takes_one t u = sure_one (sure_at (takes_priced t)) (sure_at (takes_priced u))

-- ---- the whole run: main, from the sheet's forest

module _ (s : Sheet) where
  pub ran : (g : Forest) (n m : ℕ) → Settles Unasked (run_walk s) n (gives g) m → Takes s.script s.grove.byte [] s.script.main (forest_of s.grove) g
  unfolding run_walk
  ran g n m t = derived_run s.script s.grove.byte most_depth [] s.script.main (forest_of s.grove) g n m t

  pub ran_or_deep : {g : Forest} → Takes s.script s.grove.byte [] s.script.main (forest_of s.grove) g
      → (n m : ℕ) (v : Verdict Forest) → Settles Unasked (run_walk s) n v m → Found (Spent ⊥ (Unit {0})) g v
  unfolding run_walk
  ran_or_deep t = taken_or_deep s.script s.grove.byte t most_depth
