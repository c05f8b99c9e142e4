-- The check's walk and figures 4 and 13 say the same: what the walk finds is derived, by the closure of `All`; what is derived is found unless Fuel, Depth or Wide ends it, and with levels and units
-- enough only Wide does, by the laws of `Sure`. So the figures derive one type at most, and the whole check accepts what the rules accept.
use Prim.Native.Nat.{ℕ, zero, suc, ◌+◌, ◌≤◌, ◌<◌}
use Rattle.std.specs.Prelude.{◌≡◌, get_or}
use Rattle.std.proofs.Math.Path.{refl}
use mathlib.Core.List.{List, [], ◌∷◌, ◌++◌}
use Rattle.std.proofs.Common.{inl, inr, eq-or-lt_of_le, le_of_suc-le-suc, arith}
use Rattle.meaning.specs.Limits.{most_depth}
use Rattle.meaning.specs.Sheet.{Script}
use Rattle.meaning.specs.Kinds.{Query, Test, Statement, query_at, statement_at}
use Rattle.meaning.specs.Types.{Ty, Named, Within, Atom, atom_of, declared, names_in}
use Rattle.meaning.specs.Walk.{Stop, Place, of_query, of_statement, ret, ◌>>=◌, Judgement, pass, stop, Verdict, gives, Settles}
use Rattle.meaning.specs.Run.{Fate, misfit, matched, passed, arguments}
use Rattle.meaning.specs.Check.{
  Question,
  Judged,
  too_wide,
  holds,
  fails,
  Asking,
  Types,
  parts,
  tests,
  picked,
  test_type,
  rename_type,
  children_type,
  inside_type,
  ask_all,
  query_type,
  statement_type,
  declaration,
  infer,
  typing,
  body,
  bodies,
  check_walk,
  infer_by,
  typing_by,
  body_by,
  bodies_by,
  check_by,
}
use Rattle.meaning.specs.Figures.{
  Atomic,
  is_text,
  is_bool,
  is_label,
  is_name,
  Picks,
  p_empty,
  p_kept,
  p_away,
  p_seq,
  p_choice,
  p_star,
  Has,
  h_empty,
  h_join,
  h_tree,
  h_text,
  h_bool,
  h_variable,
  h_let,
  h_if,
  h_same,
  h_children,
  h_childless,
  h_pick,
  h_for,
  HasEach,
  e_empty,
  e_atom,
  e_seq,
  e_choice,
  e_star,
  HasAll,
  has_none,
  has_more,
  Lie,
  lie_none,
  lie_more,
  Typed,
  y_skip,
  y_then,
  y_if,
  y_insert,
  y_delete,
  y_rename,
  y_let,
  y_snapshot,
  y_test,
  y_pass,
  y_children,
  y_left,
  y_right,
  y_iter,
  y_call,
  TypedEach,
  i_empty,
  i_atom,
  i_seq,
  i_choice,
  i_star,
  Passes,
  Accepts,
}
use Rattle.meaning.specs.Laws.Figures.{
  labelled_atom,
  atom_labelled,
  childless_atom,
  text_childless,
  bool_childless,
  matches_atom,
  matches_tests,
  tests_matches,
  differs_tests,
  tests_differs,
  atom_fits,
}
use Rattle.meaning.specs.Laws.Walk.{Single, All, all_given, all_then, all_map}
use Rattle.meaning.specs.Laws.Sure.{
  Spent,
  Found,
  Ended,
  ended_found,
  Costs,
  costs_then,
  costs_ended,
  Sure,
  sure_ret,
  sure_tick,
  sure_ask,
  sure_row,
  sure_then,
  sure_ended,
  sure_found,
  sure_costs,
  sure_one,
}

-- ---- questions

-- a question that passes is met
pub met : {names : ℕ → Named} {q : Question} → Judged names q pass → Within names q.found q.wanted
met (holds s w) = w

-- two judgements of one question are equal
pub judged_single : (names : ℕ → Named) → Single (Judged names)
judged_single names q _ _ (too_wide l) (too_wide k) = refl
judged_single names q _ _ (too_wide l) (holds s w) = absurd (omega arith)
judged_single names q _ _ (too_wide l) (fails s w) = absurd (omega arith)
judged_single names q _ _ (holds s w) (too_wide l) = absurd (omega arith)
judged_single names q _ _ (holds s w) (holds t v) = refl
judged_single names q _ _ (holds s w) (fails t v) = absurd (v w)
judged_single names q _ _ (fails s w) (too_wide l) = absurd (omega arith)
judged_single names q _ _ (fails s w) (holds t v) = absurd (w v)
judged_single names q _ _ (fails s w) (fails t v) = refl

-- ---- one law for iter, for and pick

module _ (J : Question → Judgement → Type 0) (P : Ty → Ty → Type 0) (go : Ty → Asking Ty)
    (none : P Ty.empty Ty.empty) (atom : (α : Ty) → Atomic α → All J (P α) (go α))
    (seqs : (τ τ' σ σ' : Ty) → P τ σ → P τ' σ' → P (Ty.seq τ τ') (Ty.seq σ σ'))
    (choices : (τ τ' σ σ' : Ty) → P τ σ → P τ' σ' → P (Ty.choice τ τ') (Ty.choice σ σ'))
    (stars : (τ σ : Ty) → P τ σ → P (Ty.star τ) (Ty.star σ)) where
  parts_all : (τ : Ty) → All J (P τ) (parts go τ)
  unfolding parts All
  parts_all Ty.empty = none
  parts_all Ty.text = atom Ty.text is_text
  parts_all Ty.bool = atom Ty.bool is_bool
  parts_all (Ty.label n τ) = atom (Ty.label n τ) is_label
  parts_all (Ty.name x) = atom (Ty.name x) is_name
  parts_all (Ty.seq τ σ) = all_then J (P τ) _ (parts go τ) _ (parts_all τ) λ x a. all_then J (P σ) _ (parts go σ) _ (parts_all σ) λ y b. seqs τ σ x y a b
  parts_all (Ty.choice τ σ) = all_then J (P τ) _ (parts go τ) _ (parts_all τ) λ x a. all_then J (P σ) _ (parts go σ) _ (parts_all σ) λ y b. choices τ σ x y a b
  parts_all (Ty.star τ) = all_then J (P τ) _ (parts go τ) _ (parts_all τ) λ x a. stars τ x a

module _ (J : Question → Judgement → Type 0) (names : ℕ → Named) (l : ℕ) where
  -- an atom is kept or picked away
  picked_all : (α : Ty) → Atomic α → (k : Fate) → tests (Test.label l) (atom_of names α) ≡ k → All J (Picks names l α) (picked k α)
  unfolding picked All
  picked_all α a misfit e = absurd (atom_fits names a (Test.label l) e)
  picked_all α a matched e = p_kept (tests_matches names (Test.label l) α e)
  picked_all α a passed e = p_away (tests_differs names (Test.label l) α e)

  picks_all : (τ : Ty) → All J (Picks names l τ) (parts (λ α. picked (tests (Test.label l) (atom_of names α)) α) τ)
  picks_all = parts_all J (Picks names l) _ p_empty (λ α a. picked_all α a _ refl) (λ _ _ _ _ a b. p_seq a b) (λ _ _ _ _ a b. p_choice a b) (λ _ _ a. p_star a)

-- ---- what the walk finds is derived

module _ (S : Script) where
  abbrev J : Question → Judgement → Type 0
  J = Judged (names_in S)

  -- queries, given what the rows below find
  module _ (go : Types → ℕ → Asking Ty) (ih : (Γ : Types) (p : ℕ) → All J (Has S Γ p) (go Γ p)) (Γ : Types) where
    each_all : (q : ℕ) (τ : Ty) → All J (HasEach S Γ q τ) (parts (λ α. go (Γ ++ α ∷ []) q) τ)
    each_all q = parts_all J (HasEach S Γ q) _ e_empty (λ α a. all_map J (Has S (Γ ++ α ∷ []) q) _ (go (Γ ++ α ∷ []) q) (ih (Γ ++ α ∷ []) q) λ y b. e_atom a b) (λ _ _ _ _ a b. e_seq a b)
        (λ _ _ _ _ a b. e_choice a b) (λ _ _ a. e_star a)

    inside_all : (i v : ℕ) → query_at S i ≡ Query.children v → (k : Atom) → atom_of (names_in S) (get_or Γ v Ty.empty) ≡ k → All J (Has S Γ i) (inside_type (of_query i) k)
    unfolding inside_type All
    inside_all i v e Atom.no_atom h = tt
    inside_all i v e Atom.text h = h_childless e (text_childless (names_in S) _ h)
    inside_all i v e Atom.bool h = h_childless e (bool_childless (names_in S) _ h)
    inside_all i v e (Atom.label n τ) h = h_children e (atom_labelled (names_in S) _ n τ h)

    query_all : (i : ℕ) (c : Query) → query_at S i ≡ c → All J (Has S Γ i) (query_type (names_in S) c i go Γ)
    unfolding query_type All
    query_all i Query.none e = tt
    query_all i Query.empty e = h_empty e
    query_all i (Query.join p q) e = all_then J _ _ (go Γ p) _ (ih Γ p) λ x a. all_then J _ _ (go Γ q) _ (ih Γ q) λ y b. h_join e a b
    query_all i (Query.tree n q) e = all_then J _ _ (go Γ q) _ (ih Γ q) λ x a. h_tree e a
    query_all i (Query.text p q) e = h_text e
    query_all i (Query.bool b) e = h_bool e
    query_all i (Query.variable v) e = h_variable e refl
    query_all i (Query.letin p q) e = all_then J _ _ (go Γ p) _ (ih Γ p) λ x a. all_map J _ _ (go (Γ ++ x ∷ []) q) (ih (Γ ++ x ∷ []) q) λ y b. h_let e a b
    query_all i (Query.if p q r) e = all_then J _ _ (go Γ p) _ (ih Γ p) λ c a. λ j. all_then J _ _ (go Γ q) _ (ih Γ q) λ x b. all_then J _ _ (go Γ r) _ (ih Γ r) λ y d. h_if e a (met j) b d
    query_all i (Query.same p q) e = all_then J _ _ (go Γ p) _ (ih Γ p) λ x a. all_then J _ _ (go Γ q) _ (ih Γ q) λ y b. λ j k. h_same e a b (met j) (met k)
    query_all i (Query.children v) e = inside_all i v e _ refl
    query_all i (Query.pick p l) e = all_then J _ _ (go Γ p) _ (ih Γ p) λ x a. all_map J _ _ (parts (λ α. picked (tests (Test.label l) (atom_of (names_in S) α)) α) x) (picks_all J (names_in S) l x)
        λ y b. h_pick e a b
    query_all i (Query.for p q) e = all_then J _ _ (go Γ p) _ (ih Γ p) λ x a. all_map J _ _ (parts (λ α. go (Γ ++ α ∷ []) q) x) (each_all q x) λ y b. h_for e a b

    arguments_all : (l : List ℕ) → All J (HasAll S Γ l) (arguments (go Γ) l)
    unfolding arguments All
    arguments_all [] = has_none
    arguments_all (q ∷ l) = all_then J _ _ (go Γ q) _ (ih Γ q) λ x a. all_then J _ _ (arguments (go Γ) l) _ (arguments_all l) λ y b. has_more a b

  infer_all : (d : ℕ) (Γ : Types) (i : ℕ) → All J (Has S Γ i) (infer S d Γ i)
  unfolding infer_by query_type All
  infer_all zero Γ i = tt
  infer_all (suc d) Γ i = query_all (infer S d) (infer_all d) Γ i (query_at S i) refl

  lie_all : (P : Ty → Type 0) (at : Place) (l m : List Ty) (σ : Ty) → (Lie S l m → P σ) → All J P (ask_all at l m (ret σ))
  unfolding ask_all All
  lie_all P at [] [] σ h = h lie_none
  lie_all P at [] (τ ∷ m) σ h = tt
  lie_all P at (ρ ∷ l) [] σ h = tt
  lie_all P at (ρ ∷ l) (τ ∷ m) σ h = λ j. lie_all P at l m σ λ k. h (lie_more (met j) k)

  -- statements
  module _ (go : Types → ℕ → Ty → Asking Ty) (ih : (Γ : Types) (p : ℕ) (τ : Ty) → All J (Typed S Γ p τ) (go Γ p τ))
      (asks : Types → ℕ → Asking Ty) (ah : (Γ : Types) (p : ℕ) → All J (Has S Γ p) (asks Γ p)) (Γ : Types) (i : ℕ) (τ : Ty) where
    test_all : (t : Test) (r : ℕ) → statement_at S i ≡ Statement.test t r → (k : Fate) → tests t (atom_of (names_in S) τ) ≡ k → All J (Typed S Γ i τ) (test_type (of_statement i) k τ (go Γ r))
    unfolding test_type All
    test_all t r e misfit h = tt
    test_all t r e matched h = all_map J _ _ (go Γ r τ) (ih Γ r τ) λ σ a. y_test e (tests_matches (names_in S) t τ h) a
    test_all t r e passed h = y_pass e (tests_differs (names_in S) t τ h)

    rename_all : (l : ℕ) → statement_at S i ≡ Statement.rename l → (k : Atom) → atom_of (names_in S) τ ≡ k → All J (Typed S Γ i τ) (rename_type (of_statement i) l k)
    unfolding rename_type All
    rename_all l e Atom.no_atom h = tt
    rename_all l e Atom.text h = tt
    rename_all l e Atom.bool h = tt
    rename_all l e (Atom.label n σ) h = y_rename e (atom_labelled (names_in S) τ n σ h)

    children_all : (p : ℕ) → statement_at S i ≡ Statement.children p → (k : Atom) → atom_of (names_in S) τ ≡ k → All J (Typed S Γ i τ) (children_type (of_statement i) k (go Γ p))
    unfolding children_type All
    children_all p e Atom.no_atom h = tt
    children_all p e Atom.text h = tt
    children_all p e Atom.bool h = tt
    children_all p e (Atom.label n σ) h = all_then J _ _ (go Γ p σ) _ (ih Γ p σ) λ x a. y_children e (atom_labelled (names_in S) τ n σ h) a

    iter_all : (p : ℕ) (σ : Ty) → All J (TypedEach S Γ p σ) (parts (go Γ p) σ)
    iter_all p = parts_all J (TypedEach S Γ p) (go Γ p) i_empty (λ α a. all_map J (Typed S Γ p α) _ (go Γ p α) (ih Γ p α) λ y b. i_atom a b) (λ _ _ _ _ a b. i_seq a b) (λ _ _ _ _ a b. i_choice a b)
        (λ _ _ a. i_star a)

    statement_all : (c : Statement) → statement_at S i ≡ c → All J (Typed S Γ i τ) (statement_type (names_in S) (declaration S) c i go asks Γ τ)
    unfolding statement_type All
    statement_all Statement.none e = tt
    statement_all Statement.skip e = y_skip e
    statement_all (Statement.then p q) e = all_then J _ _ (go Γ p τ) _ (ih Γ p τ) λ x a. all_map J _ _ (go Γ q x) (ih Γ q x) λ y b. y_then e a b
    statement_all (Statement.if p q r) e = all_then J _ _ (asks Γ p) _ (ah Γ p) λ c a. λ j. all_then J _ _ (go Γ q τ) _ (ih Γ q τ) λ x b. all_then J _ _ (go Γ r τ) _ (ih Γ r τ) λ y d. y_if e a
        (met j) b d
    statement_all (Statement.insert p) e = λ j. all_map J _ _ (asks Γ p) (ah Γ p) λ σ a. y_insert e (met j) a
    statement_all Statement.delete e = y_delete e
    statement_all (Statement.rename l) e = rename_all l e _ refl
    statement_all (Statement.letin p q) e = all_then J _ _ (asks Γ p) _ (ah Γ p) λ x a. all_map J _ _ (go (Γ ++ x ∷ []) q τ) (ih (Γ ++ x ∷ []) q τ) λ y b. y_let e a b
    statement_all (Statement.snapshot p) e = all_map J _ _ (go (Γ ++ τ ∷ []) p τ) (ih (Γ ++ τ ∷ []) p τ) λ σ a. y_snapshot e a
    statement_all (Statement.test t r) e = test_all t r e _ refl
    statement_all (Statement.children p) e = children_all p e _ refl
    statement_all (Statement.left p) e = all_then J _ _ (go Γ p Ty.empty) _ (ih Γ p Ty.empty) λ x a. y_left e a
    statement_all (Statement.right p) e = all_then J _ _ (go Γ p Ty.empty) _ (ih Γ p Ty.empty) λ x a. y_right e a
    statement_all (Statement.iter p) e = all_map J _ _ (parts (go Γ p) τ) (iter_all p τ) λ σ a. y_iter e a
    statement_all (Statement.call c l) e = λ j. all_then J _ _ (arguments (asks Γ) l) _ (arguments_all asks ah Γ l) λ m a. lie_all _ (of_statement i) m (declaration S c).parameters
        (declaration S c).output λ k. y_call e (met j) a k refl

  typing_all : (d : ℕ) (Γ : Types) (i : ℕ) (τ : Ty) → All J (Typed S Γ i τ) (typing S d Γ i τ)
  unfolding typing_by All
  typing_all zero Γ i τ = tt
  typing_all (suc d) Γ i τ = statement_all (typing S d) (typing_all d) (infer S d) (infer_all d) Γ i τ (statement_at S i) refl

  -- what the walk finds, the figures derive
  pub inferred : (d : ℕ) (Γ : Types) (i : ℕ) (σ : Ty) (n m : ℕ) → Settles (Judged (names_in S)) (infer S d Γ i) n (gives σ) m → Has S Γ i σ
  inferred d Γ i σ n m s = all_given J (Has S Γ i) s (infer_all d Γ i)

  pub derived : (d : ℕ) (Γ : Types) (i : ℕ) (τ σ : Ty) (n m : ℕ) → Settles (Judged (names_in S)) (typing S d Γ i τ) n (gives σ) m → Typed S Γ i τ σ
  derived d Γ i τ σ n m s = all_given J (Typed S Γ i τ) s (typing_all d Γ i τ)

  -- ---- the whole check

  -- a body computes the type x, and x lies in the declared output
  abbrev Computes : Types → ℕ → Ty → Ty → Ty → Type 0
  Computes Γ i τ σ x = Typed S Γ i τ x × Within (names_in S) x σ

  body_all : (Γ : Types) (i : ℕ) (τ σ : Ty) → All J (Computes Γ i τ σ) (body S Γ i τ σ)
  unfolding body_by All
  body_all Γ i τ σ = all_then J _ _ (typing S most_depth Γ i τ) _ (typing_all most_depth Γ i τ) λ x a. λ j. (a, met j)

  abbrev body_of : ℕ → Asking Ty
  body_of c = body S (declaration S c).parameters (S.procedure_row c).body (declaration S c).input (declaration S c).output

  -- procedure c keeps its declaration
  abbrev Keeps : ℕ → Type 0
  Keeps c = Passes S (declaration S c).parameters (S.procedure_row c).body (declaration S c).input (declaration S c).output

  abbrev Kept : ℕ → Type 0
  Kept n = (c : ℕ) → 1 ≤ c → c ≤ n → Keeps c

  kept_more : (n : ℕ) → Kept n → Keeps (suc n) → Kept (suc n)
  kept_more n k l c p q = elim (eq-or-lt_of_le q) [
    | inl h ↦ rw h l
    | inr h ↦ k c p (le_of_suc-le-suc h)
  ]

  bodies_all : (n : ℕ) (P : Ty → Type 0) (w : Asking Ty) → All J P w → All J (λ σ. Kept n × P σ) (bodies S n w)
  unfolding bodies_by
  bodies_all zero P w h = all_map J P _ w h λ σ a. ((λ c p q. absurd (omega arith)), a)
  bodies_all (suc n) P w h = all_map J (λ σ. Kept n × (Keeps (suc n) × P σ)) _ _ (bodies_all n (λ σ. Keeps (suc n) × P σ) _ after) λ σ a. (kept_more n a.0 a.1.0, a.1.1)
    where
      after : All J (λ σ. Keeps (suc n) × P σ) (body_of (suc n) >>= λ x. w)
      after = all_then J _ _ (body_of (suc n)) _ (body_all _ _ _ _)
          λ x a. all_map J P _ w h λ σ b. (record { output = x; typed = a.0; lies = a.1 }, b)

  check_all : All J (λ σ. Kept S.procedures × Computes [] S.main (declared S S.a) (declared S S.b) σ) (check_walk S)
  unfolding check_by
  check_all = bodies_all S.procedures _ _ (body_all [] S.main (declared S S.a) (declared S S.b))

  -- what the check accepts the rules accept, with the type that it gives for main
  pub accepted : (σ : Ty) (n m : ℕ) → Settles (Judged (names_in S)) (check_walk S) n (gives σ) m → Accepts S × Typed S [] S.main (declared S S.a) σ × Within (names_in S) σ (declared S S.b)
  accepted σ n m s = let a = all_given J _ s check_all in (record { procedures = a.0; main = record { output = σ; typed = a.1.0; lies = a.1.1 } }, a.1.0, a.1.1)

  -- ---- what is derived is found, for one price

  abbrev Met : Question → Type 0
  Met q = Within (names_in S) q.found q.wanted

  -- a met question stops a walk only for its width
  only_wide : (D : Type 0) (q : Question) (h : Stop) → Met q → J q (stop h) → Spent (Unit {0}) D h
  only_wide D q _ a (too_wide l) = tt
  only_wide D q _ a (fails s w) = absurd (w a)

  atom_sure : (go : ℕ → Ty → Asking Ty) {α σ : Ty} → Atomic α → Sure Met σ (λ d. go d α) → Sure Met σ (λ d. parts (go d) α)
  unfolding parts
  atom_sure go is_text s = sure_tick s
  atom_sure go is_bool s = sure_tick s
  atom_sure go is_label s = sure_tick s
  atom_sure go is_name s = sure_tick s

  picks_sure : (l : ℕ) {τ σ : Ty} → Picks (names_in S) l τ σ → Sure Met σ (λ d. parts (λ α. picked (tests (Test.label l) (atom_of (names_in S) α)) α) τ)
  unfolding parts picked
  picks_sure l p_empty = sure_tick (sure_ret refl)
  picks_sure l (p_kept m) = atom_sure (λ k β. picked (tests (Test.label l) (atom_of (names_in S) β)) β) (matches_atom (names_in S) m) (rw (matches_tests (names_in S) m) (sure_ret refl))
  picks_sure l (p_away d) = atom_sure (λ k β. picked (tests (Test.label l) (atom_of (names_in S) β)) β) d.atom (rw (differs_tests (names_in S) d) (sure_tick (sure_ret refl)))
  picks_sure l (p_seq a b) = sure_tick (sure_then _ (picks_sure l a) (sure_then _ (picks_sure l b) (sure_tick (sure_ret refl))))
  picks_sure l (p_choice a b) = sure_tick (sure_then _ (picks_sure l a) (sure_then _ (picks_sure l b) (sure_tick (sure_ret refl))))
  picks_sure l (p_star a) = sure_tick (sure_then _ (picks_sure l a) (sure_tick (sure_ret refl)))

  infer_row : (Γ : Types) (i : ℕ) (c : Query) {σ : Ty} → query_at S i ≡ c → Sure Met σ (λ d. query_type (names_in S) c i (infer S d) Γ) → Sure Met σ (λ d. infer S d Γ i)
  unfolding infer_by query_type
  infer_row Γ i c e s = sure_row _ refl (λ d. rw e refl) s

  mutual
    unfolding query_type inside_type parts

    has_sure : {Γ : Types} {i : ℕ} {σ : Ty} → Has S Γ i σ → Sure Met σ (λ d. infer S d Γ i)
    has_sure (h_empty e) = infer_row _ _ _ e (sure_tick (sure_ret refl))
    has_sure (h_join e a b) = infer_row _ _ _ e (sure_then _ (has_sure a) (sure_then _ (has_sure b) (sure_tick (sure_ret refl))))
    has_sure (h_tree e a) = infer_row _ _ _ e (sure_then _ (has_sure a) (sure_tick (sure_ret refl)))
    has_sure (h_text e) = infer_row _ _ _ e (sure_tick (sure_ret refl))
    has_sure (h_bool e) = infer_row _ _ _ e (sure_tick (sure_ret refl))
    has_sure (h_variable e h) = infer_row _ _ _ e (sure_ret h)
    has_sure (h_let e a b) = infer_row _ _ _ e (sure_then _ (has_sure a) (has_sure b))
    has_sure (h_if e a h b c) = infer_row _ _ _ e (sure_then _ (has_sure a) (sure_ask _ h (sure_then _ (has_sure b) (sure_then _ (has_sure c) (sure_tick (sure_ret refl))))))
    has_sure (h_same e a b h k) = infer_row _ _ _ e (sure_then _ (has_sure a) (sure_then _ (has_sure b) (sure_ask _ h (sure_ask _ k (sure_tick (sure_ret refl))))))
    has_sure (h_children e h) = infer_row _ _ _ e (rw (labelled_atom (names_in S) h) (sure_ret refl))
    has_sure (h_childless e h) = infer_row _ _ _ e (elim (childless_atom (names_in S) h) [ inl t ↦ rw t (sure_tick (sure_ret refl)) | inr t ↦ rw t (sure_tick (sure_ret refl)) ])
    has_sure (h_pick {l = l} e a b) = infer_row _ _ _ e (sure_then _ (has_sure a) (picks_sure l b))
    has_sure (h_for e a b) = infer_row _ _ _ e (sure_then _ (has_sure a) (each_sure b))

    each_sure : {Γ : Types} {q : ℕ} {τ σ : Ty} → HasEach S Γ q τ σ → Sure Met σ (λ d. parts (λ α. infer S d (Γ ++ α ∷ []) q) τ)
    each_sure e_empty = sure_tick (sure_ret refl)
    each_sure {Γ} {q} (e_atom a b) = atom_sure (λ d β. infer S d (Γ ++ β ∷ []) q) a (has_sure b)
    each_sure (e_seq a b) = sure_tick (sure_then _ (each_sure a) (sure_then _ (each_sure b) (sure_tick (sure_ret refl))))
    each_sure (e_choice a b) = sure_tick (sure_then _ (each_sure a) (sure_then _ (each_sure b) (sure_tick (sure_ret refl))))
    each_sure (e_star a) = sure_tick (sure_then _ (each_sure a) (sure_tick (sure_ret refl)))

  arguments_sure : {Γ : Types} {l : List ℕ} {m : List Ty} → HasAll S Γ l m → Sure Met m (λ d. arguments (infer S d Γ) l)
  unfolding arguments
  arguments_sure has_none = sure_ret refl
  arguments_sure (has_more a b) = sure_then _ (has_sure a) (sure_then _ (arguments_sure b) (sure_ret refl))

  lie_sure : (at : Place) {σ : Ty} {w : ℕ → Asking Ty} {l m : List Ty} → Lie S l m → Sure Met σ w → Sure Met σ (λ d. ask_all at l m (w d))
  unfolding ask_all
  lie_sure at lie_none s = s
  lie_sure at (lie_more h j) s = sure_ask _ h (lie_sure at j s)

  typing_row : (Γ : Types) (i : ℕ) (τ : Ty) (c : Statement) {σ : Ty} → statement_at S i ≡ c → Sure Met σ (λ d. statement_type (names_in S) (declaration S) c i (typing S d) (infer S d) Γ τ)
      → Sure Met σ (λ d. typing S d Γ i τ)
  unfolding typing_by
  typing_row Γ i τ c e s = sure_row _ refl (λ d. rw e refl) s

  mutual
    unfolding statement_type test_type rename_type children_type parts

    typed_sure : {Γ : Types} {i : ℕ} {τ σ : Ty} → Typed S Γ i τ σ → Sure Met σ (λ d. typing S d Γ i τ)
    typed_sure (y_skip e) = typing_row _ _ _ _ e (sure_ret refl)
    typed_sure (y_then e a b) = typing_row _ _ _ _ e (sure_then _ (typed_sure a) (typed_sure b))
    typed_sure (y_if e a h b c) = typing_row _ _ _ _ e (sure_then _ (has_sure a) (sure_ask _ h (sure_then _ (typed_sure b) (sure_then _ (typed_sure c) (sure_tick (sure_ret refl))))))
    typed_sure (y_insert e h a) = typing_row _ _ _ _ e (sure_ask _ h (has_sure a))
    typed_sure (y_delete e) = typing_row _ _ _ _ e (sure_tick (sure_ret refl))
    typed_sure (y_rename e h) = typing_row _ _ _ _ e (rw (labelled_atom (names_in S) h) (sure_tick (sure_ret refl)))
    typed_sure (y_let e a b) = typing_row _ _ _ _ e (sure_then _ (has_sure a) (typed_sure b))
    typed_sure (y_snapshot e a) = typing_row _ _ _ _ e (typed_sure a)
    typed_sure (y_test e h a) = typing_row _ _ _ _ e (rw (matches_tests (names_in S) h) (typed_sure a))
    typed_sure (y_pass e h) = typing_row _ _ _ _ e (rw (differs_tests (names_in S) h) (sure_ret refl))
    typed_sure (y_children e h a) = typing_row _ _ _ _ e (rw (labelled_atom (names_in S) h) (sure_then _ (typed_sure a) (sure_tick (sure_ret refl))))
    typed_sure (y_left e a) = typing_row _ _ _ _ e (sure_then _ (typed_sure a) (sure_tick (sure_ret refl)))
    typed_sure (y_right e a) = typing_row _ _ _ _ e (sure_then _ (typed_sure a) (sure_tick (sure_ret refl)))
    typed_sure (y_iter e a) = typing_row _ _ _ _ e (iter_sure a)
    typed_sure (y_call e h a j o) = typing_row _ _ _ _ e (sure_ask _ h (sure_then _ (arguments_sure a) (lie_sure _ j (sure_ret o))))

    iter_sure : {Γ : Types} {p : ℕ} {τ σ : Ty} → TypedEach S Γ p τ σ → Sure Met σ (λ d. parts (typing S d Γ p) τ)
    iter_sure i_empty = sure_tick (sure_ret refl)
    iter_sure {Γ} {p} (i_atom a b) = atom_sure (λ d. typing S d Γ p) a (typed_sure b)
    iter_sure (i_seq a b) = sure_tick (sure_then _ (iter_sure a) (sure_then _ (iter_sure b) (sure_tick (sure_ret refl))))
    iter_sure (i_choice a b) = sure_tick (sure_then _ (iter_sure a) (sure_then _ (iter_sure b) (sure_tick (sure_ret refl))))
    iter_sure (i_star a) = sure_tick (sure_then _ (iter_sure a) (sure_tick (sure_ret refl)))

  -- what is derived, the walk finds, unless Fuel, Depth or Wide ends it
  pub inferred_or_spent : {Γ : Types} {i : ℕ} {σ : Ty} → Has S Γ i σ → (d n m : ℕ) (v : Verdict Ty) → Settles (Judged (names_in S)) (infer S d Γ i) n v m → Found (Spent (Unit {0}) (Unit {0})) σ v
  inferred_or_spent t = sure_found (Unit {0}) J (only_wide ⊥) (has_sure t)

  pub found_or_spent : {Γ : Types} {i : ℕ} {τ σ : Ty} → Typed S Γ i τ σ → (d n m : ℕ) (v : Verdict Ty) → Settles (Judged (names_in S)) (typing S d Γ i τ) n v m
      → Found (Spent (Unit {0}) (Unit {0})) σ v
  found_or_spent t = sure_found (Unit {0}) J (only_wide ⊥) (typed_sure t)

  -- with levels and units enough, unless Wide ends it: Depth only if the levels are fewer than `deep`, Fuel only if the purse is less than `units`
  pub inferred_enough : {Γ : Types} {i : ℕ} {σ : Ty} → Has S Γ i σ → (deep units : ℕ)
      × ((d n m : ℕ) (v : Verdict Ty) → Settles (Judged (names_in S)) (infer S d Γ i) n v m → Ended (Spent (Unit {0}) (d < deep)) σ units n v m)
  inferred_enough t = let s = has_sure t in (s.deep, s.units, sure_ended (Unit {0}) J (only_wide ⊥) s)

  pub found_enough : {Γ : Types} {i : ℕ} {τ σ : Ty} → Typed S Γ i τ σ → (deep units : ℕ)
      × ((d n m : ℕ) (v : Verdict Ty) → Settles (Judged (names_in S)) (typing S d Γ i τ) n v m → Ended (Spent (Unit {0}) (d < deep)) σ units n v m)
  found_enough t = let s = typed_sure t in (s.deep, s.units, sure_ended (Unit {0}) J (only_wide ⊥) s)

  -- the figures derive one type at most
  pub has_one : {Γ : Types} {i : ℕ} {σ ρ : Ty} → Has S Γ i σ → Has S Γ i ρ → σ ≡ ρ
  has_one t u = sure_one (has_sure t) (has_sure u)

  pub typed_one : {Γ : Types} {i : ℕ} {τ σ ρ : Ty} → Typed S Γ i τ σ → Typed S Γ i τ ρ → σ ≡ ρ
  typed_one t u = sure_one (typed_sure t) (typed_sure u)

  -- ---- the whole check, the other way

  abbrev Checks : Ty → ℕ → Asking Ty → Type 0
  Checks σ u w = Costs Met (Spent (Unit {0}) (Unit {0})) σ u w

  body_costs : (Γ : Types) (i : ℕ) (τ σ : Ty) (p : Passes S Γ i τ σ) → (u : ℕ) × Checks p.output u (body S Γ i τ σ)
  unfolding body_by Costs
  body_costs Γ i τ σ p = let s = typed_sure p.typed in (
    s.units + 0,
    costs_then Met _ p.output p.output s.units 0 (typing S most_depth Γ i τ) _ (sure_costs (Unit {0}) s most_depth) (p.lies, (refl, refl)),
  )

  bodies_costs : (n : ℕ) → Kept n → (w : Asking Ty) (σ : Ty) (u : ℕ) → Checks σ u w → (t : ℕ) × Checks σ t (bodies S n w)
  unfolding bodies_by
  bodies_costs zero k w σ u c = (u, c)
  bodies_costs (suc n) k w σ u c =
      let p = k (suc n) (omega arith) (omega arith) in
      let b = body_costs _ _ _ _ p in
      bodies_costs n (λ e l q. k e l (omega arith)) _ σ (b.0 + u) (costs_then Met _ p.output σ b.0 u (body_of (suc n)) (λ x. w) b.1 c)

  check_costs : (a : Accepts S) → (u : ℕ) × Checks a.main.output u (check_walk S)
  unfolding check_by
  check_costs a = let b = body_costs _ _ _ _ a.main in bodies_costs S.procedures a.procedures _ a.main.output b.0 b.1

  -- what the rules accept, the check accepts with main's type, unless Depth or Wide ends it, or Fuel, the purse being less than `units`
  pub accepts_enough : (a : Accepts S) → (units : ℕ) × ((n m : ℕ) (v : Verdict Ty) → Settles (Judged (names_in S)) (check_walk S) n v m
      → Ended (Spent (Unit {0}) (Unit {0})) a.main.output units n v m)
  accepts_enough a = let c = check_costs a in (c.0, λ n m v s. costs_ended Met _ _ J (only_wide (Unit {0})) s c.0 c.1)

  pub accepts_found_or_spent : (a : Accepts S) (n m : ℕ) (v : Verdict Ty) → Settles (Judged (names_in S)) (check_walk S) n v m → Found (Spent (Unit {0}) (Unit {0})) a.main.output v
  accepts_found_or_spent a n m v s = let c = accepts_enough a in ended_found (Unit {0}) (Unit {0}) a.main.output c.0 n v m (c.1 n m v s)
