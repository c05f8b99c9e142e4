-- Soundness of figures 4 and 13: a typed row, on values of the types, gives a forest of its type, or is short of fuel or depth. It is not stuck.
-- By the closure scheme `Safe` of walks: on the levels of depth that are left, then on the derivation.
use Prim.Native.Nat.{ℕ, zero, suc, ◌≤◌}
use Rattle.std.specs.Prelude.{◌≡◌, refl, Bool, true, false, cond, List, [], ◌∷◌, ◌++◌, ◌⊎◌, eqb, get_or}
use Rattle.std.proofs.Math.Path.{sym}
use Rattle.std.proofs.Common.{◌∙◌, ap, subst}
use Rattle.std.proofs.Math.Logic.{inl, inr}
use Rattle.meaning.specs.Tests.{in_table}
use Rattle.meaning.specs.Sheet.{Script}
use Rattle.meaning.specs.Kinds.{Query, Test, Statement, query_at, statement_at}
use Rattle.meaning.specs.Forest.{Text, Tree, Forest, nil, cons, only, ◌⊕◌, count}
use Rattle.meaning.specs.Types.{Ty, Named, Of, of_empty, of_text, of_bool, of_label, of_seq, of_left, of_right, of_none, of_more, of_name, Atom, atom_of, names_in}
use Rattle.meaning.specs.Walk.{Stop, depth, wide, mismatch, outside, stuck, Place, ret, ◌>>=◌, pay, Quiet, Unasked, Verdict, gives, fuel, stops, settle}
use Rattle.meaning.specs.Run.{
  Env,
  seen,
  Fate,
  misfit,
  matched,
  passed,
  tested,
  inside,
  kept,
  copied,
  each,
  branch,
  same_texts,
  query_of,
  insert_of,
  rename_of,
  test_of,
  children_of,
  arguments,
  statement_of,
  query,
  statement,
}
use Rattle.meaning.specs.Check.{Types, tests, declaration}
use Rattle.meaning.specs.Figures.{
  k_none,
  k_tree,
  k_other,
  Atomic,
  is_text,
  is_bool,
  is_label,
  is_name,
  Childless,
  c_text,
  c_bool,
  Picks,
  p_empty,
  p_kept,
  p_away,
  p_seq,
  p_choice,
  p_star,
  Has,
  h_empty,
  h_join,
  h_tree,
  h_text,
  h_bool,
  h_variable,
  h_let,
  h_if,
  h_same,
  h_children,
  h_childless,
  h_pick,
  h_for,
  HasEach,
  e_empty,
  e_atom,
  e_seq,
  e_choice,
  e_star,
  HasAll,
  has_none,
  has_more,
  Lie,
  lie_none,
  lie_more,
  Typed,
  y_skip,
  y_then,
  y_if,
  y_insert,
  y_delete,
  y_rename,
  y_let,
  y_snapshot,
  y_test,
  y_pass,
  y_children,
  y_left,
  y_right,
  y_iter,
  y_call,
  TypedEach,
  i_empty,
  i_atom,
  i_seq,
  i_choice,
  i_star,
  Passes,
}
use Rattle.meaning.specs.Laws.Bools.{never}
use Rattle.meaning.specs.Laws.Figures.{tested_matches, tested_differs, kept_one, no_atom, labelled_atom, matches_atom, matches_tests, differs_tests}
use Rattle.meaning.specs.Laws.Tests.{table_low, table_high}
use Rattle.meaning.specs.Laws.Forest.{⊕-nil, ⊕-assoc}
use Rattle.meaning.specs.Laws.Walk.{then_ret, then_assoc, pay_then, settle_settles, Fair, Safe, safe_fair, safe_then, safe_pay, safe_map}

-- ---- walks that give what has P, or stop for depth

abbrev By-depth : Stop → Type 0
By-depth depth = Unit {0}
By-depth (wide at) = ⊥
By-depth (mismatch at) = ⊥
By-depth (outside at) = ⊥
By-depth (stuck at) = ⊥

abbrev Good : {A : Type 0} → (A → Type 0) → Quiet A → Type 0
Good P w = Safe Unasked By-depth (λ q. Unit {0}) P w

good_then : {A B : Type 0} (P : A → Type 0) (R : B → Type 0) (w : Quiet A) (k : A → Quiet B) → Good P w → ((x : A) → P x → Good R (k x)) → Good R (w >>= k)
good_then = safe_then Unasked By-depth (λ q. Unit {0})

good_pay : {A : Type 0} (P : A → Type 0) (n : ℕ) (w : Quiet A) → Good P w → Good P (pay n w)
good_pay = safe_pay Unasked By-depth (λ q. Unit {0})

good_map : {A : Type 0} (P R : A → Type 0) (w : Quiet A) → Good P w → ((x : A) → P x → R x) → Good R w
good_map = safe_map Unasked By-depth (λ q. Unit {0})

-- a copy
good_copy : (P : Forest → Type 0) (n : ℕ) (f : Forest) → P f → Good P (copied n f)
unfolding Safe
good_copy P n f h = good_pay P n (ret f) h

-- how a walk for a forest of τ may end: with one, or short of fuel or depth. It is not stuck
pub data Ends (names : ℕ → Named) (τ : Ty) : Verdict Forest → Type 0 where
  with_forest : {f : Forest} → Of names τ f → Ends names τ (gives f)
  short_of_fuel : Ends names τ fuel
  short_of_depth : Ends names τ (stops depth)

good_ends : (names : ℕ → Named) (τ : Ty) (w : Quiet Forest) (n : ℕ) → Good (Of names τ) w → Ends names τ (settle w n).verdict
good_ends names τ w n h = go (settle w n).verdict (safe_fair Unasked By-depth (λ q. Unit {0}) (λ q g m j. absurd q) (Of names τ) (settle_settles w n) h)
  where
    go : (v : Verdict Forest) → Fair Unasked By-depth (λ q. Unit {0}) (Of names τ) v → Ends names τ v
    go (gives f) o = with_forest o
    go fuel o = short_of_fuel
    go (stops depth) o = short_of_depth
    go (stops (wide at)) o = absurd o
    go (stops (mismatch at)) o = absurd o
    go (stops (outside at)) o = absurd o
    go (stops (stuck at)) o = absurd o

-- ---- loops: over one forest and then another, the one loop and then the other

module _ (body : Forest → Quiet Forest) where
  each-⊕ : (f g : Forest) → each body (f ⊕ g) ≡ (each body f >>= λ x. each body g >>= λ y. ret (x ⊕ y))
  unfolding each ◌⊕◌ ◌>>=◌
  each-⊕ nil g = sym (then_ret (each body g))
  each-⊕ (cons t f) g = simp (each-⊕ f g, then_assoc, pay_then, ⊕-assoc)

  each_one : (P : Forest → Type 0) (t : Tree) → Good P (body (only t)) → Good P (each body (only t))
  unfolding each Safe ◌>>=◌
  each_one P t h = good_then P P (body (only t)) _ h λ x p. good_pay P (count x) _ (rw ⊕-nil p)

  each_two : (P Q R : Forest → Type 0) (f g : Forest) → Good P (each body f) → Good Q (each body g) → ((x y : Forest) → P x → Q y → R (x ⊕ y)) → Good R (each body (f ⊕ g))
  unfolding Safe
  each_two P Q R f g h k r = rw (each-⊕ f g) (good_then P R (each body f) _ h λ x p. good_then Q R (each body g) _ k λ y q. r x y p q)

  each_star : (names : ℕ → Named) (τ σ : Ty) → ((f : Forest) → Of names τ f → Good (Of names σ) (each body f)) → {g : Forest} → Of names (Ty.star τ) g → Good (Of names (Ty.star σ)) (each body g)
  unfolding each Safe
  each_star names τ σ h of_none = of_none
  each_star names τ σ h (of_more {f = f} {g = g} o u) = each_two (Of names σ) (Of names (Ty.star σ)) (Of names (Ty.star σ)) f g (h f o) (each_star names τ σ h u) (λ x y a b. of_more a b)

-- ---- what the atoms of a type say of its forests

-- a test that finds the tree's own atom
on_text : (w : Text) (t : Test) → tested t (seen (only (Tree.text w))) ≡ tests t Atom.text
unfolding tests tested seen
on_text w Test.text = refl
on_text w Test.any = refl
on_text w (Test.label l) = refl

on_bool : (b : Bool) (t : Test) → tested t (seen (only (Tree.bool b))) ≡ tests t Atom.bool
unfolding tests tested seen
on_bool b Test.text = refl
on_bool b Test.any = refl
on_bool b (Test.label l) = refl

on_label : (n : ℕ) (f : Forest) (τ : Ty) (t : Test) → tested t (seen (only (Tree.node n f))) ≡ tests t (Atom.label n τ)
unfolding tests tested seen
on_label n f τ Test.text = refl
on_label n f τ Test.any = refl
on_label n f τ (Test.label l) = refl

-- pick, over joined forests and on one tree
kept-⊕ : (l : ℕ) (f g : Forest) → kept l (f ⊕ g) ≡ kept l f ⊕ kept l g
unfolding kept ◌⊕◌
kept-⊕ l nil g = refl
kept-⊕ l (cons (Tree.text w) f) g = kept-⊕ l f g
kept-⊕ l (cons (Tree.bool b) f) g = kept-⊕ l f g
kept-⊕ l (cons (Tree.node n k) f) g = go (eqb n l) (kept-⊕ l f g)
  where
    go : (b : Bool) → kept l (f ⊕ g) ≡ kept l f ⊕ kept l g → cond b (cons (Tree.node n k) (kept l (f ⊕ g))) (kept l (f ⊕ g)) ≡ cond b (cons (Tree.node n k) (kept l f)) (kept l f) ⊕ kept l g
    go true h = ap (cons (Tree.node n k)) h
    go false h = h

kept_tree : (l : ℕ) (t : Tree) → tested (Test.label l) (seen (only t)) ≡ matched → kept l (only t) ≡ only t
kept_tree l t e = kept_one (k_tree (tested_matches (Test.label l) t e) k_none)

away_tree : (l : ℕ) (t : Tree) → tested (Test.label l) (seen (only t)) ≡ passed → kept l (only t) ≡ nil
away_tree l t e = kept_one (k_other (tested_differs (Test.label l) t e) k_none)

good_matched : (P : Forest → Type 0) (at : Place) {k : Fate} → k ≡ matched → (f : Forest) (go : Forest → Quiet Forest) → Good P (go f) → Good P (test_of at k f go)
unfolding test_of
good_matched P at e f go h = rw e h

good_passed : (P : Forest → Type 0) (at : Place) {k : Fate} → k ≡ passed → (f : Forest) (go : Forest → Quiet Forest) → P f → Good P (test_of at k f go)
unfolding test_of Safe
good_passed P at e f go h = rw e h

module _ (names : ℕ → Named) where
  one_tree : {α : Ty} {f : Forest} → Atomic α → Of names α f → (t : Tree) × (f ≡ only t)
  one_tree is_text (of_text {w = w}) = (Tree.text w, refl)
  one_tree is_bool (of_bool {b = b}) = (Tree.bool b, refl)
  one_tree is_label (of_label {n = n} {f = g} o) = (Tree.node n g, refl)
  one_tree is_name (of_name (of_label {n = n} {f = g} o)) = (Tree.node n g, refl)

  -- a forest of a labelled atom is one tree with that label, its content of the atom's content
  labelled : (τ : Ty) {f : Forest} → Of names τ f → (n : ℕ) (σ : Ty) → atom_of names τ ≡ Atom.label n σ → (g : Forest) × (f ≡ only (Tree.node n g)) × Of names σ g
  unfolding atom_of
  labelled Ty.empty o n σ e = never (cc)
  labelled Ty.text o n σ e = never (cc)
  labelled Ty.bool o n σ e = never (cc)
  labelled (Ty.label m τ) (of_label {f = g} o) n σ e = let p : m ≡ n = cc in let q : τ ≡ σ = cc in (g, rw p, rw (← q) o)
  labelled (Ty.seq τ ρ) o n σ e = never (cc)
  labelled (Ty.choice τ ρ) o n σ e = never (cc)
  labelled (Ty.star τ) o n σ e = never (cc)
  labelled (Ty.name x) (of_name (of_label {n = m} {τ = τ} {f = g} o)) n σ e = let p : m ≡ n = cc in let q : τ ≡ σ = cc in (g, rw p, rw (← q) o)

  inside_of : (τ : Ty) {f : Forest} → Of names τ f → (n : ℕ) (σ : Ty) → atom_of names τ ≡ Atom.label n σ → Of names σ (inside (seen f))
  unfolding inside seen
  inside_of τ o n σ e = let x = labelled τ o n σ e in rw x.1 x.2

  -- a text or bool has nothing inside
  inside_none : {τ : Ty} {f : Forest} → Childless τ → Of names τ f → Of names Ty.empty (inside (seen f))
  unfolding inside seen
  inside_none c_text of_text = of_empty
  inside_none c_bool of_bool = of_empty

  -- a test of the focus comes out as it does on the type's atom
  agrees : (τ : Ty) {f : Forest} → Of names τ f → (t : Test) → (tests t (atom_of names τ) ≡ misfit) ⊎ (tested t (seen f) ≡ tests t (atom_of names τ))
  unfolding atom_of
  agrees Ty.empty o t = inl (no_atom t)
  agrees Ty.text (of_text {w = w}) t = inr (on_text w t)
  agrees Ty.bool (of_bool {b = b}) t = inr (on_bool b t)
  agrees (Ty.label n τ) (of_label {f = g} o) t = inr (on_label n g τ t)
  agrees (Ty.seq τ σ) o t = inl (no_atom t)
  agrees (Ty.choice τ σ) o t = inl (no_atom t)
  agrees (Ty.star τ) o t = inl (no_atom t)
  agrees (Ty.name x) (of_name (of_label {n = n} {τ = τ} {f = g} o)) t = inr (on_label n g τ t)

  is_matched : (τ : Ty) {f : Forest} → Of names τ f → (t : Test) → tests t (atom_of names τ) ≡ matched → tested t (seen f) ≡ matched
  is_matched τ o t e = elim (agrees τ o t) [ inl x ↦ never (cc) | inr x ↦ x ∙ e ]

  is_passed : (τ : Ty) {f : Forest} → Of names τ f → (t : Test) → tests t (atom_of names τ) ≡ passed → tested t (seen f) ≡ passed
  is_passed τ o t e = elim (agrees τ o t) [ inl x ↦ never (cc) | inr x ↦ x ∙ e ]

  picked_star : (l : ℕ) (τ σ : Ty) → ((f : Forest) → Of names τ f → Of names σ (kept l f)) → {g : Forest} → Of names (Ty.star τ) g → Of names (Ty.star σ) (kept l g)
  unfolding kept
  picked_star l τ σ h of_none = of_none
  picked_star l τ σ h (of_more {f = f} {g = g} o u) = rw (kept-⊕ l f g) (of_more (h f o) (picked_star l τ σ h u))

  picked_of : (l : ℕ) {τ σ : Ty} {f : Forest} → Picks names l τ σ → Of names τ f → Of names σ (kept l f)
  unfolding kept
  picked_of l p_empty of_empty = of_empty
  picked_of l (p_kept {α = α} m) o = let x = one_tree (matches_atom names m) o in let u = rw x.1 at o in rw (x.1, kept_tree l x.0 (is_matched α u (Test.label l) (matches_tests names m))) u
  picked_of l (p_away {α = α} d) o = let x = one_tree d.atom o in let u = rw x.1 at o in rw (x.1, away_tree l x.0 (is_passed α u (Test.label l) (differs_tests names d))) of_empty
  picked_of l (p_seq h k) (of_seq {f = f} {g = g} o u) = rw (kept-⊕ l f g) (of_seq (picked_of l h o) (picked_of l k u))
  picked_of l (p_choice h k) (of_left o) = of_left (picked_of l h o)
  picked_of l (p_choice h k) (of_right o) = of_right (picked_of l k o)
  picked_of l (p_star {τ = τ} {σ = σ} h) o = picked_star l τ σ (λ f u. picked_of l h u) o

  -- ---- values of types, variable by variable

  pub data Fit : Env → Types → Type 0 where
    fit_none : Fit [] []
    fit_more : {x : Forest} {τ : Ty} {γ : Env} {Γ : Types} → Of names τ x → Fit γ Γ → Fit (x ∷ γ) (τ ∷ Γ)

  fit_at : {γ : Env} {Γ : Types} → Fit γ Γ → (v : ℕ) → Of names (get_or Γ v Ty.empty) (get_or γ v nil)
  fit_at fit_none v = of_empty
  fit_at (fit_more o e) zero = o
  fit_at (fit_more o e) (suc v) = fit_at e v

  fit_also : {γ : Env} {Γ : Types} {x : Forest} {τ : Ty} → Fit γ Γ → Of names τ x → Fit (γ ++ x ∷ []) (Γ ++ τ ∷ [])
  fit_also fit_none u = fit_more u fit_none
  fit_also (fit_more o e) u = fit_more o (fit_also e u)

  -- ---- where a value is tested

  good_branch : (P : Forest → Type 0) (at : Place) {c : Forest} → Of names Ty.bool c → (v w : Quiet Forest) → Good P v → Good P w → Good P (branch at (seen c) v w)
  unfolding branch seen
  good_branch P at (of_bool {b = true}) v w h k = h
  good_branch P at (of_bool {b = false}) v w h k = k

  good_same : (at : Place) {x y : Forest} → Of names Ty.text x → Of names Ty.text y → Good (Of names Ty.bool) (same_texts at (seen x) (seen y))
  unfolding same_texts seen
  good_same at of_text of_text = good_copy _ 1 _ of_bool

  good_insert : (P : Forest → Type 0) (at : Place) {f : Forest} → Of names Ty.empty f → (w : Quiet Forest) → Good P w → Good P (insert_of at f w)
  unfolding insert_of
  good_insert P at of_empty w h = h

  good_rename : (at : Place) (l : ℕ) (τ : Ty) {f : Forest} → Of names τ f → (n : ℕ) (σ : Ty) → atom_of names τ ≡ Atom.label n σ → Good (Of names (Ty.label l σ)) (rename_of at l (seen f))
  unfolding rename_of seen
  good_rename at l τ o n σ e = let x = labelled τ o n σ e in rw x.1 (good_copy _ 1 _ (of_label x.2))

  good_children : (at : Place) (go : Forest → Quiet Forest) (τ : Ty) {f : Forest} → Of names τ f → (n : ℕ) (σ ρ : Ty) → atom_of names τ ≡ Atom.label n σ
      → ((g : Forest) → Of names σ g → Good (Of names ρ) (go g)) → Good (Of names (Ty.label n ρ)) (children_of at (seen f) go)
  unfolding children_of seen
  good_children at go τ o n σ ρ e h = let x = labelled τ o n σ e in rw x.1 (good_then (Of names ρ) _ (go x.0) _ (h x.0 x.2) λ y u. good_copy _ 1 _ (of_label u))

-- ---- queries: figure 13

module _ (S : Script) where
  -- every call is of a procedure that there is, and every procedure keeps its declaration
  abbrev pub Named-procedures : Type 0
  Named-procedures = (i c : ℕ) (l : List ℕ) → statement_at S i ≡ Statement.call c l → in_table S.procedures c ≡ true

  abbrev pub Kept : Type 0
  Kept = (c : ℕ) → 1 ≤ c → c ≤ S.procedures → Passes S (declaration S c).parameters (S.procedure_row c).body (declaration S c).input (declaration S c).output

module _ (S : Script) (byte : ℕ → ℕ) where
  abbrev pub Is : Ty → Forest → Type 0
  Is = Of (names_in S)

  abbrev pub Values : Env → Types → Type 0
  Values = Fit (names_in S)

  -- given what the rows below do
  module _ (go : Env → ℕ → Quiet Forest) (ih : (Γ : Types) (γ : Env) (i : ℕ) (τ : Ty) → Has S Γ i τ → Values γ Γ → Good (Is τ) (go γ i)) (Γ : Types) (γ : Env) (env : Values γ Γ) where
    abbrev turn : ℕ → Forest → Quiet Forest
    turn q t = go (γ ++ t ∷ []) q

    good_for : (q : ℕ) {τ σ : Ty} {f : Forest} → HasEach S Γ q τ σ → Is τ f → Good (Is σ) (each (turn q) f)
    unfolding each Safe
    good_for q e_empty of_empty = of_empty
    good_for q (e_atom {α = α} {σ = σ} a h) o = let x = one_tree (names_in S) a o in
        rw x.1 (each_one (turn q) (Is σ) x.0 (ih (Γ ++ α ∷ []) (γ ++ only x.0 ∷ []) q σ h (fit_also (names_in S) env (rw x.1 at o))))
    good_for q (e_seq {σ = σ} {σ' = σ'} h k) (of_seq {f = f} {g = g} o u) = each_two (turn q) (Is σ) (Is σ') _ f g (good_for q h o) (good_for q k u) λ x y a b. of_seq a b
    good_for q (e_choice {σ = σ} {σ' = σ'} h k) (of_left {f = f} o) = good_map (Is σ) _ (each (turn q) f) (good_for q h o) λ x a. of_left a
    good_for q (e_choice {σ = σ} {σ' = σ'} h k) (of_right {f = f} o) = good_map (Is σ') _ (each (turn q) f) (good_for q k o) λ x a. of_right a
    good_for q (e_star {τ = τ} {σ = σ} h) o = each_star (turn q) (names_in S) τ σ (λ f u. good_for q h u) o

    -- row i by its form
    row : (P : Forest → Type 0) (i : ℕ) (k : Query) → query_at S i ≡ k → Good P (query_of byte k i go γ) → Good P (query_of byte (query_at S i) i go γ)
    row P i k e h = subst (λ c. Good P (query_of byte c i go γ)) (sym e) h

    good_query : (i : ℕ) {τ : Ty} → Has S Γ i τ → Good (Is τ) (query_of byte (query_at S i) i go γ)
    unfolding query_of Safe
    good_query i (h_empty e) = row _ i _ e of_empty
    good_query i (h_join {p = p} {q = q} {τ = τ} {σ = σ} e a b) = row _ i _ e (
        good_then (Is τ) _ (go γ p) _ (ih Γ γ p τ a env) λ x o. good_then (Is σ) _ (go γ q) _ (ih Γ γ q σ b env) λ y u. good_copy _ (count x) _ (of_seq o u))
    good_query i (h_tree {q = q} {τ = τ} e a) = row _ i _ e (good_then (Is τ) _ (go γ q) _ (ih Γ γ q τ a env) λ x o. good_copy _ 1 _ (of_label o))
    good_query i (h_text e) = row _ i _ e (good_copy _ 1 _ of_text)
    good_query i (h_bool e) = row _ i _ e (good_copy _ 1 _ of_bool)
    good_query i (h_variable {v = v} e d) = row _ i _ e (rw (← d) (fit_at (names_in S) env v))
    good_query i (h_let {p = p} {q = q} {τ = τ} {σ = σ} e a b) = row _ i _ e (
        good_then (Is τ) _ (go γ p) _ (ih Γ γ p τ a env) λ x o. ih (Γ ++ τ ∷ []) (γ ++ x ∷ []) q σ b (fit_also (names_in S) env o))
    good_query i (h_if {p = p} {q = q} {r = r} {c = c} {τ = τ} {σ = σ} e a w b d) = row _ i _ e (
        good_then (Is c) _ (go γ p) _ (ih Γ γ p c a env) λ x o. good_branch (names_in S) _ _ (w x o) (go γ q) (go γ r)
        (good_map (Is τ) _ (go γ q) (ih Γ γ q τ b env) λ y u. of_left u) (good_map (Is σ) _ (go γ r) (ih Γ γ r σ d env) λ y u. of_right u))
    good_query i (h_same {p = p} {q = q} {τ = τ} {σ = σ} e a b v w) = row _ i _ e (
        good_then (Is τ) _ (go γ p) _ (ih Γ γ p τ a env) λ x o. good_then (Is σ) _ (go γ q) _ (ih Γ γ q σ b env) λ y u. good_same (names_in S) _ (v x o) (w y u))
    good_query i (h_children {v = v} {n = n} {τ = τ} e a) = row _ i _ e (
        inside_of (names_in S) (get_or Γ v Ty.empty) (fit_at (names_in S) env v) n τ (labelled_atom (names_in S) a))
    good_query i (h_childless {v = v} e a) = row _ i _ e (inside_none (names_in S) a (fit_at (names_in S) env v))
    good_query i (h_pick {p = p} {l = l} {τ = τ} e a k) = row _ i _ e (good_then (Is τ) _ (go γ p) _ (ih Γ γ p τ a env) λ x o. good_copy _ (count (kept l x)) _ (picked_of (names_in S) l k o))
    good_query i (h_for {p = p} {q = q} {τ = τ} e a h) = row _ i _ e (good_then (Is τ) _ (go γ p) _ (ih Γ γ p τ a env) λ x o. good_for q h o)

    good_arguments : {l : List ℕ} {m : List Ty} → HasAll S Γ l m → Good (λ x. Values x m) (arguments (go γ) l)
    unfolding arguments Safe
    good_arguments has_none = fit_none
    good_arguments (has_more {q = q} {l = l} {τ = τ} {m = m} a k) =
        good_then (Is τ) _ (go γ q) _ (ih Γ γ q τ a env) λ x o. good_then (λ y. Values y m) _ (arguments (go γ) l) _ (good_arguments k) λ y e. fit_more o e

  query_good : (d : ℕ) (Γ : Types) (γ : Env) (i : ℕ) (τ : Ty) → Has S Γ i τ → Values γ Γ → Good (Is τ) (query S byte d γ i)
  unfolding query Safe
  query_good zero Γ γ i τ h e = tt
  query_good (suc d) Γ γ i τ h e = good_query (query S byte d) (query_good d) Γ γ e i h

  -- ---- statements: figure 4

  -- values of types that lie in the declared ones are of these
  lying : {x : Env} {l m : List Ty} → Lie S l m → Values x l → Values x m
  lying lie_none fit_none = fit_none
  lying (lie_more w k) (fit_more {x = x} o e) = fit_more (w x o) (lying k e)

  module _ (named : Named-procedures S) (procedures : Kept S) where
    -- given what the rows below do
    module _ (go : Env → ℕ → Forest → Quiet Forest) (ih : (Γ : Types) (γ : Env) (i : ℕ) (τ σ : Ty) (f : Forest) → Typed S Γ i τ σ → Values γ Γ → Is τ f → Good (Is σ) (go γ i f))
        (asks : Env → ℕ → Quiet Forest) (ah : (Γ : Types) (γ : Env) (i : ℕ) (τ : Ty) → Has S Γ i τ → Values γ Γ → Good (Is τ) (asks γ i)) (Γ : Types) (γ : Env) (env : Values γ Γ) where
      good_iter : (p : ℕ) {τ σ : Ty} {f : Forest} → TypedEach S Γ p τ σ → Is τ f → Good (Is σ) (each (go γ p) f)
      unfolding each Safe
      good_iter p i_empty of_empty = of_empty
      good_iter p (i_atom {α = α} {σ = σ} a h) o = let x = one_tree (names_in S) a o in
          rw x.1 (each_one (go γ p) (Is σ) x.0 (ih Γ γ p α σ (only x.0) h env (rw x.1 at o)))
      good_iter p (i_seq {σ = σ} {σ' = σ'} h k) (of_seq {f = f} {g = g} o u) = each_two (go γ p) (Is σ) (Is σ') _ f g (good_iter p h o) (good_iter p k u) λ x y a b. of_seq a b
      good_iter p (i_choice {σ = σ} {σ' = σ'} h k) (of_left {f = f} o) = good_map (Is σ) _ (each (go γ p) f) (good_iter p h o) λ x a. of_left a
      good_iter p (i_choice {σ = σ} {σ' = σ'} h k) (of_right {f = f} o) = good_map (Is σ') _ (each (go γ p) f) (good_iter p k o) λ x a. of_right a
      good_iter p (i_star {τ = τ} {σ = σ} h) o = each_star (go γ p) (names_in S) τ σ (λ f u. good_iter p h u) o

      abbrev does : Statement → ℕ → Forest → Quiet Forest
      does k i f = statement_of k i go asks (λ c. (S.procedure_row c).body) γ f

      row_does : (P : Forest → Type 0) (i : ℕ) (f : Forest) (k : Statement) → statement_at S i ≡ k → Good P (does k i f) → Good P (does (statement_at S i) i f)
      row_does P i f k e h = subst (λ c. Good P (does c i f)) (sym e) h

      good_statement : (i : ℕ) {τ σ : Ty} (f : Forest) → Typed S Γ i τ σ → Is τ f → Good (Is σ) (does (statement_at S i) i f)
      unfolding statement_of Safe
      good_statement i f (y_skip e) o = row_does _ i f _ e o
      good_statement i f (y_then {p = p} {q = q} {τ = τ} {σ = σ} {ρ = ρ} e a b) o = row_does _ i f _ e (good_then (Is σ) _ (go γ p f) _ (ih Γ γ p τ σ f a env o) λ x u. ih Γ γ q σ ρ x b env u)
      good_statement i f (y_if {p = p} {q = q} {r = r} {c = c} {τ = τ} {σ = σ} {ρ = ρ} e a w b d) o = row_does _ i f _ e (
          good_then (Is c) _ (asks γ p) _ (ah Γ γ p c a env) λ x u. good_branch (names_in S) _ _ (w x u) (go γ q f) (go γ r f)
          (good_map (Is σ) _ (go γ q f) (ih Γ γ q τ σ f b env o) λ y v. of_left v) (good_map (Is ρ) _ (go γ r f) (ih Γ γ r τ ρ f d env o) λ y v. of_right v))
      good_statement i f (y_insert {p = p} {σ = σ} e w a) o = row_does _ i f _ e (good_insert (names_in S) _ _ (w f o) (asks γ p) (ah Γ γ p σ a env))
      good_statement i f (y_delete e) o = row_does _ i f _ e of_empty
      good_statement i f (y_rename {l = l} {n = n} {α = α} {τ = τ} e a) o = row_does _ i f _ e (good_rename (names_in S) _ l α o n τ (labelled_atom (names_in S) a))
      good_statement i f (y_let {p = p} {q = q} {ρ = ρ} {τ = τ} {σ = σ} e a b) o = row_does _ i f _ e (
          good_then (Is ρ) _ (asks γ p) _ (ah Γ γ p ρ a env) λ x u. ih (Γ ++ ρ ∷ []) (γ ++ x ∷ []) q τ σ f b (fit_also (names_in S) env u) o)
      good_statement i f (y_snapshot {p = p} {τ = τ} {σ = σ} e a) o = row_does _ i f _ e (ih (Γ ++ τ ∷ []) (γ ++ f ∷ []) p τ σ f a (fit_also (names_in S) env o) o)
      good_statement i f (y_test {r = r} {t = t} {τ = τ} {σ = σ} e m a) o =
          row_does _ i f _ e (good_matched (Is σ) _ (is_matched (names_in S) τ o t (matches_tests (names_in S) m)) f (go γ r) (ih Γ γ r τ σ f a env o))
      good_statement i f (y_pass {r = r} {t = t} {τ = τ} e m) o = row_does _ i f _ e (good_passed (Is τ) _ (is_passed (names_in S) τ o t (differs_tests (names_in S) m)) f (go γ r) o)
      good_statement i f (y_children {p = p} {n = n} {α = α} {τ = τ} {σ = σ} e m a) o =
          row_does _ i f _ e (good_children (names_in S) _ (go γ p) α o n τ σ (labelled_atom (names_in S) m) λ g u. ih Γ γ p τ σ g a env u)
      good_statement i f (y_left {p = p} {σ = σ} e a) o = row_does _ i f _ e (good_then (Is σ) _ (go γ p nil) _ (ih Γ γ p Ty.empty σ nil a env of_empty) λ x u. good_copy _ (count x) _ (of_seq u o))
      good_statement i f (y_right {p = p} {σ = σ} e a) o = row_does _ i f _ e (good_then (Is σ) _ (go γ p nil) _ (ih Γ γ p Ty.empty σ nil a env of_empty) λ x u. good_copy _ (count f) _ (of_seq o u))
      good_statement i f (y_iter {p = p} e a) o = row_does _ i f _ e (good_iter p a o)
      good_statement i f (y_call {c = c} {l = l} {m = m} {σ = σ} e w a k d) o = row_does _ i f _ e (
          let n = named i c l e in let b = procedures c (table_low _ c n) (table_high _ c n) in
          good_then (λ x. Values x m) _ (arguments (asks γ) l) _ (good_arguments asks ah Γ γ env a) λ x u.
          good_map (Is b.output) _ (go x (S.procedure_row c).body f)
          (ih (declaration S c).parameters x (S.procedure_row c).body (declaration S c).input b.output f b.typed (lying k u) (w f o)) λ y v. rw (← d) (b.lies y v))

    statement_good : (d : ℕ) (Γ : Types) (γ : Env) (i : ℕ) (τ σ : Ty) (f : Forest) → Typed S Γ i τ σ → Values γ Γ → Is τ f → Good (Is σ) (statement S byte d γ i f)
    unfolding statement Safe
    statement_good zero Γ γ i τ σ f h e o = tt
    statement_good (suc d) Γ γ i τ σ f h e o = good_statement (statement S byte d) (statement_good d) (query S byte d) (query_good d) Γ γ e i f h o

    -- ---- so, for every purse

    pub typed_sound : (d n : ℕ) (Γ : Types) (γ : Env) (i : ℕ) (τ σ : Ty) (f : Forest) → Typed S Γ i τ σ → Values γ Γ → Is τ f → Ends (names_in S) σ (settle (statement S byte d γ i f) n).verdict
    typed_sound d n Γ γ i τ σ f h e o = good_ends (names_in S) σ (statement S byte d γ i f) n (statement_good d Γ γ i τ σ f h e o)

  pub has_sound : (d n : ℕ) (Γ : Types) (γ : Env) (i : ℕ) (τ : Ty) → Has S Γ i τ → Values γ Γ → Ends (names_in S) τ (settle (query S byte d γ i) n).verdict
  has_sound d n Γ γ i τ h e = good_ends (names_in S) τ (query S byte d γ i) n (query_good d Γ γ i τ h e)
