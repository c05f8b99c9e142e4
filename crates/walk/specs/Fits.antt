-- Shape's test of a query's scope, for the walks of run and check alike: a place of kind 2 holds a tree; the test taken apart row by row, in as many steps as there are levels of depth left.
use Rattle.std.specs.Prelude.{ℕ, suc, ◌-◌, ◌≤◌, ◌<◌, ◌≡◌, refl, Bool, true, ◌&&◌, cond, List, [], ◌∷◌, ◌++◌, eqb, length}
use Rattle.std.proofs.Common.{arith, sym, ◌∙◌, ltb-true, length-take-le}
use Rattle.std.proofs.Math.Path.{ap}
use Rattle.meaning.specs.Sheet.{Cells, script_of}
use Rattle.meaning.specs.Kinds.{Query, query_form, query_at}
use Rattle.meaning.specs.Shape.{Holds, a_forest, a_tree, has_place, query_scope, query_scoped}
use Rattle.meaning.specs.Laws.Bools.{and_left, and_right}
use Rattle.walk.specs.Scope.{live, Scoped, More}
use Rattle.walk.specs.declared.Place.{Place}
use Rattle.walk.specs.declared.Scope.{Scope}

abbrev pub holds_of : ℕ → Holds
holds_of k = cond (eqb k 2) a_tree a_forest

unfoldable pub held : List Place → List Holds
held [] = []
held (p ∷ l) = holds_of p.kind ∷ held l

abbrev pub shape_of : Scope → List Holds
shape_of e = held (live e)

-- Shape's test of a query row, of what a row says, and of a body with a tree variable more
abbrev pub fits : List ℕ → ℕ → Scope → ℕ → Bool
fits s d e at = query_scoped (script_of s) d (shape_of e) at

abbrev pub fits_row : List ℕ → ℕ → Scope → Query → Bool
fits_row s d e form = query_scope form (query_scoped (script_of s) d) (shape_of e)

abbrev pub fits_body : List ℕ → ℕ → Scope → ℕ → Bool
fits_body s d e at = has_place (shape_of e) && query_scoped (script_of s) d (shape_of e ++ a_tree ∷ []) at

-- ---- Shape's test, taken apart

held_length : (l : List Place) → length (held l) ≡ length l
unfolding held
held_length [] = refl
held_length (p ∷ l) = ap suc (held_length l)

held_last : (l : List Place) (p : Place) → held (l ++ p ∷ []) ≡ held l ++ holds_of p.kind ∷ []
unfolding held
held_last [] p = refl
held_last (o ∷ l) p = ap (λ (x : List Holds). holds_of o.kind ∷ x) (held_last l p)

-- the shape with a place more
pub shape_with : {e e' : Scope} {k v : ℕ} → More e e' k v → shape_of e' ≡ shape_of e ++ holds_of k ∷ []
shape_with {e} {e'} {k} {v} m = ap held m.live ∙ held_last (live e) (record { kind = k; value = v })

-- a binder finds a place
pub a_place : {n : ℕ} {e : Scope} → Scoped n e → has_place (shape_of e) ≡ true → e.count < 16
a_place {n} {e} c h =
    let full = length-take-le e.count e.places (omega (arith, c.few, c.sixteen)) in
    let lt = ltb-true (length (shape_of e)) 16 h in
    omega (arith, held_length (live e))

module _ (s : List ℕ) (d : ℕ) (e : Scope) where
  abbrev go : List Holds → ℕ → Bool
  go = query_scoped (script_of s) d

  pub fits_join : (p q : ℕ) → fits_row s d e (Query.join p q) ≡ true → (fits s d e p ≡ true) × (fits s d e q ≡ true)
  unfolding query_scope
  fits_join p q h = (and_left (fits s d e p) (fits s d e q) h, and_right (fits s d e p) (fits s d e q) h)

  pub fits_same : (p q : ℕ) → fits_row s d e (Query.same p q) ≡ true → (fits s d e p ≡ true) × (fits s d e q ≡ true)
  unfolding query_scope
  fits_same p q h = (and_left (fits s d e p) (fits s d e q) h, and_right (fits s d e p) (fits s d e q) h)

  pub fits_tree : (n q : ℕ) → fits_row s d e (Query.tree n q) ≡ true → fits s d e q ≡ true
  unfolding query_scope
  fits_tree n q h = h

  pub fits_pick : (p n : ℕ) → fits_row s d e (Query.pick p n) ≡ true → fits s d e p ≡ true
  unfolding query_scope
  fits_pick p n h = h

  pub fits_if : (p q r : ℕ) → fits_row s d e (Query.if p q r) ≡ true → (fits s d e p ≡ true) × (fits s d e q ≡ true) × (fits s d e r ≡ true)
  unfolding query_scope
  fits_if p q r h =
      let pq = and_left (fits s d e p && fits s d e q) (fits s d e r) h in
      (and_left (fits s d e p) (fits s d e q) pq, and_right (fits s d e p) (fits s d e q) pq, and_right (fits s d e p && fits s d e q) (fits s d e r) h)

  pub fits_let : (p q : ℕ) → fits_row s d e (Query.letin p q) ≡ true → (fits s d e p ≡ true) × (has_place (shape_of e) ≡ true) × (go (shape_of e ++ a_forest ∷ []) q ≡ true)
  unfolding query_scope
  fits_let p q h =
      let pq = and_left (fits s d e p && has_place (shape_of e)) (go (shape_of e ++ a_forest ∷ []) q) h in (
        and_left (fits s d e p) (has_place (shape_of e)) pq,
        and_right (fits s d e p) (has_place (shape_of e)) pq,
        and_right (fits s d e p && has_place (shape_of e)) (go (shape_of e ++ a_forest ∷ []) q) h,
      )

  pub fits_for : (p q : ℕ) → fits_row s d e (Query.for p q) ≡ true → (fits s d e p ≡ true) × (fits_body s d e q ≡ true)
  unfolding query_scope
  fits_for p q h =
      let pq = and_left (fits s d e p && has_place (shape_of e)) (go (shape_of e ++ a_tree ∷ []) q) h in
      let b = and_right (fits s d e p && has_place (shape_of e)) (go (shape_of e ++ a_tree ∷ []) q) h in
      (and_left (fits s d e p) (has_place (shape_of e)) pq, rw (and_right (fits s d e p) (has_place (shape_of e)) pq, b))

  pub fits_turn : (q : ℕ) → fits_body s d e q ≡ true → (has_place (shape_of e) ≡ true) × (go (shape_of e ++ a_tree ∷ []) q ≡ true)
  fits_turn q h = (and_left (has_place (shape_of e)) (go (shape_of e ++ a_tree ∷ []) q) h, and_right (has_place (shape_of e)) (go (shape_of e ++ a_tree ∷ []) q) h)

  -- with the place
  pub fits_more : {e' : Scope} {k v : ℕ} (q : ℕ) → More e e' k v → go (shape_of e ++ holds_of k ∷ []) q ≡ true → fits s d e' q ≡ true
  fits_more q m h = ap (λ (x : List Holds). go x q) (shape_with m) ∙ h

-- ---- what a row says

pub query_is : (s : List ℕ) (at : ℕ) {c : Cells} → c ≡ (script_of s).query_row at → {form : Query} → form ≡ query_form c → query_at (script_of s) at ≡ form
query_is s at is e = ap query_form (sym is) ∙ sym e

-- a level of depth is left
pub deeper : (d : ℕ) → (d ≡ 0 → ⊥) → d ≡ suc (d - 1)
deeper d some = omega arith

module _ (s : List ℕ) (e : Scope) (d at : ℕ) {form : Query} (some : d ≡ 0 → ⊥) (is : query_at (script_of s) at ≡ form) where
  pub fits_form : fits s d e at ≡ true → fits_row s (d - 1) e form ≡ true
  unfolding query_scoped
  fits_form h = ap (λ (x : Query). fits_row s (d - 1) e x) (sym is) ∙ ap (λ (n : ℕ). fits s n e at) (sym (deeper d some)) ∙ h
