-- Row kind by row kind: a row is scoped exactly if it passes its own rule and its parts are scoped under what it hands them.
use mathlib.Core.Path.{◌≡◌, refl}
use mathlib.Core.List.{[], ◌∷◌}
use mathlib.Core.Bool.{Bool, true, false, ◌&&◌, cond, false≢true}
use Prim.Native.Nat.{ℕ, zero, suc}
use lib.Dec.{eqb}
use Rattle.meaning.specs.Laws.Bools.{and_left, and_right, and_both}
use Rattle.meaning.specs.Laws.Shaped.{cells}
use Rattle.meaning.specs.Kinds.{query_form, statement_form}
use Rattle.meaning.specs.Shape.{Use, own, asking, Scope, has_place, query_scope, statement_scope, arguments_scope}
use Rattle.shape_scope.specs.Scopes.{Each, none, more, takes, with_forest, with_tree, statement_parts, statement_asks, query_parts, statement_rule, query_rule}
use Rattle.shape_scope.specs.Hands.{each_head, each_tail}

pub by_14 : (P : ℕ → Type 0) → P 0 → P 1 → P 2 → P 3 → P 4 → P 5 → P 6 → P 7 → P 8 → P 9 → P 10 → P 11 → P 12 → P 13 → ((k : ℕ) → P (suc (suc (suc (suc (suc (suc (suc (suc (suc (suc (suc (suc (suc (suc k))))))))))))))) → (k : ℕ) → P k
by_14 P c0 c1 c2 c3 c4 c5 c6 c7 c8 c9 c10 c11 c12 c13 past zero = c0
by_14 P c0 c1 c2 c3 c4 c5 c6 c7 c8 c9 c10 c11 c12 c13 past (suc zero) = c1
by_14 P c0 c1 c2 c3 c4 c5 c6 c7 c8 c9 c10 c11 c12 c13 past (suc (suc zero)) = c2
by_14 P c0 c1 c2 c3 c4 c5 c6 c7 c8 c9 c10 c11 c12 c13 past (suc (suc (suc zero))) = c3
by_14 P c0 c1 c2 c3 c4 c5 c6 c7 c8 c9 c10 c11 c12 c13 past (suc (suc (suc (suc zero)))) = c4
by_14 P c0 c1 c2 c3 c4 c5 c6 c7 c8 c9 c10 c11 c12 c13 past (suc (suc (suc (suc (suc zero))))) = c5
by_14 P c0 c1 c2 c3 c4 c5 c6 c7 c8 c9 c10 c11 c12 c13 past (suc (suc (suc (suc (suc (suc zero)))))) = c6
by_14 P c0 c1 c2 c3 c4 c5 c6 c7 c8 c9 c10 c11 c12 c13 past (suc (suc (suc (suc (suc (suc (suc zero))))))) = c7
by_14 P c0 c1 c2 c3 c4 c5 c6 c7 c8 c9 c10 c11 c12 c13 past (suc (suc (suc (suc (suc (suc (suc (suc zero)))))))) = c8
by_14 P c0 c1 c2 c3 c4 c5 c6 c7 c8 c9 c10 c11 c12 c13 past (suc (suc (suc (suc (suc (suc (suc (suc (suc zero))))))))) = c9
by_14 P c0 c1 c2 c3 c4 c5 c6 c7 c8 c9 c10 c11 c12 c13 past (suc (suc (suc (suc (suc (suc (suc (suc (suc (suc zero)))))))))) = c10
by_14 P c0 c1 c2 c3 c4 c5 c6 c7 c8 c9 c10 c11 c12 c13 past (suc (suc (suc (suc (suc (suc (suc (suc (suc (suc (suc zero))))))))))) = c11
by_14 P c0 c1 c2 c3 c4 c5 c6 c7 c8 c9 c10 c11 c12 c13 past (suc (suc (suc (suc (suc (suc (suc (suc (suc (suc (suc (suc zero)))))))))))) = c12
by_14 P c0 c1 c2 c3 c4 c5 c6 c7 c8 c9 c10 c11 c12 c13 past (suc (suc (suc (suc (suc (suc (suc (suc (suc (suc (suc (suc (suc zero))))))))))))) = c13
by_14 P c0 c1 c2 c3 c4 c5 c6 c7 c8 c9 c10 c11 c12 c13 past (suc (suc (suc (suc (suc (suc (suc (suc (suc (suc (suc (suc (suc (suc k)))))))))))))) = past k

pub by_15 : (P : ℕ → Type 0) → P 0 → P 1 → P 2 → P 3 → P 4 → P 5 → P 6 → P 7 → P 8 → P 9 → P 10 → P 11 → P 12 → P 13 → P 14 → ((k : ℕ) → P (suc (suc (suc (suc (suc (suc (suc (suc (suc (suc (suc (suc (suc (suc (suc k)))))))))))))))) → (k : ℕ) → P k
by_15 P c0 c1 c2 c3 c4 c5 c6 c7 c8 c9 c10 c11 c12 c13 c14 past zero = c0
by_15 P c0 c1 c2 c3 c4 c5 c6 c7 c8 c9 c10 c11 c12 c13 c14 past (suc zero) = c1
by_15 P c0 c1 c2 c3 c4 c5 c6 c7 c8 c9 c10 c11 c12 c13 c14 past (suc (suc zero)) = c2
by_15 P c0 c1 c2 c3 c4 c5 c6 c7 c8 c9 c10 c11 c12 c13 c14 past (suc (suc (suc zero))) = c3
by_15 P c0 c1 c2 c3 c4 c5 c6 c7 c8 c9 c10 c11 c12 c13 c14 past (suc (suc (suc (suc zero)))) = c4
by_15 P c0 c1 c2 c3 c4 c5 c6 c7 c8 c9 c10 c11 c12 c13 c14 past (suc (suc (suc (suc (suc zero))))) = c5
by_15 P c0 c1 c2 c3 c4 c5 c6 c7 c8 c9 c10 c11 c12 c13 c14 past (suc (suc (suc (suc (suc (suc zero)))))) = c6
by_15 P c0 c1 c2 c3 c4 c5 c6 c7 c8 c9 c10 c11 c12 c13 c14 past (suc (suc (suc (suc (suc (suc (suc zero))))))) = c7
by_15 P c0 c1 c2 c3 c4 c5 c6 c7 c8 c9 c10 c11 c12 c13 c14 past (suc (suc (suc (suc (suc (suc (suc (suc zero)))))))) = c8
by_15 P c0 c1 c2 c3 c4 c5 c6 c7 c8 c9 c10 c11 c12 c13 c14 past (suc (suc (suc (suc (suc (suc (suc (suc (suc zero))))))))) = c9
by_15 P c0 c1 c2 c3 c4 c5 c6 c7 c8 c9 c10 c11 c12 c13 c14 past (suc (suc (suc (suc (suc (suc (suc (suc (suc (suc zero)))))))))) = c10
by_15 P c0 c1 c2 c3 c4 c5 c6 c7 c8 c9 c10 c11 c12 c13 c14 past (suc (suc (suc (suc (suc (suc (suc (suc (suc (suc (suc zero))))))))))) = c11
by_15 P c0 c1 c2 c3 c4 c5 c6 c7 c8 c9 c10 c11 c12 c13 c14 past (suc (suc (suc (suc (suc (suc (suc (suc (suc (suc (suc (suc zero)))))))))))) = c12
by_15 P c0 c1 c2 c3 c4 c5 c6 c7 c8 c9 c10 c11 c12 c13 c14 past (suc (suc (suc (suc (suc (suc (suc (suc (suc (suc (suc (suc (suc zero))))))))))))) = c13
by_15 P c0 c1 c2 c3 c4 c5 c6 c7 c8 c9 c10 c11 c12 c13 c14 past (suc (suc (suc (suc (suc (suc (suc (suc (suc (suc (suc (suc (suc (suc zero)))))))))))))) = c14
by_15 P c0 c1 c2 c3 c4 c5 c6 c7 c8 c9 c10 c11 c12 c13 c14 past (suc (suc (suc (suc (suc (suc (suc (suc (suc (suc (suc (suc (suc (suc (suc k))))))))))))))) = past k

-- ---- words whose use hangs on another word

pub tester_own : (b : Bool) → own (cond b Use.label Use.unused) ≡ false
unfolding own
tester_own true = refl
tester_own false = refl

pub tester_asks : (b : Bool) → asking (cond b Use.label Use.unused) ≡ false
unfolding asking
tester_asks true = refl
tester_asks false = refl

pub argument_own : (b : Bool) → own (cond b Use.unused Use.query) ≡ false
unfolding own
argument_own true = refl
argument_own false = refl

-- a call's arguments: those that are not 0
module _ (q r : ℕ) (asks : Scope → ℕ → Bool) (Γ : Scope) where
  arguments_in : (a b : Bool) → (a ≡ true → b ≡ true) → arguments_scope (asks Γ) (cond a [] (cond b (q ∷ []) (q ∷ r ∷ []))) ≡ true
      → Each (λ p Γ. asks Γ p ≡ true) (takes (asking (cond a Use.unused Use.query)) q Γ (takes (asking (cond b Use.unused Use.query)) r Γ []))
  unfolding arguments_scope asking takes
  arguments_in true true f h = none
  arguments_in true false f h = absurd (false≢true (f refl))
  arguments_in false true f h = more (and_left (asks Γ q) true h) none
  arguments_in false false f h = more (and_left (asks Γ q) (asks Γ r && true) h) (more (and_left (asks Γ r) true (and_right (asks Γ q) (asks Γ r && true) h)) none)

  arguments_out : (a b : Bool) → Each (λ p Γ. asks Γ p ≡ true) (takes (asking (cond a Use.unused Use.query)) q Γ (takes (asking (cond b Use.unused Use.query)) r Γ []))
      → arguments_scope (asks Γ) (cond a [] (cond b (q ∷ []) (q ∷ r ∷ []))) ≡ true
  unfolding arguments_scope asking takes
  arguments_out true b e = refl
  arguments_out false true e = and_both (asks Γ q) true (each_head e) refl
  arguments_out false false e = and_both (asks Γ q) (asks Γ r && true) (each_head e) (and_both (asks Γ r) true (each_head (each_tail e)) refl)

-- ---- statements

module _ (p q r : ℕ) (go asks : Scope → ℕ → Bool) (Γ : Scope) where
  abbrev pub InStatement : ℕ → Type 0
  InStatement k = (k ≡ 14 → eqb q 0 ≡ true → eqb r 0 ≡ true) → statement_scope (statement_form (cells k p q r)) go asks Γ ≡ true
      → (statement_rule (cells k p q r) Γ ≡ true) × Each (λ p Γ. go Γ p ≡ true) (statement_parts (cells k p q r) Γ) × Each (λ p Γ. asks Γ p ≡ true) (statement_asks (cells k p q r) Γ)

  pub statement_in_lem : (k : ℕ) → InStatement k
  unfolding statement_scope statement_rule statement_parts statement_asks takes own asking
  statement_in_lem = by_15 InStatement
      (λ f h. (refl, none, none))
      (λ f h. (refl, none, none))
      (λ f h. (refl, more (and_left (go Γ p) (go Γ q) h) (more (and_right (go Γ p) (go Γ q) h) none), none))
      (λ f h. (
        refl,
        more (and_right (asks Γ p) (go Γ q) (and_left (asks Γ p && go Γ q) (go Γ r) h)) (more (and_right (asks Γ p && go Γ q) (go Γ r) h) none),
        more (and_left (asks Γ p) (go Γ q) (and_left (asks Γ p && go Γ q) (go Γ r) h)) none,
      ))
      (λ f h. (refl, none, more h none))
      (λ f h. (refl, none, none))
      (λ f h. (refl, none, none))
      (λ f h. (
        and_right (asks Γ p) (has_place Γ) (and_left (asks Γ p && has_place Γ) (go (with_forest Γ) q) h),
        more (and_right (asks Γ p && has_place Γ) (go (with_forest Γ) q) h) none,
        more (and_left (asks Γ p) (has_place Γ) (and_left (asks Γ p && has_place Γ) (go (with_forest Γ) q) h)) none,
      ))
      (λ f h. (and_left (has_place Γ) (go (with_forest Γ) p) h, more (and_right (has_place Γ) (go (with_forest Γ) p) h) none, none))
      (λ f h. rw (tester_own (eqb p 2), tester_asks (eqb p 2)) (refl, more h none, none))
      (λ f h. (refl, more h none, none))
      (λ f h. (refl, more h none, none))
      (λ f h. (refl, more h none, none))
      (λ f h. (refl, more h none, none))
      (λ f h. rw (argument_own (eqb q 0), argument_own (eqb r 0)) (refl, none, arguments_in q r asks Γ (eqb q 0) (eqb r 0) (f refl) h))
      (λ k f h. (refl, none, none))

  abbrev pub OutStatement : ℕ → Type 0
  OutStatement k = statement_rule (cells k p q r) Γ ≡ true → Each (λ p Γ. go Γ p ≡ true) (statement_parts (cells k p q r) Γ)
      → Each (λ p Γ. asks Γ p ≡ true) (statement_asks (cells k p q r) Γ) → statement_scope (statement_form (cells k p q r)) go asks Γ ≡ true

  pub statement_out : (k : ℕ) → OutStatement k
  unfolding statement_scope statement_rule statement_parts statement_asks takes own asking
  statement_out = by_15 OutStatement
      (λ h e f. refl)
      (λ h e f. refl)
      (λ h e f. and_both (go Γ p) (go Γ q) (each_head e) (each_head (each_tail e)))
      (λ h e f. and_both (asks Γ p && go Γ q) (go Γ r) (and_both (asks Γ p) (go Γ q) (each_head f) (each_head e)) (each_head (each_tail e)))
      (λ h e f. each_head f)
      (λ h e f. refl)
      (λ h e f. refl)
      (λ h e f. and_both (asks Γ p && has_place Γ) (go (with_forest Γ) q) (and_both (asks Γ p) (has_place Γ) (each_head f) h) (each_head e))
      (λ h e f. and_both (has_place Γ) (go (with_forest Γ) p) h (each_head e))
      (λ h e f. each_head (rw (tester_own (eqb p 2)) at e))
      (λ h e f. each_head e)
      (λ h e f. each_head e)
      (λ h e f. each_head e)
      (λ h e f. each_head e)
      (λ h e f. arguments_out q r asks Γ (eqb q 0) (eqb r 0) f)
      (λ k h e f. refl)

-- ---- queries

module _ (p q r : ℕ) (go : Scope → ℕ → Bool) (Γ : Scope) where
  abbrev pub InQuery : ℕ → Type 0
  InQuery k = query_scope (query_form (cells k p q r)) go Γ ≡ true → (query_rule (cells k p q r) Γ ≡ true) × Each (λ p Γ. go Γ p ≡ true) (query_parts (cells k p q r) Γ)

  pub query_in_lem : (k : ℕ) → InQuery k
  unfolding query_scope query_rule query_parts takes own
  query_in_lem = by_14 InQuery
      (λ h. (refl, none))
      (λ h. (refl, none))
      (λ h. (refl, more (and_left (go Γ p) (go Γ q) h) (more (and_right (go Γ p) (go Γ q) h) none)))
      (λ h. (refl, more h none))
      (λ h. (refl, none))
      (λ h. (refl, none))
      (λ h. (refl, none))
      (λ h. (h, none))
      (λ h. (
        and_right (go Γ p) (has_place Γ) (and_left (go Γ p && has_place Γ) (go (with_forest Γ) q) h),
        more (and_left (go Γ p) (has_place Γ) (and_left (go Γ p && has_place Γ) (go (with_forest Γ) q) h)) (more (and_right (go Γ p && has_place Γ) (go (with_forest Γ) q) h) none),
      ))
      (λ h. (
        refl,
        more (and_left (go Γ p) (go Γ q) (and_left (go Γ p && go Γ q) (go Γ r) h))
            (more (and_right (go Γ p) (go Γ q) (and_left (go Γ p && go Γ q) (go Γ r) h)) (more (and_right (go Γ p && go Γ q) (go Γ r) h) none)),
      ))
      (λ h. (refl, more (and_left (go Γ p) (go Γ q) h) (more (and_right (go Γ p) (go Γ q) h) none)))
      (λ h. (h, none))
      (λ h. (refl, more h none))
      (λ h. (
        and_right (go Γ p) (has_place Γ) (and_left (go Γ p && has_place Γ) (go (with_tree Γ) q) h),
        more (and_left (go Γ p) (has_place Γ) (and_left (go Γ p && has_place Γ) (go (with_tree Γ) q) h)) (more (and_right (go Γ p && has_place Γ) (go (with_tree Γ) q) h) none),
      ))
      (λ k h. (refl, none))

  abbrev pub OutQuery : ℕ → Type 0
  OutQuery k = query_rule (cells k p q r) Γ ≡ true → Each (λ p Γ. go Γ p ≡ true) (query_parts (cells k p q r) Γ) → query_scope (query_form (cells k p q r)) go Γ ≡ true

  pub query_out : (k : ℕ) → OutQuery k
  unfolding query_scope query_rule query_parts takes own
  query_out = by_14 OutQuery
      (λ h e. refl)
      (λ h e. refl)
      (λ h e. and_both (go Γ p) (go Γ q) (each_head e) (each_head (each_tail e)))
      (λ h e. each_head e)
      (λ h e. refl)
      (λ h e. refl)
      (λ h e. refl)
      (λ h e. h)
      (λ h e. and_both (go Γ p && has_place Γ) (go (with_forest Γ) q) (and_both (go Γ p) (has_place Γ) (each_head e) h) (each_head (each_tail e)))
      (λ h e. and_both (go Γ p && go Γ q) (go Γ r) (and_both (go Γ p) (go Γ q) (each_head e) (each_head (each_tail e))) (each_head (each_tail (each_tail e))))
      (λ h e. and_both (go Γ p) (go Γ q) (each_head e) (each_head (each_tail e)))
      (λ h e. h)
      (λ h e. each_head e)
      (λ h e. and_both (go Γ p && has_place Γ) (go (with_tree Γ) q) (and_both (go Γ p) (has_place Γ) (each_head e) h) (each_head (each_tail e)))
      (λ k h e. refl)
