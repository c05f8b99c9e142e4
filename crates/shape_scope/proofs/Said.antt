-- What a row says hands down what its words' uses say, kind by kind.
use mathlib.Core.Path.{◌≡◌, refl}
use mathlib.Core.List.{[], ◌∷◌}
use mathlib.Core.Bool.{Bool, true, false, cond, false≢true}
use Prim.Native.Nat.{ℕ}
use lib.Dec.{eqb}
use Rattle.meaning.specs.Sheet.{Cells}
use Rattle.meaning.specs.Kinds.{query_form, statement_form}
use Rattle.meaning.specs.Shape.{Use, own, asking, Scope}
use Rattle.meaning.specs.Laws.Shaped.{cells}
use Rattle.shape_scope.specs.Scopes.{takes, statement_parts, statement_asks, query_parts, statement_rule, query_rule}
use Rattle.shape_scope.specs.Scopes.{query_hands, query_test, statement_hands, query_hands_of, statement_test, argument_hands}
use Rattle.shape_scope.proofs.ByKind.{by_14, by_15, tester_own, tester_asks, argument_own}

abbrev QuerySaid : Scope → Cells → Type 0
QuerySaid Γ c = (query_parts c Γ ≡ query_hands (query_form c) Γ) × (query_rule c Γ ≡ query_test (query_form c) Γ)

pub query_says : (c : Cells) (Γ : Scope) → QuerySaid Γ c
unfolding query_parts query_rule takes own
query_says c Γ = by_14 (λ k. QuerySaid Γ (cells k c.p c.q c.r))
    (refl, refl) (refl, refl) (refl, refl) (refl, refl) (refl, refl) (refl, refl) (refl, refl) (refl, refl) (refl, refl) (refl, refl) (refl, refl) (refl, refl) (refl, refl) (refl, refl)
    (λ k. (refl, refl)) c.kind

-- a call's arguments, where the second is there only if the first is
call_asks : (a b : Bool) (q r : ℕ) (Γ : Scope) → (a ≡ true → b ≡ true)
    → takes (asking (cond a Use.unused Use.query)) q Γ (takes (asking (cond b Use.unused Use.query)) r Γ []) ≡ argument_hands (cond a [] (cond b (q ∷ []) (q ∷ r ∷ []))) Γ
unfolding takes asking
call_asks true true q r Γ f = refl
call_asks true false q r Γ f = absurd (false≢true (f refl))
call_asks false true q r Γ f = refl
call_asks false false q r Γ f = refl

abbrev StatementSaid : Scope → Cells → Type 0
StatementSaid Γ c = (c.kind ≡ 14 → eqb c.q 0 ≡ true → eqb c.r 0 ≡ true)
    → (statement_parts c Γ ≡ statement_hands (statement_form c) Γ) × (statement_asks c Γ ≡ query_hands_of (statement_form c) Γ) × (statement_rule c Γ ≡ statement_test (statement_form c) Γ)

pub statement_says : (c : Cells) (Γ : Scope) → StatementSaid Γ c
unfolding statement_parts statement_asks statement_rule takes own asking
statement_says c Γ = by_15 (λ k. StatementSaid Γ (cells k c.p c.q c.r))
    (λ f. (refl, refl, refl)) (λ f. (refl, refl, refl)) (λ f. (refl, refl, refl)) (λ f. (refl, refl, refl)) (λ f. (refl, refl, refl)) (λ f. (refl, refl, refl)) (λ f. (refl, refl, refl))
    (λ f. (refl, refl, refl)) (λ f. (refl, refl, refl)) (λ f. rw (tester_own (eqb c.p 2), tester_asks (eqb c.p 2)) (refl, refl, refl))
    (λ f. (refl, refl, refl)) (λ f. (refl, refl, refl)) (λ f. (refl, refl, refl)) (λ f. (refl, refl, refl))
    (λ f. rw (argument_own (eqb c.q 0), argument_own (eqb c.r 0)) (refl, call_asks (eqb c.q 0) (eqb c.r 0) c.q c.r Γ (f refl), refl))
    (λ k f. (refl, refl, refl)) c.kind
