-- The three loops: what each turn makes of what is known, by the laws of the pass (proofs/Pass.antt).
use mathlib.Core.Path.{◌≡◌, refl, sym, ap, ◌∙◌}
use mathlib.Core.List.{List, [], ◌∷◌}
use mathlib.Core.Bool.{Bool, true, false, false≢true}
use Prim.Native.Nat.{ℕ, ◌+◌, ◌-◌, ◌≤◌, ◌<◌}
use native.Mathlib.Decide.{ℕ_discrete}
use native.Mathlib.Omega.{arith}
use borrow.Author.Tests.{eq-eqb, ne_eqb}
use lib.ListN.{get_or, replicate, length-replicate}
use Rattle.meaning.specs.Sheet.{Script}
use Rattle.meaning.specs.Kinds.{Query, Statement, query_form, statement_form, present}
use Rattle.meaning.specs.Shape.{Scope, parameters_scope, scope_ok}
use Rattle.meaning.specs.Laws.Words.{zeros}
use Rattle.shape_scope.specs.Scopes.{places, scope_of, seen, hand_of, after, Words, Handed, QueryDone, StatementDone, Rooted, Statements, Queries, Judged}
use Rattle.shape_scope.specs.Places.{neat_small}
use Rattle.shape_scope.proofs.Once.{Facts}
use Rattle.shape_scope.proofs.Said.{query_says, statement_says}
use Rattle.shape_scope.proofs.Pass.{one_body, main_no_body, statement_step, statement_refused, query_step, query_refused, all_scoped}

-- ---- fresh words

pub fresh_words : {l : List ℕ} → l ≡ replicate 513 0 → Words l
fresh_words e = rw e (record { size = length-replicate {A = ℕ} 513 0; neat = λ j. rw (zeros 513 j) (neat_small 0 (omega arith)) })

fresh_seen : {l : List ℕ} → l ≡ replicate 513 0 → (j : ℕ) → seen l j ≡ []
unfolding scope_of places
fresh_seen e j = rw e (ap scope_of (zeros 513 j))

-- ---- the bodies below c have their scopes

module _ (S : Script) where
  pub record Bodies (c : ℕ) (l : List ℕ) : Type 0 where
    pub main : seen l S.main ≡ []
    pub bodies : (d : ℕ) → 1 ≤ d → d < c → d ≤ S.procedures → seen l (S.procedure_row d).body ≡ parameters_scope (present (S.procedure_row d).first (S.procedure_row d).second)

  pub bodies_none : {l : List ℕ} → l ≡ replicate 513 0 → Bodies 1 l
  bodies_none e = record { main = fresh_seen e S.main; bodies = λ d p q h. absurd (omega arith) }

  pub bodies_all : {c : ℕ} {l : List ℕ} → S.procedures < c → Bodies c l → Rooted S (seen l)
  bodies_all h b = record { main = b.main; bodies = λ d p q. b.bodies d p (omega arith) q }

  module _ (F : Facts S) (c : ℕ) (p : 1 ≤ c) (q : c ≤ S.procedures) {old new : List ℕ} (b : Bodies c old) (r : ℕ) (Γ : Scope) (at : r ≡ (S.procedure_row c).body)
      (is : Γ ≡ parameters_scope (present (S.procedure_row c).first (S.procedure_row c).second)) (h : Handed old new (hand_of r Γ ∷ [])) where
    apart : (j : ℕ) → 1 ≤ j → j ≤ S.statements → ((S.procedure_row c).body ≡ j → ⊥) → seen new j ≡ seen old j
    unfolding after
    apart j m n d = h.at j m (omega (arith, F.few_statements)) ∙ rw (ne_eqb r j (λ e. d (sym at ∙ e)))

    here : seen new (S.procedure_row c).body ≡ Γ
    unfolding after
    here = h.at (S.procedure_row c).body (F.body_in c p q).0 (omega (arith, F.few_statements, (F.body_in c p q).1)) ∙ rw (eq-eqb r (S.procedure_row c).body at)

    pub bodies_more : Bodies (c + 1) new
    bodies_more = record {
      main = apart S.main F.main_in.0 F.main_in.1 (λ e. main_no_body F S.main F.main_in.0 F.main_in.1 refl c p q e) ∙ b.main;
      bodies = λ d m n o. elim (ℕ_discrete c d) [
        | yes e ↦ rw (← e) (here ∙ is)
        | no e ↦ (apart (S.procedure_row d).body (F.body_in d m o).0 (F.body_in d m o).1
            (λ f. one_body F (S.procedure_row d).body (F.body_in d m o).0 (F.body_in d m o).1 c d p q m o e f refl) ∙ b.bodies d m (less d n e) o)
      ];
    }
      where
        less : (d : ℕ) → d < c + 1 → (c ≡ d → ⊥) → d < c
        less d l e = omega arith

-- ---- statements

module _ {S : Script} (F : Facts S) where
  module _ {i : ℕ} (p : 1 ≤ i) (q : i ≤ S.statements) {scopes scopes' asked asked' : List ℕ} (D : Statements S i (seen scopes) (seen asked)) {c : Statement}
      (e : c ≡ statement_form (S.statement_row i)) {x : ℕ} (g : x ≡ get_or scopes i 0) where
    pub statement_more : {ok : Bool} → ok ≡ true → StatementDone c (scope_of x) scopes scopes' asked asked' ok → Statements S (i - 1) (seen scopes') (seen asked')
    statement_more {ok} t h =
        let d : StatementDone (statement_form (S.statement_row i)) (seen scopes i) scopes scopes' asked asked' ok = rw (e, g) at h in
        let a = statement_says (S.statement_row i) (seen scopes i) (F.call i p q) in
        statement_step F p q D (rw (← a.0) at (d.parts t)).at (rw (← a.1) at (d.asks t)).at (a.2 ∙ sym d.rule ∙ t)

    pub statement_fails : {ok : Bool} → ok ≡ false → StatementDone c (scope_of x) scopes scopes' asked asked' ok → Judged S asked' false
    statement_fails f h = record {
      refused = λ z. statement_refused F D p q ((statement_says (S.statement_row i) (seen scopes i) (F.call i p q)).2 ∙ rw (e, g) at (sym h.rule ∙ f));
      passed = λ z. absurd (false≢true z);
    }

  -- ---- queries

  module _ {i : ℕ} (p : 1 ≤ i) (q : i ≤ S.queries) {scopes scopes' : List ℕ} (D : Queries S i (seen scopes)) {c : Query} (e : c ≡ query_form (S.query_row i))
      {x : ℕ} (g : x ≡ get_or scopes i 0) where
    pub query_more : {ok : Bool} → ok ≡ true → QueryDone c (scope_of x) scopes scopes' ok → Queries S (i - 1) (seen scopes')
    query_more {ok} t h =
        let d : QueryDone (query_form (S.query_row i)) (seen scopes i) scopes scopes' ok = rw (e, g) at h in
        let a = query_says (S.query_row i) (seen scopes i) in
        query_step F p q D (rw (← a.0) at (d.parts t)).at (a.1 ∙ sym d.rule ∙ t)

    pub query_fails : {ok : Bool} → ok ≡ false → QueryDone c (scope_of x) scopes scopes' ok → false ≡ scope_ok S
    query_fails f h = sym (query_refused F D p q ((query_says (S.query_row i) (seen scopes i)).1 ∙ rw (e, g) at (sym h.rule ∙ f)))

  pub queries_end : {i : ℕ} {τ : ℕ → Scope} → i ≡ 0 → Queries S i τ → true ≡ scope_ok S
  queries_end e D = sym (all_scoped F (rw e at D))
