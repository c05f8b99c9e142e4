-- The pass from the top down is exact. Down: a row's one user is above it or a root, so under scope_ok every row that is judged is scoped. Up: if all rows pass, the roots are scoped, by induction on the steps.
use mathlib.Core.List.{[]}
use mathlib.Core.Path.{◌≡◌, refl, ◌∙◌, subst}
use mathlib.Core.Bool.{Bool, true, false}
use mathlib.Core.Logic.{◌⊎◌, inl, inr}
use Prim.Native.Nat.{ℕ, zero, suc, ◌+◌, ◌-◌, ◌≤◌, ◌<◌}
use native.Mathlib.Nat.{eq-zero-or-pos, eq-or-lt_of_le}
use native.Mathlib.Omega.{arith}
use borrow.Author.Tests.{eq-eqb, eqb-true}
use lib.Dec.{eqb}
use Rattle.meaning.specs.Tests.{total}
use Rattle.meaning.specs.Laws.Bools.{and_left, and_right, and_both, not_both, either}
use Rattle.meaning.specs.Laws.Tests.{every_at, every_all, total_at, total_some}
use Rattle.meaning.specs.Sheet.{Cells, Script}
use Rattle.meaning.specs.Kinds.{statement_form, present}
use Rattle.meaning.specs.Shape.{Scope, own, asking, hit, hits, query_uses, statement_uses, parameters_scope, statement_scope, query_scoped, statement_scoped, scope_ok}
use Rattle.shape_scope.specs.Scopes.{Each, given, after, statement_parts, statement_asks, query_parts, statement_rule, query_rule, Rooted, Statements, Queries}
use Rattle.shape_scope.specs.Hands.{tally, tally_hits, tally_none, tally_own, found, each_map, each_both, after_none, after_once}
use Rattle.shape_scope.proofs.ByKind.{statement_in_lem, statement_out, query_in_lem, query_out}
use Rattle.shape_scope.proofs.Once.{Facts, total_only}

-- ---- a row is scoped by its rule and its parts

module _ (go asks : Scope → ℕ → Bool) (c : Cells) (Γ : Scope) where
  pub row_in : (c.kind ≡ 14 → eqb c.q 0 ≡ true → eqb c.r 0 ≡ true) → statement_scope (statement_form c) go asks Γ ≡ true
      → (statement_rule c Γ ≡ true) × Each (λ p Γ. go Γ p ≡ true) (statement_parts c Γ) × Each (λ p Γ. asks Γ p ≡ true) (statement_asks c Γ)
  row_in = statement_in_lem c.p c.q c.r go asks Γ c.kind

  pub row_out : statement_rule c Γ ≡ true → Each (λ p Γ. go Γ p ≡ true) (statement_parts c Γ) → Each (λ p Γ. asks Γ p ≡ true) (statement_asks c Γ)
      → statement_scope (statement_form c) go asks Γ ≡ true
  row_out = statement_out c.p c.q c.r go asks Γ c.kind

hit_same : (r w : ℕ) → w ≡ r → hit r w ≡ 1
hit_same r w e = rw (eq-eqb w r e)

hit_one : (r w : ℕ) → 1 ≤ hit r w → w ≡ r
hit_one r w h = go (eqb w r) refl h
  where
    go : (b : Bool) → eqb w r ≡ b → 1 ≤ hit r w → w ≡ r
    go true e l = eqb-true w r e
    go false e l = absurd (let z : hit r w ≡ 0 = rw e in omega arith)

module _ {S : Script} (F : Facts S) where
  abbrev c_of : ℕ → Cells
  c_of u = S.statement_row u

  abbrev q_of : ℕ → Cells
  q_of u = S.query_row u

  parts_hits : (u : ℕ) (Γ : Scope) (r : ℕ) → tally (statement_parts (c_of u) Γ) r ≡ hits own r (statement_uses (given (c_of u)) (c_of u)) (c_of u)
  unfolding statement_parts
  parts_hits u Γ r = tally_hits own (statement_uses (given (c_of u)) (c_of u)) (c_of u) _ _ _ r

  asks_hits : (u : ℕ) (Γ : Scope) (r : ℕ) → tally (statement_asks (c_of u) Γ) r ≡ hits asking r (statement_uses (given (c_of u)) (c_of u)) (c_of u)
  unfolding statement_asks
  asks_hits u Γ r = tally_hits asking (statement_uses (given (c_of u)) (c_of u)) (c_of u) _ _ _ r

  query_hits : (u : ℕ) (Γ : Scope) (r : ℕ) → tally (query_parts (q_of u) Γ) r ≡ hits own r (query_uses (q_of u)) (q_of u)
  unfolding query_parts
  query_hits u Γ r = tally_hits own (query_uses (q_of u)) (q_of u) _ _ _ r

  -- ---- the one user of a statement row, and of a query row

  module _ (r : ℕ) (p : 1 ≤ r) (q : r ≤ S.statements) where
    abbrev by_rows : ℕ → ℕ
    by_rows i = hits own r (statement_uses (given (c_of i)) (c_of i)) (c_of i)

    abbrev by_bodies : ℕ → ℕ
    by_bodies c = hit r (S.procedure_row c).body

    one_hand : (u : ℕ) → 1 ≤ u → u ≤ S.statements → (Γ : Scope) → tally (statement_parts (c_of u) Γ) r ≤ 1
    one_hand u a b Γ = omega (arith, F.once r p q, parts_hits u Γ r, total_at by_rows S.statements u a b)

    no_second : (u v : ℕ) → 1 ≤ u → u ≤ S.statements → 1 ≤ v → v ≤ S.statements → (u ≡ v → ⊥) → (Γ Δ : Scope) → 1 ≤ tally (statement_parts (c_of u) Γ) r → tally (statement_parts (c_of v) Δ) r ≡ 0
    no_second u v a b e f d Γ Δ h =
        parts_hits v Δ r ∙ total_only by_rows S.statements (omega (arith, F.once r p q)) u v a b e f d (omega (arith, parts_hits u Γ r))

    main_alone : S.main ≡ r → (u : ℕ) → 1 ≤ u → u ≤ S.statements → (Γ : Scope) → tally (statement_parts (c_of u) Γ) r ≡ 0
    main_alone e u a b Γ = omega (arith, F.once r p q, parts_hits u Γ r, total_at by_rows S.statements u a b, hit_same r S.main e)

    body_alone : (c : ℕ) → 1 ≤ c → c ≤ S.procedures → (S.procedure_row c).body ≡ r → (u : ℕ) → 1 ≤ u → u ≤ S.statements → (Γ : Scope) → tally (statement_parts (c_of u) Γ) r ≡ 0
    body_alone c d f e u a b Γ =
        omega (arith, F.once r p q, parts_hits u Γ r, total_at by_rows S.statements u a b, total_at by_bodies S.procedures c d f, hit_same r (S.procedure_row c).body e)

    pub one_body : (c d : ℕ) → 1 ≤ c → c ≤ S.procedures → 1 ≤ d → d ≤ S.procedures → (c ≡ d → ⊥) → (S.procedure_row c).body ≡ r → (S.procedure_row d).body ≡ r → ⊥
    one_body c d a b e f g h k =
        let z = total_only by_bodies S.procedures (omega (arith, F.once r p q)) c d a b e f g (omega (arith, hit_same r (S.procedure_row c).body h)) in
        omega (arith, hit_same r (S.procedure_row d).body k)

    pub main_no_body : S.main ≡ r → (c : ℕ) → 1 ≤ c → c ≤ S.procedures → (S.procedure_row c).body ≡ r → ⊥
    main_no_body m c a b e = omega (arith, F.once r p q, total_at by_bodies S.procedures c a b, hit_same r S.main m, hit_same r (S.procedure_row c).body e)

    abbrev Root : Type 0
    Root = (S.main ≡ r) ⊎ ((c : ℕ) × (1 ≤ c) × (c ≤ S.procedures) × ((S.procedure_row c).body ≡ r))

    user : Root ⊎ ((u : ℕ) × (1 ≤ u) × (u ≤ S.statements) × ((Γ : Scope) → 1 ≤ tally (statement_parts (c_of u) Γ) r))
    user = elim (eq-zero-or-pos (total by_rows S.statements)) [
      | inl a ↦ elim (eq-zero-or-pos (total by_bodies S.procedures)) [
        | inl b ↦ inl (inl (hit_one r S.main (omega (arith, F.once r p q))))
        | inr b ↦ (let x = total_some by_bodies S.procedures b in inl (inr (x.0, x.1, x.2, hit_one r (S.procedure_row x.0).body x.3)))
      ]
      | inr a ↦ (let x = total_some by_rows S.statements a in inr (x.0, x.1, x.2, λ Γ. omega (arith, parts_hits x.0 Γ r, x.3)))
    ]

  module _ (r : ℕ) (p : 1 ≤ r) (q : r ≤ S.queries) where
    abbrev by_queries : ℕ → ℕ
    by_queries i = hits own r (query_uses (q_of i)) (q_of i)

    abbrev by_askers : ℕ → ℕ
    by_askers i = hits asking r (statement_uses (given (c_of i)) (c_of i)) (c_of i)

    one_part : (u : ℕ) → 1 ≤ u → u ≤ S.queries → (Γ : Scope) → tally (query_parts (q_of u) Γ) r ≤ 1
    one_part u a b Γ = omega (arith, F.query_once r p q, query_hits u Γ r, total_at by_queries S.queries u a b)

    one_ask : (u : ℕ) → 1 ≤ u → u ≤ S.statements → (Γ : Scope) → tally (statement_asks (c_of u) Γ) r ≤ 1
    one_ask u a b Γ = omega (arith, F.query_once r p q, asks_hits u Γ r, total_at by_askers S.statements u a b)

    no_second_part : (u v : ℕ) → 1 ≤ u → u ≤ S.queries → 1 ≤ v → v ≤ S.queries → (u ≡ v → ⊥) → (Γ Δ : Scope) → 1 ≤ tally (query_parts (q_of u) Γ) r → tally (query_parts (q_of v) Δ) r ≡ 0
    no_second_part u v a b e f d Γ Δ h =
        query_hits v Δ r ∙ total_only by_queries S.queries (omega (arith, F.query_once r p q)) u v a b e f d (omega (arith, query_hits u Γ r))

    no_second_ask : (u v : ℕ) → 1 ≤ u → u ≤ S.statements → 1 ≤ v → v ≤ S.statements → (u ≡ v → ⊥) → (Γ Δ : Scope) → 1 ≤ tally (statement_asks (c_of u) Γ) r → tally (statement_asks (c_of v) Δ) r ≡ 0
    no_second_ask u v a b e f d Γ Δ h =
        asks_hits v Δ r ∙ total_only by_askers S.statements (omega (arith, F.query_once r p q)) u v a b e f d (omega (arith, asks_hits u Γ r))

    asked_alone : (u v : ℕ) → 1 ≤ u → u ≤ S.statements → 1 ≤ v → v ≤ S.queries → (Γ Δ : Scope) → 1 ≤ tally (statement_asks (c_of u) Γ) r → tally (query_parts (q_of v) Δ) r ≡ 0
    asked_alone u v a b e f Γ Δ h =
        omega (arith, F.query_once r p q, query_hits v Δ r, asks_hits u Γ r, total_at by_queries S.queries v e f, total_at by_askers S.statements u a b)

    query_user : ((u : ℕ) × (1 ≤ u) × (u ≤ S.statements) × ((Γ : Scope) → 1 ≤ tally (statement_asks (c_of u) Γ) r))
        ⊎ ((u : ℕ) × (1 ≤ u) × (u ≤ S.queries) × ((Γ : Scope) → 1 ≤ tally (query_parts (q_of u) Γ) r))
    query_user = elim (eq-zero-or-pos (total by_queries S.queries)) [
      | inl a ↦ (let x = total_some by_askers S.statements (omega (arith, F.query_once r p q)) in inl (x.0, x.1, x.2, λ Γ. omega (arith, asks_hits x.0 Γ r, x.3)))
      | inr a ↦ (let x = total_some by_queries S.queries a in inr (x.0, x.1, x.2, λ Γ. omega (arith, query_hits x.0 Γ r, x.3)))
    ]

  -- ---- one statement row more

  module _ {i : ℕ} (a : 1 ≤ i) (b : i ≤ S.statements) {σ τ σ' τ' : ℕ → Scope} (D : Statements S i σ τ)
      (own_at : (j : ℕ) → 1 ≤ j → j ≤ 512 → σ' j ≡ after (statement_parts (c_of i) (σ i)) σ j)
      (ask-at : (j : ℕ) → 1 ≤ j → j ≤ 512 → τ' j ≡ after (statement_asks (c_of i) (σ i)) τ j) where
    kept : (j : ℕ) → 1 ≤ j → j ≤ S.statements → tally (statement_parts (c_of i) (σ i)) j ≡ 0 → σ' j ≡ σ j
    kept j p q e = own_at j p (omega (arith, F.few_statements)) ∙ after_none (statement_parts (c_of i) (σ i)) σ j e

    above : (u : ℕ) → i ≤ u → u ≤ S.statements → σ' u ≡ σ u
    above u l h = kept u (omega arith) h (tally_none {Q = λ p. (1 ≤ p) × (p < i)} u (F.below i a b (σ i)) (λ z. omega (arith, z.1)))

    -- the parts of a row above
    parts_above : (u : ℕ) → i < u → u ≤ S.statements → Each (λ p Γ. σ' p ≡ Γ) (statement_parts (c_of u) (σ u))
    parts_above u l h = each_map
        (λ p Γ z. kept p z.1.0.0 (omega (arith, z.1.0.1))
        (no_second p z.1.0.0 (omega (arith, z.1.0.1)) u i (omega arith) h a b (λ e. omega arith) (σ u) (σ i) z.1.1) ∙ z.0)
        (each_both (D.parts u l h) (each_both (F.below u (omega arith) h (σ u)) (tally_own (statement_parts (c_of u) (σ u)))))

    asks_above : (u : ℕ) → i < u → u ≤ S.statements → Each (λ p Γ. τ' p ≡ Γ) (statement_asks (c_of u) (σ u))
    asks_above u l h = each_map
        (λ p Γ z. ask-at p z.1.0.0 (omega (arith, z.1.0.1, F.few_queries))
        ∙ after_none (statement_asks (c_of i) (σ i)) τ p (no_second_ask p z.1.0.0 z.1.0.1 u i (omega arith) h a b (λ e. omega arith) (σ u) (σ i) z.1.1) ∙ z.0)
        (each_both (D.asks u l h) (each_both (F.inside u (omega arith) h (σ u)) (tally_own (statement_asks (c_of u) (σ u)))))

    -- the parts of the row itself
    parts_here : Each (λ p Γ. σ' p ≡ Γ) (statement_parts (c_of i) (σ i))
    parts_here = each_map
        (λ p Γ z. own_at p z.1.0 (omega (arith, z.1.1, F.few_statements)) ∙ z.0)
        (each_both (after_once {Q = λ p. (1 ≤ p) × (p < i)} σ (F.below i a b (σ i)) (λ p z. one_hand p z.0 (omega (arith, z.1)) i a b (σ i))) (F.below i a b (σ i)))

    asks_here : Each (λ p Γ. τ' p ≡ Γ) (statement_asks (c_of i) (σ i))
    asks_here = each_map
        (λ p Γ z. ask-at p z.1.0 (omega (arith, z.1.1, F.few_queries)) ∙ z.0)
        (each_both (after_once {Q = λ p. (1 ≤ p) × (p ≤ S.queries)} τ (F.inside i a b (σ i)) (λ p z. one_ask p z.0 z.1 i a b (σ i))) (F.inside i a b (σ i)))

    pub statement_step : statement_rule (c_of i) (σ i) ≡ true → Statements S (i - 1) σ' τ'
    statement_step ok = record {
      roots = record {
        main = kept S.main F.main_in.0 F.main_in.1 (main_alone S.main F.main_in.0 F.main_in.1 refl i a b (σ i)) ∙ D.roots.main;
        bodies = λ c p q. (let r = (S.procedure_row c).body in
            kept r (F.body_in c p q).0 (F.body_in c p q).1 (body_alone r (F.body_in c p q).0 (F.body_in c p q).1 c p q refl i a b (σ i)) ∙ D.roots.bodies c p q);
      };
      passed = λ u l h. rw (above u (omega arith) h) (elim (eq-or-lt_of_le (low u l)) [ inl e ↦ rw (← e) ok | inr m ↦ D.passed u m h ]);
      parts = λ u l h. rw (above u (omega arith) h) (elim (eq-or-lt_of_le (low u l)) [ inl e ↦ rw (← e) parts_here | inr m ↦ parts_above u m h ]);
      asks = λ u l h. rw (above u (omega arith) h) (elim (eq-or-lt_of_le (low u l)) [ inl e ↦ rw (← e) asks_here | inr m ↦ asks_above u m h ]);
    }
      where
        low : (u : ℕ) → i - 1 < u → i ≤ u
        low u l = omega arith

  -- ---- one query row more

  module _ {i : ℕ} (a : 1 ≤ i) (b : i ≤ S.queries) {τ τ' : ℕ → Scope} (D : Queries S i τ)
      (part_at : (j : ℕ) → 1 ≤ j → j ≤ 512 → τ' j ≡ after (query_parts (q_of i) (τ i)) τ j) where
    query_kept : (j : ℕ) → 1 ≤ j → j ≤ S.queries → tally (query_parts (q_of i) (τ i)) j ≡ 0 → τ' j ≡ τ j
    query_kept j p q e = part_at j p (omega (arith, F.few_queries)) ∙ after_none (query_parts (q_of i) (τ i)) τ j e

    query_above : (u : ℕ) → i ≤ u → u ≤ S.queries → τ' u ≡ τ u
    query_above u l h = query_kept u (omega arith) h (tally_none {Q = λ p. (1 ≤ p) × (p < i)} u (F.query_below i a b (τ i)) (λ z. omega (arith, z.1)))

    query_parts_above : (u : ℕ) → i < u → u ≤ S.queries → Each (λ p Γ. τ' p ≡ Γ) (query_parts (q_of u) (τ u))
    query_parts_above u l h = each_map
        (λ p Γ z. query_kept p z.1.0.0 (omega (arith, z.1.0.1))
        (no_second_part p z.1.0.0 (omega (arith, z.1.0.1)) u i (omega arith) h a b (λ e. omega arith) (τ u) (τ i) z.1.1) ∙ z.0)
        (each_both (D.parts u l h) (each_both (F.query_below u (omega arith) h (τ u)) (tally_own (query_parts (q_of u) (τ u)))))

    query_parts_here : Each (λ p Γ. τ' p ≡ Γ) (query_parts (q_of i) (τ i))
    query_parts_here = each_map
        (λ p Γ z. part_at p z.1.0 (omega (arith, z.1.1, F.few_queries)) ∙ z.0)
        (each_both (after_once {Q = λ p. (1 ≤ p) × (p < i)} τ (F.query_below i a b (τ i)) (λ p z. one_part p z.0 (omega (arith, z.1)) i a b (τ i))) (F.query_below i a b (τ i)))

    -- the statements' queries keep their scopes
    asks_kept : (u : ℕ) → 0 < u → u ≤ S.statements → Each (λ p Γ. τ' p ≡ Γ) (statement_asks (c_of u) (D.σ u))
    asks_kept u l h = each_map
        (λ p Γ z. query_kept p z.1.0.0 z.1.0.1 (asked_alone p z.1.0.0 z.1.0.1 u i l h a b (D.σ u) (τ i) z.1.1) ∙ z.0)
        (each_both (D.above.asks u l h) (each_both (F.inside u l h (D.σ u)) (tally_own (statement_asks (c_of u) (D.σ u)))))

    pub query_step : query_rule (q_of i) (τ i) ≡ true → Queries S (i - 1) τ'
    query_step ok = record {
      σ = D.σ;
      above = record { roots = D.above.roots; passed = D.above.passed; parts = D.above.parts; asks = asks_kept };
      passed = λ u l h. rw (query_above u (omega arith) h) (elim (eq-or-lt_of_le (low u l)) [ inl e ↦ rw (← e) ok | inr m ↦ D.passed u m h ]);
      parts = λ u l h. rw (query_above u (omega arith) h) (elim (eq-or-lt_of_le (low u l)) [ inl e ↦ rw (← e) query_parts_here | inr m ↦ query_parts_above u m h ]);
    }
      where
        low : (u : ℕ) → i - 1 < u → i ≤ u
        low u l = omega arith

  -- ---- Down: under scope_ok every row that has its scope is scoped

  -- in some steps, at least as many as the row's number
  abbrev Scoped : (ℕ → Scope) → ℕ → Type 0
  Scoped σ j = (k : ℕ) × (j ≤ k) × (statement_scoped S k (σ j) j ≡ true)

  abbrev QueryScoped : (ℕ → Scope) → ℕ → Type 0
  QueryScoped τ j = (k : ℕ) × (j ≤ k) × (query_scoped S k (τ j) j ≡ true)

  -- one step down
  opened : (k u : ℕ) (Γ : Scope) → 1 ≤ u → u ≤ S.statements → statement_scoped S (suc k) Γ u ≡ true
      → (statement_rule (c_of u) Γ ≡ true) × Each (λ p Γ. statement_scoped S k Γ p ≡ true) (statement_parts (c_of u) Γ) × Each (λ p Γ. query_scoped S S.queries Γ p ≡ true) (statement_asks (c_of u) Γ)
  unfolding statement_scoped
  opened k u Γ p q h = row_in (statement_scoped S k) (query_scoped S S.queries) (c_of u) Γ (F.call u p q) h

  query_opened : (k u : ℕ) (Γ : Scope) → query_scoped S (suc k) Γ u ≡ true → (query_rule (q_of u) Γ ≡ true) × Each (λ p Γ. query_scoped S k Γ p ≡ true) (query_parts (q_of u) Γ)
  unfolding query_scoped
  query_opened k u Γ h = let c = q_of u in query_in_lem c.p c.q c.r (query_scoped S k) Γ c.kind h

  scoped_in : (σ : ℕ → Scope) (u : ℕ) → 1 ≤ u → u ≤ S.statements → Scoped σ u
      → (k : ℕ) × (u ≤ suc k) × (statement_rule (c_of u) (σ u) ≡ true) × Each (λ p Γ. statement_scoped S k Γ p ≡ true) (statement_parts (c_of u) (σ u)) × Each (λ p Γ. query_scoped S S.queries Γ p ≡ true) (statement_asks (c_of u) (σ u))
  scoped_in σ u p q x = go x.0 x.1 x.2
    where
      go : (k : ℕ) → u ≤ k → statement_scoped S k (σ u) u ≡ true
          → (k : ℕ) × (u ≤ suc k) × (statement_rule (c_of u) (σ u) ≡ true) × Each (λ p Γ. statement_scoped S k Γ p ≡ true) (statement_parts (c_of u) (σ u)) × Each (λ p Γ. query_scoped S S.queries Γ p ≡ true) (statement_asks (c_of u) (σ u))
      go zero l h = absurd (omega arith)
      go (suc k) l h = let o = opened k u (σ u) p q h in (k, l, o.0, o.1, o.2)

  query_scoped_in : (τ : ℕ → Scope) (u : ℕ) → 1 ≤ u → QueryScoped τ u → (k : ℕ) × (u ≤ suc k) × (query_rule (q_of u) (τ u) ≡ true) × Each (λ p Γ. query_scoped S k Γ p ≡ true) (query_parts (q_of u) (τ u))
  query_scoped_in τ u p x = go x.0 x.1 x.2
    where
      go : (k : ℕ) → u ≤ k → query_scoped S k (τ u) u ≡ true → (k : ℕ) × (u ≤ suc k) × (query_rule (q_of u) (τ u) ≡ true) × Each (λ p Γ. query_scoped S k Γ p ≡ true) (query_parts (q_of u) (τ u))
      go zero l h = absurd (omega arith)
      go (suc k) l h = let o = query_opened k u (τ u) h in (k, l, o.0, o.1)

  module _ (ok : scope_ok S ≡ true) where
    main_scoped : statement_scoped S S.statements [] S.main ≡ true
    unfolding scope_ok
    main_scoped = and_left (statement_scoped S S.statements [] S.main) _ ok

    body_scoped : (c : ℕ) → 1 ≤ c → c ≤ S.procedures
        → statement_scoped S S.statements (parameters_scope (present (S.procedure_row c).first (S.procedure_row c).second)) (S.procedure_row c).body ≡ true
    unfolding scope_ok
    body_scoped c p q = every_at (λ c. statement_scoped S S.statements (parameters_scope (present (S.procedure_row c).first (S.procedure_row c).second)) (S.procedure_row c).body) S.procedures
        (and_right (statement_scoped S S.statements [] S.main) _ ok) c p q

    root_scoped : {σ : ℕ → Scope} → Rooted S σ → (j : ℕ) (p : 1 ≤ j) (q : j ≤ S.statements) → Root j p q → statement_scoped S S.statements (σ j) j ≡ true
    root_scoped {σ} R j p q (inl e) = subst (λ (x : ℕ). statement_scoped S S.statements (σ x) x ≡ true) e (rw R.main main_scoped)
    root_scoped {σ} R j p q (inr x) = subst (λ (y : ℕ). statement_scoped S S.statements (σ y) y ≡ true) x.3 (rw (R.bodies x.0 x.1 x.2) (body_scoped x.0 x.1 x.2))

    reached_by : {i : ℕ} {σ τ : ℕ → Scope} → Statements S i σ τ → (j : ℕ) → i ≤ j → (p : 1 ≤ j) (q : j ≤ S.statements) → ((u : ℕ) → j < u → u ≤ S.statements → Scoped σ u)
        → Root j p q ⊎ ((u : ℕ) × (1 ≤ u) × (u ≤ S.statements) × ((Γ : Scope) → 1 ≤ tally (statement_parts (c_of u) Γ) j)) → Scoped σ j
    reached_by D j l p q again (inl R) = (S.statements, q, root_scoped D.roots j p q R)
    reached_by {i} {σ} {τ} D j l p q again (inr x) =
        let u = x.0 in
        let low = found j (x.3 (σ u)) (F.below u x.1 x.2 (σ u)) in
        let h = scoped_in σ u x.1 x.2 (again u low.1.1 x.2) in
        let part = found j (x.3 (σ u)) (each_both (D.parts u (omega (arith, low.1.1)) x.2) h.3) in
        (h.0, omega (arith, low.1.1, h.1), rw part.1.0 part.1.1)

    reached : {i : ℕ} {σ τ : ℕ → Scope} → Statements S i σ τ → (d j : ℕ) → S.statements ≤ j + d → i ≤ j → 1 ≤ j → j ≤ S.statements → Scoped σ j
    reached D zero j n l p q = reached_by D j l p q (λ u m h. absurd (omega arith)) (user j p q)
    reached D (suc d) j n l p q = reached_by D j l p q (λ u m h. reached D d u (omega arith) (omega arith) (omega arith) h) (user j p q)

    query_reached_by : {i : ℕ} {τ : ℕ → Scope} → Queries S i τ → (j : ℕ) → i ≤ j → (p : 1 ≤ j) (q : j ≤ S.queries) → ((u : ℕ) → j < u → u ≤ S.queries → QueryScoped τ u)
        → ((u : ℕ) × (1 ≤ u) × (u ≤ S.statements) × ((Γ : Scope) → 1 ≤ tally (statement_asks (c_of u) Γ) j))
        ⊎ ((u : ℕ) × (1 ≤ u) × (u ≤ S.queries) × ((Γ : Scope) → 1 ≤ tally (query_parts (q_of u) Γ) j)) → QueryScoped τ j
    query_reached_by {i} {τ} D j l p q again (inl x) =
        let u = x.0 in
        let σ = D.σ in
        let h = scoped_in σ u x.1 x.2 (reached D.above S.statements u (omega arith) (omega arith) x.1 x.2) in
        let ask = found j (x.3 (σ u)) (each_both (D.above.asks u x.1 x.2) h.4) in
        (S.queries, q, rw ask.1.0 ask.1.1)
    query_reached_by {i} {τ} D j l p q again (inr x) =
        let u = x.0 in
        let low = found j (x.3 (τ u)) (F.query_below u x.1 x.2 (τ u)) in
        let h = query_scoped_in τ u x.1 (again u low.1.1 x.2) in
        let part = found j (x.3 (τ u)) (each_both (D.parts u (omega (arith, low.1.1)) x.2) h.3) in
        (h.0, omega (arith, low.1.1, h.1), rw part.1.0 part.1.1)

    query_reached : {i : ℕ} {τ : ℕ → Scope} → Queries S i τ → (d j : ℕ) → S.queries ≤ j + d → i ≤ j → 1 ≤ j → j ≤ S.queries → QueryScoped τ j
    query_reached D zero j n l p q = query_reached_by D j l p q (λ u m h. absurd (omega arith)) (query_user j p q)
    query_reached D (suc d) j n l p q = query_reached_by D j l p q (λ u m h. query_reached D d u (omega arith) (omega arith) (omega arith) h) (query_user j p q)

  -- a row that fails its rule refutes it
  pub statement_refused : {i : ℕ} {σ τ : ℕ → Scope} → Statements S i σ τ → 1 ≤ i → i ≤ S.statements → statement_rule (c_of i) (σ i) ≡ false → scope_ok S ≡ false
  statement_refused {i} {σ} D p q e = elim (either (scope_ok S)) [
    | inl ok ↦ absurd (not_both (scoped_in σ i p q (reached ok D S.statements i (omega arith) (omega arith) p q)).2 e)
    | inr fails ↦ fails
  ]

  pub query_refused : {i : ℕ} {τ : ℕ → Scope} → Queries S i τ → 1 ≤ i → i ≤ S.queries → query_rule (q_of i) (τ i) ≡ false → scope_ok S ≡ false
  query_refused {i} {τ} D p q e = elim (either (scope_ok S)) [
    | inl ok ↦ absurd (not_both (query_scoped_in τ i p (query_reached ok D S.queries i (omega arith) (omega arith) p q)).2 e)
    | inr fails ↦ fails
  ]

  -- ---- Up: where every row passes, every row is scoped

  module _ {τ : ℕ → Scope} (D : Queries S 0 τ) where
    query_up : (k j : ℕ) → 1 ≤ j → j ≤ S.queries → query_scoped S k (τ j) j ≡ true
    unfolding query_scoped
    query_up zero j p q = refl
    query_up (suc k) j p q =
        let c = q_of j in
        query_out c.p c.q c.r (query_scoped S k) (τ j) c.kind (D.passed j p q)
        (each_map (λ x Γ z. rw z.0 at (query_up k x z.1.0 (omega (arith, z.1.1)))) (each_both (D.parts j p q) (F.query_below j p q (τ j))))

    statement_up : (k j : ℕ) → 1 ≤ j → j ≤ S.statements → statement_scoped S k (D.σ j) j ≡ true
    unfolding statement_scoped
    statement_up zero j p q = refl
    statement_up (suc k) j p q =
        row_out (statement_scoped S k) (query_scoped S S.queries) (c_of j) (D.σ j) (D.above.passed j p q)
        (each_map (λ x Γ z. rw z.0 at (statement_up k x z.1.0 (omega (arith, z.1.1)))) (each_both (D.above.parts j p q) (F.below j p q (D.σ j))))
        (each_map (λ x Γ z. rw z.0 at (query_up S.queries x z.1.0 z.1.1)) (each_both (D.above.asks j p q) (F.inside j p q (D.σ j))))

    pub all_scoped : scope_ok S ≡ true
    unfolding scope_ok
    all_scoped = and_both (statement_scoped S S.statements [] S.main) _
        (rw D.above.roots.main at (statement_up S.statements S.main F.main_in.0 F.main_in.1))
        (every_all (λ c. statement_scoped S S.statements (parameters_scope (present (S.procedure_row c).first (S.procedure_row c).second)) (S.procedure_row c).body) S.procedures
        (λ c p q. rw (D.above.roots.bodies c p q) at (statement_up S.statements (S.procedure_row c).body (F.body_in c p q).0 (F.body_in c p q).1)))
