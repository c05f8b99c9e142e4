-- What Shape has established before, said of hands: parts are lower rows, arguments are queries, and every row has exactly one user (a sum of users that is 1).
use mathlib.Core.Path.{◌≡◌, refl, sym, ap, ◌∙◌, subst}
use mathlib.Core.List.{List}
use mathlib.Core.Bool.{Bool, true, false, ◌&&◌, ◌||◌, not, cond, false≢true}
use Prim.Native.Nat.{ℕ, zero, suc, ◌+◌, ◌-◌, ◌≤◌, ◌<◌}
use native.Mathlib.Omega.{arith}
use borrow.Author.Tests.{ne_eqb}
use lib.Dec.{eqb}
use Rattle.meaning.specs.Tests.{total, in_table}
use Rattle.meaning.specs.Laws.Bools.{and_left, and_right}
use Rattle.meaning.specs.Laws.Tests.{in_table_lem, table_low, table_high, total_both}
use Rattle.meaning.specs.Sheet.{Cells, Procedure, Script, Sheet, script_of, sheet_of}
use Rattle.meaning.specs.Shape.{Use, Uses, own, asking, Scope, hit, hits, query_uses, statement_uses, word_ok, words_ok, limits_ok, queries_ok, statements_ok, procedures_ok, roots_ok, users_ok, statement_users, query_users}
use Rattle.shape_scope.specs.Scopes.{Before, with_forest, with_tree, Each, given, handed, statement_parts, statement_asks, query_parts}
use Rattle.shape_scope.specs.Hands.{handed_each}
use Rattle.meaning.specs.Laws.Shaped.{cells, few, roots as roots-say, queries_say, statements_say, procedures_say, body_says, query_user, statement_user}
use Rattle.shape_scope.proofs.ByKind.{by_14, by_15}

-- ---- sums

pub total_only : (a : ℕ → ℕ) (n : ℕ) → total a n ≤ 1 → (u v : ℕ) → 1 ≤ u → u ≤ n → 1 ≤ v → v ≤ n → (u ≡ v → ⊥) → 1 ≤ a u → a v ≡ 0
total_only a n h u v p q s t d e = omega (arith, total_both a n u v p q s t d)

total_same : (a b : ℕ → ℕ) (n : ℕ) → ((i : ℕ) → 1 ≤ i → i ≤ n → a i ≡ b i) → total a n ≡ total b n
unfolding total
total_same a b zero h = refl
total_same a b (suc n) h = let r = total_same a b n (λ i p q. h i p (omega arith)) in let e = h (suc n) (omega arith) (omega arith) in omega arith

-- ---- words by their use

-- parts of queries and statements are no links: they are there
unfoldable linkless : Use → Bool
linkless Use.unused = true
linkless Use.free = true
linkless Use.label = true
linkless Use.part = true
linkless Use.link = false
linkless Use.query = true
linkless Use.name = true
linkless Use.procedure = true
linkless Use.tester = true
linkless (Use.size_at n) = true

linkless_cond : (b : Bool) (u v : Use) → linkless u ≡ true → linkless v ≡ true → linkless (cond b u v) ≡ true
linkless_cond true u v e f = e
linkless_cond false u v e f = f

abbrev all_linkless : Uses → Bool
all_linkless u = linkless u.p && linkless u.q && linkless u.r

query_linkless : (p q r k : ℕ) → all_linkless (query_uses (cells k p q r)) ≡ true
unfolding linkless
query_linkless p q r = by_14 (λ k. all_linkless (query_uses (cells k p q r)) ≡ true) refl refl refl refl refl refl refl refl refl refl refl refl refl refl (λ k. refl)

statement_linkless : (p q r k : ℕ) → all_linkless (statement_uses (given (cells k p q r)) (cells k p q r)) ≡ true
unfolding linkless
statement_linkless p q r = by_15 (λ k. all_linkless (statement_uses (given (cells k p q r)) (cells k p q r)) ≡ true)
    refl refl refl refl refl refl refl refl refl
    (rw (linkless_cond (eqb p 2) Use.label Use.unused refl refl))
    refl refl refl refl
    (rw (linkless_cond (eqb q 0) Use.unused Use.query refl refl, linkless_cond (eqb r 0) Use.unused Use.query refl refl))
    (λ k. refl)

module _ (s : Sheet) where
  part_below : (u : Use) (i w : ℕ) → linkless u ≡ true → word_ok s u i w ≡ true → own u ≡ true → (1 ≤ w) × (w < i)
  unfolding word_ok own linkless
  part_below Use.unused i w l h e = absurd (false≢true e)
  part_below Use.free i w l h e = absurd (false≢true e)
  part_below Use.label i w l h e = absurd (false≢true e)
  part_below Use.part i w l h e = (table_low (i - 1) w h, omega (arith, table_low (i - 1) w h, table_high (i - 1) w h))
  part_below Use.link i w l h e = absurd (false≢true l)
  part_below Use.query i w l h e = absurd (false≢true e)
  part_below Use.name i w l h e = absurd (false≢true e)
  part_below Use.procedure i w l h e = absurd (false≢true e)
  part_below Use.tester i w l h e = absurd (false≢true e)
  part_below (Use.size_at n) i w l h e = absurd (false≢true e)

  ask_inside : (u : Use) (i w : ℕ) → word_ok s u i w ≡ true → asking u ≡ true → (1 ≤ w) × (w ≤ s.script.queries)
  unfolding word_ok asking
  ask_inside Use.unused i w h e = absurd (false≢true e)
  ask_inside Use.free i w h e = absurd (false≢true e)
  ask_inside Use.label i w h e = absurd (false≢true e)
  ask_inside Use.part i w h e = absurd (false≢true e)
  ask_inside Use.link i w h e = absurd (false≢true e)
  ask_inside Use.query i w h e = (table_low s.script.queries w h, table_high s.script.queries w h)
  ask_inside Use.name i w h e = absurd (false≢true e)
  ask_inside Use.procedure i w h e = absurd (false≢true e)
  ask_inside Use.tester i w h e = absurd (false≢true e)
  ask_inside (Use.size_at n) i w h e = absurd (false≢true e)

  -- three words
  module _ (u : Uses) (i : ℕ) (c : Cells) (h : words_ok s u i c ≡ true) where
    word_p : word_ok s u.p i c.p ≡ true
    word_p = and_left (word_ok s u.p i c.p) (word_ok s u.q i c.q) (and_left (word_ok s u.p i c.p && word_ok s u.q i c.q) (word_ok s u.r i c.r) h)

    word_q : word_ok s u.q i c.q ≡ true
    word_q = and_right (word_ok s u.p i c.p) (word_ok s u.q i c.q) (and_left (word_ok s u.p i c.p && word_ok s u.q i c.q) (word_ok s u.r i c.r) h)

    word_r : word_ok s u.r i c.r ≡ true
    word_r = and_right (word_ok s u.p i c.p && word_ok s u.q i c.q) (word_ok s u.r i c.r) h

    parts_below : all_linkless u ≡ true → (Γ Δ Θ : Scope) → Each (λ p Γ. (1 ≤ p) × (p < i)) (handed own u c Γ Δ Θ)
    parts_below l Γ Δ Θ =
        let a = and_left (linkless u.p && linkless u.q) (linkless u.r) l in
        handed_each (λ p. (1 ≤ p) × (p < i)) own u c Γ Δ Θ
        (part_below u.p i c.p (and_left (linkless u.p) (linkless u.q) a) word_p)
        (part_below u.q i c.q (and_right (linkless u.p) (linkless u.q) a) word_q)
        (part_below u.r i c.r (and_right (linkless u.p && linkless u.q) (linkless u.r) l) word_r)

    asks_inside : (Γ Δ Θ : Scope) → Each (λ p Γ. (1 ≤ p) × (p ≤ s.script.queries)) (handed asking u c Γ Δ Θ)
    asks_inside Γ Δ Θ = handed_each (λ p. (1 ≤ p) × (p ≤ s.script.queries)) asking u c Γ Δ Θ (ask_inside u.p i c.p word_p) (ask_inside u.q i c.q word_q) (ask_inside u.r i c.r word_r)

  -- ---- a call's arguments: absent exactly if they are 0

  argument_test : (a : Bool) (i w : ℕ) → word_ok s (cond a Use.unused Use.query) i w ≡ true → eqb w 0 ≡ a
  unfolding word_ok
  argument_test true i w h = h
  argument_test false i w h = ne_eqb w 0 (λ e. omega (arith, table_low s.script.queries w h))

  module _ (P : ℕ → Procedure) (p q r i : ℕ) where
    abbrev Given : ℕ → Type 0
    Given k = words_ok s (statement_uses P (cells k p q r)) i (cells k p q r) ≡ true → statement_uses P (cells k p q r) ≡ statement_uses (given (cells k p q r)) (cells k p q r)

    uses_given : (k : ℕ) → Given k
    uses_given = by_15 Given
        (λ h. refl) (λ h. refl) (λ h. refl) (λ h. refl) (λ h. refl) (λ h. refl) (λ h. refl) (λ h. refl) (λ h. refl) (λ h. refl) (λ h. refl) (λ h. refl) (λ h. refl) (λ h. refl)
        (λ h. rw (argument_test (eqb (P p).first 0) i q (word_q (statement_uses P (cells 14 p q r)) i (cells 14 p q r) h), argument_test (eqb (P p).second 0) i r (word_r (statement_uses P (cells 14 p q r)) i (cells 14 p q r) h)))
        (λ k h. refl)

    -- the first may be 0 only if the second is
    call_test : words_ok s (statement_uses P (cells 14 p q r)) i (cells 14 p q r) ≡ true → not (eqb (P p).first 0) || eqb (P p).second 0 ≡ true → eqb q 0 ≡ true → eqb r 0 ≡ true
    call_test h f e =
        let a : eqb q 0 ≡ eqb (P p).first 0 = argument_test (eqb (P p).first 0) i q (word_q (statement_uses P (cells 14 p q r)) i (cells 14 p q r) h) in
        let b : eqb r 0 ≡ eqb (P p).second 0 = argument_test (eqb (P p).second 0) i r (word_r (statement_uses P (cells 14 p q r)) i (cells 14 p q r) h) in
        b ∙ second (eqb (P p).first 0) (eqb (P p).second 0) (sym a ∙ e) f
      where
        second : (x y : Bool) → x ≡ true → not x || y ≡ true → y ≡ true
        second true y z g = g
        second false y z g = absurd (false≢true z)

-- ---- all of it

-- every row has one user, and the rows are as the pass needs them
pub record Facts (S : Script) : Type 0 where
  pub few_statements : S.statements ≤ 512
  pub few_queries : S.queries ≤ 512
  pub main_in : (1 ≤ S.main) × (S.main ≤ S.statements)
  pub body_in : (c : ℕ) → 1 ≤ c → c ≤ S.procedures → (1 ≤ (S.procedure_row c).body) × ((S.procedure_row c).body ≤ S.statements)
  pub below : (i : ℕ) → 1 ≤ i → i ≤ S.statements → (Γ : Scope) → Each (λ p Δ. (1 ≤ p) × (p < i)) (statement_parts (S.statement_row i) Γ)
  pub inside : (i : ℕ) → 1 ≤ i → i ≤ S.statements → (Γ : Scope) → Each (λ p Δ. (1 ≤ p) × (p ≤ S.queries)) (statement_asks (S.statement_row i) Γ)
  pub query_below : (i : ℕ) → 1 ≤ i → i ≤ S.queries → (Γ : Scope) → Each (λ p Δ. (1 ≤ p) × (p < i)) (query_parts (S.query_row i) Γ)
  pub call : (i : ℕ) → 1 ≤ i → i ≤ S.statements → (S.statement_row i).kind ≡ 14 → eqb (S.statement_row i).q 0 ≡ true → eqb (S.statement_row i).r 0 ≡ true
  pub once : (r : ℕ) → 1 ≤ r → r ≤ S.statements
      → total (λ i. hits own r (statement_uses (given (S.statement_row i)) (S.statement_row i)) (S.statement_row i)) S.statements
      + total (λ c. hit r (S.procedure_row c).body) S.procedures + hit r S.main ≡ 1
  pub query_once : (r : ℕ) → 1 ≤ r → r ≤ S.queries
      → total (λ i. hits own r (query_uses (S.query_row i)) (S.query_row i)) S.queries
      + total (λ i. hits asking r (statement_uses (given (S.statement_row i)) (S.statement_row i)) (S.statement_row i)) S.statements ≡ 1

module _ (t : Sheet) (limits : limits_ok t ≡ true) (queries : queries_ok t ≡ true) (statements : statements_ok t ≡ true) (procedures : procedures_ok t ≡ true) (roots : roots_ok t ≡ true) (users : users_ok t ≡ true) where
  abbrev S : Script
  S = t.script

  main_inside : in_table S.statements S.main ≡ true
  main_inside = (roots-say t roots).main

  body_inside : (c : ℕ) → 1 ≤ c → c ≤ S.procedures → in_table S.statements (S.procedure_row c).body ≡ true
  body_inside c p q = body_says t c procedures (in_table_lem S.procedures c p q)

  parameters_order : (c : ℕ) → 1 ≤ c → c ≤ S.procedures → not (eqb (S.procedure_row c).first 0) || eqb (S.procedure_row c).second 0 ≡ true
  parameters_order c p q = let h = procedures_say t c procedures (in_table_lem S.procedures c p q) in search (and_left, and_right) depth 9

  statement_words : (i : ℕ) → 1 ≤ i → i ≤ S.statements → words_ok t (statement_uses S.procedure_row (S.statement_row i)) i (S.statement_row i) ≡ true
  statement_words i p q = statements_say t i statements (in_table_lem S.statements i p q)

  same_uses : (i : ℕ) → 1 ≤ i → i ≤ S.statements → statement_uses S.procedure_row (S.statement_row i) ≡ statement_uses (given (S.statement_row i)) (S.statement_row i)
  same_uses i p q = let c = S.statement_row i in uses_given t S.procedure_row c.p c.q c.r i c.kind (statement_words i p q)

  given_words : (i : ℕ) → 1 ≤ i → i ≤ S.statements → words_ok t (statement_uses (given (S.statement_row i)) (S.statement_row i)) i (S.statement_row i) ≡ true
  given_words i p q = rw (same_uses i p q) at (statement_words i p q)

  -- a call: its procedure is there, so its words are as the parameters say
  call_known : (p q r i : ℕ) → words_ok t (statement_uses S.procedure_row (cells 14 p q r)) i (cells 14 p q r) ≡ true → eqb q 0 ≡ true → eqb r 0 ≡ true
  unfolding word_ok
  call_known p q r i h =
      let inside = word_p t (statement_uses S.procedure_row (cells 14 p q r)) i (cells 14 p q r) h in
      call_test t S.procedure_row p q r i h (parameters_order p (table_low S.procedures p inside) (table_high S.procedures p inside))

  call_words : (c : Cells) (i : ℕ) → words_ok t (statement_uses S.procedure_row c) i c ≡ true → c.kind ≡ 14 → eqb c.q 0 ≡ true → eqb c.r 0 ≡ true
  call_words c i h e = call_known c.p c.q c.r i (subst (λ (k : ℕ). words_ok t (statement_uses S.procedure_row (cells k c.p c.q c.r)) i (cells k c.p c.q c.r) ≡ true) e h)

  statement_sum : (r : ℕ) → 1 ≤ r → r ≤ S.statements
      → total (λ i. hits own r (statement_uses (given (S.statement_row i)) (S.statement_row i)) (S.statement_row i)) S.statements
      + total (λ c. hit r (S.procedure_row c).body) S.procedures + hit r S.main ≡ 1
  unfolding statement_users
  statement_sum r p q =
      let e = total_same (λ i. hits own r (statement_uses S.procedure_row (S.statement_row i)) (S.statement_row i)) (λ i. hits own r (statement_uses (given (S.statement_row i)) (S.statement_row i)) (S.statement_row i)) S.statements
      (λ i a b. ap (λ u. hits own r u (S.statement_row i)) (same_uses i a b)) in
      let u = statement_user t r users (in_table_lem S.statements r p q) in
      omega arith

  query_sum : (r : ℕ) → 1 ≤ r → r ≤ S.queries
      → total (λ i. hits own r (query_uses (S.query_row i)) (S.query_row i)) S.queries
      + total (λ i. hits asking r (statement_uses (given (S.statement_row i)) (S.statement_row i)) (S.statement_row i)) S.statements ≡ 1
  unfolding query_users
  query_sum r p q =
      let e = total_same (λ i. hits asking r (statement_uses S.procedure_row (S.statement_row i)) (S.statement_row i)) (λ i. hits asking r (statement_uses (given (S.statement_row i)) (S.statement_row i)) (S.statement_row i)) S.statements
      (λ i a b. ap (λ u. hits asking r u (S.statement_row i)) (same_uses i a b)) in
      let u = query_user t r users (in_table_lem S.queries r p q) in
      omega arith

  facts_of : Facts S
  unfolding statement_parts statement_asks query_parts
  facts_of = record {
    few_statements = (few t limits).statements;
    few_queries = (few t limits).queries;
    main_in = (table_low S.statements S.main main_inside, table_high S.statements S.main main_inside);
    body_in = λ c p q. (table_low S.statements (S.procedure_row c).body (body_inside c p q), table_high S.statements (S.procedure_row c).body (body_inside c p q));
    below = λ i p q Γ. (let c = S.statement_row i in
        parts_below t (statement_uses (given c) c) i c (given_words i p q) (statement_linkless c.p c.q c.r c.kind) (cond (eqb c.kind 8) (with_forest Γ) Γ) (cond (eqb c.kind 7) (with_forest Γ) Γ) Γ);
    inside = λ i p q Γ. (let c = S.statement_row i in asks_inside t (statement_uses (given c) c) i c (given_words i p q) Γ Γ Γ);
    query_below = λ i p q Γ. (let c = S.query_row i in
        parts_below t (query_uses c) i c (queries_say t i queries (in_table_lem S.queries i p q)) (query_linkless c.p c.q c.r c.kind) Γ (cond (eqb c.kind 8) (with_forest Γ) (cond (eqb c.kind 13) (with_tree Γ) Γ)) Γ);
    call = λ i p q. call_words (S.statement_row i) i (statement_words i p q);
    once = statement_sum;
    query_once = query_sum;
  }

pub facts : (s : List ℕ) → Before s → Facts (script_of s)
unfolding sheet_of
facts s b = facts_of (sheet_of s) b.limits b.queries b.statements b.procedures b.roots b.users
