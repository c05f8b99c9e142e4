-- Scopes as words, and what a row hands down: a word says how many places there are and which of them hold trees, and each row's parts get their scope from it.
use Rattle.std.specs.Prelude.{◌≡◌, List, [], ◌∷◌, ◌++◌, Bool, true, false, ◌&&◌, cond, ℕ, zero, suc, ◌/◌, ◌%◌, ◌^◌, ◌≤◌, ◌<◌, eqb, get_or, length}
use Rattle.meaning.specs.Sheet.{Cells, Procedure, Script, sheet_of}
use Rattle.meaning.specs.Kinds.{Query, Statement, present}
use Rattle.meaning.specs.Shape.{
  Use,
  Uses,
  own,
  asking,
  query_uses,
  statement_uses,
  Holds,
  Scope,
  a_forest,
  a_tree,
  has_place,
  in_scope,
  holds_tree,
  parameters_scope,
  limits_ok,
  queries_ok,
  statements_ok,
  procedures_ok,
  roots_ok,
  users_ok,
  scope_ok,
}
use Rattle.bits.specs.Digits.{bit}

-- what Shape has established before it asks about scope
pub record Before (s : List ℕ) : Type 0 where
  pub limits : limits_ok (sheet_of s) ≡ true
  pub queries : queries_ok (sheet_of s) ≡ true
  pub statements : statements_ok (sheet_of s) ≡ true
  pub procedures : procedures_ok (sheet_of s) ≡ true
  pub roots : roots_ok (sheet_of s) ≡ true
  pub users : users_ok (sheet_of s) ≡ true

-- ---- a scope as a word: how many places in the low five digits, above them a digit for each place, 1 where it holds a tree

unfoldable pub holding : ℕ → Holds
holding zero = a_forest
holding (suc d) = a_tree

unfoldable pub places : ℕ → ℕ → Scope
places zero t = []
places (suc n) t = places n t ++ holding (bit t n) ∷ []

unfoldable pub scope_of : ℕ → Scope
scope_of x = places (x % 32) (x / 32)

-- at most sixteen places, and no digit past the last
pub record Neat (x : ℕ) : Type 0 where
  pub few : x % 32 ≤ 16
  pub clean : x / 32 < 2 ^ (x % 32)

-- the scope of row j by the words l
abbrev pub seen : List ℕ → ℕ → Scope
seen l j = scope_of (get_or l j 0)

-- ---- what is handed down

abbrev pub with_forest : Scope → Scope
with_forest Γ = Γ ++ a_forest ∷ []

abbrev pub with_tree : Scope → Scope
with_tree Γ = Γ ++ a_tree ∷ []

-- a row and its scope
pub record Hand : Type 0 where
  pub row : ℕ
  pub scope : Scope

abbrev pub hand_of : ℕ → Scope → Hand
hand_of r Γ = record { row = r; scope = Γ }

-- scopes after one is handed down, and after several
abbrev pub put : (ℕ → Scope) → ℕ → Scope → ℕ → Scope
put σ r Γ j = cond (eqb r j) Γ (σ j)

unfoldable pub after : List Hand → (ℕ → Scope) → ℕ → Scope
after [] σ j = σ j
after (h ∷ l) σ j = after l (put σ h.row h.scope) j

-- each hand keeps the promise
pub data Each (P : ℕ → Scope → Type 0) : List Hand → Type 0 where
  none : Each P []
  more : {h : Hand} {l : List Hand} → P h.row h.scope → Each P l → Each P (h ∷ l)

unfoldable pub takes : Bool → ℕ → Scope → List Hand → List Hand
takes true r Γ l = hand_of r Γ ∷ l
takes false r Γ l = l

-- the words of a row that are of a use, with the scope of each
abbrev pub handed : (Use → Bool) → Uses → Cells → Scope → Scope → Scope → List Hand
handed which u c Γ Δ Θ = takes (which u.p) c.p Γ (takes (which u.q) c.q Δ (takes (which u.r) c.r Θ []))

-- a call's arguments are queries where they are not 0
abbrev pub given : Cells → ℕ → Procedure
given c x = record { first = c.q; second = c.r; input = 0; output = 0; body = 0 }

unfoldable pub statement_parts : Cells → Scope → List Hand
statement_parts c Γ = handed own (statement_uses (given c) c) c (cond (eqb c.kind 8) (with_forest Γ) Γ) (cond (eqb c.kind 7) (with_forest Γ) Γ) Γ

unfoldable pub statement_asks : Cells → Scope → List Hand
statement_asks c Γ = handed asking (statement_uses (given c) c) c Γ Γ Γ

unfoldable pub query_parts : Cells → Scope → List Hand
query_parts c Γ = handed own (query_uses c) c Γ (cond (eqb c.kind 8) (with_forest Γ) (cond (eqb c.kind 13) (with_tree Γ) Γ)) Γ

-- a row's own rule under its scope
unfoldable pub statement_rule : Cells → Scope → Bool
statement_rule c Γ = get_or (true ∷ true ∷ true ∷ true ∷ true ∷ true ∷ true ∷ has_place Γ ∷ has_place Γ ∷ []) c.kind true

unfoldable pub query_rule : Cells → Scope → Bool
query_rule c Γ = get_or
    (true ∷ true ∷ true ∷ true ∷ true ∷ true ∷ true ∷ in_scope Γ c.p ∷ has_place Γ ∷ true ∷ true
    ∷ (in_scope Γ c.p && holds_tree (get_or Γ c.p a_forest)) ∷ true ∷ has_place Γ ∷ [])
    c.kind true

-- ---- what the code keeps of its words

pub record Words (l : List ℕ) : Type 0 where
  pub size : length l ≡ 513
  pub neat : (j : ℕ) → Neat (get_or l j 0)

-- the words of the rows 1 to 512 after a list of hands
pub record Handed (old new : List ℕ) (l : List Hand) : Type 0 where
  pub at : (j : ℕ) → 1 ≤ j → j ≤ 512 → seen new j ≡ after l (seen old) j

-- a binder: it finds a free place and, where it does, hands scopes down
pub record Bound (Γ : Scope) (l : List Hand) (old new : List ℕ) (ok : Bool) : Type 0 where
  pub rule : ok ≡ has_place Γ
  pub hands : ok ≡ true → Handed old new l

-- ---- what a row says, and the scopes that it hands down (proofs/Said.antt: they are those of its words' uses)

abbrev pub query_hands : Query → Scope → List Hand
query_hands Query.none Γ = []
query_hands Query.empty Γ = []
query_hands (Query.join p q) Γ = hand_of p Γ ∷ hand_of q Γ ∷ []
query_hands (Query.tree l q) Γ = hand_of q Γ ∷ []
query_hands (Query.text o n) Γ = []
query_hands (Query.bool b) Γ = []
query_hands (Query.variable v) Γ = []
query_hands (Query.letin p q) Γ = hand_of p Γ ∷ hand_of q (with_forest Γ) ∷ []
query_hands (Query.if p q r) Γ = hand_of p Γ ∷ hand_of q Γ ∷ hand_of r Γ ∷ []
query_hands (Query.same p q) Γ = hand_of p Γ ∷ hand_of q Γ ∷ []
query_hands (Query.children v) Γ = []
query_hands (Query.pick p l) Γ = hand_of p Γ ∷ []
query_hands (Query.for p q) Γ = hand_of p Γ ∷ hand_of q (with_tree Γ) ∷ []

abbrev pub query_test : Query → Scope → Bool
query_test Query.none Γ = true
query_test Query.empty Γ = true
query_test (Query.join p q) Γ = true
query_test (Query.tree l q) Γ = true
query_test (Query.text o n) Γ = true
query_test (Query.bool b) Γ = true
query_test (Query.variable v) Γ = in_scope Γ v
query_test (Query.letin p q) Γ = has_place Γ
query_test (Query.if p q r) Γ = true
query_test (Query.same p q) Γ = true
query_test (Query.children v) Γ = in_scope Γ v && holds_tree (get_or Γ v a_forest)
query_test (Query.pick p l) Γ = true
query_test (Query.for p q) Γ = has_place Γ

abbrev pub statement_hands : Statement → Scope → List Hand
statement_hands Statement.none Γ = []
statement_hands Statement.skip Γ = []
statement_hands (Statement.then p q) Γ = hand_of p Γ ∷ hand_of q Γ ∷ []
statement_hands (Statement.if p q r) Γ = hand_of q Γ ∷ hand_of r Γ ∷ []
statement_hands (Statement.insert p) Γ = []
statement_hands Statement.delete Γ = []
statement_hands (Statement.rename l) Γ = []
statement_hands (Statement.letin p q) Γ = hand_of q (with_forest Γ) ∷ []
statement_hands (Statement.snapshot p) Γ = hand_of p (with_forest Γ) ∷ []
statement_hands (Statement.test t r) Γ = hand_of r Γ ∷ []
statement_hands (Statement.children p) Γ = hand_of p Γ ∷ []
statement_hands (Statement.left p) Γ = hand_of p Γ ∷ []
statement_hands (Statement.right p) Γ = hand_of p Γ ∷ []
statement_hands (Statement.iter p) Γ = hand_of p Γ ∷ []
statement_hands (Statement.call c l) Γ = []

-- the arguments that are there
abbrev pub argument_hands : List ℕ → Scope → List Hand
argument_hands [] Γ = []
argument_hands (q ∷ l) Γ = hand_of q Γ ∷ argument_hands l Γ

-- to its queries
abbrev pub query_hands_of : Statement → Scope → List Hand
query_hands_of Statement.none Γ = []
query_hands_of Statement.skip Γ = []
query_hands_of (Statement.then p q) Γ = []
query_hands_of (Statement.if p q r) Γ = hand_of p Γ ∷ []
query_hands_of (Statement.insert p) Γ = hand_of p Γ ∷ []
query_hands_of Statement.delete Γ = []
query_hands_of (Statement.rename l) Γ = []
query_hands_of (Statement.letin p q) Γ = hand_of p Γ ∷ []
query_hands_of (Statement.snapshot p) Γ = []
query_hands_of (Statement.test t r) Γ = []
query_hands_of (Statement.children p) Γ = []
query_hands_of (Statement.left p) Γ = []
query_hands_of (Statement.right p) Γ = []
query_hands_of (Statement.iter p) Γ = []
query_hands_of (Statement.call c l) Γ = argument_hands l Γ

abbrev pub statement_test : Statement → Scope → Bool
statement_test Statement.none Γ = true
statement_test Statement.skip Γ = true
statement_test (Statement.then p q) Γ = true
statement_test (Statement.if p q r) Γ = true
statement_test (Statement.insert p) Γ = true
statement_test Statement.delete Γ = true
statement_test (Statement.rename l) Γ = true
statement_test (Statement.letin p q) Γ = has_place Γ
statement_test (Statement.snapshot p) Γ = has_place Γ
statement_test (Statement.test t r) Γ = true
statement_test (Statement.children p) Γ = true
statement_test (Statement.left p) Γ = true
statement_test (Statement.right p) Γ = true
statement_test (Statement.iter p) Γ = true
statement_test (Statement.call c l) Γ = true

-- a query under its scope: its own rule and, where that is passed, the scopes of its parts
pub record QueryDone (c : Query) (Γ : Scope) (old new : List ℕ) (ok : Bool) : Type 0 where
  pub rule : ok ≡ query_test c Γ
  pub parts : ok ≡ true → Handed old new (query_hands c Γ)

-- a statement under its scope; its queries get theirs from it
pub record StatementDone (c : Statement) (Γ : Scope) (old new asked asked' : List ℕ) (ok : Bool) : Type 0 where
  pub rule : ok ≡ statement_test c Γ
  pub parts : ok ≡ true → Handed old new (statement_hands c Γ)
  pub asks : ok ≡ true → Handed asked asked' (query_hands_of c Γ)

-- ---- the pass from the top down: σ holds the scopes of statements, τ those of queries

module _ (S : Script) where
  pub record Rooted (σ : ℕ → Scope) : Type 0 where
    pub main : σ S.main ≡ []
    pub bodies : (c : ℕ) → 1 ≤ c → c ≤ S.procedures → σ (S.procedure_row c).body ≡ parameters_scope (present (S.procedure_row c).first (S.procedure_row c).second)

  -- the statements above i pass, and have handed their scopes down
  pub record Statements (i : ℕ) (σ τ : ℕ → Scope) : Type 0 where
    pub roots : Rooted σ
    pub passed : (u : ℕ) → i < u → u ≤ S.statements → statement_rule (S.statement_row u) (σ u) ≡ true
    pub parts : (u : ℕ) → i < u → u ≤ S.statements → Each (λ p Γ. σ p ≡ Γ) (statement_parts (S.statement_row u) (σ u))
    pub asks : (u : ℕ) → i < u → u ≤ S.statements → Each (λ p Γ. τ p ≡ Γ) (statement_asks (S.statement_row u) (σ u))

  -- all statements pass under some scopes, and the queries above i
  pub record Queries (i : ℕ) (τ : ℕ → Scope) : Type 0 where
    pub σ : ℕ → Scope
    pub above : Statements 0 σ τ
    pub passed : (u : ℕ) → i < u → u ≤ S.queries → query_rule (S.query_row u) (τ u) ≡ true
    pub parts : (u : ℕ) → i < u → u ≤ S.queries → Each (λ p Γ. τ p ≡ Γ) (query_parts (S.query_row u) (τ u))

  -- all statements were judged
  pub record Judged (asked : List ℕ) (ok : Bool) : Type 0 where
    pub refused : ok ≡ false → scope_ok S ≡ false
    pub passed : ok ≡ true → Queries S.queries (seen asked)
