-- Shape: every rule and limit under "Tables" in document 01, each a test of its own, and all of them together. Refusal 2 is given exactly
-- if one fails.
use Rattle.std.specs.Prelude.{ℕ, zero, suc, ◌+◌, ◌-◌, Bool, true, false, ◌&&◌, ◌||◌, not, cond, List, []}
use Rattle.std.specs.Prelude.{◌∷◌, ◌++◌, eqb, leb, ltb, get_or, length}
use Rattle.meaning.specs.Limits.{
  most_names,
  most_rows,
  most_procedures,
  most_variables,
  last_label,
  most_forest_rows,
  most_pool,
  most_fuel,
}
use Rattle.meaning.specs.Tests.{every, total, in_table}
use Rattle.meaning.specs.Sheet.{Cells, Procedure, Script, Sheet, need, sheet_of}
use Rattle.meaning.specs.Kinds.{Query, Statement, query_at, statement_at, present}

-- ---- what each word of a row is for

pub data Use : Type 0 where
  unused : Use
  free : Use
  label : Use
  part : Use
  link : Use
  query : Use
  name : Use
  procedure : Use
  tester : Use
  size_at : ℕ → Use

pub record Uses : Type 0 where
  pub p : Use
  pub q : Use
  pub r : Use

abbrev pub uses : Use → Use → Use → Uses
uses p q r = record { p = p; q = q; r = r }

abbrev pub no_uses : Uses
no_uses = uses unused unused unused

-- types: 1 empty, 2 text, 3 bool, 4 label, 5 sequence, 6 choice, 7 star, 8 name
abbrev pub type_uses : Cells → Uses
type_uses c = get_or
    (no_uses
    ∷ no_uses ∷ no_uses ∷ no_uses ∷ uses label part unused
    ∷ uses part part unused ∷ uses part part unused ∷ uses part unused unused ∷ uses name unused unused ∷ [])
    c.kind no_uses

-- queries: 1 empty, 2 join, 3 tree, 4 text, 5 true, 6 false, 7 variable, 8 let, 9 if, 10 same, 11 children, 12 pick, 13 for
abbrev pub query_uses : Cells → Uses
query_uses c = get_or
    (no_uses
    ∷ no_uses ∷ uses part part unused ∷ uses label part unused ∷ uses free (size_at c.p) unused
    ∷ no_uses ∷ no_uses ∷ uses free unused unused ∷ uses part part unused
    ∷ uses part part part ∷ uses part part unused ∷ uses free unused unused
    ∷ uses part label unused ∷ uses part part unused ∷ [])
    c.kind no_uses

-- an argument is a query where the procedure has that parameter, and else absent
abbrev pub argument : ℕ → Use
argument parameter = cond (eqb parameter 0) unused query

-- statements: 1 skip, 2 then, 3 if, 4 insert, 5 delete, 6 rename, 7 let, 8 snapshot, 9 test, 10 children, 11 left, 12 right, 13 iter, 14
-- call
abbrev pub statement_uses : (ℕ → Procedure) → Cells → Uses
statement_uses procedures c = get_or
    (no_uses
    ∷ no_uses ∷ uses part part unused ∷ uses query part part ∷ uses query unused unused
    ∷ no_uses ∷ uses label unused unused ∷ uses query part unused ∷ uses part unused unused
    ∷ uses tester (cond (eqb c.p 2) label unused) part ∷ uses part unused unused ∷ uses part unused unused
    ∷ uses part unused unused ∷ uses part unused unused
    ∷ uses procedure (argument (procedures c.p).first) (argument (procedures c.p).second) ∷ [])
    c.kind no_uses

-- forests: 1 text, 2 false, 3 true, 4 label; the last word is next
abbrev pub forest_uses : Cells → Uses
forest_uses c = get_or
    (no_uses
    ∷ uses free (size_at c.p) link ∷ uses unused unused link ∷ uses unused unused link ∷ uses label link link ∷ [])
    c.kind no_uses

-- ---- what a word of each use must be

-- words without a use are 0
abbrev pub absent : ℕ → Bool
absent w = eqb w 0

-- labels 0 to 1,023
abbrev pub is_label : ℕ → Bool
is_label w = leb w last_label

-- a lower row of the same table, not 0
abbrev pub is_part : ℕ → ℕ → Bool
is_part row w = in_table (row - 1) w

-- child and next: a lower row of the same table, or 0
abbrev pub is_link : ℕ → ℕ → Bool
is_link row w = ltb w row

-- offset plus length is at most the pool's bytes
abbrev pub is_size : ℕ → ℕ → ℕ → Bool
is_size pool offset w = leb (offset + w) pool

module _ (s : Sheet) where
  -- of a variable the scope is the judge, of an offset its length
  unfoldable pub word_ok : Use → ℕ → ℕ → Bool
  word_ok unused row w = absent w
  word_ok free row w = true
  word_ok label row w = is_label w
  word_ok part row w = is_part row w
  word_ok link row w = is_link row w
  word_ok query row w = in_table s.script.queries w
  word_ok name row w = in_table s.script.names w
  word_ok procedure row w = in_table s.script.procedures w
  word_ok tester row w = in_table 3 w
  word_ok (size_at offset) row w = is_size s.grove.pool offset w

  abbrev pub words_ok : Uses → ℕ → Cells → Bool
  words_ok u row c = word_ok u.p row c.p && word_ok u.q row c.q && word_ok u.r row c.r

  -- each row's kind is one of the table's, and its words are as they must be
  unfoldable pub types_ok : Bool
  types_ok = every (λ i. in_table 8 (s.script.type_row i).kind && words_ok (type_uses (s.script.type_row i)) i (s.script.type_row i))
      s.script.types

  unfoldable pub queries_ok : Bool
  queries_ok = every (λ i. in_table 13 (s.script.query_row i).kind && words_ok (query_uses (s.script.query_row i)) i
      (s.script.query_row i)) s.script.queries

  unfoldable pub statements_ok : Bool
  statements_ok = every (λ i. in_table 14 (s.script.statement_row i).kind && words_ok
      (statement_uses s.script.procedure_row (s.script.statement_row i)) i (s.script.statement_row i)) s.script.statements

  unfoldable pub rows_ok : Bool
  rows_ok = every (λ i. in_table 4 (s.grove.row i).kind && words_ok (forest_uses (s.grove.row i)) i (s.grove.row i)) s.grove.rows

  -- each name stands for one row of kind 4
  unfoldable pub names_ok : Bool
  names_ok = every (λ x. in_table s.script.types (s.script.name_row x) && eqb (s.script.type_row (s.script.name_row x)).kind 4)
      s.script.names

  -- a parameter's type, or 0
  abbrev pub parameter_ok : ℕ → Bool
  parameter_ok w = leb w s.script.types

  -- the first parameter may be 0 only if the second is; input, output and body are there
  abbrev pub procedure_ok : Procedure → Bool
  procedure_ok c = parameter_ok c.first && parameter_ok c.second && (not (eqb c.first 0) || eqb c.second 0)
      && in_table s.script.types c.input && in_table s.script.types c.output && in_table s.script.statements c.body

  unfoldable pub procedures_ok : Bool
  procedures_ok = every (λ c. procedure_ok (s.script.procedure_row c)) s.script.procedures

  -- A, B and main are there; the forest's root may be 0
  unfoldable pub roots_ok : Bool
  roots_ok = in_table s.script.types s.script.a && in_table s.script.types s.script.b
      && in_table s.script.statements s.script.main && leb s.grove.root s.grove.rows

  unfoldable pub limits_ok : Bool
  limits_ok = leb s.script.names most_names && leb s.script.types most_rows && leb s.script.queries most_rows
      && leb s.script.statements most_rows && leb s.script.procedures most_procedures && leb s.grove.rows most_forest_rows
      && leb s.grove.pool most_pool && leb s.check_fuel most_fuel && leb s.run_fuel most_fuel

-- ---- exactly one user

-- does a word of this use refer to a row of its own table, or to a query
unfoldable pub own : Use → Bool
own unused = false
own free = false
own label = false
own part = true
own link = true
own query = false
own name = false
own procedure = false
own tester = false
own (size_at offset) = false

unfoldable pub asking : Use → Bool
asking unused = false
asking free = false
asking label = false
asking part = false
asking link = false
asking query = true
asking name = false
asking procedure = false
asking tester = false
asking (size_at offset) = false

-- 1 if the word w is the row r
abbrev pub hit : ℕ → ℕ → ℕ
hit r w = cond (eqb w r) 1 0

-- how many words of a row, among those of a use, are the row r
abbrev pub hits : (Use → Bool) → ℕ → Uses → Cells → ℕ
hits which r u c = cond (which u.p && eqb c.p r) 1 0 + cond (which u.q && eqb c.q r) 1 0 + cond (which u.r && eqb c.r r)
    1 0

module _ (s : Sheet) where
  abbrev pub procedure_hits : ℕ → Procedure → ℕ
  procedure_hits r c = hit r c.first + hit r c.second + hit r c.input + hit r c.output

  unfoldable pub type_users : ℕ → ℕ
  type_users r = total (λ i. hits own r (type_uses (s.script.type_row i)) (s.script.type_row i)) s.script.types
      + total (λ x. hit r (s.script.name_row x)) s.script.names
      + total (λ c. procedure_hits r (s.script.procedure_row c)) s.script.procedures
      + hit r s.script.a + hit r s.script.b

  unfoldable pub query_users : ℕ → ℕ
  query_users r = total (λ i. hits own r (query_uses (s.script.query_row i)) (s.script.query_row i)) s.script.queries
      + total (λ i. hits asking r (statement_uses s.script.procedure_row (s.script.statement_row i)) (s.script.statement_row i))
      s.script.statements

  unfoldable pub statement_users : ℕ → ℕ
  statement_users r = total (λ i. hits own r (statement_uses s.script.procedure_row (s.script.statement_row i))
      (s.script.statement_row i)) s.script.statements
      + total (λ c. hit r (s.script.procedure_row c).body) s.script.procedures
      + hit r s.script.main

  unfoldable pub row_users : ℕ → ℕ
  row_users r = total (λ i. hits own r (forest_uses (s.grove.row i)) (s.grove.row i)) s.grove.rows + hit r s.grove.root

  unfoldable pub users_ok : Bool
  users_ok = every (λ r. eqb (type_users r) 1) s.script.types && every (λ r. eqb (query_users r) 1) s.script.queries
      && every (λ r. eqb (statement_users r) 1) s.script.statements && every (λ r. eqb (row_users r) 1) s.grove.rows

-- ---- scope: variables count from 0, outermost first; parameters come first; let, snapshot and for add one, seen in their body only

-- a place holds a forest or, for a variable of `for`, a tree
pub data Holds : Type 0 where
  a_forest a_tree : Holds

abbrev pub Scope : Type 0
Scope = List Holds

unfoldable pub holds_tree : Holds → Bool
holds_tree a_forest = false
holds_tree a_tree = true

-- the scope is sixteen places: a binder needs one that is free
abbrev pub has_place : Scope → Bool
has_place Γ = ltb (length Γ) most_variables

-- a variable that is in scope; kind 11 needs a tree variable
abbrev pub in_scope : Scope → ℕ → Bool
in_scope Γ v = ltb v (length Γ)

unfoldable pub query_scope : Query → (Scope → ℕ → Bool) → Scope → Bool
query_scope Query.none go Γ = true
query_scope Query.empty go Γ = true
query_scope (Query.join p q) go Γ = go Γ p && go Γ q
query_scope (Query.tree n q) go Γ = go Γ q
query_scope (Query.text p q) go Γ = true
query_scope (Query.bool b) go Γ = true
query_scope (Query.variable v) go Γ = in_scope Γ v
query_scope (Query.letin p q) go Γ = go Γ p && has_place Γ && go (Γ ++ a_forest ∷ []) q
query_scope (Query.if p q r) go Γ = go Γ p && go Γ q && go Γ r
query_scope (Query.same p q) go Γ = go Γ p && go Γ q
query_scope (Query.children v) go Γ = in_scope Γ v && holds_tree (get_or Γ v a_forest)
query_scope (Query.pick p l) go Γ = go Γ p
query_scope (Query.for p q) go Γ = go Γ p && has_place Γ && go (Γ ++ a_tree ∷ []) q

unfoldable pub arguments_scope : (ℕ → Bool) → List ℕ → Bool
arguments_scope go [] = true
arguments_scope go (q ∷ l) = go q && arguments_scope go l

unfoldable pub statement_scope : Statement → (Scope → ℕ → Bool) → (Scope → ℕ → Bool) → Scope → Bool
statement_scope Statement.none go asks Γ = true
statement_scope Statement.skip go asks Γ = true
statement_scope (Statement.then p q) go asks Γ = go Γ p && go Γ q
statement_scope (Statement.if p q r) go asks Γ = asks Γ p && go Γ q && go Γ r
statement_scope (Statement.insert p) go asks Γ = asks Γ p
statement_scope Statement.delete go asks Γ = true
statement_scope (Statement.rename l) go asks Γ = true
statement_scope (Statement.letin p q) go asks Γ = asks Γ p && has_place Γ && go (Γ ++ a_forest ∷ []) q
statement_scope (Statement.snapshot p) go asks Γ = has_place Γ && go (Γ ++ a_forest ∷ []) p
statement_scope (Statement.test t r) go asks Γ = go Γ r
statement_scope (Statement.children p) go asks Γ = go Γ p
statement_scope (Statement.left p) go asks Γ = go Γ p
statement_scope (Statement.right p) go asks Γ = go Γ p
statement_scope (Statement.iter p) go asks Γ = go Γ p
statement_scope (Statement.call c l) go asks Γ = arguments_scope (asks Γ) l

-- parameters are forest variables
unfoldable pub parameters_scope : List ℕ → Scope
parameters_scope [] = []
parameters_scope (r ∷ l) = a_forest ∷ parameters_scope l

module _ (S : Script) where
  -- in at most k steps down: rows refer to lower rows, so as many as the table has rows are enough
  unfoldable pub query_scoped : ℕ → Scope → ℕ → Bool
  query_scoped zero Γ i = true
  query_scoped (suc k) Γ i = query_scope (query_at S i) (query_scoped k) Γ

  unfoldable pub statement_scoped : ℕ → Scope → ℕ → Bool
  statement_scoped zero Γ i = true
  statement_scoped (suc k) Γ i = statement_scope (statement_at S i) (statement_scoped k) (query_scoped S.queries) Γ

  -- main has no variables; a body sees its parameters only
  unfoldable pub scope_ok : Bool
  scope_ok = statement_scoped S.statements [] S.main
      && every (λ c. statement_scoped S.statements (parameters_scope (present (S.procedure_row c).first (S.procedure_row c).second))
      (S.procedure_row c).body) S.procedures

-- ---- all of it

abbrev pub shaped : Sheet → Bool
shaped s = limits_ok s && types_ok s && queries_ok s && statements_ok s && rows_ok s && names_ok s && procedures_ok s && roots_ok s &&
    users_ok s && scope_ok s.script

-- a slice shorter than its counts ask is Shape too
abbrev pub whole : List ℕ → Bool
whole b = leb (need b) (length b)

abbrev pub shapely : List ℕ → Bool
shapely b = whole b && shaped (sheet_of b)
