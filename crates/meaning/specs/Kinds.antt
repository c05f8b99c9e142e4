-- What one row says: a view for each table, the kinds in document 01's order ("Tables"). Kinds past the last are `none`; Shape refuses
-- them.
use Rattle.std.specs.Prelude.{ℕ, Bool, true, false, cond, List, [], ◌∷◌, eqb, get_or}
use Rattle.meaning.specs.Sheet.{Cells, Script}

pub data TypeRow : Type 0 where
  none empty text bool : TypeRow
  label : ℕ → ℕ → TypeRow
  seq choice : ℕ → ℕ → TypeRow
  star : ℕ → TypeRow
  name : ℕ → TypeRow

pub data Query : Type 0 where
  none empty : Query
  join : ℕ → ℕ → Query
  tree : ℕ → ℕ → Query
  text : ℕ → ℕ → Query
  bool : Bool → Query
  variable : ℕ → Query
  letin : ℕ → ℕ → Query
  if : ℕ → ℕ → ℕ → Query
  same : ℕ → ℕ → Query
  children : ℕ → Query
  pick : ℕ → ℕ → Query
  for : ℕ → ℕ → Query

-- what a test looks for
pub data Test : Type 0 where
  text any : Test
  label : ℕ → Test

pub data Statement : Type 0 where
  none skip : Statement
  then : ℕ → ℕ → Statement
  if : ℕ → ℕ → ℕ → Statement
  insert : ℕ → Statement
  delete : Statement
  rename : ℕ → Statement
  letin : ℕ → ℕ → Statement
  snapshot : ℕ → Statement
  test : Test → ℕ → Statement
  children left right iter : ℕ → Statement
  call : ℕ → List ℕ → Statement

abbrev pub type_form : Cells → TypeRow
type_form c = get_or
    (TypeRow.none
    ∷ TypeRow.empty ∷ TypeRow.text ∷ TypeRow.bool ∷ TypeRow.label c.p c.q
    ∷ TypeRow.seq c.p c.q ∷ TypeRow.choice c.p c.q ∷ TypeRow.star c.p ∷ TypeRow.name c.p ∷ [])
    c.kind TypeRow.none

abbrev pub query_form : Cells → Query
query_form c = get_or
    (Query.none
    ∷ Query.empty ∷ Query.join c.p c.q ∷ Query.tree c.p c.q ∷ Query.text c.p c.q
    ∷ Query.bool true ∷ Query.bool false ∷ Query.variable c.p ∷ Query.letin c.p c.q
    ∷ Query.if c.p c.q c.r ∷ Query.same c.p c.q ∷ Query.children c.p
    ∷ Query.pick c.p c.q ∷ Query.for c.p c.q ∷ [])
    c.kind Query.none

-- p: 1 text, 2 label q, 3 any tree
abbrev pub test_form : ℕ → ℕ → Test
test_form p q = get_or (Test.any ∷ Test.text ∷ Test.label q ∷ []) p Test.any

-- the arguments that are not absent; the first may be 0 only if the second is
abbrev pub present : ℕ → ℕ → List ℕ
present q r = cond (eqb q 0) [] (cond (eqb r 0) (q ∷ []) (q ∷ r ∷ []))

abbrev pub statement_form : Cells → Statement
statement_form c = get_or
    (Statement.none
    ∷ Statement.skip ∷ Statement.then c.p c.q ∷ Statement.if c.p c.q c.r ∷ Statement.insert c.p
    ∷ Statement.delete ∷ Statement.rename c.p ∷ Statement.letin c.p c.q ∷ Statement.snapshot c.p
    ∷ Statement.test (test_form c.p c.q) c.r ∷ Statement.children c.p ∷ Statement.left c.p
    ∷ Statement.right c.p ∷ Statement.iter c.p ∷ Statement.call c.p (present c.q c.r) ∷ [])
    c.kind Statement.none

abbrev pub type_at : Script → ℕ → TypeRow
type_at S r = type_form (S.type_row r)

abbrev pub query_at : Script → ℕ → Query
query_at S r = query_form (S.query_row r)

abbrev pub statement_at : Script → ℕ → Statement
statement_at S r = statement_form (S.statement_row r)
