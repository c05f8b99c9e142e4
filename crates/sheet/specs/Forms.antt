-- The forms of rows, and the meaning's: kind for kind.
use Rattle.std.specs.Prelude.{ℕ, ◌<◌, ◌≡◌, true, false, [], ◌∷◌, get_or}
use Rattle.meaning.specs.Sheet.{Cells}
use Rattle.meaning.specs.Kinds as meaning
use Rattle.sheet.specs.declared.forms.Ty.{Ty}
use Rattle.sheet.specs.declared.forms.Query.{Query}
use Rattle.sheet.specs.declared.forms.Test.{Test}
use Rattle.sheet.specs.declared.forms.Statement.{Statement}
use Rattle.sheet.specs.declared.forms.Tree.{Tree}

abbrev pub type_said : Ty → meaning.TypeRow
type_said Ty.Nothing = meaning.TypeRow.none
type_said Ty.Empty = meaning.TypeRow.empty
type_said Ty.Text = meaning.TypeRow.text
type_said Ty.Bool = meaning.TypeRow.bool
type_said (Ty.Label l q) = meaning.TypeRow.label l q
type_said (Ty.Sequence p q) = meaning.TypeRow.seq p q
type_said (Ty.Choice p q) = meaning.TypeRow.choice p q
type_said (Ty.Star p) = meaning.TypeRow.star p
type_said (Ty.Name x) = meaning.TypeRow.name x

abbrev pub test_said : Test → meaning.Test
test_said Test.Text = meaning.Test.text
test_said (Test.Label l) = meaning.Test.label l
test_said Test.Any = meaning.Test.any

abbrev pub query_said : Query → meaning.Query
query_said Query.Nothing = meaning.Query.none
query_said Query.Empty = meaning.Query.empty
query_said (Query.Join p q) = meaning.Query.join p q
query_said (Query.Tree l q) = meaning.Query.tree l q
query_said (Query.Text o n) = meaning.Query.text o n
query_said (Query.Bool b) = meaning.Query.bool b
query_said (Query.Variable v) = meaning.Query.variable v
query_said (Query.Let p q) = meaning.Query.letin p q
query_said (Query.If p q r) = meaning.Query.if p q r
query_said (Query.Same p q) = meaning.Query.same p q
query_said (Query.Children v) = meaning.Query.children v
query_said (Query.Pick p l) = meaning.Query.pick p l
query_said (Query.For p q) = meaning.Query.for p q

abbrev pub statement_said : Statement → meaning.Statement
statement_said Statement.Nothing = meaning.Statement.none
statement_said Statement.Skip = meaning.Statement.skip
statement_said (Statement.Then p q) = meaning.Statement.then p q
statement_said (Statement.If p q r) = meaning.Statement.if p q r
statement_said (Statement.Insert p) = meaning.Statement.insert p
statement_said Statement.Delete = meaning.Statement.delete
statement_said (Statement.Rename l) = meaning.Statement.rename l
statement_said (Statement.Let p q) = meaning.Statement.letin p q
statement_said (Statement.Snapshot p) = meaning.Statement.snapshot p
statement_said (Statement.Test t r) = meaning.Statement.test (test_said t) r
statement_said (Statement.Children p) = meaning.Statement.children p
statement_said (Statement.Left p) = meaning.Statement.left p
statement_said (Statement.Right p) = meaning.Statement.right p
statement_said (Statement.Iter p) = meaning.Statement.iter p
statement_said (Statement.Call c q r) = meaning.Statement.call c (meaning.present q r)

-- labels, offsets and lengths are words
abbrev pub QueryWords : Query → Type 0
QueryWords Query.Nothing = Unit {0}
QueryWords Query.Empty = Unit {0}
QueryWords (Query.Join p q) = Unit {0}
QueryWords (Query.Tree l q) = l < 65536
QueryWords (Query.Text o n) = (o < 65536) × (n < 65536)
QueryWords (Query.Bool b) = Unit {0}
QueryWords (Query.Variable v) = Unit {0}
QueryWords (Query.Let p q) = Unit {0}
QueryWords (Query.If p q r) = Unit {0}
QueryWords (Query.Same p q) = Unit {0}
QueryWords (Query.Children v) = Unit {0}
QueryWords (Query.Pick p l) = l < 65536
QueryWords (Query.For p q) = Unit {0}

abbrev pub TestWords : Test → Type 0
TestWords Test.Text = Unit {0}
TestWords (Test.Label l) = l < 65536
TestWords Test.Any = Unit {0}

abbrev pub StatementWords : Statement → Type 0
StatementWords Statement.Nothing = Unit {0}
StatementWords Statement.Skip = Unit {0}
StatementWords (Statement.Then p q) = Unit {0}
StatementWords (Statement.If p q r) = Unit {0}
StatementWords (Statement.Insert p) = Unit {0}
StatementWords Statement.Delete = Unit {0}
StatementWords (Statement.Rename l) = l < 65536
StatementWords (Statement.Let p q) = Unit {0}
StatementWords (Statement.Snapshot p) = Unit {0}
StatementWords (Statement.Test t r) = TestWords t
StatementWords (Statement.Children p) = Unit {0}
StatementWords (Statement.Left p) = Unit {0}
StatementWords (Statement.Right p) = Unit {0}
StatementWords (Statement.Iter p) = Unit {0}
StatementWords (Statement.Call c q r) = Unit {0}

-- a call has its row's words as they stand, absent arguments too
abbrev pub CallSaid : Cells → Statement → Type 0
CallSaid c (Statement.Call p q r) = c ≡ record { kind = 14; p = p; q = q; r = r }
CallSaid c form = Unit {0}

-- as meaning's `tree_form`: a kind that no forest has is a tree's
abbrev pub tree_said : Cells → Tree
tree_said c = get_or (Tree.Node c.p c.q ∷ Tree.Text c.p c.q ∷ Tree.Bool false ∷ Tree.Bool true ∷ []) c.kind (Tree.Node c.p c.q)
