-- `type_places::may_be_empty` meets its contract: kind by kind, by the laws of specs/Firsts.
use mathlib.Core.Path.{◌∙◌}
use native.Mathlib.Omega.{arith}
use Rattle.type_places.specs.Firsts.{few_rows, seq_sides, choice_sides, seq_null, choice_null, place_null, other_null}
use Rattle.type_places.proofs.may_be_empty.Goals as goal

pub bounds-null-p : goal.bounds-null-p
bounds-null-p c = omega (arith, (seq_sides c.requires.rows c.args.i _ c.row.ensures c.in-Sequence.ensures).0, few_rows c.requires.rows c.requires.le_i.1)

pub bounds-null-q : goal.bounds-null-q
bounds-null-q c = omega (arith, (seq_sides c.requires.rows c.args.i _ c.row.ensures c.in-Sequence.ensures).1, few_rows c.requires.rows c.requires.le_i.1)

pub bounds-null-p-in-Choice : goal.bounds-null-p-in-Choice
bounds-null-p-in-Choice c = omega (arith, (choice_sides c.requires.rows c.args.i _ c.row.ensures c.in-Choice.ensures).0, few_rows c.requires.rows c.requires.le_i.1)

pub bounds-null-q-else-null-p-2 : goal.bounds-null-q-else-null-p-2
bounds-null-q-else-null-p-2 c = omega (arith, (choice_sides c.requires.rows c.args.i _ c.row.ensures c.in-Choice.ensures).1, few_rows c.requires.rows c.requires.le_i.1)

pub returns-then-null-p : goal.returns-then-null-p
returns-then-null-p c = rw c.if-null-p.true at (seq_null c.requires.rows c.args.i _ c.row.ensures c.requires.nulls c.in-Sequence.ensures)

pub returns-else-null-p : goal.returns-else-null-p
returns-else-null-p c = c.if-null-p.false ∙ rw c.if-null-p.false at (seq_null c.requires.rows c.args.i _ c.row.ensures c.requires.nulls c.in-Sequence.ensures)

pub returns-then-null-p-2 : goal.returns-then-null-p-2
returns-then-null-p-2 c = c.if-null-p-2.true ∙ rw c.if-null-p-2.true at (choice_null c.requires.rows c.args.i _ c.row.ensures c.requires.nulls c.in-Choice.ensures)

pub returns-else-null-p-2 : goal.returns-else-null-p-2
returns-else-null-p-2 c = rw c.if-null-p-2.false at (choice_null c.requires.rows c.args.i _ c.row.ensures c.requires.nulls c.in-Choice.ensures)

pub returns-in-Nothing : goal.returns-in-Nothing
returns-in-Nothing c = other_null c.requires.rows c.args.i _ c.row.ensures c.as_type.ensures c.in-Nothing.is

pub returns-in-Text : goal.returns-in-Text
returns-in-Text c = place_null c.requires.rows c.args.i _ c.row.ensures c.as_type.ensures c.in-Text.is
