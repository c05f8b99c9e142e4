-- `type_places::begin` meets its contract: kind by kind, by the laws of specs/Firsts.
use native.Mathlib.Omega.{arith}
use Rattle.type_places.specs.Firsts.{few_rows, seq_sides, choice_sides, star_side, seq_first, seq_first_left, choice_first, star_first, place_first, other_first}
use Rattle.type_places.proofs.begin.Goals as goal

pub bounds-null-p : goal.bounds-null-p
bounds-null-p c = omega (arith, (seq_sides c.requires.rows c.args.i _ c.row.ensures c.in-Sequence.ensures).0, few_rows c.requires.rows c.requires.le_i.1)

pub unite_in-requires : goal.unite_in-requires
unite_in-requires c = let n = few_rows c.requires.rows c.requires.le_i.1 in (omega arith, omega (arith, (seq_sides c.requires.rows c.args.i _ c.row.ensures c.in-Sequence.ensures).0))

pub unite_in-requires-then-null-p : goal.unite_in-requires-then-null-p
unite_in-requires-then-null-p c = let n = few_rows c.requires.rows c.requires.le_i.1 in (omega arith, omega (arith, (seq_sides c.requires.rows c.args.i _ c.row.ensures c.in-Sequence.ensures).1))

pub unite_in-requires-in-Choice : goal.unite_in-requires-in-Choice
unite_in-requires-in-Choice c = let n = few_rows c.requires.rows c.requires.le_i.1 in (omega arith, omega (arith, (choice_sides c.requires.rows c.args.i _ c.row.ensures c.in-Choice.ensures).0))

pub unite_in-requires-in-Choice-2 : goal.unite_in-requires-in-Choice-2
unite_in-requires-in-Choice-2 c = let n = few_rows c.requires.rows c.requires.le_i.1 in (omega arith, omega (arith, (choice_sides c.requires.rows c.args.i _ c.row.ensures c.in-Choice.ensures).1))

pub unite_in-requires-in-Star : goal.unite_in-requires-in-Star
unite_in-requires-in-Star c = let n = few_rows c.requires.rows c.requires.le_i.1 in (omega arith, omega (arith, star_side c.requires.rows c.args.i _ c.row.ensures c.in-Star.ensures))

pub returns-then-null-p : goal.returns-then-null-p
returns-then-null-p c = seq_first c.requires.rows c.args.i _ c.row.ensures c.requires.firsts c.in-Sequence.ensures c.requires.nulls c.if-null-p.true c.unite_in.ensures c.unite_in-then-null-p.ensures

pub returns-else-null-p : goal.returns-else-null-p
returns-else-null-p c = seq_first_left c.requires.rows c.args.i _ c.row.ensures c.requires.firsts c.in-Sequence.ensures c.requires.nulls c.if-null-p.false c.unite_in.ensures

pub returns-in-Choice : goal.returns-in-Choice
returns-in-Choice c = choice_first c.requires.rows c.args.i _ c.row.ensures c.requires.firsts c.in-Choice.ensures c.unite_in-in-Choice.ensures c.unite_in-in-Choice-2.ensures

pub returns-in-Star : goal.returns-in-Star
returns-in-Star c = star_first c.requires.rows c.args.i _ c.row.ensures c.requires.firsts c.in-Star.ensures c.unite_in-in-Star.ensures

pub returns-in-Nothing : goal.returns-in-Nothing
returns-in-Nothing c = other_first c.requires.rows c.args.i _ c.row.ensures c.requires.firsts c.as_type.ensures c.in-Nothing.is

pub returns-in-Text : goal.returns-in-Text
returns-in-Text c = place_first c.requires.rows c.args.i _ c.row.ensures c.requires.firsts c.as_type.ensures c.in-Text.is c.add.ensures
