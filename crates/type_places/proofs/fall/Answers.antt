-- `type_places::fall` meets its contract: kind by kind, by the laws of specs/Behind.
use native.Mathlib.Omega.{arith}
use Rattle.meaning.specs.Laws.Tests.{in_table_lem}
use Rattle.type_places.specs.Firsts.{few_rows, seq_sides, choice_sides, star_side}
use Rattle.type_places.specs.Behind.{seq_fell, choice_fell, star_fell, other_fell}
use Rattle.type_places.proofs.fall.Goals as goal

pub pass-requires : goal.pass-requires
pass-requires c = let n = few_rows c.requires.rows c.requires.le_i.1 in let h = (seq_sides c.requires.rows c.args.i _ c.row.ensures c.in-Sequence.ensures) in (h.0, omega arith, omega (arith, h.1))

pub unite_in-requires : goal.unite_in-requires
unite_in-requires c = let n = few_rows c.requires.rows c.requires.le_i.1 in (omega (arith, (seq_sides c.requires.rows c.args.i _ c.row.ensures c.in-Sequence.ensures).1), omega arith)

pub unite_in-requires-in-Choice : goal.unite_in-requires-in-Choice
unite_in-requires-in-Choice c = let n = few_rows c.requires.rows c.requires.le_i.1 in (omega (arith, (choice_sides c.requires.rows c.args.i _ c.row.ensures c.in-Choice.ensures).0), omega arith)

pub unite_in-requires-in-Choice-2 : goal.unite_in-requires-in-Choice-2
unite_in-requires-in-Choice-2 c = let n = few_rows c.requires.rows c.requires.le_i.1 in (omega (arith, (choice_sides c.requires.rows c.args.i _ c.row.ensures c.in-Choice.ensures).1), omega arith)

pub unite-requires : goal.unite-requires
unite-requires c = let n = few_rows c.requires.rows c.requires.le_i.1 in let h = star_side c.requires.rows c.args.i _ c.row.ensures c.in-Star.ensures in (omega arith, omega arith)

pub unite_in-requires-in-Star : goal.unite_in-requires-in-Star
unite_in-requires-in-Star c = let n = few_rows c.requires.rows c.requires.le_i.1 in (omega (arith, star_side c.requires.rows c.args.i _ c.row.ensures c.in-Star.ensures), omega arith)

pub returns-in-Sequence : goal.returns-in-Sequence
returns-in-Sequence c = seq_fell c.requires.rows c.args.i (in_table_lem c.args.t.now.rows c.args.i c.requires.le_i.0 c.requires.le_i.1) _ c.row.ensures c.requires.tables c.requires.ready
    c.in-Sequence.ensures c.pass.ensures c.unite_in.ensures

pub returns-in-Choice : goal.returns-in-Choice
returns-in-Choice c = choice_fell c.requires.rows c.args.i (in_table_lem c.args.t.now.rows c.args.i c.requires.le_i.0 c.requires.le_i.1) _ c.row.ensures c.requires.tables c.requires.ready
    c.in-Choice.ensures c.unite_in-in-Choice.ensures c.unite_in-in-Choice-2.ensures

pub returns-in-Star : goal.returns-in-Star
returns-in-Star c = star_fell c.requires.rows c.args.i (in_table_lem c.args.t.now.rows c.args.i c.requires.le_i.0 c.requires.le_i.1) _ c.row.ensures c.requires.tables c.requires.ready
    c.in-Star.ensures c.unite.ensures c.unite_in-in-Star.ensures

pub returns-in_default : goal.returns-in_default
returns-in_default c = other_fell c.requires.rows c.args.i (in_table_lem c.args.t.now.rows c.args.i c.requires.le_i.0 c.requires.le_i.1) _ c.row.ensures c.requires.tables c.requires.ready
    c.as_type.result c.as_type.ensures c.in_default.not-Sequence c.in_default.not-Choice c.in_default.not-Star
