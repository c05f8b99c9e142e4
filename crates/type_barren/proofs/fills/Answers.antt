-- `type_barren::fills` meets its contract: kind by kind, by the laws of specs/Marks.
use mathlib.Core.Path.{◌∙◌}
use Rattle.type_barren.specs.Marks.{label_low, seq_low, choice_low, name_low, label_fills, seq_fills, choice_fills, name_fills, other_fills}
use Rattle.type_barren.proofs.fills.Goals as goal

pub bounds-full-q : goal.bounds-full-q
bounds-full-q c = label_low c.args.s.now c.requires.s_value _ c.requires.filled c.requires.le_i _ c.type_row.ensures c.in-Label.ensures

pub bounds-full-p : goal.bounds-full-p
bounds-full-p c = (seq_low c.args.s.now c.requires.s_value _ c.requires.filled c.requires.le_i _ c.type_row.ensures c.in-Sequence.ensures).0

pub bounds-full-q-then-full-p : goal.bounds-full-q-then-full-p
bounds-full-q-then-full-p c = (seq_low c.args.s.now c.requires.s_value _ c.requires.filled c.requires.le_i _ c.type_row.ensures c.in-Sequence.ensures).1

pub bounds-full-p-in-Choice : goal.bounds-full-p-in-Choice
bounds-full-p-in-Choice c = (choice_low c.args.s.now c.requires.s_value _ c.requires.filled c.requires.le_i _ c.type_row.ensures c.in-Choice.ensures).0

pub bounds-full-q-else-full-p-2 : goal.bounds-full-q-else-full-p-2
bounds-full-q-else-full-p-2 c = (choice_low c.args.s.now c.requires.s_value _ c.requires.filled c.requires.le_i _ c.type_row.ensures c.in-Choice.ensures).1

pub bounds-marked-x : goal.bounds-marked-x
bounds-marked-x c = name_low c.args.s.now c.requires.s_value _ c.requires.filled c.requires.le_i _ c.type_row.ensures c.in-Name.ensures

pub returns-in-Label : goal.returns-in-Label
returns-in-Label c = label_fills c.args.s.now c.requires.s_value _ c.requires.filled c.requires.le_i _ c.type_row.ensures c.in-Label.ensures

pub returns-then-full-p : goal.returns-then-full-p
returns-then-full-p c = rw c.if-full-p.true at (seq_fills c.args.s.now c.requires.s_value _ c.requires.filled c.requires.le_i _ c.type_row.ensures c.in-Sequence.ensures)

pub returns-else-full-p : goal.returns-else-full-p
returns-else-full-p c = c.if-full-p.false
    ∙ rw c.if-full-p.false at (seq_fills c.args.s.now c.requires.s_value _ c.requires.filled c.requires.le_i _ c.type_row.ensures c.in-Sequence.ensures)

pub returns-then-full-p-2 : goal.returns-then-full-p-2
returns-then-full-p-2 c = c.if-full-p-2.true
    ∙ rw c.if-full-p-2.true at (choice_fills c.args.s.now c.requires.s_value _ c.requires.filled c.requires.le_i _ c.type_row.ensures c.in-Choice.ensures)

pub returns-else-full-p-2 : goal.returns-else-full-p-2
returns-else-full-p-2 c = rw c.if-full-p-2.false at (choice_fills c.args.s.now c.requires.s_value _ c.requires.filled c.requires.le_i _ c.type_row.ensures c.in-Choice.ensures)

pub returns-in-Name : goal.returns-in-Name
returns-in-Name c = name_fills c.args.s.now c.requires.s_value _ c.requires.filled c.requires.le_i _ c.type_row.ensures c.in-Name.ensures

pub returns-in_default : goal.returns-in_default
returns-in_default c =
    other_fills c.args.s.now c.requires.s_value _ c.requires.filled c.requires.le_i _ c.type_row.ensures c.as_type.result c.as_type.ensures
    c.in_default.not-Label c.in_default.not-Sequence c.in_default.not-Choice c.in_default.not-Name
