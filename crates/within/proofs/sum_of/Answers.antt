-- `within::sum_of` meets its contract: by what the row says (specs/Plain).
use Rattle.std.proofs.Common.{◌∙◌, arith}
use Rattle.within.specs.Plain.{seq_parts, choice_parts, star_part, seq_sum, choice_sum, star_sum, text_sum, bool_sum, nothing_sum, held_sum}
use Rattle.within.proofs.sum_of.Goals as goal

pub bounds-sums-p : goal.bounds-sums-p
bounds-sums-p c = omega (arith, (seq_parts c.requires.lower c.requires.summed (rw c.of.ensures at c.row.ensures) c.in-Sequence.ensures).0.lower)

pub bounds-sums-q : goal.bounds-sums-q
bounds-sums-q c = omega (arith, (seq_parts c.requires.lower c.requires.summed (rw c.of.ensures at c.row.ensures) c.in-Sequence.ensures).1.lower)

pub both-requires : goal.both-requires
both-requires c = let l = seq_parts c.requires.lower c.requires.summed (rw c.of.ensures at c.row.ensures) c.in-Sequence.ensures in (l.0.few, l.1.few)

pub bounds-sums-p-in-Choice : goal.bounds-sums-p-in-Choice
bounds-sums-p-in-Choice c = omega (arith, (choice_parts c.requires.lower c.requires.summed (rw c.of.ensures at c.row.ensures) c.in-Choice.ensures).0.lower)

pub bounds-sums-q-in-Choice : goal.bounds-sums-q-in-Choice
bounds-sums-q-in-Choice c = omega (arith, (choice_parts c.requires.lower c.requires.summed (rw c.of.ensures at c.row.ensures) c.in-Choice.ensures).1.lower)

pub bounds-sums-p-in-Star : goal.bounds-sums-p-in-Star
bounds-sums-p-in-Star c = omega (arith, (star_part c.requires.lower c.requires.summed (rw c.of.ensures at c.row.ensures) c.in-Star.ensures).lower)

pub bounds-sums-p-in-Star-2 : goal.bounds-sums-p-in-Star-2
bounds-sums-p-in-Star-2 c = omega (arith, (star_part c.requires.lower c.requires.summed (rw c.of.ensures at c.row.ensures) c.in-Star.ensures).lower)

pub both-requires-in-Star : goal.both-requires-in-Star
both-requires-in-Star c = let l = star_part c.requires.lower c.requires.summed (rw c.of.ensures at c.row.ensures) c.in-Star.ensures in (l.few, l.few)

pub returns-in-Nothing : goal.returns-in-Nothing
returns-in-Nothing c = nothing_sum c.requires.lower c.requires.summed (rw c.of.ensures at c.row.ensures) c.as_type.ensures c.in-Nothing.is

pub returns-in-Text : goal.returns-in-Text
returns-in-Text c = c.one.ensures ∙ text_sum c.requires.lower c.requires.summed (rw c.of.ensures at c.row.ensures) c.in-Text.ensures

pub returns-in-Bool : goal.returns-in-Bool
returns-in-Bool c = c.one-in-Bool.ensures ∙ bool_sum c.requires.lower c.requires.summed (rw c.of.ensures at c.row.ensures) c.in-Bool.ensures

pub returns-in-Label : goal.returns-in-Label
returns-in-Label c = held_sum c.requires.lower c.requires.summed (rw c.of.ensures at c.row.ensures) c.as_type.ensures c.in-Label.is

pub returns-in-Sequence : goal.returns-in-Sequence
returns-in-Sequence c = c.both.ensures ∙ seq_sum c.requires.lower c.requires.summed (rw c.of.ensures at c.row.ensures) c.in-Sequence.ensures

pub returns-in-Choice : goal.returns-in-Choice
returns-in-Choice c = c.alike.ensures ∙ choice_sum c.requires.lower c.requires.summed (rw c.of.ensures at c.row.ensures) c.in-Choice.ensures

pub returns-in-Star : goal.returns-in-Star
returns-in-Star c = c.both-in-Star.ensures ∙ star_sum c.requires.lower c.requires.summed (rw c.of.ensures at c.row.ensures) c.in-Star.ensures
