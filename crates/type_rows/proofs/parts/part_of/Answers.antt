-- `type_rows::parts::part_of` meets its contract, by what the row says.
use Rattle.type_rows.specs.Parts.{text_part, bool_part, label_part, name_part, seq_part, choice_part, star_part, none_part, empty_part}
use Rattle.type_rows.proofs.parts.part_of.Goals as goal

pub returns-in-Text : goal.returns-in-Text
returns-in-Text c = λ n g h. text_part g c.args.r (c.row.ensures n h) c.in-Text.ensures

pub returns-in-Bool : goal.returns-in-Bool
returns-in-Bool c = λ n g h. bool_part g c.args.r (c.row.ensures n h) c.in-Bool.ensures

pub returns-in-Label : goal.returns-in-Label
returns-in-Label c = λ n g h. label_part g c.args.r (c.row.ensures n h) c.in-Label.ensures

pub returns-in-Name : goal.returns-in-Name
returns-in-Name c = λ n g h. name_part g c.args.r (c.row.ensures n h) c.in-Name.ensures

pub returns-in-Sequence : goal.returns-in-Sequence
returns-in-Sequence c = λ n g h. seq_part g c.args.r (c.row.ensures n h) c.in-Sequence.ensures

pub returns-in-Choice : goal.returns-in-Choice
returns-in-Choice c = λ n g h. choice_part g c.args.r (c.row.ensures n h) c.in-Choice.ensures

pub returns-in-Star : goal.returns-in-Star
returns-in-Star c = λ n g h. star_part g c.args.r (c.row.ensures n h) c.in-Star.ensures

pub returns-in-Nothing : goal.returns-in-Nothing
returns-in-Nothing c = λ n g h. none_part g c.args.r (c.row.ensures n h) c.in-Nothing.ensures

pub returns-in-Empty : goal.returns-in-Empty
returns-in-Empty c = λ n g h. empty_part g c.args.r (c.row.ensures n h) c.in-Empty.ensures
