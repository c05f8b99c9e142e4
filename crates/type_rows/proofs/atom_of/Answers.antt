-- `type_rows::atom_of` meets its contract, by what the row says.
use mathlib.Core.Path.{ap, ◌∙◌}
use Rattle.meaning.specs.Sheet.{script_of}
use Rattle.sheet.specs.Laid.{cells_of}
use Rattle.type_rows.proofs.Laws.{text_acts, bool_acts, label_acts, name_acts, other_acts}
use Rattle.type_rows.proofs.atom_of.Goals as goal

pub returns-in-Text : goal.returns-in-Text
returns-in-Text c = λ n g h. text_acts g c.args.r (c.row.ensures n h) c.in-Text.ensures

pub returns-in-Bool : goal.returns-in-Bool
returns-in-Bool c = λ n g h. bool_acts g c.args.r (c.row.ensures n h) c.in-Bool.ensures

pub returns-in-Label : goal.returns-in-Label
returns-in-Label c = λ n g h. label_acts g c.args.r (c.row.ensures n h) c.in-Label.ensures h

pub returns-in-Name : goal.returns-in-Name
returns-in-Name c = λ n g h. name_acts g c.args.r (c.row.ensures n h) c.requires.0 c.in-Name.x (cells_of c.type_row-named.result) (c.type_row-named.ensures ∙ ap (script_of c.args.s.now).type_row c.name_row.ensures.value) c.in-Name.ensures

pub returns-in_default : goal.returns-in_default
returns-in_default c = λ n g h. other_acts g c.args.r (c.row.ensures n h) c.as_type.result c.as_type.ensures c.in_default.not-Text c.in_default.not-Bool c.in_default.not-Label c.in_default.not-Name
