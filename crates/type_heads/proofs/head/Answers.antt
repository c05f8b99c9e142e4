-- `type_heads::head` meets its contract: the head of the row that the place acts as.
use mathlib.Core.Path.{◌∙◌}
use Rattle.sheet.specs.Laid.{cells_of}
use Rattle.type_heads.specs.Heads.{head_number_lem}
use Rattle.type_heads.proofs.head.Goals as goal

pub returns : goal.returns
returns c = c.head_of.ensures ∙ head_number_lem c.args.s.now c.args.a (cells_of c.acting.result) c.acting.ensures
