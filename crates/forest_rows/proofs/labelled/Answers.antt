-- `forest_rows::labelled` meets its contract: a text or a bool has no label.
use mathlib.Core.Path.{◌∙◌}
use Rattle.sheet.specs.Laid.{cells_of}
use Rattle.forest_rows.specs.Table.{said_node, said_leaf}
use Rattle.forest_rows.proofs.Labels.{judged_node, judged_leaf}
use Rattle.forest_rows.proofs.labelled.Goals as goal

pub returns-in-Node : goal.returns-in-Node
returns-in-Node c = let e = said_node (cells_of c.args.t) c.in-Node.ensures in rw e.1 (judged_node (cells_of c.args.t) c.args.l e.0)

pub returns-in_default : goal.returns-in_default
returns-in_default c = judged_leaf (cells_of c.args.t) c.args.l (said_leaf (cells_of c.args.t) (λ l q e. c.in_default.not-Node l q (c.as_tree.ensures ∙ e)))
