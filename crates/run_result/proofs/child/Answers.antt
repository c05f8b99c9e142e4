-- `run_result::child` meets its contract: a text or a bool has none.
use mathlib.Core.Path.{◌∙◌}
use Rattle.sheet.specs.Laid.{cells_of}
use Rattle.forest_rows.specs.Table.{said_node, said_leaf}
use Rattle.run_result.proofs.child.Goals as goal

pub returns-in-Node : goal.returns-in-Node
returns-in-Node c = let e = said_node (cells_of c.args.c) c.in-Node.ensures in rw (e.0, e.2)

pub returns-in_default : goal.returns-in_default
returns-in_default c = rw (said_leaf (cells_of c.args.c) (λ l q e. c.in_default.not-Node l q (c.as_tree.ensures ∙ e)))
