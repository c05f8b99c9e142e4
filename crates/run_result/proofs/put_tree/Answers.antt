-- `run_result::put_tree` meets its contract, by what the tree is.
use mathlib.Core.Path.{refl}
use Rattle.sheet.specs.Laid.{cells_of}
use Rattle.forest_rows.specs.Table.{said_text, said_bool, said_node}
use Rattle.run_result.specs.Trees.{row_node}
use Rattle.run_result.proofs.put_tree.Goals as goal

pub returns-in-Text : goal.returns-in-Text
returns-in-Text c = let e = said_text (cells_of c.args.c) c.in-Text.ensures in rw e.0 (rw (e.1, e.2) at c.put_row.ensures)

pub returns-in-Bool-false : goal.returns-in-Bool-false
returns-in-Bool-false c = rw (said_bool (cells_of c.args.c) (rw c.in-Bool-false.field-0-test at c.in-Bool-false.ensures)) c.put_row-in-Bool-false.ensures

pub returns-in-Bool-true : goal.returns-in-Bool-true
returns-in-Bool-true c = rw (said_bool (cells_of c.args.c) (rw c.in-Bool-true.field-0-test at c.in-Bool-true.ensures)) c.put_row-in-Bool-true.ensures

pub returns-in-Node : goal.returns-in-Node
returns-in-Node c = let e = said_node (cells_of c.args.c) c.in-Node.ensures in rw (row_node (cells_of c.args.c) c.args.c.kind c.args.q c.args.next refl e.0) (rw e.1 at c.put_row-in-Node.ensures)
