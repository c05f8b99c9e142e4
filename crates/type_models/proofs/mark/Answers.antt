-- `type_models::mark` meets its contract: by whether there is such a flag.
use Rattle.type_models.specs.Roots.{marked_row, marked_past}
use Rattle.type_models.proofs.mark.Goals as goal

pub returns-then-r-lt-ROWS : goal.returns-then-r-lt-ROWS
returns-then-r-lt-ROWS c = marked_row c.args.root.now c.args.r c.told-root c.if-r-lt-ROWS.true

pub returns-else-r-lt-ROWS : goal.returns-else-r-lt-ROWS
returns-else-r-lt-ROWS c = marked_past c.args.root.now c.args.r c.if-r-lt-ROWS.false
