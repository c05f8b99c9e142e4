-- `forest_rows::Which::takes` meets its contract: any tree, or what the label says.
use Rattle.sheet.specs.Laid.{cells_of}
use Rattle.forest_rows.proofs.Labels.{takes_all, takes_labelled}
use Rattle.forest_rows.proofs.Which.takes.Goals as goal

pub returns-in-All : goal.returns-in-All
returns-in-All c = rw c.in-All.is (takes_all (cells_of c.args.t))

pub returns-in-Labelled : goal.returns-in-Labelled
returns-in-Labelled c = rw c.in-Labelled.is (takes_labelled c.labelled.result c.labelled.ensures)
