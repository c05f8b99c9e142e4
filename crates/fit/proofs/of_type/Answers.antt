-- `fit::of_type` meets its contract: the walk over the tables is right (Whole).
use Rattle.fit.proofs.Whole.{walked, of_type}
use Rattle.fit.proofs.of_type.Goals as goal

pub trees-requires : goal.trees-requires
trees-requires c = (c.requires.told.ready, rw c.root.ensures (walked c.requires.told c.requires.wired))

pub returns : goal.returns
returns c = of_type c.requires.told c.trees.result (rw c.root.ensures at c.trees.ensures)
