-- `type_ties::by_tables` meets its contract: the tables are the sheet's, so the lowest tie of the points is its lowest tie.
use Rattle.type_barren.specs.Flags.{unset}
use Rattle.type_ties.specs.Sound.{says_tie}
use Rattle.type_ties.proofs.by_tables.Goals as goal

pub make-requires-clause-root_value : goal.make-requires-clause-root_value
make-requires-clause-root_value c = unset 513

pub returns : goal.returns
returns c = says_tie c.requires c.make.ensures.made c.tie.ensures
