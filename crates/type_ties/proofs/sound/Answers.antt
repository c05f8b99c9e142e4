-- `type_ties::sound` meets its contract: the document's order, barren before tie.
use Rattle.type_ties.specs.Sound.{loads_barren, loads_tie, loads_sound}
use Rattle.type_ties.proofs.sound.Goals as goal

pub returns-in-Some : goal.returns-in-Some
returns-in-Some c = loads_barren c.requires c.in-Some.ensures

pub returns-in-Some-lowest_tie : goal.returns-in-Some-lowest_tie
returns-in-Some-lowest_tie c = loads_tie c.requires c.in_default.ensures c.in-Some-lowest_tie.ensures

pub returns-in-None : goal.returns-in-None
returns-in-None c = loads_sound c.requires c.in_default.ensures c.in-None.ensures
