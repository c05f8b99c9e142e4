-- `check_query::inside` meets its contract, by what the row acts as.
use native.Mathlib.Omega.{arith}
use Rattle.type_rows.specs.Finds.{acts_other, acts_text, acts_bool, acts_label}
use Rattle.meaning.specs.Theorems.Sound.Written.{loads_shapely}
use Rattle.type_rows.specs.Both.{asks_empty}
use Rattle.check_query.proofs.Laws.{inside_label, inside_other, inside_text, inside_bool}
use Rattle.check_query.proofs.inside.Goals as goal

pub atom_of-requires : goal.atom_of-requires
atom_of-requires c = (loads_shapely c.requires.0, omega (arith, c.requires.2, c.requires.1.small))

pub write-requires : goal.write-requires
write-requires c = asks_empty c.requires.1

pub write-requires-in-Bool : goal.write-requires-in-Bool
write-requires-in-Bool c = asks_empty c.requires.1

pub returns-in-Label : goal.returns-in-Label
returns-in-Label c = inside_label c.args.s.now c.args.work.now c.args.left.used c.args.root c.args.at _ c.requires.1.grows (acts_label c.in-Label.is (c.atom_of.ensures c.args.left.used c.requires.1.grows c.requires.2))

pub returns-in-Other : goal.returns-in-Other
returns-in-Other c = inside_other c.args.s.now c.args.work.now c.args.left.used c.args.root c.args.at _ (acts_other c.in-Other.is (c.atom_of.ensures c.args.left.used c.requires.1.grows c.requires.2))

pub returns-in-Text : goal.returns-in-Text
returns-in-Text c = inside_text c.args.s.now c.args.work.now c.args.left.used c.args.root c.args.at c.write.ensures (acts_text c.in-Text.is (c.atom_of.ensures c.args.left.used c.requires.1.grows c.requires.2))

pub returns-in-Bool : goal.returns-in-Bool
returns-in-Bool c = inside_bool c.args.s.now c.args.work.now c.args.left.used c.args.root c.args.at c.write-in-Bool.ensures (acts_bool c.in-Bool.is (c.atom_of.ensures c.args.left.used c.requires.1.grows c.requires.2))
