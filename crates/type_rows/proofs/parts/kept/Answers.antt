-- `type_rows::parts::kept` meets its contract, by what the row acts as.
use Rattle.type_rows.specs.Finds.{acts_other, acts_text, acts_bool, acts_label}
use Rattle.type_rows.specs.Both.{asks_empty}
use Rattle.type_rows.specs.Picked.{kept_other, kept_label, away_text, away_bool, away_label}
use Rattle.type_rows.proofs.parts.kept.Goals as goal

pub write-requires : goal.write-requires
write-requires c = asks_empty c.requires.room

pub write-requires-in-Text : goal.write-requires-in-Text
write-requires-in-Text c = asks_empty c.requires.room

pub write-requires-in-Bool : goal.write-requires-in-Bool
write-requires-in-Bool c = asks_empty c.requires.room

pub returns-in-Other : goal.returns-in-Other
returns-in-Other c = kept_other c.args.s.now c.args.work.now c.args.left.used c.args.label c.args.of _ c.requires.room.grows c.requires.inside (acts_other c.in-Other.is (c.atom_of.ensures c.args.left.used c.requires.room.grows c.requires.inside))

pub returns-in-Label : goal.returns-in-Label
returns-in-Label c = kept_label c.args.s.now c.args.work.now c.args.left.used c.args.label c.args.of _ c.requires.room.grows c.requires.inside (acts_label c.in-Label.is (c.atom_of.ensures c.args.left.used c.requires.room.grows c.requires.inside)).is c.if-n-label.true

pub returns-in-Label-2 : goal.returns-in-Label-2
returns-in-Label-2 c = away_label c.args.s.now c.args.work.now c.args.left.used c.args.label c.args.of (acts_label c.in-Label.is (c.atom_of.ensures c.args.left.used c.requires.room.grows c.requires.inside)).is c.if-n-label.false c.write.ensures

pub returns-in-Text : goal.returns-in-Text
returns-in-Text c = away_text c.args.s.now c.args.work.now c.args.left.used c.args.label c.args.of (acts_text c.in-Text.is (c.atom_of.ensures c.args.left.used c.requires.room.grows c.requires.inside)) c.write-in-Text.ensures

pub returns-in-Bool : goal.returns-in-Bool
returns-in-Bool c = away_bool c.args.s.now c.args.work.now c.args.left.used c.args.label c.args.of (acts_bool c.in-Bool.is (c.atom_of.ensures c.args.left.used c.requires.room.grows c.requires.inside)) c.write-in-Bool.ensures
