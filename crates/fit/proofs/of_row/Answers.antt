-- `fit::of_row` meets its contract: a root's next sets are among the sheet's tables.
use Rattle.type_barren.specs.Flags.{unset}
use Rattle.fit.proofs.Whole.{told_index, told_root}
use Rattle.fit.proofs.of_row.Goals as goal

pub roots-requires : goal.roots-requires
roots-requires c = record { by_index = unset 513 }

pub bounds-root-told : goal.bounds-root-told
bounds-root-told c = told_index c.args.s.now c.requires.ready.shaped c.args.told c.requires.is_type

pub of_type-requires-clause-wired : goal.of_type-requires-clause-wired
of_type-requires-clause-wired c = told_root c.args.s.now c.requires.ready.shaped c.args.told c.requires.is_type c.requires.ready.points c.roots.ensures c.if-root-told.true
