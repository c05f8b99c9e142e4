-- `fit::of_part` meets its contract: `next` is wired for the told row's model, the only root.
use Rattle.std.proofs.Common.{arith}
use Rattle.type_places.specs.Tables.{clear_zeros}
use Rattle.type_places.specs.Sheets.{laid_rows, laid_free, laid_wires}
use Rattle.fit.proofs.Whole.{told_index, told_row, told_alone, told_wired}
use Rattle.fit.proofs.of_part.Goals as goal

pub bounds-top-told : goal.bounds-top-told
bounds-top-told c = told_index c.args.s.now c.requires.ready.shaped c.args.told c.requires.is_type

pub firsts-requires-clause-rows : goal.firsts-requires-clause-rows
firsts-requires-clause-rows c = laid_rows c.type_table-types.ensures.is c.requires.ready.shaped

pub firsts-requires-clause-clear : goal.firsts-requires-clause-clear
firsts-requires-clause-clear c = clear_zeros

pub behinds-requires-clause-rows : goal.behinds-requires-clause-rows
behinds-requires-clause-rows c = laid_rows c.type_table-types.ensures.is c.requires.ready.shaped

pub behinds-requires-clause-top_le_n : goal.behinds-requires-clause-top_le_n
behinds-requires-clause-top_le_n c = (told_row c.args.s.now c.requires.ready.shaped c.args.told c.requires.is_type c.type_table-types.ensures.is, λ i x y. absurd (omega arith))

pub behinds-requires-clause-free : goal.behinds-requires-clause-free
behinds-requires-clause-free c = (laid_free c.type_table-types.ensures.is _ c.args.told (told_alone c.args.s.now c.requires.ready.shaped c.args.told c.requires.is_type), clear_zeros)

pub of_type-requires-clause-wired : goal.of_type-requires-clause-wired
of_type-requires-clause-wired c = told_wired c.args.s.now c.requires.ready.shaped c.args.told c.requires.is_type (laid_wires c.type_table-types.ensures.is c.behinds.ensures)
