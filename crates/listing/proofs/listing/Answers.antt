-- `listing::listing` meets its contract: refused by the reader, or told of the sheet that it read.
use mathlib.Core.Path.{sym, refl, ap}
use Rattle.meaning.specs.Listing.{codes}
use native.Mathlib.Omega.{arith}
use lib.Seq.{length-take-le}
use Rattle.bundle.specs.Reads.{read_held}
use Rattle.listing.specs.Lists.{load_lists}
use Rattle.listing.proofs.Reading.{roomy, told_of}
use Rattle.listing.proofs.listing.Goals as goal

pub returns-in-Err : goal.returns-in-Err
unfolding codes
returns-in-Err c = load_lists c.args.bundle.now _ c.in-Err.why c.in-Err.ensures roomy (ap (λ k. k.number) c.copied-number.ensures) c.line-bytes.ensures.adds

pub slice_bounds-tables-end : goal.slice_bounds-tables-end
slice_bounds-tables-end c = omega (arith, c.need_of-need.ensures.is, (read_held _ _ c.in-Ok.ensures refl).is_long)

pub slice_bounds-sheet_told-end : goal.slice_bounds-sheet_told-end
slice_bounds-sheet_told-end c = sym (length-take-le _ _ (omega (arith, c.need_of-need.ensures.is, (read_held _ _ c.in-Ok.ensures refl).is_long)))

pub returns-in-Ok : goal.returns-in-Ok
returns-in-Ok c = told_of (read_held _ _ c.in-Ok.ensures refl) c.need_of-need.ensures.is c.sheet_told.ensures
