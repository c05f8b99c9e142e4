-- `program::tell::bundle_answers` is safe: what was read lies in the tables.
use Rattle.std.proofs.Common.{arith, sym}
use Rattle.std.proofs.lemmas.List.{length-take-le}
use Rattle.bundle.specs.Reads.{read_held}
use Rattle.program.proofs.tell.bundle_answers.Goals as goal

pub slice_bounds-tables-end : goal.slice_bounds-tables-end
slice_bounds-tables-end g c = omega (arith, c.need_of-need.ensures.is, (read_held _ _ c.read-answer.ensures c.in-Ok.is).is_long)

pub slice_bounds-sheet_answers-end : goal.slice_bounds-sheet_answers-end
slice_bounds-sheet_answers-end g c =
    let held = read_held _ _ c.read-answer.ensures c.in-Ok.is in
    sym (length-take-le _ _ (omega (arith, c.need_of-need.ensures.is, held.is_long)))
