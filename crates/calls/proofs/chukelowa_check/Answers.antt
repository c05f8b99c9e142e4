-- `calls::chukelowa_check` meets its contract: refused by the reader, or asked of the sheet that it read.
use mathlib.Core.Path.{sym, refl}
use native.Mathlib.Omega.{arith}
use lib.Seq.{length-take-le}
use Rattle.bundle.specs.Reads.{read_held}
use Rattle.calls.specs.Asked.{check_refused, check_asked}
use Rattle.calls.proofs.Reading.{roomy}
use Rattle.calls.proofs.chukelowa_check.Goals as goal

pub returns-in-Err : goal.returns-in-Err
returns-in-Err c = check_refused c.args.bundle.now _ c.in-Err.why c.in-Err.ensures roomy c.refused.ensures.0 c.args.work.now c.refused.ensures.1

pub slice_bounds-tables-end : goal.slice_bounds-tables-end
slice_bounds-tables-end c = omega (arith, c.need_of-need.ensures.is, (read_held _ _ c.in-Ok.ensures refl).is_long)

pub slice_bounds-check-end : goal.slice_bounds-check-end
slice_bounds-check-end c = sym (length-take-le _ _ (omega (arith, c.need_of-need.ensures.is, (read_held _ _ c.in-Ok.ensures refl).is_long)))

pub returns-in-Ok : goal.returns-in-Ok
returns-in-Ok c = check_asked (read_held _ _ c.in-Ok.ensures refl) c.need_of-need.ensures.is c.args.work.now c.check.result c.check.ensures c.checked.ensures
