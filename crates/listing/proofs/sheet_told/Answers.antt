-- `listing::sheet_told` meets its contract: a refusal of the load, one of the check, or what fit tells.
use native.Mathlib.Omega.{arith}
use Rattle.listing.specs.Lists.{check_loaded, check_refused, check_done}
use Rattle.meaning.specs.Listing.{codes}
use Rattle.listing.proofs.sheet_told.Goals as goal

pub returns-then-number-eq0 : goal.returns-then-number-eq0
unfolding codes
returns-then-number-eq0 c = check_done c.check-answer.result c.checked-code.result c.check_units-units.result c.working_rows-work.ensures c.check-answer.ensures c.checked-code.ensures c.check_units-units.ensures c.if-number-eq0.true c.line-end.ensures.adds c.fit_told.ensures

pub returns-then-number-lt5 : goal.returns-then-number-lt5
unfolding codes
returns-then-number-lt5 c = check_loaded c.check-answer.result c.checked-code.result c.check_units-units.result c.working_rows-work.ensures c.check-answer.ensures c.checked-code.ensures c.check_units-units.ensures c.if-number-eq0.false c.if-number-lt5.true c.line-bytes.ensures.adds

pub returns : goal.returns
unfolding codes
returns c = check_refused c.check-answer.result c.checked-code.result c.check_units-units.result c.working_rows-work.ensures c.check-answer.ensures c.checked-code.ensures c.check_units-units.ensures c.if-number-eq0.false (omega (arith, c.if-number-lt5.false)) c.line-bytes-2.ensures.adds
