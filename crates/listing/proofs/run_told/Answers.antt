-- `listing::run_told` meets its contract: the run's refusal, or its root and its rows.
use native.Mathlib.Omega.{arith}
use Rattle.listing.specs.Lists.{few_root, run_refused, run_gave}
use Rattle.meaning.specs.Listing.{codes}
use Rattle.listing.proofs.run_told.Goals as goal

pub returns-then-number-ne0 : goal.returns-then-number-ne0
unfolding codes
returns-then-number-ne0 c = run_refused c.run-answer.result c.ran-code.result c.run_units-units.result c.working_rows-work.ensures c.result_rows-result.ensures c.run-answer.ensures c.ran-code.ensures c.run_units-units.ensures c.if-number-ne0.true c.line-bytes.ensures.adds

pub rows-bytes-requires : goal.rows-bytes-requires
rows-bytes-requires c = let few = few_root c.run-answer.result c.result_rows-result.ensures c.run-answer.ensures c.root-root.ensures in (omega (arith, few, c.requires, c.line-end.ensures.few, c.line-end.auto.out), omega (arith, few))

pub returns : goal.returns
unfolding codes
returns c = run_gave c.run-answer.result c.ran-code.result c.run_units-units.result c.working_rows-work.ensures c.result_rows-result.ensures c.run-answer.ensures c.ran-code.ensures c.run_units-units.ensures c.if-number-ne0.false c.root-root.ensures c.line-end.ensures.adds c.rows-bytes.ensures.adds
