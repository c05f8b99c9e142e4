-- `check_query::must_be` meets its contract: by what the inclusion test says.
use native.Mathlib.Omega.{arith}
use Rattle.check_query.specs.Questions.{test_holds, test_wide, test_mismatch}
use Rattle.meaning.specs.Check.{eight}
use Rattle.check_query.proofs.must_be.Goals as goal

pub plain-requires-clause-grows : goal.plain-requires-clause-grows
plain-requires-clause-grows c = (c.requires.1.grows, c.requires.2, omega (arith, c.requires.2, c.requires.1.small))

pub returns-in-Ok-true : goal.returns-in-Ok-true
returns-in-Ok-true c = test_holds eight c.args.at c.args.left.purse.left (rw c.in-Ok-true.field-0-test at c.in-Ok-true.ensures)

pub returns-in-Ok-false : goal.returns-in-Ok-false
returns-in-Ok-false c = test_mismatch c.args.at c.args.left.purse (rw c.in-Ok-false.field-0-test at c.in-Ok-false.ensures)

pub returns-in-Err : goal.returns-in-Err
returns-in-Err c = test_wide eight c.args.at c.args.left.purse c.in-Err.ensures
