-- `check_statement::must_lie` meets its contract: by what the inclusion test says.
use Rattle.check_query.specs.Questions.{test_holds, test_wide, test_outside}
use Rattle.meaning.specs.Check.{nine}
use Rattle.check_statement.proofs.must_lie.Goals as goal

pub returns-in-Ok-true : goal.returns-in-Ok-true
returns-in-Ok-true c = test_holds nine c.args.at c.args.left.purse.left (rw c.in-Ok-true.field-0-test at c.in-Ok-true.ensures)

pub returns-in-Ok-false : goal.returns-in-Ok-false
returns-in-Ok-false c = test_outside c.args.at c.args.left.purse (rw c.in-Ok-false.field-0-test at c.in-Ok-false.ensures)

pub returns-in-Err : goal.returns-in-Err
returns-in-Err c = test_wide nine c.args.at c.args.left.purse c.in-Err.ensures
