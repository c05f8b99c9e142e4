-- `desk::check_judged` meets its contract: the order of refusals 2, 3 and 4, then the check by the tables made on the way.
use Rattle.std.proofs.Common.{refl}
use Rattle.meaning.specs.Reply.{misshapen}
use Rattle.meaning.specs.Reply as meaning
use Rattle.desk.specs.Checking.{concludes_unsound}
use Rattle.desk.proofs.check_judged.Goals as goal

pub returns-in_default : goal.returns-in_default
returns-in_default c = record { said = meaning.Checked.unsound (misshapen (c.in_default.ensures.none refl)) }

pub returns-in_err-judge : goal.returns-in_err-judge
returns-in_err-judge c = concludes_unsound c.in_err-judge.field-0.0 c.from_residual.result c.from_residual.ensures.1 (rw c.in-Some.ensures.some.0 at c.in_err-judge.ensures.loads)

pub typed-requires : goal.typed-requires
typed-requires c = record { s_value = (rw c.in-Some.ensures.some.0 c.in-Some.ensures.some.1, c.in_ok-judge.ensures.loads); lent = c.in_ok-judge.ensures.offered refl }
