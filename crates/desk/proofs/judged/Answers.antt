-- `desk::judged` meets its contract: the order of refusals 2, 3 and 4, then the run.
use Rattle.std.proofs.Common.{refl}
use Rattle.meaning.specs.Reply.{unsound, misshapen}
use Rattle.desk.specs.Said.{says_unsound}
use Rattle.desk.proofs.judged.Goals as goal

pub returns-in_default : goal.returns-in_default
returns-in_default c = record { said = unsound (misshapen (c.in_default.ensures.none refl)) }

pub returns-in_err-sound : goal.returns-in_err-sound
returns-in_err-sound c = says_unsound c.in_err-sound.field-0.0 c.from_residual.result c.from_residual.ensures.1 (rw c.in-Some.ensures.some.0 at c.in_err-sound.ensures)
