-- `desk::in_turn` meets its contract: the check's refusal, Unfit, or what the run says.
use Rattle.fit.specs.Fitting.{told_lent}
use Rattle.desk.specs.Applying.{applies_unchecked, applies_unfit, applies_ran, applies_not_run, a_there, a_wired}
use Rattle.desk.proofs.in_turn.Goals as goal

pub returns-in_err-units : goal.returns-in_err-units
returns-in_err-units c = applies_unchecked c.from_residual.result c.from_residual.ensures.1 c.in_err-units.ensures

pub of_type-requires : goal.of_type-requires
of_type-requires c = record { told = rw c.a.ensures (told_lent (a_there c.args.s.now c.requires.s_value.0) c.requires.s_value.1 c.requires.lent); wired = rw c.a.ensures (a_wired c.args.s.now c.requires.s_value.0 c.requires.lent) }

pub returns-in-Err : goal.returns-in-Err
returns-in-Err c = applies_unfit c.in_ok-units.ensures c.requires.s_value.0 c.requires.s_value.1 (rw c.a.ensures at c.in-Err.ensures)

pub returns-in-Err-walked : goal.returns-in-Err-walked
returns-in-Err-walked c = applies_not_run c.in_ok-units.ensures c.requires.s_value.0 c.requires.s_value.1 (rw c.a.ensures at c.in-Ok.ensures) c.typed.auto.work c.in-Err-walked.ensures

pub returns-in-Ok-walked : goal.returns-in-Ok-walked
returns-in-Ok-walked c = applies_ran c.in_ok-units.ensures c.requires.s_value.0 c.requires.s_value.1 (rw c.a.ensures at c.in-Ok.ensures) c.typed.auto.work c.in-Ok-walked.ensures
