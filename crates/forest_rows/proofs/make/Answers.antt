-- `forest_rows::make` meets its contract: one unit, one row.
use Rattle.meaning.specs.Walk.{ret}
use Rattle.walk.specs.Meets.{stop_pay, met_exit}
use Rattle.forest_rows.proofs.Leaves.{make_done}
use Rattle.forest_rows.proofs.make.Goals as goal

pub returns-in_err-purse : goal.returns-in_err-purse
returns-in_err-purse c = λ byte. met_exit _ c.from_residual.ensures.1 (stop_pay 1 (ret _) c.args.left.purse.left c.in_err-purse.ensures.by)

pub returns : goal.returns
returns c = λ byte. record { by = make_done c.requires _ c.in_ok-purse.ensures.by c.push-top.ensures.written c.push-top.ensures.row byte }
