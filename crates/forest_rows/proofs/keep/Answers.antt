-- `forest_rows::keep` meets its contract: a unit for each tree of the result, one row for the link.
use native.Mathlib.Omega.{arith}
use Rattle.meaning.specs.Forest.{count, forest_at}
use Rattle.meaning.specs.Walk.{ret}
use Rattle.meaning.specs.Theorems.ReadBack.{lent_row}
use Rattle.walk.specs.Meets.{stop_pay}
use Rattle.walk.specs.Loop.{turns_exit}
use Rattle.forest_rows.proofs.Leaves.{keep_done}
use Rattle.forest_rows.proofs.keep.Goals as goal

pub returns-in_err-purse : goal.returns-in_err-purse
returns-in_err-purse c = λ byte ls. turns_exit _ c.from_residual.ensures.1 (stop_pay (count (forest_at byte (lent_row c.args.rows.now) c.args.got)) (ret _) c.args.left.purse.left (omega (arith, c.in_err-purse.ensures.by, c.trees-owed.ensures byte)))

pub returns : goal.returns
returns c = λ byte ls. record { by = keep_done _ c.requires.0 c.requires.1 c.requires.2 c.trees-owed.ensures c.in_ok-purse.ensures.by c.push-top.ensures.written c.push-top.ensures.row byte ls }
