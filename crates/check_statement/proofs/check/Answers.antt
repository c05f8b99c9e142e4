use native.Mathlib.Omega.{arith}
use Rattle.type_rows.specs.Finds.{finds_err}
use Rattle.check_statement.specs.Bodies.{checking_start, checking_halts, checking_more, checking_done, room_first}
use Rattle.check_statement.proofs.Wholes.{main_asks, main_gives}
use Rattle.check_statement.proofs.check.Goals as goal

pub loop-c-init : goal.loop-c-init
loop-c-init c = checking_start (room_first c.requires.loads.0 c.requires.loads.1 c.requires.loads.2)

pub returns-in_err-left : goal.returns-in_err-left
returns-in_err-left c = finds_err c.from_residual.ensures.1 (checking_halts c.loop-c.invariant (omega (arith, c.procedures-c-end.ensures.is)) c.in_err-left.ensures.by)

pub loop-c-preserved : goal.loop-c-preserved
loop-c-preserved c = checking_more c.loop-c.invariant (omega (arith, c.procedures-c-end.ensures.is)) c.procedure.auto.work c.in_ok-left.ensures.by

pub body-requires : goal.body-requires
body-requires c = record { checks = main_asks c.requires.loads.0 c.loop-c.invariant.room c.main.ensures c.a.ensures c.b.ensures c.new.ensures; lent = c.requires.lent }

pub returns : goal.returns
returns c = checking_done c.loop-c.invariant (omega (arith, c.procedures-c-end.ensures.is)) (main_gives c.requires.loads.0 c.loop-c.invariant.room c.main.ensures c.a.ensures c.b.ensures c.new.ensures c.body.ensures)
