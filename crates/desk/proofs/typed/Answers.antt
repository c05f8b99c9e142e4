-- `desk::typed` meets its contract: Scratch, then what the walk's end says.
use Rattle.std.proofs.Common.{arith}
use Rattle.type_rows.specs.Finds.{finds_done, finds_not}
use Rattle.desk.specs.Checking.{check_short, few_check_units, check_begun, left_in, check_done, done_left_in}
use Rattle.desk.proofs.typed.Goals as goal

pub returns-then-rows_lent-fuel : goal.returns-then-rows_lent-fuel
returns-then-rows_lent-fuel c = check_short c.args.s.now c.requires.s_value.1 (omega (arith, c.if-rows_lent-fuel.true, c.rows_lent.ensures, c.check_fuel-fuel.ensures))

pub check-requires : goal.check-requires
check-requires c = record { loads = (c.requires.s_value.1, omega (arith, c.if-rows_lent-fuel.false, c.rows_lent.ensures), omega (arith, few_check_units c.args.s.now c.requires.s_value.0, c.check_fuel-fuel.ensures)); lent = c.requires.lent }

pub halted-requires : goal.halted-requires
halted-requires c = rw c.check_fuel-fuel.ensures (left_in c.in-Err.why (rw c.check_fuel-fuel.ensures at (finds_not c.in-Err.is c.check.ensures)))

pub spent-requires : goal.spent-requires
spent-requires c = done_left_in (finds_done c.in-Ok.is c.check.ensures)

pub returns-in-Err : goal.returns-in-Err
returns-in-Err c = c.halted.ensures c.args.s.now c.args.work.now (check_begun c.args.s.now c.requires.s_value.1 (omega (arith, c.if-rows_lent-fuel.false, c.rows_lent.ensures, c.check_fuel-fuel.ensures))) c.check_fuel-fuel.ensures (rw c.check_fuel-fuel.ensures at (finds_not c.in-Err.is c.check.ensures))

pub returns-in-Ok : goal.returns-in-Ok
returns-in-Ok c = check_done (check_begun c.args.s.now c.requires.s_value.1 (omega (arith, c.if-rows_lent-fuel.false, c.rows_lent.ensures, c.check_fuel-fuel.ensures))) c.check_fuel-fuel.ensures c.spent.ensures (rw c.check_fuel-fuel.ensures at (finds_done c.in-Ok.is c.check.ensures))
