-- `desk::walked` meets its contract: Scratch, or what the walk's end says.
use Rattle.std.proofs.Common.{arith}
use Rattle.run_result.specs.Hands.{hands_room, hands_rows}
use Rattle.desk.specs.Ends.{few_asked, short, begun, left_of_lem, ends_not, ends_done, done_left, gave_of, said_room, said_rows}
use Rattle.desk.proofs.walked.Goals as goal

pub overflow_add-rows : goal.overflow_add-rows
overflow_add-rows c = omega (arith, few_asked c.args.s.now c.requires.0, c.rows.ensures.is, c.run_fuel-fuel.ensures)

pub returns-then-rows_lent-rows : goal.returns-then-rows_lent-rows
returns-then-rows_lent-rows c = short c.args.s.now c.requires.0 c.args.res.now c.requires.1 (omega (arith, c.if-rows_lent-rows.true, c.rows_lent.ensures, c.rows.ensures.is, c.run_fuel-fuel.ensures))

pub stopped-requires : goal.stopped-requires
stopped-requires c = rw c.run_fuel-fuel.ensures (left_of_lem c.in-Err.why (ends_not c.in-Err.is c.walk_main.ensures))

pub spent-units-requires : goal.spent-units-requires
spent-units-requires c = rw c.run_fuel-fuel.ensures (done_left (ends_done c.in-Ok.is c.walk_main.ensures))

pub returns-in-Err : goal.returns-in-Err
returns-in-Err c = c.stopped.ensures c.args.s.now c.args.work.now c.args.res.now (begun c.args.s.now c.requires.0 c.requires.1 (omega (arith, c.if-rows_lent-rows.false, c.rows_lent.ensures, c.rows.ensures.is, c.run_fuel-fuel.ensures))) c.run_fuel-fuel.ensures (ends_not c.in-Err.is c.walk_main.ensures)

pub returns-in_default : goal.returns-in_default
returns-in_default c = said_room (gave_of (begun c.args.s.now c.requires.0 c.requires.1 (omega (arith, c.if-rows_lent-rows.false, c.rows_lent.ensures, c.rows.ensures.is, c.run_fuel-fuel.ensures))) (ends_done c.in-Ok.is c.walk_main.ensures) c.run_fuel-fuel.ensures c.spent-units.ensures) (hands_room c.in_default.is c.hand_out.ensures)

pub returns-in-Some : goal.returns-in-Some
returns-in-Some c = said_rows (gave_of (begun c.args.s.now c.requires.0 c.requires.1 (omega (arith, c.if-rows_lent-rows.false, c.rows_lent.ensures, c.rows.ensures.is, c.run_fuel-fuel.ensures))) (ends_done c.in-Ok.is c.walk_main.ensures) c.run_fuel-fuel.ensures c.spent-units.ensures) (hands_rows c.in-Some.is c.hand_out.ensures)
