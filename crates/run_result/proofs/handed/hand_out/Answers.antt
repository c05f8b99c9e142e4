-- `run_result::handed::hand_out` meets its contract: what is counted judges Room, and what is written is the result's rows.
use native.Mathlib.Omega.{arith}
use Rattle.run_result.specs.Hands.{room_short, room_exact, room_enough}
use Rattle.run_result.proofs.handed.hand_out.Goals as goal

pub returns-then-room-n : goal.returns-then-room-n
returns-then-room-n c = room_short c.args.res.now c.rows_lent-room.ensures c.count-n.ensures c.if-room-n.true

pub write-requires : goal.write-requires
write-requires c =
    let exact = room_exact c.args.res.now c.rows_lent-room.ensures c.count-n.ensures c.if-room-n.false in
    record {
      readable = c.requires;
      fits = λ byte. omega (arith, exact byte);
      room = omega (arith, c.if-room-n.false);
    }

pub returns : goal.returns
returns c = room_enough c.args.res.now c.rows_lent-room.ensures c.count-n.ensures c.if-room-n.false c.write.ensures
