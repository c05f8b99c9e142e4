-- `type_rows::written::write_out` meets its contract. The loop's invariant (`Writing`): the rows above i are written, those above `free` handed out.
use Rattle.type_rows.specs.Grown.{type_in}
use Rattle.type_rows.specs.Writing.{Writing}
use Rattle.type_rows.proofs.written.write_out.Given as goal

abbrev pub invariant-loop-i : goal.invariant-loop-i
invariant-loop-i l = Writing (type_in l.s l.work l.used) l.found l.own l.from l.free l.i
