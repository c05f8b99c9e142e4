-- `forest_rows::copy` meets its contract: the trees meant are counted, then written downwards, each with the row below it as its next.
use Rattle.forest_rows.proofs.Copies.{Copies}
use Rattle.forest_rows.proofs.copy.Given as goal

abbrev pub invariant-loop-to : goal.invariant-loop-to
invariant-loop-to l = Copies l.initial.rows l.rows l.used l.which l.a l.b l.at l.top l.to

abbrev pub decreases-loop-to : goal.decreases-loop-to
decreases-loop-to l = l.at
