-- `type_tables::points::starts` meets its contract. The loop's invariant: End stands where the rows low + 1 to i begin, if they may be empty.
use Rattle.type_tables.specs.Points.{Started}
use Rattle.type_tables.proofs.points.starts.Given as goal

abbrev pub invariant-loop-i : goal.invariant-loop-i
invariant-loop-i l = Started l.null l.initial.first l.first l.low l.i
