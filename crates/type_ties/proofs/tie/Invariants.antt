-- `type_ties::tie` meets its contract. The loop's invariant: the best is the lowest tie at the points of the first i rows.
use Rattle.type_ties.specs.Points.{Upto, Least}
use Rattle.type_ties.proofs.tie.Given as goal

abbrev pub invariant-loop-i : goal.invariant-loop-i
invariant-loop-i l = Least (Upto l.s l.root l.tables.first l.tables.behind l.i) l.best
