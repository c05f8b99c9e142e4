use Rattle.type_ties.specs.Points.{first_here}
use Rattle.type_ties.proofs.at_point.Goals as goal

pub returns-in-Some : goal.returns-in-Some
returns-in-Some c = first_here c.args.s.now c.args.t.now c.args.k c.loop-i.invariant.2 c.in-Some.ensures
