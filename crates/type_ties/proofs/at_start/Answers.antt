-- `type_ties::at_start` meets its contract: by the flag of row i.
use Rattle.type_ties.specs.Points.{least_given}
use Rattle.type_ties.proofs.at_start.Goals as goal

pub returns-then-root-i : goal.returns-then-root-i
returns-then-root-i c = least_given c.if-root-i.true c.at_point.ensures
