-- `type_ties::at_place` meets its contract: by the head of row i.
use native.Mathlib.Omega.{arith}
use Rattle.type_ties.specs.Points.{least_given}
use Rattle.type_ties.proofs.at_place.Goals as goal

pub returns-then-head-lt-HEADS : goal.returns-then-head-lt-HEADS
returns-then-head-lt-HEADS c = least_given (omega (arith, c.if-head-lt-HEADS.true, c.head.ensures)) c.at_point.ensures
