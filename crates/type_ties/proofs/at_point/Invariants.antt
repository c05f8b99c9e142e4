-- `type_ties::at_point` meets its contract. The loop's invariant: no place below i is tied at the point.
use Prim.Native.Nat.{◌≤◌, ◌<◌, ◌-◌}
use mathlib.Core.Path.{◌≡◌}
use mathlib.Core.Bool.{true}
use Rattle.bits.specs.Sets.{in_set}
use Rattle.type_places.specs.Tables.{set_of}
use Rattle.type_ties.specs.Points.{NoneBelow}
use Rattle.type_ties.proofs.at_point.Given as goal

abbrev pub invariant-loop-i : goal.invariant-loop-i
invariant-loop-i l = (l.i ≤ 576) × (l.i < 576 → in_set l.t l.k l.i ≡ true) × NoneBelow l.s (set_of l.t l.k) l.i

abbrev pub decreases-loop-i : goal.decreases-loop-i
decreases-loop-i l = 576 - l.i
