-- `bits::several_both` meets its contract. The loop's invariant: the count is that of the words passed (proofs/Found.antt).
use mathlib.Core.Path.{◌≡◌}
use Prim.Native.Nat.{◌*◌, ◌≤◌}
use Rattle.bits.specs.Counts.{count_to}
use Rattle.bits.specs.Sets.{in_both}
use Rattle.bits.proofs.several_both.Given as goal

abbrev pub invariant-loop-w : goal.invariant-loop-w
invariant-loop-w l = (l.n ≡ count_to (in_both l.t l.k l.u l.j) (64 * l.w)) × (l.n ≤ 64 * l.w)
