use Prim.Native.Nat.{◌*◌}
use Rattle.listing.proofs.lines.+number.Given as goal

abbrev pub decreases-number : goal.decreases-number
decreases-number l = 1 * l.k
