use Prim.Native.Nat.{◌*◌}
use Rattle.type_rows.proofs.parts.+picked.Given as goal

abbrev pub decreases-picked : goal.decreases-picked
decreases-picked l = 4 * l.of
