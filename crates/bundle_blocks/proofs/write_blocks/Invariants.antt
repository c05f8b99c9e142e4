-- `bundle_blocks::write_blocks` meets its contract: after k turns k blocks stand in front.
use mathlib.Core.Path.{◌≡◌}
use Prim.Native.Nat.{◌*◌}
use mathlib.Core.List.{◌++◌}
use lib.ListN.{drop, take}
use Rattle.meaning.specs.Bundle.{blocks}
use Rattle.bundle_blocks.proofs.write_blocks.Given as goal

abbrev pub invariant-loop-k : goal.invariant-loop-k
invariant-loop-k l = l.out ≡ blocks l.k 1 (take l.need l.s) ++ drop (512 * l.k) l.initial.out
