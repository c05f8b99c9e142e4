-- `bundle_blocks::unpack` meets its contract: after k turns the payload of k blocks stands in front.
use mathlib.Core.Path.{◌≡◌}
use Prim.Native.Nat.{◌*◌}
use mathlib.Core.List.{◌++◌}
use lib.ListN.{drop}
use Rattle.meaning.specs.Bundle.{payload}
use Rattle.bundle_blocks.proofs.unpack.Given as goal

abbrev pub invariant-loop-k : goal.invariant-loop-k
invariant-loop-k l = l.out ≡ payload l.k l.b ++ drop (508 * l.k) l.initial.out
