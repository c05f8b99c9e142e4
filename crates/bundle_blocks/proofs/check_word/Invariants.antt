-- `bundle_blocks::check_word` meets its contract: after i turns the sum is that of the first i words, and small.
use mathlib.Core.Path.{◌≡◌}
use Prim.Native.Nat.{◌*◌, ◌≤◌}
use lib.ListN.{drop}
use Rattle.meaning.specs.Bundle.{word_sum}
use Rattle.bundle_blocks.proofs.check_word.Given as goal

abbrev pub invariant-loop-i : goal.invariant-loop-i
invariant-loop-i l = (l.sum ≡ word_sum (drop (512 * l.k) l.b) l.i) × (l.sum ≤ 65535 * l.i)
