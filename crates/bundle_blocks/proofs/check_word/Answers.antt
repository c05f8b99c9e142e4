use mathlib.Core.Path.{sym}
use Prim.Native.Nat.{◌*◌}
use native.Mathlib.Omega.{arith}
use lib.ListN.{drop}
use Rattle.bundle_blocks.proofs.Reading.{word_drop, sum_none, sum_more}
use Rattle.bundle_blocks.proofs.check_word.Goals as goal

pub loop-i-init : goal.loop-i-init
loop-i-init c = (sym (sum_none (drop (512 * c.args.k) c.args.b.now)), omega arith)

pub loop-i-preserved : goal.loop-i-preserved
loop-i-preserved c = (
  omega (arith, sum_more (drop (512 * c.args.k) c.args.b.now) c.loop-i.i, word_drop c.args.b.now c.args.k c.loop-i.i, c.word_at-sum.ensures.is, c.loop-i.invariant.0),
  omega (arith, c.word_at-sum.ensures.small),
)
