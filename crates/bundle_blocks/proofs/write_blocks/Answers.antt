use mathlib.Core.Path.{refl}
use native.Mathlib.Omega.{arith}
use lib.ListN.{take}
use Rattle.bundle_blocks.proofs.Writing.{blocks_none, bundled}
use Rattle.bundle_blocks.proofs.write_blocks.Goals as goal

pub loop-k-init : goal.loop-k-init
loop-k-init c = rw (blocks_none 1 (take c.args.need c.args.s.now)) refl

pub loop-k-preserved : goal.loop-k-preserved
loop-k-preserved c = bundled c.loop-k.k (take c.args.need c.args.s.now) c.args.out.now c.loop-k.out _ c.loop-k.invariant c.loop-k.auto.out (omega arith) c.write_block.ensures
