use mathlib.Core.Path.{refl}
use native.Mathlib.Omega.{arith}
use Rattle.bundle_blocks.proofs.Reading.{payload_none, unpacked}
use Rattle.bundle_blocks.proofs.unpack.Goals as goal

pub loop-k-init : goal.loop-k-init
loop-k-init c = rw (payload_none c.args.b.now) refl

pub loop-k-preserved : goal.loop-k-preserved
loop-k-preserved c = unpacked c.loop-k.k c.args.b.now c.args.out.now c.loop-k.out _ c.loop-k.invariant c.loop-k.auto.out (omega arith) c.unpack_block.ensures
