-- `bundle_blocks::unpack_block` meets its contract: the payload that is copied stands in its place.
use Prim.Native.Nat.{◌+◌, ◌-◌, ◌*◌}
use native.Mathlib.Omega.{arith}
use lib.ListN.{drop}
use Rattle.bundle_blocks.proofs.Reading.{copied_is}
use Rattle.bundle_blocks.proofs.unpack_block.Goals as goal

pub returns : goal.returns
returns c = copied_is c.args.out.now (508 * c.args.k) (drop (512 * c.args.k + 2) c.args.b.now) {i = 508 * c.args.k + 508 - 508 * c.args.k} {j = 512 * c.args.k + 2 + 508 - (512 * c.args.k + 2)} (omega arith) (omega arith) c.copy_from_slice.ensures.after
