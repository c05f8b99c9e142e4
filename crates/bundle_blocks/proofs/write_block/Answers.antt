-- `bundle_blocks::write_block` meets its contract: its number, its payload and its check stand, and nothing else is touched.
use mathlib.Core.Path.{◌∙◌}
use Prim.Native.Nat.{◌*◌}
use lib.ListN.{drop}
use Rattle.bundle_blocks.proofs.Writing.{block_stands}
use Rattle.bundle_blocks.proofs.write_block.Goals as goal

pub returns : goal.returns
returns c = block_stands c.args.k c.check_word-check.result (drop (508 * c.args.k) c.args.sheet.now) c.args.out.now _ _ _ c.requires.1
    c.put_word.ensures c.write_payload.ensures (c.write_payload.auto.out ∙ c.put_word.auto.b)
    c.check_word-check.ensures c.put_word-2.ensures
