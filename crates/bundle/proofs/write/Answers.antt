-- `bundle::write` meets its contract: refused 2, then 13, else the blocks.
use mathlib.Core.Path.{sym, ◌∙◌}
use native.Mathlib.Omega.{arith}
use Rattle.meaning.specs.Laws.Shaped.{long}
use Rattle.bundle.proofs.Replies.{writes_shape, writes_room, writes_done}
use Rattle.bundle.proofs.write.Goals as goal

pub returns-then-not-shapely : goal.returns-then-not-shapely
returns-then-not-shapely c = writes_shape c.args.s.now c.args.out.now (sym c.shapely.ensures ∙ c.if-not-shapely.true)

pub returns-then-out-m : goal.returns-then-out-m
returns-then-out-m c = writes_room c.args.s.now c.args.out.now (sym c.shapely.ensures ∙ c.if-not-shapely.false) c.need_of-need.ensures.is c.blocks_for-m.ensures c.if-out-m.true

pub write_blocks-requires : goal.write_blocks-requires
write_blocks-requires c = (omega (arith, c.need_of-need.ensures.is, c.need_of-need.ensures.small), omega (arith, c.need_of-need.ensures.is, long c.args.s.now (sym c.shapely.ensures ∙ c.if-not-shapely.false)), c.if-out-m.false)

pub returns : goal.returns
returns c = writes_done c.args.s.now c.args.out.now (sym c.shapely.ensures ∙ c.if-not-shapely.false) c.need_of-need.ensures.is c.blocks_for-m.ensures c.if-out-m.false c.write_blocks.ensures c.write_blocks.auto.out
