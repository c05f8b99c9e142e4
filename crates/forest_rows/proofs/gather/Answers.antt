use native.Mathlib.Omega.{arith}
use Rattle.sheet.specs.Laid.{cells_of}
use Rattle.forest_rows.proofs.Copies.{gather_start, gather_asks, gather_more, gather_done}
use Rattle.forest_rows.proofs.gather.Goals as goal

pub loop-at-init : goal.loop-at-init
loop-at-init c = (c.requires, gather_start c.requires)

pub copy-g-requires : goal.copy-g-requires
copy-g-requires c = gather_asks c.loop-at.invariant.0 c.loop-at.invariant.1 (cells_of c.row-t.result) (omega arith) c.row-t.ensures.is

pub loop-at-preserved : goal.loop-at-preserved
loop-at-preserved c = (c.loop-at.invariant.0, gather_more c.loop-at.invariant.0 c.loop-at.invariant.1 (cells_of c.row-t.result) (omega arith) c.row-t.ensures.is c.copy-g.auto.rows c.copy-g.ensures)

pub returns : goal.returns
returns c = gather_done c.loop-at.invariant.0 c.loop-at.invariant.1 (omega arith)
