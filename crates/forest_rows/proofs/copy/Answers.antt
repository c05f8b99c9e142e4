use native.Mathlib.Omega.{arith}
use Rattle.sheet.specs.Laid.{cells_of}
use Rattle.forest_rows.proofs.Copies.{copies_some, copies_next, copies_skip, copies_more, copies_done}
use Rattle.forest_rows.proofs.copy.Goals as goal

pub row-t-requires : goal.row-t-requires
row-t-requires c = (
  copies_some c.requires c.loop-to.invariant c.loop-to-test.true,
  omega (arith, c.loop-to.invariant.within, c.requires.small),
  omega (arith, c.loop-to.invariant.within, c.loop-to.invariant.long, c.requires.room),
)

pub loop-to-smaller-then-takes : goal.loop-to-smaller-then-takes
loop-to-smaller-then-takes c = copies_next c.requires c.loop-to.invariant (cells_of c.row-t.result) c.row-t.ensures.is c.takes.ensures c.loop-to-test.true

pub loop-to-preserved-then-takes : goal.loop-to-preserved-then-takes
loop-to-preserved-then-takes c = copies_more c.requires c.loop-to.invariant (cells_of c.row-t.result) c.row-t.ensures.is c.takes.ensures c.loop-to-test.true
    c.if-takes.true c.push.auto.rows (rw (c.from.ensures, c.front_row-next.ensures) at c.push.ensures.written)

pub loop-to-smaller : goal.loop-to-smaller
loop-to-smaller c = copies_next c.requires c.loop-to.invariant (cells_of c.row-t.result) c.row-t.ensures.is c.takes.ensures c.loop-to-test.true

pub loop-to-preserved : goal.loop-to-preserved
loop-to-preserved c = copies_skip c.requires c.loop-to.invariant (cells_of c.row-t.result) c.row-t.ensures.is c.takes.ensures c.loop-to-test.true c.if-takes.false

pub returns : goal.returns
returns c = λ byte. rw c.front_row.ensures (copies_done c.requires c.loop-to.invariant (λ h. omega arith) (λ byte. omega (arith, c.count.ensures byte)) byte)
