use native.Mathlib.Omega.{arith}
use Rattle.meaning.specs.Theorems.ReadBack.{lent_row}
use Rattle.sheet.specs.Laid.{cells_of}
use Rattle.forest_rows.specs.Table.{read_next}
use Rattle.forest_rows.proofs.Labels.{count_yes, count_no, count_chosen_none}
use Rattle.forest_rows.proofs.count.Goals as goal

pub loop-at-preserved-then-takes : goal.loop-at-preserved-then-takes
loop-at-preserved-then-takes c = (
  omega (arith, c.loop-at.invariant.0, read_next (lent_row c.args.rows.now) c.args.root c.loop-at.at (cells_of c.row-t.result) c.requires.low (omega arith) (omega (arith, c.loop-at.invariant.0)) c.row-t.ensures.is),
  λ byte. omega (
    arith,
    c.loop-at.invariant.1 byte,
    count_yes byte (lent_row c.args.rows.now) c.args.which c.args.root c.loop-at.at (cells_of c.row-t.result) c.requires.low (omega arith) (omega (arith, c.loop-at.invariant.0))
        c.row-t.ensures.is c.takes.ensures c.if-takes.true,
  ),
)

pub loop-at-preserved : goal.loop-at-preserved
loop-at-preserved c = (
  omega (arith, c.loop-at.invariant.0, read_next (lent_row c.args.rows.now) c.args.root c.loop-at.at (cells_of c.row-t.result) c.requires.low (omega arith) (omega (arith, c.loop-at.invariant.0)) c.row-t.ensures.is),
  λ byte. omega (
    arith,
    c.loop-at.invariant.1 byte,
    count_no byte (lent_row c.args.rows.now) c.args.which c.args.root c.loop-at.at (cells_of c.row-t.result) c.requires.low (omega arith) (omega (arith, c.loop-at.invariant.0))
        c.row-t.ensures.is c.takes.ensures c.if-takes.false,
  ),
)

pub returns : goal.returns
returns c = λ byte. omega (arith, c.loop-at.invariant.1 byte, count_chosen_none byte (lent_row c.args.rows.now) c.args.which c.loop-at.at (omega arith))
