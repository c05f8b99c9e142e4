-- `type_rows::row` meets its contract: a row of the sheet, or one of those lent.
use native.Mathlib.Omega.{arith}
use Rattle.type_rows.proofs.Laws.{read_sheet, read_work}
use Rattle.type_rows.proofs.row.Goals as goal

pub returns-then-r-types : goal.returns-then-r-types
returns-then-r-types c = λ n h. read_sheet c.args.s.now _ n c.args.r c.types-types.ensures.is c.if-r-types.true c.type_row.ensures

pub returns : goal.returns
returns c = λ n h. read_work c.args.s.now _ n c.args.r c.types-types.ensures.is (omega (arith, c.if-r-types.false)) h c.any_row.ensures.is
