-- `type_rows::write` meets its contract: a unit, and the row after the last.
use mathlib.Core.Path.{refl}
use Rattle.type_rows.specs.Finds.{finds_err, halt_tick}
use Rattle.type_rows.proofs.Laws.{wrote}
use Rattle.type_rows.proofs.write.Goals as goal

pub returns-in_err-purse : goal.returns-in_err-purse
returns-in_err-purse c = finds_err c.from_residual.ensures.1 (halt_tick _ _ _ c.in_err-purse.ensures.by)

pub returns : goal.returns
returns c = wrote c.requires c.push-last.ensures.written _ c.in_ok-purse.ensures.by c.push-last.ensures.row c.types.ensures.is refl
