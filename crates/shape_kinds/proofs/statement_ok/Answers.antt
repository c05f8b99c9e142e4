-- `shape_kinds::statement_ok` meets its contract: what `row_ok` tests is the meaning's, by what the row's kind says.
use Rattle.shape_kinds.proofs.statement_ok.Goals as goal

pub returns : goal.returns
returns c = rw (← c.statement_row-c.ensures.is, ← c.statement_uses.ensures.is, ← c.statement_uses.ensures.uses) c.row_ok.ensures
