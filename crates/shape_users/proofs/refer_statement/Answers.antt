-- `shape_users::refer_statement` meets its contract: the row as the sheet has it, and what its kind says.
use Rattle.meaning.specs.Sheet.{script_of}
use Rattle.meaning.specs.Shape.{statement_uses}
use Rattle.shape_users.specs.Tally.{counted}
use Rattle.shape_users.proofs.Counts.{by_row}
use Rattle.shape_users.proofs.refer_statement.Goals as goal

pub returns : goal.returns
returns c = by_row (counted c.args.which) (statement_uses (script_of c.args.s.now).procedure_row) c.refer_row.ensures c.statement_uses.ensures.uses c.statement_row-c.ensures.is
