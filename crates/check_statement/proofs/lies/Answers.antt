-- `check_statement::lies` meets its contract: a question that gives a type.
use Rattle.type_rows.specs.Finds.{finds_err, finds_of, typed_ret}
use Rattle.check_query.specs.Questions.{ask_finds}
use Rattle.check_statement.proofs.lies.Goals as goal

pub returns-in_err-must_lie : goal.returns-in_err-must_lie
returns-in_err-must_lie c = finds_err c.from_residual.ensures.1 (c.in_err-must_lie.ensures.by _)

pub returns : goal.returns
returns c = ask_finds c.in_ok-must_lie.ensures.by (finds_of (typed_ret _ c.requires.loads.1.grows c.requires.loads.3))
