-- `check_statement::body` meets its contract: the statement, then its output against the declared one.
use Rattle.type_rows.specs.Finds.{finds_err}
use Rattle.check_statement.proofs.Wholes.{body_halts, body_finds}
use Rattle.check_statement.proofs.body.Goals as goal

pub returns-in_err-x : goal.returns-in_err-x
returns-in_err-x c = finds_err c.from_residual.ensures.1 (body_halts c.requires.checks.0.ready c.args.at c.args.output c.in_err-x.ensures.by)

pub returns : goal.returns
returns c = body_finds c.requires.checks.0.ready c.args.at c.args.output c.in_ok-x.ensures.by c.lies.ensures
