-- `check_statement::insert` meets its contract: a query where the focus is (), else Wide or Mismatch.
use Rattle.type_rows.specs.Finds.{finds_err}
use Rattle.run_statement.specs.Edit.{fits_insert}
use Rattle.check_statement.specs.Typing.{checks_query}
use Rattle.check_statement.proofs.Laws.{insert_halts, insert_finds}
use Rattle.check_statement.proofs.insert.Goals as goal

pub query-requires : goal.query-requires
query-requires c = checks_query c.requires (fits_insert c.args.s.now c.args.depth c.args.scope c.args.p c.requires.scope)

pub returns-in_err-must_be : goal.returns-in_err-must_be
returns-in_err-must_be c = finds_err c.from_residual.ensures.1 (insert_halts c.args.s.now c.args.depth c.requires.ready c.args.at c.args.p c.in_err-must_be.ensures.by)

pub returns : goal.returns
returns c = insert_finds c.args.s.now c.args.depth c.requires.ready c.args.at c.args.p c.in_ok-must_be.ensures.by c.query.ensures
