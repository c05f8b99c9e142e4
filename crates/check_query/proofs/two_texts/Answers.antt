-- `check_query::two_texts` meets its contract: two questions, in order.
use Rattle.type_rows.specs.Finds.{finds_err}
use Rattle.type_rows.specs.Both.{asks_bool}
use Rattle.check_query.proofs.Laws.{texts_halt, texts_found}
use Rattle.check_query.proofs.two_texts.Goals as goal

pub must_be-requires : goal.must_be-requires
must_be-requires c = (c.requires.0, c.requires.1, c.requires.2)

pub must_be-requires-2 : goal.must_be-requires-2
must_be-requires-2 c = (c.requires.0, c.requires.1, c.requires.3)

pub write-requires : goal.write-requires
write-requires c = asks_bool c.requires.1

pub returns-in_err-must_be : goal.returns-in_err-must_be
returns-in_err-must_be c = finds_err c.from_residual.ensures.1 (c.in_err-must_be.ensures.by _)

pub returns-in_err-must_be-2 : goal.returns-in_err-must_be-2
returns-in_err-must_be-2 c = finds_err c.from_residual-in_err-must_be-2.ensures.1 (texts_halt c.args.s.now c.args.work.now c.args.left.used c.args.at c.args.x c.args.y c.in_ok-must_be.ensures.by c.in_err-must_be-2.ensures.by)

pub returns : goal.returns
returns c = texts_found c.args.s.now c.args.work.now c.args.left.used c.args.at c.args.x c.args.y c.in_ok-must_be.ensures.by c.in_ok-must_be-2.ensures.by c.write.ensures
