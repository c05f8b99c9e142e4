-- `check_statement::call` meets its contract: the focus against the declared input, then the arguments.
use Rattle.meaning.specs.Kinds.{present}
use Rattle.meaning.specs.Theorems.Sound.Written.{loads_shapely}
use Rattle.type_rows.specs.Finds.{finds_err}
use Rattle.check_statement.specs.Calls.{input_wanted}
use Rattle.check_statement.proofs.Calling.{call_halts, call_finds}
use Rattle.check_statement.proofs.call.Goals as goal

pub must_lie-requires : goal.must_lie-requires
must_lie-requires c = record { loads = (c.requires.checks.0.loads, c.requires.checks.0.ready.room, c.requires.checks.0.ready.focus, input_wanted c.args.s.now (loads_shapely c.requires.checks.0.loads) c.args.c c.requires.checks.1.there c.procedure_row-input.result c.procedure_row-input.ensures); lent = c.requires.lent }

-- where the focus is refused, so is the call,
-- whether it is too wide or lies outside;
-- else it goes as its arguments do:
-- the declared output, or what refuses one of them
pub returns-in_err-must_lie : goal.returns-in_err-must_lie
returns-in_err-must_lie c = finds_err c.from_residual.ensures.1 (call_halts c.args.s.now c.args.depth c.args.at c.args.c (present c.args.q c.args.r) c.requires.checks.0.ready c.procedure_row-input.result c.procedure_row-input.ensures c.in_err-must_lie.ensures.by)

pub returns : goal.returns
returns c = call_finds c.args.s.now c.args.depth c.args.at c.args.c (present c.args.q c.args.r) c.requires.checks.0.ready c.procedure_row-input.result c.procedure_row-input.ensures c.in_ok-must_lie.ensures.by c.arguments.ensures
