-- `check_statement::arguments` meets its contract: the queries in order, then the questions in order.
use native.Mathlib.Omega.{arith}
use Rattle.meaning.specs.Theorems.Sound.Written.{loads_shapely}
use Rattle.type_rows.specs.Finds.{finds_err, room_after}
use Rattle.run_statement.proofs.Laws.{first_fits, both_fit}
use Rattle.check_query.specs.Infer.{asks_part, asks_after}
use Rattle.check_statement.specs.Calls.{wanted_low, output_wanted, first_wanted, second_wanted}
use Rattle.check_statement.proofs.Calling.{none_finds, first_there, second_there, first_halts, one_finds, second_halts, two_halts, two_finds}
use Rattle.check_statement.proofs.arguments.Goals as goal

pub returns-then-q-eq0 : goal.returns-then-q-eq0
returns-then-q-eq0 c = none_finds c.args.s.now c.args.depth c.args.at c.args.c c.args.q c.args.r c.requires.asks.0.ready c.procedure_row-one.result c.procedure_row-one.ensures c.requires.asks.1 c.args.left.purse c.if-q-eq0.true (wanted_low (output_wanted c.args.s.now (loads_shapely c.requires.asks.0.loads) c.args.c c.requires.asks.1.there c.procedure_row-one.result c.procedure_row-one.ensures))

pub query-requires : goal.query-requires
query-requires c = asks_part c.requires.asks.0 (first_fits c.args.s.now c.args.depth c.args.scope c.args.c c.args.q c.args.r c.if-q-eq0.false c.requires.asks.0.scope)

pub lies-requires : goal.lies-requires
lies-requires c = record { loads = (c.requires.asks.0.loads, (room_after c.query.auto.work c.in_ok-x.ensures.by c.requires.asks.0.ready.room), c.in_ok-x.ensures.by.inside, omega (arith, (wanted_low (output_wanted c.args.s.now (loads_shapely c.requires.asks.0.loads) c.args.c c.requires.asks.1.there c.procedure_row-one.result c.procedure_row-one.ensures))), (first_wanted c.args.s.now (loads_shapely c.requires.asks.0.loads) c.args.c c.requires.asks.1.there c.procedure_row-one.result c.procedure_row-one.ensures (first_there c.args.s.now c.args.depth c.args.at c.args.c c.args.q c.args.r c.requires.asks.0.ready c.procedure_row-one.result c.procedure_row-one.ensures c.requires.asks.1 c.if-q-eq0.false))); lent = c.requires.lent }

pub returns-then-r-eq0 : goal.returns-then-r-eq0
returns-then-r-eq0 c = one_finds c.args.s.now c.args.depth c.args.at c.args.c c.args.q c.args.r c.requires.asks.0.ready c.procedure_row-one.result c.procedure_row-one.ensures c.requires.asks.1 c.if-q-eq0.false c.in_ok-x.ensures.by c.if-r-eq0.true (wanted_low (output_wanted c.args.s.now (loads_shapely c.requires.asks.0.loads) c.args.c c.requires.asks.1.there c.procedure_row-one.result c.procedure_row-one.ensures)) c.lies.ensures

pub query-requires-2 : goal.query-requires-2
query-requires-2 c = asks_after c.requires.asks.0 c.query.auto.work c.in_ok-x.ensures.by (both_fit c.args.s.now c.args.depth c.args.scope c.args.c c.args.q c.args.r c.if-q-eq0.false c.if-r-eq0.false c.requires.asks.0.scope)

pub must_lie-requires : goal.must_lie-requires
must_lie-requires c = record { loads = (c.requires.asks.0.loads, room_after c.query-2.auto.work c.in_ok-y.ensures.by (room_after c.query.auto.work c.in_ok-x.ensures.by c.requires.asks.0.ready.room), omega (arith, c.in_ok-x.ensures.by.inside, c.in_ok-y.ensures.by.grown), first_wanted c.args.s.now (loads_shapely c.requires.asks.0.loads) c.args.c c.requires.asks.1.there c.procedure_row-one.result c.procedure_row-one.ensures (first_there c.args.s.now c.args.depth c.args.at c.args.c c.args.q c.args.r c.requires.asks.0.ready c.procedure_row-one.result c.procedure_row-one.ensures c.requires.asks.1 c.if-q-eq0.false)); lent = c.requires.lent }

pub lies-requires-2 : goal.lies-requires-2
lies-requires-2 c = record { loads = (c.requires.asks.0.loads, (room_after c.query-2.auto.work c.in_ok-y.ensures.by (room_after c.query.auto.work c.in_ok-x.ensures.by c.requires.asks.0.ready.room)), c.in_ok-y.ensures.by.inside, omega (arith, (wanted_low (output_wanted c.args.s.now (loads_shapely c.requires.asks.0.loads) c.args.c c.requires.asks.1.there c.procedure_row-one.result c.procedure_row-one.ensures))), (second_wanted c.args.s.now (loads_shapely c.requires.asks.0.loads) c.args.c c.requires.asks.1.there c.procedure_row-one.result c.procedure_row-one.ensures (second_there c.args.s.now c.args.depth c.args.at c.args.c c.args.q c.args.r c.requires.asks.0.ready c.procedure_row-one.result c.procedure_row-one.ensures c.requires.asks.1 c.if-r-eq0.false))); lent = c.requires.lent }

pub returns-in_err-x : goal.returns-in_err-x
returns-in_err-x c = finds_err c.from_residual.ensures.1 (first_halts c.args.s.now c.args.depth c.args.at c.args.c c.args.q c.args.r c.requires.asks.0.ready c.procedure_row-one.result c.procedure_row-one.ensures c.requires.asks.1 c.if-q-eq0.false c.in_err-x.ensures.by)

pub returns-in_err-y : goal.returns-in_err-y
returns-in_err-y c = finds_err c.from_residual-in_err-y.ensures.1 (second_halts c.args.s.now c.args.depth c.args.at c.args.c c.args.q c.args.r c.requires.asks.0.ready c.procedure_row-one.result c.procedure_row-one.ensures c.requires.asks.1 c.if-q-eq0.false c.in_ok-x.ensures.by c.if-r-eq0.false c.in_err-y.ensures.by)

pub returns-in_err-must_lie : goal.returns-in_err-must_lie
returns-in_err-must_lie c = finds_err c.from_residual-in_err-must_lie.ensures.1 (two_halts c.args.s.now c.args.depth c.args.at c.args.c c.args.q c.args.r c.requires.asks.0.ready c.procedure_row-one.result c.procedure_row-one.ensures c.requires.asks.1 c.if-q-eq0.false c.in_ok-x.ensures.by c.if-r-eq0.false c.in_ok-y.ensures.by c.in_err-must_lie.ensures.by)

pub returns : goal.returns
returns c = two_finds c.args.s.now c.args.depth c.args.at c.args.c c.args.q c.args.r c.requires.asks.0.ready c.procedure_row-one.result c.procedure_row-one.ensures c.requires.asks.1 c.if-q-eq0.false c.in_ok-x.ensures.by c.if-r-eq0.false c.in_ok-y.ensures.by c.in_ok-must_lie.ensures.by (wanted_low (output_wanted c.args.s.now (loads_shapely c.requires.asks.0.loads) c.args.c c.requires.asks.1.there c.procedure_row-one.result c.procedure_row-one.ensures)) c.lies-2.ensures
