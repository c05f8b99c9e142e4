-- `run_statement::insert` meets its contract: a query on an empty focus, else Stuck.
use Rattle.run_statement.specs.Edit.{edits_query, fits_insert}
use Rattle.run_statement.proofs.Laws.{insert_stuck, insert_met}
use Rattle.run_statement.proofs.insert.Goals as goal

pub returns-then-focus-ne0 : goal.returns-then-focus-ne0
returns-then-focus-ne0 c = insert_stuck c.args.s.now c.args.depth c.requires.asks.ready c.args.at c.args.p _ c.if-focus-ne0.true

pub query-requires : goal.query-requires
query-requires c = edits_query c.requires (fits_insert c.args.s.now c.args.depth c.args.scope c.args.p c.requires.asks.scope)

pub returns : goal.returns
returns c = insert_met c.args.s.now c.args.depth c.requires.asks.ready c.args.at c.args.p c.if-focus-ne0.false c.query.ensures.met
