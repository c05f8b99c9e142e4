-- `desk::walk_main` meets its contract: the evaluator's walk is main's, on the sheet's forest.
use Rattle.std.proofs.Common.{arith}
use Rattle.desk.specs.Ends.{edits_main, main_ends}
use Rattle.desk.proofs.walk_main.Goals as goal

pub statement-requires : goal.statement-requires
statement-requires c = rw (c.rows.ensures.is, c.root.ensures, c.run_fuel.ensures, c.main.ensures) (edits_main c.args.s.now c.requires.0 c.load.new.work c.load.ensures c.new.ensures (omega (arith, c.load.auto.work, c.requires.1)))

pub returns : goal.returns
returns c = main_ends c.args.s.now c.requires.0 c.load.new.work c.load.ensures c.new.ensures (rw (c.rows.ensures.is, c.root.ensures, c.run_fuel.ensures, c.main.ensures) at c.statement.ensures) (omega (arith, c.statement.auto.rows, c.load.auto.work, c.requires.1))
