-- `check_statement::procedure` meets its contract: the body in the scope of the parameters that are there.
use native.Mathlib.Omega.{arith}
use Rattle.check_statement.proofs.Wholes.{first_small, second_small, none_asks, none_gives, one_asks, one_gives, two_asks, two_gives}
use Rattle.check_statement.proofs.procedure.Goals as goal

pub body-requires : goal.body-requires
body-requires c = record { checks = none_asks c.requires.loads.0 c.requires.loads.1 c.args.c c.requires.loads.2 c.procedure_row-one.result c.procedure_row-one.ensures c.new-none.ensures c.if-one-eq0.true; lent = c.requires.lent }

pub returns-then-one-eq0 : goal.returns-then-one-eq0
returns-then-one-eq0 c = none_gives c.requires.loads.0 c.requires.loads.1 c.args.c c.requires.loads.2 c.procedure_row-one.result c.procedure_row-one.ensures c.new-none.ensures c.if-one-eq0.true c.body.ensures

pub with-scope-requires : goal.with-scope-requires
with-scope-requires c = (omega (arith, c.new-none.ensures.none), first_small c.requires.loads.0 c.requires.loads.1 c.args.c c.requires.loads.2 c.procedure_row-one.result c.procedure_row-one.ensures c.if-one-eq0.false)

pub body-requires-then-one-eq0-2 : goal.body-requires-then-one-eq0-2
body-requires-then-one-eq0-2 c = record { checks = one_asks c.requires.loads.0 c.requires.loads.1 c.args.c c.requires.loads.2 c.procedure_row-one.result c.procedure_row-one.ensures c.new-none.ensures c.if-one-eq0.false c.with-scope.ensures c.if-one-eq0-2.true; lent = c.requires.lent }

pub returns-then-one-eq0-2 : goal.returns-then-one-eq0-2
returns-then-one-eq0-2 c = one_gives c.requires.loads.0 c.requires.loads.1 c.args.c c.requires.loads.2 c.procedure_row-one.result c.procedure_row-one.ensures c.new-none.ensures c.if-one-eq0.false c.with-scope.ensures c.if-one-eq0-2.true c.body-then-one-eq0-2.ensures

pub with-scope-requires-2 : goal.with-scope-requires-2
with-scope-requires-2 c = (omega (arith, c.new-none.ensures.none, c.with-scope.ensures.count), second_small c.requires.loads.0 c.requires.loads.1 c.args.c c.requires.loads.2 c.procedure_row-one.result c.procedure_row-one.ensures c.if-one-eq0-2.false)

pub body-requires-2 : goal.body-requires-2
body-requires-2 c = record { checks = two_asks c.requires.loads.0 c.requires.loads.1 c.args.c c.requires.loads.2 c.procedure_row-one.result c.procedure_row-one.ensures c.new-none.ensures c.if-one-eq0.false c.with-scope.ensures c.if-one-eq0-2.false c.with-scope-2.ensures; lent = c.requires.lent }

pub returns : goal.returns
returns c = two_gives c.requires.loads.0 c.requires.loads.1 c.args.c c.requires.loads.2 c.procedure_row-one.result c.procedure_row-one.ensures c.new-none.ensures c.if-one-eq0.false c.with-scope.ensures c.if-one-eq0-2.false c.with-scope-2.ensures c.body-2.ensures
