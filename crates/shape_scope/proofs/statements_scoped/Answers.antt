use Rattle.shape_scope.proofs.Loops.{statement_more, statement_fails}
use Rattle.shape_scope.proofs.Once.{facts}
use Rattle.meaning.specs.Kinds.{statement_form}
use mathlib.Core.Path.{ap, ◌∙◌}
use native.Mathlib.Omega.{arith}
use Rattle.shape_scope.proofs.statements_scoped.Goals as goal

pub row-requires : goal.row-requires
row-requires c = omega (arith, c.loop-i.invariant.0, (facts c.args.s.now c.requires.before).few_statements)

pub returns-then-not-statement_in_scope : goal.returns-then-not-statement_in_scope
returns-then-not-statement_in_scope c = statement_fails (facts c.args.s.now c.requires.before) c.loop-i-test.true c.loop-i.invariant.0 c.loop-i.invariant.1
    (c.as_statement.ensures.is ∙ ap statement_form c.statement_row.ensures.is) c.row.ensures c.if-not-statement_in_scope.true c.statement_in_scope.ensures

pub loop-i-preserved : goal.loop-i-preserved
loop-i-preserved c = (
  omega (arith, c.loop-i.invariant.0),
  statement_more (facts c.args.s.now c.requires.before) c.loop-i-test.true c.loop-i.invariant.0 c.loop-i.invariant.1
      (c.as_statement.ensures.is ∙ ap statement_form c.statement_row.ensures.is) c.row.ensures c.if-not-statement_in_scope.false c.statement_in_scope.ensures,
)
