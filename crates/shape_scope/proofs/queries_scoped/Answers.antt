use Rattle.shape_scope.proofs.Loops.{query_more, query_fails, queries_end}
use Rattle.shape_scope.proofs.Once.{facts}
use Rattle.meaning.specs.Kinds.{query_form}
use mathlib.Core.Path.{ap, ◌∙◌}
use native.Mathlib.Omega.{arith}
use Rattle.shape_scope.proofs.queries_scoped.Goals as goal

pub row-requires : goal.row-requires
row-requires c = omega (arith, c.loop-i.invariant.0, (facts c.args.s.now c.requires.before).few_queries)

pub returns-then-not-query_in_scope : goal.returns-then-not-query_in_scope
returns-then-not-query_in_scope c =
    query_fails (facts c.args.s.now c.requires.before) c.loop-i-test.true c.loop-i.invariant.0 c.loop-i.invariant.1
    (c.as_query.ensures.is ∙ ap query_form c.query_row.ensures.is) c.row.ensures c.if-not-query_in_scope.true c.query_in_scope.ensures

pub loop-i-preserved : goal.loop-i-preserved
loop-i-preserved c = (
  omega (arith, c.loop-i.invariant.0),
  query_more (facts c.args.s.now c.requires.before) c.loop-i-test.true c.loop-i.invariant.0 c.loop-i.invariant.1
      (c.as_query.ensures.is ∙ ap query_form c.query_row.ensures.is) c.row.ensures c.if-not-query_in_scope.false c.query_in_scope.ensures,
)

pub returns : goal.returns
returns c = queries_end (facts c.args.s.now c.requires.before) (omega (arith, c.loop-i-test.false)) c.loop-i.invariant.1
