-- `run_query::children` meets its contract: the child of the one tree, if it is labelled.
use native.Mathlib.Omega.{arith}
use mathlib.Core.Path.{sym, ap, ◌∙◌}
use Rattle.meaning.specs.Run.{inside}
use Rattle.meaning.specs.Laws.Rows.{forest_at_zero}
use Rattle.meaning.specs.Theorems.ReadBack.{lent_row}
use Rattle.forest_rows.specs.Asks.{sees_node, no_node}
use Rattle.run_query.proofs.Laws.{inside_none}
use Rattle.run_query.proofs.children.Goals as goal

pub returns-in-Some-clause-is : goal.returns-in-Some-clause-is
unfolding inside
returns-in-Some-clause-is c = λ byte. sym (ap inside (sees_node byte c.args.rows.now c.args.root c.look.result c.in-Some.ensures (c.look.ensures byte)).is)

pub returns-in-Some-clause-down : goal.returns-in-Some-clause-down
returns-in-Some-clause-down c = omega (arith, (sees_node (λ i. 0) c.args.rows.now c.args.root c.look.result c.in-Some.ensures (c.look.ensures (λ i. 0))).inside)

pub returns-in-None-clause-is : goal.returns-in-None-clause-is
returns-in-None-clause-is c = λ byte. forest_at_zero byte (lent_row c.args.rows.now) ∙ sym (inside_none (no_node byte c.args.rows.now c.args.root c.look.result c.in-None.ensures (c.look.ensures byte)))
