use mathlib.Core.Path.{◌≡◌}
use Rattle.run_query.specs.Ask.{pool, body_asked}
use lib.ListN.{length}
use Rattle.forest_rows.specs.Each.{Looping}
use Prim.Native.Nat.{◌+◌, ◌*◌}
use Rattle.run_query.proofs.+queries.Given as goal

abbrev pub decreases-choose : goal.decreases-choose
decreases-choose l = 4 * l.depth + 1

abbrev pub decreases-each : goal.decreases-each
decreases-each l = 4 * l.depth + 2

abbrev pub invariant-each-loop-at : goal.invariant-each-loop-at
invariant-each-loop-at l = (Looping (body_asked l.s l.initial.rows l.scope l.depth l.body) (pool l.s) l.initial.rows l.rows l.initial.links.left.used l.over l.initial.links.left.purse.left l.at l.links.root l.links.left.used l.links.left.purse.left) × (length l.rows ≡ length l.initial.rows)

abbrev pub decreases-each-loop-at : goal.decreases-each-loop-at
decreases-each-loop-at l = l.at

abbrev pub decreases-for_each : goal.decreases-for_each
decreases-for_each l = 4 * l.depth + 3

abbrev pub decreases-join : goal.decreases-join
decreases-join l = 4 * l.depth + 1

abbrev pub decreases-let_in : goal.decreases-let_in
decreases-let_in l = 4 * l.depth + 1

abbrev pub decreases-pick : goal.decreases-pick
decreases-pick l = 4 * l.depth + 1

abbrev pub decreases-query : goal.decreases-query
decreases-query l = 4 * l.depth

abbrev pub decreases-same : goal.decreases-same
decreases-same l = 4 * l.depth + 1

abbrev pub decreases-tree : goal.decreases-tree
decreases-tree l = 4 * l.depth + 1

abbrev pub decreases-turn : goal.decreases-turn
decreases-turn l = 4 * l.depth + 1
