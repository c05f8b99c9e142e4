use Prim.Native.Nat.{◌+◌, ◌*◌}
use Rattle.check_query.proofs.+queries.Given as goal

abbrev pub decreases-choose : goal.decreases-choose
decreases-choose l = 70000 * l.depth + 2

abbrev pub decreases-either : goal.decreases-either
decreases-either l = 70000 * l.depth + 1

abbrev pub decreases-for_each : goal.decreases-for_each
decreases-for_each l = 70000 * l.depth + 66000

abbrev pub decreases-join : goal.decreases-join
decreases-join l = 70000 * l.depth + 1

abbrev pub decreases-let_in : goal.decreases-let_in
decreases-let_in l = 70000 * l.depth + 1

abbrev pub decreases-parts : goal.decreases-parts
decreases-parts l = 70000 * l.depth + 2 + l.of

abbrev pub decreases-pick : goal.decreases-pick
decreases-pick l = 70000 * l.depth + 1

abbrev pub decreases-query : goal.decreases-query
decreases-query l = 70000 * l.depth

abbrev pub decreases-same : goal.decreases-same
decreases-same l = 70000 * l.depth + 1

abbrev pub decreases-tree : goal.decreases-tree
decreases-tree l = 70000 * l.depth + 1
