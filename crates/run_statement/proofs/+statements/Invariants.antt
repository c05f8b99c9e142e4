use mathlib.Core.Path.{◌≡◌}
use Rattle.run_statement.specs.Edit.{body_went}
use Rattle.run_query.specs.Ask.{pool}
use lib.ListN.{length}
use Rattle.forest_rows.specs.Each.{Looping}
use Prim.Native.Nat.{◌+◌, ◌*◌}
use Rattle.run_statement.proofs.+statements.Given as goal

abbrev pub decreases-call : goal.decreases-call
decreases-call l = 4 * l.depth + 1

abbrev pub decreases-children : goal.decreases-children
decreases-children l = 4 * l.depth + 1

abbrev pub decreases-choose : goal.decreases-choose
decreases-choose l = 4 * l.depth + 1

abbrev pub decreases-iter : goal.decreases-iter
decreases-iter l = 4 * l.depth + 2

abbrev pub invariant-iter-loop-at : goal.invariant-iter-loop-at
invariant-iter-loop-at l = (Looping (body_went l.s l.initial.rows l.scope l.depth l.body) (pool l.s) l.initial.rows l.rows l.initial.links.left.used l.focus l.initial.links.left.purse.left l.at l.links.root l.links.left.used l.links.left.purse.left) × (length l.rows ≡ length l.initial.rows)

abbrev pub decreases-iter-loop-at : goal.decreases-iter-loop-at
decreases-iter-loop-at l = l.at

abbrev pub decreases-put_left : goal.decreases-put_left
decreases-put_left l = 4 * l.depth + 1

abbrev pub decreases-let_in : goal.decreases-let_in
decreases-let_in l = 4 * l.depth + 1

abbrev pub decreases-pair : goal.decreases-pair
decreases-pair l = 4 * l.depth + 1

abbrev pub decreases-put_right : goal.decreases-put_right
decreases-put_right l = 4 * l.depth + 1

abbrev pub decreases-snapshot : goal.decreases-snapshot
decreases-snapshot l = 4 * l.depth + 1

abbrev pub decreases-statement : goal.decreases-statement
decreases-statement l = 4 * l.depth

abbrev pub decreases-test : goal.decreases-test
decreases-test l = 4 * l.depth + 1

abbrev pub decreases-turn : goal.decreases-turn
decreases-turn l = 4 * l.depth + 1
