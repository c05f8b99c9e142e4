use Prim.Native.Nat.{◌+◌, ◌*◌}
use Rattle.check_statement.proofs.+statements.Given as goal

abbrev pub decreases-children : goal.decreases-children
decreases-children l = 70000 * l.depth + 1

abbrev pub decreases-choose : goal.decreases-choose
decreases-choose l = 70000 * l.depth + 2

abbrev pub decreases-either : goal.decreases-either
decreases-either l = 70000 * l.depth + 1

abbrev pub decreases-put_left : goal.decreases-put_left
decreases-put_left l = 70000 * l.depth + 1

abbrev pub decreases-let_in : goal.decreases-let_in
decreases-let_in l = 70000 * l.depth + 1

abbrev pub decreases-pair : goal.decreases-pair
decreases-pair l = 70000 * l.depth + 1

abbrev pub decreases-parts : goal.decreases-parts
decreases-parts l = 70000 * l.depth + 2 + l.of

abbrev pub decreases-put_right : goal.decreases-put_right
decreases-put_right l = 70000 * l.depth + 1

abbrev pub decreases-snapshot : goal.decreases-snapshot
decreases-snapshot l = 70000 * l.depth + 1

abbrev pub decreases-statement : goal.decreases-statement
decreases-statement l = 70000 * l.depth

abbrev pub decreases-test : goal.decreases-test
decreases-test l = 70000 * l.depth + 1
