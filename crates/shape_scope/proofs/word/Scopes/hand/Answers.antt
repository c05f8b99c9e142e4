-- `shape_scope::word::Scopes::hand` meets its contract: one word is stored, or the row is past the table (specs/Hands.antt).
use native.Mathlib.Omega.{arith}
use Rattle.shape_scope.specs.Hands.{hand_store, hand_past}
use Rattle.shape_scope.specs.Scopes.{scope_of}
use Rattle.shape_scope.proofs.word.Scopes.hand.Goals as goal

pub returns-then-r-lt-ROWS : goal.returns-then-r-lt-ROWS
returns-then-r-lt-ROWS c = rw (← c.self.view_is) (hand_store c.args.r c.args.x.word c.self.invariant (omega arith))

pub returns-else-r-lt-ROWS : goal.returns-else-r-lt-ROWS
returns-else-r-lt-ROWS c = hand_past c.args.r (scope_of c.args.x.word) (omega (arith, c.if-r-lt-ROWS.false))
