-- `shape_scope::hand_bodies` meets its contract. The loop's invariant: main has no variable, and the bodies below c see their parameters (proofs/Loops.antt).
use Rattle.shape_scope.proofs.Loops.{Bodies}
use Rattle.meaning.specs.Sheet.{script_of}
use Rattle.shape_scope.proofs.hand_bodies.Given as goal

abbrev pub invariant-loop-c : goal.invariant-loop-c
invariant-loop-c l = Bodies (script_of l.s) l.c l.scopes
