-- `shape_scope::queries_scoped` meets its contract. The loop's invariant: the queries above i pass, and have handed their scopes down (proofs/Loops.antt).
use Rattle.shape_scope.specs.Scopes.{seen, Queries}
use Rattle.meaning.specs.Sheet.{script_of}
use Prim.Native.Nat.{◌≤◌}
use Rattle.shape_scope.proofs.queries_scoped.Given as goal

abbrev pub invariant-loop-i : goal.invariant-loop-i
invariant-loop-i l = (l.i ≤ (script_of l.s).queries) × Queries (script_of l.s) l.i (seen l.scopes)
