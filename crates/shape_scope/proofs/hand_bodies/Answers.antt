use Rattle.shape_scope.proofs.Loops.{bodies_none, bodies_more, bodies_all, Bodies}
use Rattle.shape_scope.proofs.Once.{facts}
use Rattle.shape_scope.specs.Scopes.{scope_of}
use Rattle.meaning.specs.Shape.{parameters_scope}
use Rattle.meaning.specs.Kinds.{present}
use Rattle.meaning.specs.Sheet as meaning
use Rattle.meaning.specs.Sheet.{script_of}
use native.Mathlib.Omega.{arith}
use Prim.Native.Nat.{◌+◌}
use mathlib.Core.Path.{ap, ◌∙◌}
use Rattle.shape_scope.proofs.hand_bodies.Goals.{After-hand}
use Rattle.shape_scope.proofs.hand_bodies.Goals as goal

pub loop-c-init : goal.loop-c-init
loop-c-init c = bodies_none (script_of c.args.s.now) c.requires.fresh

-- one body more has its scope
more : (c : After-hand) → Bodies (script_of c.args.s.now) (c.loop-c.c + 1) c.hand.new.self
more c =
    let row = c.procedure_row-row.ensures in
    bodies_more (script_of c.args.s.now) (facts c.args.s.now c.requires.before) c.loop-c.c
    (omega arith) (omega (arith, c.procedures-c-end.ensures.is)) c.loop-c.invariant c.procedure_row-row.result.body
    (scope_of c.parameters.result.word) (ap (λ (p : meaning.Procedure). p.body) row)
    (c.parameters.ensures ∙ ap (λ (p : meaning.Procedure). parameters_scope (present p.first p.second)) row) c.hand.ensures

pub loop-c-preserved : goal.loop-c-preserved
loop-c-preserved c = more (goal.at.loop-c-preserved c).After-hand

pub returns-2 : goal.returns-2
returns-2 c = bodies_all (script_of c.args.s.now) (omega (arith, c.procedures-c-end.ensures.is)) (more (goal.at.returns-2 c).After-hand)
