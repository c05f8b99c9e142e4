use Prim.Native.Nat.{◌+◌, ◌-◌}
use mathlib.Core.Path.{◌≡◌}
use native.Mathlib.Omega.{arith}
use Rattle.type_places.specs.Behind.{ready, falling_more, wires}
use Rattle.type_places.proofs.behinds.Goals as goal

pub fall-requires-clause-ready : goal.fall-requires-clause-ready
fall-requires-clause-ready c = let e : c.loop-i.i - 1 + 1 ≡ c.loop-i.i = omega arith in
    rw e (ready c.requires.rows c.args.root.now c.args.top c.requires.top_le_n.0 c.requires.free.0 c.loop-i.i (omega arith) c.loop-i.auto.i c.loop-i.invariant (rw e at c.end.ensures))

pub loop-i-preserved : goal.loop-i-preserved
loop-i-preserved c = let e : c.loop-i.i - 1 + 1 ≡ c.loop-i.i = omega arith in
    falling_more c.requires.rows c.args.root.now c.args.top c.requires.top_le_n.0 c.requires.free.0 c.loop-i.i (omega arith) c.loop-i.auto.i c.loop-i.invariant
    (rw e at c.end.ensures) (rw e at c.fall.ensures)

pub returns : goal.returns
returns c = wires c.requires.rows c.args.root.now c.args.top c.requires.top_le_n.0 c.requires.free.0 c.loop-i.invariant (λ r p q. c.requires.top_le_n.1 r p (omega arith))
