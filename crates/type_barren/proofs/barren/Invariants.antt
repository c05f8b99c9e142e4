-- `type_barren::barren` meets its contract. The loop's invariant: each mark is earned, and so many names are marked (specs/Marks, `Turned`).
use Prim.Native.Nat.{◌-◌}
use Rattle.type_barren.specs.Marks.{Turned}
use Rattle.type_barren.proofs.barren.Given as goal

abbrev pub invariant-loop-known : goal.invariant-loop-known
invariant-loop-known l = Turned l.s l.marked l.known

abbrev pub decreases-loop-known : goal.decreases-loop-known
decreases-loop-known l = l.names - l.known
