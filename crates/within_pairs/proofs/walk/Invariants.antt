-- `within_pairs::walk` meets its contract. The loop's invariant (`Walking`): pending pairs are reached, done ones are looked at. Fewer pairs are missing each time.
use Rattle.std.specs.Prelude.{◌≡◌}
use Rattle.within_pairs.specs.Queue.{missing}
use Rattle.within_pairs.specs.Sides.{WalkingBy}
use Rattle.within_pairs.proofs.walk.Given as goal

abbrev pub invariant-loop-a : goal.invariant-loop-a
invariant-loop-a l = record { walking : WalkingBy l.found l.wanted l.initial.queue l.queue l.initial.fresh l.fresh; kept : l.fresh.done ≡ l.initial.fresh.done }

abbrev pub decreases-loop-a : goal.decreases-loop-a
decreases-loop-a l = missing l.queue.done
