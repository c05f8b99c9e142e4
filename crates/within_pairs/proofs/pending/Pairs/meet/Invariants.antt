-- `within_pairs::pending::Pairs::meet` meets its contract. The loop's invariant: the places below a have rivals, and the pairs are marked.
use Rattle.std.proofs.Common.{◌-◌, ◌≡◌}
use Rattle.within_pairs.specs.Meet.{Meeting}
use Rattle.within_pairs.proofs.pending.Pairs.meet.Given as goal

abbrev pub invariant-loop-a : goal.invariant-loop-a
invariant-loop-a l = record {
  met : Meeting l.found.sets.now l.found.set l.wanted.sets.now l.wanted.set l.kin l.same l.initial.self.pending l.self.pending l.self.done l.a;
  kept : l.self.done ≡ l.initial.self.done;
}

abbrev pub decreases-loop-a : goal.decreases-loop-a
decreases-loop-a l = 577 - l.a
