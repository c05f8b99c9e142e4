use Rattle.std.proofs.Common.{◌∙◌}
use Rattle.within_pairs.specs.Meet.{meeting_more, no_rival}
use Rattle.within_pairs.proofs.pending.Pairs.meet.Goals as goal

pub returns-then-b-ge-PLACES-clause-outcome : goal.returns-then-b-ge-PLACES-clause-outcome
returns-then-b-ge-PLACES-clause-outcome c = rw c.loop-a.invariant.kept at (no_rival _ _ _ _ _ _ c.loop-a.invariant.met c.loop-a-test.true (rw c.from-like.ensures at c.lowest_both-b.ensures) c.if-b-ge-PLACES.true)

pub loop-a-preserved : goal.loop-a-preserved
loop-a-preserved c = record {
  met = rw (← c.mark.ensures.kept) at (meeting_more _ _ _ _ _ _ c.loop-a.invariant.met c.loop-a-test.true (rw c.from-like.ensures at c.lowest_both-b.ensures) c.if-b-ge-PLACES.false c.mark.ensures.marked c.lowest_both-a-in-loop-a.ensures);
  kept = c.mark.ensures.kept ∙ c.loop-a.invariant.kept;
}
