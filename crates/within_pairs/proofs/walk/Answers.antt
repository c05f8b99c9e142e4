use Rattle.std.proofs.Common.{◌∙◌, refl}
use Rattle.within_pairs.specs.Reach.{walking_none, walk_lost, walking_more}
use Rattle.within_pairs.proofs.walk.Goals as goal

pub loop-a-init : goal.loop-a-init
loop-a-init c = record { walking = walking_none _ _ _ _ _ _ _ _ c.requires.like; kept = refl }

pub returns-then-not-turn-clause-walked : goal.returns-then-not-turn-clause-walked
returns-then-not-turn-clause-walked c = rw (← c.turn.ensures.kept.0) at (walk_lost _ _ _ _ _ _ _ _ c.loop-a.invariant.walking c.in-Some.ensures.taken (rw c.loop-a.invariant.kept at c.turn.ensures.turn) c.if-not-turn.true)

pub loop-a-preserved : goal.loop-a-preserved
loop-a-preserved c = record {
  walking = rw (← c.turn.ensures.kept.0) at (walking_more _ _ _ _ _ _ _ _ c.loop-a.invariant.walking c.in-Some.ensures.taken (rw c.loop-a.invariant.kept at c.turn.ensures.turn) c.requires.tabled c.if-not-turn.false);
  kept = c.turn.ensures.kept.1 ∙ c.loop-a.invariant.kept;
}
