-- `within_pairs::pending::Pairs::forget` meets its contract.
use Rattle.within_pairs.specs.Queue.{queue_forgets}
use Rattle.within_pairs.proofs.pending.Pairs.forget.Goals as goal

pub invariant_of-self : goal.invariant_of-self
invariant_of-self c = rw (c.fill.ensures.after (λ y e. e), c.self.told.1) (queue_forgets c.self.invariant)

pub returns : goal.returns
returns c = rw (c.fill.ensures.after (λ y e. e), c.self.told.1, ← c.self.view_is)
