-- `within_pairs::pending::Pairs::take` meets its contract.
use Rattle.within_pairs.specs.Queue.{lowest_in}
use Rattle.within_pairs.proofs.pending.Pairs.take.Goals as goal

pub take_of-requires : goal.take_of-requires
take_of-requires c = (c.if-a-ge-PLACES.false, rw (← c.self.view_is) (lowest_in c.lowest_both-a.ensures c.if-a-ge-PLACES.false))
