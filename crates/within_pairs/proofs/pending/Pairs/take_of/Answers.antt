-- `within_pairs::pending::Pairs::take_of` meets its contract.
use Rattle.within_pairs.specs.Queue.{taken}
use Rattle.within_pairs.proofs.pending.Pairs.take_of.Goals as goal

pub returns : goal.returns
returns c = rw (← c.self.view_is) (taken c.self.invariant (rw (← c.self.view_is) at c.requires.1) c.requires.0 c.lowest_both-b.ensures c.remove.ensures c.unflag.ensures c.add.ensures)
