-- `within_pairs::pending::Pairs::new` meets its contract.
use Rattle.within_pairs.specs.Queue.{queue_none}
use Rattle.within_pairs.proofs.pending.Pairs.new.Goals as goal

pub invariant_of-result : goal.invariant_of-result
invariant_of-result c = queue_none
