-- `shape_users::tally::Tally::new` meets its contract: a tally of nothing counts no user.
use Rattle.shape_users.proofs.Counts.{fresh}
use Rattle.shape_users.proofs.tally.Tally.new.Goals as goal

pub invariant_of-result : goal.invariant_of-result
invariant_of-result c = record { small = fresh }
