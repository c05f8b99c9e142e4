-- `shape_users::tally::all_one` meets its contract: its closure tells whether a row has one user.
use Rattle.std.proofs.Common.{refl, rules}
use Rattle.shape_kinds.specs.Each.{each_row}
use Rattle.shape_users.proofs.tally.all_one.Goals as goal

pub returns : goal.returns
returns c = each_row _ _ _ _ _ refl c.all.ensures.ran (λ x b q k. search rules)
