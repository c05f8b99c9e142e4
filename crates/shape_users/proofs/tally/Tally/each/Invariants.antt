-- `shape_users::tally::Tally::each` meets its contract: after i turns the first i rows are counted.
use Rattle.std.proofs.Common.{ℕ}
use Rattle.meaning.specs.Tests.{total}
use Rattle.shape_users.specs.Tally.{Added}
use Rattle.shape_users.proofs.tally.Tally.each.Given as goal

abbrev pub invariant-loop-i : goal.invariant-loop-i
invariant-loop-i g l = (amount : ℕ → ℕ → ℕ) → ((i : ℕ) (t u : _) → goal.F-post g l.count t i tt u → Added t.now.counts u.now.counts (λ r. amount r i))
    → Added l.initial.self.counts l.self.counts (λ r. total (amount r) l.i)
