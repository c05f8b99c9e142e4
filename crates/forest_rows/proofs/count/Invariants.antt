-- `forest_rows::count` meets its contract: what is counted and what is still to be counted make the whole.
use Prim.Native.Nat.{ℕ, ◌≤◌, ◌+◌}
use mathlib.Core.Path.{◌≡◌}
use Rattle.meaning.specs.Forest.{count, forest_at}
use Rattle.meaning.specs.Theorems.ReadBack.{lent_row}
use Rattle.forest_rows.specs.Rows.{chosen}
use Rattle.forest_rows.proofs.count.Given as goal

abbrev pub invariant-loop-at : goal.invariant-loop-at
invariant-loop-at l = (l.n + l.at ≤ l.root) × ((byte : ℕ → ℕ) → l.n + count (chosen l.which (forest_at byte (lent_row l.rows) l.at)) ≡ count (chosen l.which (forest_at byte (lent_row l.rows) l.root)))

abbrev pub decreases-loop-at : goal.decreases-loop-at
decreases-loop-at l = l.at
