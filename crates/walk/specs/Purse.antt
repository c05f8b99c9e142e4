-- What taking units from a purse gives, and what each arm of a `match` or a `?` on it says.
use Rattle.std.specs.Prelude.{ℕ, ◌+◌, ◌<◌, ◌≡◌, Result, Ok, Err}
use Rattle.std.proofs.Common.{subst}
use Rattle.walk.specs.declared.Purse.{Purse}
use Rattle.walk.specs.declared.Spent.{Spent}

-- n units less, or Spent where the purse holds fewer
abbrev pub PaidBy : ℕ → ℕ → Result Purse Spent → Type 0
PaidBy left n (Ok p) = p.left + n ≡ left
PaidBy left n (Err _) = left < n

pub record Paid (left n : ℕ) (a : Result Purse Spent) : Type 0 where
  pub by : PaidBy left n a

pub paid_left : {l n : ℕ} {a : Result Purse Spent} {p : Purse} → a ≡ Ok p → Paid l n a → p.left + n ≡ l
paid_left {l} {n} e m = subst (PaidBy l n) e m.by

pub paid_spent : {l n : ℕ} {a : Result Purse Spent} {e : Spent} → a ≡ Err e → Paid l n a → l < n
paid_spent {l} {n} e m = subst (PaidBy l n) e m.by
