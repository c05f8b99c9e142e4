-- A tally of users, counted up to 2, and what has been added to it.
use Rattle.std.specs.Prelude.{◌≡◌, List, ℕ, ◌+◌, ◌≤◌, min, get_or, length, Bool, Option, Some, None}
use Rattle.std.proofs.Common.{arith}
use Rattle.meaning.specs.Shape.{hit, own, asking}
use Rattle.meaning.specs.Shape as meaning
use Rattle.shape_users.specs.declared.tally.Counted.{Counted}
use Rattle.shape_users.specs.declared.tally.Counted.TheVariants.{Own, Queries}

-- a place for each of the rows 1 to 2,048, and for 0; no count past 2
pub record UpToTwo (t : List ℕ) : Type 0 where
  pub size : length t ≡ 2049
  pub small : (r : ℕ) → r ≤ 2048 → get_or t r 0 ≤ 2

-- of each row r, G r more users
pub record Added (old new : List ℕ) (G : ℕ → ℕ) : Type 0 where
  pub tally : UpToTwo new
  pub counts : (r : ℕ) → r ≤ 2048 → get_or new r 0 ≡ min 2 (get_or old r 0 + G r)

-- how many users of the row r one reference is
abbrev pub refers : Option ℕ → ℕ → ℕ
refers (Some w) r = hit r w
refers None r = 0

-- which uses of a word count
abbrev pub counted : Counted → meaning.Use → Bool
counted Own = own
counted Queries = asking

pub cut_low : (a : ℕ) → a ≤ 2 → a ≡ min 2 (a + 0)
cut_low a h = omega arith

pub nothing : {t : List ℕ} → UpToTwo t → Added t t (λ r. 0)
nothing {t} T = record { tally = T; counts = λ r h. cut_low (get_or t r 0) (T.small r h) }
