-- Tests that compute, over the rows 1 to n of a table: how "each row", "exactly one user" and "a row of that table" are written.
use Rattle.std.specs.Prelude.{ℕ, zero, suc, ◌+◌, Bool, true, false, ◌&&◌, ◌||◌, leb}

-- each of the rows 1 to n passes
unfoldable pub every : (ℕ → Bool) → ℕ → Bool
every test zero = true
every test (suc n) = every test n && test (suc n)

-- some row of 1 to n passes
unfoldable pub some : (ℕ → Bool) → ℕ → Bool
some test zero = false
some test (suc n) = some test n || test (suc n)

-- the sum over the rows 1 to n
unfoldable pub total : (ℕ → ℕ) → ℕ → ℕ
total amount zero = 0
total amount (suc n) = total amount n + amount (suc n)

-- r is one of the rows 1 to n
abbrev pub in_table : ℕ → ℕ → Bool
in_table n r = leb 1 r && leb r n
