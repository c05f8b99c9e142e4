-- A word past the end of its bytes reads as 0, and one that is cut in half as its low byte.
use Rattle.std.specs.Prelude.{◌≡◌, List, ℕ, ◌+◌, ◌*◌, ◌≤◌, length, get_or}
use Rattle.std.proofs.Common.{arith}
use Rattle.std.proofs.Math.ListN.{get_or-eq_default}
use Rattle.meaning.specs.Words.{word_at}

pub past_end : (b : List ℕ) (i : ℕ) → length b ≤ 2 * i → word_at b i ≡ 0
past_end b i h = let low = get_or-eq_default b 0 {n = 2 * i} h in let high = get_or-eq_default b 0 {n = 2 * i + 1} (omega arith) in omega arith

pub cut : (b : List ℕ) (i : ℕ) → length b ≤ 2 * i + 1 → word_at b i ≡ get_or b (2 * i) 0
cut b i h = let high = get_or-eq_default b 0 {n = 2 * i + 1} h in omega arith
