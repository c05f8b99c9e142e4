-- What a block says of itself, its number and its check, and what a loop that stores has stored.
use Rattle.std.specs.Prelude.{Bool, List, ◌++◌, ℕ, ◌+◌, eqb, take, drop}
use Rattle.meaning.specs.Words.{word_at}
use Rattle.meaning.specs.Bundle.{check_word, filled, block_at}

-- block k, from 1, has its number
abbrev pub number_ok : List ℕ → ℕ → Bool
number_ok b k = eqb (word_at (block_at b k) 0) k

-- block k, from 1, has its check
abbrev pub check_ok : List ℕ → ℕ → Bool
check_ok b k = eqb (word_at (block_at b k) 255) (check_word (block_at b k))

-- the bytes d with the first j bytes of p, 0 past its end, from place at on
abbrev pub stored : List ℕ → ℕ → List ℕ → ℕ → List ℕ
stored d at p j = take at d ++ filled j p ++ drop (at + j) d
