-- Bundles (document 01, "Bundles: blocks of 512 bytes"): the one rule by which a sheet is written into blocks, and the five tests of a
-- bundle that is read.
use Rattle.std.specs.Prelude.{ℕ, zero, suc, ◌+◌, ◌*◌, ◌-◌, ◌/◌, ◌%◌, Bool, true, ◌&&◌, List, [], ◌∷◌, ◌++◌, eqb, leb, length, take, drop}
use Rattle.meaning.specs.Limits.{block_words, payload_words, most_blocks, check_modulus}
use Rattle.meaning.specs.Tests.{every}
use Rattle.meaning.specs.Words.{word_at, word_bytes}
use Rattle.meaning.specs.Sheet.{need}

-- the sum of the first n words of b
unfoldable pub word_sum : List ℕ → ℕ → ℕ
word_sum b zero = 0
word_sum b (suc n) = word_sum b n + word_at b n

abbrev pub check_word : List ℕ → ℕ
check_word b = word_sum b (block_words - 1) % check_modulus

-- ---- writing

-- the first n bytes, 0 past the end
unfoldable pub filled : ℕ → List ℕ → List ℕ
filled zero b = []
filled (suc n) [] = 0 ∷ filled n []
filled (suc n) (x ∷ b) = x ∷ filled n b

-- block number k of the payload p: its number, 254 words, and its check
abbrev pub block_front : ℕ → List ℕ → List ℕ
block_front k p = word_bytes k ++ filled (2 * payload_words) p

abbrev pub block : ℕ → List ℕ → List ℕ
block k p = block_front k p ++ word_bytes (check_word (block_front k p))

-- m blocks of the payload p, numbered from k on
unfoldable pub blocks : ℕ → ℕ → List ℕ → List ℕ
blocks zero k p = []
blocks (suc m) k p = block k p ++ blocks m (suc k) (drop (2 * payload_words) p)

-- the sheet that a slice begins with: what its counts ask for
abbrev pub sheet_bytes : List ℕ → List ℕ
sheet_bytes s = take (need s) s

-- as many blocks as the payload needs
abbrev pub blocks_for : ℕ → ℕ
blocks_for n = (n + (2 * payload_words - 1)) / (2 * payload_words)

abbrev pub bundle_of : List ℕ → List ℕ
bundle_of s = blocks (blocks_for (need s)) 1 (sheet_bytes s)

-- ---- reading

abbrev pub block_bytes : ℕ
block_bytes = 2 * block_words

abbrev pub block_count : List ℕ → ℕ
block_count b = length b / block_bytes

-- block k, counted from 1
abbrev pub block_at : List ℕ → ℕ → List ℕ
block_at b k = take block_bytes (drop (block_bytes * (k - 1)) b)

-- the payload of m blocks
unfoldable pub payload : ℕ → List ℕ → List ℕ
payload zero b = []
payload (suc m) b = take (2 * payload_words) (drop 2 b) ++ payload m (drop block_bytes b)

abbrev pub payload_of : List ℕ → List ℕ
payload_of b = payload (block_count b) b

abbrev pub sheet_in : List ℕ → List ℕ
sheet_in b = sheet_bytes (payload_of b)

-- the five tests. Its length: whole blocks, at least one and at most 88
abbrev pub length_ok : List ℕ → Bool
length_ok b = eqb (length b % block_bytes) 0 && leb 1 (block_count b) && leb (block_count b) most_blocks

-- each block has its number
abbrev pub numbers_ok : List ℕ → Bool
numbers_ok b = every (λ k. eqb (word_at (block_at b k) 0) k) (block_count b)

-- each block has its check
abbrev pub checks_ok : List ℕ → Bool
checks_ok b = every (λ k. eqb (word_at (block_at b k) (block_words - 1)) (check_word (block_at b k))) (block_count b)

-- the blocks are as many as the counts need
abbrev pub count_ok : List ℕ → Bool
count_ok b = eqb (block_count b) (blocks_for (need (payload_of b)))

unfoldable pub all_zero : List ℕ → Bool
all_zero [] = true
all_zero (x ∷ b) = eqb x 0 && all_zero b

-- padding is 0
abbrev pub padding_ok : List ℕ → Bool
padding_ok b = all_zero (drop (need (payload_of b)) (payload_of b))

abbrev pub framed : List ℕ → Bool
framed b = length_ok b && numbers_ok b && checks_ok b && count_ok b && padding_ok b
