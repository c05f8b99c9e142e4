-- Words: 16 bits, low byte first, in lists of bytes. Lent slices counted in rows (document 01, "Tables": "a lent slice counts whole rows
-- only, and at most 65,535").
use Rattle.std.specs.Prelude.{ℕ, ◌+◌, ◌*◌, ◌/◌, ◌%◌, min, List, [], ◌∷◌, ◌++◌, get_or, length, replicate}
use Rattle.meaning.specs.Limits.{most_lent, row_words}

-- word i of the bytes b, counted from 0; 0 past the end
abbrev pub word_at : List ℕ → ℕ → ℕ
word_at b i = get_or b (2 * i) 0 + 256 * get_or b (2 * i + 1) 0

-- the two bytes of a word
abbrev pub word_bytes : ℕ → List ℕ
word_bytes w = w % 256 ∷ w / 256 % 256 ∷ []

-- words as bytes
unfoldable pub bytes_of : List ℕ → List ℕ
bytes_of [] = []
bytes_of (w ∷ l) = word_bytes w ++ bytes_of l

-- the rows that a lent slice counts for
abbrev pub rows_lent : List ℕ → ℕ
rows_lent b = min (length b / (2 * row_words)) most_lent

-- a lent slice, all zero
abbrev pub zeroed : List ℕ → List ℕ
zeroed b = replicate (length b) 0
