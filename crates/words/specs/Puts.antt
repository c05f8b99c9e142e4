-- What a store leaves: a word put into bytes.
use Rattle.std.specs.Prelude.{List, ℕ, ◌+◌, ◌*◌, ◌/◌, ◌%◌, set}

-- the bytes b with word i set to v
abbrev pub put_word : List ℕ → ℕ → ℕ → List ℕ
put_word b i v = set (set b (2 * i) (v % 256)) (2 * i + 1) (v / 256 % 256)
