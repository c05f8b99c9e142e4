-- Laws of words in lists of bytes: what is written as words reads back as words, and two bytes are the bytes of their word. Zeros are 0, within and past the end.
use Rattle.std.specs.Prelude.{ℕ, zero, suc, ◌+◌, ◌*◌, ◌/◌, ◌%◌, ◌<◌, ◌≡◌, refl, List, [], ◌∷◌, ◌++◌, get_or, length, replicate}
use Rattle.std.proofs.Common.{arith, get_or-append-add}
use Rattle.meaning.specs.Words.{word_at, word_bytes}

-- every byte is one; past the end stands 0
abbrev pub Bytes : List ℕ → Type 0
Bytes b = (i : ℕ) → get_or b i 0 < 256

pub zeros : (n i : ℕ) → ◌≡◌ {A = ℕ} (get_or (replicate n 0) i 0) 0
zeros zero i = refl
zeros (suc n) zero = refl
zeros (suc n) (suc i) = zeros n i

pub word_of_bytes : (w : ℕ) → w < 65536 → word_at (word_bytes w) 0 ≡ w
word_of_bytes w h = omega arith

pub bytes_of_word : (x y : ℕ) → x < 256 → y < 256 → word_bytes (x + 256 * y) ≡ x ∷ y ∷ []
bytes_of_word x y p q =
    let low : (x + 256 * y) % 256 ≡ x = omega arith in
    let high : (x + 256 * y) / 256 ≡ y = omega arith in
    let kept : y % 256 ≡ y = omega arith in
    rw (low, high, kept)

-- words go by their two bytes
pub word_same : (a b : List ℕ) (n i : ℕ) → ((j : ℕ) → j < n → get_or a j 0 ≡ get_or b j 0) → 2 * i + 1 < n → word_at a i ≡ word_at b i
word_same a b n i h l = rw (h (2 * i) (omega arith), h (2 * i + 1) (omega arith))

pub word_past : (a b : List ℕ) (n i : ℕ) → length a ≡ 2 * n → word_at (a ++ b) (n + i) ≡ word_at b i
word_past a b n i e =
    let low : 2 * (n + i) ≡ length a + 2 * i = omega arith in
    let high : 2 * (n + i) + 1 ≡ length a + (2 * i + 1) = omega arith in
    rw (high, low, get_or-append-add a b (2 * i) 0, get_or-append-add a b (2 * i + 1) 0)
