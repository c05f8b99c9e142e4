-- Rows replaced in lent bytes: one row's eight stores, and two stretches put together.
use Rattle.std.specs.Prelude.{ℕ, suc, ◌+◌, ◌*◌, ◌-◌, ◌/◌, ◌%◌, ◌≤◌, ◌≡◌, refl, List, [], ◌∷◌, ◌++◌, length, take, drop}
use Rattle.std.proofs.Common.{sym, ap, ◌∙◌, append_assoc, append-nil, arith, length-append, take-append-drop, length-take-le, take-take, take_at, drop_at, drop-drop}
use Rattle.std.proofs.lemmas.List.{take-append-le}
use Rattle.std.proofs.lemmas.List.Edits.{sets-eq}
use Rattle.meaning.specs.Words.{bytes_of}
use Rattle.meaning.specs.Sheet.{Cells}
use Rattle.meaning.specs.Forest.{row_bytes}
use Rattle.words.specs.Puts.{put_word}

-- the rows behind row a, up to row b, are these; all else is as it was
abbrev pub replaced : ℕ → List Cells → ℕ → List ℕ → List ℕ
replaced a rows b old = take (8 * a) old ++ row_bytes rows ++ drop (8 * b) old

bytes_append : (l m : List Cells) → row_bytes (l ++ m) ≡ row_bytes l ++ row_bytes m
unfolding row_bytes
bytes_append [] m = refl
bytes_append (c ∷ l) m = rw (bytes_append l m, append_assoc)

bytes_length : (l : List Cells) → length (row_bytes l) ≡ 8 * length l
unfolding row_bytes bytes_of
bytes_length [] = refl
bytes_length (c ∷ l) = let e = bytes_length l in omega arith

pub replaced_none : (a : ℕ) (old : List ℕ) → old ≡ replaced a [] a old
unfolding row_bytes
replaced_none a old = sym (rw append-nil (take-append-drop (8 * a) old))

-- the rows in front of a stretch that is written
pub replaced_before : (a : ℕ) (l : List Cells) (b : ℕ) (m : List Cells) (c : ℕ) (old : List ℕ)
    → a ≤ b → 8 * b ≤ length old → replaced a l b (replaced b m c old) ≡ replaced a (l ++ m) c old
replaced_before a l b m c old ab h =
    let front = length-take-le (8 * b) old h in
    let tail = row_bytes m ++ drop (8 * c) old in
    let group : replaced b m c old ≡ take (8 * b) old ++ tail = append_assoc (take (8 * b) old) (row_bytes m) (drop (8 * c) old) in
    let whole : take (8 * a) (replaced b m c old) ≡ take (8 * a) old =
    ap (take (8 * a)) group ∙ take-append-le (8 * a) (take (8 * b) old) tail (omega arith) ∙ take-take (8 * a) (8 * b) old (omega arith) in
    let behind : drop (8 * b) (replaced b m c old) ≡ tail = ap (drop (8 * b)) group ∙ drop_at (take (8 * b) old) tail (8 * b) front in
    rw (whole, behind, bytes_append l m) (simp append_assoc)

-- the rows behind a stretch that is written
pub replaced_behind : (a : ℕ) (l : List Cells) (b : ℕ) (m : List Cells) (c : ℕ) (old : List ℕ)
    → a + length l ≡ b → b ≤ c → 8 * b ≤ length old → replaced b m c (replaced a l b old) ≡ replaced a (l ++ m) c old
replaced_behind a l b m c old ab bc h =
    let head = take (8 * a) old ++ row_bytes l in
    let front : length head ≡ 8 * b = simp length-append (omega (arith, length-take-le (8 * a) old (omega arith), bytes_length l)) in
    let whole : take (8 * b) (replaced a l b old) ≡ head = take_at head (drop (8 * b) old) (8 * b) front in
    let more : 8 * b + (8 * c - 8 * b) ≡ 8 * c = omega arith in
    let rest : drop (8 * c) (replaced a l b old) ≡ drop (8 * c) old =
    ap (λ (n : ℕ). drop n (replaced a l b old)) (sym more)
    ∙ sym (drop-drop (8 * c - 8 * b) (8 * b) (replaced a l b old))
    ∙ ap (drop (8 * c - 8 * b)) (drop_at head (drop (8 * b) old) (8 * b) front)
    ∙ drop-drop (8 * c - 8 * b) (8 * b) old
    ∙ ap (λ (n : ℕ). drop n old) more in
    rw (whole, rest, bytes_append l m) (simp append_assoc)

-- ---- one row: eight stores

-- what four words written from word 4 * n on leave
pub eight_stores : (n k p q r : ℕ) (old : List ℕ) → 8 * (n + 1) ≤ length old
    → put_word (put_word (put_word (put_word old (4 * n) k) (4 * n + 1) p) (4 * n + 2) q) (4 * n + 3) r
    ≡ replaced n (record { kind = k; p = p; q = q; r = r } ∷ []) (n + 1) old
unfolding row_bytes bytes_of
eight_stores n k p q r old h =
    let i0 : 2 * (4 * n) ≡ 8 * n = omega arith in
    let i1 : 8 * n + 1 ≡ suc (8 * n) = omega arith in
    let i2 : 2 * (4 * n + 1) ≡ suc (suc (8 * n)) = omega arith in
    let i3 : suc (suc (8 * n)) + 1 ≡ suc (suc (suc (8 * n))) = omega arith in
    let i4 : 2 * (4 * n + 2) ≡ suc (suc (suc (suc (8 * n)))) = omega arith in
    let i5 : suc (suc (suc (suc (8 * n)))) + 1 ≡ suc (suc (suc (suc (suc (8 * n))))) = omega arith in
    let i6 : 2 * (4 * n + 3) ≡ suc (suc (suc (suc (suc (suc (8 * n)))))) = omega arith in
    let i7 : suc (suc (suc (suc (suc (suc (8 * n)))))) + 1 ≡ suc (suc (suc (suc (suc (suc (suc (8 * n))))))) = omega arith in
    let past : 8 * (n + 1) ≡ 8 * n + 8 = omega arith in
    let bytes = k % 256 ∷ k / 256 % 256 ∷ p % 256 ∷ p / 256 % 256 ∷ q % 256 ∷ q / 256 % 256 ∷ r % 256 ∷ r / 256 % 256 ∷ [] in
    rw (i6, i7, i4, i5, i2, i3, i0, i1, past) (sets-eq bytes old (8 * n) (omega arith))
