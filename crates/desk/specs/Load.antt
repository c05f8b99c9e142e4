-- The forest's rows, copied to the front of the working rows, read there as they do in the sheet.
use Rattle.std.specs.Prelude.{ℕ, ◌+◌, ◌*◌, ◌-◌, ◌≤◌, ◌<◌, ◌≡◌, refl, List, ◌++◌, length, get_or, take, drop}
use Rattle.std.proofs.Common.{sym, ap, ◌∙◌, arith, length-drop, length-take-le, get_or-take, get_or-drop}
use Rattle.std.proofs.Math.ListN.{get_or-append}
use Rattle.meaning.specs.Words.{word_at}
use Rattle.meaning.specs.Sheet.{rows_of, rows_at, grove_of}
use Rattle.meaning.specs.Laws.Tests.{in_table_lem}
use Rattle.meaning.specs.Laws.Rows.{SameRows}
use Rattle.meaning.specs.Theorems.ReadBack.{lent_row}

-- the rows of the sheet's forest stand in lent rows
abbrev pub Loaded : List ℕ → List ℕ → Type 0
Loaded s work = SameRows (grove_of s).row (lent_row work) (grove_of s).rows

-- ---- a copy of the bytes, with what lay past it

module _ (s part rest : List ℕ) (size from : ℕ) (fits : from + size ≤ length s) (is : part ≡ take size (drop from s)) where
  byte_copied : (j : ℕ) → j < size → get_or (part ++ rest) j 0 ≡ get_or s (from + j) 0
  byte_copied j h =
      let long : length part ≡ size = ap length is ∙ length-take-le size (drop from s) (omega (arith, length-drop from s)) in
      get_or-append part rest 0 j (omega arith) ∙ ap (λ (l : List ℕ). get_or l j 0) is ∙ get_or-take size (drop from s) j 0 h ∙ get_or-drop from s j 0

  word_copied : (at i : ℕ) → from ≡ 2 * at → 2 * i + 1 < size → word_at s (at + i) ≡ word_at (part ++ rest) i
  word_copied at i e h =
      let low : 2 * (at + i) ≡ from + 2 * i = omega arith in
      let high : 2 * (at + i) + 1 ≡ from + (2 * i + 1) = omega arith in
      sym (rw (byte_copied (2 * i) (omega arith), byte_copied (2 * i + 1) h, high, low))

pub load_rows : (s part rest : List ℕ) → 2 * rows_at s + 8 * rows_of s ≤ length s → part ≡ take (8 * (grove_of s).rows) (drop (2 * rows_at s) s) → Loaded s (part ++ rest)
unfolding grove_of
load_rows s part rest fits is r p q =
    let word = word_copied s part rest (8 * rows_of s) (2 * rows_at s) fits is (rows_at s) in
    let i = 4 * (r - 1) in
    let one : rows_at s + i + 1 ≡ rows_at s + (i + 1) = omega arith in
    let two : rows_at s + i + 2 ≡ rows_at s + (i + 2) = omega arith in
    let three : rows_at s + i + 3 ≡ rows_at s + (i + 3) = omega arith in
    rw (in_table_lem (rows_of s) r p q, one, two, three, word i refl (omega arith), word (i + 1) refl (omega arith), word (i + 2) refl (omega arith), word (i + 3) refl (omega arith))
