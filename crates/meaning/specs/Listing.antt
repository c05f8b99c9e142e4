-- The listing that the program `apply` prints: question, number (0 is done), units, but for fit the row of the fault (0 is none, or the
-- top);
-- run adds the root; then each row and its four words.
-- A refusal ends the listing with its line, without root; "load N" for 1 to 4. Lines end in a line feed.
use Rattle.std.specs.Prelude.{ℕ, zero, suc, ◌+◌, ◌*◌, ◌/◌, ◌%◌, ◌≡◌, true, false, List, [], ◌∷◌, ◌++◌, ltb, replicate}
use Prim.Native.String.{String, [] as end, ◌∷◌ as ◌then◌}
use Prim.Native.Char.{code}
use Rattle.meaning.specs.Limits.{row_words, program_work, program_result}
use Rattle.meaning.specs.Words.{word_at}
use Rattle.meaning.specs.Sheet.{script_of}
use Rattle.meaning.specs.Bundle.{framed, sheet_in}
use Rattle.meaning.specs.Reply.{Refusal, block, done, refused, refusal_code, Loads, Checked, Fitted, Ran}

-- ---- text

-- a text's characters by number
unfoldable pub codes : String → List ℕ
codes end = []
codes (c then s) = code c ∷ codes s

-- a number in decimal, of at most k + 1 digits
unfoldable pub digits : ℕ → ℕ → List ℕ
digits zero n = (48 + n % 10) ∷ []
digits (suc k) n = elim (ltb n 10) [ true ↦ (48 + n) ∷ [] | false ↦ digits k (n / 10) ++ (48 + n % 10) ∷ [] ]

-- numbers with a space before each, and the line's end
unfoldable pub fields : List ℕ → List ℕ
fields [] = 10 ∷ []
fields (n ∷ l) = 32 ∷ digits 8 n ++ fields l

abbrev pub line : String → List ℕ → List ℕ
line word l = codes word ++ fields l

-- ---- what the program has to tell

pub data Told : Type 0 where
  loaded : Refusal → Told
  check_ended : Refusal → ℕ → Told
  fit_ended : ℕ → Refusal → Told
  run_ended : ℕ → Refusal → ℕ → Told
  all_done : ℕ → ℕ → ℕ → List ℕ → Told

abbrev pub number : Refusal → ℕ
number r = (refusal_code r).number

-- the row that Unfit carries
abbrev pub carried : Refusal → ℕ
carried r = (refusal_code r).a

-- the lines of n result rows, row and four words
unfoldable pub row_lines : List ℕ → ℕ → List ℕ
row_lines b zero = []
row_lines b (suc n) = row_lines b n ++ digits 8 (suc n)
    ++ fields (word_at b (row_words * n) ∷ word_at b (row_words * n + 1)
    ∷ word_at b (row_words * n + 2) ∷ word_at b (row_words * n + 3) ∷ [])

unfoldable pub listing : Told → List ℕ
listing (loaded r) = line "load" (number r ∷ [])
listing (check_ended r u) = line "check" (number r ∷ u ∷ [])
listing (fit_ended u r) = line "check" (0 ∷ u ∷ []) ++ line "fit" (number r ∷ carried r ∷ [])
listing (run_ended u r v) = line "check" (0 ∷ u ∷ []) ++ line "fit" (0 ∷ 0 ∷ []) ++ line "run" (number r ∷ v ∷ [])
listing (all_done u v root after) = line "check" (0 ∷ u ∷ []) ++ line "fit" (0 ∷ 0 ∷ []) ++ line "run" (0 ∷ v ∷ root ∷ [])
    ++ row_lines after root

-- what the program lends
abbrev pub lent_work : List ℕ
lent_work = replicate (2 * row_words * program_work) 0

abbrev pub lent_result : List ℕ
lent_result = replicate (2 * row_words * program_result) 0

-- what it tells of a bundle: apply's reply, question by question
pub data Tells (b : List ℕ) : Told → Type 0 where
  not_framed : framed b ≡ false → Tells b (loaded block)
  not_loaded : {r : Refusal} → framed b ≡ true → Loads (sheet_in b) (refused r) → Tells b (loaded r)
  not_checked : {r : Refusal} {u : ℕ} → framed b ≡ true → Loads (sheet_in b) done → Checked (sheet_in b) lent_work (refused r) u
      → Tells b (check_ended r u)
  not_fit : {r : Refusal} {u : ℕ} → framed b ≡ true → Checked (sheet_in b) lent_work done u
      → Fitted (sheet_in b) (script_of (sheet_in b)).a (refused r) → Tells b (fit_ended u r)
  not_run : {r : Refusal} {u v root : ℕ} {after : List ℕ} → framed b ≡ true → Checked (sheet_in b) lent_work done u
      → Fitted (sheet_in b) (script_of (sheet_in b)).a done
      → Ran (sheet_in b) lent_work lent_result (refused r) v root after → Tells b (run_ended u r v)
  told : {u v root : ℕ} {after : List ℕ} → framed b ≡ true → Checked (sheet_in b) lent_work done u
      → Fitted (sheet_in b) (script_of (sheet_in b)).a done
      → Ran (sheet_in b) lent_work lent_result done v root after → Tells b (all_done u v root after)
