-- A sheet that is whole: its bytes are at least those that its counts ask for, so its rows are read without a test for the end.
use Rattle.std.specs.Prelude.{◌≡◌, refl, true, List, ℕ, ◌+◌, ◌*◌, ◌<◌, ◌≤◌, length}
use Rattle.std.proofs.Common.{leb-true, arith}
use Rattle.meaning.specs.Sheet.{need, row3, row4, types_at, types_in_header, queries_at, queries_of, statements_at, statements_of, script_of, sheet_of}
use Rattle.meaning.specs.Shape.{shapely, shaped, whole}
use Rattle.meaning.specs.Reply.{done, Loads}
use Rattle.meaning.specs.Laws.Bools.{and_left}
use Rattle.meaning.specs.Theorems.Sound.Written.{loads_shapely}

pub record Whole (s : List ℕ) : Type 0 where
  pub bytes : need s ≤ length s

-- Shape has seen that it is
pub whole_shaped : (s : List ℕ) → shapely s ≡ true → Whole s
whole_shaped s e = record { bytes = leb-true (need s) (length s) (and_left (whole s) (shaped (sheet_of s)) e) }

pub whole_loads : {s : List ℕ} → Loads s done → Whole s
whole_loads {s} h = whole_shaped s (loads_shapely h)

-- a table of n rows of w words, from word `at` on, lies in the bytes
pub record Lies (s : List ℕ) (at w n : ℕ) : Type 0 where
  pub bytes : 2 * (at + w * n) ≤ length s
  pub low : at < 4194304
  pub few : n < 65536

module _ {s : List ℕ} (w : Whole s) where
  pub header_there : 26 ≤ length s
  header_there = omega (arith, w.bytes)

  pub types_there : 2 * (types_at s + 3 * types_in_header s) ≤ length s
  types_there = omega (arith, w.bytes)

  pub queries_there : 2 * (queries_at s + 4 * queries_of s) ≤ length s
  queries_there = omega (arith, w.bytes)

  pub statements_there : 2 * (statements_at s + 4 * statements_of s) ≤ length s
  statements_there = omega (arith, w.bytes)

pub types_count : (s : List ℕ) → types_in_header s ≡ (script_of s).types
unfolding script_of
types_count s = refl

-- the tables, where the header says
module _ (s : List ℕ) {at n : ℕ} (r : ℕ) where
  pub types_table : at ≡ types_at s → n ≡ types_in_header s → row3 s at n r ≡ (script_of s).type_row r
  unfolding script_of
  types_table e f = rw (e, f)

  pub queries_table : at ≡ queries_at s → n ≡ queries_of s → row4 s at n r ≡ (script_of s).query_row r
  unfolding script_of
  queries_table e f = rw (e, f)

  pub statements_table : at ≡ statements_at s → n ≡ statements_of s → row4 s at n r ≡ (script_of s).statement_row r
  unfolding script_of
  statements_table e f = rw (e, f)
