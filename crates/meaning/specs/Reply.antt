-- Replies: for each call the whole answer, this paper's numbers, carried values, units, and every lent byte afterwards (document 01,
-- "Refusals by number").
-- The order of refusals stands here once: 1, 2, 3, 4, then 12, then the walk, 13 last. Apply goes through the check's order, then 10, then
-- the run's from 12.
use Rattle.std.specs.Prelude.{ℕ, ◌+◌, ◌*◌, ◌<◌, ◌≤◌, ◌≡◌, Bool, true, false, List, [], ◌++◌, leb, length, drop}
use Rattle.meaning.specs.Limits.{row_words}
use Rattle.meaning.specs.Tests.{in_table}
use Rattle.meaning.specs.Words.{rows_lent, zeroed}
use Rattle.meaning.specs.Sheet.{need, sheet_of, script_of, grove_of}
use Rattle.meaning.specs.Forest.{Forest, forest_of, forest_size, rows_of_result, row_bytes}
use Rattle.meaning.specs.Types.{Ty, Of, declared, names_in}
use Rattle.meaning.specs.Walk.{Place, Stop, Verdict, gives, stops, Settles, Settled, settle}
use Rattle.meaning.specs.Walk as walk
use Rattle.meaning.specs.Run.{run_walk}
use Rattle.meaning.specs.Check.{Judged, check_walk}
use Rattle.meaning.specs.Shape.{shapely}
use Rattle.meaning.specs.Faults.{FaultOf}
use Rattle.meaning.specs.Places.{Tie, Untied, LowestBarren, NoneBarren}
use Rattle.meaning.specs.Bundle.{framed, sheet_in, bundle_of, blocks_for, block_bytes}

-- ---- refusals, and this paper's number and values for each

pub data Refusal : Type 0 where
  block shape : Refusal
  barren : ℕ → Refusal
  tie : ℕ → ℕ → Refusal
  fuel depth : Refusal
  wide mismatch outside : Place → Refusal
  unfit : ℕ → Refusal
  stuck : Place → Refusal
  scratch room : Refusal

pub data Answer : Type 0 where
  done : Answer
  refused : Refusal → Answer

pub record Coded : Type 0 where
  pub number : ℕ
  pub a : ℕ
  pub b : ℕ

abbrev pub code : ℕ → ℕ → ℕ → Coded
code n a b = record { number = n; a = a; b = b }

unfoldable pub refusal_code : Refusal → Coded
refusal_code block = code 1 0 0
refusal_code shape = code 2 0 0
refusal_code (barren x) = code 3 x 0
refusal_code (tie a b) = code 4 a b
refusal_code fuel = code 5 0 0
refusal_code depth = code 6 0 0
refusal_code (wide at) = code 7 at.row at.flag
refusal_code (mismatch at) = code 8 at.row at.flag
refusal_code (outside at) = code 9 at.row at.flag
refusal_code (unfit x) = code 10 x 0
refusal_code (stuck at) = code 11 at.row at.flag
refusal_code scratch = code 12 0 0
refusal_code room = code 13 0 0

unfoldable pub answer_code : Answer → Coded
answer_code done = code 0 0 0
answer_code (refused r) = refusal_code r

-- how a walk's end is called
abbrev pub stopped : Stop → Refusal
stopped walk.Stop.depth = depth
stopped (walk.Stop.wide at) = wide at
stopped (walk.Stop.mismatch at) = mismatch at
stopped (walk.Stop.outside at) = outside at
stopped (walk.Stop.stuck at) = stuck at

abbrev pub verdict_answer : {A : Type 0} → Verdict A → Answer
verdict_answer (gives x) = done
verdict_answer walk.Verdict.fuel = refused fuel
verdict_answer (stops h) = refused (stopped h)

-- ---- refusals 2 to 4, over the whole set of tables

pub data Loads (s : List ℕ) : Answer → Type 0 where
  misshapen : shapely s ≡ false → Loads s (refused shape)
  is_barren : {x : ℕ} → shapely s ≡ true → LowestBarren (script_of s) x → Loads s (refused (barren x))
  is_tied : {a b : ℕ} → shapely s ≡ true → NoneBarren (script_of s) → Tie (script_of s) a b → Loads s (refused (tie a b))
  sound : shapely s ≡ true → NoneBarren (script_of s) → Untied (script_of s) → Loads s done

-- ---- check: does the script take A into B. Its answer and units

pub data Checked (s work : List ℕ) : Answer → ℕ → Type 0 where
  unsound : {r : Refusal} → Loads s (refused r) → Checked s work (refused r) 0
  no_scratch : Loads s done → rows_lent work < (sheet_of s).check_fuel → Checked s work (refused scratch) 0
  walked : {a : Answer} {units left : ℕ} {v : Verdict Ty} → Loads s done → (sheet_of s).check_fuel ≤ rows_lent work
      → Settles (Judged (names_in (script_of s))) (check_walk (script_of s)) (sheet_of s).check_fuel v left
      → verdict_answer v ≡ a → units + left ≡ (sheet_of s).check_fuel → Checked s work a units

-- ---- fit: is the sheet's forest of the type at row t; if not, where is its first fault (Theorems/Faults: it is not exactly if there is
-- one)

pub data Fitted (s : List ℕ) (t : ℕ) : Answer → Type 0 where
  no_row : in_table (script_of s).types t ≡ false → Fitted s t (refused shape)
  unsound : {r : Refusal} → in_table (script_of s).types t ≡ true → Loads s (refused r) → Fitted s t (refused r)
  fits : in_table (script_of s).types t ≡ true → Loads s done
      → Of (names_in (script_of s)) (declared (script_of s) t) (forest_of (grove_of s))
      → Fitted s t done
  misfits : {x : ℕ} → in_table (script_of s).types t ≡ true → Loads s done → FaultOf s t x → Fitted s t (refused (unfit x))

-- ---- run: the edited forest

-- the rows of a result, from the first row of the lent ones on; all past them untouched
abbrev pub given : Forest → List ℕ → List ℕ
given f result = row_bytes (rows_of_result f) ++ drop (2 * row_words * forest_size f) result

abbrev pub run_settled : List ℕ → Settled Forest
run_settled s = settle (run_walk (sheet_of s)) (sheet_of s).run_fuel

-- its answer, units, root, and the result rows afterwards
pub data Ran (s work result : List ℕ) : Answer → ℕ → ℕ → List ℕ → Type 0 where
  unsound : {r : Refusal} → Loads s (refused r) → Ran s work result (refused r) 0 0 result
  no_scratch : Loads s done → rows_lent work < (grove_of s).rows + (sheet_of s).run_fuel → Ran s work result (refused scratch) 0 0 result
  ended : {r : Refusal} {units : ℕ} → Loads s done → (grove_of s).rows + (sheet_of s).run_fuel ≤ rows_lent work
      → verdict_answer (run_settled s).verdict ≡ refused r → units + (run_settled s).left ≡ (sheet_of s).run_fuel
      → Ran s work result (refused r) units 0 result
  no_room : {f : Forest} {units : ℕ} → Loads s done → (grove_of s).rows + (sheet_of s).run_fuel ≤ rows_lent work
      → (run_settled s).verdict ≡ gives f → units + (run_settled s).left ≡ (sheet_of s).run_fuel → rows_lent result < forest_size f
      → Ran s work result (refused room) units 0 result
  gave : {f : Forest} {units root : ℕ} {after : List ℕ} → Loads s done → (grove_of s).rows + (sheet_of s).run_fuel ≤ rows_lent work
      → (run_settled s).verdict ≡ gives f → units + (run_settled s).left ≡ (sheet_of s).run_fuel → forest_size f ≤ rows_lent result
      → root ≡ forest_size f → after ≡ given f result → Ran s work result done units root after

-- ---- apply: check, fit against A, run; the first refusal ends it. Both walks' units

pub data Applied (s work result : List ℕ) : Answer → ℕ → ℕ → ℕ → List ℕ → Type 0 where
  unchecked : {r : Refusal} {u : ℕ} → Checked s work (refused r) u → Applied s work result (refused r) u 0 0 result
  unfitted : {r : Refusal} {u : ℕ} → Checked s work done u → Fitted s (script_of s).a (refused r)
      → Applied s work result (refused r) u 0 0 result
  applied : {a : Answer} {u v root : ℕ} {after : List ℕ} → Checked s work done u → Fitted s (script_of s).a done
      → Ran s work result a v root after → Applied s work result a u v root after

-- ---- the whole replies: what is said, and every lent byte afterwards. Working rows are all zero after every call

pub record Reply : Type 0 where
  pub answer : Answer
  pub check_units : ℕ
  pub run_units : ℕ
  pub root : ℕ
  pub result : List ℕ
  pub work : List ℕ

pub record CheckReply (s work : List ℕ) (R : Reply) : Type 0 where
  pub said : Checked s work R.answer R.check_units
  pub no_run : R.run_units ≡ 0
  pub no_root : R.root ≡ 0
  pub no_result : R.result ≡ []
  pub clear : R.work ≡ zeroed work

pub record FitReply (s : List ℕ) (t : ℕ) (R : Reply) : Type 0 where
  pub said : Fitted s t R.answer
  pub no_check : R.check_units ≡ 0
  pub no_run : R.run_units ≡ 0
  pub no_root : R.root ≡ 0
  pub no_result : R.result ≡ []
  pub no_work : R.work ≡ []

pub record RunReply (s work result : List ℕ) (R : Reply) : Type 0 where
  pub said : Ran s work result R.answer R.run_units R.root R.result
  pub no_check : R.check_units ≡ 0
  pub clear : R.work ≡ zeroed work

pub record ApplyReply (s work result : List ℕ) (R : Reply) : Type 0 where
  pub said : Applied s work result R.answer R.check_units R.run_units R.root R.result
  pub clear : R.work ≡ zeroed work

-- a question about a bundle: Block before all else
pub data OfBundle (b work result : List ℕ) (Asked : List ℕ → Reply → Type 0) : Reply → Type 0 where
  unframed : framed b ≡ false → OfBundle b work result Asked
      (record { answer = refused block; check_units = 0; run_units = 0; root = 0; result = result; work = zeroed work })
  opened : {R : Reply} → framed b ≡ true → Asked (sheet_in b) R → OfBundle b work result Asked R

-- ---- the reader and the writer: functions, for they ask nothing that does not compute

pub record Copied : Type 0 where
  pub answer : Answer
  pub bytes : List ℕ

abbrev pub copy_if : Bool → Refusal → Copied → List ℕ → Copied
copy_if true r c lent = c
copy_if false r c lent = record { answer = refused r; bytes = lent }

-- what is copied stands at the front; all past it is untouched
abbrev pub copied_in : List ℕ → List ℕ → Copied
copied_in b lent = record { answer = done; bytes = b ++ drop (length b) lent }

-- 1, then 2, then 13
unfoldable pub read : List ℕ → List ℕ → Copied
read b lent = copy_if (framed b) block (copy_if (shapely (sheet_in b)) shape
    (copy_if (leb (need (sheet_in b)) (length lent)) room (copied_in (sheet_in b) lent) lent) lent) lent

-- 2, then 13
unfoldable pub write : List ℕ → List ℕ → Copied
write s lent = copy_if (shapely s) shape (copy_if (leb (block_bytes * blocks_for (need s)) (length lent)) room
    (copied_in (bundle_of s) lent)
    lent) lent
