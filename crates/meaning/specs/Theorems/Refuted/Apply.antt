-- Wrong applies, refuted, by all that a reply holds: units, result rows, working rows; and the order of Unfit and the run's Scratch. (What an apply may not leave out: Fit.)
use Rattle.std.specs.Prelude.{ℕ, ◌+◌, ◌<◌, ◌≡◌, false, eqb, replicate}
use Rattle.std.proofs.Math.Path.{refl}
use mathlib.Core.List.{List, [], ◌∷◌}
use Rattle.std.proofs.Common.{leb-true}
use Rattle.meaning.specs.Words.{bytes_of, rows_lent}
use Rattle.meaning.specs.Sheet.{sheet_of, script_of, grove_of}
use Rattle.meaning.specs.Faults.{ends}
use Rattle.meaning.specs.Reply.{unfit, scratch, room, Answer, done, refused, Loads, Checked, Fitted, misfits, Ran, no_room, Applied, unfitted, applied}
use Rattle.meaning.specs.Listing.{lent_work}
use Rattle.meaning.specs.Theorems.Single.{one_apply}
use Rattle.meaning.specs.Theorems.Worked.{worked, edited, whole, run_whole}
use Rattle.meaning.specs.Theorems.Worked.Sheets.{Row, tr, row, joined, s1}
use Rattle.meaning.specs.Theorems.Worked.Stated.{tables, shape, ties, runs, checks, Checks, loads, answers, in_itself}
use Rattle.meaning.specs.Theorems.Refuted.Calls.{Run, MeetsApply, codes, two_answers, two_numbers, differ, two_bytes, work_rows, skipping}
use Rattle.meaning.specs.Theorems.Refuted.Run.{Unzeroed, RoomWrites, RoomClears}

-- the two walks' units exchanged, where done
abbrev pub UnitsTurned : Run → Type 0
UnitsTurned f = (s work result : List ℕ) (u v root : ℕ) (after : List ℕ) → Applied s work result done u v root after → ((f s work result).check_units ≡ v) × ((f s work result).run_units ≡ u)

-- the check's units, or the run's, are so many, whenever done
abbrev pub CheckedFor : (List ℕ → ℕ) → Run → Type 0
CheckedFor amount f = (s work result : List ℕ) → (f s work result).answer ≡ done → (f s work result).check_units ≡ amount s

abbrev pub RanFor : (List ℕ → ℕ) → Run → Type 0
RanFor amount f = (s work result : List ℕ) → (f s work result).answer ≡ done → (f s work result).run_units ≡ amount s

-- too few working rows for the run go before Unfit
abbrev pub ScratchBeforeUnfit : Run → Type 0
ScratchBeforeUnfit f = (s work result : List ℕ) (u x : ℕ) → Checked s work done u → Fitted s (script_of s).a (refused (unfit x)) → rows_lent work < (grove_of s).rows + (sheet_of s).run_fuel
    → (f s work result).answer ≡ refused scratch

-- ---- the sheets, and what is computed of each

-- seven rows, on six: the first of the bytes that would find place is 4
abbrev six_rows : List ℕ
six_rows = replicate 48 9

abbrev first_six : List Row
first_six = row 4 4 0 0 ∷ row 4 3 0 0 ∷ row 4 2 0 2 ∷ row 4 3 0 3 ∷ row 4 3 0 4 ∷ row 4 2 0 5 ∷ []

room_whole : Ran whole lent_work six_rows (refused room) 33 0 six_rows
unfolding whole s1 runs
room_whole = no_room {f = edited} {units = 33} worked.met.loaded (work_rows 4101 refl) run_whole.forest refl (leb-true 7 7 refl)

-- from a to a, on (): one unit for the check, and one working row of nines
unfoldable pub lean : List ℕ
unfolding skipping
lean = skipping (tr 1 0 0 ∷ tr 4 1 1 ∷ tr 1 0 0 ∷ tr 4 1 3 ∷ []) 2 4 [] 1 4096

abbrev nines : List ℕ
nines = replicate 8 9

ok_lean : Loads lean done
unfolding lean shape ties
ok_lean = loads lean refl refl refl

check_lean : Checks lean done 1
unfolding lean checks
check_lean = answers ok_lean 0 (in_itself refl refl, tt) refl refl refl

fit_lean : Fitted lean 2 (refused (unfit 0))
unfolding lean runs ties
fit_lean = misfits refl ok_lean (ends refl refl)

checked_lean : Checked lean nines done 1
unfolding lean tables
checked_lean = check_lean nines (leb-true 1 1 refl)

apply_lean : Applied lean nines [] (refused (unfit 0)) 1 0 0 []
unfolding lean tables
apply_lean = unfitted checked_lean fit_lean

-- ---- none of them meets the promise

module _ (f : Run) (meets : MeetsApply f) where
  said : {s work result : List ℕ} {x : Answer} {u v root : ℕ} {after : List ℕ} → Applied s work result x u v root after
      → ((f s work result).answer ≡ x) × ((f s work result).check_units ≡ u) × ((f s work result).run_units ≡ v) × ((f s work result).root ≡ root) × ((f s work result).result ≡ after)
  said {s} {work} {result} h = one_apply s work result (meets s work result).said h

  -- P1's sheet: 38 units of the check and 33 of the run, and not the other way round
  pub not_apply_units_turned : UnitsTurned f → ⊥
  not_apply_units_turned w = two_numbers (said worked.applies).1 (w whole lent_work (replicate 64 9) 38 33 7 _ worked.applies).0 refl

  -- whatever rule gives other than 38 units of its check
  pub not_apply_check_units : (amount : List ℕ → ℕ) → eqb 38 (amount whole) ≡ false → CheckedFor amount f → ⊥
  not_apply_check_units amount u w = let e = said worked.applies in two_numbers e.1 (w whole lent_work (replicate 64 9) e.0) u

  -- or than 33 of its run
  pub not_apply_run_units : (amount : List ℕ → ℕ) → eqb 33 (amount whole) ≡ false → RanFor amount f → ⊥
  not_apply_run_units amount u w = let e = said worked.applies in two_numbers e.2 (w whole lent_work (replicate 64 9) e.0) u

  -- six rows lent, all 9: they are 9 after Room, and not the rows that found place
  on_six : ((f whole lent_work six_rows).answer ≡ refused room) × ((f whole lent_work six_rows).result ≡ six_rows)
  on_six = let e = said (applied worked.met.checked worked.met.fitted room_whole) in (e.0, e.4)

  pub not_apply_writes : RoomWrites f → ⊥
  unfolding runs differ
  not_apply_writes w = two_bytes six_rows (bytes_of (joined first_six)) [] [] on_six.1 (w whole lent_work six_rows edited run_whole.forest on_six.0) refl

  -- nor are they cleared
  pub not_apply_clears : RoomClears f → ⊥
  unfolding differ
  not_apply_clears w = two_bytes six_rows (replicate 48 0) [] [] on_six.1 (w whole lent_work six_rows on_six.0) refl

  -- a working row of nines: it is 0 after Unfit
  pub not_apply_unzeroed : Unzeroed (unfit 0) f → ⊥
  unfolding differ
  not_apply_unzeroed w = two_bytes (replicate 8 0) nines [] [] (meets lean nines []).clear (w lean nines [] (said apply_lean).0) refl

  -- it is enough for the check and not for the run: () is not of a, which is said, and no Scratch
  pub not_scratch_before_unfit : ScratchBeforeUnfit f → ⊥
  unfolding lean tables codes
  not_scratch_before_unfit w = two_answers (said apply_lean).0 (w lean nines [] 1 0 checked_lean fit_lean (leb-true 2 4096 refl)) refl
