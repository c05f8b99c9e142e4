-- The reply that an answer of `check` is: this paper's refusal or Done, its units, and the working rows afterwards; and what is said of each end of the check's walk.
use Rattle.std.specs.Prelude.{ℕ, ◌+◌, ◌≤◌, ◌<◌, ◌≡◌, refl, true, List, [], length, replicate, Result, Ok, Err, IsErrAnd}
use Rattle.std.proofs.Common.{ap, ◌∙◌, arith}
use Rattle.meaning.specs.Words.{rows_lent, zeroed}
use Rattle.meaning.specs.Sheet.{script_of, sheet_of}
use Rattle.meaning.specs.Types.{Ty}
use Rattle.meaning.specs.Walk.{gives, fuel, stops}
use Rattle.meaning.specs.Walk as walk
use Rattle.meaning.specs.Check.{Asking, check_walk}
use Rattle.meaning.specs.Reply.{Answer, done, refused, shape, barren, tie, depth, wide, mismatch, outside, scratch, Reply, Loads, no_scratch, walked, CheckReply}
use Rattle.meaning.specs.Reply as meaning
use Rattle.meaning.specs.Laws.Walk.{within_purse}
use Rattle.meaning.specs.Shape.{shapely}
use Rattle.meaning.specs.Laws.Shaped.{few, limits_pass}
use Rattle.walk.specs.declared.Purse.{Purse}
use Rattle.type_rows.specs.Finds.{Judges, Typed, Halted}
use Rattle.type_rows.specs.declared.Halt.{Halt}
use Rattle.type_rows.specs.declared.Halt.TheVariants as halt
use Rattle.type_ties.specs.Sound.{unsound_of}
use Rattle.type_ties.specs.declared.Unsound.{Unsound}
use Rattle.type_ties.specs.declared.Unsound.TheVariants as unsound
use Rattle.walk.specs.Concern.{concern_of}
use Rattle.walk.specs.declared.Concern.{Concern}
use Rattle.desk.specs.declared.CheckRefusal.{CheckRefusal}
use Rattle.desk.specs.declared.CheckRefusal.TheVariants.{Shape, Barren, Tie, Fuel, Depth, Wide, Mismatch, Outside, Scratch}

-- the paper's refusal
abbrev pub check_refused : CheckRefusal → meaning.Refusal
check_refused Shape = shape
check_refused (Barren x) = barren x
check_refused (Tie t) = tie t.row t.rival
check_refused (Fuel units) = meaning.Refusal.fuel
check_refused (Depth units) = depth
check_refused (Wide at units) = wide (concern_of at)
check_refused (Mismatch at units) = mismatch (concern_of at)
check_refused (Outside at units) = outside (concern_of at)
check_refused Scratch = scratch

abbrev pub check_unsound : Unsound → CheckRefusal
check_unsound (unsound.Barren x) = Barren x
check_unsound (unsound.Tie t) = Tie t

abbrev pub checked_answer : Result ℕ CheckRefusal → Answer
checked_answer (Ok units) = done
checked_answer (Err why) = refused (check_refused why)

-- the units of a refusal, 0 where the walk did not begin
abbrev pub unchecked_units : CheckRefusal → ℕ
unchecked_units Shape = 0
unchecked_units (Barren x) = 0
unchecked_units (Tie t) = 0
unchecked_units (Fuel units) = units
unchecked_units (Depth units) = units
unchecked_units (Wide at units) = units
unchecked_units (Mismatch at units) = units
unchecked_units (Outside at units) = units
unchecked_units Scratch = 0

abbrev pub checked_units : Result ℕ CheckRefusal → ℕ
checked_units (Ok units) = units
checked_units (Err why) = unchecked_units why

abbrev pub checked_reply : Result ℕ CheckRefusal → List ℕ → Reply
checked_reply c work = record { answer = checked_answer c; check_units = checked_units c; run_units = 0; root = 0; result = []; work = work }

-- what `check` says of the sheet s, lent the rows `work`
pub record Concludes (s work : List ℕ) (c : Result ℕ CheckRefusal) : Type 0 where
  pub said : meaning.Checked s work (checked_answer c) (checked_units c)

-- the refusal that a `?` hands on
pub concludes_exit : {s work : List ℕ} {why : CheckRefusal} (a : Result ℕ CheckRefusal) → IsErrAnd a (λ e. e ≡ why) → Concludes s work (Err why) → Concludes s work a
concludes_exit (Ok n) h x = absurd h
concludes_exit (Err e) h x = rw h x

-- of a sheet that is not sound
pub concludes_unsound : {s work : List ℕ} (u : Unsound) (a : Result ℕ CheckRefusal) → IsErrAnd a (λ e. e ≡ check_unsound u) → Loads s (refused (unsound_of u)) → Concludes s work a
concludes_unsound (unsound.Barren x) a h l = concludes_exit a h (record { said = meaning.Checked.unsound l })
concludes_unsound (unsound.Tie t) a h l = concludes_exit a h (record { said = meaning.Checked.unsound l })

-- and the working rows zeroed
pub check_replied : (s work mid : List ℕ) {c : Result ℕ CheckRefusal} {cleared : List ℕ} → Concludes s work c → cleared ≡ zeroed mid → length mid ≡ length work
    → CheckReply s work (checked_reply c cleared)
check_replied s work mid h z n = record { said = h.said; no_run = refl; no_root = refl; no_result = refl; clear = z ∙ ap (λ (k : ℕ). replicate k 0) n }

-- ---- where the walk begins

pub record CheckBegun (s lent : List ℕ) : Type 0 where
  pub loads : Loads s done
  pub rows : (sheet_of s).check_fuel ≤ rows_lent lent

module _ (s : List ℕ) where
  pub check_short : {lent : List ℕ} → Loads s done → rows_lent lent < (sheet_of s).check_fuel → Concludes s lent (Err Scratch)
  check_short d h = record { said = no_scratch d h }

  pub few_check_units : shapely s ≡ true → (sheet_of s).check_fuel ≤ 4096
  few_check_units e = (few (sheet_of s) (limits_pass s e)).check_fuel_lem

  pub check_begun : {lent : List ℕ} → Loads s done → (sheet_of s).check_fuel ≤ rows_lent lent → CheckBegun s lent
  check_begun d h = record { loads = d; rows = h }

-- ---- what is said of its end

-- what is left of the purse
abbrev pub left_in_halt : Halt → ℕ
left_in_halt halt.Fuel = 0
left_in_halt (halt.Depth p) = p.left
left_in_halt (halt.Wide at p) = p.left
left_in_halt (halt.Mismatch at p) = p.left
left_in_halt (halt.Outside at p) = p.left

pub left_in : {w : Asking Ty} {s : List ℕ} {n : ℕ} (why : Halt) → Halted w s n why → left_in_halt why ≤ n
left_in halt.Fuel h = omega arith
left_in {s = s} (halt.Depth p) h = within_purse (Judges s) h.by
left_in {s = s} (halt.Wide at p) h = within_purse (Judges s) h.by
left_in {s = s} (halt.Mismatch at p) h = within_purse (Judges s) h.by
left_in {s = s} (halt.Outside at p) h = within_purse (Judges s) h.by

abbrev Ended : List ℕ → Halt → Type 0
Ended s why = Halted (check_walk (script_of s)) s (sheet_of s).check_fuel why

module _ {s lent : List ℕ} (b : CheckBegun s lent) {units n : ℕ} (en : n ≡ (sheet_of s).check_fuel) where
  pub halt_fuel : Ended s halt.Fuel → units ≡ n → Concludes s lent (Err (Fuel units))
  halt_fuel h e = record { said = walked {units = units} {v = fuel} b.loads b.rows h.by refl (omega arith) }

  module _ {p : Purse} (e : units + p.left ≡ n) where
    pub halt_depth : Ended s (halt.Depth p) → Concludes s lent (Err (Depth units))
    halt_depth h = record { said = walked {units = units} {v = stops walk.depth} b.loads b.rows h.by refl (omega arith) }

    module _ {at : Concern} where
      pub halt_wide : Ended s (halt.Wide at p) → Concludes s lent (Err (Wide at units))
      halt_wide h = record { said = walked {units = units} {v = stops (walk.wide (concern_of at))} b.loads b.rows h.by refl (omega arith) }

      pub halt_mismatch : Ended s (halt.Mismatch at p) → Concludes s lent (Err (Mismatch at units))
      halt_mismatch h = record { said = walked {units = units} {v = stops (walk.mismatch (concern_of at))} b.loads b.rows h.by refl (omega arith) }

      pub halt_outside : Ended s (halt.Outside at p) → Concludes s lent (Err (Outside at units))
      halt_outside h = record { said = walked {units = units} {v = stops (walk.outside (concern_of at))} b.loads b.rows h.by refl (omega arith) }

    pub check_done : {work new : List ℕ} {root used : ℕ} → Typed (check_walk (script_of s)) s (sheet_of s).check_fuel 0 work new root used p.left → Concludes s lent (Ok units)
    check_done f = record { said = walked {units = units} b.loads b.rows f.settles refl (omega arith) }

pub done_left_in : {w : Asking Ty} {s work new : List ℕ} {n root used left : ℕ} → Typed w s n 0 work new root used left → left ≤ n
done_left_in {s = s} f = within_purse (Judges s) f.settles
