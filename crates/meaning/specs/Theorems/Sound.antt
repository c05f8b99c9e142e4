-- Soundness (demand 3), on replies: a script that check passes from A to B takes every forest of A to result rows of B, or stops for fuel, depth, scratch or room. It is never stuck.
-- By soundness of the judgments (Judgments), for what the check accepts is derived, and because what a run gives reads back from its rows (Written).
pub mod Judgments
pub mod Written
pub mod Unstuck
use Rattle.std.specs.Prelude.{ℕ, ◌≤◌, ◌≡◌, refl}
use mathlib.Core.List.{List, []}
use Rattle.std.proofs.Common.{arith}
use Rattle.meaning.specs.Limits.{most_depth, most_fuel}
use Rattle.meaning.specs.Sheet.{Grove, script_of, grove_of, sheet_of}
use Rattle.meaning.specs.Forest.{Forest, forest_of}
use Rattle.meaning.specs.Types.{Ty, Named, Of, Within, declared, names_in}
use Rattle.meaning.specs.Walk.{Place, Verdict, gives, fuel, stops, Settles}
use Rattle.meaning.specs.Run.{run_walk}
use Rattle.meaning.specs.Check.{Judged, check_walk}
use Rattle.meaning.specs.Figures.{Accepts}
use Rattle.meaning.specs.Reply.{
  Refusal,
  scratch,
  room,
  Answer,
  done,
  refused,
  verdict_answer,
  Loads,
  Checked,
  walked,
  Fitted,
  fits,
  Ran,
  ended,
  no_room,
  gave,
  run_settled,
  Applied,
  unchecked,
  unfitted,
  applied,
  Reply,
  CheckReply,
}
use Rattle.meaning.specs.Theorems.ReadBack.{lent_row, given_back}
use Rattle.meaning.specs.Theorems.ExactCheck.{accepted}
use Rattle.meaning.specs.Theorems.Single.{one_load, done_loads}
use Rattle.meaning.specs.Laws.Bools.{never}
use Rattle.meaning.specs.Laws.Agree.{SameTables, same_script}
use Rattle.meaning.specs.Theorems.Steady.{with_run_fuel, alike_script, alike_grove, run_alike, run_fuel_loads}
use Rattle.meaning.specs.Theorems.Sound.Judgments.{Ends, with_forest, short_of_fuel, short_of_depth, fit_none, typed_sound}
use Rattle.meaning.specs.Theorems.Sound.Written.{loads_shapely, calls_named, given_writable}
use Rattle.meaning.specs.Theorems.Sound.Unstuck.{load_unstuck, check_unstuck, fit_unstuck}

-- ---- the theorem, on replies

-- a check that is done accepts
pub checked_accepts : {s work : List ℕ} {u : ℕ} → Checked s work done u → Accepts (script_of s)
checked_accepts {s} (walked {left = left} {v = v} l n t e d) = go v t e
  where
    go : (v : Verdict Ty) → Settles (Judged (names_in (script_of s))) (check_walk (script_of s)) (sheet_of s).check_fuel v left → verdict_answer v ≡ done → Accepts (script_of s)
    go (gives σ) t e = (accepted (script_of s) σ _ _ t).0
    go fuel t e = never (cc)
    go (stops h) t e = never (cc)

-- the sheet's forest is of A
abbrev pub OfA : List ℕ → Type 0
OfA s = Of (names_in (script_of s)) (declared (script_of s) (script_of s).a) (forest_of (grove_of s))

-- result rows over the sheet's pool, and that the forest at their root is of B
abbrev pub result_grove : List ℕ → List ℕ → ℕ → Grove
result_grove s after root = record { rows = root; row = lent_row after; pool = (grove_of s).pool; byte = (grove_of s).byte; root = root }

abbrev pub OfB : List ℕ → List ℕ → ℕ → Type 0
OfB s after root = Of (names_in (script_of s)) (declared (script_of s) (script_of s).b) (forest_of (result_grove s after root))

-- a forest of B, or fuel, depth, scratch or room: what a run of a checked script may reply. Not Stuck
pub data Safely (s : List ℕ) : Answer → ℕ → List ℕ → Type 0 where
  gives_B : {root : ℕ} {after : List ℕ} → OfB s after root → Safely s done root after
  by_fuel : {root : ℕ} {after : List ℕ} → Safely s (refused Refusal.fuel) root after
  by_depth : {root : ℕ} {after : List ℕ} → Safely s (refused Refusal.depth) root after
  by_scratch : {root : ℕ} {after : List ℕ} → Safely s (refused scratch) root after
  by_room : {root : ℕ} {after : List ℕ} → Safely s (refused room) root after

ends_of : {names : ℕ → Named} {τ : Ty} {f : Forest} → Ends names τ (gives f) → Of names τ f
ends_of (with_forest o) = o

ends_within : {names : ℕ → Named} {σ τ : Ty} {v : Verdict Forest} → Within names σ τ → Ends names σ v → Ends names τ v
ends_within w (with_forest {f = f} o) = with_forest (w f o)
ends_within w short_of_fuel = short_of_fuel
ends_within w short_of_depth = short_of_depth

ends_refused : {s after : List ℕ} {root : ℕ} {names : ℕ → Named} {τ : Ty} {v : Verdict Forest} {r : Refusal} → Ends names τ v → verdict_answer v ≡ refused r → Safely s (refused r) root after
ends_refused (with_forest o) e = never (cc)
ends_refused short_of_fuel e = rw (← e) by_fuel
ends_refused short_of_depth e = rw (← e) by_depth

module _ {s s' work : List ℕ} {u : ℕ} (checked : Checked s work done u) (script : script_of s' ≡ script_of s) (loads : Loads s' done) (member : OfA s') where
  run_ends : Ends (names_in (script_of s')) (declared (script_of s') (script_of s').b) (run_settled s').verdict
  unfolding run_walk sheet_of
  run_ends =
      let S = script_of s' in let a : Accepts S = rw script (checked_accepts checked) in let m = a.main in
      ends_within m.lies (typed_sound S (grove_of s').byte (calls_named s' (loads_shapely loads)) a.procedures most_depth (sheet_of s').run_fuel [] [] S.main (declared S S.a) m.output
      (forest_of (grove_of s')) m.typed fit_none member)

  -- for every run fuel and every lent length, on any sheet with the script that check passed, whose forest is of A
  pub sound_run : {work' result after : List ℕ} {a : Answer} {units root : ℕ} → Ran s' work' result a units root after → Safely s' a root after
  sound_run (Ran.unsound l) = never (cc (one_load s' l loads))
  sound_run (Ran.no_scratch l n) = by_scratch
  sound_run (ended l n e d) = ends_refused run_ends e
  sound_run (no_room l n g d x) = by_room
  sound_run {result = result} (gave {f = f} {root = root} {after = after} l n g d x y z) =
      let h = given_writable loads f g in
      gives_B {root = root} {after = after} (rw (y, z, given_back (grove_of s').byte f result h.0 (record { words = h.1; rows = omega arith })) (ends_of (rw g at run_ends)))

safely_B : {s after : List ℕ} {root : ℕ} → Safely s done root after → OfB s after root
safely_B (gives_B o) = o

pub never_stuck : {s after : List ℕ} {a : Answer} {root : ℕ} → Safely s a root after → (at : Place) → a ≡ refused (Refusal.stuck at) → ⊥
never_stuck (gives_B o) at e = never (cc)
never_stuck by_fuel at e = never (cc)
never_stuck by_depth at e = never (cc)
never_stuck by_scratch at e = never (cc)
never_stuck by_room at e = never (cc)

-- fit's reply done says that the forest is of A
pub fitted_of_A : {s : List ℕ} → Fitted s (script_of s).a done → OfA s
fitted_of_A (fits e l o) = o

-- any other forest of A, with its pool, root and fuels, behind the tables that check passed
pub sound_any_forest : {s s' work work' result after : List ℕ} {a : Answer} {u units root : ℕ} → Checked s work done u → SameTables s s' → Loads s' done → OfA s'
    → Ran s' work' result a units root after → Safely s' a root after
sound_any_forest {s} {s'} c same l o r = sound_run c (same_script s s' same) l o r

-- the checked sheet itself, with its own run fuel and with every other up to the limit
pub sound_self : {s work work' result after : List ℕ} {a : Answer} {u units root : ℕ} → Checked s work done u → OfA s → Ran s work' result a units root after → Safely s a root after
sound_self c o r = sound_run c refl (done_loads c) o r

pub sound_every_fuel : {s work work' result after : List ℕ} {a : Answer} {u units root : ℕ} (w : ℕ) → w ≤ most_fuel → Checked s work done u → OfA s
    → Ran (with_run_fuel s w) work' result a units root after
    → Safely (with_run_fuel s w) a root after
sound_every_fuel {s} w limit c o r =
    let l = done_loads c in let k = run_alike s l w limit in let e = alike_script s (with_run_fuel s w) k in
    sound_run c e (run_fuel_loads s l w limit) (rw (e, alike_grove s (with_run_fuel s w) k) o) r

-- ---- apply: never stuck, and what it gives is of B

pub apply_unstuck : {s work result after : List ℕ} {a : Answer} {u v root : ℕ} → Applied s work result a u v root after → (at : Place) → a ≡ refused (Refusal.stuck at) → ⊥
apply_unstuck (unchecked c) at h = check_unstuck c at h
apply_unstuck (unfitted c f) at h = fit_unstuck f at h
apply_unstuck (applied c f r) at h = never_stuck (sound_self c (fitted_of_A f) r) at h

pub apply_sound : {s work result after : List ℕ} {u v root : ℕ} → Applied s work result done u v root after → OfB s after root
apply_sound (applied c f r) = safely_B (sound_self c (fitted_of_A f) r)

-- ---- so demand 3 alone stops a check that passes all

-- a run that is Stuck has loaded
stuck_loads : {s work result after : List ℕ} {a : Answer} {units root : ℕ} → Ran s work result a units root after → (at : Place) → a ≡ refused (Refusal.stuck at) → Loads s done
stuck_loads (Ran.unsound l) at h = absurd (load_unstuck l at h)
stuck_loads (Ran.no_scratch l n) at h = l
stuck_loads (ended l n e d) at h = l
stuck_loads (no_room l n g d x) at h = l
stuck_loads (gave l n g d x y z) at h = l

-- no reply done meets check's promise of a sheet whose script is Stuck on some forest of A, be it this sheet's or another's behind its tables
pub stuck_not_passed : {s s' work work' result after : List ℕ} {units root : ℕ} {at : Place} {R : Reply} → CheckReply s work R → SameTables s s' → OfA s'
    → Ran s' work' result (refused (Refusal.stuck at)) units root after → R.answer ≡ done → ⊥
stuck_not_passed {s} {work = work} {at = at} {R = R} k same o r e =
    let c : Checked s work done R.check_units = rw e at k.said in never_stuck (sound_any_forest c same (stuck_loads r at refl) o r) at refl

-- its own
pub stuck_self_not_passed : {s work work' result after : List ℕ} {units root : ℕ} {at : Place} {R : Reply} → CheckReply s work R → OfA s
    → Ran s work' result (refused (Refusal.stuck at)) units root after → R.answer ≡ done → ⊥
stuck_self_not_passed {s} {work = work} {at = at} {R = R} k o r e =
    let c : Checked s work done R.check_units = rw e at k.said in never_stuck (sound_self c o r) at refl
