-- The reply that an answer of `apply` is: the check's, fit's and the run's, of which the first refusal ends it; and what is said where each ends.
use Rattle.std.specs.Prelude.{ℕ, ◌≡◌, refl, true, false, List, length, replicate, Result, Ok, Err, IsErrAnd}
use Rattle.std.proofs.Common.{ap, ◌∙◌, subst, eq-eqb}
use Rattle.meaning.specs.Words.{rows_lent, zeroed}
use Rattle.meaning.specs.Tests.{in_table}
use Rattle.meaning.specs.Sheet.{script_of, sheet_of}
use Rattle.meaning.specs.Shape.{shapely}
use Rattle.meaning.specs.Reply.{Answer, done, refused, unfit, Reply, Loads, Refusal, ApplyReply}
use Rattle.meaning.specs.Reply as meaning
use Rattle.meaning.specs.Laws.Bools.{or_left}
use Rattle.meaning.specs.Laws.Shaped.{roots, roots_pass}
use Rattle.meaning.specs.Laws.Wired.{Wired, ends}
use Rattle.type_places.specs.Tables.{set_of, model_of}
use Rattle.type_tables.specs.Lent.{LentTables}
use Rattle.type_tables.specs.declared.Tables.{Tables}
use Rattle.type_ties.specs.Sound.{unsound_of}
use Rattle.type_ties.specs.declared.Unsound.{Unsound}
use Rattle.type_ties.specs.declared.Unsound.TheVariants as unsound
use Rattle.fit.specs.declared.Fault.{Fault}
use Rattle.fit.specs.Fitting.{IsOf}
use Rattle.desk.specs.Said.{run_refused, refused_units, ran_answer, ran_units, ran_root, Says}
use Rattle.desk.specs.Checking.{check_refused, check_unsound, unchecked_units, checked_answer, checked_units, Concludes}
use Rattle.desk.specs.declared.Ran as running
use Rattle.desk.specs.declared.RunRefusal.{RunRefusal}
use Rattle.desk.specs.declared.CheckRefusal.{CheckRefusal}
use Rattle.desk.specs.declared.CheckRefusal.TheVariants as checking
use Rattle.desk.specs.declared.Applied as applying
use Rattle.desk.specs.declared.ApplyRefusal.{ApplyRefusal}
use Rattle.desk.specs.declared.ApplyRefusal.TheVariants.{Check, Unfit, Run}

-- the paper's refusal
abbrev pub apply_refused : ApplyRefusal → Refusal
apply_refused (Check c) = check_refused c
apply_refused (Unfit row units) = unfit row
apply_refused (Run units r) = run_refused r

abbrev pub apply_unchecked : CheckRefusal → ApplyRefusal
apply_unchecked c = Check c

abbrev pub apply_unsound : Unsound → ApplyRefusal
apply_unsound u = Check (check_unsound u)

abbrev pub applied_answer : Result applying.Applied ApplyRefusal → Answer
applied_answer (Ok a) = done
applied_answer (Err why) = refused (apply_refused why)

-- the check's units
abbrev pub first_units : Result applying.Applied ApplyRefusal → ℕ
first_units (Ok a) = a.units
first_units (Err (Check c)) = unchecked_units c
first_units (Err (Unfit row units)) = units
first_units (Err (Run units r)) = units

-- the run's
abbrev pub last_units : Result applying.Applied ApplyRefusal → ℕ
last_units (Ok a) = a.ran.units
last_units (Err (Check c)) = 0
last_units (Err (Unfit row units)) = 0
last_units (Err (Run units r)) = refused_units r

abbrev pub applied_root : Result applying.Applied ApplyRefusal → ℕ
applied_root (Ok a) = a.ran.root
applied_root (Err why) = 0

abbrev pub applied_reply : Result applying.Applied ApplyRefusal → List ℕ → List ℕ → Reply
applied_reply a result work = record { answer = applied_answer a; check_units = first_units a; run_units = last_units a; root = applied_root a; result = result; work = work }

-- what `apply` says of the sheet s, lent the rows `work` and `result`, and the result rows afterwards
pub record Applies (s work result : List ℕ) (a : Result applying.Applied ApplyRefusal) (after : List ℕ) : Type 0 where
  pub said : meaning.Applied s work result (applied_answer a) (first_units a) (last_units a) (applied_root a) after

-- and the working rows zeroed
pub apply_replied : (s work result mid : List ℕ) {a : Result applying.Applied ApplyRefusal} {after cleared : List ℕ} → Applies s work result a after → cleared ≡ zeroed mid → length mid ≡ length work
    → ApplyReply s work result (applied_reply a after cleared)
apply_replied s work result mid h z n = record { said = h.said; clear = z ∙ ap (λ (k : ℕ). replicate k 0) n }

-- ---- where the sheet is refused, or the check is

-- the refusal that a `?` hands on
applies_exit : {s work result after : List ℕ} {why : ApplyRefusal} (a : Result applying.Applied ApplyRefusal) → IsErrAnd a (λ e. e ≡ why) → Applies s work result (Err why) after
    → Applies s work result a after
applies_exit (Ok x) h y = absurd h
applies_exit (Err e) h y = rw h y

pub applies_misshapen : {s work result : List ℕ} → shapely s ≡ false → Applies s work result (Err (Check checking.Shape)) result
applies_misshapen e = record { said = meaning.Applied.unchecked (meaning.Checked.unsound (meaning.misshapen e)) }

-- of a sheet that is not sound
pub applies_unsound : {s work result : List ℕ} (u : Unsound) (a : Result applying.Applied ApplyRefusal) → IsErrAnd a (λ e. e ≡ apply_unsound u) → Loads s (refused (unsound_of u))
    → Applies s work result a result
applies_unsound (unsound.Barren x) a h l = applies_exit a h (record { said = meaning.Applied.unchecked (meaning.Checked.unsound l) })
applies_unsound (unsound.Tie t) a h l = applies_exit a h (record { said = meaning.Applied.unchecked (meaning.Checked.unsound l) })

pub applies_unchecked : {s work result : List ℕ} {c : CheckRefusal} (a : Result applying.Applied ApplyRefusal) → IsErrAnd a (λ e. e ≡ Check c) → Concludes s work (Err c)
    → Applies s work result a result
applies_unchecked a e h = applies_exit a e (record { said = meaning.Applied.unchecked h.said })

-- ---- where it is done

-- A is a row of the types
pub a_there : (s : List ℕ) → shapely s ≡ true → in_table (script_of s).types (script_of s).a ≡ true
unfolding sheet_of
a_there s e = (roots (sheet_of s) (roots_pass s e)).a

-- its next sets are the sheet's, for A is declared
pub a_wired : (s : List ℕ) {t : Tables} → shapely s ≡ true → LentTables s t → Wired (set_of t.behind) (model_of s (script_of s).a) ends
a_wired s e T = T.points.roots (script_of s).a (a_there s e) (or_left _ (or_left _ (or_left _ (or_left _ (eq-eqb (script_of s).a (script_of s).a refl)))))

-- a run goes by how many rows are lent
lent_as : {s work mid result after : List ℕ} {a : Answer} {units root : ℕ} → rows_lent mid ≡ rows_lent work → meaning.Ran s mid result a units root after → meaning.Ran s work result a units root after
lent_as e (meaning.Ran.unsound l) = meaning.Ran.unsound l
lent_as e (meaning.Ran.no_scratch l h) = meaning.Ran.no_scratch l (rw e at h)
lent_as e (meaning.Ran.ended l h v u) = meaning.Ran.ended l (rw e at h) v u
lent_as e (meaning.Ran.no_room l h v u r) = meaning.Ran.no_room l (rw e at h) v u r
lent_as e (meaning.Ran.gave l h v u n x a) = meaning.Ran.gave l (rw e at h) v u n x a

module _ {s work : List ℕ} {units : ℕ} (h : Concludes s work (Ok units)) (e : shapely s ≡ true) (load : Loads s done) where
  pub applies_unfit : {result : List ℕ} {x : Fault} → IsOf s (script_of s).a (Err x) → Applies s work result (Err (Unfit x.row units)) result
  applies_unfit of = record { said = meaning.Applied.unfitted h.said (meaning.Fitted.misfits (a_there s e) load of.by) }

  module _ (of : IsOf s (script_of s).a (Ok tt)) {result mid after : List ℕ} (n : length mid ≡ length work) where
    pub applies_ran : {r : running.Ran} → Says s mid result (Ok r) after → Applies s work result (Ok (record { units = units; ran = r })) after
    applies_ran m = record { said = meaning.Applied.applied h.said (meaning.Fitted.fits (a_there s e) load of.by) (lent_as (rw n) m.said) }

    pub applies_not_run : {r : RunRefusal} → Says s mid result (Err r) after → Applies s work result (Err (Run units r)) after
    applies_not_run m = record { said = meaning.Applied.applied h.said (meaning.Fitted.fits (a_there s e) load of.by) (lent_as (rw n) m.said) }
