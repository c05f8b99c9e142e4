-- How a question about a bundle comes to its reply: refused by the reader, lent room for the largest sheet, or asked of the sheet that it read.
use Rattle.std.specs.Prelude.{ℕ, ◌≤◌, ◌≡◌, refl, false, List, [], length, take, Result, Ok, Err}
use Rattle.std.proofs.Common.{ap, ◌∙◌, inl, inr}
use Rattle.meaning.specs.Tests.{in_table}
use Rattle.meaning.specs.Words.{zeroed}
use Rattle.meaning.specs.Sheet.{script_of, need}
use Rattle.meaning.specs.Shape.{shapely}
use Rattle.meaning.specs.Bundle.{sheet_in}
use Rattle.meaning.specs.Laws.Bools.{either}
use Rattle.meaning.specs.Reply.{
  Answer,
  refused,
  shape,
  answer_code,
  misshapen,
  Checked,
  Fitted,
  no_row,
  Ran,
  unchecked,
  Reply,
  OfBundle,
  unframed,
  opened,
  CheckReply,
  FitReply,
  RunReply,
  ApplyReply,
  read,
}
use Rattle.bundle.specs.declared.Refused.{Refused}
use Rattle.bundle.specs.declared.Refused.TheVariants.{Block, Shape, Room}
use Rattle.bundle.specs.Calls.{copied_of, replied}
use Rattle.bundle.specs.Reads.{largest, Held, read_block, read_shape, never_room}
use Rattle.fit.specs.declared.Refusal.{Refusal as FitRefusal}
use Rattle.fit.specs.Answers.{fit_of}
use Rattle.desk.specs.declared.CheckRefusal.{CheckRefusal}
use Rattle.desk.specs.Checking.{checked_answer, checked_units, checked_reply}
use Rattle.desk.specs.declared.Ran.{Ran as Done}
use Rattle.desk.specs.declared.RunRefusal.{RunRefusal}
use Rattle.desk.specs.Said.{ran_answer, ran_units, ran_root, ran_reply}
use Rattle.desk.specs.declared.Applied.{Applied}
use Rattle.desk.specs.declared.ApplyRefusal.{ApplyRefusal}
use Rattle.desk.specs.Applying.{applied_answer, first_units, last_units, applied_root, applied_reply}
use Rattle.calls.specs.declared.Reply.{Reply as Plain}
use Rattle.calls.specs.Plain.{plain, Gives, Check, Fit, Run, Apply}

-- what the questions answer
abbrev CheckAnswer : Type 0
CheckAnswer = Result ℕ CheckRefusal

abbrev FitAnswer : Type 0
FitAnswer = Result (Unit {0}) FitRefusal

abbrev RunAnswer : Type 0
RunAnswer = Result Done RunRefusal

abbrev ApplyAnswer : Type 0
ApplyAnswer = Result Applied ApplyRefusal

-- a reply before any walk: no units, no root, working bytes zero
abbrev at_once : Answer → List ℕ → List ℕ → Reply
at_once a result work = record { answer = a; check_units = 0; run_units = 0; root = 0; result = result; work = zeroed work }

fit_said : {s : List ℕ} {t : ℕ} {a : Answer} → Fitted s t a → FitReply s t (at_once a [] [])
fit_said f = record { said = f; no_check = refl; no_run = refl; no_root = refl; no_result = refl; no_work = refl }

-- ---- a sheet that is not shaped

module _ (s : List ℕ) (e : shapely s ≡ false) where
  check_misshapen : (work : List ℕ) → CheckReply s work (at_once (refused shape) [] work)
  check_misshapen work = record { said = Checked.unsound (misshapen e); no_run = refl; no_root = refl; no_result = refl; clear = refl }

  fit_misshapen : (t : ℕ) → FitReply s t (at_once (refused shape) [] [])
  fit_misshapen t = fit_said (elim (either (in_table (script_of s).types t)) [ inl i ↦ Fitted.unsound i (misshapen e) | inr i ↦ no_row i ])

  run_misshapen : (work result : List ℕ) → RunReply s work result (at_once (refused shape) result work)
  run_misshapen work result = record { said = Ran.unsound (misshapen e); no_check = refl; clear = refl }

  apply_misshapen : (work result : List ℕ) → ApplyReply s work result (at_once (refused shape) result work)
  apply_misshapen work result = record { said = unchecked (Checked.unsound (misshapen e)); clear = refl }

-- ---- refused by the reader

module _ (b lent : List ℕ) {after : List ℕ} where
  refused_reply : (work result : List ℕ) (Asked : List ℕ → Reply → Type 0) → (shapely (sheet_in b) ≡ false → Asked (sheet_in b) (at_once (refused shape) result work))
      → (r : Refused) → replied (Err r) after ≡ read b lent → largest ≤ length lent → OfBundle b work result Asked (at_once (copied_of (Err r)) result work)
  refused_reply work result Asked misshaped Block e l = unframed (read_block b lent e refl)
  refused_reply work result Asked misshaped Shape e l = let x = read_shape b lent e refl in opened x.0 (misshaped x.1)
  refused_reply work result Asked misshaped Room e l = absurd (never_room b lent e l refl)

  module _ (r : Refused) {p : Plain} (reads : replied (Err r) after ≡ read b lent) (room : largest ≤ length lent) (says : p ≡ plain (answer_code (copied_of (Err r))) 0 0 0) where
    pub check_refused : (work : List ℕ) {w : List ℕ} → w ≡ zeroed work → Gives (Check b work) p [] w
    check_refused work z = record {
      reply = at_once (copied_of (Err r)) [] work;
      asked = refused_reply work [] (λ s. CheckReply s work) (λ e. check_misshapen (sheet_in b) e work) r reads room;
      says = says;
      result_is = refl;
      work_is = z;
    }

    pub fit_refused : (t : ℕ) → Gives (Fit b t) p [] []
    fit_refused t = record {
      reply = at_once (copied_of (Err r)) [] [];
      asked = refused_reply [] [] (λ s. FitReply s t) (λ e. fit_misshapen (sheet_in b) e t) r reads room;
      says = says;
      result_is = refl;
      work_is = refl;
    }

    pub run_refused : (work result : List ℕ) {w : List ℕ} → w ≡ zeroed work → Gives (Run b work result) p result w
    run_refused work result z = record {
      reply = at_once (copied_of (Err r)) result work;
      asked = refused_reply work result (λ s. RunReply s work result) (λ e. run_misshapen (sheet_in b) e work result) r reads room;
      says = says;
      result_is = refl;
      work_is = z;
    }

    pub apply_refused : (work result : List ℕ) {w : List ℕ} → w ≡ zeroed work → Gives (Apply b work result) p result w
    apply_refused work result z = record {
      reply = at_once (copied_of (Err r)) result work;
      asked = refused_reply work result (λ s. ApplyReply s work result) (λ e. apply_misshapen (sheet_in b) e work result) r reads room;
      says = says;
      result_is = refl;
      work_is = z;
    }

-- ---- asked of the sheet that was read

module _ {b after : List ℕ} (held : Held b after) {n : ℕ} (asks : n ≡ need after) where
  is_read : take n after ≡ sheet_in b
  is_read = ap (λ (k : ℕ). take k after) asks ∙ held.is_sheet

  pub check_asked : (work : List ℕ) (c : CheckAnswer) {p : Plain} {w : List ℕ} → CheckReply (take n after) work (checked_reply c w) → p ≡ plain (answer_code (checked_answer c)) (checked_units c) 0 0
      → Gives (Check b work) p [] w
  check_asked work c {w = w} a says = record { reply = checked_reply c w; asked = opened held.is_framed (rw is_read at a); says = says; result_is = refl; work_is = refl }

  pub fit_asked : (t : ℕ) (c : FitAnswer) {p : Plain} → Fitted (take n after) t (fit_of c) → p ≡ plain (answer_code (fit_of c)) 0 0 0 → Gives (Fit b t) p [] []
  fit_asked t c a says = record { reply = at_once (fit_of c) [] []; asked = opened held.is_framed (fit_said (rw is_read at a)); says = says; result_is = refl; work_is = refl }

  pub run_asked : (work result : List ℕ) (c : RunAnswer) {p : Plain} {o w : List ℕ} → RunReply (take n after) work result (ran_reply c o w)
      → p ≡ plain (answer_code (ran_answer c)) 0 (ran_units c) (ran_root c)
      → Gives (Run b work result) p o w
  run_asked work result c {o = o} {w = w} a says = record { reply = ran_reply c o w; asked = opened held.is_framed (rw is_read at a); says = says; result_is = refl; work_is = refl }

  pub apply_asked : (work result : List ℕ) (c : ApplyAnswer) {p : Plain} {o w : List ℕ} → ApplyReply (take n after) work result (applied_reply c o w)
      → p ≡ plain (answer_code (applied_answer c)) (first_units c) (last_units c) (applied_root c)
      → Gives (Apply b work result) p o w
  apply_asked work result c {o = o} {w = w} a says = record { reply = applied_reply c o w; asked = opened held.is_framed (rw is_read at a); says = says; result_is = refl; work_is = refl }
