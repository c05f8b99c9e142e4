-- A question of a walk, by what the inclusion test says: Wide first, then Mismatch or Outside at the row that asks, else the walk goes on.
use Rattle.std.specs.Prelude.{ℕ, true, false, List, Result, Ok, Err}
use Rattle.std.proofs.Common.{arith, refl}
use Rattle.meaning.specs.Types.{Ty}
use Rattle.meaning.specs.Check.{Asking, Question, Number, eight, nine, is_in, too_wide, holds, fails}
use Rattle.meaning.specs.Walk.{ask, pass, passed, refused}
use Rattle.walk.specs.Concern.{concern_of}
use Rattle.walk.specs.declared.Concern.{Concern}
use Rattle.walk.specs.declared.Got.{Got}
use Rattle.walk.specs.declared.Purse.{Purse}
use Rattle.type_rows.specs.Finds.{Judges, Halted, Finds, halt_leads, finds_leads}
use Rattle.type_rows.specs.declared.Halt.{Halt}
use Rattle.type_rows.specs.declared.Halt.TheVariants.{Wide, Mismatch, Outside}
use Rattle.within.specs.Answers.{Answers}
use Rattle.within.specs.declared.Wide as within

-- a question that is answered: each walk that asks it goes on, or each ends
abbrev pub PassesBy : List ℕ → Question → ℕ → Result (Unit {0}) Halt → Type 0
PassesBy s q left (Ok u) = Judges s q pass
PassesBy s q left (Err why) = (w : Asking Ty) → Halted (ask q w) s left why

pub record Passes (s : List ℕ) (q : Question) (left : ℕ) (r : Result (Unit {0}) Halt) : Type 0 where
  pub by : PassesBy s q left r

-- what follows, where it passes
module _ {s : List ℕ} {q : Question} {w : Asking Ty} (j : Judges s q pass) {left : ℕ} where
  pub ask_finds : {used : ℕ} {old new : List ℕ} {a : Result Got Halt} → Finds w s left used old new a → Finds (ask q w) s left used old new a
  ask_finds m = finds_leads (λ v m t. passed j t) (omega arith) (omega arith) (λ r i n. refl) m

  pub ask_halts : {why : Halt} → Halted w s left why → Halted (ask q w) s left why
  ask_halts h = halt_leads (λ v m t. passed j t) h

-- by the inclusion test
module _ {s : List ℕ} {σ τ : Ty} where
  pub test_holds : (k : Number) (at : Concern) (left : ℕ) → Answers s σ τ (Ok true) → Passes s (is_in σ τ k (concern_of at)) left (Ok tt)
  test_holds k at left a = record { by = holds a.by.0 a.by.1 }

  pub test_wide : (k : Number) (at : Concern) (p : Purse) {e : within.Wide} → Answers s σ τ (Err e) → Passes s (is_in σ τ k (concern_of at)) p.left (Err (Wide at p))
  test_wide k at p a = record { by = λ w. record { by = refused (too_wide a.by) } }

  -- refusals 8 and 9
  pub test_mismatch : (at : Concern) (p : Purse) → Answers s σ τ (Ok false) → Passes s (is_in σ τ eight (concern_of at)) p.left (Err (Mismatch at p))
  test_mismatch at p a = record { by = λ w. record { by = refused (fails a.by.0 a.by.1) } }

  pub test_outside : (at : Concern) (p : Purse) → Answers s σ τ (Ok false) → Passes s (is_in σ τ nine (concern_of at)) p.left (Err (Outside at p))
  test_outside at p a = record { by = λ w. record { by = refused (fails a.by.0 a.by.1) } }
