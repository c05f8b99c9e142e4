-- What the calls for C promise: a reply in plain numbers, and every lent byte afterwards. For one input there is one.
use Rattle.std.specs.Prelude.{ℕ, ◌≡◌, List, []}
use Rattle.std.proofs.Common.{sym, ap, ◌∙◌}
use Rattle.meaning.specs.Reply.{Coded, answer_code, Copied, Reply, OfBundle, CheckReply, FitReply, RunReply, ApplyReply}
use Rattle.meaning.specs.Theorems.Single.{One, one_bundle_check, one_bundle_fit, one_bundle_run, one_bundle_apply}
use Rattle.calls.specs.declared.Reply.{Reply as Plain}

abbrev pub plain : Coded → ℕ → ℕ → ℕ → Plain
plain c check-units run-units root = record { number = c.number; a = c.a; b = c.b; check_units = check-units; run_units = run-units; root = root }

-- the reader's or the writer's reply, with the lent bytes afterwards
pub record Copies (c : Copied) (r : Plain) (after : List ℕ) : Type 0 where
  pub says : r ≡ plain (answer_code c.answer) 0 0 0
  pub leaves : after ≡ c.bytes

-- a reply of those that the question has, with the lent bytes afterwards
pub record Gives (Asked : Reply → Type 0) (r : Plain) (result work : List ℕ) : Type 0 where
  pub reply : Reply
  pub asked : Asked reply
  pub says : r ≡ plain (answer_code reply.answer) reply.check_units reply.run_units reply.root
  pub result_is : result ≡ reply.result
  pub work_is : work ≡ reply.work

-- ---- the questions about a bundle

abbrev pub Check : List ℕ → List ℕ → Reply → Type 0
Check b work = OfBundle b work [] (λ s. CheckReply s work)

abbrev pub Fit : List ℕ → ℕ → Reply → Type 0
Fit b t = OfBundle b [] [] (λ s. FitReply s t)

abbrev pub Run : List ℕ → List ℕ → List ℕ → Reply → Type 0
Run b work result = OfBundle b work result (λ s. RunReply s work result)

abbrev pub Apply : List ℕ → List ℕ → List ℕ → Reply → Type 0
Apply b work result = OfBundle b work result (λ s. ApplyReply s work result)

-- ---- one answer, and one state of every lent byte

module _ {r r' : Plain} {o o' w w' : List ℕ} where
  one_given : {Asked : Reply → Type 0} → One Asked → Gives Asked r o w → Gives Asked r' o' w' → (r ≡ r') × (o ≡ o') × (w ≡ w')
  one_given one g h =
      let e = one g.reply h.reply g.asked h.asked in (
        g.says ∙ ap (λ (R : Reply). plain (answer_code R.answer) R.check_units R.run_units R.root) e ∙ sym h.says,
        g.result_is ∙ ap (λ (R : Reply). R.result) e ∙ sym h.result_is,
        g.work_is ∙ ap (λ (R : Reply). R.work) e ∙ sym h.work_is,
      )

  pub one_check_call : (b work : List ℕ) → Gives (Check b work) r o w → Gives (Check b work) r' o' w' → (r ≡ r') × (o ≡ o') × (w ≡ w')
  one_check_call b work = one_given (one_bundle_check b work [])

  pub one_fit_call : (b : List ℕ) (t : ℕ) → Gives (Fit b t) r o w → Gives (Fit b t) r' o' w' → (r ≡ r') × (o ≡ o') × (w ≡ w')
  one_fit_call b t = one_given (one_bundle_fit b [] [] t)

  pub one_run_call : (b work result : List ℕ) → Gives (Run b work result) r o w → Gives (Run b work result) r' o' w' → (r ≡ r') × (o ≡ o') × (w ≡ w')
  one_run_call b work result = one_given (one_bundle_run b work result)

  pub one_apply_call : (b work result : List ℕ) → Gives (Apply b work result) r o w → Gives (Apply b work result) r' o' w' → (r ≡ r') × (o ≡ o') × (w ≡ w')
  one_apply_call b work result = one_given (one_bundle_apply b work result)
