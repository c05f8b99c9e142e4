-- One result: two replies that satisfy a promise on one input are equal. By cases on the two replies; what the program tells is settled step by step (`Step`), each step with one outcome.
use Rattle.std.specs.Prelude.{ℕ, ◌<◌, ◌≡◌, refl, Bool, true, false, List}
use Rattle.std.proofs.Common.{sym, ◌∙◌, ap, subst, arith}
use Rattle.meaning.specs.Tests.{in_table}
use Rattle.meaning.specs.Sheet.{script_of, grove_of}
use Rattle.meaning.specs.Forest.{Forest, forest_of, forest_size}
use Rattle.meaning.specs.Types.{Of, declared, names_in}
use Rattle.meaning.specs.Walk.{gives}
use Rattle.meaning.specs.Check.{Judged}
use Rattle.meaning.specs.Places.{Tie, LowestBarren, tied}
use Rattle.meaning.specs.Faults.{FaultOf}
use Rattle.meaning.specs.Bundle.{framed, sheet_in}
use Rattle.meaning.specs.Reply.{
  Refusal,
  barren,
  tie,
  unfit,
  block,
  Answer,
  done,
  refused,
  verdict_answer,
  Loads,
  misshapen,
  is_barren,
  is_tied,
  sound,
  Checked,
  walked,
  Fitted,
  no_row,
  fits,
  misfits,
  Ran,
  ended,
  no_room,
  gave,
  run_settled,
  Applied,
  unchecked,
  unfitted,
  applied,
  Reply,
  CheckReply,
  FitReply,
  RunReply,
  ApplyReply,
  OfBundle,
  unframed,
  opened,
}
use Rattle.meaning.specs.Listing.{Told, loaded, check_ended, fit_ended, run_ended, all_done, Tells, not_framed, not_loaded, not_checked, not_fit, not_run, told, lent_work, lent_result}
use Rattle.meaning.specs.Laws.Bools.{not_both}
use Rattle.meaning.specs.Laws.Walk.{one_verdict}
use Rattle.meaning.specs.Theorems.ExactCheck.{judged_single}
use Rattle.meaning.specs.Theorems.Faults.{fault_bars, one_fault}

-- ---- at most one has P, and steps

module _ {T : Type 0} where
  abbrev pub One : (T → Type 0) → Type 0
  One P = (x y : T) → P x → P y → x ≡ y

-- first an outcome a, then what follows from it
module _ {A T : Type 0} (R : A → Type 0) (K : A → T → Type 0) where
  abbrev Step : T → Type 0
  Step t = (a : A) × R a × K a t

  step_one : One R → ((a : A) → One (K a)) → One Step
  step_one one follow x y k h = follow k.0 x y k.2 (subst (λ a. K a y) (one h.0 k.0 h.1 k.1) h.2)

-- what is said to be x is one
is_one : {T : Type 0} (x : T) → One (λ (y : T). y ≡ x)
is_one x y z p q = cc

-- a refusal is not done
refused_done : {A : Type 0} {r : Refusal} → refused r ≡ done → A
refused_done {r = r} e = let z : ◌≡◌ {A = ℕ} 0 1 = cc in absurd (omega arith)

-- ---- refusals 2 to 4

module _ (s : List ℕ) where
  lowest_one : One (LowestBarren (script_of s))
  lowest_one x y k l =
      let p : ¬ (x < y) = λ h. let f = l.lowest x k.is_name h in k.barren f.0 f.1 in
      let q : ¬ (y < x) = λ h. let f = k.lowest y l.is_name h in l.barren f.0 f.1 in
      omega arith

  tie_one : {a b c d : ℕ} → Tie (script_of s) a b → Tie (script_of s) c d → tie a b ≡ tie c d
  tie_one {a} {b} {c} {d} t u =
      let p : ¬ (a < c) = λ h. not_both t.is (u.lowest a b h) in
      let q : ¬ (c < a) = λ h. not_both u.is (t.lowest c d h) in
      let e : a ≡ c = omega arith in
      let v : tied (script_of s) a d ≡ true = rw e u.is in
      let w : tied (script_of s) c b ≡ true = rw (← e) t.is in
      let p' : ¬ (b < d) = λ h. not_both w (u.rival b h) in
      let q' : ¬ (d < b) = λ h. not_both v (t.rival d h) in
      let e' : b ≡ d = omega arith in
      cc

  pub one_load : {a b : Answer} → Loads s a → Loads s b → a ≡ b
  one_load (misshapen e) (misshapen f) = refl
  one_load (misshapen e) (is_barren f y) = absurd (not_both f e)
  one_load (misshapen e) (is_tied f n u) = absurd (not_both f e)
  one_load (misshapen e) (sound f n u) = absurd (not_both f e)
  one_load (is_barren e x) (misshapen f) = absurd (not_both e f)
  one_load (is_barren {x = x} e k) (is_barren {x = y} f l) = ap (λ z. refused (barren z)) (lowest_one x y k l)
  one_load (is_barren {x = x} e k) (is_tied f n u) = let g = n x k.is_name in absurd (k.barren g.0 g.1)
  one_load (is_barren {x = x} e k) (sound f n u) = let g = n x k.is_name in absurd (k.barren g.0 g.1)
  one_load (is_tied e n t) (misshapen f) = absurd (not_both e f)
  one_load (is_tied e n t) (is_barren {x = y} f l) = let g = n y l.is_name in absurd (l.barren g.0 g.1)
  one_load (is_tied e n t) (is_tied f m u) = ap refused (tie_one t u)
  one_load (is_tied {a = a} {b = b} e n t) (sound f m u) = absurd (not_both t.is (u a b))
  one_load (sound e n t) (misshapen f) = absurd (not_both e f)
  one_load (sound e n t) (is_barren {x = y} f l) = let g = n y l.is_name in absurd (l.barren g.0 g.1)
  one_load (sound e n t) (is_tied {a = a} {b = b} f m u) = absurd (not_both u.is (t a b))
  one_load (sound e n t) (sound f m u) = refl

  -- a sheet that is refused does not load
  clash : {A : Type 0} {r : Refusal} → Loads s (refused r) → Loads s done → A
  clash l k = refused_done (one_load l k)

-- ---- the four questions

module _ (s work : List ℕ) where
  pub one_check : {a b : Answer} {u v : ℕ} → Checked s work a u → Checked s work b v → (a ≡ b) × (u ≡ v)
  one_check (Checked.unsound l) (Checked.unsound k) = (one_load s l k, refl)
  one_check (Checked.unsound l) (Checked.no_scratch k m) = clash s l k
  one_check (Checked.unsound l) (walked k m t e d) = clash s l k
  one_check (Checked.no_scratch l n) (Checked.unsound k) = clash s k l
  one_check (Checked.no_scratch l n) (Checked.no_scratch k m) = (refl, refl)
  one_check (Checked.no_scratch l n) (walked k m t e d) = absurd (omega arith)
  one_check (walked l n t e d) (Checked.unsound k) = clash s k l
  one_check (walked l n t e d) (Checked.no_scratch k m) = absurd (omega arith)
  one_check (walked l n t e d) (walked k m t' e' d') =
      let o = one_verdict (Judged (names_in (script_of s))) (judged_single (names_in (script_of s))) t t' in
      (sym e ∙ ap verdict_answer o.0 ∙ e', omega (arith, o.1))

module _ (s : List ℕ) (t : ℕ) where
  -- what has a fault is not of the type
  apart_fit : {x : ℕ} → in_table (script_of s).types t ≡ true → Loads s done → FaultOf s t x → Of (names_in (script_of s)) (declared (script_of s) t) (forest_of (grove_of s)) → ⊥
  apart_fit e (sound d n u) w = fault_bars s d t e u w

  pub one_fit : {a b : Answer} → Fitted s t a → Fitted s t b → a ≡ b
  one_fit (no_row e) (no_row f) = refl
  one_fit (no_row e) (Fitted.unsound f k) = absurd (not_both f e)
  one_fit (no_row e) (fits f k p) = absurd (not_both f e)
  one_fit (no_row e) (misfits f k p) = absurd (not_both f e)
  one_fit (Fitted.unsound e l) (no_row f) = absurd (not_both e f)
  one_fit (Fitted.unsound e l) (Fitted.unsound f k) = one_load s l k
  one_fit (Fitted.unsound e l) (fits f k p) = clash s l k
  one_fit (Fitted.unsound e l) (misfits f k p) = clash s l k
  one_fit (fits e l o) (no_row f) = absurd (not_both e f)
  one_fit (fits e l o) (Fitted.unsound f k) = clash s k l
  one_fit (fits e l o) (fits f k p) = refl
  one_fit (fits e l o) (misfits f k p) = absurd (apart_fit e l p o)
  one_fit (misfits e l o) (no_row f) = absurd (not_both e f)
  one_fit (misfits e l o) (Fitted.unsound f k) = clash s k l
  one_fit (misfits e l o) (fits f k p) = absurd (apart_fit e l o p)
  one_fit (misfits e (sound d n u) o) (misfits f k p) = ap (λ x. refused (unfit x)) (one_fault s d t e u o p)

module _ (s work result : List ℕ) where
  -- a run that is refused by its walk gives nothing
  apart : {A : Type 0} {r : Refusal} {f : Forest} → verdict_answer (run_settled s).verdict ≡ refused r → (run_settled s).verdict ≡ gives f → A
  apart e g = refused_done (sym (rw g at e))

  pub one_run : {a b : Answer} {u v r q : ℕ} {o p : List ℕ} → Ran s work result a u r o → Ran s work result b v q p → (a ≡ b) × (u ≡ v) × (r ≡ q) × (o ≡ p)
  one_run (Ran.unsound l) (Ran.unsound k) = (one_load s l k, refl, refl, refl)
  one_run (Ran.unsound l) (Ran.no_scratch k m) = clash s l k
  one_run (Ran.unsound l) (ended k m e d) = clash s l k
  one_run (Ran.unsound l) (no_room k m g d x) = clash s l k
  one_run (Ran.unsound l) (gave k m g d x y z) = clash s l k
  one_run (Ran.no_scratch l n) (Ran.unsound k) = clash s k l
  one_run (Ran.no_scratch l n) (Ran.no_scratch k m) = (refl, refl, refl, refl)
  one_run (Ran.no_scratch l n) (ended k m e d) = absurd (omega arith)
  one_run (Ran.no_scratch l n) (no_room k m g d x) = absurd (omega arith)
  one_run (Ran.no_scratch l n) (gave k m g d x y z) = absurd (omega arith)
  one_run (ended l n e d) (Ran.unsound k) = clash s k l
  one_run (ended l n e d) (Ran.no_scratch k m) = absurd (omega arith)
  one_run (ended l n e d) (ended k m e' d') = (sym e ∙ e', omega arith, refl, refl)
  one_run (ended l n e d) (no_room k m g d' x) = apart e g
  one_run (ended l n e d) (gave k m g d' x y z) = apart e g
  one_run (no_room l n g d x) (Ran.unsound k) = clash s k l
  one_run (no_room l n g d x) (Ran.no_scratch k m) = absurd (omega arith)
  one_run (no_room l n g d x) (ended k m e d') = apart e g
  one_run (no_room l n g d x) (no_room k m g' d' x') = (refl, omega arith, refl, refl)
  one_run (no_room {f = f} l n g d x) (gave {f = f'} k m g' d' x' y z) = let e : forest_size f ≡ forest_size f' = cc in absurd (omega arith)
  one_run (gave l n g d x y z) (Ran.unsound k) = clash s k l
  one_run (gave l n g d x y z) (Ran.no_scratch k m) = absurd (omega arith)
  one_run (gave l n g d x y z) (ended k m e d') = apart e g
  one_run (gave {f = f} l n g d x y z) (no_room {f = f'} k m g' d' x') = let e : forest_size f ≡ forest_size f' = cc in absurd (omega arith)
  one_run (gave l n g d x y z) (gave k m g' d' x' y' z') = (refl, omega arith, cc, cc)

  pub one_apply : {a b : Answer} {u v c d r q : ℕ} {o p : List ℕ} → Applied s work result a u c r o → Applied s work result b v d q p
      → (a ≡ b) × (u ≡ v) × (c ≡ d) × (r ≡ q) × (o ≡ p)
  one_apply (unchecked k) (unchecked k') = let e = one_check s work k k' in (e.0, e.1, refl, refl, refl)
  one_apply (unchecked k) (unfitted k' f') = refused_done (one_check s work k k').0
  one_apply (unchecked k) (applied k' f' n') = refused_done (one_check s work k k').0
  one_apply (unfitted k f) (unchecked k') = refused_done (one_check s work k' k).0
  one_apply (unfitted k f) (unfitted k' f') = (one_fit s (script_of s).a f f', (one_check s work k k').1, refl, refl, refl)
  one_apply (unfitted k f) (applied k' f' n') = refused_done (one_fit s (script_of s).a f f')
  one_apply (applied k f n) (unchecked k') = refused_done (one_check s work k' k).0
  one_apply (applied k f n) (unfitted k' f') = refused_done (one_fit s (script_of s).a f' f)
  one_apply (applied k f n) (applied k' f' n') = let e = one_run n n' in (e.0, (one_check s work k k').1, e.1, e.2, e.3)

-- ---- whole replies, every lent byte

reply_path : {R S : Reply} → R.answer ≡ S.answer → R.check_units ≡ S.check_units → R.run_units ≡ S.run_units → R.root ≡ S.root → R.result ≡ S.result → R.work ≡ S.work → R ≡ S
reply_path a u v r o w = λ i. record { answer = a i; check_units = u i; run_units = v i; root = r i; result = o i; work = w i }

pub one_check_reply : (s work : List ℕ) → One (CheckReply s work)
one_check_reply s work R S k h = let e = one_check s work k.said h.said in reply_path e.0 e.1 (cc) (cc) (cc) (cc)

pub one_fit_reply : (s : List ℕ) (t : ℕ) → One (FitReply s t)
one_fit_reply s t R S k h = reply_path (one_fit s t k.said h.said) (cc) (cc) (cc) (cc) (cc)

pub one_run_reply : (s work result : List ℕ) → One (RunReply s work result)
one_run_reply s work result R S k h = let e = one_run s work result k.said h.said in reply_path e.0 (cc) e.1 e.2 e.3 (cc)

pub one_apply_reply : (s work result : List ℕ) → One (ApplyReply s work result)
one_apply_reply s work result R S k h = let e = one_apply s work result k.said h.said in reply_path e.0 e.1 e.2 e.3 e.4 (cc)

-- ---- of a bundle

module _ (b work result : List ℕ) where
  bundle_one : (Asked : List ℕ → Reply → Type 0) → One (Asked (sheet_in b)) → One (OfBundle b work result Asked)
  bundle_one Asked one R S (unframed e) (unframed f) = refl
  bundle_one Asked one R S (unframed e) (opened f h) = absurd (not_both f e)
  bundle_one Asked one R S (opened e k) (unframed f) = absurd (not_both e f)
  bundle_one Asked one R S (opened e k) (opened f h) = one R S k h

  pub one_bundle_check : One (OfBundle b work result (λ s. CheckReply s work))
  one_bundle_check = bundle_one (λ s. CheckReply s work) (one_check_reply (sheet_in b) work)

  pub one_bundle_fit : (t : ℕ) → One (OfBundle b work result (λ s. FitReply s t))
  one_bundle_fit t = bundle_one (λ s. FitReply s t) (one_fit_reply (sheet_in b) t)

  pub one_bundle_run : One (OfBundle b work result (λ s. RunReply s work result))
  one_bundle_run = bundle_one (λ s. RunReply s work result) (one_run_reply (sheet_in b) work result)

  pub one_bundle_apply : One (OfBundle b work result (λ s. ApplyReply s work result))
  one_bundle_apply = bundle_one (λ s. ApplyReply s work result) (one_apply_reply (sheet_in b) work result)

-- ---- what the program tells, step by step

-- a check that is done has loaded
pub done_loads : {s work : List ℕ} {u : ℕ} → Checked s work done u → Loads s done
done_loads (walked l n t e d) = l

module _ (b : List ℕ) where
  abbrev after_run : ℕ → Answer × ℕ × ℕ × List ℕ → Told → Type 0
  after_run u x t = elim x.0 as (λ a. Type 0) [ done ↦ t ≡ all_done u x.1 x.2 x.3 | refused r ↦ t ≡ run_ended u r x.1 ]

  abbrev is_run : Answer × ℕ × ℕ × List ℕ → Type 0
  is_run x = Ran (sheet_in b) lent_work lent_result x.0 x.1 x.2 x.3

  abbrev after_fit : ℕ → Answer → Told → Type 0
  after_fit u done = Step is_run (after_run u)
  after_fit u (refused r) = λ t. t ≡ fit_ended u r

  abbrev is_fit : Answer → Type 0
  is_fit a = Fitted (sheet_in b) (script_of (sheet_in b)).a a

  abbrev after_check : Answer × ℕ → Told → Type 0
  after_check x = elim x.0 as (λ a. Told → Type 0) [ done ↦ Step is_fit (after_fit x.1) | refused r ↦ λ t. t ≡ check_ended r x.1 ]

  abbrev is_check : Answer × ℕ → Type 0
  is_check x = Checked (sheet_in b) lent_work x.0 x.1

  abbrev after_load : Answer → Told → Type 0
  after_load done = Step is_check after_check
  after_load (refused r) = λ t. t ≡ loaded r

  abbrev after_frame : Bool → Told → Type 0
  after_frame true = Step (Loads (sheet_in b)) after_load
  after_frame false = λ t. t ≡ loaded block

  abbrev is_framed : Bool → Type 0
  is_framed f = framed b ≡ f

  tells_steps : {t : Told} → Tells b t → Step is_framed after_frame t
  tells_steps (not_framed e) = (false, e, refl)
  tells_steps (not_loaded {r = r} e l) = (true, e, (refused r, l, refl))
  tells_steps (not_checked {r = r} {u = u} e l c) = (true, e, (done, l, ((refused r, u), c, refl)))
  tells_steps (not_fit {r = r} {u = u} e c f) = (true, e, (done, done_loads c, ((done, u), c, (refused r, f, refl))))
  tells_steps (not_run {r = r} {u = u} {v = v} {root = q} {after = o} e c f n) = (true, e, (done, done_loads c, ((done, u), c, (done, f, ((refused r, v, q, o), n, refl)))))
  tells_steps (told {u = u} {v = v} {root = q} {after = o} e c f n) = (true, e, (done, done_loads c, ((done, u), c, (done, f, ((done, v, q, o), n, refl)))))

  run_one : (u : ℕ) (a : Answer) (v r : ℕ) (o : List ℕ) → One (after_run u (a, v, r, o))
  run_one u done v r o = is_one _
  run_one u (refused c) v r o = is_one _

  fit_one : (u : ℕ) (a : Answer) → One (after_fit u a)
  fit_one u done = step_one is_run (after_run u) (λ x y k h. let e = one_run (sheet_in b) lent_work lent_result k h in λ i. (e.0 i, e.1 i, e.2 i, e.3 i))
      (λ x. run_one u x.0 x.1 x.2 x.3)
  fit_one u (refused r) = is_one _

  check_one : (a : Answer) (u : ℕ) → One (after_check (a, u))
  check_one done u = step_one is_fit (after_fit u) (λ x y k h. one_fit (sheet_in b) (script_of (sheet_in b)).a k h) (fit_one u)
  check_one (refused r) u = is_one _

  load_one : (a : Answer) → One (after_load a)
  load_one done = step_one is_check after_check (λ x y k h. let e = one_check (sheet_in b) lent_work k h in λ i. (e.0 i, e.1 i)) (λ x. check_one x.0 x.1)
  load_one (refused r) = is_one _

  frame_one : (f : Bool) → One (after_frame f)
  frame_one true = step_one (Loads (sheet_in b)) after_load (λ x y k h. one_load (sheet_in b) k h) load_one
  frame_one false = is_one _

  pub one_telling : One (Tells b)
  one_telling t u k h = step_one is_framed after_frame (λ x y p q. cc) frame_one t u (tells_steps k) (tells_steps h)
