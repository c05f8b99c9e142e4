-- Laws of walks, for run and check alike: one verdict, more fuel, what is left, sequencing, and two closure schemes.
use Prim.Native.Nat.{ℕ, zero, suc, ◌+◌, ◌≤◌, ◌<◌}
use Rattle.std.specs.Prelude.{◌≡◌, refl}
use Rattle.std.proofs.Common.{sym, ◌∙◌, ap, subst, add-one}
use native.Mathlib.Omega.{arith}
use Rattle.meaning.specs.Walk.{Stop, Walk, ret, halt, tick, ask, ◌>>=◌, pay, Judgement, pass, stop, Verdict, gives, fuel, stops, Settles, done}
use Rattle.meaning.specs.Walk.{halted, short, paid, passed, refused, Quiet, Unasked, settle, due}

module _ {A : Type 0} where
  -- a verdict that is not Fuel
  abbrev pub Other : Verdict A → Type 0
  Other (gives x) = Unit {0}
  Other fuel = ⊥
  Other (stops h) = Unit {0}

-- the judge of the questions says one thing of each
abbrev pub Single : {Q : Type 0} → (Q → Judgement → Type 0) → Type 0
Single {Q} J = (q : Q) (j k : Judgement) → J q j → J q k → j ≡ k

module _ {Q : Type 0} (J : Q → Judgement → Type 0) {A : Type 0} where
  -- two verdicts on one walk and one purse are equal, and so is what they leave
  pub one_verdict : Single J → {w : Walk Q A} {n : ℕ} {v v' : Verdict A} {m m' : ℕ} → Settles J w n v m → Settles J w n v' m' → (v ≡ v') × (m ≡ m')
  one_verdict one done done = (refl, refl)
  one_verdict one halted halted = (refl, refl)
  one_verdict one short short = (refl, refl)
  one_verdict one (paid s) (paid t) = one_verdict one s t
  one_verdict one (passed j s) (passed k t) = one_verdict one s t
  one_verdict one (passed {q = q} j s) (refused {h = h} k) = let e : pass ≡ stop h = one q pass (stop h) j k in let z : ◌≡◌ {A = ℕ} 0 1 = cc in absurd (omega arith)
  one_verdict one (refused {q = q} {h = h} j) (passed k t) = let e : pass ≡ stop h = one q pass (stop h) k j in let z : ◌≡◌ {A = ℕ} 0 1 = cc in absurd (omega arith)
  one_verdict one (refused {q = q} {h = h} j) (refused {h = g} k) = let e : stop h ≡ stop g = one q (stop h) (stop g) j k in let z : h ≡ g = cc in (ap stops z, refl)

  -- more fuel: the same verdict, the same units
  pub steady : {w : Walk Q A} {n m : ℕ} {v : Verdict A} (c : ℕ) → Settles J w n v m → Other v → Settles J w (n + c) v (m + c)
  steady c done o = done
  steady c halted o = halted
  steady c short o = absurd o
  steady c (paid {n = n} s) o = let e : suc n + c ≡ suc (n + c) = omega arith in rw e (paid (steady c s o))
  steady c (passed j s) o = passed j (steady c s o)
  steady c (refused j) o = refused j

  -- what is left is of the purse
  pub within_purse : {w : Walk Q A} {n m : ℕ} {v : Verdict A} → Settles J w n v m → m ≤ n
  within_purse done = omega arith
  within_purse halted = omega arith
  within_purse short = omega arith
  within_purse (paid s) = omega (arith, within_purse s)
  within_purse (passed j s) = within_purse s
  within_purse (refused j) = omega arith

  -- Fuel leaves nothing
  pub fuel_all : {w : Walk Q A} {n m : ℕ} → Settles J w n fuel m → m ≡ 0
  fuel_all short = refl
  fuel_all (paid s) = fuel_all s
  fuel_all (passed j s) = fuel_all s

  -- n units fall due: paid, or Fuel
  pub pay_paid : (k : ℕ) {w : Walk Q A} {n m : ℕ} {v : Verdict A} → Settles J w n v m → Settles J (pay k w) (k + n) v m
  unfolding pay
  pay_paid zero {n = n} s = let e : 0 + n ≡ n = omega arith in rw e s
  pay_paid (suc k) {n = n} s = let e : suc k + n ≡ suc (k + n) = omega arith in rw e (paid (pay_paid k s))

  pub pay_short : (k n : ℕ) (w : Walk Q A) → n < k → Settles J (pay k w) n fuel 0
  unfolding pay
  pay_short zero n w l = absurd (omega arith)
  pay_short (suc k) zero w l = short
  pay_short (suc k) (suc n) w l = paid (pay_short k n w (omega arith))

-- one walk, then another
module _ {Q : Type 0} (J : Q → Judgement → Type 0) {A B : Type 0} (k : A → Walk Q B) where
  pub gives_then : {w : Walk Q A} {n l m : ℕ} {x : A} {v : Verdict B} → Settles J w n (gives x) l → Settles J (k x) l v m → Settles J (w >>= k) n v m
  unfolding ◌>>=◌
  gives_then done t = t
  gives_then (paid s) t = paid (gives_then s t)
  gives_then (passed j s) t = passed j (gives_then s t)

  pub stops_then : {w : Walk Q A} {n m : ℕ} {h : Stop} → Settles J w n (stops h) m → Settles J (w >>= k) n (stops h) m
  unfolding ◌>>=◌
  stops_then halted = halted
  stops_then (paid s) = paid (stops_then s)
  stops_then (passed j s) = passed j (stops_then s)
  stops_then (refused j) = refused j

  pub fuel_then : {w : Walk Q A} {n m : ℕ} → Settles J w n fuel m → Settles J (w >>= k) n fuel m
  unfolding ◌>>=◌
  fuel_then short = short
  fuel_then (paid s) = paid (fuel_then s)
  fuel_then (passed j s) = passed j (fuel_then s)

pub then_ret : {Q A : Type 0} (w : Walk Q A) → (w >>= λ x. ret x) ≡ w
unfolding ◌>>=◌
then_ret (ret x) = refl
then_ret (halt h) = refl
then_ret (tick w) = ap tick (then_ret w)
then_ret (ask q w) = ap (ask q) (then_ret w)

pub then_assoc : {Q A B C : Type 0} (w : Walk Q A) (k : A → Walk Q B) (l : B → Walk Q C) → (w >>= k >>= l) ≡ (w >>= λ x. k x >>= l)
unfolding ◌>>=◌
then_assoc (ret x) k l = refl
then_assoc (halt h) k l = refl
then_assoc (tick w) k l = ap tick (then_assoc w k l)
then_assoc (ask q w) k l = ap (ask q) (then_assoc w k l)

pub pay_then : {Q A B : Type 0} (n : ℕ) (w : Walk Q A) (k : A → Walk Q B) → (pay n w >>= k) ≡ pay n (w >>= k)
unfolding ◌>>=◌ pay
pay_then zero w k = refl
pay_then (suc n) w k = ap tick (pay_then n w k)

-- ---- a run's walk: the relation is a function

pub settle_settles : {A : Type 0} (w : Quiet A) (n : ℕ) → Settles Unasked w n (settle w n).verdict (settle w n).left
unfolding settle
settle_settles (ret x) n = done
settle_settles (halt h) n = halted
settle_settles (tick w) zero = short
settle_settles (tick w) (suc n) = paid (settle_settles w n)
settle_settles (ask q w) n = absurd q

pub unasked_single : Single Unasked
unasked_single q j k x y = absurd x

pub settles_settle : {A : Type 0} (w : Quiet A) (n m : ℕ) (v : Verdict A) → Settles Unasked w n v m → ((settle w n).verdict ≡ v) × ((settle w n).left ≡ m)
settles_settle w n m v s = one_verdict Unasked unasked_single (settle_settles w n) s

-- Fuel, if and only if more falls due than the purse holds; else all of it is paid
pub due_short : {A : Type 0} {w : Quiet A} {n m : ℕ} → Settles Unasked w n fuel m → n < due w
unfolding due
due_short short = omega arith
due_short (paid s) = omega (arith, due_short s)
due_short (passed {q = q} j s) = absurd q

pub due_paid : {A : Type 0} {w : Quiet A} {n m : ℕ} {v : Verdict A} → Settles Unasked w n v m → Other v → due w + m ≡ n
unfolding due
due_paid done o = omega arith
due_paid halted o = omega arith
due_paid short o = absurd o
due_paid (paid s) o = omega (arith, due_paid s o)
due_paid (passed {q = q} j s) o = absurd q
due_paid (refused {q = q} j) o = absurd q

-- ---- closure: if the questions pass, what is given has P

module _ {Q : Type 0} (J : Q → Judgement → Type 0) where
  unfoldable pub All : {A : Type 0} → (A → Type 0) → Walk Q A → Type 0
  All P (ret x) = P x
  All P (halt h) = Unit {0}
  All P (tick w) = All P w
  All P (ask q w) = J q pass → All P w

  pub all_given : {A : Type 0} (P : A → Type 0) {w : Walk Q A} {n m : ℕ} {x : A} → Settles J w n (gives x) m → All P w → P x
  unfolding All
  all_given P done h = h
  all_given P (paid s) h = all_given P s h
  all_given P (passed j s) h = all_given P s (h j)

  pub all_then : {A B : Type 0} (P : A → Type 0) (R : B → Type 0) (w : Walk Q A) (k : A → Walk Q B) → All P w → ((x : A) → P x → All R (k x)) → All R (w >>= k)
  unfolding All ◌>>=◌
  all_then P R (ret x) k h f = f x h
  all_then P R (halt s) k h f = tt
  all_then P R (tick w) k h f = all_then P R w k h f
  all_then P R (ask q w) k h f = λ j. all_then P R w k (h j) f

  pub all_map : {A : Type 0} (P R : A → Type 0) (w : Walk Q A) → All P w → ((x : A) → P x → R x) → All R w
  unfolding All
  all_map P R (ret x) h f = f x h
  all_map P R (halt s) h f = tt
  all_map P R (tick w) h f = all_map P R w h f
  all_map P R (ask q w) h f = λ j. all_map P R w (h j) f

  pub all_pay : {A : Type 0} (P : A → Type 0) (n : ℕ) (w : Walk Q A) → All P w → All P (pay n w)
  unfolding All pay
  all_pay P zero w h = h
  all_pay P (suc n) w h = all_pay P n w h

  -- ---- and: every question is met (`Met`), what is given has P, and only such stops as F allows are met
  module _ (F : Stop → Type 0) (Met : Q → Type 0) where
    abbrev pub Fair : {A : Type 0} → (A → Type 0) → Verdict A → Type 0
    Fair P (gives x) = P x
    Fair P fuel = Unit {0}
    Fair P (stops h) = F h

    unfoldable pub Safe : {A : Type 0} → (A → Type 0) → Walk Q A → Type 0
    Safe P (ret x) = P x
    Safe P (halt h) = F h
    Safe P (tick w) = Safe P w
    Safe P (ask q w) = Met q × Safe P w

    pub safe_fair : ((q : Q) (h : Stop) → Met q → J q (stop h) → F h) → {A : Type 0} (P : A → Type 0) {w : Walk Q A} {n m : ℕ} {v : Verdict A} → Settles J w n v m → Safe P w → Fair P v
    unfolding Safe
    safe_fair ok P done h = h
    safe_fair ok P halted h = h
    safe_fair ok P short h = tt
    safe_fair ok P (paid s) h = safe_fair ok P s h
    safe_fair ok P (passed j s) h = safe_fair ok P s h.1
    safe_fair ok P (refused {q = q} {h = g} j) h = ok q g h.0 j

    pub safe_then : {A B : Type 0} (P : A → Type 0) (R : B → Type 0) (w : Walk Q A) (k : A → Walk Q B) → Safe P w → ((x : A) → P x → Safe R (k x)) → Safe R (w >>= k)
    unfolding Safe ◌>>=◌
    safe_then P R (ret x) k h f = f x h
    safe_then P R (halt s) k h f = h
    safe_then P R (tick w) k h f = safe_then P R w k h f
    safe_then P R (ask q w) k h f = (h.0, safe_then P R w k h.1 f)

    pub safe_pay : {A : Type 0} (P : A → Type 0) (n : ℕ) (w : Walk Q A) → Safe P w → Safe P (pay n w)
    unfolding Safe pay
    safe_pay P zero w h = h
    safe_pay P (suc n) w h = safe_pay P n w h

    pub safe_map : {A : Type 0} (P R : A → Type 0) (w : Walk Q A) → Safe P w → ((x : A) → P x → R x) → Safe R w
    unfolding Safe
    safe_map P R (ret x) h f = f x h
    safe_map P R (halt s) h f = h
    safe_map P R (tick w) h f = safe_map P R w h f
    safe_map P R (ask q w) h f = (h.0, safe_map P R w h.1 f)

-- ---- one walk leads to another: whatever the second settles to, the first does

module _ {Q : Type 0} (J : Q → Judgement → Type 0) {A : Type 0} where
  abbrev pub Leads : Walk Q A → ℕ → Walk Q A → ℕ → Type 0
  Leads w left w' left' = (v : Verdict A) (m : ℕ) → Settles J w' left' v m → Settles J w left v m

  pub leads_tick : (w : Walk Q A) (left left' : ℕ) → left' + 1 ≡ left → Leads (tick w) left w left'
  leads_tick w left left' e = λ v m s. subst (λ (n : ℕ). Settles J (tick w) n v m) (sym (add-one left') ∙ e) (paid s)

  pub leads_pay : (k : ℕ) (w : Walk Q A) (left left' : ℕ) → left' + k ≡ left → Leads (pay k w) left w left'
  leads_pay k w left left' e =
      let sum : k + left' ≡ left = omega arith in
      λ v m s. subst (λ (n : ℕ). Settles J (pay k w) n v m) sum (pay_paid J k s)

pub leads_then : {Q : Type 0} (J : Q → Judgement → Type 0) {A B : Type 0} {w : Walk Q A} {left left' : ℕ} {x : A} (k : A → Walk Q B) → Settles J w left (gives x) left'
    → Leads J (w >>= k) left (k x) left'
leads_then J k s = λ v m t. gives_then J k s t
