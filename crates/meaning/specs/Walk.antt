-- A walk: what a run or a check does, row by row, before any purse is looked at. Units fall due (`tick`), questions are asked (`ask`), and
-- a rule may stop it (`halt`).
-- A purse is laid over it once, here, for run and check alike: `Settles`. Nothing but an empty purse can say Fuel.
use Rattle.std.specs.Prelude.{ℕ, zero, suc}

-- the row whose rule asks, with 1 for a query, 2 for a statement; a declared output: 0 and 0
pub record Place : Type 0 where
  pub row : ℕ
  pub flag : ℕ

abbrev pub of_query : ℕ → Place
of_query i = record { row = i; flag = 1 }

abbrev pub of_statement : ℕ → Place
of_statement i = record { row = i; flag = 2 }

abbrev pub of_output : Place
of_output = record { row = 0; flag = 0 }

-- what ends a walk besides an empty purse: refusals 6, 7, 8, 9 and 11
pub data Stop : Type 0 where
  depth : Stop
  wide mismatch outside stuck : Place → Stop

pub data Walk (Q A : Type 0) : Type 0 where
  ret : A → Walk Q A
  halt : Stop → Walk Q A
  tick : Walk Q A → Walk Q A
  ask : Q → Walk Q A → Walk Q A

infixl 20 ◌>>=◌
unfoldable pub ◌>>=◌ : {Q A B : Type 0} → Walk Q A → (A → Walk Q B) → Walk Q B
ret x >>= k = k x
halt h >>= k = halt h
tick w >>= k = tick (w >>= k)
ask q w >>= k = ask q (w >>= k)

-- n units fall due, one at a time
unfoldable pub pay : {Q A : Type 0} → ℕ → Walk Q A → Walk Q A
pay zero w = w
pay (suc n) w = tick (pay n w)

-- a question passes, or stops the walk
pub data Judgement : Type 0 where
  pass : Judgement
  stop : Stop → Judgement

pub data Verdict (A : Type 0) : Type 0 where
  gives : A → Verdict A
  fuel : Verdict A
  stops : Stop → Verdict A

-- a walk begun with n units in the purse ends in v with m units left
module _ {Q : Type 0} (Judged : Q → Judgement → Type 0) where
  pub data Settles {A : Type 0} : Walk Q A → ℕ → Verdict A → ℕ → Type 0 where
    done : {x : A} {n : ℕ} → Settles (ret x) n (gives x) n
    halted : {h : Stop} {n : ℕ} → Settles (halt h) n (stops h) n
    short : {w : Walk Q A} → Settles (tick w) zero fuel zero
    paid : {w : Walk Q A} {n m : ℕ} {v : Verdict A} → Settles w n v m → Settles (tick w) (suc n) v m
    passed : {q : Q} {w : Walk Q A} {n m : ℕ} {v : Verdict A} → Judged q pass → Settles w n v m → Settles (ask q w) n v m
    refused : {q : Q} {w : Walk Q A} {h : Stop} {n : ℕ} → Judged q (stop h) → Settles (ask q w) n (stops h) n

-- a run asks nothing: its questions are of the empty type, and its verdict and what is left are computed
abbrev pub Quiet : Type 0 → Type 0
Quiet A = Walk ⊥ A

abbrev pub Unasked : ⊥ → Judgement → Type 0
Unasked q j = ⊥

pub record Settled (A : Type 0) : Type 0 where
  pub verdict : Verdict A
  pub left : ℕ

unfoldable pub settle : {A : Type 0} → Quiet A → ℕ → Settled A
settle (ret x) n = record { verdict = gives x; left = n }
settle (halt h) n = record { verdict = stops h; left = n }
settle (tick w) zero = record { verdict = fuel; left = 0 }
settle (tick w) (suc n) = settle w n
settle (ask q w) n = absurd q

-- the units that fall due in it before it ends, however it ends
unfoldable pub due : {A : Type 0} → Quiet A → ℕ
due (ret x) = 0
due (halt h) = 0
due (tick w) = suc (due w)
due (ask q w) = absurd q
