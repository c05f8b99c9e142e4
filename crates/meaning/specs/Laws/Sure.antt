-- Walks that give one value for one number of units, wherever purse and levels suffice: what one walk costs (`Costs`), and families of walks
-- by their levels of depth (`Priced`, and `Sure` for some price), with a law for each way that a walk is put together.
use Prim.Native.Nat.{ℕ, zero, suc, ◌+◌, max, ◌≤◌, ◌<◌}
use Rattle.std.specs.Prelude.{◌≡◌, refl}
use Rattle.std.proofs.Math.Path.{sym}
use Rattle.std.proofs.Common.{◌∙◌, subst}
use native.Mathlib.Omega.{arith}
use Rattle.meaning.specs.Walk.{Stop, depth, wide, mismatch, outside, stuck, Walk, ret, halt, tick, ask, ◌>>=◌, pay, Judgement, stop}
use Rattle.meaning.specs.Walk.{Verdict, gives, fuel, stops, Settles, done, halted, short, paid, passed, refused, Quiet, Unasked}

-- the stops that say nothing against a script: Depth where D allows it, Wide where W does
abbrev pub Spent : Type 0 → Type 0 → Stop → Type 0
Spent W D depth = D
Spent W D (wide at) = W
Spent W D (mismatch at) = ⊥
Spent W D (outside at) = ⊥
Spent W D (stuck at) = ⊥

spent_map : {W U D E : Type 0} → (W → U) → (D → E) → (h : Stop) → Spent W D h → Spent U E h
spent_map f g depth s = g s
spent_map f g (wide at) s = f s
spent_map f g (mismatch at) s = s
spent_map f g (outside at) s = s
spent_map f g (stuck at) s = s

unspent : {D : Type 0} → (D → ⊥) → (h : Stop) → Spent ⊥ D h → ⊥
unspent f depth s = f s
unspent f (wide at) s = s
unspent f (mismatch at) s = s
unspent f (outside at) s = s
unspent f (stuck at) s = s

module _ {A : Type 0} (F : Stop → Type 0) (x : A) where
  -- it gives x, or the purse was short, or F allows the stop
  abbrev pub Found : Verdict A → Type 0
  Found (gives y) = y ≡ x
  Found fuel = Unit {0}
  Found (stops h) = F h

  -- and: it gives x for just u of its n units, and the purse was short only if n is less
  abbrev pub Ended : ℕ → ℕ → Verdict A → ℕ → Type 0
  Ended u n (gives y) m = (y ≡ x) × (n ≡ u + m)
  Ended u n fuel m = n < u
  Ended u n (stops h) m = F h

  ended_more : (u n : ℕ) (v : Verdict A) (m : ℕ) → Ended u n v m → Ended (suc u) (suc n) v m
  ended_more u n (gives y) m e = (e.0, omega (arith, e.1))
  ended_more u n fuel m e = omega arith
  ended_more u n (stops h) m e = e

pub ended_found : {A : Type 0} (W D : Type 0) (x : A) (u n : ℕ) (v : Verdict A) (m : ℕ) → Ended (Spent W D) x u n v m → Found (Spent W (Unit {0})) x v
ended_found W D x u n (gives y) m e = e.0
ended_found W D x u n fuel m e = tt
ended_found W D x u n (stops h) m e = spent_map (λ w. w) (λ d. tt) h e

-- ---- what one walk costs

module _ {Q : Type 0} (Met : Q → Type 0) {A : Type 0} (F : Stop → Type 0) (x : A) where
  -- every question is met, and it gives x after u units, if no halt that F allows comes before
  unfoldable pub Costs : ℕ → Walk Q A → Type 0
  Costs u (ret y) = (u ≡ 0) × (y ≡ x)
  Costs u (halt h) = F h
  Costs zero (tick w) = ⊥
  Costs (suc u) (tick w) = Costs u w
  Costs u (ask q w) = Met q × Costs u w

  -- as a met question stops a walk only as F allows
  pub costs_ended : (J : Q → Judgement → Type 0) → ((q : Q) (h : Stop) → Met q → J q (stop h) → F h)
      → {w : Walk Q A} {n m : ℕ} {v : Verdict A} → Settles J w n v m → (u : ℕ) → Costs u w → Ended F x u n v m
  unfolding Costs
  costs_ended J ok (done {n = n}) u c = (c.1, omega (arith, c.0))
  costs_ended J ok halted u c = c
  costs_ended J ok short zero c = absurd c
  costs_ended J ok short (suc u) c = omega arith
  costs_ended J ok (paid s) zero c = absurd c
  costs_ended J ok (paid {n = n} {m = m} {v = v} s) (suc u) c = ended_more F x u n v m (costs_ended J ok s u c)
  costs_ended J ok (passed j s) u c = costs_ended J ok s u c.1
  costs_ended J ok (refused {q = q} {h = h} j) u c = ok q h c.0 j

module _ {Q : Type 0} (Met : Q → Type 0) (F : Stop → Type 0) where
  pub costs_then : {A B : Type 0} (x : A) (y : B) (u v : ℕ) (w : Walk Q A) (k : A → Walk Q B) → Costs Met F x u w → Costs Met F y v (k x) → Costs Met F y (u + v) (w >>= k)
  unfolding Costs ◌>>=◌
  costs_then x y u v (ret z) k a b = let e : u + v ≡ v = omega (arith, a.0) in rw (e, a.1) b
  costs_then x y u v (halt h) k a b = a
  costs_then x y zero v (tick w) k a b = absurd a
  costs_then x y (suc u) v (tick w) k a b = let e : suc u + v ≡ suc (u + v) = omega arith in rw e (costs_then x y u v w k a b)
  costs_then x y u v (ask q w) k a b = (a.0, costs_then x y u v w k a.1 b)

  costs_pay : {A : Type 0} (x : A) (k u : ℕ) (w : Walk Q A) → Costs Met F x u w → Costs Met F x (k + u) (pay k w)
  unfolding Costs pay
  costs_pay x zero u w c = let e : 0 + u ≡ u = omega arith in rw e c
  costs_pay x (suc k) u w c = let e : suc k + u ≡ suc (k + u) = omega arith in rw e (costs_pay x k u w c)

  costs_map : {A : Type 0} (G : Stop → Type 0) → ((h : Stop) → F h → G h) → (x : A) (u : ℕ) (w : Walk Q A) → Costs Met F x u w → Costs Met G x u w
  unfolding Costs
  costs_map G f x u (ret y) c = c
  costs_map G f x u (halt h) c = f h c
  costs_map G f x zero (tick w) c = c
  costs_map G f x (suc u) (tick w) c = costs_map G f x u w c
  costs_map G f x u (ask q w) c = (c.0, costs_map G f x u w c.1)

  -- a walk without halts gives one value
  costs_one : ((h : Stop) → F h → ⊥) → (G : Stop → Type 0) {A : Type 0} (x y : A) (u v : ℕ) (w : Walk Q A) → Costs Met F x u w → Costs Met G y v w → x ≡ y
  unfolding Costs
  costs_one none G x y u v (ret z) a b = sym a.1 ∙ b.1
  costs_one none G x y u v (halt h) a b = absurd (none h a)
  costs_one none G x y zero v (tick w) a b = absurd a
  costs_one none G x y (suc u) zero (tick w) a b = absurd b
  costs_one none G x y (suc u) (suc v) (tick w) a b = costs_one none G x y u v w a b
  costs_one none G x y u v (ask q w) a b = costs_one none G x y u v w a.1 b.1

-- and a run's, units enough, settles so
costs_gives : (Met : ⊥ → Type 0) (F : Stop → Type 0) → ((h : Stop) → F h → ⊥) → {A : Type 0} (x : A) (u n : ℕ) (w : Quiet A) → Costs Met F x u w → Settles Unasked w (u + n) (gives x) n
unfolding Costs
costs_gives Met F none x u n (ret y) c = let e : u + n ≡ n = omega (arith, c.0) in rw (e, c.1) done
costs_gives Met F none x u n (halt h) c = absurd (none h c)
costs_gives Met F none x zero n (tick w) c = absurd c
costs_gives Met F none x (suc u) n (tick w) c = let e : suc u + n ≡ suc (u + n) = omega arith in rw e (paid (costs_gives Met F none x u n w c))
costs_gives Met F none x u n (ask q w) c = absurd q

-- ---- families of walks by their levels

module _ {Q : Type 0} (Met : Q → Type 0) {A : Type 0} where
  -- it gives x for these units at every depth, and there is no halt but Depth, where the levels are fewer than `deep`
  pub record Priced (x : A) (deep units : ℕ) (w : ℕ → Walk Q A) : Type 0 where
    pub costs : (d : ℕ) → Costs Met (Spent ⊥ (d < deep)) x units (w d)

  -- for some price
  pub record Sure (x : A) (w : ℕ → Walk Q A) : Type 0 where
    pub deep : ℕ
    pub units : ℕ
    pub priced : Priced x deep units w

module _ {Q : Type 0} {Met : Q → Type 0} {A : Type 0} where
  pub priced_ret : {x y : A} → y ≡ x → Priced Met x 0 0 (λ d. ret y)
  unfolding Costs
  priced_ret e = record { costs = λ d. (refl, e) }

  pub priced_tick : {x : A} {deep u : ℕ} {w : ℕ → Walk Q A} → Priced Met x deep u w → Priced Met x deep (suc u) (λ d. tick (w d))
  unfolding Costs
  priced_tick p = record { costs = p.costs }

  pub priced_pay : (k : ℕ) {x : A} {deep u : ℕ} {w : ℕ → Walk Q A} → Priced Met x deep u w → Priced Met x deep (k + u) (λ d. pay k (w d))
  priced_pay k {x} {u = u} {w} p = record { costs = λ d. costs_pay Met _ x k u (w d) (p.costs d) }

  pub priced_ask : (q : Q) → Met q → {x : A} {deep u : ℕ} {w : ℕ → Walk Q A} → Priced Met x deep u w → Priced Met x deep u (λ d. ask q (w d))
  unfolding Costs
  priced_ask q m p = record { costs = λ d. (m, p.costs d) }

  -- a row: one level and one unit
  pub priced_row : {x : A} {deep u : ℕ} {b : ℕ → Walk Q A} (r : ℕ → Walk Q A) → r 0 ≡ halt depth → ((d : ℕ) → r (suc d) ≡ tick (b d))
      → Priced Met x deep u b → Priced Met x (suc deep) (suc u) r
  unfolding Costs
  priced_row {x} {deep} {u} {b} r z more p = record { costs = at }
    where
      at : (d : ℕ) → Costs Met (Spent ⊥ (d < suc deep)) x (suc u) (r d)
      at zero = rw z (omega arith)
      at (suc d) = rw (more d) (costs_map Met _ _ (spent_map (λ e. e) (λ l. omega arith)) x u (b d) (p.costs d))

  -- the price by another name
  pub priced_as : {x : A} {deep deep' u v : ℕ} {w : ℕ → Walk Q A} → deep ≤ deep' → u ≡ v → Priced Met x deep u w → Priced Met x deep' v w
  priced_as {x} {deep} {deep'} {u} {v} {w} l e p = record { costs = at }
    where
      at : (d : ℕ) → Costs Met (Spent ⊥ (d < deep')) x v (w d)
      at d = subst (λ (n : ℕ). Costs Met (Spent ⊥ (d < deep')) x n (w d)) e (costs_map Met _ _ (spent_map (λ e. e) (λ k. omega arith)) x u (w d) (p.costs d))

pub priced_then : {Q : Type 0} {Met : Q → Type 0} {A B : Type 0} {x : A} {y : B} {deep deep' u v : ℕ} {w : ℕ → Walk Q A} (k : ℕ → A → Walk Q B)
    → Priced Met x deep u w → Priced Met y deep' v (λ d. k d x) → Priced Met y (max deep deep') (u + v) (λ d. w d >>= k d)
priced_then {Met = Met} {x = x} {y = y} {u = u} {v = v} {w = w} k p q = record {
  costs = λ d. costs_then Met _ x y u v (w d) (k d)
      (costs_map Met _ _ (spent_map (λ e. e) (λ l. omega arith)) x u (w d) (p.costs d))
      (costs_map Met _ _ (spent_map (λ e. e) (λ l. omega arith)) y v (k d x) (q.costs d));
}

-- the same, where the price is not named
module _ {Q : Type 0} {Met : Q → Type 0} {A : Type 0} where
  abbrev pub sure_at : {x : A} {deep units : ℕ} {w : ℕ → Walk Q A} → Priced Met x deep units w → Sure Met x w
  sure_at {deep = deep} {units = units} p = record { deep = deep; units = units; priced = p }

  pub sure_ret : {x y : A} → y ≡ x → Sure Met x (λ d. ret y)
  sure_ret e = sure_at (priced_ret e)

  pub sure_tick : {x : A} {w : ℕ → Walk Q A} → Sure Met x w → Sure Met x (λ d. tick (w d))
  sure_tick s = sure_at (priced_tick s.priced)

  pub sure_ask : (q : Q) → Met q → {x : A} {w : ℕ → Walk Q A} → Sure Met x w → Sure Met x (λ d. ask q (w d))
  sure_ask q m s = sure_at (priced_ask q m s.priced)

  pub sure_row : {x : A} {b : ℕ → Walk Q A} (r : ℕ → Walk Q A) → r 0 ≡ halt depth → ((d : ℕ) → r (suc d) ≡ tick (b d)) → Sure Met x b → Sure Met x r
  sure_row r z more s = sure_at (priced_row r z more s.priced)

pub sure_then : {Q : Type 0} {Met : Q → Type 0} {A B : Type 0} {x : A} {y : B} {w : ℕ → Walk Q A} (k : ℕ → A → Walk Q B)
    → Sure Met x w → Sure Met y (λ d. k d x) → Sure Met y (λ d. w d >>= k d)
sure_then k s t = sure_at (priced_then k s.priced t.priced)

-- ---- what a sure family comes to

-- where a met question stops a walk only as W allows
module _ {Q : Type 0} {Met : Q → Type 0} (W : Type 0) (J : Q → Judgement → Type 0)
    (ok : (q : Q) (h : Stop) → Met q → J q (stop h) → Spent W ⊥ h) {A : Type 0} {x : A} {w : ℕ → Walk Q A} (s : Sure Met x w) where
  pub sure_ended : (d n m : ℕ) (v : Verdict A) → Settles J (w d) n v m → Ended (Spent W (d < s.deep)) x s.units n v m
  sure_ended d n m v t = costs_ended Met _ x J (λ q h a j. spent_map (λ e. e) (λ e. absurd e) h (ok q h a j)) t s.units
      (costs_map Met _ _ (spent_map (λ e. absurd e) (λ l. l)) x s.units (w d) (s.priced.costs d))

  pub sure_found : (d n m : ℕ) (v : Verdict A) → Settles J (w d) n v m → Found (Spent W (Unit {0})) x v
  sure_found d n m v t = ended_found W _ x s.units n v m (sure_ended d n m v t)

pub sure_costs : (W : Type 0) {Q : Type 0} {Met : Q → Type 0} {A : Type 0} {w : ℕ → Walk Q A} {x : A} (s : Sure Met x w) (d : ℕ) → Costs Met (Spent W (Unit {0})) x s.units (w d)
sure_costs W {Met = Met} {w = w} {x = x} s d = costs_map Met _ _ (spent_map (λ e. absurd e) (λ l. tt)) x s.units (w d) (s.priced.costs d)

pub sure_one : {Q : Type 0} {Met : Q → Type 0} {A : Type 0} {w : ℕ → Walk Q A} {x y : A} → Sure Met x w → Sure Met y w → x ≡ y
sure_one {Met = Met} {w = w} {x = x} {y = y} s t = costs_one Met (Spent ⊥ (s.deep < s.deep)) (unspent (λ l. omega arith)) _ x y s.units t.units (w s.deep)
    (s.priced.costs s.deep) (t.priced.costs s.deep)

pub sure_gives : {Met : ⊥ → Type 0} {A : Type 0} {w : ℕ → Quiet A} {x : A} (s : Sure Met x w) (d n : ℕ) → s.deep ≤ d → Settles Unasked (w d) (s.units + n) (gives x) n
sure_gives {Met = Met} {w = w} {x = x} s d n l = costs_gives Met (Spent ⊥ (d < s.deep)) (unspent (λ k. omega arith)) x s.units n (w d) (s.priced.costs d)
