-- Inclusion between two graphs of places is decided where their states are finitely many: from all pairs of states those are struck out that have no rivals among what is left, until none is.
-- What is left is closed, so included; what is struck out and reached is not included, where the found places live and the wanted states are free of ties.
use Rattle.std.specs.Prelude.{ℕ, zero, suc, ◌+◌, ◌≤◌, ◌<◌, ◌≡◌, refl, Bool, ◌&&◌, cond, ◌⊎◌}
use Rattle.std.proofs.Common.{sym, ◌∙◌, eq-or-lt_of_le, le_of_suc-le-suc}
use Rattle.std.proofs.Math.Bool.{true, false}
use Rattle.std.proofs.Math.Logic.{inl, inr}
use Rattle.std.proofs.Math.Decide.{dec_lt, ℕ_discrete}
use native.Mathlib.Omega.{arith}
use Rattle.meaning.specs.Forest.{nil}
use Rattle.meaning.specs.Types.{Head, Head-discrete}
use Rattle.meaning.specs.Laws.Bools.{and_left, and_right, either, not_both, never}
use Rattle.meaning.specs.Laws.Pairs.{Side, Admitted, Lives, Free, Included, Closed, closed_included, Step, step, Comes, here, behind, inside}

-- the lowest that has P, or none below n has
pub search : (P Q : ℕ → Type 0) → ((x : ℕ) → P x ⊎ Q x) → (n : ℕ) → ((x : ℕ) × (x < n) × P x × ((y : ℕ) → y < x → Q y)) ⊎ ((x : ℕ) → x < n → Q x)
search P Q decide zero = inr (λ x h. absurd (omega arith))
search P Q decide (suc n) = elim (search P Q decide n) [
  | inl h ↦ inl (h.0, omega (arith, h.1), h.2, h.3)
  | inr h ↦ elim (decide n) [
    | inl p ↦ inl (n, omega arith, p, h)
    | inr q ↦ inr (λ x l. elim (eq-or-lt_of_le l) [ inl e ↦ (let k : x ≡ n = omega arith in rw k q) | inr k ↦ h x (le_of_suc-le-suc k) ])
  ]
]

-- ---- finitely many: what can be summed over

pub record Finite (X : Type 0) : Type 1 where
  pub In : X → Type 0
  pub sum : (X → ℕ) → ℕ
  pub sum_le : (f g : X → ℕ) → ((x : X) → f x ≤ g x) → sum f ≤ sum g
  pub sum_lt : (f g : X → ℕ) → ((x : X) → f x ≤ g x) → (x : X) → In x → f x < g x → sum f < sum g

-- the numbers below n
unfoldable pub sum_below : ℕ → (ℕ → ℕ) → ℕ
sum_below zero f = 0
sum_below (suc n) f = sum_below n f + f n

pub below_le : (n : ℕ) (f g : ℕ → ℕ) → ((x : ℕ) → f x ≤ g x) → sum_below n f ≤ sum_below n g
unfolding sum_below
below_le zero f g h = omega arith
below_le (suc n) f g h = omega (arith, below_le n f g h, h n)

pub below_lt : (n : ℕ) (f g : ℕ → ℕ) → ((x : ℕ) → f x ≤ g x) → (x : ℕ) → x < n → f x < g x → sum_below n f < sum_below n g
unfolding sum_below
below_lt zero f g h x l k = absurd (omega arith)
below_lt (suc n) f g h x l k = elim (eq-or-lt_of_le l) [
  | inl e ↦ (let i : x ≡ n = omega arith in let j : f n < g n = rw i at k in omega (arith, below_le n f g h))
  | inr e ↦ omega (arith, below_lt n f g h x (le_of_suc-le-suc e) k, h n)
]

-- ---- the decision

is_left : {A B : Type 0} → A ⊎ B → Bool
is_left (inl a) = true
is_left (inr b) = false

left_is : {A B : Type 0} (d : A ⊎ B) → is_left d ≡ true → A
unfolding is_left
left_is (inl a) e = a
left_is (inr b) e = never (cc)

right_is : {A B : Type 0} (d : A ⊎ B) → is_left d ≡ false → B
unfolding is_left
right_is (inl a) e = never (cc)
right_is (inr b) e = b

one : Bool → ℕ
one b = cond b 1 0

module _ (F W : Side) (X : Finite F.State) (Y : Finite W.State) (fb : F.State → ℕ) (wb : W.State → ℕ) where
  -- pairs of states that are left
  abbrev Left : Type 0
  Left = F.State → W.State → Bool

  abbrev Rival : Left → F.State → W.State → ℕ → ℕ → Type 0
  Rival R u v a b = (W.has v b ≡ true) × (F.head u a ≡ W.head v b) × (R (F.after u a) (W.after v b) ≡ true) × ((n : ℕ) → F.head u a ≡ Head.label n → R (F.into u a) (W.into v b) ≡ true)

  abbrev Rivals : Left → F.State → W.State → ℕ → Type 0
  Rivals R u v a = (b : ℕ) × (b < wb v) × Rival R u v a b

  abbrev Good : Left → F.State → W.State → Type 0
  Good R u v = (F.ends u ≡ true → W.ends v ≡ true) × ((a : ℕ) → a < fb u → F.has u a ≡ true → Rivals R u v a)

  inner? : (R : Left) (u : F.State) (v : W.State) (a b : ℕ)
      → ((n : ℕ) → F.head u a ≡ Head.label n → R (F.into u a) (W.into v b) ≡ true) ⊎ (((n : ℕ) → F.head u a ≡ Head.label n → R (F.into u a) (W.into v b) ≡ true) → ⊥)
  inner? R u v a b = go (F.head u a) refl (either (R (F.into u a) (W.into v b)))
    where
      go : (h : Head) → F.head u a ≡ h → (R (F.into u a) (W.into v b) ≡ true) ⊎ (R (F.into u a) (W.into v b) ≡ false)
          → ((n : ℕ) → F.head u a ≡ Head.label n → R (F.into u a) (W.into v b) ≡ true) ⊎ (((n : ℕ) → F.head u a ≡ Head.label n → R (F.into u a) (W.into v b) ≡ true) → ⊥)
      go h e (inl t) = inl (λ n g. t)
      go Head.text e (inr t) = inl (λ n g. let z : Head.text ≡ Head.label n = sym e ∙ g in never (cc))
      go Head.bool e (inr t) = inl (λ n g. let z : Head.bool ≡ Head.label n = sym e ∙ g in never (cc))
      go (Head.label n) e (inr t) = inr (λ k. not_both (k n e) t)

  rival? : (R : Left) (u : F.State) (v : W.State) (a b : ℕ) → Rival R u v a b ⊎ (Rival R u v a b → ⊥)
  rival? R u v a b = elim (either (W.has v b)) [
    | inr h ↦ inr (λ k. not_both k.0 h)
    | inl h ↦ elim (Head-discrete ℕ_discrete (F.head u a) (W.head v b)) [
      | no e ↦ inr (λ k. e k.1)
      | yes e ↦ elim (either (R (F.after u a) (W.after v b))) [
        | inr r ↦ inr (λ k. not_both k.2 r)
        | inl r ↦ elim (inner? R u v a b) [ inr i ↦ inr (λ k. i k.3) | inl i ↦ inl (h, e, r, i) ]
      ]
    ]
  ]

  rivals? : (R : Left) (u : F.State) (v : W.State) (a : ℕ) → Rivals R u v a ⊎ (Rivals R u v a → ⊥)
  rivals? R u v a = elim (search (Rival R u v a) (λ b. Rival R u v a b → ⊥) (rival? R u v a) (wb v)) [
    | inl h ↦ inl (h.0, h.1, h.2)
    | inr h ↦ inr (λ k. h k.0 k.1 k.2)
  ]

  ends? : (u : F.State) (v : W.State) → (F.ends u ≡ true → W.ends v ≡ true) ⊎ ((F.ends u ≡ true → W.ends v ≡ true) → ⊥)
  ends? u v = elim (either (W.ends v)) [
    | inl h ↦ inl (λ k. h)
    | inr h ↦ elim (either (F.ends u)) [ inl k ↦ inr (λ f. not_both (f k) h) | inr k ↦ inl (λ j. absurd (not_both j k)) ]
  ]

  good? : (R : Left) (u : F.State) (v : W.State) → Good R u v ⊎ (Good R u v → ⊥)
  good? R u v = elim (ends? u v) [
    | inr n ↦ inr (λ g. n g.0)
    | inl e ↦ elim (search (λ a. (F.has u a ≡ true) × (Rivals R u v a → ⊥)) (λ a. F.has u a ≡ true → Rivals R u v a) place? (fb u)) [
      | inl h ↦ inr (λ g. h.2.1 (g.1 h.0 h.1 h.2.0))
      | inr h ↦ inl (e, h)
    ]
  ]
    where
      place? : (a : ℕ) → ((F.has u a ≡ true) × (Rivals R u v a → ⊥)) ⊎ (F.has u a ≡ true → Rivals R u v a)
      place? a = elim (rivals? R u v a) [
        | inl r ↦ inr (λ h. r)
        | inr r ↦ elim (either (F.has u a)) [ inl h ↦ inl (h, r) | inr h ↦ inr (λ k. absurd (not_both k h)) ]
      ]

  -- one round of striking out
  next : Left → Left
  next R u v = R u v && is_left (good? R u v)

  count : Left → ℕ
  count R = X.sum (λ u. Y.sum (λ v. one (R u v)))

  one_le : (a b : Bool) → (b ≡ true → a ≡ true) → one b ≤ one a
  unfolding one
  one_le a true h = rw (h refl) (omega arith)
  one_le a false h = omega arith

  struck_le : (R : Left) (u : F.State) (v : W.State) → one (next R u v) ≤ one (R u v)
  unfolding next
  struck_le R u v = one_le (R u v) (R u v && is_left (good? R u v)) (and_left (R u v) (is_left (good? R u v)))

  struck_lt : (R : Left) (u : F.State) (v : W.State) → X.In u → Y.In v → R u v ≡ true → next R u v ≡ false → count (next R) < count R
  unfolding count one
  struck_lt R u v i j p q = X.sum_lt _ _ (λ u. Y.sum_le _ _ (λ v. struck_le R u v)) u i (Y.sum_lt _ _ (λ v. struck_le R u v) v j (rw (p, q) (omega arith)))

  module _ (x : F.State) (y : W.State)
      (f-low : (u : F.State) → X.In u → (a : ℕ) → F.has u a ≡ true → a < fb u)
      (w-low : (v : W.State) → Y.In v → (b : ℕ) → W.has v b ≡ true → b < wb v)
      (f-after : (u : F.State) → X.In u → (a : ℕ) → F.has u a ≡ true → X.In (F.after u a))
      (w-after : (v : W.State) → Y.In v → (b : ℕ) → W.has v b ≡ true → Y.In (W.after v b))
      (f-into : (u : F.State) → X.In u → (a n : ℕ) → F.has u a ≡ true → F.head u a ≡ Head.label n → X.In (F.into u a))
      (w-into : (v : W.State) → Y.In v → (b n : ℕ) → W.has v b ≡ true → W.head v b ≡ Head.label n → Y.In (W.into v b))
      (lives : (u : F.State) (v : W.State) → Comes F W x y u v → (a : ℕ) → F.has u a ≡ true → Lives F u a)
      (free : (u : F.State) (v : W.State) → Comes F W x y u v → Free W v) where
    -- what is struck out and reached is not included
    abbrev Fair : Left → Type 0
    Fair R = (u : F.State) (v : W.State) → X.In u → Y.In v → Comes F W x y u v → R u v ≡ false → Included F W u v → ⊥

    included_good : (R : Left) → Fair R → (u : F.State) (v : W.State) → X.In u → Y.In v → Comes F W x y u v → Included F W u v → Good R u v
    unfolding Admitted
    included_good R fair u v i j c w = ((λ e. w nil e), λ a l m. rivals a m (step F W u v (free u v c) w a m (lives u v c a m)))
      where
        rivals : (a : ℕ) → F.has u a ≡ true → Step F W u v a → Rivals R u v a
        rivals a m s = (s.rival, w-low v j s.rival s.has, (s.has, s.same, after, into))
          where
            after : R (F.after u a) (W.after v s.rival) ≡ true
            after = elim (either (R (F.after u a) (W.after v s.rival))) [
              | inl t ↦ t
              | inr t ↦ absurd (fair _ _ (f-after u i a m) (w-after v j s.rival s.has) (behind a s.rival c m s.has s.same) t s.behind)
            ]

            into : (n : ℕ) → F.head u a ≡ Head.label n → R (F.into u a) (W.into v s.rival) ≡ true
            into n h = elim (either (R (F.into u a) (W.into v s.rival))) [
              | inl t ↦ t
              | inr t ↦ absurd (fair _ _ (f-into u i a n m h) (w-into v j s.rival n s.has (sym s.same ∙ h)) (inside n a s.rival c m s.has s.same h) t (s.inside n h))
            ]

    next_fair : (R : Left) → Fair R → Fair (next R)
    unfolding next
    next_fair R fair u v i j c e w = elim (either (R u v)) [
      | inr r ↦ fair u v i j c r w
      | inl r ↦ right_is (good? R u v) (let k : is_left (good? R u v) ≡ (R u v && is_left (good? R u v)) = rw r in k ∙ e) (included_good R fair u v i j c w)
    ]

    -- no more is struck out
    abbrev Stable : Left → Type 0
    Stable R = (u : F.State) (v : W.State) → X.In u → Y.In v → R u v ≡ true → Good R u v

    idle_stable : (R : Left) → (count (next R) < count R → ⊥) → Stable R
    unfolding next
    idle_stable R h u v i j p = elim (either (next R u v)) [
      | inl t ↦ left_is (good? R u v) (and_right (R u v) (is_left (good? R u v)) t)
      | inr t ↦ absurd (h (struck_lt R u v i j p t))
    ]

    strikes : (n : ℕ) (R : Left) → Fair R → count R ≤ n → (last : Left) × Fair last × Stable last
    strikes zero R fair l = (R, fair, idle_stable R (λ h. omega arith))
    strikes (suc n) R fair l = elim (dec_lt (count (next R)) (count R)) [
      | no h ↦ (R, fair, idle_stable R h)
      | yes h ↦ strikes n (next R) (next_fair R fair) (omega arith)
    ]

    stable_closed : (R : Left) → Stable R → Closed F W (λ u v. X.In u × Y.In v × (R u v ≡ true))
    stable_closed R stable = record {
      end = λ u v r. (stable u v r.0 r.1 r.2).0;
      place = λ u v r a m. (let z = (stable u v r.0 r.1 r.2).1 a (f-low u r.0 a m) m in let k = z.2 in
          (z.0, k.0, k.1, (λ n h. (f-into u r.0 a n m h, w-into v r.1 z.0 n k.0 (sym k.1 ∙ h), k.3 n h)), (f-after u r.0 a m, w-after v r.1 z.0 k.0, k.2)));
    }

    pub included_decided : X.In x → Y.In y → Included F W x y ⊎ (Included F W x y → ⊥)
    included_decided i j =
        let r = strikes (count (λ u v. true)) (λ u v. true) (λ u v i j c e w. never (cc)) (omega arith) in
        elim (either (r.0 x y)) [
          | inl t ↦ inl (λ f. closed_included F W (λ u v. X.In u × Y.In v × (r.0 u v ≡ true)) (stable_closed r.0 r.2) f x y (i, j, t))
          | inr t ↦ inr (r.1 x y i j here t)
        ]
