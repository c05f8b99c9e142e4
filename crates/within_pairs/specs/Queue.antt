-- Pending pairs and done ones. Set 0 of the pending table has the places with pending pairs; a pending pair is not done, and no pair is with End. A pair that is taken is done: so fewer are missing.
use Rattle.std.specs.Prelude.{ℕ, zero, suc, ◌≤◌, ◌<◌, ◌≡◌, refl, false, cond, List, ◌⊎◌, eqb, replicate}
use Rattle.std.proofs.Common.{sym, ◌∙◌, inl, inr, arith, eqb-true, eq-eqb}
use Rattle.std.proofs.Math.Bool.{true}
use Rattle.std.proofs.Math.Decide.{ℕ_discrete, dec_lt}
use Rattle.meaning.specs.Tests.{total}
use Rattle.meaning.specs.Laws.Bools.{or_left, or_right, or_cases, and_left, and_both, either, not_both}
use Rattle.bits.specs.Sets.{in_set, Added, Removed, LowestBoth}
use Rattle.type_places.specs.Tables.{clear_zeros}

-- what stands for the pairs
pub record Pairs : Type 0 where
  pub pending : List ℕ
  pub done : List ℕ

abbrev pub zeros : List ℕ
zeros = replicate 4617 0

-- no pair is pending
abbrev pub Idle : List ℕ → Type 0
Idle p = (a b : ℕ) → 1 ≤ a → a ≤ 512 → b < 576 → in_set p a b ≡ false

pub record Queue (p d : List ℕ) : Type 0 where
  pub rows : (a : ℕ) → a < 576 → in_set p 0 a ≡ true → (1 ≤ a) × (a ≤ 512) × ((b : ℕ) × (1 ≤ b) × (b < 576) × (in_set p a b ≡ true))
  pub pairs : (a b : ℕ) → 1 ≤ a → a ≤ 512 → b < 576 → in_set p a b ≡ true → (1 ≤ b) × (in_set p 0 a ≡ true) × (in_set d a b ≡ false)

-- none yet
pub queue_none : Queue zeros zeros
queue_none = record { rows = λ a l e. absurd (not_both e (clear_zeros.none 0 a l)); pairs = λ a b l h k e. absurd (not_both e (clear_zeros.none a b k)) }

-- no pair is done any longer
pub queue_forgets : {p d : List ℕ} → Queue p d → Queue p zeros
queue_forgets q = record { rows = q.rows; pairs = λ a b l h k e. (let o = q.pairs a b l h k e in (o.0, o.1, clear_zeros.none a b k)) }

-- the pair (a, b) is seen, and no other is new
pub record Marked (p p' d : List ℕ) (a b : ℕ) : Type 0 where
  pub queue : Queue p' d
  pub seen : (in_set p' a b ≡ true) ⊎ (in_set d a b ≡ true)
  pub kept : (x y : ℕ) → 1 ≤ x → y < 576 → in_set p x y ≡ true → in_set p' x y ≡ true
  pub new : (x y : ℕ) → 1 ≤ x → y < 576 → in_set p' x y ≡ true → (in_set p x y ≡ true) ⊎ ((x ≡ a) × (y ≡ b))

-- ---- taking a pair

pub record Unflagged (p p' : List ℕ) (a : ℕ) : Type 0 where
  pub others : (x y : ℕ) → 1 ≤ x → y < 576 → in_set p' x y ≡ in_set p x y
  pub rows : (y : ℕ) → y < 576 → (y ≡ a → ⊥) → in_set p' 0 y ≡ in_set p 0 y
  pub here : in_set p' 0 a ≡ true → (b : ℕ) × (1 ≤ b) × (b < 576) × (in_set p a b ≡ true)
  pub stays : (b : ℕ) → 1 ≤ b → b < 576 → in_set p a b ≡ true → in_set p' 0 a ≡ true

-- how many pairs are not done
abbrev absent : List ℕ → ℕ → ℕ → ℕ
absent d a b = cond (in_set d a b) 0 1

unfoldable pub missing : List ℕ → ℕ
missing d = total (λ a. total (absent d a) 575) 512

total_le : (f g : ℕ → ℕ) (n : ℕ) → ((i : ℕ) → 1 ≤ i → i ≤ n → f i ≤ g i) → total f n ≤ total g n
unfolding total
total_le f g zero h = omega arith
total_le f g (suc n) h = omega (arith, total_le f g n (λ i p q. h i p (omega arith)), h (suc n) (omega arith) (omega arith))

total_lt : (f g : ℕ → ℕ) (n r : ℕ) → 1 ≤ r → r ≤ n → ((i : ℕ) → 1 ≤ i → i ≤ n → f i ≤ g i) → f r < g r → total f n < total g n
unfolding total
total_lt f g zero r p q h l = absurd (omega arith)
total_lt f g (suc n) r p q h l = elim (ℕ_discrete r (suc n)) [
  | yes z ↦ (let l' : f (suc n) < g (suc n) = rw z at l in omega (arith, l', total_le f g n (λ i p q. h i p (omega arith))))
  | no z ↦ omega (arith, total_lt f g n r p (omega arith) (λ i p q. h i p (omega arith)) l, h (suc n) (omega arith) (omega arith))
]

module _ {d d' : List ℕ} {a b : ℕ} (f : Added d d' a b) where
  pub done_kept : (x y : ℕ) → y < 576 → in_set d x y ≡ true → in_set d' x y ≡ true
  done_kept x y k e = elim (ℕ_discrete x a) [
    | yes z ↦ (let e' : in_set d a y ≡ true = rw z at e in rw z (f.into y k ∙ or_left (eqb b y) e'))
    | no z ↦ f.others x y z k ∙ e
  ]

  pub done_new : (x y : ℕ) → y < 576 → in_set d' x y ≡ true → (in_set d x y ≡ true) ⊎ ((x ≡ a) × (y ≡ b))
  done_new x y k e = elim (ℕ_discrete x a) [
    | yes z ↦ (let h : in_set d' a y ≡ true = rw z at e in elim (or_cases (in_set d a y) (eqb b y) (sym (f.into y k) ∙ h)) [ inl w ↦ inl (rw z w) | inr w ↦ inr (z, sym (eqb-true b y w)) ])
    | no z ↦ inl (sym (f.others x y z k) ∙ e)
  ]

  fewer : (x y : ℕ) → y < 576 → absent d' x y ≤ absent d x y
  fewer x y k = elim (either (in_set d x y)) [
    | inl e ↦ rw (e, done_kept x y k e) (omega arith)
    | inr e ↦ rw e (elim (either (in_set d' x y)) [ inl w ↦ rw w (omega arith) | inr w ↦ rw w (omega arith) ])
  ]

  pub missing_less : 1 ≤ a → a ≤ 512 → 1 ≤ b → b < 576 → in_set d a b ≡ false → missing d' < missing d
  unfolding missing
  missing_less la ha lb hb n = total_lt (λ a. total (absent d' a) 575) (λ a. total (absent d a) 575) 512 a la ha
      (λ x p q. total_le (absent d' x) (absent d x) 575 (λ y r s. fewer x y (omega arith)))
      (total_lt (absent d' a) (absent d a) 575 b lb (omega arith) (λ y r s. fewer a y (omega arith))
      (let z : in_set d' a b ≡ true = f.into b hb ∙ or_right (in_set d a b) (eq-eqb b b refl) in rw (z, n) (omega arith)))

pub record Taken (p p' d d' : List ℕ) (a b : ℕ) : Type 0 where
  pub queue : Queue p' d'
  pub low : (1 ≤ a) × (a ≤ 512) × (1 ≤ b) × (b < 576)
  pub was : in_set p a b ≡ true
  pub rest : (x y : ℕ) → 1 ≤ x → y < 576 → in_set p' x y ≡ true → in_set p x y ≡ true
  pub left : (x y : ℕ) → 1 ≤ x → y < 576 → in_set p x y ≡ true → ((x ≡ a) × (y ≡ b)) ⊎ (in_set p' x y ≡ true)
  pub done : Added d d' a b
  pub less : missing d' < missing d

-- the lowest place of a set is one of the set
pub lowest_in : {p : List ℕ} {w a : ℕ} → LowestBoth p w p w 1 a → a < 576 → in_set p w a ≡ true
lowest_in {p} {w} {a} l h = and_left (in_set p w a) (in_set p w a) (l.here h)

-- a place of set 0 has a pending pair
pub taken_low : {p d : List ℕ} {a b : ℕ} → Queue p d → in_set p 0 a ≡ true → a < 576 → LowestBoth p a p a 1 b → (b < 576) × (in_set p a b ≡ true)
taken_low {p} {d} {a} {b} q f la l = go (dec_lt b 576)
  where
    some : (1 ≤ a) × (a ≤ 512) × ((b : ℕ) × (1 ≤ b) × (b < 576) × (in_set p a b ≡ true))
    some = q.rows a la f

    go : Dec (b < 576) → (b < 576) × (in_set p a b ≡ true)
    go (yes h) = (h, and_left (in_set p a b) (in_set p a b) (l.here h))
    go (no h) = absurd (not_both (and_both (in_set p a some.2.0) (in_set p a some.2.0) some.2.3 some.2.3) (l.below some.2.0 some.2.1 (omega (arith, some.2.2))))

pub taken : {p m p' d d' : List ℕ} {a b : ℕ} → Queue p d → in_set p 0 a ≡ true → a < 576 → LowestBoth p a p a 1 b → Removed p m a b → Unflagged m p' a → Added d d' a b → Taken p p' d d' a b
taken {p} {m} {p'} {d} {d'} {a} {b} q f la l r u g = record {
  queue = record {
    rows = λ x k e. elim (ℕ_discrete x a) [
      | yes z ↦ (let o = u.here (rw z at e) in rw z (o1, o2, (o.0, o.1, o.2, u.others a o.0 o1 o.2 ∙ o.3)))
      | no z ↦ (let e' = sym (r.others 0 x (λ w. omega (arith, o1)) k) ∙ sym (u.rows x k z) ∙ e in let o = q.rows x k e' in
          (o.0, o.1, (o.2.0, o.2.1, o.2.2, u.others x o.2.0 o.0 o.2.2 ∙ r.others x o.2.0 z o.2.2 ∙ o.2.3)))
    ];
    pairs = λ x y k h s e. (let e' = back x y k s e in let o = q.pairs x y k h s e' in (o.0, flag x y k h s e o.0 o.1, fresh x y s e k o.2));
  };
  low = (o1, o2, l.onward hb, hb);
  was = has;
  rest = back;
  left = λ x y k s e. elim (ℕ_discrete x a) [
    | yes z ↦ elim (ℕ_discrete y b) [
      | yes w ↦ inl (z, w)
      | no w ↦ inr (u.others x y k s ∙ (let e' : in_set p a y ≡ true = rw z at e in rw z (r.into y w s ∙ e')))
    ]
    | no z ↦ inr (u.others x y k s ∙ r.others x y z s ∙ e)
  ];
  done = g;
  less = missing_less g o1 o2 (l.onward hb) hb (q.pairs a b o1 o2 hb has).2;
}
  where
    some : (1 ≤ a) × (a ≤ 512) × ((b : ℕ) × (1 ≤ b) × (b < 576) × (in_set p a b ≡ true))
    some = q.rows a la f

    o1 : 1 ≤ a
    o1 = some.0

    o2 : a ≤ 512
    o2 = some.1

    hb : b < 576
    hb = (taken_low q f la l).0

    has : in_set p a b ≡ true
    has = (taken_low q f la l).1

    back : (x y : ℕ) → 1 ≤ x → y < 576 → in_set p' x y ≡ true → in_set p x y ≡ true
    back x y k s e = let e' = sym (u.others x y k s) ∙ e in elim (ℕ_discrete x a) [
      | yes z ↦ (let h : in_set m a y ≡ true = rw z at e' in elim (ℕ_discrete y b) [ yes w ↦ absurd (not_both (rw w at h) r.here) | no w ↦ rw z (sym (r.into y w s) ∙ h) ])
      | no z ↦ sym (r.others x y z s) ∙ e'
    ]

    flag : (x y : ℕ) → 1 ≤ x → x ≤ 512 → y < 576 → in_set p' x y ≡ true → 1 ≤ y → in_set p 0 x ≡ true → in_set p' 0 x ≡ true
    flag x y k h s e n o = elim (ℕ_discrete x a) [
      | yes z ↦ (let h : in_set m a y ≡ true = rw z at (sym (u.others x y k s) ∙ e) in rw z (u.stays y n s h))
      | no z ↦ u.rows x (omega arith) z ∙ r.others 0 x (λ w. omega (arith, o1)) (omega arith) ∙ o
    ]

    fresh : (x y : ℕ) → y < 576 → in_set p' x y ≡ true → 1 ≤ x → in_set d x y ≡ false → in_set d' x y ≡ false
    fresh x y s e k n = elim (either (in_set d' x y)) [
      | inr w ↦ w
      | inl w ↦ elim (done_new g x y s w) [
        | inl v ↦ absurd (not_both v n)
        | inr v ↦ (let e' : in_set p' a b ≡ true = rw (v.0, v.1) at e in absurd (not_both (sym (u.others a b o1 hb) ∙ e') r.here))
      ]
    ]
