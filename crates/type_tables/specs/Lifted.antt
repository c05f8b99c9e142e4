-- Sets of places moved up: place a of the own table is place T + a, End stays End. A table that is wired for a model is wired for the model moved up.
use Rattle.std.specs.Prelude.{ℕ, ◌+◌, ◌-◌, ◌≤◌, ◌<◌, ◌≡◌, refl, Bool, true, false, ◌&&◌, ◌||◌, cond, eqb, leb}
use Rattle.std.proofs.Common.{sym, ◌∙◌, ap, arith, eq-eqb, ne_eqb, le-leb}
use Rattle.std.proofs.Math.Path.{fun_ext}
use Rattle.std.proofs.lemmas.Bool.{false≢true, lt-leb}
use Rattle.std.proofs.Math.Decide.{dec_le, ℕ_discrete}
use Rattle.meaning.specs.Places.{Model, Set, nullable, first, start}
use Rattle.meaning.specs.Laws.Bools.{or_left, or_right, and_false}
use Rattle.meaning.specs.Laws.Wired.{has, Wired, ends, starting, turning}
use Rattle.type_tables.specs.Joined.{up}

abbrev pub lift : ℕ → Set → Set
lift n k = λ b. cond (leb b n) (cond (eqb b 0) (k 0) false) (k (b - n))

pub lift_high : (n : ℕ) (k : Set) (b : ℕ) → 1 ≤ b → lift n k (n + b) ≡ k b
lift_high n k b l = let z : n + b - n ≡ b = omega arith in rw (lt-leb (n + b) n (omega arith), z)

pub lift_end : (n : ℕ) (k : Set) → lift n k 0 ≡ k 0
lift_end n k = rw (le-leb 0 n (omega arith))

pub lift_low : (n : ℕ) (k : Set) (b : ℕ) → 1 ≤ b → b ≤ n → lift n k b ≡ false
lift_low n k b l h = rw (le-leb b n h, ne_eqb b 0 (λ z. omega arith))

-- a place of a set moved up is a place moved up
pub lift_place : (n : ℕ) (k : Set) (b : ℕ) → 1 ≤ b → lift n k b ≡ true → (a : ℕ) × (1 ≤ a) × (b ≡ n + a) × (k a ≡ true)
lift_place n k b l e = elim (dec_le b n) [
  | yes h ↦ (let z : false ≡ true = sym (lift_low n k b l h) ∙ e in absurd (false_true z))
  | no h ↦ (b - n, omega arith, omega arith, (let z = lt-leb b n (omega arith) in rw z at e))
]
  where
    false_true : false ≡ true → ⊥
    false_true z = false≢true z

pub lift_same : (n : ℕ) (f g : Set) → ((b : ℕ) → f b ≡ g b) → (b : ℕ) → lift n f b ≡ lift n g b
lift_same n f g h b = rw (h 0, h (b - n))

-- the laws of the sets that the wiring is made of
lift_or : (n : ℕ) (c : Bool) (f g : Set) (b : ℕ) → lift n (λ b. f b || c && g b) b ≡ lift n f b || c && lift n g b
lift_or n c f g b = go (leb b n) (eqb b 0)
  where
    go : (x y : Bool) → cond x (cond y (f 0 || c && g 0) false) (f (b - n) || c && g (b - n)) ≡ cond x (cond y (f 0) false) (f (b - n)) || c && cond x (cond y (g 0) false) (g (b - n))
    go true true = refl
    go true false = sym (and_false c)
    go false y = refl

lift_both : (n : ℕ) (f g : Set) (b : ℕ) → lift n (λ b. f b || g b) b ≡ lift n f b || lift n g b
lift_both n f g b = go (leb b n) (eqb b 0)
  where
    go : (x y : Bool) → cond x (cond y (f 0 || g 0) false) (f (b - n) || g (b - n)) ≡ cond x (cond y (f 0) false) (f (b - n)) || cond x (cond y (g 0) false) (g (b - n))
    go true true = refl
    go true false = refl
    go false y = refl

pub lift_ends : (n b : ℕ) → lift n ends b ≡ ends b
lift_ends n b = elim (dec_le b n) [
  | yes h ↦ elim (ℕ_discrete b 0) [ yes z ↦ rw (z, le-leb 0 n (omega arith)) | no z ↦ lift_low n ends b (omega arith) h ∙ sym (ne_eqb 0 b (λ w. z (sym w))) ]
  | no h ↦ rw (lt-leb b n (omega arith), ne_eqb 0 (b - n) (λ z. omega arith), ne_eqb 0 b (λ z. omega arith))
]

-- ---- models moved up

up_null : (n : ℕ) (m : Model) → nullable (up n m) ≡ nullable m
unfolding up nullable
up_null n Model.empty = refl
up_null n (Model.atom a) = refl
up_null n (Model.seq m o) = rw (up_null n m, up_null n o)
up_null n (Model.choice m o) = rw (up_null n m, up_null n o)
up_null n (Model.star m) = refl

-- no place is End
abbrev Placed : Model → Type 0
Placed m = (a : ℕ) → has m a ≡ true → 0 < a

up_atom : (n a b : ℕ) → 0 < a → eqb (n + a) b ≡ lift n (λ b. eqb a b) b
up_atom n a b l = elim (dec_le b n) [
  | yes h ↦ elim (ℕ_discrete b 0) [
    | yes z ↦ rw (z, le-leb 0 n (omega arith), ne_eqb (n + a) 0 (λ w. omega arith), ne_eqb a 0 (λ w. omega arith))
    | no z ↦ ne_eqb (n + a) b (λ w. omega arith) ∙ sym (lift_low n (λ b. eqb a b) b (omega arith) h)
  ]
  | no h ↦ elim (ℕ_discrete (n + a) b) [
    | yes z ↦ (let w : a ≡ b - n = omega arith in eq-eqb (n + a) b z ∙ sym (rw (lt-leb b n (omega arith)) (eq-eqb a (b - n) w)))
    | no z ↦ ne_eqb (n + a) b z ∙ sym (rw (lt-leb b n (omega arith)) (ne_eqb a (b - n) (λ w. z (omega arith))))
  ]
]

pub up_first : (n : ℕ) (m : Model) → Placed m → (b : ℕ) → first (up n m) b ≡ lift n (first m) b
unfolding up first has
up_first n Model.empty l b = go (leb b n) (eqb b 0)
  where
    go : (x y : Bool) → false ≡ cond x (cond y false false) false
    go true true = refl
    go true false = refl
    go false y = refl
up_first n (Model.atom a) l b = up_atom n a b (l a (eq-eqb a a refl))
up_first n (Model.seq m o) l b = rw (up_null n m, up_first n m (λ a p. l a (or_left (has o a) p)) b, up_first n o (λ a p. l a (or_right (has m a) p)) b)
    (sym (lift_or n (nullable m) (first m) (first o) b))
up_first n (Model.choice m o) l b = rw (up_first n m (λ a p. l a (or_left (has o a) p)) b, up_first n o (λ a p. l a (or_right (has m a) p)) b) (sym (lift_both n (first m) (first o) b))
up_first n (Model.star m) l b = up_first n m l b

up_starting : (n : ℕ) (m : Model) (k : Set) → Placed m → (b : ℕ) → lift n (starting m k) b ≡ starting (up n m) (lift n k) b
up_starting n m k l b = lift_or n (nullable m) (first m) k b ∙ rw (up_null n m, up_first n m l b)

pub up_start : (n : ℕ) (m : Model) → Placed m → (b : ℕ) → start (up n m) b ≡ lift n (start m) b
up_start n m l b = sym (up_starting n m ends l b ∙ ap (λ x. first (up n m) b || nullable (up n m) && x) (lift_ends n b))

up_turning : (n : ℕ) (m : Model) (k : Set) → Placed m → (b : ℕ) → lift n (turning m k) b ≡ turning (up n m) (lift n k) b
up_turning n m k l b = lift_both n (first m) k b ∙ rw (up_first n m l b)

module _ (n : ℕ) (nx nx' : ℕ → Set) where
  pub up_wired : (m : Model) (k : Set) → Placed m → ((a : ℕ) → has m a ≡ true → (b : ℕ) → nx' (n + a) b ≡ lift n (nx a) b) → Wired nx m k → Wired nx' (up n m) (lift n k)
  unfolding up has Wired
  up_wired Model.empty k l h w = tt
  up_wired (Model.atom a) k l h w = (omega (arith, w.0), λ b. h a (eq-eqb a a refl) b ∙ lift_same n (nx a) k w.1 b)
  up_wired (Model.seq m o) k l h w = (
    rw (fun_ext (up_starting n o k (λ a p. l a (or_right (has m a) p)))) at (up_wired m (starting o k) (λ a p. l a (or_left (has o a) p)) (λ a p. h a (or_left (has o a) p)) w.0),
    up_wired o k (λ a p. l a (or_right (has m a) p)) (λ a p. h a (or_right (has m a) p)) w.1,
  )
  up_wired (Model.choice m o) k l h w = (
    up_wired m k (λ a p. l a (or_left (has o a) p)) (λ a p. h a (or_left (has o a) p)) w.0,
    up_wired o k (λ a p. l a (or_right (has m a) p)) (λ a p. h a (or_right (has m a) p)) w.1,
  )
  up_wired (Model.star m) k l h w = rw (fun_ext (up_turning n m k l)) at (up_wired m (turning m k) l h w)

-- a table that agrees at the places of a model
pub wired_agree : (nx nx' : ℕ → Set) (m : Model) (k : Set) → ((a : ℕ) → has m a ≡ true → (b : ℕ) → nx' a b ≡ nx a b) → Wired nx m k → Wired nx' m k
unfolding has Wired
wired_agree nx nx' Model.empty k h w = tt
wired_agree nx nx' (Model.atom a) k h w = (w.0, λ b. h a (eq-eqb a a refl) b ∙ w.1 b)
wired_agree nx nx' (Model.seq m o) k h w = (wired_agree nx nx' m (starting o k) (λ a p. h a (or_left (has o a) p)) w.0, wired_agree nx nx' o k (λ a p. h a (or_right (has m a) p)) w.1)
wired_agree nx nx' (Model.choice m o) k h w = (wired_agree nx nx' m k (λ a p. h a (or_left (has o a) p)) w.0, wired_agree nx nx' o k (λ a p. h a (or_right (has m a) p)) w.1)
wired_agree nx nx' (Model.star m) k h w = wired_agree nx nx' m (turning m k) h w
