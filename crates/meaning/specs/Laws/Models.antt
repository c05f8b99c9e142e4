-- The computed sets of a model say what its words say: whether the empty word is one, what begins one, what ends one, and what stands right behind another in one. By induction over models and over
-- words. And `same_head` says that two heads are one.
use Rattle.std.specs.Prelude.{ℕ, ◌≡◌, refl, true, ◌&&◌, ◌||◌, List, [], ◌∷◌, ◌++◌, ◌↔◌}
use Rattle.std.proofs.Common.{sym, ap, append_assoc, append-nil, inl, inr, arith, eqb-true, eq-eqb}
use Rattle.std.proofs.lemmas.Bool.{false≢true}
use Rattle.meaning.specs.Types.{Head}
use Rattle.meaning.specs.Places.{same_head, Model, Word, w_empty, w_atom, w_seq, w_left, w_right, w_none, w_more, nullable, first, last, follows}
use Rattle.meaning.specs.Laws.Bools.{or_left, or_right, or_cases, and_left, and_right, and_both}

-- ---- two lists joined, taken apart

pub no_cons : {a : ℕ} {l : List ℕ} → [] ≡ a ∷ l → ⊥
no_cons e = let z : ◌≡◌ {A = ℕ} 0 1 = cc in absurd (omega arith)

pub nil_joined : (u v : List ℕ) → [] ≡ u ++ v → (u ≡ []) × (v ≡ [])
nil_joined [] v e = (refl, sym e)
nil_joined (x ∷ u) v e = absurd (no_cons e)

-- u ++ v has the place a between l and k: it stands in u, or in v
pub data Stands (a : ℕ) (u v l k : List ℕ) : Type 0 where
  left : (m : List ℕ) → u ≡ l ++ a ∷ m → k ≡ m ++ v → Stands a u v l k
  right : (m : List ℕ) → l ≡ u ++ m → v ≡ m ++ a ∷ k → Stands a u v l k

pub stands : (a : ℕ) (u v l k : List ℕ) → u ++ v ≡ l ++ a ∷ k → Stands a u v l k
stands a [] v l k e = right l refl e
stands a (x ∷ u) v [] k e = left u (cc) (cc)
stands a (x ∷ u) v (y ∷ l) k e = go (stands a u v l k (cc))
  where
    go : Stands a u v l k → Stands a (x ∷ u) v (y ∷ l) k
    go (left m p q) = left m (cc) q
    go (right m p q) = right m (cc) q

-- a list that holds a place is not empty
pub no_place : (l : List ℕ) (a : ℕ) (k : List ℕ) → [] ≡ l ++ a ∷ k → ⊥
no_place [] a k e = no_cons e
no_place (x ∷ l) a k e = no_cons e

-- a list with one place only
pub one_place : (b : ℕ) (l : List ℕ) (a : ℕ) (k : List ℕ) → b ∷ [] ≡ l ++ a ∷ k → (b ≡ a) × (k ≡ []) × (l ≡ [])
one_place b [] a k e = (cc, cc, refl)
one_place b (x ∷ l) a k e = absurd (no_place l a k (cc))

-- ---- words from the sets

pub any_word : (m : Model) → (u : List ℕ) × Word m u
any_word Model.empty = ([], w_empty)
any_word (Model.atom a) = (a ∷ [], w_atom)
any_word (Model.seq m n) = ((any_word m).0 ++ (any_word n).0, w_seq (any_word m).1 (any_word n).1)
any_word (Model.choice m n) = ((any_word m).0, w_left (any_word m).1)
any_word (Model.star m) = ([], w_none)

once_more : {m : Model} {u : List ℕ} → Word m u → Word (Model.star m) u
once_more {m} {u} w = rw append-nil at (w_more w w_none)

nullable_is : (m : Model) → nullable m ≡ true → Word m []
unfolding nullable
nullable_is Model.empty e = w_empty
nullable_is (Model.atom a) e = absurd (false≢true e)
nullable_is (Model.seq m n) e = w_seq (nullable_is m (and_left (nullable m) (nullable n) e)) (nullable_is n (and_right (nullable m) (nullable n) e))
nullable_is (Model.choice m n) e = elim (or_cases (nullable m) (nullable n) e) [ inl h ↦ w_left (nullable_is m h) | inr h ↦ w_right (nullable_is n h) ]
nullable_is (Model.star m) e = w_none

abbrev pub Begun : Model → ℕ → Type 0
Begun m a = (k : List ℕ) × Word m (a ∷ k)

first_is : (m : Model) (a : ℕ) → first m a ≡ true → Begun m a
unfolding first
first_is Model.empty a e = absurd (false≢true e)
first_is (Model.atom b) a e = ([], rw (eqb-true b a e) w_atom)
first_is (Model.seq m n) a e = elim (or_cases (first m a) (nullable m && first n a) e) [
  | inl h ↦ (let x = first_is m a h in (x.0 ++ (any_word n).0, w_seq x.1 (any_word n).1))
  | inr h ↦ (let x = first_is n a (and_right (nullable m) (first n a) h) in (x.0, w_seq (nullable_is m (and_left (nullable m) (first n a) h)) x.1))
]
first_is (Model.choice m n) a e = elim (or_cases (first m a) (first n a) e) [
  | inl h ↦ (let x = first_is m a h in (x.0, w_left x.1))
  | inr h ↦ (let x = first_is n a h in (x.0, w_right x.1))
]
first_is (Model.star m) a e = let x = first_is m a e in (x.0, once_more x.1)

abbrev pub Ended : Model → ℕ → Type 0
Ended m a = (l : List ℕ) × Word m (l ++ a ∷ [])

last_is : (m : Model) (a : ℕ) → last m a ≡ true → Ended m a
unfolding last
last_is Model.empty a e = absurd (false≢true e)
last_is (Model.atom b) a e = ([], rw (eqb-true b a e) w_atom)
last_is (Model.seq m n) a e = elim (or_cases (last n a) (nullable n && last m a) e) [
  | inl h ↦ (let x = last_is n a h in ((any_word m).0 ++ x.0, rw append_assoc (w_seq (any_word m).1 x.1)))
  | inr h ↦ (let x = last_is m a (and_right (nullable n) (last m a) h) in (x.0, rw append-nil at (w_seq x.1 (nullable_is n (and_left (nullable n) (last m a) h)))))
]
last_is (Model.choice m n) a e = elim (or_cases (last m a) (last n a) e) [
  | inl h ↦ (let x = last_is m a h in (x.0, w_left x.1))
  | inr h ↦ (let x = last_is n a h in (x.0, w_right x.1))
]
last_is (Model.star m) a e = let x = last_is m a e in (x.0, once_more x.1)

-- somewhere in a word b stands right behind a
abbrev pub Beside : Model → ℕ → ℕ → Type 0
Beside m a b = (l : List ℕ) × (k : List ℕ) × Word m (l ++ a ∷ b ∷ k)

-- where one word ends with a and the next begins with b
meet : {m n : Model} {a b : ℕ} → Ended m a → Begun n b → Beside (Model.seq m n) a b
meet {a = a} {b = b} x y = (x.0, y.0, rw (append_assoc x.0 (a ∷ []) (b ∷ y.0)) at (w_seq x.1 y.1))

follows_is : (m : Model) (a b : ℕ) → follows m a b ≡ true → Beside m a b
unfolding follows
follows_is Model.empty a b e = absurd (false≢true e)
follows_is (Model.atom c) a b e = absurd (false≢true e)
follows_is (Model.seq m n) a b e = elim (or_cases (follows m a b || follows n a b) (last m a && first n b) e) [
  | inl h ↦ elim (or_cases (follows m a b) (follows n a b) h) [
    | inl g ↦ (let x = follows_is m a b g in (x.0, x.1 ++ (any_word n).0, rw (append_assoc x.0 (a ∷ b ∷ x.1) (any_word n).0) at (w_seq x.2 (any_word n).1)))
    | inr g ↦ (let x = follows_is n a b g in ((any_word m).0 ++ x.0, x.1, rw append_assoc (w_seq (any_word m).1 x.2)))
  ]
  | inr h ↦ meet (last_is m a (and_left (last m a) (first n b) h)) (first_is n b (and_right (last m a) (first n b) h))
]
follows_is (Model.choice m n) a b e = elim (or_cases (follows m a b) (follows n a b) e) [
  | inl h ↦ (let x = follows_is m a b h in (x.0, x.1, w_left x.2))
  | inr h ↦ (let x = follows_is n a b h in (x.0, x.1, w_right x.2))
]
follows_is (Model.star m) a b e = elim (or_cases (follows m a b) (last m a && first m b) e) [
  | inl h ↦ (let x = follows_is m a b h in (x.0, x.1, once_more x.2))
  | inr h ↦ (let x = last_is m a (and_left (last m a) (first m b) h) in let y = first_is m b (and_right (last m a) (first m b) h) in
      (x.0, y.0, rw (append_assoc x.0 (a ∷ []) (b ∷ y.0)) at (w_more x.1 (once_more y.1))))
]

-- ---- the sets from words

is_nullable : {m : Model} {w : List ℕ} → Word m w → [] ≡ w → nullable m ≡ true
unfolding nullable
is_nullable w_empty e = refl
is_nullable w_atom e = absurd (no_cons e)
is_nullable (w_seq {m = m} {n = n} {u = u} {v = v} x y) e =
    and_both (nullable m) (nullable n) (is_nullable x (sym (nil_joined u v e).0)) (is_nullable y (sym (nil_joined u v e).1))
is_nullable (w_left {n = n} x) e = or_left (nullable n) (is_nullable x e)
is_nullable (w_right {m = m} x) e = or_right (nullable m) (is_nullable x e)
is_nullable w_none e = refl
is_nullable (w_more x y) e = refl

is_first : {m : Model} {w : List ℕ} → Word m w → (a : ℕ) (k : List ℕ) → w ≡ a ∷ k → first m a ≡ true
unfolding first
is_first w_empty a k e = absurd (no_cons e)
is_first (w_atom {a = b}) a k e = eq-eqb b a (cc)
is_first (w_seq {m = m} {n = n} {u = u} {v = v} x y) a k e = go (λ k h. is_first x a k h) (λ k h. is_first y a k h) (stands a u v [] k e)
  where
    go : ((k : List ℕ) → u ≡ a ∷ k → first m a ≡ true) → ((k : List ℕ) → v ≡ a ∷ k → first n a ≡ true) → Stands a u v [] k → first m a || nullable m && first n a ≡ true
    go f g (left l p q) = or_left (nullable m && first n a) (f l p)
    go f g (right l p q) = let z = nil_joined u l p in
        or_right (first m a) (and_both (nullable m) (first n a) (is_nullable x (sym z.0)) (g k (rw z.1 at q)))
is_first (w_left {n = n} x) a k e = or_left (first n a) (is_first x a k e)
is_first (w_right {m = m} x) a k e = or_right (first m a) (is_first x a k e)
is_first w_none a k e = absurd (no_cons e)
is_first (w_more {m = m} {u = u} {v = v} x y) a k e = go (λ k h. is_first x a k h) (λ k h. is_first y a k h) (stands a u v [] k e)
  where
    go : ((k : List ℕ) → u ≡ a ∷ k → first m a ≡ true) → ((k : List ℕ) → v ≡ a ∷ k → first m a ≡ true) → Stands a u v [] k → first m a ≡ true
    go f g (left l p q) = f l p
    go f g (right l p q) = g k (rw (nil_joined u l p).1 at q)

is_last : {m : Model} {w : List ℕ} → Word m w → (a : ℕ) (l : List ℕ) → w ≡ l ++ a ∷ [] → last m a ≡ true
unfolding last
is_last w_empty a l e = absurd (no_place l a _ e)
is_last (w_atom {a = b}) a l e = eq-eqb b a (one_place b l a [] e).0
is_last (w_seq {m = m} {n = n} {u = u} {v = v} x y) a l e = go (λ l h. is_last x a l h) (λ l h. is_last y a l h) (stands a u v l [] e)
  where
    go : ((l : List ℕ) → u ≡ l ++ a ∷ [] → last m a ≡ true) → ((l : List ℕ) → v ≡ l ++ a ∷ [] → last n a ≡ true) → Stands a u v l [] → last n a || nullable n && last m a ≡ true
    go f g (left k p q) = let z = nil_joined k v q in
        or_right (last n a) (and_both (nullable n) (last m a) (is_nullable y (sym z.1)) (f l (rw z.0 at p)))
    go f g (right k p q) = or_left (nullable n && last m a) (g k q)
is_last (w_left {n = n} x) a l e = or_left (last n a) (is_last x a l e)
is_last (w_right {m = m} x) a l e = or_right (last m a) (is_last x a l e)
is_last w_none a l e = absurd (no_place l a _ e)
is_last (w_more {m = m} {u = u} {v = v} x y) a l e = go (λ l h. is_last x a l h) (λ l h. is_last y a l h) (stands a u v l [] e)
  where
    go : ((l : List ℕ) → u ≡ l ++ a ∷ [] → last m a ≡ true) → ((l : List ℕ) → v ≡ l ++ a ∷ [] → last m a ≡ true) → Stands a u v l [] → last m a ≡ true
    go f g (left k p q) = f l (rw (nil_joined k v q).0 at p)
    go f g (right k p q) = g k q

-- u ++ v has a and b beside each other: both in u, both in v, or where they meet
pub data Pair (a b : ℕ) (u v l k : List ℕ) : Type 0 where
  in_left : (m : List ℕ) → u ≡ l ++ a ∷ b ∷ m → Pair a b u v l k
  in_right : (m : List ℕ) → v ≡ m ++ a ∷ b ∷ k → Pair a b u v l k
  between : u ≡ l ++ a ∷ [] → v ≡ b ∷ k → Pair a b u v l k

pair : (a b : ℕ) (u v l k : List ℕ) → u ++ v ≡ l ++ a ∷ b ∷ k → Pair a b u v l k
pair a b u v l k e = go (stands a u v l (b ∷ k) e)
  where
    go : Stands a u v l (b ∷ k) → Pair a b u v l k
    go (left [] p q) = between p (sym q)
    go (left (x ∷ m) p q) = in_left m (let z : x ≡ b = cc in rw z at p)
    go (right m p q) = in_right m q

is_follows : {m : Model} {w : List ℕ} → Word m w → (a b : ℕ) (l k : List ℕ) → w ≡ l ++ a ∷ b ∷ k → follows m a b ≡ true
unfolding follows first
is_follows w_empty a b l k e = absurd (no_place l a _ e)
is_follows (w_atom {a = c}) a b l k e = absurd (no_cons (sym (one_place c l a (b ∷ k) e).1))
is_follows (w_seq {m = m} {n = n} {u = u} {v = v} x y) a b l k e = go (λ l k h. is_follows x a b l k h) (λ l k h. is_follows y a b l k h) (pair a b u v l k e)
  where
    go : ((l k : List ℕ) → u ≡ l ++ a ∷ b ∷ k → follows m a b ≡ true) → ((l k : List ℕ) → v ≡ l ++ a ∷ b ∷ k → follows n a b ≡ true) → Pair a b u v l k
        → follows m a b || follows n a b || last m a && first n b ≡ true
    go f g (in_left h p) = or_left (last m a && first n b) (or_left (follows n a b) (f l h p))
    go f g (in_right h p) = or_left (last m a && first n b) (or_right (follows m a b) (g h k p))
    go f g (between p q) = or_right (follows m a b || follows n a b) (and_both (last m a) (first n b) (is_last x a l p) (is_first y b k q))
is_follows (w_left {n = n} x) a b l k e = or_left (follows n a b) (is_follows x a b l k e)
is_follows (w_right {m = m} x) a b l k e = or_right (follows m a b) (is_follows x a b l k e)
is_follows w_none a b l k e = absurd (no_place l a _ e)
is_follows (w_more {m = m} {u = u} {v = v} x y) a b l k e = go (λ l k h. is_follows x a b l k h) (λ l k h. is_follows y a b l k h) (pair a b u v l k e)
  where
    go : ((l k : List ℕ) → u ≡ l ++ a ∷ b ∷ k → follows m a b ≡ true) → ((l k : List ℕ) → v ≡ l ++ a ∷ b ∷ k → follows m a b || last m a && first m b ≡ true) → Pair a b u v l k
        → follows m a b || last m a && first m b ≡ true
    go f g (in_left h p) = or_left (last m a && first m b) (f l h p)
    go f g (in_right h p) = g h k p
    go f g (between p q) = or_right (follows m a b) (and_both (last m a) (first m b) (is_last x a l p) (is_first y b k q))

-- ---- the four theorems

module _ (m : Model) where
  pub nullable_word : nullable m ≡ true ↔ Word m []
  nullable_word = (nullable_is m, λ w. is_nullable w refl)

  pub first_word : (a : ℕ) → first m a ≡ true ↔ Begun m a
  first_word a = (first_is m a, λ w. is_first w.1 a w.0 refl)

  pub last_word : (a : ℕ) → last m a ≡ true ↔ Ended m a
  last_word a = (last_is m a, λ w. is_last w.1 a w.0 refl)

  pub follows_word : (a b : ℕ) → follows m a b ≡ true ↔ Beside m a b
  follows_word a b = (follows_is m a b, λ w. is_follows w.2 a b w.0 w.1 refl)

-- ---- heads

same_head_is : (g h : Head) → same_head g h ≡ true → g ≡ h
unfolding same_head
same_head_is Head.text Head.text e = refl
same_head_is Head.text Head.bool e = cc
same_head_is Head.text (Head.label n) e = cc
same_head_is Head.bool Head.text e = cc
same_head_is Head.bool Head.bool e = refl
same_head_is Head.bool (Head.label n) e = cc
same_head_is (Head.label m) Head.text e = cc
same_head_is (Head.label m) Head.bool e = cc
same_head_is (Head.label m) (Head.label n) e = ap Head.label (eqb-true m n e)

same_head_refl : (h : Head) → same_head h h ≡ true
unfolding same_head
same_head_refl Head.text = refl
same_head_refl Head.bool = refl
same_head_refl (Head.label n) = eq-eqb n n refl

pub same_head_says : (g h : Head) → same_head g h ≡ true ↔ g ≡ h
same_head_says g h = (same_head_is g h, λ e. rw e (same_head_refl h))
