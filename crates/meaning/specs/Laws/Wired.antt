-- A table of next sets that is wired for a model admits exactly the forests of the model: forwards by induction over the forest's derivation, backwards over the model. Over any meaning `M` of the
-- places; it is not asked that a model has each place once.
use Rattle.std.specs.Prelude.{ℕ, zero, suc, ◌≤◌, ◌<◌, ◌≡◌, Bool, true, false, ◌&&◌, ◌||◌, ◌⊎◌, ◌↔◌, eqb}
use Rattle.std.proofs.Math.Path.{refl, sym}
use Rattle.std.proofs.Common.{◌∙◌, ap, arith}
use Rattle.std.proofs.Math.Bool.{false≢true}
use Rattle.std.proofs.Math.Logic.{inl, inr}
use borrow.Author.Tests.{eqb-true, eq-eqb}
use Rattle.meaning.specs.Forest.{Tree, Forest, nil, cons, only, ◌⊕◌, count}
use Rattle.meaning.specs.Types.{Head}
use Rattle.meaning.specs.Places.{Model, Set, nullable, first, last, follows, start}
use Rattle.meaning.specs.Laws.Bools.{or_left, or_right, or_cases, and_left, and_right, and_false, or_false}
use Rattle.meaning.specs.Laws.Forest.{⊕-nil, nil-⊕, ⊕-assoc, count-⊕}

-- only End
abbrev pub ends : Set
ends = λ b. eqb 0 b

-- what may stand where m begins and k stands behind it; with `ends` for k, `start m`
abbrev pub starting : Model → Set → Set
starting m k = λ b. first m b || nullable m && k b

-- what may stand behind a turn of m
abbrev pub turning : Model → Set → Set
turning m k = λ b. first m b || k b

-- ---- laws of the tests that the sets are made of

seq_law : (fm nm fn nn k : Bool) → fm || nm && (fn || nn && k) ≡ true → fm || nm && fn || nm && nn && k ≡ true
seq_law true nm fn nn k e = refl
seq_law false true fn nn k e = e
seq_law false false fn nn k e = e

left_law : (fm nm fn nn k : Bool) → fm || nm && k ≡ true → fm || fn || (nm || nn) && k ≡ true
left_law true nm fn nn k e = refl
left_law false true fn nn k e = or_right fn e
left_law false false fn nn k e = absurd (false≢true e)

right_law : (fm nm fn nn k : Bool) → fn || nn && k ≡ true → fm || fn || (nm || nn) && k ≡ true
right_law true nm fn nn k e = refl
right_law false nm true nn k e = refl
right_law false true false nn k e = and_right nn k e
right_law false false false nn k e = e

star_law : (fm nm k : Bool) → fm || nm && (fm || k) ≡ true → fm || k ≡ true
star_law true nm k e = refl
star_law false nm k e = and_right nm k e

-- ---- wiring

module _ (nx : ℕ → Set) where
  -- each place of m has the next set that it gets where k stands behind m
  unfoldable pub Wired : Model → Set → Type 0
  Wired Model.empty k = Unit {0}
  Wired (Model.atom a) k = (0 < a) × ((b : ℕ) → nx a b ≡ k b)
  Wired (Model.seq m n) k = Wired m (starting n k) × Wired n k
  Wired (Model.choice m n) k = Wired m k × Wired n k
  Wired (Model.star m) k = Wired m (turning m k)

-- ---- what a wired table says of each place

unfoldable pub has : Model → ℕ → Bool
has Model.empty a = false
has (Model.atom b) a = eqb b a
has (Model.seq m n) a = has m a || has n a
has (Model.choice m n) a = has m a || has n a
has (Model.star m) a = has m a

-- what may stand behind the place a of m where k stands behind m
abbrev pub behind : Model → Set → ℕ → Set
behind m k a = λ b. follows m a b || last m a && k b

or_neither : (a b : Bool) → a || b ≡ false → (a ≡ false) × (b ≡ false)
or_neither true b e = absurd (false≢true (sym e))
or_neither false b e = (refl, e)

-- nothing ends with, or stands behind, what does not occur
absent_last : (m : Model) (a : ℕ) → has m a ≡ false → last m a ≡ false
unfolding has last
absent_last Model.empty a e = refl
absent_last (Model.atom c) a e = e
absent_last (Model.seq m n) a e = let h = or_neither (has m a) (has n a) e in rw (absent_last n a h.1, absent_last m a h.0) (and_false (nullable n))
absent_last (Model.choice m n) a e = let h = or_neither (has m a) (has n a) e in rw (absent_last m a h.0, absent_last n a h.1)
absent_last (Model.star m) a e = absent_last m a e

absent_follows : (m : Model) (a b : ℕ) → has m a ≡ false → follows m a b ≡ false
unfolding has follows
absent_follows Model.empty a b e = refl
absent_follows (Model.atom c) a b e = refl
absent_follows (Model.seq m n) a b e = let h = or_neither (has m a) (has n a) e in rw (absent_follows m a b h.0, absent_follows n a b h.1, absent_last m a h.0)
absent_follows (Model.choice m n) a b e = let h = or_neither (has m a) (has n a) e in rw (absent_follows m a b h.0, absent_follows n a b h.1)
absent_follows (Model.star m) a b e = rw (absent_follows m a b e, absent_last m a e)

pub absent : (m : Model) (k : Set) (a b : ℕ) → has m a ≡ false → behind m k a b ≡ false
absent m k a b e = rw (absent_follows m a b e, absent_last m a e)

-- what stands behind a place of a whole, by its parts
pub behind_seq : (m n : Model) (k : Set) (a b : ℕ) → behind (Model.seq m n) k a b ≡ behind m (starting n k) a b || behind n k a b
unfolding follows last
behind_seq m n k a b = law (follows m a b) (last m a) (follows n a b) (last n a) (first n b) (nullable n) (k b)
  where
    law : (Fm Lm Fn Ln f e k : Bool) → Fm || Fn || Lm && f || (Ln || e && Lm) && k ≡ (Fm || Lm && (f || e && k)) || (Fn || Ln && k)
    law true Lm Fn Ln f e k = refl
    law false false true Ln f e k = refl
    law false false false true f e k = refl
    law false false false false f true k = refl
    law false false false false f false k = refl
    law false true true Ln true e k = refl
    law false true false Ln true e k = refl
    law false true true Ln false true true = refl
    law false true true Ln false true false = refl
    law false true true Ln false false k = refl
    law false true false true false true true = refl
    law false true false true false true false = refl
    law false true false true false false k = refl
    law false true false false false true true = refl
    law false true false false false true false = refl
    law false true false false false false k = refl

pub behind_choice : (m n : Model) (k : Set) (a b : ℕ) → behind (Model.choice m n) k a b ≡ behind m k a b || behind n k a b
unfolding follows last
behind_choice m n k a b = law (follows m a b) (last m a) (follows n a b) (last n a) (k b)
  where
    law : (Fm Lm Fn Ln k : Bool) → Fm || Fn || (Lm || Ln) && k ≡ (Fm || Lm && k) || (Fn || Ln && k)
    law true Lm Fn Ln k = refl
    law false true true Ln true = refl
    law false true true Ln false = refl
    law false true false Ln true = refl
    law false true false true false = refl
    law false true false false false = refl
    law false false true Ln k = refl
    law false false false Ln k = refl

pub behind_star : (m : Model) (k : Set) (a b : ℕ) → behind (Model.star m) k a b ≡ behind m (turning m k) a b
unfolding follows last
behind_star m k a b = law (follows m a b) (last m a) (first m b) (k b)
  where
    law : (Fm Lm f k : Bool) → Fm || Lm && f || Lm && k ≡ Fm || Lm && (f || k)
    law true Lm f k = refl
    law false true f k = refl
    law false false f k = refl

-- two parts of which at least one has the place
both_parts : (x h g u v : Bool) → (h ≡ true → x ≡ u) → (g ≡ true → x ≡ v) → (h ≡ false → u ≡ false) → (g ≡ false → v ≡ false) → h || g ≡ true → x ≡ u || v
both_parts x true true u v p q p' q' e = rw (← p refl, ← q refl) (same x)
  where
    same : (x : Bool) → x ≡ x || x
    same true = refl
    same false = refl
both_parts x true false u v p q p' q' e = rw (q' refl) (p refl ∙ sym (or_false u))
both_parts x false true u v p q p' q' e = rw (p' refl) (q refl)
both_parts x false false u v p q p' q' e = absurd (false≢true e)

pub behind_atom : (a : ℕ) (k : Set) (b : ℕ) → behind (Model.atom a) k a b ≡ k b
unfolding follows last
behind_atom a k b = rw (eq-eqb a a refl)

module _ (nx : ℕ → Set) where
  -- each place of a wired model has its next set, also where it occurs more than once
  pub wired_next : (m : Model) (k : Set) → Wired nx m k → (a : ℕ) → has m a ≡ true → (b : ℕ) → nx a b ≡ behind m k a b
  unfolding has Wired
  wired_next Model.empty k w a e b = absurd (false≢true e)
  wired_next (Model.atom c) k w a e b = rw (← eqb-true c a e) (w.1 b ∙ sym (behind_atom c k b))
  wired_next (Model.seq m n) k w a e b = both_parts (nx a b) (has m a) (has n a) (behind m (starting n k) a b) (behind n k a b)
      (λ h. wired_next m (starting n k) w.0 a h b) (λ h. wired_next n k w.1 a h b) (absent m (starting n k) a b) (absent n k a b) e
      ∙ sym (behind_seq m n k a b)
  wired_next (Model.choice m n) k w a e b = both_parts (nx a b) (has m a) (has n a) (behind m k a b) (behind n k a b)
      (λ h. wired_next m k w.0 a h b) (λ h. wired_next n k w.1 a h b) (absent m k a b) (absent n k a b) e
      ∙ sym (behind_choice m n k a b)
  wired_next (Model.star m) k w a e b = wired_next m (turning m k) w a e b ∙ sym (behind_star m k a b)

-- ---- the forests of a model

module _ (M : ℕ → Tree → Type 0) where
  -- f is a forest of the model m
  pub data In : Model → Forest → Type 0 where
    in_empty : In Model.empty nil
    in_atom : {a : ℕ} {t : Tree} → M a t → In (Model.atom a) (only t)
    in_seq : {m n : Model} {f g : Forest} → In m f → In n g → In (Model.seq m n) (f ⊕ g)
    in_left : {m n : Model} {f : Forest} → In m f → In (Model.choice m n) f
    in_right : {m n : Model} {f : Forest} → In n f → In (Model.choice m n) f
    in_none : {m : Model} → In (Model.star m) nil
    in_more : {m : Model} {f g : Forest} → In m f → In (Model.star m) g → In (Model.star m) (f ⊕ g)

  pub nullable_in : (m : Model) → nullable m ≡ true → In m nil
  unfolding nullable
  nullable_in Model.empty e = in_empty
  nullable_in (Model.atom a) e = absurd (false≢true e)
  nullable_in (Model.seq m n) e = rw (nil-⊕ nil) at (in_seq (nullable_in m (and_left (nullable m) (nullable n) e)) (nullable_in n (and_right (nullable m) (nullable n) e)))
  nullable_in (Model.choice m n) e = elim (or_cases (nullable m) (nullable n) e) [ inl h ↦ in_left (nullable_in m h) | inr h ↦ in_right (nullable_in n h) ]
  nullable_in (Model.star m) e = in_none

  module _ (nx : ℕ → Set) where
    -- the forests that a set admits, by the table
    unfoldable pub Lang : Set → Forest → Type 0
    Lang s nil = s 0 ≡ true
    Lang s (cons t f) = (a : ℕ) × (0 < a) × (s a ≡ true) × M a t × Lang (nx a) f

    pub Lang-mono : (s u : Set) → ((a : ℕ) → s a ≡ true → u a ≡ true) → (f : Forest) → Lang s f → Lang u f
    unfolding Lang
    Lang-mono s u h nil x = h 0 x
    Lang-mono s u h (cons t f) x = (x.0, x.1, h x.0 x.2, x.3, x.4)

    Lang-or : (s u : Set) (f : Forest) → Lang (λ a. s a || u a) f → Lang s f ⊎ Lang u f
    unfolding Lang
    Lang-or s u nil x = or_cases (s 0) (u 0) x
    Lang-or s u (cons t f) x = elim (or_cases (s x.0) (u x.0) x.2) [ inl h ↦ inl (x.0, x.1, h, x.3, x.4) | inr h ↦ inr (x.0, x.1, h, x.3, x.4) ]

    Lang-given : (b : Bool) (s : Set) (f : Forest) → Lang (λ a. b && s a) f → (b ≡ true) × Lang s f
    unfolding Lang
    Lang-given b s nil x = (and_left b (s 0) x, and_right b (s 0) x)
    Lang-given b s (cons t f) x = (and_left b (s x.0) x.2, (x.0, x.1, and_right b (s x.0) x.2, x.3, x.4))

    -- a forest of m, then one that k admits
    pub forward : {m : Model} {f : Forest} → In m f → (k : Set) (g : Forest) → Wired nx m k → Lang k g → Lang (starting m k) (f ⊕ g)
    unfolding Wired Lang first nullable ◌⊕◌
    forward in_empty k g w x = x
    forward (in_atom {a = a} i) k g w x = (a, w.0, or_left _ (eq-eqb a a refl), i, Lang-mono k (nx a) (λ b e. w.1 b ∙ e) g x)
    forward (in_seq {m = m} {n = n} {f = f} {g = h} i j) k g w x = rw (⊕-assoc f h g) (Lang-mono (starting m (starting n k)) (starting (Model.seq m n) k)
        (λ a. seq_law (first m a) (nullable m) (first n a) (nullable n) (k a)) (f ⊕ (h ⊕ g)) (forward i (starting n k) (h ⊕ g) w.0 (forward j k g w.1 x)))
    forward (in_left {m = m} {n = n} {f = f} i) k g w x =
        Lang-mono (starting m k) (starting (Model.choice m n) k) (λ a. left_law (first m a) (nullable m) (first n a) (nullable n) (k a)) (f ⊕ g) (forward i k g w.0 x)
    forward (in_right {m = m} {n = n} {f = f} i) k g w x =
        Lang-mono (starting n k) (starting (Model.choice m n) k) (λ a. right_law (first m a) (nullable m) (first n a) (nullable n) (k a)) (f ⊕ g) (forward i k g w.1 x)
    forward (in_none {m = m}) k g w x = Lang-mono k (turning m k) (λ a. or_right (first m a)) g x
    forward (in_more {m = m} {f = f} {g = h} i j) k g w x = rw (⊕-assoc f h g) (Lang-mono (starting m (turning m k)) (turning m k)
        (λ a. star_law (first m a) (nullable m) (k a)) (f ⊕ (h ⊕ g)) (forward i (turning m k) (h ⊕ g) w (forward j k g w x)))

    -- f begins with a forest of m, and k admits the rest
    pub record Split (m : Model) (k : Set) (f : Forest) : Type 0 where
      pub front : Forest
      pub back : Forest
      pub whole : f ≡ front ⊕ back
      pub inside : In m front
      pub rest : Lang k back

    -- and that forest is not empty
    pub record Piece (m : Model) (k : Set) (f : Forest) : Type 0 where
      pub split : Split m k f
      pub some : 0 < count split.front

    -- no forest of m in front
    bare : {m : Model} (k : Set) (f : Forest) → In m nil → Lang k f → Split m k f
    bare k f i x = record { front = nil; back = f; whole = sym (nil-⊕ f); inside = i; rest = x }

    part : (m : Model) (k : Set) → ((f : Forest) → Lang (first m) f → Piece m k f) → (f : Forest) → Lang (starting m k) f → Split m k f
    part m k back f x = elim (Lang-or (first m) (λ a. nullable m && k a) f x) [
      | inl y ↦ (back f y).split
      | inr y ↦ (let h = Lang-given (nullable m) k f y in bare k f (nullable_in m h.0) h.1)
    ]

    -- a split, and one of its rest
    then : {m n o : Model} (j k : Set) (f : Forest) → ((g h : Forest) → In m g → In n h → In o (g ⊕ h)) → (s : Split m j f) → Split n k s.back → Split o k f
    then j k f join s t = record {
      front = s.front ⊕ t.front;
      back = t.back;
      whole = s.whole ∙ ap (λ g. s.front ⊕ g) t.whole ∙ sym (⊕-assoc s.front t.front t.back);
      inside = join s.front t.front s.inside t.inside;
      rest = t.rest;
    }

    then_some : {m n o : Model} (j k : Set) (f : Forest) → ((g h : Forest) → In m g → In n h → In o (g ⊕ h)) → (s : Piece m j f) → Split n k s.split.back → Piece o k f
    unfolding then
    then_some j k f join s t = record { split = then j k f join s.split t; some = omega (arith, s.some, count-⊕ s.split.front t.front) }

    smaller : {m : Model} {k : Set} {f : Forest} (s : Piece m k f) → count s.split.back < count f
    smaller s = omega (arith, s.some, count-⊕ s.split.front s.split.back, ap count s.split.whole)

    stars : (m : Model) (k : Set) → ((f : Forest) → Lang (first m) f → Piece m (turning m k) f) → (n : ℕ) (f : Forest) → count f ≤ n → Lang (turning m k) f → Split (Model.star m) k f
    stars m k back zero f l x = elim (Lang-or (first m) k f x) [
      | inl y ↦ absurd (omega (arith, smaller (back f y)))
      | inr y ↦ bare k f in_none y
    ]
    stars m k back (suc n) f l x = elim (Lang-or (first m) k f x) [
      | inl y ↦ (let s = back f y in
          then (turning m k) k f (λ g h. in_more) s.split (stars m k back n s.split.back (omega (arith, smaller s)) s.split.rest))
      | inr y ↦ bare k f in_none y
    ]

    within : {m n : Model} {k : Set} {f : Forest} → ((g : Forest) → In m g → In n g) → Piece m k f → Piece n k f
    within h s = record {
      split = record { front = s.split.front; back = s.split.back; whole = s.split.whole; inside = h s.split.front s.split.inside; rest = s.split.rest };
      some = s.some;
    }

    one_atom : (a : ℕ) (k : Set) → Wired nx (Model.atom a) k → (f : Forest) → Lang (first (Model.atom a)) f → Piece (Model.atom a) k f
    unfolding Wired Lang first ◌⊕◌ count
    one_atom a k w nil x = absurd (omega (arith, eqb-true a 0 x, w.0))
    one_atom a k w (cons t f) x = let e = eqb-true a x.0 x.2 in record {
      split = record { front = only t; back = f; whole = refl; inside = in_atom {a = a} {t = t} (rw e x.3); rest = Lang-mono (nx x.0) k (λ b h. sym (w.1 b) ∙ (rw e h)) f x.4 };
      some = omega arith;
    }

    nothing : (f : Forest) → Lang (first Model.empty) f → ⊥
    unfolding Lang first
    nothing nil x = false≢true x
    nothing (cons t f) x = false≢true x.2

    pub backward : (m : Model) (k : Set) → Wired nx m k → (f : Forest) → Lang (first m) f → Piece m k f
    unfolding Wired first
    backward Model.empty k w f x = absurd (nothing f x)
    backward (Model.atom a) k w f x = one_atom a k w f x
    backward (Model.seq m n) k w f x = elim (Lang-or (first m) (λ a. nullable m && first n a) f x) [
      | inl y ↦ (let s = backward m (starting n k) w.0 f y in then_some (starting n k) k f (λ g h. in_seq) s (part n k (backward n k w.1) s.split.back s.split.rest))
      | inr y ↦ (let h = Lang-given (nullable m) (first n) f y in within (λ g i. rw (nil-⊕ g) at (in_seq (nullable_in m h.0) i)) (backward n k w.1 f h.1))
    ]
    backward (Model.choice m n) k w f x = elim (Lang-or (first m) (first n) f x) [
      | inl y ↦ within (λ g i. in_left i) (backward m k w.0 f y)
      | inr y ↦ within (λ g i. in_right i) (backward n k w.1 f y)
    ]
    backward (Model.star m) k w f x =
        let s = backward m (turning m k) w f x in
        then_some (turning m k) k f (λ g h. in_more) s (stars m k (backward m (turning m k) w) (count s.split.back) s.split.back (omega arith) s.split.rest)

    only_nil : (f : Forest) → Lang ends f → f ≡ nil
    unfolding Lang
    only_nil nil x = refl
    only_nil (cons t f) x = absurd (omega (arith, eqb-true 0 x.0 x.2, x.1))

    ends_nil : Lang ends nil
    unfolding Lang
    ends_nil = eq-eqb 0 0 refl

    -- the forests of a model are those that its starting set admits
    pub places : (m : Model) → Wired nx m ends → (f : Forest) → Lang (start m) f ↔ In m f
    places m w f = (
      (λ x. let s = part m ends (backward m ends w) f x in
          rw (s.whole ∙ ap (λ g. s.front ⊕ g) (only_nil s.back s.rest) ∙ ⊕-nil s.front) s.inside),
      (λ i. rw ⊕-nil at (forward i ends nil w ends_nil)),
    )

-- ---- trees and forests by a table of heads, of what may stand first inside each place, and of what may stand next

module _ (hd : ℕ → Head) (inner nx : ℕ → Set) where
  unfoldable mutual
    pub FitsBy : Tree → ℕ → Type 0
    FitsBy (Tree.text w) a = hd a ≡ Head.text
    FitsBy (Tree.bool b) a = hd a ≡ Head.bool
    FitsBy (Tree.node n f) a = (hd a ≡ Head.label n) × AdmitsBy f (inner a)

    pub AdmitsBy : Forest → Set → Type 0
    AdmitsBy nil s = s 0 ≡ true
    AdmitsBy (cons t f) s = (a : ℕ) × (0 < a) × (s a ≡ true) × FitsBy t a × AdmitsBy f (nx a)

  pub admits_by_lang : (f : Forest) (s : Set) → AdmitsBy f s ↔ Lang (λ a t. FitsBy t a) nx s f
  unfolding AdmitsBy Lang
  admits_by_lang nil s = (λ x. x, λ x. x)
  admits_by_lang (cons t f) s = (
    λ x. (x.0, x.1, x.2, x.3, (admits_by_lang f (nx x.0)).0 x.4),
    λ x. (x.0, x.1, x.2, x.3, (admits_by_lang f (nx x.0)).1 x.4),
  )
