-- Where rows refer only to lower rows and no row is referred to twice, the model at a row has each place once: a place on both sides of a row would lead, going up by its only user, to a row used
-- twice or to a row below itself.
-- Then the computed next sets are wired, and words that go through one place can be exchanged behind it. A shaped sheet's types are such a table. Also: at row r, r steps down are enough, so the
-- type and the model of a row are made of those of its parts.
use Prim.Native.Nat.{ℕ, zero, suc, ◌≤◌, ◌<◌}
use Rattle.std.specs.Prelude.{◌≡◌, Bool, false, ◌||◌, List, [], ◌∷◌, ◌++◌, ◌⊎◌, eqb}
use Rattle.std.proofs.Math.Path.{refl, sym}
use Rattle.std.proofs.Common.{◌∙◌, ap, append_assoc, arith, eqb-true, eq-eqb}
use Rattle.std.proofs.Math.Bool.{true}
use Rattle.std.proofs.lemmas.Bool.{false≢true}
use Rattle.std.proofs.Math.Logic.{inl, inr}
use Rattle.std.proofs.Math.Decide.{ℕ_discrete}
use Rattle.meaning.specs.Tests.{total, in_table}
use Rattle.meaning.specs.Sheet.{Cells, script_of, sheet_of}
use Rattle.meaning.specs.Kinds.{TypeRow, type_form}
use Rattle.meaning.specs.Types.{Ty, ty_form, ty, ty_at}
use Rattle.meaning.specs.Places.{Word, w_empty, w_atom, w_seq, w_left, w_right, w_none, w_more, Model, model_form, model, model_at, model_in, first, follows, Set, next}
use Rattle.meaning.specs.Shape.{shapely, type_uses, hit, hits, own, type_users}
use Rattle.meaning.specs.Laws.Bools.{or_left, or_right, or_cases, or_false}
use Rattle.meaning.specs.Laws.Tests.{in_table_lem, table_low, table_high, total_at, total_both}
use Rattle.meaning.specs.Laws.Models.{Stands, left, right, stands, no_place, one_place, first_word, follows_word}
use Rattle.meaning.specs.Laws.Shaped.{kind_in, one_user, named, label_row, seq_row, choice_row, star_row, name_row_lem}
use Rattle.meaning.specs.Laws.Wired.{Wired, ends, starting, turning, behind, has, absent, behind_seq, behind_choice, behind_star, behind_atom}

-- ---- each place once

-- the two sides of a sequence and of a choice share no place
unfoldable pub Apart : Model → Type 0
Apart Model.empty = Unit {0}
Apart (Model.atom a) = Unit {0}
Apart (Model.seq m n) = Apart m × Apart n × ((a : ℕ) → has m a ≡ true → has n a ≡ true → ⊥)
Apart (Model.choice m n) = Apart m × Apart n × ((a : ℕ) → has m a ≡ true → has n a ≡ true → ⊥)
Apart (Model.star m) = Apart m

-- no place is 0, which is End
abbrev pub Placed : Model → Type 0
Placed m = (a : ℕ) → has m a ≡ true → 0 < a

left_only : {u v : Bool} → v ≡ false → u || v ≡ u
left_only {u} e = rw e (or_false u)

right_only : {u v : Bool} → u ≡ false → u || v ≡ v
right_only e = rw e

missing : (a b : Bool) → (a ≡ true → b ≡ true → ⊥) → a ≡ true → b ≡ false
missing a true h e = absurd (h e refl)
missing a false h e = refl

-- if each place has its next set, then the whole is wired
pub apart_wired : (nx : ℕ → Set) (m : Model) (k : Set) → Apart m → Placed m → ((a b : ℕ) → has m a ≡ true → nx a b ≡ behind m k a b) → Wired nx m k
unfolding Apart has Wired
apart_wired nx Model.empty k x l h = tt
apart_wired nx (Model.atom a) k x l h = (l a (eq-eqb a a refl), λ b. h a b (eq-eqb a a refl) ∙ behind_atom a k b)
apart_wired nx (Model.seq m n) k x l h = (
  apart_wired nx m (starting n k) x.0 (λ a p. l a (or_left (has n a) p))
      (λ a b p. h a b (or_left (has n a) p) ∙ behind_seq m n k a b ∙ left_only (absent n k a b (missing (has m a) (has n a) (x.2 a) p))),
  apart_wired nx n k x.1 (λ a p. l a (or_right (has m a) p)) (λ a b p. h a b (or_right (has m a) p) ∙ behind_seq m n k a b
      ∙ right_only (absent m (starting n k) a b (missing (has n a) (has m a) (λ q o. x.2 a o q) p))),
)
apart_wired nx (Model.choice m n) k x l h = (
  apart_wired nx m k x.0 (λ a p. l a (or_left (has n a) p)) (λ a b p. h a b (or_left (has n a) p) ∙ behind_choice m n k a b ∙ left_only (absent n k a b (missing (has m a) (has n a) (x.2 a) p))),
  apart_wired nx n k x.1 (λ a p. l a (or_right (has m a) p)) (λ a b p. h a b (or_right (has m a) p) ∙ behind_choice m n k a b
      ∙ right_only (absent m k a b (missing (has n a) (has m a) (λ q o. x.2 a o q) p))),
)
apart_wired nx (Model.star m) k x l h = apart_wired nx m (turning m k) x l (λ a b p. h a b p ∙ behind_star m k a b)

pub next_wired : (m : Model) → Apart m → Placed m → Wired (next m) m ends
next_wired m x l = apart_wired (next m) m ends x l (λ a b p. refl)

-- ---- words of such a model: two that go through one place can be exchanged behind it

pub word_has : {m : Model} {w : List ℕ} → Word m w → (c : ℕ) (l k : List ℕ) → w ≡ l ++ c ∷ k → has m c ≡ true
unfolding has
word_has w_empty c l k e = absurd (no_place l c k e)
word_has (w_atom {a = b}) c l k e = eq-eqb b c (one_place b l c k e).0
word_has (w_seq {m = m} {n = n} {u = u} {v = v} x y) c l k e = go (λ l k h. word_has x c l k h) (λ l k h. word_has y c l k h) (stands c u v l k e)
  where
    go : ((l k : List ℕ) → u ≡ l ++ c ∷ k → has m c ≡ true) → ((l k : List ℕ) → v ≡ l ++ c ∷ k → has n c ≡ true) → Stands c u v l k → has m c || has n c ≡ true
    go f g (left h p q) = or_left (has n c) (f l h p)
    go f g (right h p q) = or_right (has m c) (g h k q)
word_has (w_left {n = n} x) c l k e = or_left (has n c) (word_has x c l k e)
word_has (w_right {m = m} x) c l k e = or_right (has m c) (word_has x c l k e)
word_has w_none c l k e = absurd (no_place l c k e)
word_has (w_more {m = m} {u = u} {v = v} x y) c l k e = go (λ l k h. word_has x c l k h) (λ l k h. word_has y c l k h) (stands c u v l k e)
  where
    go : ((l k : List ℕ) → u ≡ l ++ c ∷ k → has m c ≡ true) → ((l k : List ℕ) → v ≡ l ++ c ∷ k → has m c ≡ true) → Stands c u v l k → has m c ≡ true
    go f g (left h p q) = f l h p
    go f g (right h p q) = g h k q

-- what stands first in a model occurs in it; so does what stands behind a place, and that place
pub first_has : (m : Model) (a : ℕ) → first m a ≡ true → has m a ≡ true
first_has m a e = let x = (first_word m a).0 e in word_has x.1 a [] x.0 refl

pub follows_has : (m : Model) (a b : ℕ) → follows m a b ≡ true → has m b ≡ true
follows_has m a b e = let x = (follows_word m a b).0 e in word_has x.2 b (x.0 ++ a ∷ []) x.1 (sym (append_assoc x.0 (a ∷ []) (b ∷ x.1)))

pub followed_has : (m : Model) (a b : ℕ) → follows m a b ≡ true → has m a ≡ true
followed_has m a b e = let x = (follows_word m a b).0 e in word_has x.2 a x.0 (b ∷ x.1) refl

empty_parts : {w : List ℕ} → Word Model.empty w → [] ≡ w
empty_parts w_empty = refl

atom_parts : {b : ℕ} {w : List ℕ} → Word (Model.atom b) w → b ∷ [] ≡ w
atom_parts w_atom = refl

seq_parts : {m n : Model} {w : List ℕ} → Word (Model.seq m n) w → (u : List ℕ) × (v : List ℕ) × Word m u × Word n v × (u ++ v ≡ w)
seq_parts (w_seq {u = u} {v = v} x y) = (u, v, x, y, refl)

choice_parts : {m n : Model} {w : List ℕ} → Word (Model.choice m n) w → Word m w ⊎ Word n w
choice_parts (w_left x) = inl x
choice_parts (w_right x) = inr x

abbrev pub Exchanged : Model → Type 0
Exchanged m = (c : ℕ) (u v u' v' : List ℕ) → Word m (u ++ c ∷ v) → Word m (u' ++ c ∷ v') → Word m (u ++ c ∷ v')

-- the turn of a star that goes through c
record Turn (m : Model) (u : List ℕ) (c : ℕ) (v : List ℕ) : Type 0 where
  front : List ℕ
  before : List ℕ
  after : List ℕ
  back : List ℕ
  upto : u ≡ front ++ before
  onto : v ≡ after ++ back
  turns : Word (Model.star m) front
  turn : Word m (before ++ c ∷ after)
  more : Word (Model.star m) back

turn_at : {m : Model} {w : List ℕ} → Word (Model.star m) w → (c : ℕ) (u v : List ℕ) → w ≡ u ++ c ∷ v → Turn m u c v
turn_at w_none c u v e = absurd (no_place u c v e)
turn_at (w_more {m = m} {u = x} {v = y} i j) c u v e = go (λ p h. turn_at j c p v h) (stands c x y u v e)
  where
    go : ((p : List ℕ) → y ≡ p ++ c ∷ v → Turn m p c v) → Stands c x y u v → Turn m u c v
    go h (left p q o) = record { front = []; before = u; after = p; back = y; upto = refl; onto = o; turns = w_none; turn = rw q at i; more = j }
    go h (right p q o) = let t = h p o in record {
      front = x ++ t.front;
      before = t.before;
      after = t.after;
      back = t.back;
      upto = q ∙ ap (λ l. x ++ l) t.upto ∙ sym (append_assoc x t.front t.before);
      onto = t.onto;
      turns = w_more i t.turns;
      turn = t.turn;
      more = t.more;
    }

star_joined : {m : Model} {u v : List ℕ} → Word (Model.star m) u → Word (Model.star m) v → Word (Model.star m) (u ++ v)
star_joined w_none y = y
star_joined {v = v} (w_more {u = a} {v = b} i j) y = rw (append_assoc a b v) (w_more i (star_joined j y))

turned : {m : Model} {u v u' v' : List ℕ} {c : ℕ} → Exchanged m → Turn m u c v → Turn m u' c v' → Word (Model.star m) (u ++ c ∷ v')
turned {c = c} h s t = rw (s.upto, t.onto, append_assoc s.front s.before (c ∷ t.after ++ t.back)) (rw (append_assoc s.before (c ∷ t.after) t.back) at
    (star_joined s.turns (w_more (h c s.before s.after t.before t.after s.turn t.turn) t.more)))

exchanged_seq : {m n : Model} → Exchanged m → Exchanged n → ((a : ℕ) → has m a ≡ true → has n a ≡ true → ⊥) → Exchanged (Model.seq m n)
exchanged_seq {m} {n} f g d c u v u' v' x y = go (seq_parts x) (seq_parts y)
  where
    go : (k : List ℕ) × (l : List ℕ) × Word m k × Word n l × (k ++ l ≡ u ++ c ∷ v) → (k : List ℕ) × (l : List ℕ) × Word m k × Word n l × (k ++ l ≡ u' ++ c ∷ v') → Word (Model.seq m n) (u ++ c ∷ v')
    go (k, l, i, j, e) (k', l', i', j', e') = both (stands c k l u v e) (stands c k' l' u' v' e')
      where
        both : Stands c k l u v → Stands c k' l' u' v' → Word (Model.seq m n) (u ++ c ∷ v')
        both (left p q o) (left p' q' o') = rw o' (rw (append_assoc u (c ∷ p') l') at (w_seq (f c u p u' p' (rw q at i) (rw q' at i')) j'))
        both (left p q o) (right p' q' o') = absurd (d c (word_has i c u p q) (word_has j' c p' v' o'))
        both (right p q o) (left p' q' o') = absurd (d c (word_has i' c u' p' q') (word_has j c p v o))
        both (right p q o) (right p' q' o') = rw (q, append_assoc k p (c ∷ v')) (w_seq i (g c p v p' v' (rw o at j) (rw o' at j')))

exchanged_choice : {m n : Model} → Exchanged m → Exchanged n → ((a : ℕ) → has m a ≡ true → has n a ≡ true → ⊥) → Exchanged (Model.choice m n)
exchanged_choice {m} {n} f g d c u v u' v' x y = both (choice_parts x) (choice_parts y)
  where
    both : Word m (u ++ c ∷ v) ⊎ Word n (u ++ c ∷ v) → Word m (u' ++ c ∷ v') ⊎ Word n (u' ++ c ∷ v') → Word (Model.choice m n) (u ++ c ∷ v')
    both (inl i) (inl j) = w_left (f c u v u' v' i j)
    both (inl i) (inr j) = absurd (d c (word_has i c u v refl) (word_has j c u' v' refl))
    both (inr i) (inl j) = absurd (d c (word_has j c u' v' refl) (word_has i c u v refl))
    both (inr i) (inr j) = w_right (g c u v u' v' i j)

pub exchanged : (m : Model) → Apart m → Exchanged m
unfolding Apart
exchanged Model.empty a c u v u' v' x y = absurd (no_place u c v (empty_parts x))
exchanged (Model.atom b) a c u v u' v' x y =
    let p = one_place b u c v (atom_parts x) in
    let q = one_place b u' c v' (atom_parts y) in
    rw (p.2, q.1, ← p.0) w_atom
exchanged (Model.seq m n) a c u v u' v' x y = exchanged_seq (exchanged m a.0) (exchanged n a.1) a.2 c u v u' v' x y
exchanged (Model.choice m n) a c u v u' v' x y = exchanged_choice (exchanged m a.0) (exchanged n a.1) a.2 c u v u' v' x y
exchanged (Model.star m) a c u v u' v' x y = turned (exchanged m a) (turn_at x c u v refl) (turn_at y c u' v' refl)

-- ---- rows

-- a row refers only to lower rows, and row 0 is no place
unfoldable pub Low : TypeRow → ℕ → Type 0
Low TypeRow.none i = Unit {0}
Low TypeRow.empty i = Unit {0}
Low TypeRow.text i = 0 < i
Low TypeRow.bool i = 0 < i
Low (TypeRow.label n q) i = q < i
Low (TypeRow.seq p q) i = (p < i) × (q < i)
Low (TypeRow.choice p q) i = (p < i) × (q < i)
Low (TypeRow.star p) i = p < i
Low (TypeRow.name x) i = 0 < i

-- row j is a side of the row
unfoldable pub Side : TypeRow → ℕ → Type 0
Side TypeRow.none j = ⊥
Side TypeRow.empty j = ⊥
Side TypeRow.text j = ⊥
Side TypeRow.bool j = ⊥
Side (TypeRow.label n q) j = ⊥
Side (TypeRow.seq p q) j = (p ≡ j) ⊎ (q ≡ j)
Side (TypeRow.choice p q) j = (p ≡ j) ⊎ (q ≡ j)
Side (TypeRow.star p) j = p ≡ j
Side (TypeRow.name x) j = ⊥

-- its two sides are not one row, unless that is row 0
unfoldable pub Distinct : TypeRow → Type 0
Distinct TypeRow.none = Unit {0}
Distinct TypeRow.empty = Unit {0}
Distinct TypeRow.text = Unit {0}
Distinct TypeRow.bool = Unit {0}
Distinct (TypeRow.label n q) = Unit {0}
Distinct (TypeRow.seq p q) = 0 < p → p ≡ q → ⊥
Distinct (TypeRow.choice p q) = 0 < p → p ≡ q → ⊥
Distinct (TypeRow.star p) = Unit {0}
Distinct (TypeRow.name x) = Unit {0}

pub side_lower : (t : TypeRow) (i j : ℕ) → Low t i → Side t j → j < i
unfolding Low Side
side_lower TypeRow.none i j l e = elim e [ ]
side_lower TypeRow.empty i j l e = elim e [ ]
side_lower TypeRow.text i j l e = elim e [ ]
side_lower TypeRow.bool i j l e = elim e [ ]
side_lower (TypeRow.label n q) i j l e = elim e [ ]
side_lower (TypeRow.seq p q) i j l (inl e) = rw e at l.0
side_lower (TypeRow.seq p q) i j l (inr e) = rw e at l.1
side_lower (TypeRow.choice p q) i j l (inl e) = rw e at l.0
side_lower (TypeRow.choice p q) i j l (inr e) = rw e at l.1
side_lower (TypeRow.star p) i j l e = rw e at l
side_lower (TypeRow.name x) i j l e = elim e [ ]

-- ---- steps enough: only rows up to r are looked at, and r steps are enough

pub ty_row : (t : TypeRow) (i : ℕ) → Low t i → (at at' : ℕ → Ty) → ((j : ℕ) → j < i → at j ≡ at' j) → ty_form t at ≡ ty_form t at'
unfolding Low ty_form
ty_row TypeRow.none i l at at' h = refl
ty_row TypeRow.empty i l at at' h = refl
ty_row TypeRow.text i l at at' h = refl
ty_row TypeRow.bool i l at at' h = refl
ty_row (TypeRow.label n q) i l at at' h = rw (h q l)
ty_row (TypeRow.seq p q) i l at at' h = rw (h p l.0, h q l.1)
ty_row (TypeRow.choice p q) i l at at' h = rw (h p l.0, h q l.1)
ty_row (TypeRow.star p) i l at at' h = rw (h p l)
ty_row (TypeRow.name x) i l at at' h = refl

ty_zero : (t : TypeRow) → Low t 0 → (at : ℕ → Ty) → ty_form t at ≡ Ty.empty
unfolding Low ty_form
ty_zero TypeRow.none l at = refl
ty_zero TypeRow.empty l at = refl
ty_zero TypeRow.text l at = absurd (omega arith)
ty_zero TypeRow.bool l at = absurd (omega arith)
ty_zero (TypeRow.label n q) l at = absurd (omega arith)
ty_zero (TypeRow.seq p q) l at = absurd (omega (arith, l.0))
ty_zero (TypeRow.choice p q) l at = absurd (omega (arith, l.0))
ty_zero (TypeRow.star p) l at = absurd (omega arith)
ty_zero (TypeRow.name x) l at = absurd (omega arith)

model_row : (t : TypeRow) (i : ℕ) → Low t i → (at at' : ℕ → Model) → ((j : ℕ) → j < i → at j ≡ at' j) → model_form t i at ≡ model_form t i at'
unfolding Low model_form
model_row TypeRow.none i l at at' h = refl
model_row TypeRow.empty i l at at' h = refl
model_row TypeRow.text i l at at' h = refl
model_row TypeRow.bool i l at at' h = refl
model_row (TypeRow.label n q) i l at at' h = refl
model_row (TypeRow.seq p q) i l at at' h = rw (h p l.0, h q l.1)
model_row (TypeRow.choice p q) i l at at' h = rw (h p l.0, h q l.1)
model_row (TypeRow.star p) i l at at' h = rw (h p l)
model_row (TypeRow.name x) i l at at' h = refl

model_zero : (t : TypeRow) → Low t 0 → (at : ℕ → Model) → model_form t 0 at ≡ Model.empty
unfolding Low model_form
model_zero TypeRow.none l at = refl
model_zero TypeRow.empty l at = refl
model_zero TypeRow.text l at = absurd (omega arith)
model_zero TypeRow.bool l at = absurd (omega arith)
model_zero (TypeRow.label n q) l at = absurd (omega arith)
model_zero (TypeRow.seq p q) l at = absurd (omega (arith, l.0))
model_zero (TypeRow.choice p q) l at = absurd (omega (arith, l.0))
model_zero (TypeRow.star p) l at = absurd (omega arith)
model_zero (TypeRow.name x) l at = absurd (omega arith)

-- two tables that agree up to row n
module _ (form form' : ℕ → TypeRow) (n : ℕ) (low : (i : ℕ) → i ≤ n → Low (form i) i) (same : (i : ℕ) → i ≤ n → form i ≡ form' i) where
  pub ty_same : (k j r : ℕ) → r ≤ n → r ≤ k → r ≤ j → ty form k r ≡ ty form' j r
  unfolding ty
  ty_same zero zero r h p q = refl
  ty_same zero (suc j) zero h p q = sym (ty_zero (form' 0) (rw (same 0 h) at (low 0 h)) (ty form' j))
  ty_same zero (suc j) (suc r) h p q = absurd (omega arith)
  ty_same (suc k) zero zero h p q = ty_zero (form 0) (low 0 h) (ty form k)
  ty_same (suc k) zero (suc r) h p q = absurd (omega arith)
  ty_same (suc k) (suc j) r h p q = rw (← same r h) (ty_row (form r) r (low r h) (ty form k) (ty form' j) (λ i l. ty_same k j i (omega arith) (omega arith) (omega arith)))

  pub model_same : (k j r : ℕ) → r ≤ n → r ≤ k → r ≤ j → model form k r ≡ model form' j r
  unfolding model
  model_same zero zero r h p q = refl
  model_same zero (suc j) zero h p q = sym (model_zero (form' 0) (rw (same 0 h) at (low 0 h)) (model form' j))
  model_same zero (suc j) (suc r) h p q = absurd (omega arith)
  model_same (suc k) zero zero h p q = model_zero (form 0) (low 0 h) (model form k)
  model_same (suc k) zero (suc r) h p q = absurd (omega arith)
  model_same (suc k) (suc j) r h p q = rw (← same r h) (model_row (form r) r (low r h) (model form k) (model form' j) (λ i l. model_same k j i (omega arith) (omega arith) (omega arith)))

  pub ty_at_same : (r : ℕ) → r ≤ n → ty_at form r ≡ ty_at form' r
  unfolding ty_at
  ty_at_same r h = ty_same r r r h (omega arith) (omega arith)

  pub model_at_same : (r : ℕ) → r ≤ n → model_at form r ≡ model_at form' r
  unfolding model_at
  model_at_same r h = model_same r r r h (omega arith) (omega arith)

-- one table, row by row
module _ (form : ℕ → TypeRow) (low : (i : ℕ) → Low (form i) i) where
  ty_enough : (k r : ℕ) → r ≤ k → ty form k r ≡ ty_at form r
  unfolding ty_at
  ty_enough k r h = ty_same form form r (λ i p. low i) (λ i p. refl) k r r (omega arith) h (omega arith)

  pub ty_at_row : (r : ℕ) → ty_at form r ≡ ty_form (form r) (ty_at form)
  unfolding ty
  ty_at_row r = sym (ty_enough (suc r) r (omega arith)) ∙ ty_row (form r) r (low r) (ty form r) (ty_at form) (λ j l. ty_enough r j (omega arith))

  model_enough : (k r : ℕ) → r ≤ k → model form k r ≡ model_at form r
  unfolding model_at
  model_enough k r h = model_same form form r (λ i p. low i) (λ i p. refl) k r r (omega arith) h (omega arith)

  pub model_at_row : (r : ℕ) → model_at form r ≡ model_form (form r) r (model_at form)
  unfolding model
  model_at_row r = sym (model_enough (suc r) r (omega arith)) ∙ model_row (form r) r (low r) (model form r) (model_at form) (λ j l. model_enough r j (omega arith))

-- ---- ways down from side to side

pub data Way (form : ℕ → TypeRow) (r : ℕ) : ℕ → Type 0 where
  here : Way form r r
  down : {j i : ℕ} → Way form r j → Side (form j) i → Way form r i

module _ (form : ℕ → TypeRow) where
  -- one step more at the top
  from : {p a : ℕ} → Way form p a → (r : ℕ) → Side (form r) p → Way form r a
  from here r s = down here s
  from (down w t) r s = down (from w r s) t

  module _ (low : (i : ℕ) → Low (form i) i) where
    way_down : {r a : ℕ} → Way form r a → a ≤ r
    way_down here = omega arith
    way_down (down {j = j} {i = i} w s) = omega (arith, way_down w, side_lower (form j) j i (low j) s)

    abbrev Reached : ℕ → ℕ → Type 0
    Reached r a = Way form r a × (0 < a)

    reached_at : (r a : ℕ) → 0 < r → eqb r a ≡ true → Reached r a
    reached_at r a l e = rw (← eqb-true r a e) (here, l)

    reached_row : (t : TypeRow) (r a : ℕ) (at : ℕ → Model) → Low t r → ((j : ℕ) → Side t j → has (at j) a ≡ true → Reached r a) → has (model_form t r at) a ≡ true → Reached r a
    unfolding Low Side model_form has
    reached_row TypeRow.none r a at l h e = absurd (false≢true e)
    reached_row TypeRow.empty r a at l h e = absurd (false≢true e)
    reached_row TypeRow.text r a at l h e = reached_at r a l e
    reached_row TypeRow.bool r a at l h e = reached_at r a l e
    reached_row (TypeRow.label n q) r a at l h e = reached_at r a (omega arith) e
    reached_row (TypeRow.seq p q) r a at l h e = elim (or_cases (has (at p) a) (has (at q) a) e) [ inl g ↦ h p (inl refl) g | inr g ↦ h q (inr refl) g ]
    reached_row (TypeRow.choice p q) r a at l h e = elim (or_cases (has (at p) a) (has (at q) a) e) [ inl g ↦ h p (inl refl) g | inr g ↦ h q (inr refl) g ]
    reached_row (TypeRow.star p) r a at l h e = h p refl e
    reached_row (TypeRow.name x) r a at l h e = reached_at r a l e

    -- a place of the model at r is reached from r
    reached : (k r a : ℕ) → has (model form k r) a ≡ true → Reached r a
    unfolding model has
    reached zero r a e = absurd (false≢true e)
    reached (suc k) r a e = reached_row (form r) r a (model form k) (low r) (λ j s h. let w = reached k j a h in (from w.0 r s, w.1)) e

    module _ (user : (i k j : ℕ) → 0 < j → Side (form i) j → Side (form k) j → i ≡ k) where
      -- of two ways to one row, one goes through the other's beginning
      meeting : {p a : ℕ} → Way form p a → 0 < a → {q : ℕ} → Way form q a → Way form p q ⊎ Way form q p
      meeting here l v = inr v
      meeting (down w s) l here = inl (down w s)
      meeting (down {j = j} {i = i} w s) l (down {j = k} v t) = meeting w (omega (arith, side_lower (form j) j i (low j) s)) (rw (← user j k i l s t) at v)

      -- no way leads from one side of a row to another
      astray : {p q : ℕ} → Way form p q → (r : ℕ) → 0 < q → Side (form r) p → Side (form r) q → (p ≡ q → ⊥) → ⊥
      astray here r l s t n = n refl
      astray {p} (down {j = j} {i = q} w u) r l s t n = omega (arith, way_down w, side_lower (form r) r p (low r) s, user j r q l u t)

      clash : (k r p q a : ℕ) → Side (form r) p → Side (form r) q → (0 < p → p ≡ q → ⊥) → has (model form k p) a ≡ true → has (model form k q) a ≡ true → ⊥
      clash k r p q a s t n g h = go (meeting x.0 x.1 y.0)
        where
          x : Reached p a
          x = reached k p a g

          y : Reached q a
          y = reached k q a h

          go : Way form p q ⊎ Way form q p → ⊥
          go (inl w) = astray w r (omega (arith, way_down y.0, y.1)) s t (n (omega (arith, way_down x.0, x.1)))
          go (inr w) = astray w r (omega (arith, way_down x.0, x.1)) t s (λ e. n (omega (arith, way_down x.0, x.1)) (sym e))

      apart_row : (t : TypeRow) (r : ℕ) (at : ℕ → Model) → Distinct t → ((j : ℕ) → Side t j → Apart (at j))
          → ((p q a : ℕ) → Side t p → Side t q → (0 < p → p ≡ q → ⊥) → has (at p) a ≡ true → has (at q) a ≡ true → ⊥) → Apart (model_form t r at)
      unfolding Side Distinct model_form Apart
      apart_row TypeRow.none r at d h n = tt
      apart_row TypeRow.empty r at d h n = tt
      apart_row TypeRow.text r at d h n = tt
      apart_row TypeRow.bool r at d h n = tt
      apart_row (TypeRow.label m q) r at d h n = tt
      apart_row (TypeRow.seq p q) r at d h n = (h p (inl refl), h q (inr refl), λ a. n p q a (inl refl) (inr refl) d)
      apart_row (TypeRow.choice p q) r at d h n = (h p (inl refl), h q (inr refl), λ a. n p q a (inl refl) (inr refl) d)
      apart_row (TypeRow.star p) r at d h n = h p refl
      apart_row (TypeRow.name x) r at d h n = tt

      apart : ((i : ℕ) → Distinct (form i)) → (k r : ℕ) → Apart (model form k r)
      unfolding model Apart
      apart d zero r = tt
      apart d (suc k) r = apart_row (form r) r (model form k) (d r) (λ j s. apart d k j) (λ p q a s t n. clash k r p q a s t n)

-- ---- tables of type rows

module _ (row : ℕ → Cells) where
  abbrev pub Lower : Type 0
  Lower = (i : ℕ) → Low (type_form (row i)) i

  -- no row but 0 is a side twice
  pub record Once : Type 0 where
    pub user : (i k j : ℕ) → 0 < j → Side (type_form (row i)) j → Side (type_form (row k)) j → i ≡ k
    pub sides : (i : ℕ) → Distinct (type_form (row i))

-- a name that occurs stands for a row of kind 4
abbrev pub Labelled : (ℕ → Cells) → (ℕ → ℕ) → Type 0
Labelled row name_row = (i : ℕ) → (row i).kind ≡ 8 → (row (name_row (row i).p)).kind ≡ 4

module _ (row : ℕ → Cells) (name_row : ℕ → ℕ) (lower : Lower row) where
  pub model_placed : (r : ℕ) → Placed (model_in row name_row r)
  unfolding model_at
  model_placed r a e = (reached (λ i. type_form (row i)) lower r r a e).1

  pub model_below : (r a : ℕ) → has (model_in row name_row r) a ≡ true → a ≤ r
  unfolding model_at
  model_below r a e = way_down (λ i. type_form (row i)) lower (reached (λ i. type_form (row i)) lower r r a e).0

  pub model_apart : Once row → (r : ℕ) → Apart (model_in row name_row r)
  unfolding model_at
  model_apart once r = apart (λ i. type_form (row i)) lower once.user once.sides r r

  pub model_wired : Once row → (r : ℕ) → Wired (next (model_in row name_row r)) (model_in row name_row r) ends
  model_wired once r = next_wired (model_in row name_row r) (model_apart once r) (model_placed r)

-- ---- the types of a shaped sheet

-- what a row of each kind says
pub data View (c : Cells) : TypeRow → Type 0 where
  v_none : View c TypeRow.none
  v_empty : View c TypeRow.empty
  v_text : c.kind ≡ 2 → View c TypeRow.text
  v_bool : c.kind ≡ 3 → View c TypeRow.bool
  v_label : c.kind ≡ 4 → View c (TypeRow.label c.p c.q)
  v_seq : c.kind ≡ 5 → View c (TypeRow.seq c.p c.q)
  v_choice : c.kind ≡ 6 → View c (TypeRow.choice c.p c.q)
  v_star : c.kind ≡ 7 → View c (TypeRow.star c.p)
  v_name : c.kind ≡ 8 → View c (TypeRow.name c.p)

pub view : (c : Cells) → View c (type_form c)
view c = go c.kind refl
  where
    go : (k : ℕ) → c.kind ≡ k → View c (type_form (record { kind = k; p = c.p; q = c.q; r = c.r }))
    go zero e = v_none
    go (suc zero) e = v_empty
    go (suc (suc zero)) e = v_text e
    go (suc (suc (suc zero))) e = v_bool e
    go (suc (suc (suc (suc zero)))) e = v_label e
    go (suc (suc (suc (suc (suc zero))))) e = v_seq e
    go (suc (suc (suc (suc (suc (suc zero)))))) e = v_choice e
    go (suc (suc (suc (suc (suc (suc (suc zero))))))) e = v_star e
    go (suc (suc (suc (suc (suc (suc (suc (suc zero)))))))) e = v_name e
    go (suc (suc (suc (suc (suc (suc (suc (suc (suc k))))))))) e = v_none

-- the row of an atom
pub data AtomKind (c : Cells) : Type 0 where
  a_text : c.kind ≡ 2 → AtomKind c
  a_bool : c.kind ≡ 3 → AtomKind c
  a_label : c.kind ≡ 4 → AtomKind c
  a_name : c.kind ≡ 8 → AtomKind c

-- the same of a kind alone
abbrev pub PlaceKind : ℕ → Type 0
PlaceKind k = (k ≡ 2) ⊎ ((k ≡ 3) ⊎ ((k ≡ 4) ⊎ (k ≡ 8)))

-- the places of the model at a row are atoms' rows
pub atom_kind : (row : ℕ → Cells) (k r a : ℕ) → has (model (λ i. type_form (row i)) k r) a ≡ true → AtomKind (row a)
unfolding model model_form has
atom_kind row zero r a e = absurd (false≢true e)
atom_kind row (suc k) r a e = go (view (row r)) e (λ j h. atom_kind row k j a h)
  where
    at : ℕ → Model
    at = model (λ i. type_form (row i)) k

    go : {t : TypeRow} → View (row r) t → has (model_form t r at) a ≡ true → ((j : ℕ) → has (at j) a ≡ true → AtomKind (row a)) → AtomKind (row a)
    go v_none h ih = absurd (false≢true h)
    go v_empty h ih = absurd (false≢true h)
    go (v_text d) h ih = rw (← (eqb-true r a h)) (a_text d)
    go (v_bool d) h ih = rw (← (eqb-true r a h)) (a_bool d)
    go (v_label d) h ih = rw (← (eqb-true r a h)) (a_label d)
    go (v_seq d) h ih = elim (or_cases (has (at (row r).p) a) (has (at (row r).q) a) h) [ inl g ↦ ih (row r).p g | inr g ↦ ih (row r).q g ]
    go (v_choice d) h ih = elim (or_cases (has (at (row r).p) a) (has (at (row r).q) a) h) [ inl g ↦ ih (row r).p g | inr g ↦ ih (row r).q g ]
    go (v_star d) h ih = ih (row r).p h
    go (v_name d) h ih = rw (← (eqb-true r a h)) (a_name d)

-- the words of a row that are row j, among those that are parts
abbrev pub type_hits : ℕ → Cells → ℕ
type_hits j c = hits own j (type_uses c) c

pub hit_one : (p j : ℕ) → p ≡ j → hit j p ≡ 1
hit_one p j e = rw (eq-eqb p j e)

pub side_hit : (c : Cells) (t : TypeRow) → View c t → (j : ℕ) → Side t j → 1 ≤ type_hits j c
unfolding Side own
side_hit c t v_none j h = elim h [ ]
side_hit c t v_empty j h = elim h [ ]
side_hit c t (v_text e) j h = elim h [ ]
side_hit c t (v_bool e) j h = elim h [ ]
side_hit c t (v_label e) j h = elim h [ ]
side_hit c t (v_seq e) j (inl h) = rw e (omega (arith, hit_one c.p j h))
side_hit c t (v_seq e) j (inr h) = rw e (omega (arith, hit_one c.q j h))
side_hit c t (v_choice e) j (inl h) = rw e (omega (arith, hit_one c.p j h))
side_hit c t (v_choice e) j (inr h) = rw e (omega (arith, hit_one c.q j h))
side_hit c t (v_star e) j h = rw e (omega (arith, hit_one c.p j h))
side_hit c t (v_name e) j h = elim h [ ]

-- if no row is hit twice, then the two sides are not one row
distinct_row : (c : Cells) (t : TypeRow) → View c t → ((j : ℕ) → 0 < j → Side t j → 2 ≤ type_hits j c → ⊥) → Distinct t
unfolding Side Distinct own
distinct_row c t v_none h = tt
distinct_row c t v_empty h = tt
distinct_row c t (v_text e) h = tt
distinct_row c t (v_bool e) h = tt
distinct_row c t (v_label e) h = tt
distinct_row c t (v_seq e) h = λ l x. h c.p l (inl refl) (rw e (omega (arith, hit_one c.p c.p refl, hit_one c.q c.p (sym x))))
distinct_row c t (v_choice e) h = λ l x. h c.p l (inl refl) (rw e (omega (arith, hit_one c.p c.p refl, hit_one c.q c.p (sym x))))
distinct_row c t (v_star e) h = tt
distinct_row c t (v_name e) h = tt

module _ (s : List ℕ) (e : shapely s ≡ true) where
  pub shaped_lower : Lower (script_of s).type_row
  unfolding Low
  shaped_lower i = go (view ((script_of s).type_row i))
    where
      low : (k : ℕ) → ((script_of s).type_row i).kind ≡ suc k → 1 ≤ i
      low k h = table_low (script_of s).types i (kind_in s i k h)

      go : {t : TypeRow} → View ((script_of s).type_row i) t → Low t i
      go v_none = tt
      go v_empty = tt
      go (v_text k) = low 1 k
      go (v_bool k) = low 2 k
      go (v_label k) = (label_row s e i k).1.lower
      go (v_seq k) = let p = seq_row s e i k in (p.0.lower, p.1.lower)
      go (v_choice k) = let p = choice_row s e i k in (p.0.lower, p.1.lower)
      go (v_star k) = (star_row s e i k).lower
      go (v_name k) = low 7 k

  pub shaped_labelled : Labelled (script_of s).type_row (script_of s).name_row
  shaped_labelled i k = (named s e ((script_of s).type_row i).p (name_row_lem s e i k)).1

  side_in : (i j : ℕ) → Side (type_form ((script_of s).type_row i)) j → in_table (script_of s).types i ≡ true
  unfolding Side
  side_in i j x = go (view ((script_of s).type_row i)) x
    where
      go : {t : TypeRow} → View ((script_of s).type_row i) t → Side t j → in_table (script_of s).types i ≡ true
      go v_none y = elim y [ ]
      go v_empty y = elim y [ ]
      go (v_text k) y = elim y [ ]
      go (v_bool k) y = elim y [ ]
      go (v_label k) y = elim y [ ]
      go (v_seq k) y = kind_in s i 4 k
      go (v_choice k) y = kind_in s i 5 k
      go (v_star k) y = kind_in s i 6 k
      go (v_name k) y = elim y [ ]

  -- a side is used once
  few_hits : (i j : ℕ) → 0 < j → Side (type_form ((script_of s).type_row i)) j → total (λ i. type_hits j ((script_of s).type_row i)) (script_of s).types ≤ 1
  unfolding type_users sheet_of
  few_hits i j l x =
      let d = side_lower (type_form ((script_of s).type_row i)) i j (shaped_lower i) x in
      omega (arith, one_user s e j (in_table_lem (script_of s).types j l (omega (arith, table_high (script_of s).types i (side_in i j x)))))

  one_side : (i j : ℕ) → Side (type_form ((script_of s).type_row i)) j → (1 ≤ i) × (i ≤ (script_of s).types) × (1 ≤ type_hits j ((script_of s).type_row i))
  one_side i j x = let h = side_in i j x in
      (table_low (script_of s).types i h, table_high (script_of s).types i h, side_hit ((script_of s).type_row i) _ (view ((script_of s).type_row i)) j x)

  pub shaped_once : Once (script_of s).type_row
  shaped_once = record {
    user = λ i k j l x y. elim (ℕ_discrete i k) [
      | yes d ↦ d
      | no d ↦ (let p = one_side i j x in let q = one_side k j y in
          absurd (omega (arith, few_hits i j l x, p.2, q.2, total_both (λ i. type_hits j ((script_of s).type_row i)) (script_of s).types i k p.0 p.1 q.0 q.1 d)))
    ];
    sides = λ i. distinct_row ((script_of s).type_row i) _ (view ((script_of s).type_row i)) (λ j l x n. (let p = one_side i j x in
        omega (arith, few_hits i j l x, n, total_at (λ i. type_hits j ((script_of s).type_row i)) (script_of s).types i p.0 p.1)));
  }
