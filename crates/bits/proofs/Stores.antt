-- What a store of one word does to the sets of a table: word 9 k + w belongs to set k alone, by division by 9, so or with a digit adds one place and or with a word the places of a word.
use mathlib.Core.Path.{◌≡◌, refl, sym, ap, ◌∙◌}
use mathlib.Core.List.{List}
use mathlib.Core.Bool.{Bool, true, false, ◌||◌}
use Prim.Native.Nat.{ℕ, ◌+◌, ◌*◌, ◌/◌, ◌%◌, ◌^◌, ◌≤◌, ◌<◌}
use native.Mathlib.Nat.{zero-add}
use native.Mathlib.Decide.{ℕ_discrete}
use native.Mathlib.Omega.{arith}
use borrow.Author.Tests.{eq-eqb, ne_eqb}
use lib.ListN.{length, get_or, set, take, drop, length-set}
use lib.Seq.{get_or-set_same, get_or-set_other, get_or-take, get_or-drop}
use lib.Bits.{bit_or}
use lib.Dec.{eqb}
use Rattle.bits.specs.Digits.{bit, test_or, bit_pow_same, bit_pow_other}
use Rattle.bits.specs.Sets.{in_set, Added, United}

or_false : (a : Bool) {b : Bool} → b ≡ false → a ≡ a || b
or_false true e = refl
or_false false e = sym e

-- a word is stored whole
module _ (t : List ℕ) (n v : ℕ) where
  pub stored_here : n < length t → (h x : ℕ) → 9 * h + x / 64 ≡ n → in_set (set t n v) h x ≡ eqb (bit v (x % 64)) 1
  unfolding in_set
  stored_here l h x e = rw e (ap (λ (w : ℕ). eqb (bit w (x % 64)) 1) (get_or-set_same t n v 0 l))

  pub stored_apart : (h x : ℕ) → (9 * h + x / 64 ≡ n → ⊥) → in_set (set t n v) h x ≡ in_set t h x
  unfolding in_set
  stored_apart h x d = ap (λ (w : ℕ). eqb (bit w (x % 64)) 1) (get_or-set_other t n (9 * h + x / 64) v 0 d)

-- a place is in a set where its word has its digit
pub in_word : (t : List ℕ) (k x w : ℕ) → x / 64 ≡ w → eqb (bit (get_or t (9 * k + w) 0) (x % 64)) 1 ≡ in_set t k x
unfolding in_set
in_word t k x w e = rw e

-- the digit of place i, and of no other place
one_place : (i x : ℕ) → x / 64 ≡ i / 64 → eqb (bit (2 ^ (i % 64)) (x % 64)) 1 ≡ eqb i x
one_place i x e = elim (ℕ_discrete i x) [
  | yes q ↦ rw q (ap (λ (d : ℕ). eqb d 1) (bit_pow_same (x % 64)) ∙ sym (eq-eqb x x refl))
  | no q ↦ (ap (λ (d : ℕ). eqb d 1) (bit_pow_other (i % 64) (x % 64) (λ g. q (omega arith))) ∙ sym (ne_eqb i x q))
]

module _ (t : List ℕ) (k i : ℕ) (l : length t ≡ 4617) (lk : k ≤ 512) (li : i < 576) where
  pub added : (p : ℕ) → p ≡ 2 ^ (i % 64) → Added t (set t (9 * k + i / 64) (bit_or (get_or t (9 * k + i / 64) 0) p)) k i
  added p e = rw e (record {
    size = length-set t n v;
    into = λ x lx. elim (ℕ_discrete (x / 64) (i / 64)) [
      | yes q ↦ (stored_here t n v (omega arith) k x (omega arith) ∙ test_or (get_or t n 0) (2 ^ (i % 64)) (x % 64) ∙ split x q)
      | no q ↦ (stored_apart t n v k x (λ g. q (omega arith)) ∙ or_false (in_set t k x) (ne_eqb i x (λ g. q (ap (λ (y : ℕ). y / 64) (sym g)))))
    ];
    others = λ h x d lx. stored_apart t n v h x (λ g. d (omega arith));
  })
    where
      n : ℕ
      n = 9 * k + i / 64

      v : ℕ
      v = bit_or (get_or t n 0) (2 ^ (i % 64))

      split : (x : ℕ) → x / 64 ≡ i / 64 → eqb (bit (get_or t n 0) (x % 64)) 1 || eqb (bit (2 ^ (i % 64)) (x % 64)) 1 ≡ in_set t k x || eqb i x
      split x q = rw (in_word t k x (i / 64) q, one_place i x q)

-- the first w words of set j of u are in set k
pub record UnitedTo (w : ℕ) (old new : List ℕ) (k : ℕ) (u : List ℕ) (j : ℕ) : Type 0 where
  pub size : length new ≡ length old
  pub upto : (x : ℕ) → x < 64 * w → in_set new k x ≡ in_set old k x || in_set u j x
  pub rest : (x : ℕ) → 64 * w ≤ x → in_set new k x ≡ in_set old k x
  pub others : (h x : ℕ) → (h ≡ k → ⊥) → x < 576 → in_set new h x ≡ in_set old h x

module _ {old new : List ℕ} {k : ℕ} {u : List ℕ} {j w : ℕ} (l : length old ≡ 4617) (lk : k ≤ 512) (lw : w < 9) (h : UnitedTo w old new k u j) where
  -- one word more
  pub united_more : (y : ℕ) → y ≡ get_or u (9 * j + w) 0 → UnitedTo (w + 1) old (set new (9 * k + w) (bit_or (get_or new (9 * k + w) 0) y)) k u j
  united_more y e = rw e (record {
    size = length-set new n v ∙ h.size;
    upto = λ x lx. elim (ℕ_discrete (x / 64) w) [
      | yes q ↦ (stored_here new n v (omega (arith, h.size)) k x (omega arith) ∙ test_or (get_or new n 0) (get_or u (9 * j + w) 0) (x % 64) ∙ word x q)
      | no q ↦ (stored_apart new n v k x (λ g. q (omega arith)) ∙ h.upto x (omega arith))
    ];
    rest = λ x lx. stored_apart new n v k x (λ g. omega arith) ∙ h.rest x (omega arith);
    others = λ g x e lx. stored_apart new n v g x (λ f. e (omega arith)) ∙ h.others g x e lx;
  })
    where
      n : ℕ
      n = 9 * k + w

      v : ℕ
      v = bit_or (get_or new n 0) (get_or u (9 * j + w) 0)

      word : (x : ℕ) → x / 64 ≡ w → eqb (bit (get_or new n 0) (x % 64)) 1 || eqb (bit (get_or u (9 * j + w) 0) (x % 64)) 1 ≡ in_set old k x || in_set u j x
      word x q = rw (in_word new k x w q, in_word u j x w q, h.rest x (omega arith))

-- the nine words of set j of u are a table whose set 0 it is
pub united_words : {old new : List ℕ} {k : ℕ} {u : List ℕ} {j n : ℕ} (words : List ℕ) → words ≡ take n (drop (9 * j) u) → 9 ≤ n → United old new k words 0 → United old new k u j
unfolding in_set
united_words {old} {new} {k} {u} {j} {n} words is l h = record {
  size = h.size;
  into = λ x lx. h.into x lx ∙ ap (λ (b : Bool). in_set old k x || b) (alone x (omega arith));
  others = h.others;
}
  where
    alone : (x : ℕ) → x / 64 < n → in_set words 0 x ≡ in_set u j x
    alone x lx = rw (is, zero-add (x / 64), get_or-take n (drop (9 * j) u) (x / 64) 0 lx, get_or-drop (9 * j) u (x / 64) 0)
