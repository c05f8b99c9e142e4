-- A table of sets of places: set k is the nine words from word 9 k on, and place i is in it where digit i % 64 of word i / 64 of those is 1.
use Rattle.std.specs.Prelude.{◌≡◌, List, Bool, true, false, ◌&&◌, ◌||◌, ℕ, ◌+◌, ◌*◌, ◌/◌, ◌%◌, ◌≤◌, ◌<◌, get_or, length, eqb}
use Rattle.bits.specs.Digits.{bit}

-- place i is in set k of the table t
unfoldable pub in_set : List ℕ → ℕ → ℕ → Bool
in_set t k i = eqb (bit (get_or t (9 * k + i / 64) 0) (i % 64)) 1

-- no set of a table of 513 has a member
pub record Clear (t : List ℕ) : Type 0 where
  pub size : length t ≡ 4617
  pub none : (k b : ℕ) → b < 576 → in_set t k b ≡ false

-- place i is in set k of t and in set j of u
abbrev pub in_both : List ℕ → ℕ → List ℕ → ℕ → ℕ → Bool
in_both t k u j i = in_set t k i && in_set u j i

-- set k has place i besides, and no other set is changed
pub record Added (old new : List ℕ) (k i : ℕ) : Type 0 where
  pub size : length new ≡ length old
  pub into : (x : ℕ) → x < 576 → in_set new k x ≡ in_set old k x || eqb i x
  pub others : (h x : ℕ) → (h ≡ k → ⊥) → x < 576 → in_set new h x ≡ in_set old h x

-- set k has place i no more, and no other set is changed
pub record Removed (old new : List ℕ) (k i : ℕ) : Type 0 where
  pub size : length new ≡ length old
  pub here : in_set new k i ≡ false
  pub into : (x : ℕ) → (x ≡ i → ⊥) → x < 576 → in_set new k x ≡ in_set old k x
  pub others : (h x : ℕ) → (h ≡ k → ⊥) → x < 576 → in_set new h x ≡ in_set old h x

-- set k has the members of set j of u besides, and no other set is changed
pub record United (old new : List ℕ) (k : ℕ) (u : List ℕ) (j : ℕ) : Type 0 where
  pub size : length new ≡ length old
  pub into : (x : ℕ) → x < 576 → in_set new k x ≡ in_set old k x || in_set u j x
  pub others : (h x : ℕ) → (h ≡ k → ⊥) → x < 576 → in_set new h x ≡ in_set old h x

-- r is the lowest place from `from` on that is in both sets, 576 where there is none
pub record LowestBoth (t : List ℕ) (k : ℕ) (u : List ℕ) (j from r : ℕ) : Type 0 where
  pub within : r ≤ 576
  pub below : (x : ℕ) → from ≤ x → x < r → in_both t k u j x ≡ false
  pub here : r < 576 → in_both t k u j r ≡ true
  pub onward : r < 576 → from ≤ r
