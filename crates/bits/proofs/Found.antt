-- What the words that two sets have in common say of the places in both: the lowest is the first digit 1, by trailing zeros, and how many are the sum of the digits.
use mathlib.Core.Path.{◌≡◌, refl, sym, ap, ◌∙◌}
use mathlib.Core.List.{List}
use mathlib.Core.Bool.{false}
use mathlib.Core.Logic.{inl, inr}
use Prim.Native.Nat.{ℕ, zero, suc, ◌+◌, ◌-◌, ◌*◌, ◌/◌, ◌%◌, ◌^◌, ◌≤◌, ◌<◌}
use native.Mathlib.Nat.{eq-zero-or-pos, lt_irrefl, add-zero, add-suc}
use native.Mathlib.Omega.{arith}
use lib.ListN.{get_or}
use lib.Bits.{bit_and}
use lib.Count.{count_trailing_zeros, ones, ones_in}
use lib.Dec.{eqb}
use Rattle.bits.specs.Digits.{bit, bit_lt, bit_none, bit_from, bit_past, test_and, trail_below, trail_at, trail_found, digit_sum, ones_sum}
use Rattle.bits.specs.Sets.{in_both, LowestBoth}
use Rattle.bits.specs.Counts.{count_to, one_if}
use Rattle.bits.proofs.Stores.{in_word}

-- what word w of the two sets has in common
abbrev pub common : List ℕ → ℕ → List ℕ → ℕ → ℕ → ℕ
common t k u j w = bit_and (get_or t (9 * k + w) 0) (get_or u (9 * j + w) 0)

-- no place from a on and below b is in both
abbrev pub Clear : List ℕ → ℕ → List ℕ → ℕ → ℕ → ℕ → Type 0
Clear t k u j a b = (x : ℕ) → a ≤ x → x < b → in_both t k u j x ≡ false

module _ (t : List ℕ) (k : ℕ) (u : List ℕ) (j : ℕ) where
  both_word : (x w : ℕ) → x / 64 ≡ w → in_both t k u j x ≡ eqb (bit (common t k u j w) (x % 64)) 1
  both_word x w e = rw (← in_word t k x w e, ← in_word u j x w e) (sym (test_and (get_or t (9 * k + w) 0) (get_or u (9 * j + w) 0) (x % 64)))

  -- a digit of the common word, counted from place a, which is digit d of word w
  both_digit : (a w d e : ℕ) → a ≡ 64 * w + d → d + e < 64 → in_both t k u j (a + e) ≡ eqb (bit (common t k u j w / 2 ^ d) e) 1
  both_digit a w d e q l =
      let f : (a + e) % 64 ≡ d + e = omega arith in
      both_word (a + e) w (omega arith) ∙ ap (λ (i : ℕ). eqb (bit (common t k u j w) i) 1) f ∙ sym (ap (λ (i : ℕ). eqb i 1) (bit_from (common t k u j w) d e))

  pub nothing_past : (a : ℕ) → 576 ≤ a → LowestBoth t k u j a 576
  nothing_past a h = record {
    within = omega arith;
    below = λ x l g. absurd (omega arith);
    here = λ l. absurd (lt_irrefl _ l);
    onward = λ l. absurd (lt_irrefl _ l);
  }

  pub nothing_left : (a : ℕ) → Clear t k u j a 576 → LowestBoth t k u j a 576
  nothing_left a h = record {
    within = omega arith;
    below = h;
    here = λ l. absurd (lt_irrefl _ l);
    onward = λ l. absurd (lt_irrefl _ l);
  }

  -- past what is clear the search goes on
  pub search_on : (a b r : ℕ) → a ≤ b → Clear t k u j a b → LowestBoth t k u j b r → LowestBoth t k u j a r
  search_on a b r l h low = record {
    within = low.within;
    below = λ x g q. elim (eq-zero-or-pos (b - x)) [
      | inl e ↦ low.below x (omega arith) q
      | inr e ↦ h x g (omega arith)
    ];
    here = low.here;
    onward = λ q. let o = low.onward q in omega arith;
  }

  -- the rest of a word from digit d on is 0
  pub clear_word : (a w d x : ℕ) → a ≡ 64 * w + d → x ≡ common t k u j w / 2 ^ d → x ≡ 0 → Clear t k u j a (64 * (w + 1))
  clear_word a w d x q e z y l g =
      let s : a + (y - a) ≡ y = omega arith in
      rw (← s) (both_digit a w d (y - a) q (omega arith) ∙ ap (λ (i : ℕ). eqb (bit i (y - a)) 1) (sym e ∙ z) ∙ ap (λ (i : ℕ). eqb i 1) (bit_none (y - a)))

  -- it is not: its first digit 1 is the lowest place
  pub found_here : (a w d x : ℕ) → w < 9 → d < 64 → a ≡ 64 * w + d → common t k u j w < 2 ^ 64 → x ≡ common t k u j w / 2 ^ d → 0 < x → x < 2 ^ 64
      → LowestBoth t k u j a (a + count_trailing_zeros 64 x)
  found_here a w d x lw ld q b e p lx =
      let n = count_trailing_zeros 64 x in
      let at : bit x n ≡ 1 = trail_at 64 x (trail_found 64 x p lx) in
      let one : bit (common t k u j w) (d + n) ≡ 1 = sym (bit_from (common t k u j w) d n) ∙ ap (λ (i : ℕ). bit i n) (sym e) ∙ at in
      let small : d + n < 64 = elim (eq-zero-or-pos (64 - (d + n))) [
        | inl z ↦ absurd (let o = bit_past 64 (common t k u j w) (d + n) b (omega arith) in omega arith)
        | inr z ↦ omega arith
      ] in
      record {
        within = omega arith;
        below = λ y l g.
            (let s : a + (y - a) ≡ y = omega arith in
            rw (← s) (both_digit a w d (y - a) q (omega arith) ∙ ap (λ (i : ℕ). eqb (bit i (y - a)) 1) (sym e) ∙ ap (λ (i : ℕ). eqb i 1) (trail_below 64 x (y - a) (omega arith))));
        here = λ l. both_digit a w d n q small ∙ ap (λ (i : ℕ). eqb (bit i n) 1) (sym e) ∙ ap (λ (i : ℕ). eqb i 1) at;
        onward = λ l. omega arith;
      }

  -- ---- how many: word by word

  digit_one : (d : ℕ) → d < 2 → one_if (eqb d 1) ≡ d
  digit_one zero h = refl
  digit_one (suc zero) h = refl
  digit_one (suc (suc d)) h = absurd (omega arith)

  count_digits : (w m : ℕ) → m ≤ 64 → count_to (in_both t k u j) (64 * w + m) ≡ count_to (in_both t k u j) (64 * w) + digit_sum (common t k u j w) m
  unfolding count_to digit_sum
  count_digits w zero h = rw (add-zero (64 * w)) (omega arith)
  count_digits w (suc m) h =
      let r = count_digits w m (omega arith) in
      let d : (64 * w + m) % 64 ≡ m = omega arith in
      let e : one_if (in_both t k u j (64 * w + m)) ≡ bit (common t k u j w) m =
      ap one_if (both_word (64 * w + m) w (omega arith) ∙ ap (λ (i : ℕ). eqb (bit (common t k u j w) i) 1) d) ∙ digit_one (bit (common t k u j w) m) (bit_lt (common t k u j w) m) in
      rw (add-suc (64 * w) m) (omega arith)

  pub count_none : count_to (in_both t k u j) (64 * 0) ≡ 0
  unfolding count_to
  count_none = refl

  pub count_word : (w x : ℕ) → x ≡ common t k u j w → x < 2 ^ 64 → count_to (in_both t k u j) (64 * (w + 1)) ≡ count_to (in_both t k u j) (64 * w) + ones x
  count_word w x e l =
      let s : 64 * (w + 1) ≡ 64 * w + 64 = omega arith in
      rw s (count_digits w 64 (omega arith) ∙ ap (λ (i : ℕ). count_to (in_both t k u j) (64 * w) + i) (ap (λ (i : ℕ). digit_sum i 64) (sym e) ∙ sym (ones_sum 64 x l)))

  -- a word without a digit counts for none
  pub count_zero : (w x : ℕ) → x ≡ common t k u j w → x ≡ 0 → count_to (in_both t k u j) (64 * (w + 1)) ≡ count_to (in_both t k u j) (64 * w)
  unfolding ones ones_in
  count_zero w x e z = let r = count_word w x e (rw z (omega arith)) in let o : ones x ≡ 0 = rw z in omega arith
