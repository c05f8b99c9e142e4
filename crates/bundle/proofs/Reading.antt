-- Laws of bundles for the reader: what was unpacked, and the five tests taken one by one.
use mathlib.Core.Path.{◌≡◌, sym, ap, ap₂, ◌∙◌}
use mathlib.Core.Bool.{Bool, true, false, ◌&&◌}
use mathlib.Core.List.{List, ◌++◌}
use mathlib.Core.Logic.{inl, inr}
use Prim.Native.Nat.{ℕ, ◌*◌, ◌/◌, ◌%◌, ◌≤◌, ◌<◌}
use native.Mathlib.Omega.{arith}
use borrow.Author.Tests.{eq-eqb, ne_eqb, le-leb, lt-leb}
use lib.ListN.{length, take, drop, length-append, length-drop}
use lib.Seq.{take_at, take-take}
use Rattle.meaning.specs.Sheet.{need}
use Rattle.meaning.specs.Bundle.{block_count, blocks_for, payload, payload_of, numbers_ok, checks_ok, padding_ok, framed, all_zero}
use Rattle.std.specs.Prelude.{Some}
use Rattle.bundle.specs.Calls.{OpensBy}
use Rattle.meaning.specs.Laws.Bools.{either, and_left, and_right, and_both, no_left, no_right}

-- what was unpacked is the payload
pub payload_is : (k : ℕ) (b d after : List ℕ) → after ≡ payload k b ++ drop (508 * k) d → length after ≡ length d → 508 * k ≤ length d → take (508 * k) after ≡ payload k b
payload_is k b d after is e l =
    let long = ap length is in
    ap (take (508 * k)) is ∙ take_at (payload k b) (drop (508 * k) d) (508 * k) (omega (arith, length-append (payload k b) (drop (508 * k) d), length-drop (508 * k) d))

-- ---- the five tests: one that fails, or all

module _ (b : List ℕ) where
  pub uneven : (length b % 512 ≡ 0 → ⊥) → framed b ≡ false
  uneven h = let e = ne_eqb (length b % 512) 0 h in search (no_left, no_right) depth 14

  pub no_block : length b / 512 ≡ 0 → framed b ≡ false
  no_block h = let e = lt-leb 1 (block_count b) (omega arith) in search (no_left, no_right) depth 14

  pub too_many : 88 < length b / 512 → framed b ≡ false
  too_many h = let e = lt-leb (block_count b) 88 h in search (no_left, no_right) depth 14

  pub wrong_block : numbers_ok b && checks_ok b ≡ false → framed b ≡ false
  wrong_block h = elim (either (numbers_ok b)) [
    | inl e ↦ (let f : checks_ok b ≡ false = rw e at h in search (no_left, no_right) depth 14)
    | inr e ↦ search (no_left, no_right) depth 14
  ]

-- a bundle was unpacked: its payload stands in front of what was lent, and its counts ask for n bytes
pub record Unpacked (b after : List ℕ) (n : ℕ) : Type 0 where
  pub payload : take (508 * block_count b) after ≡ payload_of b
  pub asks : n ≡ need (take (508 * block_count b) after)
  pub long : 508 * block_count b ≤ length after

module _ {b after : List ℕ} {n : ℕ} (u : Unpacked b after n) where
  need_is : n ≡ need (payload_of b)
  need_is = u.asks ∙ ap need u.payload

  padding_is : {t : Bool} → t ≡ all_zero (drop n (take (508 * block_count b) after)) → padding_ok b ≡ t
  padding_is e = ap₂ (λ (x : ℕ) (y : List ℕ). all_zero (drop x y)) (sym need_is) (sym u.payload) ∙ sym e

  pub miscounted : (block_count b ≡ blocks_for n → ⊥) → framed b ≡ false
  miscounted h = let e = ne_eqb (block_count b) (blocks_for (need (payload_of b))) (λ e. h (e ∙ ap blocks_for (sym need_is))) in search (no_left, no_right) depth 14

  pub padded : {t : Bool} → t ≡ all_zero (drop n (take (508 * block_count b) after)) → t ≡ false → framed b ≡ false
  padded is e = let f = padding_is is ∙ e in search (no_left, no_right) depth 14

  pub is_framed : length b % 512 ≡ 0 → (length b / 512 ≡ 0 → ⊥) → length b / 512 ≤ 88 → numbers_ok b && checks_ok b ≡ true → block_count b ≡ blocks_for n
      → {t : Bool} → t ≡ all_zero (drop n (take (508 * block_count b) after)) → t ≡ true → OpensBy b after (Some n)
  is_framed even some few right count is e =
      let e0 = eq-eqb (length b % 512) 0 even in
      let e1 = le-leb 1 (block_count b) (omega arith) in
      let e2 = le-leb (block_count b) 88 few in
      let e3 = and_left (numbers_ok b) (checks_ok b) right in
      let e4 = and_right (numbers_ok b) (checks_ok b) right in
      let e5 = eq-eqb (block_count b) (blocks_for (need (payload_of b))) (count ∙ ap blocks_for need_is) in
      let e6 = padding_is is ∙ e in (
        search and_both depth 14,
        need_is,
        sym (take-take n (508 * block_count b) after (omega arith)) ∙ ap₂ take need_is u.payload,
        omega (arith, u.long),
      )
