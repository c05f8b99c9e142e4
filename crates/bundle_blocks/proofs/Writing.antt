-- Laws of bundles for the writer: a payload as it is stored, a block as its three stores leave it, and blocks with one more at the end.
use mathlib.Core.Path.{◌≡◌, refl, sym, ap, ap₂, ◌∙◌}
use mathlib.Core.List.{List, [], ◌∷◌, ◌++◌, append_assoc, append-nil}
use Prim.Native.Nat.{ℕ, zero, suc, ◌+◌, ◌-◌, ◌*◌, ◌/◌, ◌%◌, ◌≤◌, ◌<◌}
use mathlib.Core.Logic.{inl, inr}
use Rattle.std.specs.Prelude.{min}
use native.Mathlib.Nat.{eq-zero-or-pos}
use native.Mathlib.Numerals.{add-one}
use native.Mathlib.Omega.{arith}
use lib.ListN.{replicate, length, set, take, drop, length-append, length-drop, drop_of_length-le}
use Rattle.std.proofs.lemmas.List.{drop-replicate, length-replicate, drop-append-le, take_all}
use lib.Seq.{length-take-le, take_at, drop_at, sets-eq, drop-drop}
use Rattle.meaning.specs.Words.{word_bytes}
use Rattle.meaning.specs.Bundle.{word_sum, filled, block_front, block, blocks}
use borrow.Rule.Slice.PartMut.{put_mid}
use Rattle.words.specs.Puts.{put_word}
use Rattle.bundle_blocks.specs.Blocks.{stored}
use Rattle.bundle_blocks.proofs.Reading.{sum_front, front_grows}

-- ---- blocks

pub blocks_none : (k : ℕ) (p : List ℕ) → blocks 0 k p ≡ []
unfolding blocks
blocks_none k p = refl

-- the last block stands at the end
pub blocks_more : (m k : ℕ) (p : List ℕ) → blocks (m + 1) k p ≡ blocks m k p ++ block (k + m) (drop (508 * m) p)
unfolding blocks
blocks_more m k p = rw (add-one m) (go m k p)
  where
    go : (m k : ℕ) (p : List ℕ) → blocks (suc m) k p ≡ blocks m k p ++ block (k + m) (drop (508 * m) p)
    go zero k p = let e : k + 0 ≡ k = omega arith in rw e (append-nil (block k p))
    go (suc m) k p =
        let e : 508 + 508 * m ≡ 508 * suc m = omega arith in
        let f : suc k + m ≡ k + suc m = omega arith in
        ap (λ (l : List ℕ). block k p ++ l) (go m (suc k) (drop 508 p) ∙ ap (λ (l : List ℕ). blocks m (suc k) (drop 508 p) ++ block (suc k + m) l) (drop-drop (508 * m) 508 p ∙ ap (λ (n : ℕ). drop n p) e) ∙ ap (λ (n : ℕ). blocks m (suc k) (drop 508 p) ++ block n (drop (508 * suc m) p)) f)
        ∙ sym (append_assoc (block k p) (blocks m (suc k) (drop 508 p)) (block (k + suc m) (drop (508 * suc m) p)))

-- a turn of the loop that writes: out has k blocks in front of the rest of d, after has one more
pub bundled : (k : ℕ) (p d out after : List ℕ) → out ≡ blocks k 1 p ++ drop (512 * k) d → length out ≡ length d → 512 * k ≤ length d
    → after ≡ take (512 * k) out ++ block (k + 1) (drop (508 * k) p) ++ drop (512 * k + 512) out → after ≡ blocks (k + 1) 1 p ++ drop (512 * (k + 1)) d
bundled k p d out after is kept l e =
    let f : 512 * k + 512 ≡ 512 * (k + 1) = omega arith in
    let g : k + 1 ≡ 1 + k = omega arith in
    let more = block (k + 1) (drop (508 * k) p) in
    e ∙ ap (λ (x : List ℕ). take (512 * k) x ++ more ++ drop (512 * k + 512) x) is
    ∙ front_grows (blocks k 1 p) more d (512 * k) 512 (ap length (sym is) ∙ kept) l
    ∙ ap₂ (λ (x : List ℕ) (n : ℕ). x ++ drop n d) (ap (λ (n : ℕ). blocks k 1 p ++ block n (drop (508 * k) p)) g ∙ sym (blocks_more k 1 p)) f

-- what is filled is the bytes that there are, and 0 behind them
padded_is : (m n : ℕ) (p : List ℕ) → n ≤ m → n ≤ length p → (n < m → n ≡ length p) → filled m p ≡ take n p ++ replicate (m - n) 0
unfolding filled
padded_is zero zero p l h g = refl
padded_is zero (suc n) p l h g = absurd (omega arith)
padded_is (suc m) zero [] l h g = let e : suc m - 0 ≡ suc (m - 0) = omega arith in rw e (ap (λ (r : List ℕ). 0 ∷ r) (padded_is m zero [] (omega arith) (omega arith) (λ x. refl)))
padded_is (suc m) zero (x ∷ p) l h g = absurd (let e = g (omega arith) in omega arith)
padded_is (suc m) (suc n) [] l h g = absurd (omega arith)
padded_is (suc m) (suc n) (x ∷ p) l h g =
    let e : suc m - suc n ≡ m - n = omega arith in
    rw e (ap (λ (r : List ℕ). x ∷ r) (padded_is m n p (omega arith) (omega arith) (λ q. let k = g (omega arith) in omega arith)))

-- what is left of the bytes s from place x on, if that place is no further than their end
pub rest_is : (s : List ℕ) (x a : ℕ) → a ≡ min (length s) x → take (length s - a) (drop a s) ≡ drop x s
rest_is s x a e = take_all (length s - a) (drop a s) (omega (arith, length-drop a s)) ∙ elim (eq-zero-or-pos (x - length s)) [
  | inl q ↦ (let f : a ≡ x = omega arith in rw f refl)
  | inr q ↦ (drop_of_length-le s {i = a} (omega arith) ∙ sym (drop_of_length-le s {i = x} (omega arith)))
]

-- ---- a payload stored: zeros, and over them the n bytes that there are of p

pub stored_is : (d : List ℕ) (at m n : ℕ) (p : List ℕ) → at + m ≤ length d → n ≤ m → n ≤ length p → (n < m → n ≡ length p) → {z now : List ℕ} {i j : ℕ} → i ≡ m → j ≡ n
    → z ≡ replicate m 0 → now ≡ take n p → put_mid at j (put_mid at i d z) now ≡ stored d at p m
stored_is d at m n p l ln lp g {z} {now} {i} {j} ei ej ez en =
    let size : length (take at d) ≡ at = length-take-le at d (omega arith) in
    let rest = drop m (drop at d) in
    let body = replicate m 0 ++ rest in
    let front = take_at (take at d) body at size in
    let back = drop_at (take at d) body at size in
    let behind : drop n body ≡ replicate (m - n) 0 ++ rest = drop-append-le n (replicate m 0) rest (omega (arith, length-replicate {A = ℕ} m 0)) ∙ ap (λ (r : List ℕ). r ++ rest) (drop-replicate n m 0) in
    rw (ei, ej, ez, en, front, back, behind, drop-drop m at d, padded_is m n p ln lp g)
    (ap (λ (r : List ℕ). take at d ++ r) (sym (append_assoc (take n p) (replicate (m - n) 0) (drop (at + m) d)))
    ∙ sym (append_assoc (take at d) (take n p ++ replicate (m - n) 0) (drop (at + m) d)))

-- ---- a block stored in the bytes d from place at on: its number, then its payload, then its check

module _ (d : List ℕ) (at n : ℕ) (p : List ℕ) (fits : at + 512 ≤ length d) where
  numbered_is : set (set d at (n % 256)) (at + 1) (n / 256 % 256) ≡ take at d ++ word_bytes n ++ drop (at + 2) d
  numbered_is = rw (add-one at) (sets-eq (word_bytes n) d at (omega arith))

  filled_is : stored (take at d ++ word_bytes n ++ drop (at + 2) d) (at + 2) p 508 ≡ take at d ++ block_front n p ++ drop (at + 510) d
  filled_is =
      let head = take at d ++ word_bytes n in
      let e : at + 2 + 508 ≡ at + 510 = omega arith in
      front_grows head (filled 508 p) d (at + 2) 508 (omega (arith, length-append head (drop (at + 2) d), length-append (take at d) (word_bytes n), length-take-le at d (omega arith), length-drop (at + 2) d)) (omega arith)
      ∙ ap₂ (λ (x : List ℕ) (k : ℕ). x ++ drop k d) (append_assoc (take at d) (word_bytes n) (filled 508 p)) e

  checked_is : (out : List ℕ) (c : ℕ) → out ≡ take at d ++ block_front n p ++ drop (at + 510) d → length out ≡ length d → c ≡ word_sum (drop at out) 255 % 65535
      → set (set out (at + 510) (c % 256)) (at + 510 + 1) (c / 256 % 256) ≡ take at d ++ block n p ++ drop (at + 512) d
  checked_is out c is kept s =
      let front = block_front n p in
      let head = take at d ++ front in
      let rest = drop (at + 510) d in
      let g : at + 510 + 2 ≡ at + 512 = omega arith in
      let same = ap length (sym is) ∙ kept in
      let size : length (take at d) ≡ at = length-take-le at d (omega arith) in
      let long : length front ≡ 510 = omega (arith, length-append head rest, length-append (take at d) front, length-drop (at + 510) d) in
      let sum : c ≡ word_sum front 255 % 65535 = s ∙ ap (λ (x : List ℕ). word_sum x 255 % 65535) (ap (drop at) (is ∙ append_assoc (take at d) front rest) ∙ drop_at (take at d) (front ++ rest) at size) ∙ ap (λ (x : ℕ). x % 65535) (sum_front front rest 255 (omega arith)) in
      ap₂ (λ (x : List ℕ) (i : ℕ). set (set x (at + 510) (c % 256)) i (c / 256 % 256)) is (add-one (at + 510))
      ∙ sets-eq (word_bytes c) (head ++ rest) (at + 510) (omega arith)
      ∙ front_grows head (word_bytes c) d (at + 510) 2 same (omega arith)
      ∙ ap₂ (λ (x : List ℕ) (k : ℕ). x ++ drop k d) (append_assoc (take at d) front (word_bytes c) ∙ ap (λ (k : ℕ). take at d ++ (front ++ word_bytes k)) sum) g

-- block k, counted from 0, as the three stores leave it
pub block_stands : (k c : ℕ) (p d d₁ d₂ d₃ : List ℕ) → 512 * k + 512 ≤ length d → d₁ ≡ put_word d (256 * k) (k + 1) → d₂ ≡ stored d₁ (512 * k + 2) p 508 → length d₂ ≡ length d
    → c ≡ word_sum (drop (512 * k) d₂) 255 % 65535 → d₃ ≡ put_word d₂ (256 * k + 255) c → d₃ ≡ take (512 * k) d ++ block (k + 1) p ++ drop (512 * k + 512) d
block_stands k c p d d₁ d₂ d₃ fits number payload kept sum check =
    let n = k + 1 in
    let e : 2 * (256 * k) ≡ 512 * k = omega arith in
    let f : 2 * (256 * k + 255) ≡ 512 * k + 510 = omega arith in
    let first = number ∙ ap (λ (i : ℕ). set (set d i (n % 256)) (i + 1) (n / 256 % 256)) e ∙ numbered_is d (512 * k) n p fits in
    let second = payload ∙ ap (λ (x : List ℕ). stored x (512 * k + 2) p 508) first ∙ filled_is d (512 * k) n p fits in
    check ∙ ap (λ (i : ℕ). set (set d₂ i (c % 256)) (i + 1) (c / 256 % 256)) f ∙ checked_is d (512 * k) n p fits d₂ c second kept sum
