-- Laws of blocks for the loops that read: what one turn adds stands at the end.
use mathlib.Core.Path.{◌≡◌, refl, sym, ap, ap₂, ◌∙◌}
use mathlib.Core.Bool.{Bool, true, false, ◌&&◌}
use mathlib.Core.List.{List, [], ◌∷◌, ◌++◌, append_assoc, append-nil}
use Prim.Native.Nat.{ℕ, zero, suc, ◌+◌, ◌*◌, ◌-◌, ◌%◌, ◌≤◌, ◌<◌}
use native.Mathlib.Numerals.{add-one}
use native.Mathlib.Omega.{arith}
use lib.Dec.{eqb}
use Rattle.std.specs.List.{list_all, range_with_len}
use Rattle.std.proofs.lemmas.List.Folds.{list_all-append}
use lib.ListN.{length, take, drop, length-append, length-drop, take-append-drop, get_or-append}
use lib.Seq.{length-take-le, get_or-take, get_or-drop, drop-drop, take_at, drop_at, paste}
use borrow.Rule.Slice.PartMut.{put_mid}
use Rattle.meaning.specs.Tests.{every}
use Rattle.bundle_blocks.specs.Blocks.{number_ok, check_ok}
use Rattle.meaning.specs.Words.{word_at}
use Rattle.meaning.specs.Bundle.{word_sum, check_word, block_at, payload, all_zero}
use Rattle.meaning.specs.Laws.Words.{word_same}

-- ---- stores in place: front stands in the bytes d, and more is stored behind it

pub front_grows : (front more d : List ℕ) (n s : ℕ) → length (front ++ drop n d) ≡ length d → n ≤ length d
    → take n (front ++ drop n d) ++ more ++ drop (n + s) (front ++ drop n d) ≡ front ++ more ++ drop (n + s) d
front_grows front more d n s e l =
    let size : length front ≡ n = omega (arith, length-append front (drop n d), length-drop n d) in
    ap₂ (λ (x y : List ℕ). x ++ more ++ y) (take_at front (drop n d) n size)
    (sym (drop-drop s n (front ++ drop n d)) ∙ ap (drop s) (drop_at front (drop n d) n size) ∙ drop-drop s n d)

-- ---- the words of a block, counted from 0, in its bundle

pub word_drop : (b : List ℕ) (k i : ℕ) → word_at (drop (512 * k) b) i ≡ word_at b (256 * k + i)
word_drop b k i =
    let low : 512 * k + 2 * i ≡ 2 * (256 * k + i) = omega arith in
    let high : 512 * k + (2 * i + 1) ≡ 2 * (256 * k + i) + 1 = omega arith in
    rw (get_or-drop (512 * k) b (2 * i) 0, get_or-drop (512 * k) b (2 * i + 1) 0, low, high)

pub sum_none : (b : List ℕ) → word_sum b 0 ≡ 0
unfolding word_sum
sum_none b = refl

pub sum_more : (b : List ℕ) (i : ℕ) → word_sum b (i + 1) ≡ word_sum b i + word_at b i
unfolding word_sum
sum_more b i = rw (add-one i)

-- the sum looks at no byte past its words
pub sum_front : (a x : List ℕ) (n : ℕ) → 2 * n ≤ length a → word_sum (a ++ x) n ≡ word_sum a n
unfolding word_sum
sum_front a x zero l = refl
sum_front a x (suc n) l = rw (sum_front a x n (omega arith), get_or-append a x 0 (2 * n) (omega arith), get_or-append a x 0 (2 * n + 1) (omega arith))

module _ (b : List ℕ) (k : ℕ) where
  block_is : block_at b (k + 1) ≡ take 512 (drop (512 * k) b)
  block_is = let e : k + 1 - 1 ≡ k = omega arith in rw e

  pub word_is : (i : ℕ) → i < 256 → word_at (block_at b (k + 1)) i ≡ word_at b (256 * k + i)
  word_is i l =
      ap (λ (x : List ℕ). word_at x i) block_is
      ∙ word_same (take 512 (drop (512 * k) b)) (drop (512 * k) b) 512 i (λ j q. get_or-take 512 (drop (512 * k) b) j 0 q) (omega arith)
      ∙ word_drop b k i

  pub number_is : word_at (block_at b (k + 1)) 0 ≡ word_at b (256 * k)
  number_is = let e : 256 * k + 0 ≡ 256 * k = omega arith in word_is 0 (omega arith) ∙ ap (word_at b) e

  pub check_is : 512 * k + 512 ≤ length b → check_word (block_at b (k + 1)) ≡ word_sum (drop (512 * k) b) 255 % 65535
  check_is l =
      let x = drop (512 * k) b in
      let size = length-take-le 512 x (omega (arith, length-drop (512 * k) b)) in
      ap check_word block_is
      ∙ ap (λ (s : ℕ). s % 65535) (sym (sum_front (take 512 x) (drop 512 x) 255 (omega arith)) ∙ ap (λ (l : List ℕ). word_sum l 255) (take-append-drop 512 x))

-- the tests of block k, counted from 0, by what its words are
pub block_tests : (b : List ℕ) (k : ℕ) → 512 * k + 512 ≤ length b → {number check sum : ℕ} → number ≡ word_at b (256 * k) → check ≡ word_at b (256 * k + 255)
    → sum ≡ word_sum (drop (512 * k) b) 255 % 65535 → number_ok b (k + 1) && check_ok b (k + 1) ≡ eqb number (k + 1) && eqb check sum
block_tests b k l n c s =
    ap₂ (λ (x y : Bool). x && y) (ap (λ (x : ℕ). eqb x (k + 1)) (number_is b k ∙ sym n)) (ap₂ eqb (word_is b k 255 (omega arith) ∙ sym c) (check_is b k l ∙ sym s))

-- ---- the payload

pub payload_none : (b : List ℕ) → payload 0 b ≡ []
unfolding payload
payload_none b = refl

-- the last block's payload stands at the end
pub payload_more : (k : ℕ) (b : List ℕ) → payload (k + 1) b ≡ payload k b ++ take 508 (drop (512 * k + 2) b)
unfolding payload
payload_more k b = rw (add-one k) (go k b)
  where
    go : (k : ℕ) (b : List ℕ) → payload (suc k) b ≡ payload k b ++ take 508 (drop (512 * k + 2) b)
    go zero b = append-nil (take 508 (drop 2 b))
    go (suc k) b =
        let e : 512 + (512 * k + 2) ≡ 512 * suc k + 2 = omega arith in
        ap (λ (l : List ℕ). take 508 (drop 2 b) ++ l) (go k (drop 512 b) ∙ ap (λ (l : List ℕ). payload k (drop 512 b) ++ take 508 l) (drop-drop (512 * k + 2) 512 b ∙ ap (λ (n : ℕ). drop n b) e))
        ∙ sym (append_assoc (take 508 (drop 2 b)) (payload k (drop 512 b)) (take 508 (drop (512 * suc k + 2) b)))

-- a turn of the loop that unpacks: out has the payload of k blocks in front of the rest of d, after that of one more
pub unpacked : (k : ℕ) (b d out after : List ℕ) → out ≡ payload k b ++ drop (508 * k) d → length out ≡ length d → 508 * k ≤ length d
    → after ≡ paste out (508 * k) (drop (512 * k + 2) b) 508 → after ≡ payload (k + 1) b ++ drop (508 * (k + 1)) d
unpacked k b d out after is kept l e =
    let f : 508 * k + 508 ≡ 508 * (k + 1) = omega arith in
    e ∙ ap (λ (x : List ℕ). paste x (508 * k) (drop (512 * k + 2) b) 508) is
    ∙ front_grows (payload k b) (take 508 (drop (512 * k + 2) b)) d (508 * k) 508 (ap length (sym is) ∙ kept) l
    ∙ ap₂ (λ (x : List ℕ) (n : ℕ). x ++ drop n d) (sym (payload_more k b)) f

-- a part that is copied into its place
pub copied_is : (d : List ℕ) (at : ℕ) (from : List ℕ) {i j : ℕ} → i ≡ 508 → j ≡ 508 → {now : List ℕ} → now ≡ take j from → put_mid at i d now ≡ paste d at from 508
copied_is d at from e f {now} is = rw (e, is, f, drop-drop 508 at d) (sym (append_assoc (take at d) (take 508 from) (drop (at + 508) d)))

-- ---- tests over each block, and over each byte

-- a number more at the end
range_last : (a n : ℕ) → range_with_len a (suc n) ≡ range_with_len a n ++ (a + n) ∷ []
range_last a zero = let e : a + 0 ≡ a = omega arith in rw e refl
range_last a (suc n) = let e : a + 1 + n ≡ a + suc n = omega arith in ap (λ (l : List ℕ). a ∷ l) (range_last (a + 1) n ∙ rw e refl)

-- two tests of each block, counted from 1, are one test of each, counted from 0
pub every_both : (f g : ℕ → Bool) (m : ℕ) → every f m && every g m ≡ list_all (λ k. f (k + 1) && g (k + 1)) (range_with_len 0 m)
unfolding every
every_both f g zero = refl
every_both f g (suc m) =
    let test = λ (k : ℕ). f (k + 1) && g (k + 1) in
    swapped (every f m) (f (suc m)) (every g m) (g (suc m)) ∙ ap (λ (b : Bool). b && (f (suc m) && g (suc m))) (every_both f g m)
    ∙ sym (ap (list_all test) (range_last 0 m) ∙ list_all-append test (range_with_len 0 m) ((0 + m) ∷ []) ∙ ap (λ (b : Bool). list_all test (range_with_len 0 m) && b) last)
  where
    swapped : (a b c d : Bool) → (a && b) && (c && d) ≡ (a && c) && (b && d)
    swapped true true true d = refl
    swapped true true false d = refl
    swapped true false true d = refl
    swapped true false false d = refl
    swapped false b c d = refl

    last : list_all (λ (k : ℕ). f (k + 1) && g (k + 1)) ((0 + m) ∷ []) ≡ f (suc m) && g (suc m)
    last = let e : 0 + m + 1 ≡ suc m = omega arith in rw e (and_true (f (suc m) && g (suc m)))
      where
        and_true : (a : Bool) → a && true ≡ a
        and_true true = refl
        and_true false = refl

pub zero_all : (l : List ℕ) → all_zero l ≡ list_all (λ x. eqb x 0) l
unfolding all_zero
zero_all [] = refl
zero_all (x ∷ l) = ap (λ (b : Bool). eqb x 0 && b) (zero_all l)
