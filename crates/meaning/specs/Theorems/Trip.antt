-- Bundles are written and read by one rule: what is written reads back, and what reads was written, byte for byte.
-- Block by block, by induction on their number: 512 bytes, of which 2 are its number, 508 its payload, 2 its check. A sheet is only what its counts ask for, and Shape looks at no byte of the pool.
use Rattle.std.specs.Prelude.{ℕ, zero, suc, ◌+◌, ◌*◌, ◌-◌, ◌%◌, ◌≤◌, ◌<◌, ◌≡◌, refl, Bool, true, false, ◌&&◌, List, [], ◌∷◌, ◌++◌, eqb, leb, get_or, length, take, drop}
use Rattle.std.proofs.Common.{sym, ◌∙◌, ap, ap₂, append_assoc, arith, length-append, length-drop, take-append-drop, take_at, drop_at, take-add, take-take, drop-drop}
use Rattle.std.proofs.Common.{drop-cons, get_or-take, get_or-drop, length-take-le, le-leb, eqb-true, eq-eqb}
use Rattle.std.proofs.Math.ListN.{get_or-append}
use Rattle.std.proofs.Math.Seq.{drop-nil}
use Rattle.meaning.specs.Limits.{most_blocks}
use Rattle.meaning.specs.Words.{word_at, word_bytes}
use Rattle.meaning.specs.Sheet.{Sheet, need, script_of, grove_of, sheet_of}
use Rattle.meaning.specs.Shape.{
  word_ok,
  types_ok,
  queries_ok,
  statements_ok,
  rows_ok,
  names_ok,
  procedures_ok,
  roots_ok,
  limits_ok,
  type_users,
  query_users,
  statement_users,
  row_users,
  users_ok,
  shaped,
  whole,
  shapely,
}
use Rattle.meaning.specs.Bundle.{
  word_sum,
  check_word,
  filled,
  block_front,
  block,
  blocks,
  sheet_bytes,
  blocks_for,
  bundle_of,
  block_bytes,
  block_count,
  block_at,
  payload,
  payload_of,
  sheet_in,
  numbers_ok,
  checks_ok,
  count_ok,
  all_zero,
  framed,
}
use Rattle.meaning.specs.Reply.{Refusal, shape, room, done, Copied, copy_if, copied_in, read, write}
use Rattle.meaning.specs.Laws.Bools.{and_left, and_right, and_both}
use Rattle.meaning.specs.Laws.Tests.{every_at, every_all}
use Rattle.meaning.specs.Laws.Shaped.{Few, few, long, limits_pass}
use Rattle.meaning.specs.Laws.Agree.{SameTables, same_script, need_same, same_rows}
use Rattle.meaning.specs.Laws.Words.{Bytes, word_of_bytes, bytes_of_word, word_same, word_past}

-- ---- a sheet is what its counts ask for

and_same : (a b c d : Bool) → a ≡ b → c ≡ d → a && c ≡ b && d
and_same a b c d p q = rw (p, q)

-- the pool's bytes left out
abbrev blind : Sheet → Sheet
blind s = record {
  script = s.script;
  grove = record { rows = s.grove.rows; row = s.grove.row; pool = s.grove.pool; byte = λ i. 0; root = s.grove.root };
  check_fuel = s.check_fuel;
  run_fuel = s.run_fuel;
}

-- Shape looks at no byte of the pool
shaped_blind : (s : Sheet) → shaped s ≡ shaped (blind s)
unfolding word_ok types_ok queries_ok statements_ok rows_ok names_ok procedures_ok roots_ok limits_ok type_users query_users statement_users row_users users_ok
shaped_blind s = refl

module _ (a b : List ℕ) (same : (i : ℕ) → i < need b → get_or a i 0 ≡ get_or b i 0) where
  word : (i : ℕ) → 2 * i + 1 < need b → word_at a i ≡ word_at b i
  word i l = word_same a b (need b) i same l

  header : (i : ℕ) → i < 13 → word_at a i ≡ word_at b i
  header i l = word i (omega arith)

  tables : SameTables b a
  tables = record { header = λ j l p q. header j (omega arith); tables = λ j l h. word j (omega arith) }

  asks_same : need a ≡ need b
  asks_same = need_same b a tables (header 5 (omega arith)) (header 6 (omega arith))

  blind_same : blind (sheet_of a) ≡ blind (sheet_of b)
  unfolding sheet_of grove_of
  blind_same = λ i. record {
    script = same_script b a tables i;
    grove = record {
      rows = header 5 (omega arith) i;
      row = same_rows b a tables (header 5 (omega arith)) (λ j l h. word j (omega arith)) i;
      pool = header 6 (omega arith) i;
      byte = λ x. 0;
      root = header 10 (omega arith) i;
    };
    check_fuel = header 11 (omega arith) i;
    run_fuel = header 12 (omega arith) i;
  }

  shaped_same : shaped (sheet_of a) ≡ shaped (sheet_of b)
  shaped_same = shaped_blind (sheet_of a) ∙ ap shaped blind_same ∙ sym (shaped_blind (sheet_of b))

  -- what lies past the counts is not looked at
  pub shapely_same : need b ≤ length a → need b ≤ length b → shapely a ≡ shapely b
  shapely_same p q = and_same (whole a) (whole b) (shaped (sheet_of a)) (shaped (sheet_of b)) (le-leb (need a) (length a) (omega (arith, asks_same)) ∙ sym (le-leb (need b) (length b) q)) shaped_same

pub need_front : (s : List ℕ) → need (sheet_bytes s) ≡ need s
need_front s = asks_same (sheet_bytes s) s (λ i l. get_or-take (need s) s i 0 l)

pub shapely_front : (s : List ℕ) (n : ℕ) → need s ≡ n → n ≤ length s → shapely (take n s) ≡ shapely s
shapely_front s n asks long = shapely_same (take n s) s (λ i l. get_or-take n s i 0 (omega arith)) (omega (arith, length-take-le n s long)) (omega arith)

-- ---- filled to whole blocks with 0

length_filled : (n : ℕ) (b : List ℕ) → length (filled n b) ≡ n
unfolding filled
length_filled zero b = refl
length_filled (suc n) [] = ap suc (length_filled n [])
length_filled (suc n) (x ∷ b) = ap suc (length_filled n b)

filled_none : (b : List ℕ) → filled 0 b ≡ []
unfolding filled
filled_none b = refl

filled_at : (n : ℕ) (b : List ℕ) (i : ℕ) → i < n → get_or (filled n b) i 0 ≡ get_or b i 0
unfolding filled
filled_at zero b i l = absurd (omega arith)
filled_at (suc n) [] zero l = refl
filled_at (suc n) [] (suc i) l = filled_at n [] i (omega arith)
filled_at (suc n) (x ∷ b) zero l = refl
filled_at (suc n) (x ∷ b) (suc i) l = filled_at n b i (omega arith)

filled_add : (n m : ℕ) (b : List ℕ) → filled (n + m) b ≡ filled n b ++ filled m (drop n b)
unfolding filled
filled_add zero m b = let e : 0 + m ≡ m = omega arith in rw e
filled_add (suc n) m [] = let e : suc n + m ≡ suc (n + m) = omega arith in rw e (ap (λ (l : List ℕ). 0 ∷ l) (rw (drop-nil n) at (filled_add n m [])))
filled_add (suc n) m (x ∷ b) = let e : suc n + m ≡ suc (n + m) = omega arith in rw e (ap (λ (l : List ℕ). x ∷ l) (filled_add n m b))

-- what was filled stands in front, and 0 behind it
filled_front : (n : ℕ) (b : List ℕ) → length b ≤ n → take (length b) (filled n b) ≡ b
unfolding filled
filled_front n [] l = refl
filled_front zero (x ∷ b) l = absurd (omega arith)
filled_front (suc n) (x ∷ b) l = ap (λ (l : List ℕ). x ∷ l) (filled_front n b (omega arith))

filled_rest : (n : ℕ) (b : List ℕ) → all_zero (drop (length b) (filled n b)) ≡ true
unfolding filled all_zero
filled_rest zero [] = refl
filled_rest (suc n) [] = filled_rest n []
filled_rest zero (x ∷ b) = refl
filled_rest (suc n) (x ∷ b) = filled_rest n b

-- and a list that is 0 from n on is its first n bytes, filled
filled_back : (n : ℕ) (b : List ℕ) → all_zero (drop n b) ≡ true → filled (length b) (take n b) ≡ b
unfolding filled all_zero
filled_back zero [] e = refl
filled_back zero (x ∷ b) e = rw (eqb-true x 0 (and_left (eqb x 0) (all_zero b) e)) (ap (λ (l : List ℕ). 0 ∷ l) (filled_back zero b (and_right (eqb x 0) (all_zero b) e)))
filled_back (suc n) [] e = refl
filled_back (suc n) (x ∷ b) e = ap (λ (l : List ℕ). x ∷ l) (filled_back n b e)

-- ---- one block

word_sum_same : (a b : List ℕ) (n : ℕ) → ((j : ℕ) → j < 2 * n → get_or a j 0 ≡ get_or b j 0) → word_sum a n ≡ word_sum b n
unfolding word_sum
word_sum_same a b zero h = refl
word_sum_same a b (suc n) h = rw (word_sum_same a b n (λ j l. h j (omega arith)), word_same a b (2 * suc n) n h (omega arith))

pub check_same : (a b : List ℕ) → ((j : ℕ) → j < 510 → get_or a j 0 ≡ get_or b j 0) → check_word a ≡ check_word b
check_same a b h = ap (λ (x : ℕ). x % 65535) (word_sum_same a b 255 h)

pub length_front : (k : ℕ) (p : List ℕ) → length (block_front k p) ≡ 510
length_front k p = ap (λ (x : ℕ). suc (suc x)) (length_filled 508 p)

pub length_block : (k : ℕ) (p : List ℕ) → length (block k p) ≡ 512
length_block k p = omega (arith, length-append (block_front k p) (word_bytes (check_word (block_front k p))), length_front k p)

-- a block has its number and its check
block_number : (k : ℕ) (p : List ℕ) → k < 65536 → word_at (block k p) 0 ≡ k
block_number k p l = word_of_bytes k l

pub block_check : (k : ℕ) (p : List ℕ) → word_at (block k p) 255 ≡ check_word (block k p)
block_check k p =
    let front = block_front k p in
    let c = check_word front in
    word_past front (word_bytes c) 255 0 (length_front k p) ∙ word_of_bytes c (omega arith)
    ∙ check_same front (block k p) (λ j l. sym (get_or-append front (word_bytes c) 0 j (omega (arith, length_front k p))))

-- ---- all blocks

pub length_blocks : (m k : ℕ) (p : List ℕ) → length (blocks m k p) ≡ 512 * m
unfolding blocks
length_blocks zero k p = refl
length_blocks (suc m) k p =
    let rest = blocks m (suc k) (drop 508 p) in
    omega (arith, length-append (block k p) rest, length_block k p, length_blocks m (suc k) (drop 508 p))

-- the block behind i others
pub nth_block : (m k i : ℕ) (p : List ℕ) → i < m → take 512 (drop (512 * i) (blocks m k p)) ≡ block (k + i) (drop (508 * i) p)
unfolding blocks
nth_block zero k i p l = absurd (omega arith)
nth_block (suc m) k zero p l =
    let e : k + 0 ≡ k = omega arith in
    take_at (block k p) (blocks m (suc k) (drop 508 p)) 512 (length_block k p) ∙ rw e
nth_block (suc m) k (suc i) p l =
    let rest = blocks m (suc k) (drop 508 p) in
    let e : 512 * suc i ≡ 512 + 512 * i = omega arith in
    let f : 508 * suc i ≡ 508 + 508 * i = omega arith in
    let g : k + suc i ≡ suc k + i = omega arith in
    rw (e, f, g, ← drop-drop (512 * i) 512 (block k p ++ rest), drop_at (block k p) rest 512 (length_block k p), ← drop-drop (508 * i) 508 p) (nth_block m (suc k) i (drop 508 p) (omega arith))

payload_blocks : (m k : ℕ) (p : List ℕ) → payload m (blocks m k p) ≡ filled (508 * m) p
unfolding blocks payload
payload_blocks zero k p = sym (filled_none p)
payload_blocks (suc m) k p =
    let rest = blocks m (suc k) (drop 508 p) in
    let tail = word_bytes (check_word (block_front k p)) in
    let e : 508 * suc m ≡ 508 + 508 * m = omega arith in
    rw (e, filled_add 508 (508 * m) p, drop_at (block k p) rest 512 (length_block k p), append_assoc (filled 508 p) tail rest, take_at (filled 508 p) (tail ++ rest) 508 (length_filled 508 p))
    (ap (λ (l : List ℕ). filled 508 p ++ l) (payload_blocks m (suc k) (drop 508 p)))

-- ---- the five tests of a bundle of m blocks, whose payload is p and asks for n bytes

-- block k, from 1, has its number and its check
abbrev Right : List ℕ → ℕ → Type 0
Right c k = (word_at c 0 ≡ k) × (word_at c 255 ≡ check_word c)

module _ (b p : List ℕ) (m n : ℕ) (long : length b ≡ 512 * m) (pays : payload m b ≡ p) (asks : need p ≡ n) where
  count_is : block_count b ≡ m
  count_is = omega arith

  payload_is : payload_of b ≡ p
  payload_is = rw count_is pays

  need_is : need (payload_of b) ≡ n
  need_is = ap need payload_is ∙ asks

  framed_if : 1 ≤ m → m ≤ 88 → ((k : ℕ) → 1 ≤ k → k ≤ m → Right (block_at b k) k) → m ≡ blocks_for n → all_zero (drop n p) ≡ true → framed b ≡ true
  framed_if low few right parts zeros =
      let even = eq-eqb (length b % 512) 0 (omega arith) in
      let some = le-leb 1 (block_count b) (omega arith) in
      let most = le-leb (block_count b) 88 (omega arith) in
      let numbers = every_all (λ k. eqb (word_at (block_at b k) 0) k) (block_count b) (λ k p q. eq-eqb (word_at (block_at b k) 0) k (right k p (omega arith)).0) in
      let checks = every_all (λ k. eqb (word_at (block_at b k) 255) (check_word (block_at b k))) (block_count b)
      (λ k p q. eq-eqb (word_at (block_at b k) 255) (check_word (block_at b k)) (right k p (omega arith)).1) in
      let count = eq-eqb (block_count b) (blocks_for (need (payload_of b))) (count_is ∙ parts ∙ ap blocks_for (sym need_is)) in
      let padding = ap (λ (x : ℕ). all_zero (drop x (payload_of b))) need_is ∙ ap (λ (x : List ℕ). all_zero (drop n x)) payload_is ∙ zeros in
      search and_both depth 14

-- ---- what is written reads back

module _ (s : List ℕ) (n m : ℕ) (asks : need s ≡ n) (long : n ≤ length s) (parts : m ≡ blocks_for n) where
  need_filled : need (filled (508 * m) (take n s)) ≡ n
  need_filled = asks_same (filled (508 * m) (take n s)) s (λ i l. filled_at (508 * m) (take n s) i (omega arith) ∙ get_or-take n s i 0 (omega arith)) ∙ asks

  sheet_of_blocks : sheet_in (blocks m 1 (take n s)) ≡ take n s
  sheet_of_blocks =
      let written = payload_is (blocks m 1 (take n s)) (filled (508 * m) (take n s)) m n (length_blocks m 1 (take n s)) (payload_blocks m 1 (take n s)) need_filled in
      let size = length-take-le n s long in
      ap sheet_bytes written ∙ ap (λ (x : ℕ). take x (filled (508 * m) (take n s))) (need_filled ∙ sym size) ∙ filled_front (508 * m) (take n s) (omega arith)

  framed_blocks : m ≤ 88 → framed (blocks m 1 (take n s)) ≡ true
  framed_blocks few =
      framed_if (blocks m 1 (take n s)) (filled (508 * m) (take n s)) m n (length_blocks m 1 (take n s)) (payload_blocks m 1 (take n s)) need_filled
      (omega arith) few right parts (rw (length-take-le n s long) at (filled_rest (508 * m) (take n s)))
    where
      right : (k : ℕ) → 1 ≤ k → k ≤ m → Right (block_at (blocks m 1 (take n s)) k) k
      right k p q =
          let e : 1 + (k - 1) ≡ k = omega arith in
          let here = nth_block m 1 (k - 1) (take n s) (omega arith) in
          rw (here, e) (block_number k (drop (508 * (k - 1)) (take n s)) (omega arith), block_check k (drop (508 * (k - 1)) (take n s)))

-- a sheet within the limits fits into 88 blocks
pub few_blocks : (s : List ℕ) → limits_ok (sheet_of s) ≡ true → blocks_for (need s) ≤ most_blocks
unfolding sheet_of script_of grove_of
few_blocks s e = let l : Few (sheet_of s) = few (sheet_of s) e in omega (arith, l.names, l.types, l.queries, l.statements, l.procedures, l.rows, l.pool)

-- ---- what reads was written

two_bytes : (b : List ℕ) (j : ℕ) → Bytes b → j + 1 < length b → word_bytes (get_or b j 0 + 256 * get_or b (j + 1) 0) ≡ take 2 (drop j b)
two_bytes b j h l =
    let e : j + 1 ≡ suc j = omega arith in
    rw (bytes_of_word (get_or b j 0) (get_or b (j + 1) 0) (h j) (h (j + 1)), drop-cons b j 0 (omega arith), drop-cons b (suc j) 0 (omega arith), e)

-- a block that has its number and its check is the block of that number and its payload
block_back : (k : ℕ) (b p : List ℕ) → Bytes b → 512 ≤ length b → filled 508 p ≡ take 508 (drop 2 b) → Right (take 512 b) k → block k p ≡ take 512 b
block_back k b p h long pays right =
    let word_in : (i : ℕ) → i < 256 → word_at (take 512 b) i ≡ word_at b i = λ i l. word_same (take 512 b) b 512 i (λ j q. get_or-take 512 b j 0 q) (omega arith) in
    let number = ap word_bytes (sym right.0 ∙ word_in 0 (omega arith)) ∙ two_bytes b 0 h (omega arith) in
    let front = ap₂ (λ (x y : List ℕ). x ++ y) number pays ∙ sym (take-add 2 508 b) in
    let sums = check_same (take 510 b) (take 512 b) (λ j l. get_or-take 510 b j 0 l ∙ sym (get_or-take 512 b j 0 (omega arith))) in
    let check = ap word_bytes (ap check_word front ∙ sums ∙ sym right.1 ∙ word_in 255 (omega arith)) ∙ two_bytes b 510 h (omega arith) in
    ap₂ (λ (x y : List ℕ). x ++ y) front check ∙ sym (take-add 510 2 b)

blocks_back : (m k : ℕ) (b p : List ℕ) → Bytes b → length b ≡ 512 * m → filled (508 * m) p ≡ payload m b
    → ((i : ℕ) → i < m → Right (take 512 (drop (512 * i) b)) (k + i)) → blocks m k p ≡ b
unfolding blocks payload
blocks_back zero k [] p h long pays right = refl
blocks_back zero k (x ∷ b) p h long pays right = absurd (omega arith)
blocks_back (suc m) k b p h long pays right =
    let e : 508 + 508 * m ≡ 508 * suc m = omega arith in
    let zero_more : k + 0 ≡ k = omega arith in
    let split = sym (filled_add 508 (508 * m) p) ∙ ap (λ (x : ℕ). filled x p) e ∙ pays in
    let size = length-take-le 508 (drop 2 b) (omega (arith, length-drop 2 b)) in
    let first = sym (take_at (filled 508 p) (filled (508 * m) (drop 508 p)) 508 (length_filled 508 p)) ∙ ap (take 508) split ∙ take_at (take 508 (drop 2 b)) (payload m (drop 512 b)) 508 size in
    let rest = sym (drop_at (filled 508 p) (filled (508 * m) (drop 508 p)) 508 (length_filled 508 p)) ∙ ap (drop 508) split ∙ drop_at (take 508 (drop 2 b)) (payload m (drop 512 b)) 508 size in
    let here = block_back k b p h (omega arith) first (rw zero_more at (right 0 (omega arith))) in
    let there = blocks_back m (suc k) (drop 512 b) (drop 508 p) (λ i. rw (get_or-drop 512 b i 0) (h (512 + i))) (omega (arith, length-drop 512 b)) rest (λ i l.
    let f : 512 * suc i ≡ 512 + 512 * i = omega arith in
    let g : k + suc i ≡ suc k + i = omega arith in
    rw (drop-drop (512 * i) 512 b, ← f, ← g) (right (suc i) (omega arith))) in
    ap₂ (λ (x y : List ℕ). x ++ y) here there ∙ take-append-drop 512 b

-- what the five tests say
record Framed (b p : List ℕ) (m n : ℕ) : Type 0 where
  long : length b ≡ 512 * m
  right : (k : ℕ) → 1 ≤ k → k ≤ m → Right (block_at b k) k
  parts : m ≡ blocks_for n
  zeros : all_zero (drop n p) ≡ true

framed_says : (b : List ℕ) → framed b ≡ true → Framed b (payload_of b) (block_count b) (need (payload_of b))
framed_says b e =
    let even : eqb (length b % 512) 0 ≡ true = search (and_left, and_right) depth 14 in
    let numbers : numbers_ok b ≡ true = search (and_left, and_right) depth 14 in
    let checks : checks_ok b ≡ true = search (and_left, and_right) depth 14 in
    let count : count_ok b ≡ true = search (and_left, and_right) depth 14 in
    record {
      long = omega (arith, eqb-true (length b % 512) 0 even);
      right = λ k p q. (
        eqb-true (word_at (block_at b k) 0) k (every_at (λ k. eqb (word_at (block_at b k) 0) k) (block_count b) numbers k p q),
        eqb-true (word_at (block_at b k) 255) (check_word (block_at b k)) (every_at (λ k. eqb (word_at (block_at b k) 255) (check_word (block_at b k))) (block_count b) checks k p q),
      );
      parts = eqb-true (block_count b) (blocks_for (need (payload_of b))) count;
      zeros = search (and_left, and_right) depth 14;
    }

length_payload : (m : ℕ) (b : List ℕ) → length b ≡ 512 * m → length (payload m b) ≡ 508 * m
unfolding payload
length_payload zero b e = refl
length_payload (suc m) b e = omega (
  arith,
  length-append (take 508 (drop 2 b)) (payload m (drop 512 b)),
  length-take-le 508 (drop 2 b) (omega (arith, length-drop 2 b)),
  length_payload m (drop 512 b) (omega (arith, length-drop 512 b)),
)

payload_long : (b : List ℕ) (m n : ℕ) → Framed b (payload m b) m n → n ≤ length (payload m b)
payload_long b m n f = omega (arith, length_payload m b f.long, f.parts)

-- a slice that begins with what the payload asks for is written as the bundle that it was read from
module _ (b s : List ℕ) (m n : ℕ) (f : Framed b (payload m b) m n) (asks : need (payload m b) ≡ n) (begins : take n s ≡ take n (payload m b)) where
  begins_at : (i : ℕ) → i < n → get_or s i 0 ≡ get_or (payload m b) i 0
  begins_at i l = sym (get_or-take n s i 0 l) ∙ ap (λ (x : List ℕ). get_or x i 0) begins ∙ get_or-take n (payload m b) i 0 l

  need_read : need s ≡ n
  need_read = asks_same s (payload m b) (λ i l. begins_at i (omega arith)) ∙ asks

  bundle_read : Bytes b → bundle_of s ≡ b
  bundle_read bytes =
      ap (λ (x : ℕ). blocks (blocks_for x) 1 (take x s)) need_read ∙ ap₂ (λ (x : ℕ) (y : List ℕ). blocks x 1 y) (sym f.parts) begins
      ∙ blocks_back m 1 b (take n (payload m b)) bytes f.long (rw (length_payload m b f.long) at (filled_back n (payload m b) f.zeros)) (λ i l.
      let e : 1 + i - 1 ≡ i = omega arith in
      rw e at (f.right (1 + i) (omega arith) (omega arith)))

  shapely_read : n ≤ length s → shapely s ≡ shapely (take n (payload m b))
  shapely_read long =
      shapely_same s (payload m b) (λ i l. begins_at i (omega arith)) (omega arith) (omega (arith, payload_long b m n f)) ∙ sym (shapely_front (payload m b) n asks (payload_long b m n f))

-- what is framed is the bundle of the sheet in it, byte for byte
pub bundle_of_sheet : (b : List ℕ) → Bytes b → framed b ≡ true → bundle_of (sheet_in b) ≡ b
bundle_of_sheet b bytes e =
    let n = need (payload_of b) in
    bundle_read b (sheet_in b) (block_count b) n (framed_says b e) refl (take-take n n (payload_of b) (omega arith)) bytes

-- what is written is framed, and holds the sheet
pub sheet_of_bundle : (s : List ℕ) → need s ≤ length s → sheet_in (bundle_of s) ≡ sheet_bytes s
sheet_of_bundle s long = sheet_of_blocks s (need s) (blocks_for (need s)) refl long refl

pub framed_bundle : (s : List ℕ) → need s ≤ length s → blocks_for (need s) ≤ most_blocks → framed (bundle_of s) ≡ true
framed_bundle s long few = framed_blocks s (need s) (blocks_for (need s)) refl long refl few

-- ---- the two calls

copied : (t : Bool) (r : Refusal) (c : Copied) (lent : List ℕ) → (copy_if t r c lent).answer ≡ done → (t ≡ true) × (copy_if t r c lent ≡ c)
copied true r c lent e = (refl, refl)
copied false r c lent e = let z : ◌≡◌ {A = ℕ} 0 1 = cc in absurd (omega arith)

copies : (t : Bool) (r : Refusal) (c : Copied) (lent : List ℕ) → t ≡ true → copy_if t r c lent ≡ c
copies t r c lent e = rw e

pub write_done : (s lent : List ℕ) → (write s lent).answer ≡ done → (shapely s ≡ true) × (write s lent ≡ copied_in (bundle_of s) lent)
unfolding write
write_done s lent e =
    let inner = copy_if (leb (block_bytes * blocks_for (need s)) (length lent)) room (copied_in (bundle_of s) lent) lent in
    let x = copied (shapely s) shape inner lent e in
    let y = copied (leb (block_bytes * blocks_for (need s)) (length lent)) room (copied_in (bundle_of s) lent) lent (ap (λ (c : Copied). c.answer) (sym x.1) ∙ e) in
    (x.0, x.1 ∙ y.1)

pub write_if : (s lent : List ℕ) → shapely s ≡ true → block_bytes * blocks_for (need s) ≤ length lent → write s lent ≡ copied_in (bundle_of s) lent
unfolding write
write_if s lent e l =
    let inner = copy_if (leb (block_bytes * blocks_for (need s)) (length lent)) room (copied_in (bundle_of s) lent) lent in
    copies (shapely s) shape inner lent e ∙ copies (leb (block_bytes * blocks_for (need s)) (length lent)) room (copied_in (bundle_of s) lent) lent
    (le-leb (block_bytes * blocks_for (need s)) (length lent) l)

rewritten : (b s : List ℕ) (m n : ℕ) → Framed b (payload m b) m n → need (payload m b) ≡ n → take n s ≡ take n (payload m b)
    → (lent : List ℕ) → Bytes b → n ≤ length s → shapely (take n (payload m b)) ≡ true → length b ≤ length lent → write s lent ≡ copied_in b lent
rewritten b s m n f asks begins lent bytes long shapes l =
    let same = need_read b s m n f asks begins in
    write_if s lent (shapely_read b s m n f asks begins long ∙ shapes) (rw same (omega (arith, f.parts, f.long)))
    ∙ ap (λ (x : List ℕ). copied_in x lent) (bundle_read b s m n f asks begins bytes)

module _ (b lent : List ℕ) where
  abbrev if_shapely : Copied
  if_shapely = copy_if (shapely (sheet_in b)) shape (copy_if (leb (need (sheet_in b)) (length lent)) room (copied_in (sheet_in b) lent) lent) lent

  abbrev if_room : Copied
  if_room = copy_if (leb (need (sheet_in b)) (length lent)) room (copied_in (sheet_in b) lent) lent

  pub read_done : (read b lent).answer ≡ done → (framed b ≡ true) × (shapely (sheet_in b) ≡ true) × (read b lent ≡ copied_in (sheet_in b) lent)
  unfolding read
  read_done e =
      let x = copied (framed b) Refusal.block if_shapely lent e in
      let y = copied (shapely (sheet_in b)) shape if_room lent (ap (λ (c : Copied). c.answer) (sym x.1) ∙ e) in
      let z = copied (leb (need (sheet_in b)) (length lent)) room (copied_in (sheet_in b) lent) lent (ap (λ (c : Copied). c.answer) (sym (x.1 ∙ y.1)) ∙ e) in
      (x.0, y.0, x.1 ∙ y.1 ∙ z.1)

  pub read_if : framed b ≡ true → shapely (sheet_in b) ≡ true → need (sheet_in b) ≤ length lent → read b lent ≡ copied_in (sheet_in b) lent
  unfolding read
  read_if p q l =
      copies (framed b) Refusal.block if_shapely lent p ∙ copies (shapely (sheet_in b)) shape if_room lent q
      ∙ copies (leb (need (sheet_in b)) (length lent)) room (copied_in (sheet_in b) lent) lent (le-leb (need (sheet_in b)) (length lent) l)

shapely_few : (s : List ℕ) → shapely s ≡ true → blocks_for (need s) ≤ most_blocks
shapely_few s e = few_blocks s (limits_pass s e)

-- what is shapely is read out of its bundle
pub bundle_reads : (s lent : List ℕ) → shapely s ≡ true → need s ≤ length lent → read (bundle_of s) lent ≡ copied_in (sheet_bytes s) lent
bundle_reads s lent e l =
    let fits = long s e in
    let sheet = sheet_of_bundle s fits in
    read_if (bundle_of s) lent (framed_bundle s fits (shapely_few s e))
    (ap shapely sheet ∙ shapely_front s (need s) refl fits ∙ e)
    (rw (ap need sheet ∙ need_front s) l)
    ∙ ap (λ (x : List ℕ). copied_in x lent) sheet

-- (a) what the writer wrote, the reader gives back: the sheet at the front, all past it untouched
pub written_reads : (s lent lent' : List ℕ) → (write s lent).answer ≡ done → need s ≤ length lent'
    → read (take (block_bytes * blocks_for (need s)) (write s lent).bytes) lent' ≡ copied_in (sheet_bytes s) lent'
written_reads s lent lent' e l =
    let d = write_done s lent e in
    let m = blocks_for (need s) in
    ap (λ (c : Copied). read (take (block_bytes * m) c.bytes) lent') d.1
    ∙ ap (λ (b : List ℕ). read b lent') (take_at (bundle_of s) (drop (length (bundle_of s)) lent) (block_bytes * m) (length_blocks m 1 (sheet_bytes s)))
    ∙ bundle_reads s lent' d.0 l

-- (b) what the reader gave, the writer writes as the bundle that was read, byte for byte
pub read_writes : (b lent lent' : List ℕ) → Bytes b → (read b lent).answer ≡ done → length b ≤ length lent' → write (read b lent).bytes lent' ≡ copied_in b lent'
read_writes b lent lent' bytes e l =
    let d = read_done b lent e in
    let n = need (payload_of b) in
    let f = framed_says b d.0 in
    let size = length-take-le n (payload_of b) (payload_long b (block_count b) n f) in
    ap (λ (c : Copied). write c.bytes lent') d.2
    ∙ rewritten b (sheet_in b ++ drop (length (sheet_in b)) lent) (block_count b) n f refl (take_at (sheet_in b) (drop (length (sheet_in b)) lent) n size) lent' bytes
    (omega (arith, length-append (sheet_in b) (drop (length (sheet_in b)) lent), size)) d.1 l
