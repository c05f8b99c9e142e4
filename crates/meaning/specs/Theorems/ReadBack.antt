-- The rows of a forest read back as the forest: first from a list of rows, by induction on the forest, then from the bytes that a run leaves.
use Rattle.std.specs.Prelude.{ℕ, zero, suc, ◌+◌, ◌*◌, ◌-◌, ◌≤◌, ◌<◌, ◌≡◌, refl, Bool, true, false, cond, List, [], ◌∷◌, ◌++◌, eqb, leb, get_or, length, drop}
use Rattle.std.proofs.Common.{sym, ◌∙◌, ap, inl, inr, append_assoc, append-nil, eq-or-lt_of_le, le_of_suc-le-suc, add-one, arith, leb-true, leb-false, le-leb, eqb-true, ne_eqb, length-append}
use Rattle.std.proofs.lemmas.Bool.{false≢true, lt-leb, eqb-false}
use Rattle.std.proofs.Math.ListN.{get_or-append}
use Rattle.std.proofs.lemmas.List.{get_or_at}
use Rattle.meaning.specs.Limits.{row_words}
use Rattle.meaning.specs.Tests.{total}
use Rattle.meaning.specs.Words.{word_at, bytes_of}
use Rattle.meaning.specs.Sheet.{Cells, blank, Grove, Sheet}
use Rattle.meaning.specs.Forest.{
  Tree,
  Forest,
  nil,
  cons,
  text,
  bool,
  node,
  bytes_from,
  text_at,
  tree_form,
  forest,
  forest_at,
  forest_of,
  tree_size,
  forest_size,
  root_after,
  tree_rows,
  forest_rows,
  rows_of_result,
  row_bytes,
}
use Rattle.meaning.specs.Shape.{forest_uses, own, hit, hits, row_users}
use Rattle.meaning.specs.Reply.{given}
use Rattle.meaning.specs.Laws.Words.{word_of_bytes, word_past}
use Rattle.meaning.specs.Laws.Rows.{LowRow, LowRows, SameRows, tree_same, forest_at_same, forest_at_zero, forest_at_suc}

-- ---- what is read back: forests whose texts lie in the pool

-- each text, at any depth, is the bytes of its place in the pool
abbrev mutual
  pub TreeInPool : (ℕ → ℕ) → Tree → Type 0
  TreeInPool byte (text w) = w.bytes ≡ bytes_from byte w.offset w.size
  TreeInPool byte (bool b) = Unit {0}
  TreeInPool byte (node l f) = InPool byte f

  pub InPool : (ℕ → ℕ) → Forest → Type 0
  InPool byte nil = Unit {0}
  InPool byte (cons t f) = TreeInPool byte t × InPool byte f

tree_in_pool : (byte : ℕ → ℕ) (p q k : ℕ) (f : Forest) → InPool byte f
    → TreeInPool byte (get_or (Tree.node p f ∷ Tree.text (text_at byte p q) ∷ Tree.bool false ∷ Tree.bool true ∷ []) k (Tree.node p f))
tree_in_pool byte p q zero f h = h
tree_in_pool byte p q (suc zero) f h = refl
tree_in_pool byte p q (suc (suc zero)) f h = tt
tree_in_pool byte p q (suc (suc (suc zero))) f h = tt
tree_in_pool byte p q (suc (suc (suc (suc k)))) f h = h

forest_in_pool : (byte : ℕ → ℕ) (row : ℕ → Cells) (k r : ℕ) → InPool byte (forest byte row k r)
unfolding forest
forest_in_pool byte row zero r = tt
forest_in_pool byte row (suc k) zero = tt
forest_in_pool byte row (suc k) (suc r) = (
  tree_in_pool byte (row (suc r)).p (row (suc r)).q (row (suc r)).kind (forest byte row k (row (suc r)).q) (forest_in_pool byte row k (row (suc r)).q),
  forest_in_pool byte row k (row (suc r)).r,
)

pub forest_at_in_pool : (byte : ℕ → ℕ) (row : ℕ → Cells) (r : ℕ) → InPool byte (forest_at byte row r)
unfolding forest_at
forest_at_in_pool byte row r = forest_in_pool byte row r r

-- the forest that a grove holds lies in its pool
pub decoded_in_pool : (G : Grove) → InPool G.byte (forest_of G)
decoded_in_pool G = forest_at_in_pool G.byte G.row G.root

-- ---- from a list of rows

-- row r of a list of rows, r from 1
unfoldable pub list_row : List Cells → ℕ → Cells
list_row l zero = blank
list_row l (suc i) = get_or l i blank

mutual
  unfolding tree_rows tree_size forest_rows forest_size

  tree_length : (n : ℕ) (t : Tree) (next : ℕ) → length (tree_rows n t next) ≡ tree_size t
  tree_length n (text w) next = refl
  tree_length n (bool b) next = refl
  tree_length n (node l f) next = simp length-append (omega (arith, forest_length n f))

  -- a forest has as many rows as its size
  pub forest_length : (n : ℕ) (f : Forest) → length (forest_rows n f) ≡ forest_size f
  forest_length n nil = refl
  forest_length n (cons t f) = simp length-append (omega (arith, forest_length n f, tree_length (n + forest_size f) t (root_after n f)))

-- a result has as many rows as the forest, written out, has
pub result_length : (f : Forest) → length (rows_of_result f) ≡ forest_size f
result_length f = forest_length 0 f

-- a row is eight bytes
pub row_bytes_length : (l : List Cells) → length (row_bytes l) ≡ 2 * row_words * length l
unfolding row_bytes bytes_of
row_bytes_length [] = refl
row_bytes_length (c ∷ l) = omega (arith, row_bytes_length l)

row_append : (rows more : List Cells) (r : ℕ) → 1 ≤ r → r ≤ length rows → list_row (rows ++ more) r ≡ list_row rows r
unfolding list_row
row_append rows more zero p q = absurd (omega arith)
row_append rows more (suc i) p q = get_or-append rows more blank i q

row_last : (rows : List Cells) (c : Cells) → list_row (rows ++ c ∷ []) (suc (length rows)) ≡ c
unfolding list_row
row_last rows c = get_or_at rows c [] blank (length rows) refl

-- one more row, which refers to lower rows
low_more : (rows : List Cells) (c : Cells) → LowRows (list_row rows) (length rows) → LowRow c (suc (length rows)) → LowRows (list_row (rows ++ c ∷ [])) (suc (length rows))
low_more rows c low lower r p q = elim (eq-or-lt_of_le q) [
  | inl e ↦ rw (e, row_last rows c) lower
  | inr l ↦ rw (row_append rows (c ∷ []) r p (le_of_suc-le-suc l)) (low r p (le_of_suc-le-suc l))
]

module _ (byte : ℕ → ℕ) where
  -- at row r of these rows, which refer to lower rows, stands f, if its texts lie in the pool
  record Reads (rows : List Cells) (r : ℕ) (f : Forest) : Type 0 where
    low : LowRows (list_row rows) (length rows)
    within : r ≤ length rows
    reads : InPool byte f → forest_at byte (list_row rows) r ≡ f

  -- rows behind are not looked at
  forest_append : (rows more : List Cells) (r : ℕ) → LowRows (list_row rows) (length rows) → r ≤ length rows → forest_at byte (list_row rows) r ≡ forest_at byte (list_row (rows ++ more)) r
  forest_append rows more r low l =
      forest_at_same byte (list_row rows) (list_row (rows ++ more)) r (λ i p q. low i p (omega arith)) (λ i p q. sym (row_append rows more i p (omega arith)))

  reads_more : (rows more : List Cells) (r : ℕ) (f : Forest) → Reads rows r f → LowRows (list_row (rows ++ more)) (length (rows ++ more)) → Reads (rows ++ more) r f
  reads_more rows more r f x low = record {
    low = low;
    within = simp length-append (omega arith);
    reads = λ h. sym (forest_append rows more r x.low x.within) ∙ x.reads h;
  }

  -- a tree's row is written behind its child's and its next
  reads_tree : (rows : List Cells) (c : Cells) (t : Tree) (f : Forest) → Reads rows c.r f → LowRow c (suc (length rows))
      → (TreeInPool byte t → tree_form byte c (forest_at byte (list_row rows) c.q) ≡ t) → Reads (rows ++ c ∷ []) (suc (length rows)) (cons t f)
  reads_tree rows c t f x lower e =
      let long : length (rows ++ c ∷ []) ≡ suc (length rows) = simp length-append (omega arith) in
      let low = low_more rows c x.low lower in
      record {
        low = rw long low;
        within = omega arith;
        reads = λ h. forest_at_suc byte (list_row (rows ++ c ∷ [])) (length rows) low ∙ rw (row_last rows c) (
            rw (← forest_append rows (c ∷ []) c.r x.low x.within, x.reads h.1, ← e h.0)
            (ap (λ (y : Tree). cons y f) (sym (tree_same byte c (forest_at byte (list_row rows) c.q) (forest_at byte (list_row (rows ++ c ∷ [])) c.q) (λ h.
            forest_append rows (c ∷ []) c.q x.low (le_of_suc-le-suc (lower.child h)))))));
      }

  mutual
    unfolding tree_rows forest_rows tree_size forest_size root_after

    reads_tree_rows : (t : Tree) (rows : List Cells) (next : ℕ) (f : Forest) → Reads rows next f → Reads (rows ++ tree_rows (length rows) t next) (length rows + tree_size t) (cons t f)
    reads_tree_rows (text w) rows next f x = rw add-one (reads_tree rows (record { kind = 1; p = w.offset; q = w.size; r = next }) (text w) f x
        (record { child = λ e. absurd (false≢true (sym e)); next = omega arith })
        (λ h. ap (λ (b : List ℕ). text (record { offset = w.offset; size = w.size; bytes = b })) (sym h)))
    reads_tree_rows (bool true) rows next f x = rw add-one (reads_tree rows (record { kind = 3; p = 0; q = 0; r = next }) (bool true) f x
        (record { child = λ e. absurd (false≢true (sym e)); next = omega arith })
        (λ h. refl))
    reads_tree_rows (bool false) rows next f x = rw add-one (reads_tree rows (record { kind = 2; p = 0; q = 0; r = next }) (bool false) f x
        (record { child = λ e. absurd (false≢true (sym e)); next = omega arith })
        (λ h. refl))
    reads_tree_rows (node l k) rows next f x =
        let inner = forest_rows (length rows) k in
        let y = reads_forest_rows k rows x.low in
        let long : suc (length (rows ++ inner)) ≡ length rows + suc (forest_size k) = omega (arith, length-append rows inner, forest_length (length rows) k) in
        rw (append_assoc rows inner (record { kind = 4; p = l; q = root_after (length rows) k; r = next } ∷ []), long) at
        (reads_tree (rows ++ inner) (record { kind = 4; p = l; q = root_after (length rows) k; r = next }) (node l k) f
        (reads_more rows inner next f x y.low)
        (record { child = λ e. omega (arith, y.within); next = omega (arith, x.within, length-append rows inner) })
        (λ h. ap (node l) (y.reads h)))

    reads_forest_rows : (f : Forest) (rows : List Cells) → LowRows (list_row rows) (length rows) → Reads (rows ++ forest_rows (length rows) f) (root_after (length rows) f) f
    reads_forest_rows nil rows low = rw append-nil (record { low = low; within = omega arith; reads = λ h. forest_at_zero byte (list_row rows) })
    reads_forest_rows (cons t f) rows low =
        let rest = forest_rows (length rows) f in
        let long : length (rows ++ rest) ≡ length rows + forest_size f = omega (arith, length-append rows rest, forest_length (length rows) f) in
        let group : length rows + forest_size f + tree_size t ≡ length rows + (forest_size f + tree_size t) = omega arith in
        rw (long, group, append_assoc rows rest (tree_rows (length rows + forest_size f) t (root_after (length rows) f))) at
        (reads_tree_rows t (rows ++ rest) (root_after (length rows) f) f (reads_forest_rows f rows low))

result_reads : (byte : ℕ → ℕ) (f : Forest) → Reads byte (rows_of_result f) (root_after 0 f) f
result_reads byte f = reads_forest_rows byte f [] (λ r p q. absurd (omega arith))

root_size : (f : Forest) → root_after 0 f ≡ forest_size f
unfolding root_after forest_size
root_size nil = refl
root_size (cons t f) = omega arith

-- the rows of a result refer to lower rows
pub result_low : (f : Forest) → LowRows (list_row (rows_of_result f)) (forest_size f)
result_low f = rw (result_length f) at (result_reads (λ i. 0) f).low

-- what is written as rows reads back: the root of a result is the number of its rows
pub rows_back : (byte : ℕ → ℕ) (f : Forest) → InPool byte f → forest_at byte (list_row (rows_of_result f)) (forest_size f) ≡ f
rows_back byte f h = rw (root_size f) at ((result_reads byte f).reads h)

-- ---- every row of a result has exactly one user

-- the words of a row that refer to row r, and those of a list of rows
abbrev refers : ℕ → Cells → ℕ
refers r c = hits own r (forest_uses c) c

unfoldable users : ℕ → List Cells → ℕ
users r [] = 0
users r (c ∷ l) = refers r c + users r l

users_append : (r : ℕ) (l m : List Cells) → users r (l ++ m) ≡ users r l + users r m
unfolding users
users_append r [] m = omega arith
users_append r (c ∷ l) m = omega (arith, users_append r l m)

total_same : (n : ℕ) (f g : ℕ → ℕ) → ((i : ℕ) → f (suc i) ≡ g (suc i)) → total f n ≡ total g n
unfolding total
total_same zero f g h = refl
total_same (suc n) f g h = rw (total_same n f g h, h n)

total_first : (n : ℕ) (f : ℕ → ℕ) → total f (suc n) ≡ f 1 + total (λ i. f (suc i)) n
unfolding total
total_first zero f = omega arith
total_first (suc n) f = omega (arith, total_first n f)

total_users : (r : ℕ) (l : List Cells) → total (λ i. refers r (list_row l i)) (length l) ≡ users r l
unfolding users list_row total
total_users r [] = refl
total_users r (c ∷ l) =
    total_first (length l) (λ i. refers r (list_row (c ∷ l) i))
    ∙ ap (λ (x : ℕ). refers r c + x) (total_same (length l) (λ i. refers r (list_row (c ∷ l) (suc i))) (λ i. refers r (list_row l i)) (λ i. refl) ∙ total_users r l)

-- 1 if row r is among the first n
abbrev among : ℕ → ℕ → ℕ
among n r = cond (leb r n) 1 0

among_suc : (n r : ℕ) → among (suc n) r ≡ among n r + hit r (suc n)
among_suc n r = go (leb r n) refl
  where
    past : n < r → (t : Bool) → eqb (suc n) r ≡ t → among (suc n) r ≡ 0 + hit r (suc n)
    past l true e = let h = eqb-true (suc n) r e in rw (e, le-leb r (suc n) (omega arith))
    past l false e = let h = eqb-false (suc n) r e in rw (e, lt-leb r (suc n) (omega arith))

    go : (t : Bool) → leb r n ≡ t → among (suc n) r ≡ among n r + hit r (suc n)
    go true e = let l = leb-true r n e in rw (e, le-leb r (suc n) (omega arith), ne_eqb (suc n) r (λ z. omega arith))
    go false e = rw e (past (leb-false r n e) (eqb (suc n) r) refl)

module _ (r : ℕ) (low : 1 ≤ r) where
  mutual
    unfolding tree_rows forest_rows tree_size forest_size root_after users own

    -- of a tree's rows only the last has no user among them; its next is used once
    tree_users : (n : ℕ) (t : Tree) (next : ℕ) → users r (tree_rows n t next) + hit r (n + tree_size t) + among n r ≡ hit r next + among (n + tree_size t) r
    tree_users n (text w) next = rw add-one (omega (arith, among_suc n r))
    tree_users n (bool true) next = rw add-one (omega (arith, among_suc n r))
    tree_users n (bool false) next = rw add-one (omega (arith, among_suc n r))
    tree_users n (node l f) next =
        let e : n + suc (forest_size f) ≡ suc (n + forest_size f) = omega arith in
        rw (e, users_append r (forest_rows n f) (record { kind = 4; p = l; q = root_after n f; r = next } ∷ [])) (omega (arith, forest_users n f, among_suc (n + forest_size f) r))

    forest_users : (n : ℕ) (f : Forest) → users r (forest_rows n f) + hit r (root_after n f) + among n r ≡ among (n + forest_size f) r
    forest_users n nil =
        let e : n + 0 ≡ n = omega arith in
        rw (e, ne_eqb 0 r (λ z. omega arith)) (omega arith)
    forest_users n (cons t f) =
        let e : n + (forest_size f + tree_size t) ≡ n + forest_size f + tree_size t = omega arith in
        rw (e, users_append r (forest_rows n f) (tree_rows (n + forest_size f) t (root_after n f))) (omega (arith, forest_users n f, tree_users (n + forest_size f) t (root_after n f)))

-- the forest that a result's rows are, beside a pool
abbrev pub result_grove : Forest → ℕ → (ℕ → ℕ) → Grove
result_grove f pool byte = record { rows = forest_size f; row = list_row (rows_of_result f); pool = pool; byte = byte; root = forest_size f }

-- a sheet that holds them passes "exactly one user" for each of its rows
pub result_users : (s : Sheet) (f : Forest) (pool : ℕ) (byte : ℕ → ℕ) → s.grove ≡ result_grove f pool byte → (r : ℕ) → 1 ≤ r → r ≤ forest_size f → row_users s r ≡ 1
unfolding row_users
result_users s f pool byte e r p q =
    let all : 0 + forest_size f ≡ forest_size f = omega arith in
    let sum = rw (all, root_size f, lt-leb r 0 p, le-leb r (forest_size f) q) at (forest_users r p 0 f) in
    ap (λ (G : Grove). total (λ i. refers r (G.row i)) G.rows + hit r G.root) e
    ∙ rw (rw (result_length f) at (total_users r (rows_of_result f))) (omega arith)

-- ---- from the bytes that a run leaves

-- every number of a forest is a word, and so is the number of its rows
abbrev mutual
  pub TreeWords : Tree → Type 0
  TreeWords (text w) = (w.offset < 65536) × (w.size < 65536)
  TreeWords (bool b) = Unit {0}
  TreeWords (node l f) = (l < 65536) × Words f

  pub Words : Forest → Type 0
  Words nil = Unit {0}
  Words (cons t f) = TreeWords t × Words f

pub record Small (f : Forest) : Type 0 where
  pub words : Words f
  pub rows : forest_size f < 65536

-- row r of lent rows, r from 1: four words
abbrev pub lent_row : List ℕ → ℕ → Cells
lent_row b r = record {
  kind = word_at b (row_words * (r - 1));
  p = word_at b (row_words * (r - 1) + 1);
  q = word_at b (row_words * (r - 1) + 2);
  r = word_at b (row_words * (r - 1) + 3);
}

-- rows whose numbers are words
abbrev AllWords : List Cells → Type 0
AllWords [] = Unit {0}
AllWords (c ∷ l) = (c.kind < 65536) × (c.p < 65536) × (c.q < 65536) × (c.r < 65536) × AllWords l

words_append : (l m : List Cells) → AllWords l → AllWords m → AllWords (l ++ m)
words_append [] m h k = k
words_append (c ∷ l) m h k = (h.0, h.1, h.2, h.3, words_append l m h.4 k)

root_within : (n : ℕ) (f : Forest) → root_after n f ≤ n + forest_size f
unfolding root_after
root_within n nil = omega arith
root_within n (cons t f) = omega arith

mutual
  unfolding tree_rows forest_rows tree_size forest_size

  tree_words : (n : ℕ) (t : Tree) (next : ℕ) → TreeWords t → next < 65536 → n + tree_size t < 65536 → AllWords (tree_rows n t next)
  tree_words n (text w) next h l m = (omega arith, h.0, h.1, l, tt)
  tree_words n (bool true) next h l m = (omega arith, omega arith, omega arith, l, tt)
  tree_words n (bool false) next h l m = (omega arith, omega arith, omega arith, l, tt)
  tree_words n (node a f) next h l m = words_append (forest_rows n f) _ (forest_words n f h.1 (omega arith)) (omega arith, h.0, omega (arith, root_within n f), l, tt)

  forest_words : (n : ℕ) (f : Forest) → Words f → n + forest_size f < 65536 → AllWords (forest_rows n f)
  forest_words n nil h m = tt
  forest_words n (cons t f) h m =
      words_append (forest_rows n f) _ (forest_words n f h.1 (omega arith)) (tree_words (n + forest_size f) t (root_after n f) h.0 (omega (arith, root_within n f)) (omega arith))

lent_past : (a b : List ℕ) (i : ℕ) → length a ≡ 8 → lent_row (a ++ b) (suc (suc i)) ≡ lent_row b (suc i)
lent_past a b i e =
    let at : row_words * (suc (suc i) - 1) ≡ 4 + row_words * (suc i - 1) = omega arith in
    let one : 4 + row_words * (suc i - 1) + 1 ≡ 4 + (row_words * (suc i - 1) + 1) = omega arith in
    let two : 4 + row_words * (suc i - 1) + 2 ≡ 4 + (row_words * (suc i - 1) + 2) = omega arith in
    let three : 4 + row_words * (suc i - 1) + 3 ≡ 4 + (row_words * (suc i - 1) + 3) = omega arith in
    rw (
      at,
      one,
      two,
      three,
      word_past a b 4 (row_words * (suc i - 1)) e,
      word_past a b 4 (row_words * (suc i - 1) + 1) e,
      word_past a b 4 (row_words * (suc i - 1) + 2) e,
      word_past a b 4 (row_words * (suc i - 1) + 3) e,
    )

lent_rows : (l : List Cells) (rest : List ℕ) (i : ℕ) → AllWords l → i < length l → get_or l i blank ≡ lent_row (row_bytes l ++ rest) (suc i)
unfolding row_bytes bytes_of
lent_rows [] rest i h m = absurd (omega arith)
lent_rows (c ∷ l) rest zero h m = sym (rw (word_of_bytes c.kind h.0, word_of_bytes c.p h.1, word_of_bytes c.q h.2, word_of_bytes c.r h.3))
lent_rows (c ∷ l) rest (suc i) h m = lent_rows l rest i h.4 (omega arith) ∙ sym (lent_past (bytes_of (c.kind ∷ c.p ∷ c.q ∷ c.r ∷ [])) (row_bytes l ++ rest) i refl)

-- what a run leaves in the lent rows reads back as its forest, whatever lies past it
pub given_back : (byte : ℕ → ℕ) (f : Forest) (result : List ℕ) → InPool byte f → Small f → forest_at byte (lent_row (given f result)) (forest_size f) ≡ f
unfolding list_row
given_back byte f result h small =
    sym (forest_at_same byte (list_row (rows_of_result f)) (lent_row (given f result)) (forest_size f) (result_low f) same) ∙ rows_back byte f h
  where
    same : SameRows (list_row (rows_of_result f)) (lent_row (given f result)) (forest_size f)
    same zero p q = absurd (omega arith)
    same (suc i) p q = lent_rows (rows_of_result f) (drop (2 * row_words * forest_size f) result) i (forest_words 0 f small.words (omega (arith, small.rows))) (omega (arith, result_length f))
