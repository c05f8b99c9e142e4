-- Laws of lent rows: what a word put reads back as, what a written row says, and what the forest at a row that is read is.
use Rattle.std.specs.Prelude.{ℕ, zero, suc, ◌+◌, ◌*◌, ◌-◌, ◌/◌, ◌%◌, ◌≤◌, ◌<◌, ◌≡◌, Bool, true, false, List, [], ◌∷◌, length, get_or, set, refl}
use Rattle.std.proofs.Common.{arith, sym, ◌∙◌, subst, length-set, get_or-set_same, get_or-set_other}
use Rattle.std.proofs.Math.Decide.{dec_le}
use Rattle.std.proofs.Math.Path.{ap}
use Rattle.meaning.specs.Tests.{in_table}
use Rattle.meaning.specs.Words.{word_at}
use Rattle.meaning.specs.Sheet.{Cells}
use Rattle.meaning.specs.Forest.{Tree, nil, cons, count, tree_form, forest_at, bool_kind}
use Rattle.meaning.specs.Laws.Rows.{LowRow, LowRows, SameRows, tree_same, forest_at_zero, forest_at_suc}
use Rattle.meaning.specs.Laws.Shaped.{cells}
use Rattle.meaning.specs.Theorems.ReadBack.{lent_row}
use Rattle.words.specs.Puts.{put_word}
use Rattle.walk.specs.Meets.{low_same, forest_kept}
use Rattle.sheet.specs.Laid.{Words, outside_high}
use Rattle.sheet.specs.Forms.{tree_said}
use Rattle.sheet.specs.declared.forms.Tree.{Tree as Said}
use Rattle.forest_rows.specs.Rows.{Pushed}

-- ---- words

pub put_same : (b : List ℕ) (i v : ℕ) → 2 * i + 1 < length b → v < 65536 → word_at (put_word b i v) i ≡ v
put_same b i v h small =
    let low : get_or (put_word b i v) (2 * i) 0 ≡ v % 256 = get_or-set_other (set b (2 * i) (v % 256)) (2 * i + 1) (2 * i) (v / 256 % 256) 0 (λ e. omega arith)
    ∙ get_or-set_same b (2 * i) (v % 256) 0 (omega arith) in
    let high : get_or (put_word b i v) (2 * i + 1) 0 ≡ v / 256 % 256 = get_or-set_same (set b (2 * i) (v % 256)) (2 * i + 1) (v / 256 % 256) 0 (omega (arith, length-set b (2 * i) (v % 256))) in
    omega arith

pub put_other : (b : List ℕ) (i j v : ℕ) → (i ≡ j → ⊥) → word_at (put_word b i v) j ≡ word_at b j
put_other b i j v h =
    let at : (k : ℕ) → (k ≡ 2 * i → ⊥) → (k ≡ 2 * i + 1 → ⊥) → get_or (put_word b i v) k 0 ≡ get_or b k 0 = λ k x y. get_or-set_other (set b (2 * i) (v % 256)) (2 * i + 1) k (v / 256 % 256) 0 y
    ∙ get_or-set_other b (2 * i) k (v % 256) 0 x in
    let low = at (2 * j) (λ e. h (omega arith)) (λ e. omega arith) in
    let high = at (2 * j + 1) (λ e. omega arith) (λ e. h (omega arith)) in
    omega arith

pub put_length : (b : List ℕ) (i v : ℕ) → length (put_word b i v) ≡ length b
put_length b i v = length-set (set b (2 * i) (v % 256)) (2 * i + 1) (v / 256 % 256) ∙ length-set b (2 * i) (v % 256)

-- ---- a row written

pub cells_eq : {k k' p p' q q' x x' : ℕ} → k ≡ k' → p ≡ p' → q ≡ q' → x ≡ x' → cells k p q x ≡ cells k' p' q' x'
cells_eq a b c d = rw (a, b, c, d)

-- row n + 1: four words from 4 n on
abbrev pub wrote : List ℕ → ℕ → Cells → List ℕ
wrote s n c = put_word (put_word (put_word (put_word s (4 * n) c.kind) (4 * n + 1) c.p) (4 * n + 2) c.q) (4 * n + 3) c.r

pub written : (s : List ℕ) (n : ℕ) (c : Cells) → 8 * (n + 1) ≤ length s → Words c → Pushed s (wrote s n c) n c
written s n c h w =
    let s1 = put_word s (4 * n) c.kind in
    let s2 = put_word s1 (4 * n + 1) c.p in
    let s3 = put_word s2 (4 * n + 2) c.q in
    let l1 = put_length s (4 * n) c.kind in
    let l2 = put_length s1 (4 * n + 1) c.p in
    let l3 = put_length s2 (4 * n + 2) c.q in
    let others : (j : ℕ) → (4 * n ≡ j → ⊥) → (4 * n + 1 ≡ j → ⊥) → (4 * n + 2 ≡ j → ⊥) → (4 * n + 3 ≡ j → ⊥) → word_at s j ≡ word_at (wrote s n c) j =
    λ j a b d e. sym (put_other s3 (4 * n + 3) j c.r e ∙ put_other s2 (4 * n + 2) j c.q d ∙ put_other s1 (4 * n + 1) j c.p b ∙ put_other s (4 * n) j c.kind a) in
    let apart : (r j : ℕ) → (r ≡ n + 1 → ⊥) → 1 ≤ r → j < 4 → word_at s (4 * (r - 1) + j) ≡ word_at (wrote s n c) (4 * (r - 1) + j) =
    λ r j a b d. others (4 * (r - 1) + j) (λ e. a (omega arith)) (λ e. a (omega arith)) (λ e. a (omega arith)) (λ e. a (omega arith)) in
    let row : (r : ℕ) → (r ≡ n + 1 → ⊥) → 1 ≤ r → lent_row s r ≡ lent_row (wrote s n c) r =
    λ r a b.
    let z : 4 * (r - 1) + 0 ≡ 4 * (r - 1) = omega arith in
    cells_eq (subst (λ (i : ℕ). word_at s i ≡ word_at (wrote s n c) i) z (apart r 0 a b (omega arith))) (apart r 1 a b (omega arith)) (apart r 2 a b (omega arith)) (apart r 3 a b (omega arith)) in
    let at0 : 4 * (n + 1 - 1) ≡ 4 * n = omega arith in
    let w0 : word_at (wrote s n c) (4 * n) ≡ c.kind = put_other s3 (4 * n + 3) (4 * n) c.r (λ e. omega arith) ∙ put_other s2 (4 * n + 2) (4 * n) c.q (λ e. omega arith)
    ∙ put_other s1 (4 * n + 1) (4 * n) c.p (λ e. omega arith) ∙ put_same s (4 * n) c.kind (omega arith) w.kind in
    let w1 : word_at (wrote s n c) (4 * n + 1) ≡ c.p = put_other s3 (4 * n + 3) (4 * n + 1) c.r (λ e. omega arith) ∙ put_other s2 (4 * n + 2) (4 * n + 1) c.q (λ e. omega arith)
    ∙ put_same s1 (4 * n + 1) c.p (omega (arith, l1)) w.p in
    let w2 : word_at (wrote s n c) (4 * n + 2) ≡ c.q = put_other s3 (4 * n + 3) (4 * n + 2) c.r (λ e. omega arith) ∙ put_same s2 (4 * n + 2) c.q (omega (arith, l1, l2)) w.q in
    let w3 : word_at (wrote s n c) (4 * n + 3) ≡ c.r = put_same s3 (4 * n + 3) c.r (omega (arith, l1, l2, l3)) w.r in
    record {
      same = λ r i j. row r (λ e. omega arith) i;
      row = rw at0 (cells_eq w0 w1 w2 w3);
      above = λ r i. row r (λ e. omega arith) (omega arith);
    }

-- the same, a word at a time
pub written_by : (s : List ℕ) {s1 s2 s3 t : List ℕ} (n : ℕ) (c : Cells) → 8 * (n + 1) ≤ length s → Words c
    → s1 ≡ put_word s (4 * n) c.kind → s2 ≡ put_word s1 (4 * n + 1) c.p → s3 ≡ put_word s2 (4 * n + 2) c.q → t ≡ put_word s3 (4 * n + 3) c.r → Pushed s t n c
written_by s n c h w e1 e2 e3 e4 = rw (e4, e3, e2, e1) (written s n c h w)

-- ---- a row read

module _ (a : ℕ → Cells) (n r : ℕ) (c : Cells) (low : LowRows a n) (some : 0 < r) (within : r ≤ n) (is : c ≡ a r) where
  read_low : LowRow c r
  read_low = subst (λ (x : Cells). LowRow x r) (sym is) (low r some within)

  pub read_next : c.r < r
  read_next = read_low.next

  pub read_child : in_table 3 c.kind ≡ false → c.q < r
  read_child = read_low.child

forest_row : (byte : ℕ → ℕ) (a : ℕ → Cells) (n r : ℕ) → LowRows a n → 0 < r → r ≤ n → forest_at byte a r ≡ cons (tree_form byte (a r) (forest_at byte a (a r).q)) (forest_at byte a (a r).r)
forest_row byte a n zero low some within = absurd (omega arith)
forest_row byte a n (suc r) low some within = forest_at_suc byte a r (λ i p q. low i p (omega arith))

module _ (byte : ℕ → ℕ) (a : ℕ → Cells) (n r : ℕ) (c : Cells) (low : LowRows a n) (some : 0 < r) (within : r ≤ n) (is : c ≡ a r) where
  pub read_forest : forest_at byte a r ≡ cons (tree_form byte c (forest_at byte a c.q)) (forest_at byte a c.r)
  read_forest = rw is (forest_row byte a n r low some within)

  pub read_count : count (forest_at byte a r) ≡ suc (count (forest_at byte a c.r))
  unfolding count
  read_count = ap count read_forest

-- row 0 is the empty forest
pub forest_none : (byte : ℕ → ℕ) (a : ℕ → Cells) (r : ℕ) → r ≡ 0 → forest_at byte a r ≡ nil
forest_none byte a r e = ap (forest_at byte a) e ∙ forest_at_zero byte a

pub count_none : (byte : ℕ → ℕ) (a : ℕ → Cells) (r : ℕ) → r ≡ 0 → count (forest_at byte a r) ≡ 0
unfolding count
count_none byte a r e = ap count (forest_none byte a r e)

-- ---- rows with one more

module _ (a b : ℕ → Cells) (n : ℕ) (c : Cells) (low : LowRows a n) (same : SameRows a b n) (is : b (n + 1) ≡ c) (lower : LowRow c (n + 1)) where
  pub push_low : LowRows b (n + 1)
  push_low r i j = elim (dec_le r n) [ yes h ↦ low_same n a b low same r i h | no h ↦ top r j (omega arith) ]
    where
      top : (r : ℕ) → r ≤ n + 1 → n < r → LowRow (b r) r
      top r j h =
          let e : n + 1 ≡ r = omega arith in
          subst (λ (x : ℕ). LowRow (b x) x) e (subst (λ (x : Cells). LowRow x (n + 1)) (sym is) lower)

  pub push_forest : (byte : ℕ → ℕ) → forest_at byte b (n + 1) ≡ cons (tree_form byte c (forest_at byte a c.q)) (forest_at byte a c.r)
  push_forest byte =
      let e = read_forest byte b (n + 1) (n + 1) c push_low (omega arith) (omega arith) (sym is) in
      let next = lower.next in
      let tree = tree_same byte c (forest_at byte b c.q) (forest_at byte a c.q) (λ h. let child = lower.child h in forest_kept byte n a b c.q low same (omega arith)) in
      let rest = forest_kept byte n a b c.r low same (omega arith) in
      e ∙ ap (λ (t : Tree). cons t (forest_at byte b c.r)) tree ∙ ap (cons (tree_form byte c (forest_at byte a c.q))) rest

-- ---- what a row's tree says of its kind

bool_eq : {a b : Bool} → Said.Bool a ≡ Said.Bool b → a ≡ b
bool_eq e = cc

module _ (c : Cells) where
  said : ℕ → Said
  said k = get_or (Said.Node c.p c.q ∷ Said.Text c.p c.q ∷ Said.Bool false ∷ Said.Bool true ∷ []) k (Said.Node c.p c.q)

  node_by : (k : ℕ) {l q : ℕ} → Said.Node l q ≡ said k → (in_table 3 k ≡ false) × (l ≡ c.p) × (q ≡ c.q)
  unfolding said
  node_by zero e = (refl, cc, cc)
  node_by (suc zero) e = cc
  node_by (suc (suc zero)) e = cc
  node_by (suc (suc (suc zero))) e = cc
  node_by (suc (suc (suc (suc k)))) e = (outside_high 3 (suc (suc (suc (suc k)))) (omega arith), cc, cc)

  text_by : (k : ℕ) {o n : ℕ} → Said.Text o n ≡ said k → (k ≡ 1) × (o ≡ c.p) × (n ≡ c.q)
  unfolding said
  text_by zero e = cc
  text_by (suc zero) e = (refl, cc, cc)
  text_by (suc (suc zero)) e = cc
  text_by (suc (suc (suc zero))) e = cc
  text_by (suc (suc (suc (suc k)))) e = cc

  bool_by : (k : ℕ) {b : Bool} → Said.Bool b ≡ said k → k ≡ bool_kind b
  unfolding said
  bool_by zero e = cc
  bool_by (suc zero) e = cc
  bool_by (suc (suc zero)) e = sym (ap bool_kind (bool_eq e))
  bool_by (suc (suc (suc zero))) e = sym (ap bool_kind (bool_eq e))
  bool_by (suc (suc (suc (suc k)))) e = cc

  leaf_by : (k : ℕ) → ((l q : ℕ) → said k ≡ Said.Node l q → ⊥) → in_table 3 k ≡ true
  unfolding said
  leaf_by zero h = absurd (h c.p c.q refl)
  leaf_by (suc zero) h = refl
  leaf_by (suc (suc zero)) h = refl
  leaf_by (suc (suc (suc zero))) h = refl
  leaf_by (suc (suc (suc (suc k)))) h = absurd (h c.p c.q refl)

  pub said_node : {l q : ℕ} → Said.Node l q ≡ tree_said c → (in_table 3 c.kind ≡ false) × (l ≡ c.p) × (q ≡ c.q)
  unfolding said
  said_node e = node_by c.kind e

  pub said_text : {o n : ℕ} → Said.Text o n ≡ tree_said c → (c.kind ≡ 1) × (o ≡ c.p) × (n ≡ c.q)
  unfolding said
  said_text e = text_by c.kind e

  pub said_bool : {b : Bool} → Said.Bool b ≡ tree_said c → c.kind ≡ bool_kind b
  unfolding said
  said_bool e = bool_by c.kind e

  pub said_leaf : ((l q : ℕ) → tree_said c ≡ Said.Node l q → ⊥) → in_table 3 c.kind ≡ true
  unfolding said
  said_leaf h = leaf_by c.kind h
