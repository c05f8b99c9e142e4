-- The sum of a forest, where trees of kind k are wanted: such a tree counts 1, any other tree 2, and 2 is as far as it counts. So the forests of () are those of sum 0, and the forests of text and
-- bool, each for its own kind, those of sum 1.
-- The sum of a type is that of its forests where they all have one, and else 2. It goes by the sums of the parts: over names that are not barren each part has a forest.
use Prim.Native.Nat.{ℕ, ◌+◌, ◌≤◌, min, max}
use Rattle.std.specs.Prelude.{◌≡◌, Bool, true, false, cond, ◌↔◌, eqb}
use Rattle.std.proofs.Math.Path.{refl}
use Rattle.std.proofs.Common.{sym, ◌∙◌, eq-eqb, ne_eqb}
use mathlib.Core.List.{[]}
use Rattle.std.proofs.Math.Decide.{ℕ_discrete, dec_le}
use native.Mathlib.Omega.{arith}
use Rattle.meaning.specs.Forest.{Text, Tree, Forest, nil, cons, ◌⊕◌}
use Rattle.meaning.specs.Types.{Ty, Named, Of, of_empty, of_text, of_bool, of_label, of_seq, of_left, of_right, of_none, of_more, of_name, Within, Fertile}
use Rattle.meaning.specs.Laws.Barren.{Over, forest_over}
use Rattle.within.specs.declared.PlainType.{PlainType}
use Rattle.within.specs.Answers.{plain_ty, plain_kind}

-- ---- sums

-- of one forest and another: a + b, or 2 if that is more
abbrev pub both : ℕ → ℕ → ℕ
both a b = min (a + b) 2

-- of one type or another: what both are, or 2 if they differ
abbrev pub alike : ℕ → ℕ → ℕ
alike a b = cond (eqb a b) a 2

-- of a tree of kind j, where k is wanted
abbrev pub one : ℕ → ℕ → ℕ
one j k = cond (eqb j k) 1 2

unfoldable pub tree_sum : ℕ → Tree → ℕ
tree_sum k (Tree.text w) = one 2 k
tree_sum k (Tree.bool b) = one 3 k
tree_sum k (Tree.node n f) = 2

unfoldable pub forest_sum : ℕ → Forest → ℕ
forest_sum k nil = 0
forest_sum k (cons t f) = both (tree_sum k t) (forest_sum k f)

-- a star: none, or two
unfoldable pub sum_of : ℕ → Ty → ℕ
sum_of k Ty.empty = 0
sum_of k Ty.text = one 2 k
sum_of k Ty.bool = one 3 k
sum_of k (Ty.label n τ) = 2
sum_of k (Ty.seq τ σ) = both (sum_of k τ) (sum_of k σ)
sum_of k (Ty.choice τ σ) = alike (sum_of k τ) (sum_of k σ)
sum_of k (Ty.star τ) = both (sum_of k τ) (sum_of k τ)
sum_of k (Ty.name x) = 2

one_few : (j k : ℕ) → (1 ≤ one j k) × (one j k ≤ 2)
one_few j k = go (eqb j k)
  where
    go : (t : Bool) → (1 ≤ cond t 1 2) × (cond t 1 2 ≤ 2)
    go true = (omega arith, omega arith)
    go false = (omega arith, omega arith)

tree_few : (k : ℕ) (t : Tree) → (1 ≤ tree_sum k t) × (tree_sum k t ≤ 2)
unfolding tree_sum
tree_few k (Tree.text w) = one_few 2 k
tree_few k (Tree.bool b) = one_few 3 k
tree_few k (Tree.node n f) = (omega arith, omega arith)

forest_few : (k : ℕ) (f : Forest) → forest_sum k f ≤ 2
unfolding forest_sum
forest_few k nil = omega arith
forest_few k (cons t f) = omega arith

pub sum_few : (k : ℕ) (τ : Ty) → sum_of k τ ≤ 2
unfolding sum_of
sum_few k Ty.empty = omega arith
sum_few k Ty.text = (one_few 2 k).1
sum_few k Ty.bool = (one_few 3 k).1
sum_few k (Ty.label n τ) = omega arith
sum_few k (Ty.seq τ σ) = omega arith
sum_few k (Ty.choice τ σ) = go (eqb (sum_of k τ) (sum_of k σ)) (sum_few k τ)
  where
    go : (t : Bool) → sum_of k τ ≤ 2 → cond t (sum_of k τ) 2 ≤ 2
    go true h = h
    go false h = omega arith
sum_few k (Ty.star τ) = omega arith
sum_few k (Ty.name x) = omega arith

join_sum : (k : ℕ) (f g : Forest) → forest_sum k (f ⊕ g) ≡ both (forest_sum k f) (forest_sum k g)
unfolding forest_sum ◌⊕◌
join_sum k nil g = omega (arith, forest_few k g)
join_sum k (cons t f) g = omega (arith, join_sum k f g)

-- ---- one sum where the two ends are equal, else 2

alike_same : (a b : ℕ) → a ≡ b → alike a b ≡ a
alike_same a b e = rw (eq-eqb a b e)

alike_apart : (a b : ℕ) → (a ≡ b → ⊥) → alike a b ≡ 2
alike_apart a b h = rw (ne_eqb a b h)

alike_two : (a b : ℕ) → (a ≡ b → a ≡ 2) → alike a b ≡ 2
alike_two a b h = elim (ℕ_discrete a b) [ yes e ↦ alike_same a b e ∙ h e | no e ↦ alike_apart a b e ]

alike_low : (a b n : ℕ) → n ≤ 1 → alike a b ≡ n → (a ≡ n) × (b ≡ n)
alike_low a b n l z = elim (ℕ_discrete a b) [
  | yes e ↦ (let y = alike_same a b e in (omega arith, omega arith))
  | no e ↦ absurd (omega (arith, alike_apart a b e))
]

-- the ends of a star, a sequence and a choice, from those of its parts
module _ (a b : ℕ) (l : a ≤ b) (h : b ≤ 2) where
  alike_star : both (alike a b) (alike a b) ≡ alike 0 (both b b)
  alike_star = elim (ℕ_discrete b 0) [
    | yes e ↦ (let z : a ≡ 0 = omega arith in rw (z, e))
    | no e ↦ elim (ℕ_discrete a b) [
      | yes f ↦ rw (alike_same a b f, alike_apart 0 (both b b) (λ z. omega arith)) (omega arith)
      | no f ↦ rw (alike_apart a b f, alike_apart 0 (both b b) (λ z. omega arith))
    ]
  ]

  module _ (c d : ℕ) (m : c ≤ d) (i : d ≤ 2) where
    alike_seq : both (alike a b) (alike c d) ≡ alike (both a c) (both b d)
    alike_seq = elim (ℕ_discrete a b) [
      | yes e ↦ elim (ℕ_discrete c d) [
        | yes f ↦ rw (alike_same a b e, alike_same c d f, alike_same (both a c) (both b d) (omega arith))
        | no f ↦ (let x = alike_apart c d f in let y = alike_two (both a c) (both b d) (λ z. omega arith) in omega arith)
      ]
      | no e ↦ (let x = alike_apart a b e in let y = alike_two (both a c) (both b d) (λ z. omega arith) in omega arith)
    ]

    alike_choice : alike (alike a b) (alike c d) ≡ alike (min a c) (max b d)
    alike_choice = elim (ℕ_discrete a b) [
      | yes e ↦ elim (ℕ_discrete c d) [
        | yes f ↦ elim (ℕ_discrete a c) [
          | yes g ↦ rw (alike_same a b e, alike_same c d f, alike_same a c g, alike_same (min a c) (max b d) (omega arith)) (omega arith)
          | no g ↦ rw (alike_same a b e, alike_same c d f, alike_apart a c g, alike_apart (min a c) (max b d) (λ z. omega arith))
        ]
        | no f ↦ rw (alike_apart c d f, alike_apart (min a c) (max b d) (λ z. omega arith)) (alike_two (alike a b) 2 (λ z. z))
      ]
      | no e ↦ rw (alike_apart a b e, alike_apart (min a c) (max b d) (λ z. omega arith)) (alike_two 2 (alike c d) (λ z. refl))
    ]

-- ---- the sums of the forests of a type

module _ (names : ℕ → Named) (k : ℕ) where
  -- the lowest and the highest of them; where they are equal, the type's
  pub record Spans (τ : Ty) : Type 0 where
    pub low : ℕ
    pub high : ℕ
    pub each : (f : Forest) → Of names τ f → (low ≤ forest_sum k f) × (forest_sum k f ≤ high)
    pub least : (f : Forest) × Of names τ f × (forest_sum k f ≡ low)
    pub most : (f : Forest) × Of names τ f × (forest_sum k f ≡ high)
    pub is : sum_of k τ ≡ alike low high

  order : {τ : Ty} (a : Spans τ) → (a.low ≤ a.high) × (a.high ≤ 2)
  order a = (omega (arith, a.each a.least.0 a.least.1, a.least.2), omega (arith, a.most.2, forest_few k a.most.0))

  -- all have one sum
  alone : {τ : Ty} {f : Forest} → Of names τ f → ((g : Forest) → Of names τ g → forest_sum k g ≡ sum_of k τ) → Spans τ
  alone {τ} {f} i h = record {
    low = sum_of k τ;
    high = sum_of k τ;
    each = λ g j. let z = h g j in (omega arith, omega arith);
    least = (f, i, h f i);
    most = (f, i, h f i);
    is = sym (alike_same (sum_of k τ) (sum_of k τ) refl);
  }

  empty_spans : Spans Ty.empty
  unfolding sum_of forest_sum
  empty_spans = alone of_empty (λ g j. go j)
    where
      go : {g : Forest} → Of names Ty.empty g → forest_sum k g ≡ 0
      go of_empty = refl

  text_spans : Spans Ty.text
  unfolding sum_of forest_sum tree_sum
  text_spans = alone (of_text {w = record { offset = 0; size = 0; bytes = [] }}) (λ g j. go j)
    where
      go : {g : Forest} → Of names Ty.text g → forest_sum k g ≡ one 2 k
      go of_text = omega (arith, one_few 2 k)

  bool_spans : Spans Ty.bool
  unfolding sum_of forest_sum tree_sum
  bool_spans = alone (of_bool {b = true}) (λ g j. go j)
    where
      go : {g : Forest} → Of names Ty.bool g → forest_sum k g ≡ one 3 k
      go of_bool = omega (arith, one_few 3 k)

  label_spans : (n : ℕ) {τ : Ty} {f : Forest} → Of names τ f → Spans (Ty.label n τ)
  unfolding sum_of forest_sum tree_sum
  label_spans n {τ} i = alone (of_label {n = n} i) (λ g j. go j)
    where
      go : {g : Forest} → Of names (Ty.label n τ) g → forest_sum k g ≡ 2
      go (of_label j) = refl

  name_spans : (x : ℕ) → Fertile names x → Spans (Ty.name x)
  unfolding sum_of forest_sum tree_sum
  name_spans x h = alone h.1 (λ g j. go j)
    where
      go : {g : Forest} → Of names (Ty.name x) g → forest_sum k g ≡ 2
      go (of_name (of_label j)) = refl

  seq_spans : {τ σ : Ty} → Spans τ → Spans σ → Spans (Ty.seq τ σ)
  unfolding sum_of
  seq_spans {τ} {σ} a b = record {
    low = both a.low b.low;
    high = both a.high b.high;
    each = λ f i. go i;
    least = (a.least.0 ⊕ b.least.0, of_seq a.least.1 b.least.1, join_sum k a.least.0 b.least.0 ∙ rw (a.least.2, b.least.2));
    most = (a.most.0 ⊕ b.most.0, of_seq a.most.1 b.most.1, join_sum k a.most.0 b.most.0 ∙ rw (a.most.2, b.most.2));
    is = rw (a.is, b.is) (alike_seq a.low a.high (order a).0 (order a).1 b.low b.high (order b).0 (order b).1);
  }
    where
      go : {f : Forest} → Of names (Ty.seq τ σ) f → (both a.low b.low ≤ forest_sum k f) × (forest_sum k f ≤ both a.high b.high)
      go (of_seq {f = f} {g = g} i j) = let x = a.each f i in let y = b.each g j in let z = join_sum k f g in (omega arith, omega arith)

  choice_spans : {τ σ : Ty} → Spans τ → Spans σ → Spans (Ty.choice τ σ)
  unfolding sum_of
  choice_spans {τ} {σ} a b = record {
    low = min a.low b.low;
    high = max a.high b.high;
    each = λ f i. go i;
    least = elim (dec_le a.low b.low) [
      | yes l ↦ (a.least.0, of_left a.least.1, omega (arith, a.least.2))
      | no l ↦ (b.least.0, of_right b.least.1, omega (arith, b.least.2))
    ];
    most = elim (dec_le a.high b.high) [
      | yes l ↦ (b.most.0, of_right b.most.1, omega (arith, b.most.2))
      | no l ↦ (a.most.0, of_left a.most.1, omega (arith, a.most.2))
    ];
    is = rw (a.is, b.is) (alike_choice a.low a.high (order a).0 (order a).1 b.low b.high (order b).0 (order b).1);
  }
    where
      go : {f : Forest} → Of names (Ty.choice τ σ) f → (min a.low b.low ≤ forest_sum k f) × (forest_sum k f ≤ max a.high b.high)
      go (of_left {f = f} i) = let x = a.each f i in (omega arith, omega arith)
      go (of_right {f = f} i) = let x = b.each f i in (omega arith, omega arith)

  star_high : {τ : Ty} (a : Spans τ) {f : Forest} → Of names (Ty.star τ) f → forest_sum k f ≤ both a.high a.high
  unfolding forest_sum
  star_high a of_none = omega arith
  star_high a (of_more {f = f} {g = g} i j) = omega (arith, (a.each f i).1, star_high a j, join_sum k f g)

  star_spans : {τ : Ty} → Spans τ → Spans (Ty.star τ)
  unfolding sum_of forest_sum
  star_spans {τ} a = let f = a.most.0 in record {
    low = 0;
    high = both a.high a.high;
    each = λ g i. (omega arith, star_high a i);
    least = (nil, of_none, refl);
    most = (f ⊕ (f ⊕ nil), of_more a.most.1 (of_more a.most.1 of_none), omega (arith, join_sum k f (f ⊕ nil), join_sum k f nil, a.most.2, order a));
    is = rw a.is (alike_star a.low a.high (order a).0 (order a).1);
  }

  spans : (τ : Ty) → Over (Fertile names) τ → Spans τ
  unfolding Over
  spans Ty.empty h = empty_spans
  spans Ty.text h = text_spans
  spans Ty.bool h = bool_spans
  spans (Ty.label n τ) h = label_spans n (forest_over names τ h).1
  spans (Ty.seq τ σ) h = seq_spans (spans τ h.0) (spans σ h.1)
  spans (Ty.choice τ σ) h = choice_spans (spans τ h.0) (spans σ h.1)
  spans (Ty.star τ) h = star_spans (spans τ h)
  spans (Ty.name x) h = name_spans x h

  -- in a type whose forests are those of sum n, 0 or 1
  within_sum : {τ σ : Ty} {n : ℕ} → Spans τ → n ≤ 1 → ((f : Forest) → Of names σ f ↔ (forest_sum k f ≡ n)) → Within names τ σ ↔ (sum_of k τ ≡ n)
  within_sum {n = n} a l h = (
    λ w. (let x = (h a.least.0).0 (w a.least.0 a.least.1) in let y = (h a.most.0).0 (w a.most.0 a.most.1) in
        a.is ∙ alike_same a.low a.high (omega (arith, a.least.2, a.most.2)) ∙ omega (arith, a.least.2)),
    λ z f i. (let e = alike_low a.low a.high n l (sym a.is ∙ z) in (h f).1 (omega (arith, e, a.each f i))),
  )

-- ---- the forests of (), text and bool

-- the sum of each of them
abbrev pub plain_sum : ℕ → ℕ
plain_sum k = cond (eqb k 1) 0 1

-- where it is 1, the first tree counts 1, and there is no other
one_tree : (k : ℕ) (t : Tree) (f : Forest) → forest_sum k (cons t f) ≡ 1 → (tree_sum k t ≡ 1) × (f ≡ nil)
unfolding forest_sum
one_tree k t nil e = (omega (arith, e, tree_few k t), refl)
one_tree k t (cons u f) e = absurd (omega (arith, e, tree_few k t, tree_few k u))

text_tree : (t : Tree) → tree_sum 2 t ≡ 1 → (w : Text) × (t ≡ Tree.text w)
unfolding tree_sum
text_tree (Tree.text w) e = (w, refl)
text_tree (Tree.bool b) e = absurd (omega (arith, e))
text_tree (Tree.node n f) e = absurd (omega (arith, e))

bool_tree : (t : Tree) → tree_sum 3 t ≡ 1 → (b : Bool) × (t ≡ Tree.bool b)
unfolding tree_sum
bool_tree (Tree.text w) e = absurd (omega (arith, e))
bool_tree (Tree.bool b) e = (b, refl)
bool_tree (Tree.node n f) e = absurd (omega (arith, e))

module _ (names : ℕ → Named) where
  empty_forests : (f : Forest) → Of names Ty.empty f ↔ (forest_sum 1 f ≡ 0)
  unfolding forest_sum
  empty_forests f = (go, back f)
    where
      go : {f : Forest} → Of names Ty.empty f → forest_sum 1 f ≡ 0
      go of_empty = refl

      back : (f : Forest) → forest_sum 1 f ≡ 0 → Of names Ty.empty f
      back nil e = of_empty
      back (cons t f) e = absurd (omega (arith, e, tree_few 1 t))

  text_forests : (f : Forest) → Of names Ty.text f ↔ (forest_sum 2 f ≡ 1)
  unfolding forest_sum tree_sum
  text_forests f = (go, back f)
    where
      go : {f : Forest} → Of names Ty.text f → forest_sum 2 f ≡ 1
      go of_text = refl

      back : (f : Forest) → forest_sum 2 f ≡ 1 → Of names Ty.text f
      back nil e = absurd (omega (arith, e))
      back (cons t f) e = let z = one_tree 2 t f e in let y = text_tree t z.0 in rw (z.1, y.1) of_text

  bool_forests : (f : Forest) → Of names Ty.bool f ↔ (forest_sum 3 f ≡ 1)
  unfolding forest_sum tree_sum
  bool_forests f = (go, back f)
    where
      go : {f : Forest} → Of names Ty.bool f → forest_sum 3 f ≡ 1
      go of_bool = refl

      back : (f : Forest) → forest_sum 3 f ≡ 1 → Of names Ty.bool f
      back nil e = absurd (omega (arith, e))
      back (cons t f) e = let z = one_tree 3 t f e in let y = bool_tree t z.0 in rw (z.1, y.1) of_bool

  -- within (), text or bool exactly if the sum is theirs
  pub plain_sum_lem : (p : PlainType) (τ : Ty) → Over (Fertile names) τ → Within names τ (plain_ty p) ↔ (sum_of (plain_kind p) τ ≡ plain_sum (plain_kind p))
  plain_sum_lem PlainType.Empty τ o = within_sum names 1 (spans names 1 τ o) (omega arith) empty_forests
  plain_sum_lem PlainType.Text τ o = within_sum names 2 (spans names 2 τ o) (omega arith) text_forests
  plain_sum_lem PlainType.Bool τ o = within_sum names 3 (spans names 3 τ o) (omega arith) bool_forests
