-- A marking of the names that is closed, and whose marks are all earned, marks exactly the names that are not barren: by induction on what is of a type.
-- A round of marking that adds no mark leaves it closed; and where as many are marked as there are names, all are.
use Prim.Native.Nat.{ℕ, zero, suc, ◌≤◌, ◌<◌}
use Rattle.std.specs.Prelude.{◌≡◌, Bool, true, false, ◌&&◌, ◌||◌, cond, ◌⊎◌, ◌↔◌}
use Rattle.std.proofs.Math.Path.{refl}
use mathlib.Core.List.{List, []}
use Rattle.std.proofs.Math.Logic.{inl, inr}
use Rattle.std.proofs.Common.{eq-or-lt_of_le}
use native.Mathlib.Omega.{arith}
use Rattle.meaning.specs.Tests.{total, in_table}
use Rattle.meaning.specs.Sheet.{Cells, script_of}
use Rattle.meaning.specs.Kinds.{TypeRow, type_form}
use Rattle.meaning.specs.Forest.{Tree, Forest, nil, only, ◌⊕◌}
use Rattle.meaning.specs.Types.{Ty, Named, ty_form, ty, ty_at, declared, names_in, Of, of_empty, of_text, of_bool, of_label, of_seq, of_left, of_right, of_none, of_more, of_name, Barren, Fertile}
use Rattle.meaning.specs.Shape.{shapely}
use Rattle.meaning.specs.Laws.Bools.{or_left, or_right, or_cases, and_left, and_right, and_both, either, not_both}
use Rattle.meaning.specs.Laws.Tests.{table_low, table_high}
use Rattle.meaning.specs.Laws.Shaped.{name_row_lem}
use Rattle.meaning.specs.Laws.Apart.{View, v_none, v_empty, v_text, v_bool, v_label, v_seq, v_choice, v_star, v_name, view}

-- a type has a forest, by the marks of its names
unfoldable pub fills : (ℕ → Bool) → Ty → Bool
fills live Ty.empty = true
fills live Ty.text = true
fills live Ty.bool = true
fills live (Ty.label n τ) = fills live τ
fills live (Ty.seq τ σ) = fills live τ && fills live σ
fills live (Ty.choice τ σ) = fills live τ || fills live σ
fills live (Ty.star τ) = true
fills live (Ty.name x) = live x

-- each name that occurs in a type has P
unfoldable pub Over : (ℕ → Type 0) → Ty → Type 0
Over P Ty.empty = Unit {0}
Over P Ty.text = Unit {0}
Over P Ty.bool = Unit {0}
Over P (Ty.label n τ) = Over P τ
Over P (Ty.seq τ σ) = Over P τ × Over P σ
Over P (Ty.choice τ σ) = Over P τ × Over P σ
Over P (Ty.star τ) = Over P τ
Over P (Ty.name x) = P x

pub over_map : (P Q : ℕ → Type 0) → ((x : ℕ) → P x → Q x) → (τ : Ty) → Over P τ → Over Q τ
unfolding Over
over_map P Q g Ty.empty h = tt
over_map P Q g Ty.text h = tt
over_map P Q g Ty.bool h = tt
over_map P Q g (Ty.label n τ) h = over_map P Q g τ h
over_map P Q g (Ty.seq τ σ) h = (over_map P Q g τ h.0, over_map P Q g σ h.1)
over_map P Q g (Ty.choice τ σ) h = (over_map P Q g τ h.0, over_map P Q g σ h.1)
over_map P Q g (Ty.star τ) h = over_map P Q g τ h
over_map P Q g (Ty.name x) h = g x h

-- ---- how many of the names 1 to n are marked

abbrev pub marks : (ℕ → Bool) → ℕ → ℕ
marks live n = total (λ x. cond (live x) 1 0) n

one_most : (b : Bool) → cond b 1 0 ≤ 1
one_most true = omega arith
one_most false = omega arith

one_keeps : (a b : Bool) → (a ≡ true → b ≡ true) → cond a 1 0 ≤ cond b 1 0
one_keeps true b h = rw (h refl) (omega arith)
one_keeps false b h = omega arith

pub marks_none : (live : ℕ → Bool) → ((x : ℕ) → live x ≡ false) → (n : ℕ) → marks live n ≡ 0
unfolding total
marks_none live h zero = refl
marks_none live h (suc n) = rw (marks_none live h n, h (suc n))

pub marks_most : (live : ℕ → Bool) (n : ℕ) → marks live n ≤ n
unfolding total
marks_most live zero = omega arith
marks_most live (suc n) = omega (arith, marks_most live n, one_most (live (suc n)))

pub marks_all : (live : ℕ → Bool) (n : ℕ) → n ≤ marks live n → (x : ℕ) → 1 ≤ x → x ≤ n → live x ≡ true
unfolding total
marks_all live zero h x p q = absurd (omega arith)
marks_all live (suc n) h x p q = go (either (live (suc n))) (λ g l. marks_all live n g x p l)
  where
    go : (live (suc n) ≡ true) ⊎ (live (suc n) ≡ false) → (n ≤ marks live n → x ≤ n → live x ≡ true) → live x ≡ true
    go (inl e) k = elim (eq-or-lt_of_le q) [
      | inl u ↦ rw u e
      | inr u ↦ k (let g = rw e at h in omega arith) (omega arith)
    ]
    go (inr e) k = let g = rw e at h in absurd (omega (arith, marks_most live n))

module _ (live next : ℕ → Bool) (keeps : (x : ℕ) → live x ≡ true → next x ≡ true) where
  pub marks_keep : (n : ℕ) → marks live n ≤ marks next n
  unfolding total
  marks_keep zero = omega arith
  marks_keep (suc n) = omega (arith, marks_keep n, one_keeps (live (suc n)) (next (suc n)) (keeps (suc n)))

  marks_more : (n x : ℕ) → 1 ≤ x → x ≤ n → live x ≡ false → next x ≡ true → marks live n < marks next n
  unfolding total
  marks_more zero x p q e f = absurd (omega arith)
  marks_more (suc n) x p q e f = elim (eq-or-lt_of_le q) [
    | inl h ↦ rw (rw h at e, rw h at f) (omega (arith, marks_keep n))
    | inr h ↦ omega (arith, marks_more n x p (omega arith) e f, one_keeps (live (suc n)) (next (suc n)) (keeps (suc n)))
  ]

-- x is one of the names 1 to n
abbrev pub Name : ℕ → ℕ → Type 0
Name n x = in_table n x ≡ true

module _ (names : ℕ → Named) where
  -- over names that are not barren every type has a forest
  pub forest_over : (τ : Ty) → Over (Fertile names) τ → (f : Forest) × Of names τ f
  unfolding Over
  forest_over Ty.empty h = (nil, of_empty)
  forest_over Ty.text h = (only (Tree.text (record { offset = 0; size = 0; bytes = [] })), of_text)
  forest_over Ty.bool h = (only (Tree.bool true), of_bool)
  forest_over (Ty.label n τ) h = let x = forest_over τ h in (only (Tree.node n x.0), of_label x.1)
  forest_over (Ty.seq τ σ) h = let x = forest_over τ h.0 in let y = forest_over σ h.1 in (x.0 ⊕ y.0, of_seq x.1 y.1)
  forest_over (Ty.choice τ σ) h = let x = forest_over τ h.0 in (x.0, of_left x.1)
  forest_over (Ty.star τ) h = (nil, of_none)
  forest_over (Ty.name x) h = h

  -- each mark is earned: its name has a forest
  abbrev pub Earned : (ℕ → Bool) → Type 0
  Earned live = (x : ℕ) → live x ≡ true → Fertile names x

  pub fills_of : (live : ℕ → Bool) → Earned live → (τ : Ty) → fills live τ ≡ true → (f : Forest) × Of names τ f
  unfolding fills
  fills_of live c Ty.empty e = (nil, of_empty)
  fills_of live c Ty.text e = (only (Tree.text (record { offset = 0; size = 0; bytes = [] })), of_text)
  fills_of live c Ty.bool e = (only (Tree.bool true), of_bool)
  fills_of live c (Ty.label n τ) e = let x = fills_of live c τ e in (only (Tree.node n x.0), of_label x.1)
  fills_of live c (Ty.seq τ σ) e =
      let x = fills_of live c τ (and_left (fills live τ) (fills live σ) e) in
      let y = fills_of live c σ (and_right (fills live τ) (fills live σ) e) in
      (x.0 ⊕ y.0, of_seq x.1 y.1)
  fills_of live c (Ty.choice τ σ) e = elim (or_cases (fills live τ) (fills live σ) e) [
    | inl h ↦ (let x = fills_of live c τ h in (x.0, of_left x.1))
    | inr h ↦ (let x = fills_of live c σ h in (x.0, of_right x.1))
  ]
  fills_of live c (Ty.star τ) e = (nil, of_none)
  fills_of live c (Ty.name x) e = c x e

  -- a name whose content fills has a forest: its mark is earned
  pub content_fertile : (live : ℕ → Bool) → Earned live → (x : ℕ) → fills live (names x).content ≡ true → Fertile names x
  content_fertile live c x e = let y = fills_of live c (names x).content e in (only (Tree.node (names x).label y.0), of_name (of_label y.1))

  pub none_earned : Earned (λ x. false)
  none_earned x e = absurd (not_both {a = false} e refl)

  -- one mark more, for a name whose content fills
  pub mark_earned : (live next : ℕ → Bool) (x : ℕ) → Earned live → fills live (names x).content ≡ true
      → ((y : ℕ) → next y ≡ true → (y ≡ x) ⊎ (live y ≡ true)) → Earned next
  mark_earned live next x c e h y m = elim (h y m) [
    | inl q ↦ rw q (content_fertile live c x e)
    | inr q ↦ c y q
  ]

  -- ---- the names 1 to n, whose contents know no others
  module _ (n : ℕ) (known : (x : ℕ) → Name n x → Over (Name n) (names x).content) where
    -- a name whose content fills is marked
    abbrev pub Closed : (ℕ → Bool) → Type 0
    Closed live = (x : ℕ) → Name n x → fills live (names x).content ≡ true → live x ≡ true

    pub of_fills : (live : ℕ → Bool) → Closed live → {τ : Ty} {f : Forest} → Of names τ f → Over (Name n) τ → fills live τ ≡ true
    unfolding fills Over
    of_fills live c of_empty h = refl
    of_fills live c of_text h = refl
    of_fills live c of_bool h = refl
    of_fills live c (of_label i) h = of_fills live c i h
    of_fills live c (of_seq {τ = τ} {σ = σ} i j) h = and_both (fills live τ) (fills live σ) (of_fills live c i h.0) (of_fills live c j h.1)
    of_fills live c (of_left {σ = σ} i) h = or_left (fills live σ) (of_fills live c i h.0)
    of_fills live c (of_right {τ = τ} i) h = or_right (fills live τ) (of_fills live c i h.1)
    of_fills live c of_none h = refl
    of_fills live c (of_more i j) h = refl
    of_fills live c (of_name {x = x} i) h = c x h (of_fills live c i (known x h))

    -- a closed marking misses no name that has a forest
    pub fertile_marked : (live : ℕ → Bool) → Closed live → (x : ℕ) → Name n x → Fertile names x → live x ≡ true
    unfolding fills Over
    fertile_marked live c x h y = of_fills live c y.1 h

    -- closed and earned: the marks are exactly the names that have a forest
    pub marked_exactly : (live : ℕ → Bool) → Closed live → Earned live → (x : ℕ) → Name n x → (live x ≡ true) ↔ Fertile names x
    marked_exactly live c e x h = (e x, fertile_marked live c x h)

    -- so a name that it leaves unmarked is barren
    pub unmarked_barren : (live : ℕ → Bool) → Closed live → (x : ℕ) → Name n x → live x ≡ false → Barren names x
    unmarked_barren live c x h e f i = not_both (fertile_marked live c x h (f, i)) e

    -- ---- rounds

    -- a round keeps the marks and adds what can be added
    pub record Round (live next : ℕ → Bool) : Type 0 where
      pub keeps : (x : ℕ) → live x ≡ true → next x ≡ true
      pub adds : (x : ℕ) → Name n x → fills live (names x).content ≡ true → next x ≡ true

    -- a round that adds nothing was over a closed marking
    pub idle_closed : (live next : ℕ → Bool) → Round live next → ((x : ℕ) → Name n x → next x ≡ true → live x ≡ true) → Closed live
    idle_closed live next r idle x h e = idle x h (r.adds x h e)

    -- what is closed stays so: all that may be marked is
    pub still_closed : (live next : ℕ → Bool) → Round live next → Earned next → Closed live → Closed next
    still_closed live next r c k x h e = r.keeps x (fertile_marked live k x h (content_fertile next c x e))

    -- after a round that adds no mark, none can be added
    pub idle_round : (live next : ℕ → Bool) → Round live next → Earned next → marks next n ≤ marks live n → Closed next
    idle_round live next r c l = still_closed live next r c (idle_closed live next r (λ x h m. old x h m (either (live x))))
      where
        old : (x : ℕ) → Name n x → next x ≡ true → (live x ≡ true) ⊎ (live x ≡ false) → live x ≡ true
        old x h m (inl q) = q
        old x h m (inr q) = absurd (omega (arith, l, marks_more live next r.keeps n x (table_low n x h) (table_high n x h) q m))

-- ---- the types at the rows of a table

-- the names in the type at a row are named by rows of kind 8
pub over_rows : (row : ℕ → Cells) (P : ℕ → Type 0) → ((i : ℕ) → (row i).kind ≡ 8 → P (row i).p) → (k r : ℕ) → Over P (ty (λ i. type_form (row i)) k r)
unfolding ty ty_form Over
over_rows row P h zero r = tt
over_rows row P h (suc k) r = go (view (row r)) (over_rows row P h k)
  where
    go : {t : TypeRow} → View (row r) t → ((j : ℕ) → Over P (ty (λ i. type_form (row i)) k j)) → Over P (ty_form t (ty (λ i. type_form (row i)) k))
    go v_none ih = tt
    go v_empty ih = tt
    go (v_text e) ih = tt
    go (v_bool e) ih = tt
    go (v_label e) ih = ih (row r).q
    go (v_seq e) ih = (ih (row r).p, ih (row r).q)
    go (v_choice e) ih = (ih (row r).p, ih (row r).q)
    go (v_star e) ih = ih (row r).p
    go (v_name e) ih = h r e

-- the type at a row names names of the sheet only
pub declared_over : (s : List ℕ) → shapely s ≡ true → (r : ℕ) → Over (Name (script_of s).names) (declared (script_of s) r)
unfolding ty_at
declared_over s e r = over_rows (script_of s).type_row (Name (script_of s).names) (name_row_lem s e) r r

-- and so does the content of a name: what the laws of barren names ask
pub contents_over : (s : List ℕ) → shapely s ≡ true → (x : ℕ) → Name (script_of s).names x → Over (Name (script_of s).names) (names_in (script_of s) x).content
unfolding names_in
contents_over s e x h = declared_over s e ((script_of s).type_row ((script_of s).name_row x)).q
