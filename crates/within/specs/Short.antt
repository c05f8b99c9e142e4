-- A declared type is never Wide: its rows written out are rows of the sheet, none of them twice. And () lies in it exactly if End stands where it begins.
use Prim.Native.Nat.{ℕ, zero, suc, ◌+◌, ◌*◌, ◌-◌, ◌≤◌}
use Rattle.std.specs.Prelude.{◌≡◌, refl, Bool, true, Ok, List, ◌↔◌, ◌⊎◌, get_or, drop, take, length}
use Rattle.std.proofs.lemmas.List.{get_or-drop, take_all, length-drop}
use Rattle.std.proofs.Common.{sym, ◌∙◌, ap, inl, inr, eq-or-lt_of_le, le_of_eq, le_of_suc-le-suc, mul-zero, mul-add}
use Rattle.std.proofs.Math.Path.{fun_ext}
use Rattle.std.proofs.Math.Nat.{mul-one, mul-le-mul_left, le-mul_of_pos_right}
use Rattle.std.proofs.Math.Decide.{dec_le}
use native.Mathlib.Omega.{arith}
use Rattle.meaning.specs.Words.{word_at}
use Rattle.meaning.specs.Tests.{total, in_table}
use Rattle.meaning.specs.Sheet.{Cells, script_of, sheet_of}
use Rattle.meaning.specs.Kinds.{TypeRow, type_form, type_at}
use Rattle.meaning.specs.Forest.{Forest, nil}
use Rattle.meaning.specs.Types.{Ty, Named, Of, of_empty, Within, size, ty_form, ty, ty_at, declared, names_in}
use Rattle.meaning.specs.Places.{Admits}
use Rattle.meaning.specs.Shape.{shapely, own, type_users}
use Rattle.meaning.specs.Reply.{done, Loads}
use Rattle.meaning.specs.Laws.Bools.{not_both, either}
use Rattle.meaning.specs.Laws.Tests.{in_table_lem, table_low, table_high, total_at, total_both}
use Rattle.meaning.specs.Laws.Shaped.{Part, few_types, one_user, label_row, seq_row, choice_row, star_row}
use Rattle.meaning.specs.Laws.Apart.{
  Side,
  Distinct,
  View,
  v_none,
  v_empty,
  v_text,
  v_bool,
  v_label,
  v_seq,
  v_choice,
  v_star,
  v_name,
  view,
  type_hits,
  hit_one,
  side_hit,
  ty_at_row,
  ty_at_same,
  shaped_lower,
  shaped_once,
}
use Rattle.meaning.specs.Theorems.Places.{places_say}
use Rattle.meaning.specs.Theorems.Sound.Written.{loads_shapely}
use Rattle.bits.specs.Sets.{in_set}
use Rattle.type_tables.specs.Points.{SheetPoints}
use Rattle.type_rows.specs.Grown.{type_in, form_in, ty_in, Grows, in_sheet, grown_row}
use Rattle.type_rows.specs.Writing.{own_row, Written, Blank}
use Rattle.sheet.specs.declared.forms.Ty.{Ty as Said}
use Rattle.sheet.specs.Forms.{type_said}
use Rattle.within.specs.Answers.{Answers, answers_ok}
use Rattle.within.specs.Plain.{own_type}

-- ---- sums over the rows 1 to n

total_less : (f g : ℕ → ℕ) (n : ℕ) → ((r : ℕ) → 1 ≤ r → r ≤ n → f r ≤ g r) → total f n ≤ total g n
unfolding total
total_less f g zero h = omega arith
total_less f g (suc n) h = omega (arith, total_less f g n (λ r p q. h r p (omega arith)), h (suc n) (omega arith) (omega arith))

total_plus : (f g : ℕ → ℕ) (n : ℕ) → total (λ r. f r + g r) n ≡ total f n + total g n
unfolding total
total_plus f g zero = refl
total_plus f g (suc n) = omega (arith, total_plus f g n)

total_times : (k : ℕ) (f : ℕ → ℕ) (n : ℕ) → total (λ r. k * f r) n ≡ k * total f n
unfolding total
total_times k f zero = sym (mul-zero k)
total_times k f (suc n) = ap (λ x. x + k * f (suc n)) (total_times k f n) ∙ sym (mul-add k (total f n) (f (suc n)))

total_upto : (f : ℕ → ℕ) (m n : ℕ) → m ≤ n → total f m ≤ total f n
unfolding total
total_upto f zero n h = omega arith
total_upto f (suc m) zero h = absurd (omega arith)
total_upto f (suc m) (suc n) h = elim (eq-or-lt_of_le h) [
  | inl e ↦ le_of_eq (ap (total f) e)
  | inr l ↦ omega (arith, total_upto f (suc m) n (le_of_suc-le-suc l))
]

-- ---- the rows of a declared type: over the rows 1 to w, each counts 1 and its parts' rows; each row below w is a part once at most, so what is left for row w is at most w

module _ (s : List ℕ) (e : shapely s ≡ true) where
  abbrev row : ℕ → Cells
  row i = (script_of s).type_row i

  abbrev rows : ℕ → ℕ
  rows j = size (declared (script_of s) j)

  -- how often row i has the part j, and what that adds to its size
  abbrev uses : ℕ → ℕ → ℕ
  uses j i = type_hits j (row i)

  abbrev adds : ℕ → ℕ → ℕ
  adds i j = rows j * uses j i

  -- a row of the type at row i is row i, or one of its parts'; the parts are among the rows 1 to m
  row_rows : (i m : ℕ) → i ≤ suc m → rows i ≤ suc (total (adds i) m)
  unfolding size ty_form own Side Distinct
  row_rows i m l = rw (ty_at_row (type_at (script_of s)) (shaped_lower s e) i) (go (view (row i)) ((shaped_once s e).sides i))
    where
      one : (j : ℕ) → Part i j → 1 ≤ uses j i → rows j ≤ total (adds i) m
      one j p h = omega (arith, le-mul_of_pos_right (rows j) h, total_at (adds i) m j p.low (omega (arith, p.lower)))

      both : (p q : ℕ) → Part i p × Part i q → 1 ≤ uses p i → 1 ≤ uses q i → (p ≡ q → ⊥) → rows p + rows q ≤ total (adds i) m
      both p q x g h d = omega (
        arith,
        le-mul_of_pos_right (rows p) g,
        le-mul_of_pos_right (rows q) h,
        total_both (adds i) m p q x.0.low (omega (arith, x.0.lower)) x.1.low (omega (arith, x.1.lower)) d,
      )

      go : {t : TypeRow} → View (row i) t → Distinct t → size (ty_form t (declared (script_of s))) ≤ suc (total (adds i) m)
      go v_none d = omega arith
      go v_empty d = omega arith
      go (v_text k) d = omega arith
      go (v_bool k) d = omega arith
      go (v_label k) d = omega (arith, one (row i).q (label_row s e i k).1 (rw k (omega (arith, hit_one (row i).q (row i).q refl))))
      go (v_seq k) d = let x = seq_row s e i k in omega (arith, both (row i).p (row i).q x (side_hit (row i) _ (v_seq k) _ (inl refl)) (side_hit (row i) _ (v_seq k) _ (inr refl)) (d x.0.low))
      go (v_choice k) d = let x = choice_row s e i k in omega (
        arith,
        both (row i).p (row i).q x (side_hit (row i) _ (v_choice k) _ (inl refl)) (side_hit (row i) _ (v_choice k) _ (inr refl)) (d x.0.low),
      )
      go (v_star k) d = omega (arith, one (row i).p (star_row s e i k) (side_hit (row i) _ (v_star k) _ refl))
      go (v_name k) d = omega arith

  -- over the rows 1 to n, by their parts
  rows_by : (m n : ℕ) → n ≤ suc m → total rows n ≤ n + total (λ j. total (λ i. adds i j) n) m
  unfolding total
  rows_by m zero l = omega arith
  rows_by m (suc n) l = omega (arith, rows_by m n (omega arith), row_rows (suc n) m l, total_plus (λ j. total (λ i. adds i j) n) (adds (suc n)) m)

  -- each row is a part once at most
  part_once : (n j : ℕ) → n ≤ (script_of s).types → 1 ≤ j → j ≤ (script_of s).types → total (λ i. adds i j) n ≤ rows j
  unfolding type_users sheet_of
  part_once n j l p q = omega (
    arith,
    total_times (rows j) (uses j) n,
    mul-le-mul_left (rows j) hits,
    mul-one (rows j),
  )
    where
      hits : total (uses j) n ≤ 1
      hits = omega (arith, total_upto (uses j) n (script_of s).types l, one_user s e j (in_table_lem (script_of s).types j p q))

  -- what is left for the row above them
  declared_low : (m : ℕ) → suc m ≤ (script_of s).types → rows (suc m) ≤ suc m
  unfolding total
  declared_low m l = omega (arith, rows_by m (suc m) (omega arith), total_less (λ j. total (λ i. adds i j) (suc m)) rows m (λ j p q. part_once (suc m) j l p (omega arith)))

-- a declared type is never Wide
pub declared_few : (s : List ℕ) → shapely s ≡ true → (w : ℕ) → w ≤ (script_of s).types → size (declared (script_of s) w) ≤ 512
unfolding size ty_at ty
declared_few s e zero l = omega arith
declared_few s e (suc m) l = omega (arith, declared_low s e m l, few_types s e)

-- ---- () in a declared type

-- only the empty forest is of ()
empty_of : (names : ℕ → Named) (τ : Ty) → Within names Ty.empty τ ↔ Of names τ nil
empty_of names τ = (λ h. h nil of_empty, λ h f x. go x h)
  where
    go : {f : Forest} → Of names Ty.empty f → Of names τ nil → Of names τ f
    go of_empty h = h

-- () lies in it exactly if End stands where it begins
pub empty_in : {s first behind : List ℕ} → shapely s ≡ true → SheetPoints s first behind → (w : ℕ) → in_table (script_of s).types w ≡ true
    → in_set first w 0 ≡ true ↔ Within (names_in (script_of s)) Ty.empty (declared (script_of s) w)
unfolding Admits
empty_in {s} e P w h = let z = P.begins w h 0 in let x = places_say s e w nil in let y = empty_of (names_in (script_of s)) (declared (script_of s) w) in
    ((λ i. y.1 (x.0 (sym z ∙ i))), λ i. z ∙ x.1 (y.0 i))

-- ---- so these need no table of the found type

-- a row of the sheet keeps its declared type
pub declared_is : {s work : List ℕ} {n : ℕ} → Grows s work n → (r : ℕ) → r ≤ (script_of s).types → ty_in s work n r ≡ declared (script_of s) r
declared_is {s} {work} {n} g r h = ty_at_same (form_in s work n) (type_at (script_of s)) (script_of s).types (λ i j. g.low i) (λ i j. ap type_form (in_sheet s work n i j)) r h

-- what says nothing says ()
empty_row : {t : TypeRow} (at : ℕ → Ty) → (t ≡ TypeRow.none) ⊎ (t ≡ TypeRow.empty) → ty_form t at ≡ Ty.empty
unfolding ty_form
empty_row at (inl e) = rw e
empty_row at (inr e) = rw e

pub nothing_said : {t : Said} {c d : Cells} → type_said t ≡ type_form c → c ≡ d → (t ≡ Said.Nothing) ⊎ (t ≡ Said.Empty) → (type_form d ≡ TypeRow.none) ⊎ (type_form d ≡ TypeRow.empty)
nothing_said e same (inl z) = inl (ap type_form (sym same) ∙ sym e ∙ ap type_said z)
nothing_said e same (inr z) = inr (ap type_form (sym same) ∙ sym e ∙ ap type_said z)

module _ {s work : List ℕ} {n : ℕ} (load : Loads s done) (G : Grows s work n) (w : ℕ) (asked : in_table (script_of s).types w ≡ true) where
  low : w ≤ (script_of s).types
  low = table_high (script_of s).types w asked

  -- a declared type lies in itself
  pub itself : (found : ℕ) → found ≡ w → Answers s (ty_in s work n found) (declared (script_of s) w) (Ok true)
  itself found e = rw (e, declared_is G w low) (record { by = (declared_few s (loads_shapely load) w low, λ f o. o) })

  -- () lies in what may be empty
  module _ {first behind : List ℕ} (P : SheetPoints s first behind) (found : ℕ)
      (says : (type_form (type_in s work n found) ≡ TypeRow.none) ⊎ (type_form (type_in s work n found) ≡ TypeRow.empty)) where
    nothing : ty_in s work n found ≡ Ty.empty
    nothing = grown_row s work n G found ∙ empty_row (ty_in s work n) says

    pub empty_answers : (b : Bool) → b ≡ in_set first w 0 → Answers s (ty_in s work n found) (declared (script_of s) w) (Ok b)
    unfolding size
    empty_answers b e = rw nothing (answers_ok b (omega arith) (λ z. (empty_in (loads_shapely load) P w asked).0 (sym e
        ∙ z)) (λ z o. not_both ((empty_in (loads_shapely load) P w asked).1 o) (sym e ∙ z)))

-- ---- a type with the same rows is the same type

-- two tables from byte n on
pub drop_same : (n : ℕ) (own other : List ℕ) → length own ≡ 3072 → length other ≡ 3072 → take (3072 - n) (drop n own) ≡ take (length other - n) (drop n other) → drop n own ≡ drop n other
drop_same n own other e f h =
    sym (take_all (3072 - n) (drop n own) (omega (arith, length-drop n own))) ∙ h ∙ take_all (length other - n) (drop n other) (omega (arith, length-drop n other))

-- the bytes of the rows above row r are the same
module _ {own other : List ℕ} {r : ℕ} (B : Blank own r) (C : Blank other r) (S : drop (6 * r) own ≡ drop (6 * r) other) where
  byte_same : (k : ℕ) → 6 * r ≤ k → get_or own k 0 ≡ get_or other k 0
  byte_same k a =
      let at : 6 * r + (k - 6 * r) ≡ k = omega arith in
      rw at at (sym (get_or-drop (6 * r) own (k - 6 * r) 0) ∙ ap (λ l. get_or l (k - 6 * r) 0) S ∙ get_or-drop (6 * r) other (k - 6 * r) 0)

  word_same : (i : ℕ) → 3 * r ≤ i → word_at own i ≡ word_at other i
  word_same i a = rw (byte_same (2 * i) (omega arith), byte_same (2 * i + 1) (omega arith))

  form_none : (c : Cells) → c.kind ≡ 0 → type_form c ≡ TypeRow.none
  form_none c e = rw e

  form_same : (i : ℕ) → type_form (own_row own i) ≡ type_form (own_row other i)
  form_same i = elim (either (in_table 512 i)) [
    | inr z ↦ rw z
    | inl z ↦ elim (dec_le i r) [
      | yes l ↦ form_none (own_row own i) (B.none i (table_low 512 i z) l) ∙ sym (form_none (own_row other i) (C.none i (table_low 512 i z) l))
      | no l ↦ (let a = word_same (0 + 3 * (i - 1)) (omega (arith, table_low 512 i z)) in
          let b = word_same (0 + 3 * (i - 1) + 1) (omega (arith, table_low 512 i z)) in
          let c = word_same (0 + 3 * (i - 1) + 2) (omega (arith, table_low 512 i z)) in
          rw (z, a, b, c))
    ]
  ]

  pub own_same : own_type own 512 ≡ own_type other 512
  own_same = ap (λ (f : ℕ → TypeRow). ty_at f 512) (fun_ext form_same)

-- so it lies in it
pub lies_alike : {s work : List ℕ} {n found : ℕ} {own : List ℕ} → Grows s work n → (w : ℕ) → in_table (script_of s).types w ≡ true → Written (type_in s work n) found own
    → size (ty_in s work n found) ≤ 512
    → own_type own 512 ≡ ty_in s work n w → Answers s (ty_in s work n found) (declared (script_of s) w) (Ok true)
lies_alike {s} {work} {n} {found} G w asked W few e =
    let one : ty_in s work n found ≡ declared (script_of s) w = sym W.same ∙ e ∙ declared_is G w (table_high (script_of s).types w asked) in
    record { by = (few, λ f o. rw one at o) }
