-- The found type written out stands behind the sheet's type rows: own row i is row T + i, T the sheet's type rows. The whole is a table beside the sheet (Theorems/Within), and its types and models
-- at those rows are the own table's, moved up.
use Rattle.std.specs.Prelude.{ℕ, zero, suc, ◌+◌, ◌-◌, ◌≤◌, ◌<◌, ◌≡◌, true, cond, List, [], ◌∷◌, ◌⊎◌, leb, get_or}
use Rattle.std.proofs.Math.Path.{refl}
use Rattle.std.proofs.Common.{sym, ◌∙◌, ap, inl, inr, arith, le-leb}
use Rattle.std.proofs.Math.Decide.{dec_le}
use Rattle.std.proofs.lemmas.Bool.{lt-leb}
use Rattle.meaning.specs.Tests.{in_table}
use Rattle.meaning.specs.Sheet.{Cells, script_of}
use Rattle.meaning.specs.Kinds.{TypeRow, type_form}
use Rattle.meaning.specs.Types.{Ty, ty_form, ty_at}
use Rattle.meaning.specs.Places.{Model, model_form, model_at}
use Rattle.meaning.specs.Shape.{shapely}
use Rattle.meaning.specs.Laws.Apart.{
  Low,
  Lower,
  Side,
  side_lower,
  Distinct,
  Once,
  View,
  v_none,
  v_empty,
  v_text,
  v_bool,
  v_label,
  v_seq,
  v_choice,
  v_star,
  v_name,
  view,
  ty_at_row,
  model_at_row,
  shaped_lower,
  shaped_once,
}
use Rattle.meaning.specs.Theorems.Within.Rows.{Beside, extended}
use Rattle.meaning.specs.Laws.Shaped.{name_row_lem}
use Rattle.type_places.specs.Tables.{Rows}
use Rattle.meaning.specs.Laws.Tests.{in_table_lem, table_high}
use Rattle.type_rows.specs.Writing.{own_row, Uses, Written, own_in}
use Rattle.type_tables.specs.Points.{Apart}

-- ---- moved up by n

abbrev pub moved : ℕ → Cells → Cells
moved n c = record {
  kind = c.kind;
  p = get_or (c.p ∷ c.p ∷ c.p ∷ c.p ∷ c.p ∷ (n + c.p) ∷ (n + c.p) ∷ (n + c.p) ∷ []) c.kind c.p;
  q = get_or (c.q ∷ c.q ∷ c.q ∷ c.q ∷ (n + c.q) ∷ (n + c.q) ∷ (n + c.q) ∷ []) c.kind c.q;
  r = c.r;
}

unfoldable pub raise : ℕ → TypeRow → TypeRow
raise n TypeRow.none = TypeRow.none
raise n TypeRow.empty = TypeRow.empty
raise n TypeRow.text = TypeRow.text
raise n TypeRow.bool = TypeRow.bool
raise n (TypeRow.label l q) = TypeRow.label l (n + q)
raise n (TypeRow.seq p q) = TypeRow.seq (n + p) (n + q)
raise n (TypeRow.choice p q) = TypeRow.choice (n + p) (n + q)
raise n (TypeRow.star p) = TypeRow.star (n + p)
raise n (TypeRow.name x) = TypeRow.name x

raise_form : (n : ℕ) (c : Cells) → type_form (moved n c) ≡ raise n (type_form c)
unfolding raise
raise_form n c = go c.kind refl
  where
    go : (k : ℕ) → c.kind ≡ k → type_form (moved n c) ≡ raise n (type_form c)
    go zero e = rw e
    go (suc zero) e = rw e
    go (suc (suc zero)) e = rw e
    go (suc (suc (suc zero))) e = rw e
    go (suc (suc (suc (suc zero)))) e = rw e
    go (suc (suc (suc (suc (suc zero))))) e = rw e
    go (suc (suc (suc (suc (suc (suc zero)))))) e = rw e
    go (suc (suc (suc (suc (suc (suc (suc zero))))))) e = rw e
    go (suc (suc (suc (suc (suc (suc (suc (suc zero)))))))) e = rw e
    go (suc (suc (suc (suc (suc (suc (suc (suc (suc k))))))))) e = rw e

-- row j is a side of the row or its content
unfoldable Parts : TypeRow → ℕ → Type 0
Parts TypeRow.none j = ⊥
Parts TypeRow.empty j = ⊥
Parts TypeRow.text j = ⊥
Parts TypeRow.bool j = ⊥
Parts (TypeRow.label n q) j = q ≡ j
Parts (TypeRow.seq p q) j = (p ≡ j) ⊎ (q ≡ j)
Parts (TypeRow.choice p q) j = (p ≡ j) ⊎ (q ≡ j)
Parts (TypeRow.star p) j = p ≡ j
Parts (TypeRow.name x) j = ⊥

side_part : (t : TypeRow) (j : ℕ) → Side t j → Parts t j
unfolding Side Parts
side_part TypeRow.none j x = elim x [ ]
side_part TypeRow.empty j x = elim x [ ]
side_part TypeRow.text j x = elim x [ ]
side_part TypeRow.bool j x = elim x [ ]
side_part (TypeRow.label _ _) j x = elim x [ ]
side_part (Rattle.meaning.specs.Kinds.name _) j x = elim x [ ]
side_part (TypeRow.seq p q) j x = x
side_part (TypeRow.choice p q) j x = x
side_part (TypeRow.star p) j x = x

part_uses : (c : Cells) (j : ℕ) → Parts (type_form c) j → Uses c j
unfolding Parts
part_uses c j x = go (view c) x
  where
    go : {t : TypeRow} → View c t → Parts t j → Uses c j
    go v_none x = elim x [ ]
    go v_empty x = elim x [ ]
    go (v_text _) x = elim x [ ]
    go (v_bool _) x = elim x [ ]
    go (v_name _) x = elim x [ ]
    go (v_label k) x = inl (k, x)
    go (v_seq k) x = inr (inl (inl k, x))
    go (v_choice k) x = inr (inl (inr k, x))
    go (v_star k) x = inr (inr (k, x))

pub side_uses : (c : Cells) (j : ℕ) → Side (type_form c) j → Uses c j
side_uses c j x = part_uses c j (side_part (type_form c) j x)

-- a type written out is such a table as `places` asks for: no side is a content
module _ {g : ℕ → Cells} {found : ℕ} {own : List ℕ} (W : Written g found own) where
  pub own_rows : Rows (own_row own) 512
  unfolding Distinct
  own_rows = record {
    few = omega arith;
    lower = W.lower;
    once = record {
      user = λ i k j l x y. W.once i k j (side_uses (own_row own i) j x) (side_uses (own_row own k) j y);
      sides = λ i. apart i (view (own_row own i));
    };
    low = λ i j x. (W.parts i j (side_uses (own_row own i) j x)).0;
  }
    where
      apart : (i : ℕ) {t : TypeRow} → View (own_row own i) t → Distinct t
      apart i v_none = tt
      apart i v_empty = tt
      apart i (v_text k) = tt
      apart i (v_bool k) = tt
      apart i (v_label k) = tt
      apart i (v_seq k) = λ l z. W.sides i (inl k) z
      apart i (v_choice k) = λ l z. W.sides i (inr k) z
      apart i (v_star k) = tt
      apart i (v_name k) = tt

  label_side : (i j : ℕ) → (own_row own i).kind ≡ 4 → Side (type_form (own_row own i)) j → ⊥
  unfolding Side
  label_side i j k x = let y : ⊥ = rw k at x in y

  pub own_apart : Apart (own_row own)
  own_apart = record {
    sides = λ i j k x h z. label_side i j (rw (W.once i k j (side_uses (own_row own i) j x) (inl (h, z))) h) x;
    label = λ i k. own_in own i 3 k;
    content = λ i k. (let p = W.parts i (own_row own i).q (inl (k, refl)) in in_table_lem 512 (own_row own i).q p.0 (omega (arith, p.1, table_high 512 i (own_in own i 3 k))));
  }

raise_low : (n : ℕ) (t : TypeRow) (i : ℕ) → Low t i → Low (raise n t) (n + i)
unfolding Low raise
raise_low n TypeRow.none i l = tt
raise_low n TypeRow.empty i l = tt
raise_low n TypeRow.text i l = omega arith
raise_low n TypeRow.bool i l = omega arith
raise_low n (TypeRow.label m q) i l = omega arith
raise_low n (TypeRow.seq p q) i l = (omega (arith, l.0), omega (arith, l.1))
raise_low n (TypeRow.choice p q) i l = (omega (arith, l.0), omega (arith, l.1))
raise_low n (TypeRow.star p) i l = omega arith
raise_low n (TypeRow.name x) i l = omega arith

raise_side : (n : ℕ) (t : TypeRow) (j : ℕ) → Side (raise n t) j → (i : ℕ) × (n + i ≡ j) × Side t i
unfolding Side raise
raise_side n TypeRow.none j e = elim e [ ]
raise_side n TypeRow.empty j e = elim e [ ]
raise_side n TypeRow.text j e = elim e [ ]
raise_side n TypeRow.bool j e = elim e [ ]
raise_side n (TypeRow.label _ _) j e = elim e [ ]
raise_side n (Rattle.meaning.specs.Kinds.name _) j e = elim e [ ]
raise_side n (TypeRow.seq p q) j (inl e) = (p, e, inl refl)
raise_side n (TypeRow.seq p q) j (inr e) = (q, e, inr refl)
raise_side n (TypeRow.choice p q) j (inl e) = (p, e, inl refl)
raise_side n (TypeRow.choice p q) j (inr e) = (q, e, inr refl)
raise_side n (TypeRow.star p) j e = (p, e, refl)

-- the model with its places moved up
unfoldable pub up : ℕ → Model → Model
up n Model.empty = Model.empty
up n (Model.atom a) = Model.atom (n + a)
up n (Model.seq m o) = Model.seq (up n m) (up n o)
up n (Model.choice m o) = Model.choice (up n m) (up n o)
up n (Model.star m) = Model.star (up n m)

-- ---- the two tables in one

module _ (s own : List ℕ) where
  abbrev T : ℕ
  T = (script_of s).types

  abbrev pub joined : ℕ → Cells
  joined i = cond (leb i (script_of s).types) ((script_of s).type_row i) (moved (script_of s).types (own_row own (i - (script_of s).types)))

  pub sheet_row : (i : ℕ) → i ≤ (script_of s).types → joined i ≡ (script_of s).type_row i
  sheet_row i l = rw (le-leb i (script_of s).types l)

  pub own_row_lem : (i : ℕ) → 1 ≤ i → joined ((script_of s).types + i) ≡ moved (script_of s).types (own_row own i)
  own_row_lem i l = let z : (script_of s).types + i - (script_of s).types ≡ i = omega arith in rw (lt-leb ((script_of s).types + i) (script_of s).types (omega arith), z)

  -- a row behind the sheet's
  behind_row : (i : ℕ) → (script_of s).types < i → joined i ≡ moved (script_of s).types (own_row own (i - (script_of s).types))
  behind_row i l = rw (lt-leb i (script_of s).types l)

  behind_form : (i : ℕ) → (script_of s).types < i → type_form (joined i) ≡ raise (script_of s).types (type_form (own_row own (i - (script_of s).types)))
  behind_form i l = ap type_form (behind_row i l) ∙ raise_form (script_of s).types (own_row own (i - (script_of s).types))

  own_form : (i : ℕ) → 1 ≤ i → type_form (joined ((script_of s).types + i)) ≡ raise (script_of s).types (type_form (own_row own i))
  own_form i l = ap type_form (own_row_lem i l) ∙ raise_form (script_of s).types (own_row own i)

  module _ (e : shapely s ≡ true) {g : ℕ → Cells} {found : ℕ} (G : (i : ℕ) → (g i).kind ≡ 8 → in_table (script_of s).names (g i).p ≡ true) (W : Written g found own) where
    pub joined_lower : Lower joined
    joined_lower i = elim (dec_le i T) [
      | yes l ↦ rw (sheet_row i l) (shaped_lower s e i)
      | no l ↦ (let z : T + (i - T) ≡ i = omega arith in rw (behind_form i (omega arith)) (rw z at (raise_low T (type_form (own_row own (i - T))) (i - T) (W.lower (i - T)))))
    ]

    -- a side of a row behind the sheet's
    behind_side : (i j : ℕ) → T < i → Side (type_form (joined i)) j → (k : ℕ) × (T + k ≡ j) × Uses (own_row own (i - T)) k
    behind_side i j l x = let y = raise_side T (type_form (own_row own (i - T))) j (rw (behind_form i l) at x) in (y.0, y.1, side_uses (own_row own (i - T)) y.0 y.2)

    sheet_side : (i j : ℕ) → i ≤ T → Side (type_form (joined i)) j → Side (type_form ((script_of s).type_row i)) j
    sheet_side i j l x = rw (sheet_row i l) at x

    low_side : (i j : ℕ) → i ≤ T → Side (type_form (joined i)) j → j < T
    low_side i j l x = let z = side_lower (type_form (joined i)) i j (joined_lower i) x in omega arith

    pub joined_once : Once joined
    unfolding Distinct raise
    joined_once = record {
      user = λ i k j l x y. elim (dec_le i T) [
        | yes a ↦ elim (dec_le k T) [
          | yes b ↦ (shaped_once s e).user i k j l (sheet_side i j a x) (sheet_side k j b y)
          | no b ↦ (let v = behind_side k j (omega arith) y in absurd (omega (arith, v.1, (W.parts (k - T) v.0 v.2).0, low_side i j a x)))
        ]
        | no a ↦ elim (dec_le k T) [
          | yes b ↦ (let v = behind_side i j (omega arith) x in absurd (omega (arith, v.1, (W.parts (i - T) v.0 v.2).0, low_side k j b y)))
          | no b ↦ (let v = behind_side i j (omega arith) x in let u = behind_side k j (omega arith) y in
              let o : v.0 ≡ u.0 = omega (arith, v.1, u.1) in
              let z = W.once (i - T) (k - T) u.0 (rw o at v.2) u.2 in omega (arith, z))
        ]
      ];
      sides = λ i. elim (dec_le i T) [
        | yes l ↦ rw (sheet_row i l) ((shaped_once s e).sides i)
        | no l ↦ rw (behind_form i (omega arith)) (apart (i - T) (view (own_row own (i - T))))
      ];
    }
      where
        apart : (i : ℕ) {t : TypeRow} → View (own_row own i) t → Distinct (raise T t)
        apart i v_none = tt
        apart i v_empty = tt
        apart i (v_text k) = tt
        apart i (v_bool k) = tt
        apart i (v_label k) = tt
        apart i (v_seq k) = λ l z. W.sides i (inl k) (omega arith)
        apart i (v_choice k) = λ l z. W.sides i (inr k) (omega arith)
        apart i (v_star k) = tt
        apart i (v_name k) = tt

    pub joined_known : (i : ℕ) → (joined i).kind ≡ 8 → in_table (script_of s).names (joined i).p ≡ true
    joined_known i k = elim (dec_le i T) [
      | yes l ↦ (let k' : ((script_of s).type_row i).kind ≡ 8 = rw (sheet_row i l) at k in rw (sheet_row i l) (name_row_lem s e i k'))
      | no l ↦ (let c = own_row own (i - T) in let k' : c.kind ≡ 8 = rw (behind_row i (omega arith)) at k in
          let a = W.atoms (i - T) (inr k') in let z = G a.0 (a.2 ∙ k') in
          rw (behind_row i (omega arith), k') (rw a.3 at z))
    ]

    pub beside : Beside (script_of s) joined (T + 512)
    beside = extended s e joined (T + 512) (omega arith) sheet_row joined_lower joined_once joined_known

    -- ---- types and models

    own_parts : (i j : ℕ) → Parts (type_form (own_row own i)) j → (1 ≤ j) × (j < i)
    own_parts i j x = W.parts i j (part_uses (own_row own i) j x)

    abbrev joined_type : ℕ → Ty
    joined_type r = ty_at (λ i. type_form (joined i)) r

    abbrev own_type : ℕ → Ty
    own_type r = ty_at (λ i. type_form (own_row own i)) r

    type_step : (t : TypeRow) → ((j : ℕ) → Parts t j → joined_type (T + j) ≡ own_type j) → ty_form (raise T t) joined_type ≡ ty_form t own_type
    unfolding ty_form raise Parts
    type_step TypeRow.none h = refl
    type_step TypeRow.empty h = refl
    type_step TypeRow.text h = refl
    type_step TypeRow.bool h = refl
    type_step (TypeRow.label n q) h = rw (h q refl)
    type_step (TypeRow.seq p q) h = rw (h p (inl refl), h q (inr refl))
    type_step (TypeRow.choice p q) h = rw (h p (inl refl), h q (inr refl))
    type_step (TypeRow.star p) h = rw (h p refl)
    type_step (TypeRow.name x) h = refl

    types_same : (n i : ℕ) → i ≤ n → 1 ≤ i → joined_type (T + i) ≡ own_type i
    types_same zero i l k = absurd (omega arith)
    types_same (suc n) i l k = ty_at_row (λ i. type_form (joined i)) joined_lower (T + i) ∙ ap (λ t. ty_form t joined_type) (own_form i k)
        ∙ type_step (type_form (own_row own i)) (λ j x. types_same n j (omega (arith, (own_parts i j x).1)) (own_parts i j x).0) ∙ sym (ty_at_row (λ i. type_form (own_row own i)) W.lower i)

    pub found_same : joined_type (T + 512) ≡ ty_at (λ i. type_form (g i)) found
    found_same = types_same 512 512 (omega arith) (omega arith) ∙ W.same

    abbrev joined_model : ℕ → Model
    joined_model r = model_at (λ i. type_form (joined i)) r

    abbrev own_model : ℕ → Model
    own_model r = model_at (λ i. type_form (own_row own i)) r

    model_step : (t : TypeRow) (i : ℕ) → ((j : ℕ) → Parts t j → joined_model (T + j) ≡ up T (own_model j)) → model_form (raise T t) (T + i) joined_model ≡ up T (model_form t i own_model)
    unfolding model_form raise Parts up
    model_step TypeRow.none i h = refl
    model_step TypeRow.empty i h = refl
    model_step TypeRow.text i h = refl
    model_step TypeRow.bool i h = refl
    model_step (TypeRow.label n q) i h = refl
    model_step (TypeRow.seq p q) i h = rw (h p (inl refl), h q (inr refl))
    model_step (TypeRow.choice p q) i h = rw (h p (inl refl), h q (inr refl))
    model_step (TypeRow.star p) i h = rw (h p refl)
    model_step (TypeRow.name x) i h = refl

    models_same : (n i : ℕ) → i ≤ n → 1 ≤ i → joined_model (T + i) ≡ up T (own_model i)
    models_same zero i l k = absurd (omega arith)
    models_same (suc n) i l k = model_at_row (λ i. type_form (joined i)) joined_lower (T + i) ∙ ap (λ t. model_form t (T + i) joined_model) (own_form i k)
        ∙ model_step (type_form (own_row own i)) i (λ j x. models_same n j (omega (arith, (own_parts i j x).1)) (own_parts i j x).0)
        ∙ ap (up T) (sym (model_at_row (λ i. type_form (own_row own i)) W.lower i))

    pub model_same : (i : ℕ) → 1 ≤ i → joined_model (T + i) ≡ up T (own_model i)
    model_same i k = models_same i i (omega arith) k
