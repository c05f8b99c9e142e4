-- Row by row from below: whether a row may be empty and what may stand first, kind by kind.
use Rattle.std.specs.Prelude.{ℕ, zero, suc, ◌+◌, ◌≤◌, ◌<◌, ◌≡◌, Bool, ◌&&◌, ◌||◌, List, ◌⊎◌, ltb, length, set}
use Rattle.std.proofs.Math.Path.{refl, sym, ap}
use Rattle.std.proofs.Common.{◌∙◌, inl, inr, add-one, arith, length-set, ltb-true, ltb-false}
use Rattle.std.proofs.Math.Bool.{true, false}
use Rattle.std.proofs.Math.Decide.{ℕ_discrete}
use Rattle.std.proofs.Math.Dec.{eqb}
use Rattle.meaning.specs.Tests.{in_table}
use Rattle.meaning.specs.Sheet.{Cells}
use Rattle.meaning.specs.Kinds.{TypeRow, type_form}
use Rattle.meaning.specs.Places.{model_form, nullable, first}
use Rattle.meaning.specs.Laws.Bools.{or_false, either}
use Rattle.meaning.specs.Laws.Tests.{table_low, table_high}
use Rattle.meaning.specs.Laws.Apart.{Side, side_lower, model_at_row, model_below, first_has}
use Rattle.meaning.specs.Laws.Shaped.{Part}
use Rattle.bits.specs.Sets.{in_set, Added, United}
use Rattle.sheet.specs.declared.forms.Ty.{Ty}
use Rattle.sheet.specs.Forms.{type_said}
use Rattle.type_barren.specs.Flags.{flag, flag_set, flag_kept}
use Rattle.type_places.specs.Tables.{row_form, row_model, Rows, set_of, Nulls, Firsts, Tables}
use Rattle.bits.specs.Sets.{Clear}

-- what is a place
abbrev pub IsPlace : Ty → Type 0
IsPlace t = (t ≡ Ty.Text) ⊎ ((t ≡ Ty.Bool) ⊎ (((l : ℕ) × (q : ℕ) × (t ≡ Ty.Label l q)) ⊎ ((x : ℕ) × (t ≡ Ty.Name x))))

module _ {row : ℕ → Cells} {n : ℕ} (R : Rows row n) where
  pub few_rows : {i : ℕ} → i ≤ n → i ≤ 512
  few_rows h = omega (arith, R.few)

  pub model_row : (i : ℕ) → row_model row i ≡ model_form (row_form row i) i (row_model row)
  model_row i = model_at_row (row_form row) R.lower i

  -- a side is a part
  pub side_part : (i j : ℕ) → Side (row_form row i) j → Part i j
  side_part i j x = record { low = R.low i j x; lower = side_lower (row_form row i) i j (R.lower i) x }

  side_said : {t : TypeRow} {i j : ℕ} → t ≡ row_form row i → Side t j → Part i j
  side_said {i = i} {j = j} z x = side_part i j (rw z at x)

  -- a sequence and a choice have two parts, a star one
  pub seq_parts : {i p q : ℕ} → TypeRow.seq p q ≡ row_form row i → Part i p × Part i q
  unfolding Side
  seq_parts z = (side_said z (inl refl), side_said z (inr refl))

  pub choice_parts : {i p q : ℕ} → TypeRow.choice p q ≡ row_form row i → Part i p × Part i q
  unfolding Side
  choice_parts z = (side_said z (inl refl), side_said z (inr refl))

  pub star_part : {i p : ℕ} → TypeRow.star p ≡ row_form row i → Part i p
  unfolding Side
  star_part z = side_said z refl

  -- a place is at most the row of its model
  pub first_below : (r b : ℕ) → r < b → first (row_model row r) b ≡ false
  first_below r b l = elim (either (first (row_model row r) b)) [
    | inl h ↦ absurd (omega (arith, model_below row (λ x. 0) R.lower r b (first_has (row_model row r) b h)))
    | inr h ↦ h
  ]

  module _ (i : ℕ) (c : Cells) (r : c ≡ row i) where
    said : {t : TypeRow} → t ≡ type_form c → t ≡ row_form row i
    said z = z ∙ ap type_form r

    model_said : {t : TypeRow} → t ≡ type_form c → model_form t i (row_model row) ≡ row_model row i
    model_said z = ap (λ t. model_form t i (row_model row)) (said z) ∙ sym (model_row i)

    -- a row's sides are below it
    pub seq_sides : {p q : ℕ} → TypeRow.seq p q ≡ type_form c → (p < i) × (q < i)
    seq_sides z = let w = seq_parts (said z) in (w.0.lower, w.1.lower)

    pub choice_sides : {p q : ℕ} → TypeRow.choice p q ≡ type_form c → (p < i) × (q < i)
    choice_sides z = let w = choice_parts (said z) in (w.0.lower, w.1.lower)

    pub star_side : {p : ℕ} → TypeRow.star p ≡ type_form c → p < i
    star_side z = (star_part (said z)).lower

    -- ---- may row i be empty

    null_said : {t : TypeRow} → t ≡ type_form c → nullable (model_form t i (row_model row)) ≡ nullable (row_model row i)
    null_said z = ap nullable (model_said z)

    module _ {null : List Bool} (N : Nulls row null i) where
      pub seq_null : {p q : ℕ} → TypeRow.seq p q ≡ type_form c → flag null p && flag null q ≡ nullable (row_model row i)
      unfolding nullable model_form
      seq_null z = let w = seq_parts (said z) in rw (N.at _ w.0.low w.0.lower, N.at _ w.1.low w.1.lower) (null_said z)

      pub choice_null : {p q : ℕ} → TypeRow.choice p q ≡ type_form c → flag null p || flag null q ≡ nullable (row_model row i)
      unfolding nullable model_form
      choice_null z = let w = choice_parts (said z) in rw (N.at _ w.0.low w.0.lower, N.at _ w.1.low w.1.lower) (null_said z)

    pub place_null : {t : Ty} → type_said t ≡ type_form c → IsPlace t → false ≡ nullable (row_model row i)
    unfolding nullable model_form
    place_null z (inl k) = null_said (rw k at z)
    place_null z (inr (inl k)) = null_said (rw k at z)
    place_null z (inr (inr (inl (l, q, k)))) = null_said (rw k at z)
    place_null z (inr (inr (inr (x, k)))) = null_said (rw k at z)

    pub other_null : {t : Ty} → type_said t ≡ type_form c → (t ≡ Ty.Nothing) ⊎ ((t ≡ Ty.Empty) ⊎ ((p : ℕ) × (t ≡ Ty.Star p))) → true ≡ nullable (row_model row i)
    unfolding nullable model_form
    other_null z (inl k) = null_said (rw k at z)
    other_null z (inr (inl k)) = null_said (rw k at z)
    other_null z (inr (inr (p, k))) = null_said (rw k at z)

    -- ---- what may stand first at row i

    module _ {t : List ℕ} (f : Firsts row t i) where
      more : (new : List ℕ) → length new ≡ length t → ((b : ℕ) → b < 576 → in_set new i b ≡ first (row_model row i) b) → ((k b : ℕ) → (k ≡ i → ⊥) → b < 576 → in_set new k b ≡ in_set t k b)
          → Firsts row new (i + 1)
      more new z here others = record {
        size = z ∙ f.size;
        at = λ j p q b l. elim (ℕ_discrete j i) [ yes d ↦ rw d (here b l) | no d ↦ others j b d l ∙ f.at j p (omega arith) b l ];
        none = λ j p b l. others j b (λ d. omega arith) l ∙ f.none j (omega arith) b l;
      }

      first_said : {t : TypeRow} → t ≡ type_form c → (b : ℕ) → first (model_form t i (row_model row)) b ≡ first (row_model row i) b
      first_said z b = ap (λ m. first m b) (model_said z)

      pub place_first : {u : Ty} → type_said u ≡ type_form c → IsPlace u → {new : List ℕ} → Added t new i i → Firsts row new (i + 1)
      unfolding first model_form
      place_first {u} z k {new} a = more new a.size (λ b l. a.into b l ∙ rw (f.none i (omega arith) b l) (go k b)) a.others
        where
          go : IsPlace u → (b : ℕ) → eqb i b ≡ first (row_model row i) b
          go (inl k) b = first_said (rw k at z) b
          go (inr (inl k)) b = first_said (rw k at z) b
          go (inr (inr (inl (l, q, k)))) b = first_said (rw k at z) b
          go (inr (inr (inr (x, k)))) b = first_said (rw k at z) b

      -- one part of row i, then another
      one : (w : ℕ) → Part i w → {new : List ℕ} → United t new i t w → (b : ℕ) → b < 576 → in_set new i b ≡ first (row_model row w) b
      one w p u b l = u.into b l ∙ rw (f.none i (omega arith) b l) (f.at w p.low p.lower b l)

      two : (w v : ℕ) → Part i w → Part i v → {mid new : List ℕ} → United t mid i t w → United mid new i mid v → (b : ℕ) → b < 576
          → in_set new i b ≡ first (row_model row w) b || first (row_model row v) b
      two w v p o u x b l = x.into b l ∙ rw (one w p u b l, u.others v b (λ d. omega (arith, o.lower)) l, f.at v o.low o.lower b l)

      pub seq_first : {p q : ℕ} → TypeRow.seq p q ≡ type_form c → {null : List Bool} → Nulls row null i → flag null p ≡ true → {mid new : List ℕ} → United t mid i t p → United mid new i mid q
          → Firsts row new (i + 1)
      unfolding first model_form
      seq_first z n h {mid} {new} u x =
          let w = seq_parts (said z) in
          let h' = sym (n.at _ w.0.low w.0.lower) ∙ h in
          more new (x.size ∙ u.size) (λ b l. two _ _ w.0 w.1 u x b l ∙ rw h' at (first_said z b)) (λ k b d l. x.others k b d l ∙ u.others k b d l)

      pub seq_first_left : {p q : ℕ} → TypeRow.seq p q ≡ type_form c → {null : List Bool} → Nulls row null i → flag null p ≡ false → {new : List ℕ} → United t new i t p → Firsts row new (i + 1)
      unfolding first model_form
      seq_first_left {p} z n h {new} u =
          let w = seq_parts (said z) in
          let h' = sym (n.at _ w.0.low w.0.lower) ∙ h in
          more new u.size (λ b l. one _ w.0 u b l ∙ sym (or_false (first (row_model row p) b)) ∙ rw h' at (first_said z b)) u.others

      pub choice_first : {p q : ℕ} → TypeRow.choice p q ≡ type_form c → {mid new : List ℕ} → United t mid i t p → United mid new i mid q → Firsts row new (i + 1)
      unfolding first model_form
      choice_first z {mid} {new} u x =
          let w = choice_parts (said z) in
          more new (x.size ∙ u.size) (λ b l. two _ _ w.0 w.1 u x b l ∙ first_said z b) (λ k b d l. x.others k b d l ∙ u.others k b d l)

      pub star_first : {p : ℕ} → TypeRow.star p ≡ type_form c → {new : List ℕ} → United t new i t p → Firsts row new (i + 1)
      unfolding first model_form
      star_first z {new} u = more new u.size (λ b l. one _ (star_part (said z)) u b l ∙ first_said z b) u.others

      bare : {u : TypeRow} → u ≡ type_form c → ((b : ℕ) → false ≡ first (model_form u i (row_model row)) b) → Firsts row t (i + 1)
      bare z h = more t refl (λ b l. f.none i (omega arith) b l ∙ h b ∙ first_said z b) (λ k b d l. refl)

      pub blank_first : TypeRow.none ≡ type_form c → Firsts row t (i + 1)
      unfolding first model_form
      blank_first z = bare z (λ b. refl)

      pub other_first : {u : Ty} → type_said u ≡ type_form c → (u ≡ Ty.Nothing) ⊎ (u ≡ Ty.Empty) → Firsts row t (i + 1)
      unfolding first model_form
      other_first z (inl k) = bare (rw k at z) (λ b. refl)
      other_first z (inr k) = bare (rw k at z) (λ b. refl)

-- ---- where the loop begins, goes on and ends

-- a blank row may be empty, and nothing stands first at it
module _ {row : ℕ → Cells} {n : ℕ} (R : Rows row n) where
  blank_null : (i : ℕ) → (row i).kind ≡ 0 → true ≡ nullable (row_model row i)
  blank_null i k = other_null R i (row i) refl {t = Ty.Nothing} (rw k) (inl refl)

  pub nulls_low : (null : List Bool) (low : ℕ) → length null ≡ 513 → ((i : ℕ) → 1 ≤ i → i ≤ low → ((row i).kind ≡ 0) × (flag null i ≡ true)) → Nulls row null (low + 1)
  nulls_low null low l h = record { size = l; at = λ j p q. (let z = h j p (omega arith) in z.1 ∙ blank_null j z.0) }

  pub firsts_low : (t : List ℕ) → Clear t → (low : ℕ) → ((i : ℕ) → 1 ≤ i → i ≤ low → (row i).kind ≡ 0) → Firsts row t (low + 1)
  firsts_low t c zero h = record { size = c.size; at = λ j p q. absurd (omega arith); none = λ j p b l. c.none j b l }
  firsts_low t c (suc k) h = let f = rw (add-one k) at (firsts_low t c k (λ i p q. h i p (omega arith))) in let z = h (suc k) (omega arith) (omega arith) in
      blank_first R (suc k) (row (suc k)) refl f (rw z)

pub nulls_more : (row : ℕ → Cells) (null : List Bool) (i : ℕ) (v : Bool) → Nulls row null i → i < 513 → v ≡ nullable (row_model row i) → Nulls row (set null i v) (i + 1)
nulls_more row null i v n l e = record {
  size = length-set null i v ∙ n.size;
  at = λ j p q. elim (ℕ_discrete j i) [ yes d ↦ rw d (flag_set null i v (omega (arith, n.size)) ∙ e) | no d ↦ flag_kept null i v j d ∙ n.at j p (omega arith) ];
}

pub tables : {row : ℕ → Cells} {n : ℕ} → Rows row n → {null : List Bool} {t : List ℕ} {i : ℕ} → n < i → Nulls row null i → Firsts row t i → Tables row n null t
tables {row} {n} R {null} {t} {i} h N f = record {
  size = f.size;
  empty = λ r x. N.at r (table_low n r x) (omega (arith, table_high n r x));
  begin = λ r x b. go r x b (either (ltb b 576));
}
  where
    go : (r : ℕ) → in_table n r ≡ true → (b : ℕ) → (ltb b 576 ≡ true) ⊎ (ltb b 576 ≡ false) → set_of t r b ≡ first (row_model row r) b
    go r x b (inl z) = rw z (f.at r (table_low n r x) (omega (arith, table_high n r x)) b (ltb-true b 576 z))
    go r x b (inr z) = rw z (sym (first_below R r b (omega (arith, ltb-false b 576 z, table_high n r x, R.few))))
