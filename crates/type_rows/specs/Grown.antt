-- Types as a check keeps them: the sheet's type rows, and past them rows written to the lent ones. The first n lent rows count; what is past them reads as zeros.
use Rattle.std.specs.Prelude.{ℕ, ◌+◌, ◌-◌, ◌≤◌, ◌<◌, ◌≡◌, true, cond, List, leb}
use native.Mathlib.Omega.{arith}
use Rattle.std.proofs.Math.Decide.{dec_le}
use Rattle.std.proofs.Common.{sym, ap, ◌∙◌, subst}
use borrow.Author.Tests.{le-leb, lt-leb}
use Rattle.meaning.specs.Tests.{in_table}
use Rattle.meaning.specs.Sheet.{Cells, blank, script_of}
use Rattle.meaning.specs.Kinds.{TypeRow, type_form}
use Rattle.meaning.specs.Types.{Ty, ty_form, ty_at}
use Rattle.meaning.specs.Laws.Apart.{Low, ty_at_same, ty_at_row}
use Rattle.meaning.specs.Laws.Rows.{SameRows}
use Rattle.meaning.specs.Theorems.ReadBack.{lent_row}
use Rattle.forest_rows.specs.Rows.{Pushed}

module _ (s work : List ℕ) (n : ℕ) where
  unfoldable pub type_in : ℕ → Cells
  type_in r = cond (leb r (script_of s).types) ((script_of s).type_row r) (cond (leb (r - (script_of s).types) n) (lent_row work (r - (script_of s).types)) blank)

  abbrev pub form_in : ℕ → TypeRow
  form_in r = type_form (type_in r)

  -- the type at a row; at row 0 it is ()
  abbrev pub ty_in : ℕ → Ty
  ty_in r = ty_at form_in r

  pub in_sheet : (r : ℕ) → r ≤ (script_of s).types → type_in r ≡ (script_of s).type_row r
  unfolding type_in
  in_sheet r h = rw (le-leb r (script_of s).types h)

  pub in_work : (r : ℕ) → (script_of s).types < r → r ≤ (script_of s).types + n → type_in r ≡ lent_row work (r - (script_of s).types)
  unfolding type_in
  in_work r h i = rw (lt-leb r (script_of s).types h, le-leb (r - (script_of s).types) n (omega arith))

  pub in_none : (r : ℕ) → (script_of s).types + n < r → type_in r ≡ blank
  unfolding type_in
  in_none r h = rw (lt-leb r (script_of s).types (omega arith), lt-leb (r - (script_of s).types) n (omega arith))

  -- rows refer to lower rows; names are the sheet's; first words are words
  pub record Grows : Type 0 where
    pub low : (i : ℕ) → Low (type_form (type_in i)) i
    pub known : (i : ℕ) → (type_in i).kind ≡ 8 → in_table (script_of s).names (type_in i).p ≡ true
    pub small : (i : ℕ) → (type_in i).p < 65536

  pub grown_row : Grows → (r : ℕ) → ty_in r ≡ ty_form (form_in r) ty_in
  grown_row g r = ty_at_row form_in g.low r

-- a row that says t: its type, and its parts are lower rows
module _ {s work : List ℕ} {n : ℕ} (g : Grows s work n) (r : ℕ) {c : Cells} (is : c ≡ type_in s work n r) {t : TypeRow} (e : t ≡ type_form c) where
  pub row_says : ty_in s work n r ≡ ty_form t (ty_in s work n)
  row_says = grown_row s work n g r ∙ ap (λ (x : TypeRow). ty_form x (ty_in s work n)) (sym (e ∙ ap type_form is))

  pub row_low : Low t r
  row_low = subst (λ (x : TypeRow). Low x r) (sym (e ∙ ap type_form is)) (g.low r)

-- rows that agree below keep their types
module _ (s old new : List ℕ) (n m : ℕ) (h : n ≤ m) (same : SameRows (lent_row old) (lent_row new) n) where
  pub row_kept : (i : ℕ) → i ≤ (script_of s).types + n → type_in s old n i ≡ type_in s new m i
  row_kept i l = elim (dec_le i (script_of s).types) [
    | yes j ↦ in_sheet s old n i j ∙ sym (in_sheet s new m i j)
    | no j ↦ in_work s old n i (omega arith) l ∙ same (i - (script_of s).types) (omega arith) (omega arith) ∙ sym (in_work s new m i (omega arith) (omega arith))
  ]

  pub ty_kept : Grows s old n → (r : ℕ) → r ≤ (script_of s).types + n → ty_in s new m r ≡ ty_in s old n r
  ty_kept g r l = sym (ty_at_same (form_in s old n) (form_in s new m) ((script_of s).types + n) (λ i j. g.low i) (λ i j. ap type_form (row_kept i j)) r l)

-- one row more
module _ (s old new : List ℕ) (n : ℕ) (c : Cells) (g : Grows s old n) (p : Pushed old new n c) where
  kept : (i : ℕ) → i ≤ (script_of s).types + n → type_in s old n i ≡ type_in s new (n + 1) i
  kept = row_kept s old new n (n + 1) (omega arith) p.same

  written_row : type_in s new (n + 1) ((script_of s).types + (n + 1)) ≡ c
  written_row =
      let at : (script_of s).types + (n + 1) - (script_of s).types ≡ n + 1 = omega arith in
      in_work s new (n + 1) ((script_of s).types + (n + 1)) (omega arith) (omega arith) ∙ ap (lent_row new) at ∙ p.row

  -- what holds of every row, by the rows before and the last
  by_rows : (P : Cells → ℕ → Type 0) → ((i : ℕ) → P (type_in s old n i) i) → P c ((script_of s).types + (n + 1)) → ((i : ℕ) → P blank i) → (i : ℕ) → P (type_in s new (n + 1) i) i
  by_rows P before here past i = elim (dec_le i ((script_of s).types + n)) [
    | yes h ↦ subst (λ (x : Cells). P x i) (kept i h) (before i)
    | no h ↦ elim (dec_le i ((script_of s).types + (n + 1))) [
      | yes j ↦ (let e : (script_of s).types + (n + 1) ≡ i = omega arith in
          subst (λ (k : ℕ). P (type_in s new (n + 1) k) k) e (subst (λ (x : Cells). P x ((script_of s).types + (n + 1))) (sym written_row) here))
      | no j ↦ subst (λ (x : Cells). P x i) (sym (in_none s new (n + 1) i (omega arith))) (past i)
    ]
  ]

  pub grows_more : Low (type_form c) ((script_of s).types + (n + 1)) → (c.kind ≡ 8 → in_table (script_of s).names c.p ≡ true) → c.p < 65536 → Grows s new (n + 1)
  unfolding Low
  grows_more low known small = record {
    low = by_rows (λ x i. Low (type_form x) i) g.low low (λ i. tt);
    known = by_rows (λ x i. x.kind ≡ 8 → in_table (script_of s).names x.p ≡ true) g.known known (λ i e. absurd (not_eight e));
    small = by_rows (λ x i. x.p < 65536) g.small small (λ i. omega arith);
  }
    where
      not_eight : blank.kind ≡ 8 → ⊥
      not_eight e = omega arith

  pub ty_more : Grows s new (n + 1) → ty_in s new (n + 1) ((script_of s).types + (n + 1)) ≡ ty_form (type_form c) (ty_in s new (n + 1))
  ty_more h = grown_row s new (n + 1) h ((script_of s).types + (n + 1)) ∙ ap (λ (x : Cells). ty_form (type_form x) (ty_in s new (n + 1))) written_row
