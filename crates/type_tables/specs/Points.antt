-- Where each row begins, End among it: a set of places for each row; and what stands behind the places of each type asked about. By the tables of `places`.
use Rattle.std.specs.Prelude.{ℕ, ◌≤◌, ◌<◌, ◌≡◌, refl, Bool, true, false, ◌&&◌, ◌||◌, List, ◌⊎◌, eqb, ltb, length, set, replicate}
use Rattle.std.proofs.Common.{sym, ◌∙◌, inl, inr, arith, eq-eqb, ne_eqb, eqb-true, lt-ltb, ltb-true}
use Rattle.std.proofs.lemmas.List.{length-replicate, get_or-replicate}
use Rattle.meaning.specs.Tests.{in_table, some}
use Rattle.meaning.specs.Sheet.{Cells, script_of}
use Rattle.meaning.specs.Places.{nullable, first, start}
use Rattle.meaning.specs.Shape.{shapely}
use Rattle.meaning.specs.Laws.Bools.{or_left, or_right, and_left, and_right, and_both, and_false, either, not_both}
use Rattle.meaning.specs.Laws.Tests.{table_low, table_high, some_at, some_of}
use Rattle.meaning.specs.Laws.Shaped.{few_types}
use Rattle.meaning.specs.Laws.Wired.{Wired, ends}
use Rattle.meaning.specs.Laws.Apart.{Side, side_lower}
use Rattle.bits.specs.Sets.{in_set}
use Rattle.type_barren.specs.Flags.{flag, flag_set, flag_kept, unset}
use Rattle.type_places.specs.Tables.{row_form, row_model, set_of, Rows, Tables, Free, Wires}
use Rattle.type_models.specs.Roots.{is_root, Rooted, Marked, held_root}
use Rattle.type_rows.specs.Writing.{own_row, Blank}

-- End stands where the rows low + 1 to n begin, if they may be empty
pub record Started (null : List Bool) (old new : List ℕ) (low n : ℕ) : Type 0 where
  pub size : length new ≡ length old
  pub into : (r : ℕ) → low < r → r ≤ n → (b : ℕ) → b < 576 → in_set new r b ≡ in_set old r b || flag null r && eqb 0 b
  pub others : (r : ℕ) → n < r → (b : ℕ) → b < 576 → in_set new r b ≡ in_set old r b

-- then each row's set is what may stand where its type begins
pub begun : {row : ℕ → Cells} {low n : ℕ} {null : List Bool} {old new : List ℕ} → Tables row n null old → Started null old new low n → (r : ℕ) → in_table n r ≡ true → low < r → (b : ℕ)
    → set_of new r b ≡ start (row_model row r) b
begun {row} {n = n} {null} {old} {new} t w r h l b = elim (either (ltb b 576)) [
  | inl z ↦ (let o : in_set old r b ≡ first (row_model row r) b = rw z at (t.begin r h b) in rw z (w.into r l (table_high n r h) b (ltb-true b 576 z) ∙ rw (o, t.empty r h)))
  | inr z ↦ (let o : false ≡ first (row_model row r) b = rw z at (t.begin r h b) in let q : (0 ≡ b → ⊥) = λ y. past b z y in rw (z, ← o, ne_eqb 0 b q) (sym (and_false (nullable (row_model row r)))))
]
  where
    past : (b : ℕ) → ltb b 576 ≡ false → 0 ≡ b → ⊥
    past b z y = not_both (lt-ltb b 576 (omega arith)) z

-- ---- the sheet's

pub record SheetPoints (s opens nexts : List ℕ) : Type 0 where
  pub begins : (r : ℕ) → in_table (script_of s).types r ≡ true → (b : ℕ) → set_of opens r b ≡ start (row_model (script_of s).type_row r) b
  pub roots : (r : ℕ) → in_table (script_of s).types r ≡ true → is_root s r ≡ true → Wired (set_of nexts) (row_model (script_of s).type_row r) ends

pub sheet_points : {s : List ℕ} → shapely s ≡ true → {null root : List Bool} {old opens nexts : List ℕ} → Tables (script_of s).type_row (script_of s).types null old → Rooted s root
    → Wires (script_of s).type_row root nexts (script_of s).types → Started null old opens 0 (script_of s).types → SheetPoints s opens nexts
sheet_points {s} e t g w o = record {
  begins = λ r h. begun t o r h (table_low (script_of s).types r h);
  roots = λ r h k. w.wired r (table_low (script_of s).types r h) (table_high (script_of s).types r h) (g.at r (omega (arith, table_high (script_of s).types r h, few_types s e)) ∙ k);
}

-- ---- those of a type written out

-- no side is a content; label rows and their contents are rows of the table
pub record Apart (row : ℕ → Cells) : Type 0 where
  pub sides : (i j k : ℕ) → Side (row_form row i) j → (row k).kind ≡ 4 → (row k).q ≡ j → ⊥
  pub label : (i : ℕ) → (row i).kind ≡ 4 → in_table 512 i ≡ true
  pub content : (i : ℕ) → (row i).kind ≡ 4 → in_table 512 (row i).q ≡ true

pub record OwnPoints (own first behind : List ℕ) : Type 0 where
  pub begins : (b : ℕ) → set_of first 512 b ≡ start (row_model (own_row own) 512) b
  pub insides : (i : ℕ) → (own_row own i).kind ≡ 4 → (b : ℕ) → set_of first (own_row own i).q b ≡ start (row_model (own_row own) (own_row own i).q) b
  pub top : Wired (set_of behind) (row_model (own_row own) 512) ends
  pub contents : (i : ℕ) → (own_row own i).kind ≡ 4 → Wired (set_of behind) (row_model (own_row own) (own_row own i).q) ends

-- all flags are set
pub all_set : (i : ℕ) → i < 513 → flag (replicate 513 true) i ≡ true
all_set i l = get_or-replicate 513 i true false l

-- the roots: row 512 and the contents
abbrev pub topped : List Bool
topped = set (replicate 513 false) 512 true

module _ {row : ℕ → Cells} (R : Rows row 512) (A : Apart row) {root : List Bool} (m : Marked topped root (λ y. some (held_root row y) 512)) where
  pub own_free : Free row root 512
  own_free i j l h x = m.at j (omega (arith, low)) ∙ rw (flag_kept (replicate 513 false) 512 true j (λ z. omega (arith, low)), unset 513 j) (none (either (some (held_root row j) 512)))
    where
      low : j < i
      low = side_lower (row_form row i) i j (R.lower i) x

      none : (some (held_root row j) 512 ≡ true) ⊎ (some (held_root row j) 512 ≡ false) → some (held_root row j) 512 ≡ false
      none (inr z) = z
      none (inl z) = let k = some_of (held_root row j) 512 z in absurd
          (A.sides i j k.0 x (eqb-true (row k.0).kind 4 (and_left (eqb (row k.0).kind 4) (eqb (row k.0).q j) k.3))
          (eqb-true (row k.0).q j (and_right (eqb (row k.0).kind 4) (eqb (row k.0).q j) k.3)))

  pub top_root : flag root 512 ≡ true
  top_root = m.at 512 (omega arith) ∙ or_left (some (held_root row 512) 512) (flag_set (replicate 513 false) 512 true (omega (arith, length-replicate {A = Bool} 513 false)))

  pub content_root : (i : ℕ) → (row i).kind ≡ 4 → flag root (row i).q ≡ true
  content_root i k = let h = A.label i k in m.at (row i).q (omega (arith, table_high 512 (row i).q (A.content i k)))
      ∙ or_right (flag topped (row i).q) (some_at (held_root row (row i).q) 512 i (table_low 512 i h) (table_high 512 i h)
      (and_both (eqb (row i).kind 4) (eqb (row i).q (row i).q) (eq-eqb (row i).kind 4 k) (eq-eqb (row i).q (row i).q refl)))

pub own_points : {own : List ℕ} {root null : List Bool} {old first behind : List ℕ} {low : ℕ} → Rows (own_row own) 512 → Apart (own_row own) → Blank own low
    → Marked topped root (λ y. some (held_root (own_row own) y) 512)
    → Tables (own_row own) 512 null old → Wires (own_row own) root behind 512 → Started null old first low 512 → OwnPoints own first behind
own_points {own} R A n m t w o = record {
  begins = begun t o 512 refl n.few;
  insides = λ i k. begun t o (own_row own i).q (A.content i k) (n.unused i (own_row own i).q (inl (k, refl)));
  top = w.wired 512 (omega arith) (omega arith) (top_root R A m);
  contents = λ i k. (let h = A.content i k in w.wired (own_row own i).q (table_low 512 (own_row own i).q h) (table_high 512 (own_row own i).q h) (content_root R A m i k));
}
