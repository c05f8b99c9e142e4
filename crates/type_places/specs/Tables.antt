-- The tables of a table of type rows: which rows may be empty, what may stand first at each row and what may stand next behind each row.
use Rattle.std.specs.Prelude.{ℕ, ◌+◌, ◌*◌, ◌/◌, ◌%◌, ◌≤◌, ◌<◌, ◌≡◌, Bool, true, false, ◌&&◌, ◌||◌, List, ltb, eqb, length, replicate}
use Rattle.std.proofs.lemmas.List.{length-replicate}
use Rattle.meaning.specs.Tests.{in_table}
use Rattle.meaning.specs.Sheet.{Cells, script_of}
use Rattle.meaning.specs.Kinds.{TypeRow, type_form}
use Rattle.meaning.specs.Places.{Model, model_at, Set, nullable, first}
use Rattle.meaning.specs.Laws.Wired.{Wired, ends}
use Rattle.meaning.specs.Laws.Apart.{Side, Lower, Once}
use Rattle.bits.specs.Sets.{in_set, Clear}
use Rattle.bits.specs.Digits.{bit_none}
use Rattle.meaning.specs.Laws.Words.{zeros}
use Rattle.type_barren.specs.Flags.{flag}

abbrev pub row_form : (ℕ → Cells) → ℕ → TypeRow
row_form row i = type_form (row i)

-- the model at row r
abbrev pub row_model : (ℕ → Cells) → ℕ → Model
row_model row r = model_at (row_form row) r

-- and at row r of the sheet s
abbrev pub model_of : List ℕ → ℕ → Model
model_of s r = row_model (script_of s).type_row r

-- n rows, each with one user at most; a side is a lower row, and not 0
pub record Rows (row : ℕ → Cells) (n : ℕ) : Type 0 where
  pub few : n ≤ 512
  pub lower : Lower row
  pub once : Once row
  pub low : (i j : ℕ) → Side (row_form row i) j → 1 ≤ j

-- set k of a table: there is room for the places 0 to 575
abbrev pub set_of : List ℕ → ℕ → Set
set_of t k = λ b. ltb b 576 && in_set t k b

-- the flags of the rows below i say which may be empty
pub record Nulls (row : ℕ → Cells) (null : List Bool) (i : ℕ) : Type 0 where
  pub size : length null ≡ 513
  pub at : (j : ℕ) → 1 ≤ j → j < i → flag null j ≡ nullable (row_model row j)

-- the sets of the rows below i are what may stand first, and the others have no member
pub record Firsts (row : ℕ → Cells) (t : List ℕ) (i : ℕ) : Type 0 where
  pub size : length t ≡ 4617
  pub at : (j : ℕ) → 1 ≤ j → j < i → (b : ℕ) → b < 576 → in_set t j b ≡ first (row_model row j) b
  pub none : (j : ℕ) → i ≤ j → (b : ℕ) → b < 576 → in_set t j b ≡ false

-- both, for every row
pub record Tables (row : ℕ → Cells) (n : ℕ) (null : List Bool) (t : List ℕ) : Type 0 where
  pub size : length t ≡ 4617
  pub empty : (r : ℕ) → in_table n r ≡ true → flag null r ≡ nullable (row_model row r)
  pub begin : (r : ℕ) → in_table n r ≡ true → (b : ℕ) → set_of t r b ≡ first (row_model row r) b

-- what stands behind the sides of row i, by what stands behind it
unfoldable pub Down : (ℕ → Cells) → List ℕ → TypeRow → ℕ → Type 0
Down row t TypeRow.none i = Unit {0}
Down row t TypeRow.empty i = Unit {0}
Down row t TypeRow.text i = Unit {0}
Down row t TypeRow.bool i = Unit {0}
Down row t (TypeRow.label n q) i = Unit {0}
Down row t (TypeRow.seq p q) i = ((b : ℕ) → b < 576 → in_set t p b ≡ first (row_model row q) b || nullable (row_model row q) && in_set t i b) × ((b : ℕ) → b < 576 → in_set t q b ≡ in_set t i b)
Down row t (TypeRow.choice p q) i = ((b : ℕ) → b < 576 → in_set t p b ≡ in_set t i b) × ((b : ℕ) → b < 576 → in_set t q b ≡ in_set t i b)
Down row t (TypeRow.star p) i = (b : ℕ) → b < 576 → in_set t p b ≡ first (row_model row p) b || in_set t i b
Down row t (TypeRow.name x) i = Unit {0}

-- set p has what stands first at row q besides and, if that may be empty, the members of set i; no other set is changed
pub record Passed (old new : List ℕ) (p i : ℕ) (null : List Bool) (begin : List ℕ) (q : ℕ) : Type 0 where
  pub size : length new ≡ length old
  pub into : (b : ℕ) → b < 576 → in_set new p b ≡ in_set old p b || (in_set begin q b || flag null q && in_set old i b)
  pub others : (h b : ℕ) → (h ≡ p → ⊥) → b < 576 → in_set new h b ≡ in_set old h b

-- the sets of the sides of row i have no member yet
pub record Ready (row : ℕ → Cells) (t : List ℕ) (i : ℕ) : Type 0 where
  pub size : length t ≡ 4617
  pub none : (j : ℕ) → Side (row_form row i) j → (b : ℕ) → b < 576 → in_set t j b ≡ false

-- row i has handed its set down to its sides, and no other set is changed
pub record Fell (row : ℕ → Cells) (old new : List ℕ) (i : ℕ) : Type 0 where
  pub size : length new ≡ length old
  pub down : Down row new (row_form row i) i
  pub others : (j : ℕ) → (Side (row_form row i) j → ⊥) → (b : ℕ) → b < 576 → in_set new j b ≡ in_set old j b

-- End stands behind row i, if that is a root
pub record Ended (old new : List ℕ) (root : List Bool) (i : ℕ) : Type 0 where
  pub size : length new ≡ length old
  pub into : (b : ℕ) → b < 576 → in_set new i b ≡ in_set old i b || flag root i && eqb 0 b
  pub others : (h b : ℕ) → (h ≡ i → ⊥) → b < 576 → in_set new h b ≡ in_set old h b

-- the rows from `top` down to i + 1 have handed their sets down; the sets of the other rows whose user is to come have no member
pub record Falling (row : ℕ → Cells) (root : List Bool) (t : List ℕ) (top i : ℕ) : Type 0 where
  pub size : length t ≡ 4617
  pub none : (j : ℕ) → j ≤ i → ((k : ℕ) → i < k → k ≤ top → Side (row_form row k) j → ⊥) → (b : ℕ) → b < 576 → in_set t j b ≡ false
  pub down : (k : ℕ) → i < k → k ≤ top → Down row t (row_form row k) k
  pub ended : (k : ℕ) → i < k → k ≤ top → flag root k ≡ true → (b : ℕ) → b < 576 → in_set t k b ≡ eqb 0 b

-- no side of a row up to `top` is a root
abbrev pub Free : (ℕ → Cells) → List Bool → ℕ → Type 0
Free row root top = (i j : ℕ) → 1 ≤ i → i ≤ top → Side (row_form row i) j → flag root j ≡ false

-- the sets of the rows up to `top` are wired for the model at each root
pub record Wires (row : ℕ → Cells) (root : List Bool) (t : List ℕ) (top : ℕ) : Type 0 where
  pub wired : (r : ℕ) → 1 ≤ r → r ≤ top → flag root r ≡ true → Wired (set_of t) (row_model row r) ends

-- ---- zeros

pub clear_zeros : Clear (replicate 4617 0)
unfolding in_set
clear_zeros = record { size = length-replicate {A = ℕ} 4617 0; none = λ k b l. rw (zeros 4617 (9 * k + b / 64), bit_none (b % 64)) }
