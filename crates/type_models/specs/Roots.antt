-- Flags set by tests: each store adds a test, and a loop over a table adds `some` of its rows. All of them together say which rows are declared types or contents.
use Rattle.std.specs.Prelude.{ℕ, zero, suc, ◌+◌, ◌≤◌, ◌<◌, ◌≡◌, refl, Bool, true, false, ◌&&◌, ◌||◌, List, eqb, length, set}
use Rattle.std.proofs.Common.{sym, ◌∙◌, ap, add-one, arith, length-set, eq-eqb, ne_eqb}
use Rattle.std.proofs.Math.Decide.{ℕ_discrete}
use Rattle.meaning.specs.Tests.{some}
use Rattle.meaning.specs.Sheet.{Cells, Procedure, script_of}
use Rattle.meaning.specs.Places.{is_declared, is_content}
use Rattle.meaning.specs.Laws.Bools.{or_false, or_or}
use Rattle.sheet.specs.Table.{Table, rows_in, types_in}
use Rattle.type_barren.specs.Flags.{flag, flag_set, flag_kept}

-- row r is a declared type or a content
abbrev pub is_root : List ℕ → ℕ → Bool
is_root s r = is_declared (script_of s) r || is_content (script_of s) r

-- the flags say which rows are declared types or contents
pub record Rooted (s : List ℕ) (root : List Bool) : Type 0 where
  pub size : length root ≡ 513
  pub at : (r : ℕ) → r < 513 → flag root r ≡ is_root s r

-- the flags of the rows that pass the test are set besides
pub record Marked (old new : List Bool) (test : ℕ → Bool) : Type 0 where
  pub size : length new ≡ length old
  pub at : (y : ℕ) → y < 513 → flag new y ≡ flag old y || test y

or_all : (a : Bool) → a || true ≡ true
or_all true = refl
or_all false = refl

pub marked_none : (old : List Bool) → Marked old old (λ y. false)
marked_none old = record { size = refl; at = λ y l. sym (or_false (flag old y)) }

pub marked_row : (old : List Bool) (r : ℕ) → length old ≡ 513 → r < 513 → Marked old (set old r true) (λ y. eqb r y)
marked_row old r l h = record {
  size = length-set old r true;
  at = λ y k. elim (ℕ_discrete y r) [
    | yes z ↦ rw (z, eq-eqb r r refl, or_all (flag old r)) (flag_set old r true (omega arith))
    | no z ↦ rw (ne_eqb r y (λ w. z (sym w)), or_false (flag old y)) (flag_kept old r true y z)
  ];
}

pub marked_past : (old : List Bool) (r : ℕ) → 513 ≤ r → Marked old old (λ y. eqb r y)
marked_past old r h = record { size = refl; at = λ y k. rw (ne_eqb r y (λ z. omega arith), or_false (flag old y)) }

pub marked_then : {old mid new : List Bool} {f g : ℕ → Bool} → Marked old mid f → Marked mid new g → Marked old new (λ y. f y || g y)
marked_then {old} {f = f} {g = g} a b = record { size = b.size ∙ a.size; at = λ y l. b.at y l ∙ rw (a.at y l) (or_or (flag old y) (f y) (g y)) }

-- the same test in other words
pub marked_as : {old new : List Bool} {f : ℕ → Bool} (g : ℕ → Bool) → ((y : ℕ) → f y ≡ g y) → Marked old new f → Marked old new g
marked_as {old} g h m = record { size = m.size; at = λ y l. m.at y l ∙ ap (λ b. flag old y || b) (h y) }

-- one row of a table more
pub some_none : (old : List Bool) (test : ℕ → ℕ → Bool) → Marked old old (λ y. some (test y) 0)
unfolding some
some_none old test = marked_none old

pub some_more : {old mid new : List Bool} (test : ℕ → ℕ → Bool) (x : ℕ) → Marked old mid (λ y. some (test y) x) → Marked mid new (λ y. test y (x + 1)) → Marked old new (λ y. some (test y) (x + 1))
unfolding some
some_more test x a b = rw (add-one x) (rw (add-one x) at (marked_then a b))

-- ---- what each table adds

-- row y is the content of row i
abbrev pub held_root : (ℕ → Cells) → ℕ → ℕ → Bool
held_root row y i = eqb (row i).kind 4 && eqb (row i).q y

-- blank rows have no content
pub none_held : (row : ℕ → Cells) (old : List Bool) (low : ℕ) → ((i : ℕ) → 1 ≤ i → i ≤ low → (row i).kind ≡ 0) → Marked old old (λ y. some (held_root row y) low)
unfolding some
none_held row old low h = marked_as (λ y. some (held_root row y) low) (λ y. sym (go y low h)) (marked_none old)
  where
    go : (y low : ℕ) → ((i : ℕ) → 1 ≤ i → i ≤ low → (row i).kind ≡ 0) → some (held_root row y) low ≡ false
    go y zero h = refl
    go y (suc k) h = rw (go y k (λ i p q. h i p (omega arith)), h (suc k) (omega arith) (omega arith))

module _ (s : List ℕ) where
  abbrev pub named_root : ℕ → ℕ → Bool
  named_root y x = eqb ((script_of s).name_row x) y

  abbrev pub signed_root : ℕ → ℕ → Bool
  signed_root y c = eqb ((script_of s).procedure_row c).first y || eqb ((script_of s).procedure_row c).second y || eqb ((script_of s).procedure_row c).input y
      || eqb ((script_of s).procedure_row c).output y

  pub signed : (c : ℕ) (row : Procedure) → row ≡ (script_of s).procedure_row c → {old new : List Bool}
      → Marked old new (λ y. eqb row.first y || eqb row.second y || eqb row.input y || eqb row.output y) → Marked old new (λ y. signed_root y c)
  signed c row r m = marked_as (λ y. signed_root y c) (λ y. rw r) m

  pub rooted : {a b : ℕ} {t : Table} → a ≡ (script_of s).a → b ≡ (script_of s).b → t ≡ types_in s → {old new : List Bool} → length old ≡ 513 → ((y : ℕ) → flag old y ≡ false)
      → Marked old new (λ y. eqb a y || eqb b y || some (named_root y) (script_of s).names || some (signed_root y) (script_of s).procedures || some (held_root (rows_in t) y) t.rows)
      → Rooted s new
  unfolding script_of
  rooted p q w n z m = record { size = m.size ∙ n; at = λ y l. m.at y l ∙ rw (z y, p, q, w) }
