-- The code's enums and the meaning's: `use_of` and `uses_in` are the uses that they stand for, `Says` what is known of a row's kind.
use Rattle.std.specs.Prelude.{◌≡◌, Bool, true, false, ◌&&◌, ℕ, Option, Some, None}
use Rattle.meaning.specs.Tests.{in_table}
use Rattle.meaning.specs.Sheet.{Cells, Sheet}
use Rattle.meaning.specs.Sheet as sheet
use Rattle.meaning.specs.Shape.{uses, no_uses, argument, words_ok}
use Rattle.meaning.specs.Shape as meaning
use Rattle.shape_kinds.specs.declared.Use.{Use}
use Rattle.shape_kinds.specs.declared.Use.TheVariants.{Unused, Free, Label, Part, Link, Query, Name, Procedure, Tester, Size}
use Rattle.shape_kinds.specs.declared.Uses.{Uses}

abbrev pub use_of : Use → meaning.Use
use_of Unused = meaning.Use.unused
use_of Free = meaning.Use.free
use_of Label = meaning.Use.label
use_of Part = meaning.Use.part
use_of Link = meaning.Use.link
use_of Query = meaning.Use.query
use_of Name = meaning.Use.name
use_of Procedure = meaning.Use.procedure
use_of Tester = meaning.Use.tester
use_of (Size offset) = meaning.Use.size_at offset

abbrev pub uses_of : Uses → meaning.Uses
uses_of u = uses (use_of u.p) (use_of u.q) (use_of u.r)

abbrev pub is_known : Option Uses → Bool
is_known (Some u) = true
is_known None = false

-- a kind that is none of its table's says nothing of its words
abbrev pub uses_in : Option Uses → meaning.Uses
uses_in (Some u) = uses_of u
uses_in None = no_uses

-- k is what a row's kind says in a table of n kinds: known if it is one of them, and u of its words
pub record Says (n kind : ℕ) (u : meaning.Uses) (k : Option Uses) : Type 0 where
  pub is : is_known k ≡ in_table n kind
  pub uses : uses_in k ≡ u

-- k is what a call of the procedure c says
pub record Calls (c : sheet.Procedure) (k : Option Uses) : Type 0 where
  pub is : is_known k ≡ true
  pub uses : uses_in k ≡ uses meaning.Use.procedure (argument c.first) (argument c.second)

-- row i passes: its kind is one of the table's n, and its words are as they must be
abbrev pub row_ok : Sheet → ℕ → (Cells → meaning.Uses) → ℕ → Cells → Bool
row_ok s n u i c = in_table n c.kind && words_ok s (u c) i c
