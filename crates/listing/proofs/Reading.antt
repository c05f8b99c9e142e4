-- The reader, lent room for the largest sheet.
use Prim.Native.Nat.{ℕ, ◌≤◌}
use mathlib.Core.Path.{◌≡◌, ap, ◌∙◌}
use mathlib.Core.List.{List}
use native.Mathlib.Omega.{arith}
use lib.ListN.{length, take, replicate, length-replicate}
use Rattle.bundle.specs.Reads.{largest, Held}
use Rattle.meaning.specs.Sheet.{need}
use Rattle.listing.specs.declared.Listed.{Listed}
use Rattle.listing.specs.Lists.{SheetTold, Lists, sheet_lists}

pub roomy : largest ≤ length (replicate {A = ℕ} 44704 0)
roomy = omega (arith, length-replicate {A = ℕ} 44704 0)

-- what is told of the bytes that the reader gave is told of the bundle's sheet
pub told_of : {b after old new : List ℕ} {l : Listed} → Held b after → {n : ℕ} → n ≡ need after → SheetTold (take n after) old new l → Lists b l new
told_of {b} {after} held e t = sheet_lists held.is_framed (rw (ap (λ (k : ℕ). take k after) e ∙ held.is_sheet) at t)
