-- The reader, lent room for the largest sheet.
use Prim.Native.Nat.{ℕ, ◌≤◌}
use native.Mathlib.Omega.{arith}
use lib.ListN.{length, replicate, length-replicate}
use Rattle.bundle.specs.Reads.{largest}

pub roomy : largest ≤ length (replicate {A = ℕ} 44704 0)
roomy = omega (arith, length-replicate {A = ℕ} 44704 0)
