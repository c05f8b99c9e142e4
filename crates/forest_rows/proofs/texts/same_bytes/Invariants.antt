-- `forest_rows::texts::same_bytes` meets its contract: what is still to be compared decides, from the first byte on.
use mathlib.Core.Path.{◌≡◌}
use Rattle.meaning.specs.Forest.{bytes_from, equal_bytes}
use Rattle.forest_rows.proofs.texts.Bytes.{pool, rest}
use Rattle.forest_rows.proofs.texts.same_bytes.Given as goal

abbrev pub invariant-loop-i : goal.invariant-loop-i
invariant-loop-i l = equal_bytes (bytes_from (pool l.s) l.o l.n) (bytes_from (pool l.s) l.p l.n) ≡ rest (pool l.s) l.o l.p l.n l.i
