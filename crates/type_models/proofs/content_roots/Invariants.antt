-- `type_models::content_roots` meets its contract. The loop's invariant: the contents of the first i rows are flagged.
use Rattle.meaning.specs.Tests.{some}
use Rattle.sheet.specs.Table.{rows_in}
use Rattle.type_models.specs.Roots.{Marked, held_root}
use Rattle.type_models.proofs.content_roots.Given as goal

abbrev pub invariant-loop-i : goal.invariant-loop-i
invariant-loop-i l = Marked l.initial.root l.root (λ y. some (held_root (rows_in l.t) y) l.i)
