-- `type_models::procedure_roots` meets its contract. The loop's invariant: the types of the first c procedures are flagged.
use Rattle.meaning.specs.Tests.{some}
use Rattle.type_models.specs.Roots.{Marked, signed_root}
use Rattle.type_models.proofs.procedure_roots.Given as goal

abbrev pub invariant-loop-c : goal.invariant-loop-c
invariant-loop-c l = Marked l.initial.root l.root (λ y. some (signed_root l.s y) l.c)
