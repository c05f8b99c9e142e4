-- `type_models::name_roots` meets its contract. The loop's invariant: the rows of the first x names are flagged.
use Rattle.meaning.specs.Tests.{some}
use Rattle.type_models.specs.Roots.{Marked, named_root}
use Rattle.type_models.proofs.name_roots.Given as goal

abbrev pub invariant-loop-x : goal.invariant-loop-x
invariant-loop-x l = Marked l.initial.root l.root (λ y. some (named_root l.s y) l.x)
