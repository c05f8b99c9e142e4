-- `shape_scope::word::Scopes::new` meets its contract: words of no place are neat.
use mathlib.Core.Path.{refl}
use Rattle.shape_scope.proofs.Loops.{fresh_words}
use Rattle.shape_scope.proofs.word.Scopes.new.Goals as goal

pub invariant_of-result : goal.invariant_of-result
invariant_of-result c = fresh_words refl
