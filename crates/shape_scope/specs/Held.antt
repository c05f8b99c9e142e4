-- What a place of the code's holds, in the meaning's words.
use Rattle.meaning.specs.Shape.{Holds, a_forest, a_tree}
use Rattle.shape_scope.specs.declared.word.Place.{Place}
use Rattle.shape_scope.specs.declared.word.Place.TheVariants.{Forest, Tree}

abbrev pub held_of : Place → Holds
held_of Forest = a_forest
held_of Tree = a_tree
