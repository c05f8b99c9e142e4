-- Each place of a shaped sheet's models acts as a text, a bool, or a label whose content is a row.
use Prim.Native.Nat.{ℕ}
use mathlib.Core.Path.{◌≡◌}
use mathlib.Core.Bool.{true}
use mathlib.Core.List.{List}
use Rattle.meaning.specs.Sheet.{script_of}
use Rattle.meaning.specs.Shape.{shapely}
use Rattle.meaning.specs.Laws.Wired.{has}
use Rattle.type_ties.specs.Users.{has_place}
use Rattle.type_places.specs.Tables.{model_of}
use Rattle.type_heads.specs.Heads.{acting_at, Acts, acts_as}

pub acts : (s : List ℕ) (e : shapely s ≡ true) (k a : ℕ) → has (model_of s k) a ≡ true → Acts (script_of s).types (acting_at s a)
acts s e k a h = acts_as s e a (has_place s e k a h)
