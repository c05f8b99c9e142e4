-- `type_ties::Tables::new` meets its contract: zeros are no members.
use mathlib.Core.Path.{refl}
use Rattle.type_places.specs.Tables.{clear_zeros}
use Rattle.type_ties.proofs.Tables.new.Goals as goal

pub returns : goal.returns
returns c = record { first = clear_zeros; behind = clear_zeros; class = refl; same = clear_zeros; kin = refl }
