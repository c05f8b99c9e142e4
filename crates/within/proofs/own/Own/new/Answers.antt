-- `within::own::Own::new` meets its contract: rows of zeros are blank.
use Rattle.type_rows.specs.Writing.{blank_all}
use Rattle.within.proofs.own.Own.new.Goals as goal

pub invariant_of-result : goal.invariant_of-result
invariant_of-result c = record { blank = blank_all }
