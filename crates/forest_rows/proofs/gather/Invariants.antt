-- `forest_rows::gather` meets its contract: the links are gone through from the last, each result set before what is gathered.
use Rattle.forest_rows.specs.Rows.{GatherAsks}
use Rattle.forest_rows.proofs.Copies.{Going}
use Rattle.forest_rows.proofs.gather.Given as goal

abbrev pub invariant-loop-at : goal.invariant-loop-at
invariant-loop-at l = (j : GatherAsks l.initial.rows l.used l.link) × Going j.byte l.initial.rows l.rows l.used l.link l.at l.root l.n

abbrev pub decreases-loop-at : goal.decreases-loop-at
decreases-loop-at l = l.at
