-- `type_places::behinds` meets its contract. The loop's invariant: the rows above i have handed their sets down.
use Rattle.sheet.specs.Table.{rows_in}
use Rattle.type_places.specs.Tables.{Falling}
use Rattle.type_places.proofs.behinds.Given as goal

abbrev pub invariant-loop-i : goal.invariant-loop-i
invariant-loop-i l = Falling (rows_in l.t) l.root l.behind l.top l.i
