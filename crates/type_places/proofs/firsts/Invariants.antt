-- `type_places::firsts` meets its contract. The loop's invariant: both tables are right below row i.
use Rattle.sheet.specs.Table.{rows_in}
use Rattle.type_places.specs.Tables.{Nulls, Firsts}
use Rattle.type_places.proofs.firsts.Given as goal

abbrev pub invariant-loop-i : goal.invariant-loop-i
invariant-loop-i l = Nulls (rows_in l.t) l.null l.i × Firsts (rows_in l.t) l.first l.i
