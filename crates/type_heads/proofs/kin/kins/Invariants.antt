-- `type_heads::kin::kins` meets its contract. The loop's invariant: the first i rows have their kin.
use Rattle.sheet.specs.Table.{rows_in}
use Rattle.type_heads.specs.Kin.{Kins}
use Rattle.type_heads.proofs.kin.kins.Given as goal

abbrev pub invariant-loop-i : goal.invariant-loop-i
invariant-loop-i l = Kins (rows_in l.t) l.i l.s l.class l.kin
