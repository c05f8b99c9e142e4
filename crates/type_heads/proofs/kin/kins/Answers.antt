use mathlib.Core.Path.{ap, ◌∙◌}
use native.Mathlib.Omega.{arith}
use Rattle.sheet.specs.Table.{rows_in}
use Rattle.type_heads.specs.Kin.{kin_no, kins_low, kins_more}
use Rattle.type_heads.proofs.kin.kins.Goals as goal

pub loop-i-init : goal.loop-i-init
loop-i-init c = rw c.requires.kin_value (kins_low (rows_in c.args.t.now) c.args.s.now c.args.class.now c.args.low c.requires.low_le_n.1)

pub loop-i-preserved : goal.loop-i-preserved
loop-i-preserved c = kins_more (rows_in c.args.t.now) c.args.s.now c.args.class.now c.loop-i.kin c.loop-i.i c.kin_of.result c.loop-i.invariant (omega arith)
    (c.kin_of.ensures ∙ ap (kin_no c.args.s.now c.args.class.now) c.row.ensures)
