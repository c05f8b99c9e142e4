use Rattle.sheet.specs.Table.{rows_in}
use Rattle.type_models.specs.Roots.{held_root, none_held, some_more}
use Rattle.type_models.proofs.content_roots.Goals as goal

pub loop-i-init : goal.loop-i-init
loop-i-init c = none_held (rows_in c.args.t.now) c.args.root.now c.args.low c.requires.1

pub loop-i-preserved : goal.loop-i-preserved
loop-i-preserved c = some_more (held_root (rows_in c.args.t.now)) c.loop-i.i c.loop-i.invariant c.content.ensures
