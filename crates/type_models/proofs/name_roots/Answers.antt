use Prim.Native.Nat.{◌+◌}
use mathlib.Core.Path.{ap}
use lib.Dec.{eqb}
use Rattle.type_models.specs.Roots.{named_root, some_none, some_more, marked_as}
use Rattle.type_models.proofs.name_roots.Goals as goal

pub loop-x-init : goal.loop-x-init
loop-x-init c = some_none c.args.root.now (named_root c.args.s.now)

pub loop-x-preserved : goal.loop-x-preserved
loop-x-preserved c = some_more (named_root c.args.s.now) c.loop-x.x c.loop-x.invariant
    (marked_as (λ y. named_root c.args.s.now y (c.loop-x.x + 1)) (λ y. ap (λ r. eqb r y) c.name_row.ensures.value) c.mark.ensures)
