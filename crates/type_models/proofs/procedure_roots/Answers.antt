use Rattle.type_models.specs.Roots.{signed_root, some_none, some_more}
use Rattle.type_models.proofs.procedure_roots.Goals as goal

pub loop-c-init : goal.loop-c-init
loop-c-init c = some_none c.args.root.now (signed_root c.args.s.now)

pub loop-c-preserved : goal.loop-c-preserved
loop-c-preserved c = some_more (signed_root c.args.s.now) c.loop-c.c c.loop-c.invariant c.signature.ensures
