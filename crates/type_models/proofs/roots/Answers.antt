-- `type_models::roots` meets its contract: all of them together.
use Rattle.type_models.specs.Roots.{marked_then, rooted}
use Rattle.type_models.proofs.roots.Goals as goal

pub returns : goal.returns
returns c = rooted c.args.s.now c.a.ensures c.b.ensures c.type_table.ensures.is c.told-root c.requires.by_index
    (marked_then (marked_then (marked_then (marked_then c.mark.ensures c.mark-2.ensures) c.name_roots.ensures) c.procedure_roots.ensures) c.content_roots.ensures)
