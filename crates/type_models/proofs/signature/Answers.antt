-- `type_models::signature` meets its contract: the four rows that the procedure names.
use Rattle.sheet.specs.Laid.{procedure_of}
use Rattle.type_models.specs.Roots.{marked_then, signed}
use Rattle.type_models.proofs.signature.Goals as goal

pub returns : goal.returns
returns c = signed c.args.s.now c.args.c (procedure_of c.procedure_row-row.result) c.procedure_row-row.ensures
    (marked_then (marked_then (marked_then c.mark.ensures c.mark-2.ensures) c.mark-3.ensures) c.mark-4.ensures)
