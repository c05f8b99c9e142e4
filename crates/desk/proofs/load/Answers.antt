-- `desk::load` meets its contract: the forest's bytes lie in the sheet, and their copy reads as they do.
use Rattle.std.proofs.Common.{arith, ◌∙◌}
use Rattle.meaning.specs.Laws.Shaped.{long}
use Rattle.desk.specs.Load.{load_rows}
use Rattle.desk.proofs.load.Goals as goal

pub returns : goal.returns
returns c = load_rows c.args.s.now _ _ (omega (arith, long c.args.s.now c.requires.0)) (c.copy_from_slice.ensures.after ∙ c.row_bytes-rows.ensures)
