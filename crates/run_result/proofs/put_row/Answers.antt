-- `run_result::put_row` meets its contract: four words, eight stores in a row.
use mathlib.Core.Path.{◌∙◌}
use Rattle.run_result.specs.Replaced.{eight_stores}
use Rattle.run_result.proofs.put_row.Goals as goal

pub returns : goal.returns
returns c =
    c.put_word-4.ensures
    ∙ rw (c.put_word-3.ensures, c.put_word-2.ensures, c.put_word.ensures)
    (eight_stores c.args.n c.args.kind c.args.p c.args.q c.args.next c.args.res.now c.requires)
