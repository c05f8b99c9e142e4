use native.Mathlib.Omega.{arith}
use Rattle.meaning.specs.Sheet.{script_of}
use Rattle.meaning.specs.Laws.Tests.{in_table_lem}
use Rattle.meaning.specs.Laws.Shaped.{few_names}
use Rattle.type_barren.specs.Flags.{flag}
use Rattle.type_barren.specs.Marks.{rounding_more, content_fills}
use Rattle.type_barren.proofs.mark_all.Goals as goal

pub loop-x-preserved : goal.loop-x-preserved
loop-x-preserved c = let n = in_table_lem (script_of c.args.s.now).names c.loop-x.x c.loop-x.auto.x (omega arith) in
    rw c.mark.ensures (rounding_more c.args.s.now c.args.marked.now c.loop-x.marked c.loop-x.x _ n (omega (arith, few_names c.args.s.now c.requires.s_value))
    (content_fills c.args.s.now c.requires.s_value (flag c.args.marked.now) c.requires.filled c.loop-x.x n) c.loop-x.invariant)
