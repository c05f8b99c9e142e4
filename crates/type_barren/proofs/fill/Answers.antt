use native.Mathlib.Omega.{arith}
use Rattle.type_barren.specs.Flags.{flag}
use Rattle.meaning.specs.Laws.Shaped.{few_types}
use Rattle.type_barren.specs.Marks.{filled_more}
use Rattle.type_barren.proofs.fill.Goals as goal

pub bounds-full-i : goal.bounds-full-i
bounds-full-i c = omega (arith, few_types c.args.s.now c.requires)

pub loop-i-preserved : goal.loop-i-preserved
loop-i-preserved c = filled_more c.args.s.now (flag c.args.marked.now) c.loop-i.full c.loop-i.i c.fills.result c.loop-i.invariant (omega (arith, few_types c.args.s.now c.requires)) c.fills.ensures
