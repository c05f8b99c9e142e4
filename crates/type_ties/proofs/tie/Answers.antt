use native.Mathlib.Omega.{arith}
use Rattle.std.proofs.Common.{◌≡◌}
use Rattle.meaning.specs.Sheet.{script_of}
use Rattle.type_ties.specs.Points.{upto_more}
use Rattle.type_ties.proofs.tie.Goals as goal

pub loop-i-preserved : goal.loop-i-preserved
loop-i-preserved c = upto_more c.loop-i.invariant c.at_start.ensures c.at_place.ensures c.lower-best.ensures c.lower-best-in-loop-i.ensures

pub returns : goal.returns
returns c = let z : c.loop-i.i ≡ (script_of c.args.s.now).types = omega arith in rw z at c.loop-i.invariant
