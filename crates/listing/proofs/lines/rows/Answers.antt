use Rattle.std.proofs.Common.{arith, ℕ, ◌≡◌, sym, ap}
use Rattle.meaning.specs.Listing.{row_lines}
use Rattle.listing.specs.Adds.{adds_none, adds_then, adds_as, row_lines_none, row_lines_more}
use Rattle.listing.proofs.lines.rows.Goals as goal

pub loop-n-init : goal.loop-n-init
loop-n-init c = record { adds = adds_as (sym (row_lines_none c.args.b.now)) (adds_none c.args.out.now c.args.at); few = omega arith }

pub loop-n-preserved : goal.loop-n-preserved
loop-n-preserved c = record {
  adds = adds_as (sym (row_lines_more c.args.b.now c.loop-n.n)) (adds_then c.loop-n.invariant.adds c.row-end.ensures.adds);
  few = omega (arith, c.loop-n.invariant.few, c.row-end.ensures.few);
}

pub returns : goal.returns
returns c =
    let all : c.loop-n.n ≡ c.args.root = omega (arith, c.loop-n-test.false, c.loop-n.auto.n-end) in
    record { adds = adds_as (ap (λ (k : ℕ). row_lines c.args.b.now k) all) c.loop-n.invariant.adds }
