use native.Mathlib.Omega.{arith}
use Rattle.meaning.specs.Laws.Shaped.{few_names}
use Rattle.type_barren.specs.Marks.{turned_none, turned_more, turned_up, turned_closed, turned_most, says_lowest, says_none}
use Rattle.type_barren.proofs.barren.Goals as goal

pub loop-known-init : goal.loop-known-init
loop-known-init c = turned_none c.args.s.now

pub count-found-requires : goal.count-found-requires
count-found-requires c = omega (arith, few_names c.args.s.now c.requires)

pub lowest_unmarked-requires : goal.lowest_unmarked-requires
lowest_unmarked-requires c = omega (arith, few_names c.args.s.now c.requires)

pub returns-then-found-known : goal.returns-then-found-known
returns-then-found-known c = let n = rw c.names-names.ensures.is at c.count-found.ensures in
    says_lowest (turned_more c.loop-known.invariant c.round.ensures n) c.lowest_unmarked.result c.requires (turned_closed c.loop-known.invariant c.round.ensures n c.requires c.if-found-known.true)
    (rw c.names-names.ensures.is at c.lowest_unmarked.ensures)

pub loop-known-smaller : goal.loop-known-smaller
loop-known-smaller c = let n = rw c.names-names.ensures.is at c.count-found.ensures in
    omega (arith, turned_up c.loop-known.invariant c.round.ensures n, turned_most (turned_more c.loop-known.invariant c.round.ensures n))

pub loop-known-preserved : goal.loop-known-preserved
loop-known-preserved c = turned_more c.loop-known.invariant c.round.ensures (rw c.names-names.ensures.is at c.count-found.ensures)

pub returns : goal.returns
returns c = says_none c.loop-known.invariant (omega arith)
