-- `fit::trees` meets its contract, by recursion on the row of the first tree: children have lower rows. The loop's invariant says that the walk so far is right (`Walking`).
use Rattle.std.proofs.Common.{ap, arith, refl}
use Rattle.meaning.specs.Sheet.{Cells}
use Rattle.std.specs.Prelude.{true, false}
use Rattle.fit.proofs.Walk.{begins, few, index, missed, leaf, goes_on, next_lower, child, walks, filled, wrong, ended, too_soon}
use Rattle.fit.proofs.+trees.Goals as goal

pub loop-r-init : goal.loop-r-init
loop-r-init t c = record { fresh = true; walking = begins c.requires.0 c.requires.1; point = refl }

pub place-b-requires : goal.place-b-requires
place-b-requires t c = (index c.requires.0 c.requires.1 c.loop-r.invariant.walking, few c.requires.0 c.requires.1)

pub returns-then-b-ge-PLACES : goal.returns-then-b-ge-PLACES
returns-then-b-ge-PLACES t c = missed c.requires.0 c.requires.1 c.loop-r.invariant.walking c.loop-r-test.true c.forest_row-c.result c.forest_row-c.ensures c.as_tree-tree.ensures c.tree_head.ensures c.loop-r.invariant.point c.place-b.ensures c.if-b-ge-PLACES.true refl

pub trees-requires : goal.trees-requires
trees-requires t c =
    let q = ap (λ (x : Cells). x.q) c.acting-content.ensures in
    let low = child c.requires.0 c.requires.1 c.loop-r.invariant.walking c.loop-r-test.true c.forest_row-c.result c.forest_row-c.ensures c.as_tree-tree.ensures c.tree_head.ensures c.loop-r.invariant.point c.place-b.ensures c.if-b-ge-PLACES.false q c.in-Node.ensures in
    (omega (arith, low, c.loop-r.invariant.walking.low), (c.requires.0, walks c.requires.0 c.requires.1 c.loop-r.invariant.walking c.loop-r-test.true c.forest_row-c.result c.forest_row-c.ensures c.as_tree-tree.ensures c.tree_head.ensures c.loop-r.invariant.point c.place-b.ensures c.if-b-ge-PLACES.false q c.in-Node.ensures))

pub returns-in_err-trees : goal.returns-in_err-trees
returns-in_err-trees t c =
    let q = ap (λ (x : Cells). x.q) c.acting-content.ensures in
    wrong c.requires.0 c.requires.1 c.loop-r.invariant.walking c.loop-r-test.true c.forest_row-c.result c.forest_row-c.ensures c.as_tree-tree.ensures c.tree_head.ensures c.loop-r.invariant.point c.place-b.ensures c.if-b-ge-PLACES.false q c.in-Node.ensures c.in_err-trees.ensures c.from_residual.ensures.1

pub loop-r-smaller-in_ok-trees : goal.loop-r-smaller-in_ok-trees
loop-r-smaller-in_ok-trees t c = next_lower c.requires.0 c.requires.1 c.loop-r.invariant.walking c.loop-r-test.true c.forest_row-c.result c.forest_row-c.ensures c.as_tree-tree.ensures c.tree_head.ensures c.loop-r.invariant.point c.place-b.ensures c.if-b-ge-PLACES.false

pub loop-r-preserved-in_ok-trees : goal.loop-r-preserved-in_ok-trees
loop-r-preserved-in_ok-trees t c =
    let q = ap (λ (x : Cells). x.q) c.acting-content.ensures in
    record { fresh = false; walking = goes_on c.requires.0 c.requires.1 c.loop-r.invariant.walking c.loop-r-test.true c.forest_row-c.result c.forest_row-c.ensures c.as_tree-tree.ensures c.tree_head.ensures c.loop-r.invariant.point c.place-b.ensures c.if-b-ge-PLACES.false (filled c.requires.0 c.requires.1 c.loop-r.invariant.walking c.loop-r-test.true c.forest_row-c.result c.forest_row-c.ensures c.as_tree-tree.ensures c.tree_head.ensures c.loop-r.invariant.point c.place-b.ensures c.if-b-ge-PLACES.false q c.in-Node.ensures c.in_ok-trees.ensures); point = refl }

pub loop-r-smaller : goal.loop-r-smaller
loop-r-smaller t c = next_lower c.requires.0 c.requires.1 c.loop-r.invariant.walking c.loop-r-test.true c.forest_row-c.result c.forest_row-c.ensures c.as_tree-tree.ensures c.tree_head.ensures c.loop-r.invariant.point c.place-b.ensures c.if-b-ge-PLACES.false

pub loop-r-preserved : goal.loop-r-preserved
loop-r-preserved t c = record { fresh = false; walking = goes_on c.requires.0 c.requires.1 c.loop-r.invariant.walking c.loop-r-test.true c.forest_row-c.result c.forest_row-c.ensures c.as_tree-tree.ensures c.tree_head.ensures c.loop-r.invariant.point c.place-b.ensures c.if-b-ge-PLACES.false (leaf c.requires.0 c.requires.1 c.loop-r.invariant.walking c.loop-r-test.true c.forest_row-c.result c.forest_row-c.ensures c.as_tree-tree.ensures c.tree_head.ensures c.loop-r.invariant.point c.place-b.ensures c.if-b-ge-PLACES.false c.in_default.not-Node); point = refl }

pub has-requires : goal.has-requires
has-requires t c = (index c.requires.0 c.requires.1 c.loop-r.invariant.walking, omega arith)

pub returns-then-has : goal.returns-then-has
returns-then-has t c = ended c.requires.0 c.requires.1 c.loop-r.invariant.walking c.loop-r-test.false c.loop-r.invariant.point c.has.ensures c.if-has.true

pub returns : goal.returns
returns t c = too_soon c.requires.0 c.requires.1 c.loop-r.invariant.walking c.loop-r-test.false c.loop-r.invariant.point c.has.ensures c.if-has.false refl
