-- `run_result::write` meets its contract: before each turn the trees passed are written above row own. A child's row is lower than its tree's.
use mathlib.Core.Path.{◌∙◌}
use native.Mathlib.Omega.{arith}
use Rattle.std.proofs.Common.{ℕ, List, ◌≡◌, ◌<◌}
use Rattle.meaning.specs.Sheet.{Cells}
use Rattle.meaning.specs.Theorems.ReadBack.{lent_row}
use Rattle.forest_rows.specs.Rows.{Readable}
use Rattle.run_result.specs.Trees.{root_some, TreeAt, child_low}
use Rattle.run_result.specs.Written.{written_none, writing_begins, own_row_lem, own_room, child_writable, writing_more, writing_ends}
use Rattle.run_result.proofs.+write.Goals as goal

-- the tree that is read
tree : {work : List ℕ} {r : ℕ} {c : Cells} → Readable work r → 0 < r → c ≡ lent_row work r → TreeAt work r c
tree h some e = record { readable = h; some = some; is = e }

pub loop-r-init : goal.loop-r-init
loop-r-init t c = writing_begins c.requires

pub overflow_sub-n : goal.overflow_sub-n
overflow_sub-n t c = own_row_lem c.loop-r.invariant (tree c.loop-r.invariant.readable (omega arith) c.row-c.ensures.is)

pub put_tree-requires : goal.put_tree-requires
put_tree-requires t c =
    let x = tree c.loop-r.invariant.readable (omega arith) c.row-c.ensures.is in
    omega (arith, own_row_lem c.loop-r.invariant x, own_room c.loop-r.invariant x)

pub write-below-requires : goal.write-below-requires
write-below-requires t c =
    let x = tree c.loop-r.invariant.readable (omega arith) c.row-c.ensures.is in
    rw c.child-q.ensures (omega (arith, c.loop-r.invariant.within, child_low x), child_writable c.loop-r.invariant x)

pub put_tree-requires-else-q-eq0 : goal.put_tree-requires-else-q-eq0
put_tree-requires-else-q-eq0 t c =
    let x = tree c.loop-r.invariant.readable (omega arith) c.row-c.ensures.is in
    omega (arith, own_row_lem c.loop-r.invariant x, own_room c.loop-r.invariant x, c.write-below.auto.res)

pub loop-r-preserved-then-q-eq0 : goal.loop-r-preserved-then-q-eq0
loop-r-preserved-then-q-eq0 t c =
    let x = tree c.loop-r.invariant.readable (omega arith) c.row-c.ensures.is in
    let none = rw c.child-q.ensures at c.if-q-eq0.true in
    writing_more c.loop-r.invariant x (omega (arith, own_row_lem c.loop-r.invariant x)) (written_none _ _ _ _ none) (rw none) c.root_row.ensures c.put_tree.ensures c.put_tree.auto.res

pub loop-r-preserved : goal.loop-r-preserved
loop-r-preserved t c =
    let x = tree c.loop-r.invariant.readable (omega arith) c.row-c.ensures.is in
    let some = rw c.child-q.ensures at c.if-q-eq0.false in
    writing_more c.loop-r.invariant x (omega (arith, own_row_lem c.loop-r.invariant x)) (rw c.child-q.ensures at c.write-below.ensures) (root_some _ _ some) c.root_row-else-q-eq0.ensures c.put_tree-else-q-eq0.ensures
    (c.put_tree-else-q-eq0.auto.res ∙ c.write-below.auto.res)

pub returns : goal.returns
returns t c = writing_ends c.loop-r.invariant c.loop-r-test.false
