-- `run_result::count` meets its contract: before each turn the forest at row r is not counted yet. A child's row is lower than its tree's.
use native.Mathlib.Omega.{arith}
use Rattle.std.proofs.Common.{ℕ, List, ◌≡◌, ◌<◌}
use Rattle.meaning.specs.Sheet.{Cells}
use Rattle.meaning.specs.Theorems.ReadBack.{lent_row}
use Rattle.forest_rows.specs.Rows.{Readable}
use Rattle.run_result.specs.Trees.{TreeAt}
use Rattle.run_result.specs.Count.{counts_none, counting_full, counting_more, counting_ends}
use Rattle.run_result.proofs.+count.Goals as goal

-- the tree that is read
tree : {work : List ℕ} {r : ℕ} {c : Cells} → Readable work r → 0 < r → c ≡ lent_row work r → TreeAt work r c
tree h some e = record { readable = h; some = some; is = e }

pub returns-then-room-k : goal.returns-then-room-k
returns-then-room-k t c = counting_full c.loop-r.invariant (omega arith) c.if-room-k.true

pub loop-r-preserved-then-q-eq0 : goal.loop-r-preserved-then-q-eq0
loop-r-preserved-then-q-eq0 t c =
    let none = rw c.child-q.ensures at c.if-q-eq0.true in
    counting_more c.loop-r.invariant (tree c.loop-r.invariant.readable (omega arith) c.row-c.ensures.is) (counts_none _ _ _ _ none (omega arith))

pub loop-r-preserved : goal.loop-r-preserved
loop-r-preserved t c =
    let kids = rw c.child-q.ensures at c.count-k.ensures in
    counting_more c.loop-r.invariant (tree c.loop-r.invariant.readable (omega arith) c.row-c.ensures.is) kids

pub returns : goal.returns
returns t c = counting_ends c.loop-r.invariant c.loop-r-test.false
