-- Counting the rows of a forest up to one past the room that there is: what is counted and what is still to be counted make the whole.
use Rattle.std.specs.Prelude.{ℕ, ◌+◌, ◌≤◌, ◌<◌, min, ◌≡◌, refl, List}
use Rattle.std.proofs.Common.{arith}
use Rattle.meaning.specs.Sheet.{Cells}
use Rattle.meaning.specs.Theorems.ReadBack.{lent_row}
use Rattle.forest_rows.specs.Rows.{Readable}
use Rattle.run_result.specs.Trees.{size_at, size_none, child_of, TreeAt, next_low, next_readable, parted_size}

-- what is asked to count the forest at row r, where n rows are counted
pub record Countable (work : List ℕ) (r n room : ℕ) : Type 0 where
  pub readable : Readable work r
  pub within : n ≤ room
  pub small : room < 65536

-- those n and its own, up to one past the room; no pool changes a size
pub record Counts (work : List ℕ) (r n room k : ℕ) : Type 0 where
  pub is : (byte : ℕ → ℕ) → k ≡ min (room + 1) (n + size_at byte work r)

pub counts_none : (work : List ℕ) (r n room : ℕ) → r ≡ 0 → n ≤ room → Counts work r n room n
counts_none work r n room e h = record { is = λ byte. omega (arith, size_none byte work r e) }

-- k rows are counted, and the forest at row r is not
pub record Counting (work : List ℕ) (root n room r k : ℕ) : Type 0 where
  pub readable : Readable work r
  pub within : r ≤ root
  pub most : k ≤ room + 1
  pub all : (byte : ℕ → ℕ) → min (room + 1) (k + size_at byte work r) ≡ min (room + 1) (n + size_at byte work root)

module _ {work : List ℕ} {root n room : ℕ} where
  pub counting_begins : Countable work root n room → Counting work root n room root n
  counting_begins x = record { readable = x.readable; within = omega arith; most = omega (arith, x.within); all = λ byte. refl }

  module _ {r k : ℕ} (x : Counting work root n room r k) where
    -- no room for one more
    pub counting_full : 0 < r → room ≤ k → Counts work root n room (room + 1)
    counting_full some h =
        let t : TreeAt work r (lent_row work r) = record { readable = x.readable; some = some; is = refl } in
        record { is = λ byte. omega (arith, x.all byte, parted_size t byte) }

    -- a tree, whose children are counted
    pub counting_more : {c : Cells} {k' : ℕ} → TreeAt work r c → Counts work (child_of c) (k + 1) room k'
        → Counting work root n room c.r k'
    counting_more t h = record {
      readable = next_readable t;
      within = omega (arith, x.within, next_low t);
      most = omega (arith, h.is (λ i. 0));
      all = λ byte. omega (arith, h.is byte, x.all byte, parted_size t byte);
    }

    pub counting_ends : r ≡ 0 → Counts work root n room k
    counting_ends e = record { is = λ byte. omega (arith, x.most, x.all byte, size_none byte work r e) }
