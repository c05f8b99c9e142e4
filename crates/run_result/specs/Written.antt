-- A forest written into lent bytes from its last row down: the rows of the trees passed stand above those of the trees that are left.
use Rattle.std.specs.Prelude.{ℕ, ◌+◌, ◌*◌, ◌-◌, ◌≤◌, ◌≡◌, refl, List, [], ◌∷◌, ◌++◌, length}
use Rattle.std.proofs.Common.{sym, ap, ◌∙◌, append_assoc, append-nil, arith}
use Rattle.meaning.specs.Sheet.{Cells}
use Rattle.meaning.specs.Reply.{given}
use Rattle.meaning.specs.Theorems.ReadBack.{forest_length}
use Rattle.forest_rows.specs.Rows.{Readable}
use Rattle.run_result.specs.Trees.{lent_forest, size_at, rows_at, size_none, rows_none, child_of, tree_row, root_of}
use Rattle.run_result.specs.Trees.{TreeAt, next_low, next_readable, child_readable, parted_size, parted_rows}
use Rattle.run_result.specs.Replaced.{replaced, replaced_none, replaced_before, replaced_behind}

-- what is asked to write the forest at row r into the rows up to row last
pub record Writable (work : List ℕ) (r last : ℕ) (result : List ℕ) : Type 0 where
  pub readable : Readable work r
  pub fits : (byte : ℕ → ℕ) → size_at byte work r ≤ last
  pub room : 8 * last ≤ length result

-- its rows stand behind row n, up to row last; no pool changes a row
pub record Written (work : List ℕ) (r n last : ℕ) (old new : List ℕ) : Type 0 where
  pub all : (byte : ℕ → ℕ) → n + size_at byte work r ≡ last
  pub bytes : (byte : ℕ → ℕ) → new ≡ replaced n (rows_at byte work n r) last old

pub written_none : (work : List ℕ) (r n : ℕ) (old : List ℕ) → r ≡ 0 → Written work r n n old old
written_none work r n old e = record {
  all = λ byte. omega (arith, size_none byte work r e);
  bytes = λ byte. rw (rows_none byte work n r e) (replaced_none n old);
}

-- a forest with as many rows as there are up to its last is a result, from row 1
pub given_out : {work : List ℕ} {r n last : ℕ} {old new : List ℕ} → Written work r n last old new
    → (byte : ℕ → ℕ) → last ≡ size_at byte work r → new ≡ given (lent_forest byte work r) old
given_out {n = n} h byte e = let none : n ≡ 0 = omega (arith, h.all byte) in h.bytes byte ∙ rw (none, e)

-- ---- tree by tree

-- the rows above row own, up to row last, are those of the trees passed; those of the forest at row r come behind row n, up to row own
pub record Passed (byte : ℕ → ℕ) (work : List ℕ) (root last : ℕ) (old : List ℕ) (r own : ℕ) (new : List ℕ) : Type 0 where
  pub n : ℕ
  pub rows : List Cells
  pub left : n + size_at byte work r ≡ own
  pub all : n + size_at byte work root ≡ last
  pub split : rows_at byte work n root ≡ rows_at byte work n r ++ rows
  pub bytes : new ≡ replaced own rows last old

pub record Writing (work : List ℕ) (root last : ℕ) (old : List ℕ) (r own : ℕ) (new : List ℕ) : Type 0 where
  pub readable : Readable work r
  pub within : r ≤ root
  pub under : own ≤ last
  pub room : 8 * last ≤ length old
  pub same : length new ≡ length old
  pub passed : (byte : ℕ → ℕ) → Passed byte work root last old r own new

module _ {work : List ℕ} {root last : ℕ} {old : List ℕ} where
  pub writing_begins : Writable work root last old → Writing work root last old root last old
  writing_begins x = record {
    readable = x.readable;
    within = omega arith;
    under = omega arith;
    room = x.room;
    same = refl;
    passed = λ byte. record {
      n = last - size_at byte work root;
      rows = [];
      left = omega (arith, x.fits byte);
      all = omega (arith, x.fits byte);
      split = sym (append-nil (rows_at byte work (last - size_at byte work root) root));
      bytes = replaced_none last old;
    };
  }

  module _ {r own : ℕ} {new : List ℕ} (w : Writing work root last old r own new) where
    pub writing_ends : r ≡ 0 → Written work root own last old new
    writing_ends z = record {
      all = λ byte. rw (← none byte) (w.passed byte).all;
      bytes = λ byte. let g = w.passed byte in g.bytes ∙ rw (← none byte, g.split, rows_none byte work g.n r z);
    }
      where
        none : (byte : ℕ → ℕ) → (w.passed byte).n ≡ own
        none byte = omega (arith, (w.passed byte).left, size_none byte work r z)

    module _ {c : Cells} (t : TreeAt work r c) where
      -- there is a row for the tree, and below it rows for its children
      pub own_row_lem : 1 ≤ own
      own_row_lem = omega (arith, (w.passed (λ i. 0)).left, parted_size t (λ i. 0))

      pub own_room : 8 * own ≤ length new
      own_room = omega (arith, w.under, w.room, w.same)

      pub child_writable : Writable work (child_of c) (own - 1) new
      child_writable = record {
        readable = child_readable t;
        fits = λ byte. omega (arith, (w.passed byte).left, parted_size t byte);
        room = omega (arith, own_room);
      }

      -- its children are written behind row below, then its own row
      module _ {n below q next : ℕ} {mid more : List ℕ} (up : n + 1 ≡ own) (kids : Written work (child_of c) below n new mid)
          (child : q ≡ root_of (child_of c) n) (rest : next ≡ root_of c.r below)
          (put : more ≡ replaced n (tree_row c q next ∷ []) (n + 1) mid) where
        passed_more : (byte : ℕ → ℕ) → Passed byte work root last old c.r below more
        passed_more byte =
            let g = w.passed byte in
            let after = rows_at byte work g.n c.r in
            let inner = rows_at byte work below (child_of c) in
            let cell = tree_row c q next ∷ [] in
            let tree = inner ++ cell in
            let left : g.n + size_at byte work c.r ≡ below = omega (arith, g.left, kids.all byte, parted_size t byte) in
            let long : below + length inner ≡ n = omega (arith, kids.all byte, forest_length below (lent_forest byte work (child_of c))) in
            record {
              n = g.n;
              rows = tree ++ g.rows;
              left = left;
              all = g.all;
              split = g.split ∙ rw (parted_rows t byte g.n below n left (kids.all byte), ← child, ← rest) (append_assoc after tree g.rows);
              bytes = put ∙ ap (replaced n cell (n + 1)) (kids.bytes byte)
                  ∙ replaced_behind below inner n cell (n + 1) new long (omega arith) (omega (arith, own_room))
                  ∙ ap (replaced below tree (n + 1)) g.bytes
                  ∙ rw up (replaced_before below tree own g.rows last old (omega (arith, kids.all byte)) (omega (arith, own_room, w.same)));
            }

        pub writing_more : length more ≡ length new → Writing work root last old c.r below more
        writing_more same = record {
          readable = next_readable t;
          within = omega (arith, w.within, next_low t);
          under = omega (arith, w.under, kids.all (λ i. 0));
          room = w.room;
          same = same ∙ w.same;
          passed = passed_more;
        }
