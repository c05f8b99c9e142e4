-- Trees and forests (FLUX, section 3.1), the forest at a row, and the rows of a forest in document 01's order. A text keeps its place in
-- the pool beside its bytes.
use Rattle.std.specs.Prelude.{ℕ, zero, suc, ◌+◌, Bool, true, false, ◌&&◌, cond, List, [], ◌∷◌, ◌++◌, eqb, get_or}
use Rattle.meaning.specs.Sheet.{Cells, Grove}
use Rattle.meaning.specs.Words.{bytes_of}

-- a text is its bytes; a result's row names its place
pub record Text : Type 0 where
  pub offset : ℕ
  pub size : ℕ
  pub bytes : List ℕ

mutual
  pub data Tree : Type 0 where
    text : Text → Tree
    bool : Bool → Tree
    node : ℕ → Forest → Tree

  pub data Forest : Type 0 where
    nil : Forest
    cons : Tree → Forest → Forest

abbrev pub only : Tree → Forest
only t = cons t nil

-- one forest, then the other
infixr 60 ◌⊕◌
unfoldable pub ◌⊕◌ : Forest → Forest → Forest
nil ⊕ g = g
cons t f ⊕ g = cons t (f ⊕ g)

-- "trees": the top level only
unfoldable pub count : Forest → ℕ
count nil = 0
count (cons t f) = suc (count f)

-- the n bytes from place i of the pool on
unfoldable pub bytes_from : (ℕ → ℕ) → ℕ → ℕ → List ℕ
bytes_from byte i zero = []
bytes_from byte i (suc n) = byte i ∷ bytes_from byte (suc i) n

abbrev pub text_at : (ℕ → ℕ) → ℕ → ℕ → Text
text_at byte offset size = record { offset = offset; size = size; bytes = bytes_from byte offset size }

-- "same": by bytes
unfoldable pub equal_bytes : List ℕ → List ℕ → Bool
equal_bytes [] [] = true
equal_bytes [] (y ∷ l) = false
equal_bytes (x ∷ k) [] = false
equal_bytes (x ∷ k) (y ∷ l) = eqb x y && equal_bytes k l

-- kinds of forest rows: 1 text, 2 false, 3 true, 4 label p
abbrev pub tree_form : (ℕ → ℕ) → Cells → Forest → Tree
tree_form byte c inside = get_or
    (Tree.node c.p inside ∷ Tree.text (text_at byte c.p c.q) ∷ Tree.bool false ∷ Tree.bool true ∷ [])
    c.kind (Tree.node c.p inside)

-- the forest at row r, in at most k steps down or along; row 0 is the empty forest
unfoldable pub forest : (ℕ → ℕ) → (ℕ → Cells) → ℕ → ℕ → Forest
forest byte row zero r = nil
forest byte row (suc k) zero = nil
forest byte row (suc k) (suc r) = cons
    (tree_form byte (row (suc r)) (forest byte row k (row (suc r)).q))
    (forest byte row k (row (suc r)).r)

-- rows refer to lower rows, so the row's own number is steps enough
unfoldable pub forest_at : (ℕ → ℕ) → (ℕ → Cells) → ℕ → Forest
forest_at byte row r = forest byte row r r

abbrev pub forest_of : Grove → Forest
forest_of G = forest_at G.byte G.row G.root

-- how many rows a tree, and a forest, is written out in
unfoldable mutual
  pub tree_size : Tree → ℕ
  tree_size (text w) = 1
  tree_size (bool b) = 1
  tree_size (node l f) = suc (forest_size f)

  pub forest_size : Forest → ℕ
  forest_size nil = 0
  forest_size (cons t f) = forest_size f + tree_size t

-- the row of a forest's first tree, where n rows stand before it
unfoldable pub root_after : ℕ → Forest → ℕ
root_after n nil = 0
root_after n (cons t f) = n + forest_size (cons t f)

abbrev pub bool_kind : Bool → ℕ
bool_kind b = cond b 3 2

-- "the rest of the forest first, then the first tree's children, then that tree"
unfoldable mutual
  pub tree_rows : ℕ → Tree → ℕ → List Cells
  tree_rows n (text w) next = record { kind = 1; p = w.offset; q = w.size; r = next } ∷ []
  tree_rows n (bool b) next = record { kind = bool_kind b; p = 0; q = 0; r = next } ∷ []
  tree_rows n (node l f) next = forest_rows n f ++ record { kind = 4; p = l; q = root_after n f; r = next } ∷ []

  pub forest_rows : ℕ → Forest → List Cells
  forest_rows n nil = []
  forest_rows n (cons t f) = forest_rows n f ++ tree_rows (n + forest_size f) t (root_after n f)

-- a result, from row 1
abbrev pub rows_of_result : Forest → List Cells
rows_of_result f = forest_rows 0 f

-- rows as bytes
unfoldable pub row_bytes : List Cells → List ℕ
row_bytes [] = []
row_bytes (c ∷ l) = bytes_of (c.kind ∷ c.p ∷ c.q ∷ c.r ∷ []) ++ row_bytes l
