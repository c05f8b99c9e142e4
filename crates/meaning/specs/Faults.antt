-- Where a forest goes wrong against a type: the row of the first tree, parents before children and left before right, whose head cannot
-- stand
-- at its place; or, where a content ends too soon, the row of that content's parent, 0 at the top.
-- What is met in turn: a tree's head, all inside it, the end of that inside, the next tree; last the end at the top.
use Rattle.std.specs.Prelude.{ℕ, ◌<◌, ◌≡◌, true, false, List}
use Rattle.meaning.specs.Sheet.{Cells, Grove, script_of, grove_of}
use Rattle.meaning.specs.Forest.{Tree, Forest, text, bool, node, tree_form, forest_at}
use Rattle.meaning.specs.Types.{Head}
use Rattle.meaning.specs.Places.{Model, Set, start, next, head_at, content_at, model_in, Fits}

abbrev pub tree_head : Tree → Head
tree_head (text w) = Head.text
tree_head (bool b) = Head.bool
tree_head (node n f) = Head.label n

-- the trees from row r on, and the first of them
abbrev pub trees_at : Grove → ℕ → Forest
trees_at G r = forest_at G.byte G.row r

abbrev pub tree_at : Grove → ℕ → Tree
tree_at G r = tree_form G.byte (G.row r) (trees_at G (G.row r).q)

-- over any table of type rows, the row that each name stands for, and a table of forest rows
module _ (row : ℕ → Cells) (name_row : ℕ → ℕ) (G : Grove) where
  -- the head of the tree at row r can stand at a point: a is a place of the set that has it
  pub record Stands (s : Set) (r a : ℕ) : Type 0 where
    pub is_place : 0 < a
    pub may_stand : s a ≡ true
    pub has_head : head_at row name_row a ≡ tree_head (tree_at G r)

  -- the trees from row r on, children of the tree at row `parent`, stand at a point of the model m where the set s may stand: x is the
  -- first fault
  pub data Fault : (parent r : ℕ) → Model → Set → (x : ℕ) → Type 0 where
    -- no tree is left, and the content may not end
    ends : {parent r : ℕ} {m : Model} {s : Set} → r ≡ 0 → s 0 ≡ false → Fault parent r m s parent
    -- the tree's head cannot stand
    head : {parent r : ℕ} {m : Model} {s : Set} → 0 < r → ((a : ℕ) → Stands s r a → ⊥) → Fault parent r m s r
    -- it stands at place a, and the fault is inside the tree, whose trees start that place's content
    inside : {parent r x a : ℕ} {m : Model} {s : Set} → 0 < r → Stands s r a → (G.row r).kind ≡ 4
        → Fault r (G.row r).q (content_at row name_row a) (start (content_at row name_row a)) x → Fault parent r m s x
    -- the whole tree fits place a, and the fault is among the trees behind it
    behind : {parent r x a : ℕ} {m : Model} {s : Set} → 0 < r → Stands s r a → Fits row name_row (tree_at G r) a
        → Fault parent (G.row r).r m (next m a) x → Fault parent r m s x

-- x is the first fault of the sheet's forest against the type at row t
abbrev pub FaultOf : List ℕ → ℕ → ℕ → Type 0
FaultOf s t x = Fault (script_of s).type_row (script_of s).name_row (grove_of s) 0 (grove_of s).root
    (model_in (script_of s).type_row (script_of s).name_row t)
    (start (model_in (script_of s).type_row (script_of s).name_row t)) x
