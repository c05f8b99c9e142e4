-- What the walk over a forest says: that the trees at a row are of the model at a row, or their first fault; and what it asks of the tables that it goes by.
use Rattle.std.specs.Prelude.{ℕ, ◌≤◌, ◌<◌, ◌≡◌, Bool, true, false, List, [], ◌∷◌, get_or, Result, Ok, Err}
use Rattle.meaning.specs.Tests.{in_table}
use Rattle.meaning.specs.Sheet.{Cells, script_of, grove_of}
use Rattle.meaning.specs.Forest.{forest_of}
use Rattle.meaning.specs.Types.{Of, declared, names_in}
use Rattle.meaning.specs.Shape.{shapely}
use Rattle.meaning.specs.Faults.{trees_at, Fault, FaultOf}
use Rattle.meaning.specs.Places.{Model, Set, start, next, Admits, Untied}
use Rattle.meaning.specs.Reply.{Loads, done, sound}
use Rattle.meaning.specs.Laws.Wired.{has}
use Rattle.bits.specs.Sets.{in_set, in_both}
use Rattle.type_places.specs.Tables.{model_of}
use Rattle.type_tables.specs.Points.{SheetPoints}
use Rattle.type_tables.specs.Lent.{Lent}
use Rattle.type_heads.specs.Classes.{Classes}
use Rattle.type_ties.specs.declared.Tables.{Tables}
use Rattle.sheet.specs.declared.forms.Tree.{Tree}
use Rattle.fit.specs.declared.Fault.{Fault as Found}

-- a tree's head by number, as places have theirs (`head_number`): its label, 1024 a text, 1025 a bool; 1026 is no head
abbrev pub tree_number : Cells → ℕ
tree_number c = get_or (1026 ∷ 1024 ∷ 1025 ∷ 1025 ∷ c.p ∷ []) c.kind 1026

-- the same, of what the tree's row says
abbrev pub said_number : Tree → ℕ
said_number (Tree.Text o n) = 1024
said_number (Tree.Bool b) = 1025
said_number (Tree.Node l q) = l

-- a place of set k of the table t that is in the class of head h; 576 where there is none
pub record Looked (t : List ℕ) (k h : ℕ) (class same : List ℕ) (r : ℕ) : Type 0 where
  pub here : r < 576 → (h < 1026) × (1 ≤ r) × (in_both t k same (get_or class h 0) r ≡ true)
  pub none : 576 ≤ r → h < 1026 → (x : ℕ) → 1 ≤ x → x < 576 → in_both t k same (get_or class h 0) x ≡ false

-- the sets of t are what may stand behind the places of m
abbrev pub Nexts : List ℕ → Model → Type 0
Nexts t m = (a : ℕ) → has m a ≡ true → (b : ℕ) → b < 576 → in_set t a b ≡ next m a b

-- which places may stand at a point of m: at its start, or behind its place a
abbrev pub point : Model → Bool → ℕ → Set
point m true a = start m
point m false a = next m a

module _ (s : List ℕ) where
  -- the trees at row r go on from a point of the model m
  abbrev pub GoesOn : ℕ → Model → Set → Type 0
  GoesOn r m p = Admits (script_of s).type_row (script_of s).name_row (trees_at (grove_of s) r) m p

  -- or x is their first fault, where they are children of the tree at row `parent`
  abbrev pub GoesWrong : ℕ → ℕ → Model → Set → ℕ → Type 0
  GoesWrong parent r m p x = Fault (script_of s).type_row (script_of s).name_row (grove_of s) parent r m p x

  -- the trees at row r are of the model at row k
  abbrev pub Inside : ℕ → ℕ → Type 0
  Inside r k = GoesOn r (model_of s k) (start (model_of s k))

  -- what is found of the trees at row r against the model at row k
  abbrev pub FindsBy : ℕ → ℕ → ℕ → Result Unit Found → Type 0
  FindsBy parent r k (Ok _) = Inside r k
  FindsBy parent r k (Err fault) = GoesWrong parent r (model_of s k) (start (model_of s k)) fault.row

  pub record Finds (parent r k : ℕ) (f : Result Unit Found) : Type 0 where
    pub by : FindsBy parent r k f

  -- a shaped sheet without ties, and its tables
  pub record Ready (first behind class same : List ℕ) : Type 0 where
    pub shaped : shapely s ≡ true
    pub untied : Untied (script_of s)
    pub points : SheetPoints s first behind
    pub classes : Classes s class same

  abbrev pub ReadyBy : Tables → Type 0
  ReadyBy t = Ready t.first t.behind t.class t.same

  -- what a walk over the trees at row r asks: rows of the tables, and the sets of the model at row k
  pub record Walks (r k : ℕ) (next-sets : List ℕ) : Type 0 where
    pub is_tree : r ≤ (grove_of s).rows
    pub is_type : in_table (script_of s).types k ≡ true
    pub nexts : Nexts next-sets (model_of s k)

  -- a walk that began at row r₀ in the model at row k stands at row r, at the model's start or behind its place a
  pub record Walking (parent r₀ k r : ℕ) (fresh : Bool) (a : ℕ) : Type 0 where
    pub low : r ≤ r₀
    pub at_start : fresh ≡ true → a ≡ k
    pub at_place : fresh ≡ false → has (model_of s k) a ≡ true
    pub fits : GoesOn r (model_of s k) (point (model_of s k) fresh a) → Inside r₀ k
    pub fault : (x : ℕ) → GoesWrong parent r (model_of s k) (point (model_of s k) fresh a) x → GoesWrong parent r₀ (model_of s k) (start (model_of s k)) x

  -- the question: a row of its types besides
  pub record Told (told : ℕ) (first behind class same : List ℕ) : Type 0 where
    pub is_type : in_table (script_of s).types told ≡ true
    pub ready : Ready first behind class same

  abbrev pub ToldBy : ℕ → Tables → Type 0
  ToldBy told t = Told told t.first t.behind t.class t.same

  -- what is found of the sheet's forest: it is of the type at row told, or its first fault
  abbrev pub IsOfBy : ℕ → Result Unit Found → Type 0
  IsOfBy told (Ok _) = Of (names_in (script_of s)) (declared (script_of s) told) (forest_of (grove_of s))
  IsOfBy told (Err fault) = FaultOf s told fault.row

  pub record IsOf (told : ℕ) (f : Result Unit Found) : Type 0 where
    pub by : IsOfBy told f

-- the tables are as they were lent when 2 to 4 were judged
pub told_lent : {s : List ℕ} {told : ℕ} {first behind class same kin : List ℕ} → in_table (script_of s).types told ≡ true → Loads s done → Lent s first behind class same kin
    → Told s told first behind class same
told_lent t (sound e b u) T = record { is_type = t; ready = record { shaped = e; untied = u; points = T.points; classes = T.classes } }
