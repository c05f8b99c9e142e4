-- What the functions over lent rows ask and give. The pool that a forest's texts lie in is any (`byte`).
use Rattle.std.specs.Prelude.{ℕ, ◌+◌, ◌*◌, ◌≤◌, ◌<◌, ◌≡◌, true, false, eqb, List, length, Option, Some, None}
use Rattle.std.proofs.Math.Bool as bool
use Rattle.meaning.specs.Tests.{in_table}
use Rattle.meaning.specs.Sheet.{Cells}
use Rattle.meaning.specs.Forest.{Forest, cons, only, ◌⊕◌, count, text_at, tree_form, forest_at}
use Rattle.meaning.specs.Run.{seen, nothing, many, a_text, a_bool, a_node, kept, copied}
use Rattle.meaning.specs.Walk.{Quiet}
use Rattle.meaning.specs.Laws.Rows.{LowRows, SameRows}
use Rattle.meaning.specs.Theorems.ReadBack.{lent_row}
use Rattle.walk.specs.Meets.{Roomy}
use Rattle.walk.specs.Loop.{Links, gathered}
use Rattle.forest_rows.specs.declared.Which.{Which}
use Rattle.forest_rows.specs.declared.Which.TheVariants.{All, Labelled as LabelledBy}
use Rattle.forest_rows.specs.declared.Seen.{Seen}
use Rattle.forest_rows.specs.declared.Seen.TheVariants.{Nothing, Many, Text, Bool, Node}

-- rows up to r are there, and refer to lower ones
pub record Readable (rows : List ℕ) (r : ℕ) : Type 0 where
  pub low : LowRows (lent_row rows) r
  pub small : r < 65536
  pub there : 8 * r ≤ length rows

-- row n + 1 was written, and no other
pub record Pushed (s t : List ℕ) (n : ℕ) (c : Cells) : Type 0 where
  pub same : SameRows (lent_row s) (lent_row t) n
  pub row : lent_row t (n + 1) ≡ c
  pub above : (r : ℕ) → n + 1 < r → lent_row s r ≡ lent_row t r

-- which trees are meant
abbrev pub chosen : Which → Forest → Forest
chosen All f = f
chosen (LabelledBy l) f = kept l f

-- what the test of a row says of the trees meant
pub record Takes (which : Which) (c : Cells) (b : bool.Bool) : Type 0 where
  pub by : (byte : ℕ → ℕ) (f rest : Forest) → chosen which (cons (tree_form byte c f) rest) ≡ bool.cond b (cons (tree_form byte c f) (chosen which rest)) (chosen which rest)

-- such trees at a, copied, in front of the forest at b, a row for each
pub record CopyAsks (s : List ℕ) (used : ℕ) (which : Which) (a b : ℕ) : Type 0 where
  pub byte : ℕ → ℕ
  pub low : LowRows (lent_row s) used
  pub first : a ≤ used
  pub second : b ≤ used
  pub room : 8 * (used + count (chosen which (forest_at byte (lent_row s) a))) ≤ length s
  pub small : used + count (chosen which (forest_at byte (lent_row s) a)) < 65536

-- the row of what is written from row used + 1 up to row `to`, in front of the forest at b
abbrev pub link : ℕ → ℕ → ℕ → ℕ
link used b to = bool.cond (eqb to used) b to

-- what was to be written stands at the root, a row for each of its n trees
pub record Wrote (byte : ℕ → ℕ) (s t : List ℕ) (used : ℕ) (f : Forest) (n root used' : ℕ) : Type 0 where
  pub value : forest_at byte (lent_row t) root ≡ f
  pub rows : used' ≡ used + n
  pub inside : root ≤ used'
  pub low : LowRows (lent_row t) used'
  pub same : SameRows (lent_row s) (lent_row t) used

abbrev pub Copied : (ℕ → ℕ) → List ℕ → List ℕ → ℕ → Which → ℕ → ℕ → ℕ → ℕ → Type 0
Copied byte s t used which a b root used' =
    Wrote byte s t used (chosen which (forest_at byte (lent_row s) a) ⊕ forest_at byte (lent_row s) b) (count (chosen which (forest_at byte (lent_row s) a))) root used'

-- what the links hold, as one forest
pub record GatherAsks (s : List ℕ) (used link : ℕ) : Type 0 where
  pub byte : ℕ → ℕ
  pub low : LowRows (lent_row s) used
  pub inside : link ≤ used
  pub links : Links (forest_at byte (lent_row s) link)
  pub room : 8 * (used + count (gathered (forest_at byte (lent_row s) link))) ≤ length s
  pub small : used + count (gathered (forest_at byte (lent_row s) link)) < 65536

abbrev pub Gathered : (ℕ → ℕ) → List ℕ → List ℕ → ℕ → ℕ → ℕ → ℕ → Type 0
Gathered byte s t used link root used' = Wrote byte s t used (gathered (forest_at byte (lent_row s) link)) (count (gathered (forest_at byte (lent_row s) link))) root used'

-- the row r is a tree with the label l
pub record Labelled (c : Cells) (l : ℕ) : Type 0 where
  pub node : in_table 3 c.kind ≡ false
  pub label : c.p ≡ l

abbrev pub JudgedBy : Cells → ℕ → bool.Bool → Type 0
JudgedBy c l true = Labelled c l
JudgedBy c l false = Labelled c l → ⊥

pub record Judged (c : Cells) (l : ℕ) (b : bool.Bool) : Type 0 where
  pub by : JudgedBy c l b

-- what a forest is, where a rule looks at it
abbrev pub SeesBy : (ℕ → ℕ) → List ℕ → ℕ → Seen → Type 0
SeesBy byte s root Nothing = seen (forest_at byte (lent_row s) root) ≡ nothing
SeesBy byte s root Many = seen (forest_at byte (lent_row s) root) ≡ many
SeesBy byte s root (Text o n) = record { is : seen (forest_at byte (lent_row s) root) ≡ a_text (text_at byte o n); offset : o < 65536; size : n < 65536 }
SeesBy byte s root (Bool b) = seen (forest_at byte (lent_row s) root) ≡ a_bool b
SeesBy byte s root (Node l c) = record { is : seen (forest_at byte (lent_row s) root) ≡ a_node l (forest_at byte (lent_row s) c); label : l < 65536; inside : c < root }

pub record Sees (byte : ℕ → ℕ) (s : List ℕ) (root : ℕ) (a : Seen) : Type 0 where
  pub by : SeesBy byte s root a

-- one bool, one text, one labelled tree
abbrev pub bool_of : Seen → Option bool.Bool
bool_of Nothing = None
bool_of Many = None
bool_of (Text o n) = None
bool_of (Bool b) = Some b
bool_of (Node l c) = None

abbrev pub text_of : Seen → Option (ℕ × ℕ)
text_of Nothing = None
text_of Many = None
text_of (Text o n) = Some (o, n)
text_of (Bool b) = None
text_of (Node l c) = None

abbrev pub node_of : Seen → Option (ℕ × ℕ)
node_of Nothing = None
node_of Many = None
node_of (Text o n) = None
node_of (Bool b) = None
node_of (Node l c) = Some (l, c)

-- a new tree: kind and words, its child a row in use unless it is a text or a bool
pub record MakeAsks (s : List ℕ) (used k p q left : ℕ) : Type 0 where
  pub roomy : Roomy s used left
  pub small_kind : k < 65536
  pub small_p : p < 65536
  pub small_q : q < 65536
  pub child : in_table 3 k ≡ false → q ≤ used

abbrev pub made : (ℕ → ℕ) → List ℕ → ℕ → ℕ → ℕ → Quiet Forest
made byte s kind p q = copied 1 (only (tree_form byte (record { kind = kind; p = p; q = q; r = 0 }) (forest_at byte (lent_row s) q)))

abbrev pub fronted : Forest → Forest → Quiet Forest
fronted f g = copied (count f) (f ⊕ g)

abbrev pub picked_of : ℕ → Forest → Quiet Forest
picked_of l f = copied (count (kept l f)) (kept l f)
