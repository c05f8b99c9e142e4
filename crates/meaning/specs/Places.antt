-- Places: the atoms of a type by their rows, which of them may stand first, last and next to another, and ties (document 01, "Ties";
-- deterministic content models, XML 1.0, section 3.2.1).
-- End is place 0.
use Rattle.std.specs.Prelude.{ℕ, zero, suc, ◌<◌, ◌≡◌, Bool, true, false, ◌&&◌, ◌||◌, not, cond, List, [], ◌∷◌, ◌++◌, eqb}
use Rattle.meaning.specs.Tests.{some, in_table}
use Rattle.meaning.specs.Sheet.{Cells, Script}
use Rattle.meaning.specs.Kinds.{TypeRow, type_form}
use Rattle.meaning.specs.Forest.{Tree, Forest, text, bool, node, nil, cons}
use Rattle.meaning.specs.Types.{Head, Barren, Fertile, names_in}

-- ---- a type with its atoms' rows for the atoms: a content model

pub data Model : Type 0 where
  empty : Model
  atom : ℕ → Model
  seq choice : Model → Model → Model
  star : Model → Model

-- the model at row r, in at most k steps down: rows of kind 2, 3, 4 and 8 are atoms
unfoldable pub model_form : TypeRow → ℕ → (ℕ → Model) → Model
model_form TypeRow.none r at = Model.empty
model_form TypeRow.empty r at = Model.empty
model_form TypeRow.text r at = Model.atom r
model_form TypeRow.bool r at = Model.atom r
model_form (TypeRow.label n q) r at = Model.atom r
model_form (TypeRow.seq p q) r at = Model.seq (at p) (at q)
model_form (TypeRow.choice p q) r at = Model.choice (at p) (at q)
model_form (TypeRow.star p) r at = Model.star (at p)
model_form (TypeRow.name x) r at = Model.atom r

unfoldable pub model : (ℕ → TypeRow) → ℕ → ℕ → Model
model row zero r = Model.empty
model row (suc k) r = model_form (row r) r (model row k)

unfoldable pub model_at : (ℕ → TypeRow) → ℕ → Model
model_at row r = model row r r

-- ---- what the words of a model are: lists of places

pub data Word : Model → List ℕ → Type 0 where
  w_empty : Word Model.empty []
  w_atom : {a : ℕ} → Word (Model.atom a) (a ∷ [])
  w_seq : {m n : Model} {u v : List ℕ} → Word m u → Word n v → Word (Model.seq m n) (u ++ v)
  w_left : {m n : Model} {u : List ℕ} → Word m u → Word (Model.choice m n) u
  w_right : {m n : Model} {u : List ℕ} → Word n u → Word (Model.choice m n) u
  w_none : {m : Model} → Word (Model.star m) []
  w_more : {m : Model} {u v : List ℕ} → Word m u → Word (Model.star m) v → Word (Model.star m) (u ++ v)

-- a may stand next at the point behind u
pub record Next (m : Model) (u : List ℕ) (a : ℕ) : Type 0 where
  pub rest : List ℕ
  pub word : Word m (u ++ a ∷ rest)

-- ---- the same, computed

unfoldable pub nullable : Model → Bool
nullable Model.empty = true
nullable (Model.atom a) = false
nullable (Model.seq m n) = nullable m && nullable n
nullable (Model.choice m n) = nullable m || nullable n
nullable (Model.star m) = true

unfoldable pub first : Model → ℕ → Bool
first Model.empty b = false
first (Model.atom a) b = eqb a b
first (Model.seq m n) b = first m b || nullable m && first n b
first (Model.choice m n) b = first m b || first n b
first (Model.star m) b = first m b

unfoldable pub last : Model → ℕ → Bool
last Model.empty a = false
last (Model.atom b) a = eqb b a
last (Model.seq m n) a = last n a || nullable n && last m a
last (Model.choice m n) a = last m a || last n a
last (Model.star m) a = last m a

-- b may stand right behind a: a star loops back
unfoldable pub follows : Model → ℕ → ℕ → Bool
follows Model.empty a b = false
follows (Model.atom c) a b = false
follows (Model.seq m n) a b = follows m a b || follows n a b || last m a && first n b
follows (Model.choice m n) a b = follows m a b || follows n a b
follows (Model.star m) a b = follows m a b || last m a && first m b

-- a set of places, End among them
abbrev pub Set : Type 0
Set = ℕ → Bool

-- what may stand where a model begins, and what may stand behind its place a
abbrev pub start : Model → Set
start m = λ b. first m b || nullable m && eqb 0 b

abbrev pub next : Model → ℕ → Set
next m a = λ b. follows m a b || last m a && eqb 0 b

-- ---- heads and contents of places: a name acts everywhere as its label row

abbrev pub head_of : Cells → Head
head_of c = cond (eqb c.kind 2) Head.text (cond (eqb c.kind 3) Head.bool (Head.label c.p))

unfoldable pub same_head : Head → Head → Bool
same_head Head.text Head.text = true
same_head Head.text Head.bool = false
same_head Head.text (Head.label n) = false
same_head Head.bool Head.text = false
same_head Head.bool Head.bool = true
same_head Head.bool (Head.label n) = false
same_head (Head.label m) Head.text = false
same_head (Head.label m) Head.bool = false
same_head (Head.label m) (Head.label n) = eqb m n

-- over any table of type rows, and the row that each name stands for
module _ (row : ℕ → Cells) (name_row : ℕ → ℕ) where
  abbrev pub acting : ℕ → Cells
  acting a = cond (eqb (row a).kind 8) (row (name_row (row a).p)) (row a)

  abbrev pub head_at : ℕ → Head
  head_at a = head_of (acting a)

  abbrev pub model_in : ℕ → Model
  model_in r = model_at (λ i. type_form (row i)) r

  abbrev pub content_at : ℕ → Model
  content_at a = model_in (acting a).q

  -- a tree fits a place; a set of places of a model admits a forest
  unfoldable mutual
    pub Fits : Tree → ℕ → Type 0
    Fits (text w) a = head_at a ≡ Head.text
    Fits (bool b) a = head_at a ≡ Head.bool
    Fits (node n f) a = (head_at a ≡ Head.label n) × Admits f (content_at a) (start (content_at a))

    pub Admits : Forest → Model → Set → Type 0
    Admits nil m s = s 0 ≡ true
    Admits (cons t f) m s = (a : ℕ) × (0 < a) × (s a ≡ true) × Fits t a × Admits f m (next m a)

  -- at the start of a model of rows up to n, or behind one of its places, both a and b may stand, and they have one head
  abbrev pub rivals : ℕ → Model → ℕ → ℕ → Bool
  rivals n m a b = not (eqb a b) && same_head (head_at a) (head_at b)
      && (first m a && first m b || some (λ c. follows m c a && follows m c b) n)

-- ---- ties: all declared types and all contents

module _ (S : Script) where
  abbrev pub is_declared : ℕ → Bool
  is_declared r = eqb S.a r || eqb S.b r || some (λ x. eqb (S.name_row x) r) S.names
      || some (λ c. eqb (S.procedure_row c).first r || eqb (S.procedure_row c).second r || eqb (S.procedure_row c).input r || eqb
      (S.procedure_row c).output r) S.procedures

  abbrev pub is_content : ℕ → Bool
  is_content r = some (λ i. eqb (S.type_row i).kind 4 && eqb (S.type_row i).q r) S.types

  -- a and b are tied in some declared type or content
  unfoldable pub tied : ℕ → ℕ → Bool
  tied a b = some (λ r. (is_declared r || is_content r) && rivals S.type_row S.name_row S.types (model_in S.type_row S.name_row r)
      a b) S.types

  -- the lowest row concerned, with its lowest rival
  pub record Tie (a b : ℕ) : Type 0 where
    pub is : tied a b ≡ true
    pub lowest : (c d : ℕ) → c < a → tied c d ≡ false
    pub rival : (d : ℕ) → d < b → tied a d ≡ false

  abbrev pub Untied : Type 0
  Untied = (a b : ℕ) → tied a b ≡ false

  -- the lowest barren name
  pub record LowestBarren (x : ℕ) : Type 0 where
    pub is_name : in_table S.names x ≡ true
    pub barren : Barren (names_in S) x
    pub lowest : (y : ℕ) → in_table S.names y ≡ true → y < x → Fertile (names_in S) y

  abbrev pub NoneBarren : Type 0
  NoneBarren = (x : ℕ) → in_table S.names x ≡ true → Fertile (names_in S) x
