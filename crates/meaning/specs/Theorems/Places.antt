-- A forest is of a type exactly if the places of the type's model admit it: over any table of rows in order, by the computed sets and by any table that is wired, and so for every row of a shaped
-- sheet.
-- By induction on forests: a place's content is smaller than the tree that stands there. And ties are what the words of the models say (XML 1.0, section 3.2.1, as Brüggemann-Klein and Wood read
-- it).
use Rattle.std.specs.Prelude.{ℕ, zero, suc, ◌≤◌, ◌<◌, ◌≡◌, refl, Bool, true, ◌&&◌, ◌||◌, not, ◌↔◌, eqb}
use Rattle.std.proofs.Common.{◌∙◌, ap, inl, inr, arith, eq-eqb, ne_eqb}
use Rattle.std.proofs.Math.Path.{subst⁻¹, fun_ext}
use Rattle.std.proofs.lemmas.Bool.{false≢true}
use mathlib.Core.List.{List, [], ◌∷◌, ◌++◌, append_assoc, eq-nil-or-concat, concat-eq-append}
use Rattle.std.proofs.Math.Logic.Iff
use Rattle.meaning.specs.Tests.{some, in_table}
use Rattle.meaning.specs.Sheet.{Cells, Script, script_of}
use Rattle.meaning.specs.Kinds.{TypeRow, type_form}
use Rattle.meaning.specs.Forest.{Text, Tree, Forest, nil, cons, only, ◌⊕◌}
use Rattle.meaning.specs.Types.{Ty, Named, Head, opened, Of, of_empty, of_text, of_bool, of_label, of_seq, of_left, of_right, of_none, of_more, of_name, ty_form, ty_at, declared, names_in}
use Rattle.meaning.specs.Places.{
  Model,
  model_form,
  model_at,
  model_in,
  Word,
  Next,
  Set,
  first,
  follows,
  start,
  next,
  acting,
  head_at,
  content_at,
  Fits,
  Admits,
  same_head,
  rivals,
  is_declared,
  is_content,
  tied,
}
use Rattle.meaning.specs.Shape.{shapely}
use Rattle.meaning.specs.Laws.Bools.{or_left, or_right, or_cases, and_left, and_right, and_both}
use Rattle.meaning.specs.Laws.Tests.{in_table_lem, table_low, table_high, some_at, some_of}
use Rattle.meaning.specs.Laws.Models.{same_head_says, first_word, follows_word}
use Rattle.meaning.specs.Laws.Wired.{has, Wired, ends, In, in_empty, in_atom, in_seq, in_left, in_right, in_none, in_more, Lang, places, FitsBy, AdmitsBy, admits_by_lang}
use Rattle.meaning.specs.Laws.Apart.{
  Apart,
  exchanged,
  word_has,
  model_placed,
  model_below,
  model_apart,
  Low,
  Lower,
  Labelled,
  Once,
  View,
  v_none,
  v_empty,
  v_text,
  v_bool,
  v_label,
  v_seq,
  v_choice,
  v_star,
  v_name,
  view,
  ty_at_row,
  model_at_row,
  model_wired,
  shaped_lower,
  shaped_labelled,
  shaped_once,
}

-- ---- what is of a place's type

abbrev ty_of_head : Head → Ty → Ty
ty_of_head Head.text τ = Ty.text
ty_of_head Head.bool τ = Ty.bool
ty_of_head (Head.label n) τ = Ty.label n τ

module _ (names : ℕ → Named) where
  one_tree : (h : Head) (τ : Ty) (f : Forest) → Of names (ty_of_head h τ) f → (t : Tree) × (f ≡ only t)
  one_tree Head.text τ f (of_text {w = w}) = (Tree.text w, refl)
  one_tree Head.bool τ f (of_bool {b = b}) = (Tree.bool b, refl)
  one_tree (Head.label n) τ f (of_label {f = g} i) = (Tree.node n g, refl)

  text_head : {w : Text} (h : Head) (τ : Ty) → Of names (ty_of_head h τ) (only (Tree.text w)) → h ≡ Head.text
  text_head Head.text τ of_text = refl
  text_head Head.bool τ i = elim i [ ]
  text_head (Head.label n) τ i = elim i [ ]

  bool_head : {b : Bool} (h : Head) (τ : Ty) → Of names (ty_of_head h τ) (only (Tree.bool b)) → h ≡ Head.bool
  bool_head Head.text τ i = elim i [ ]
  bool_head Head.bool τ of_bool = refl
  bool_head (Head.label n) τ i = elim i [ ]

  node_head : {n : ℕ} {f : Forest} (h : Head) (τ : Ty) → Of names (ty_of_head h τ) (only (Tree.node n f)) → (h ≡ Head.label n) × Of names τ f
  node_head Head.text τ i = elim i [ ]
  node_head Head.bool τ i = elim i [ ]
  node_head (Head.label n) τ (of_label i) = (refl, i)

  -- a tree is of an atom's type exactly if it has its head, and its children are of its content
  text_says : (h : Head) (τ : Ty) (w : Text) → h ≡ Head.text ↔ Of names (ty_of_head h τ) (only (Tree.text w))
  text_says h τ w = (λ e. rw e of_text, λ i. text_head h τ i)

  bool_says : (h : Head) (τ : Ty) (b : Bool) → h ≡ Head.bool ↔ Of names (ty_of_head h τ) (only (Tree.bool b))
  bool_says h τ b = (λ e. rw e of_bool, λ i. bool_head h τ i)

  node_says : (h : Head) (τ : Ty) (n : ℕ) (f : Forest) (P : Type 0) → (h ≡ Head.label n → P ↔ Of names τ f) → (h ≡ Head.label n) × P ↔ Of names (ty_of_head h τ) (only (Tree.node n f))
  node_says h τ n f P p = (
    λ x. rw x.0 (of_label ((p x.0).0 x.1)),
    λ i. let z = node_head h τ i in (z.0, (p z.0).1 z.1),
  )

  of_opened : {x : ℕ} {f : Forest} → Of names (Ty.name x) f → Of names (opened (names x)) f
  of_opened (of_name i) = i

-- the rows that are atoms
abbrev pub Atomic : TypeRow → Type 0
Atomic TypeRow.none = ⊥
Atomic TypeRow.empty = ⊥
Atomic TypeRow.text = Unit {0}
Atomic TypeRow.bool = Unit {0}
Atomic (TypeRow.label n q) = Unit {0}
Atomic (TypeRow.seq p q) = ⊥
Atomic (TypeRow.choice p q) = ⊥
Atomic (TypeRow.star p) = ⊥
Atomic (TypeRow.name x) = Unit {0}

-- ---- over a table

-- `names_in`, over a table
abbrev pub names_over : (ℕ → Cells) → (ℕ → ℕ) → ℕ → Named
names_over row name_row x = record { label = (row (name_row x)).p; content = ty_at (λ i. type_form (row i)) (row (name_row x)).q }

module _ (row : ℕ → Cells) (name_row : ℕ → ℕ) (lower : Lower row) (labelled : Labelled row name_row) where
  abbrev form : ℕ → TypeRow
  form i = type_form (row i)

  abbrev names : ℕ → Named
  names = names_over row name_row

  -- the type of a place, a name's label row for the name, and of what is inside it
  abbrev content_ty : ℕ → Ty
  content_ty a = ty_at form (acting row name_row a).q

  abbrev place_ty : ℕ → Ty
  place_ty a = ty_of_head (head_at row name_row a) (content_ty a)

  place_row : (a : ℕ) (t : TypeRow) → View (row a) t → Atomic t → (f : Forest) → Of names (ty_form t (ty_at form)) f ↔ Of names (place_ty a) f
  unfolding ty_form
  place_row a t v_none x f = elim x [ ]
  place_row a t v_empty x f = elim x [ ]
  place_row a t (v_text e) x f = rw e (λ i. i, λ i. i)
  place_row a t (v_bool e) x f = rw e (λ i. i, λ i. i)
  place_row a t (v_label e) x f = rw e (λ i. i, λ i. i)
  place_row a t (v_seq e) x f = elim x [ ]
  place_row a t (v_choice e) x f = elim x [ ]
  place_row a t (v_star e) x f = elim x [ ]
  place_row a t (v_name e) x f = rw (e, labelled a e) (λ i. of_opened names i, λ i. of_name i)

  acting_row : (a : ℕ) (t : TypeRow) → View (row a) t → Atomic t → (n : ℕ) → head_at row name_row a ≡ Head.label n → (i : ℕ) × (acting row name_row a ≡ row i) × ((row i).kind ≡ 4)
  acting_row a t v_none x n h = elim x [ ]
  acting_row a t v_empty x n h = elim x [ ]
  acting_row a t (v_text e) x n h = let g : Head.text ≡ Head.label n = rw e at h in let z : ◌≡◌ {A = ℕ} 0 1 = cc in absurd (omega arith)
  acting_row a t (v_bool e) x n h = let g : Head.bool ≡ Head.label n = rw e at h in let z : ◌≡◌ {A = ℕ} 0 1 = cc in absurd (omega arith)
  acting_row a t (v_label e) x n h = (a, rw e, e)
  acting_row a t (v_seq e) x n h = elim x [ ]
  acting_row a t (v_choice e) x n h = elim x [ ]
  acting_row a t (v_star e) x n h = elim x [ ]
  acting_row a t (v_name e) x n h = (name_row (row a).p, rw e, labelled a e)

  -- a type, and its model over its rows
  data Rows : Ty → Model → Type 0 where
    r_empty : Rows Ty.empty Model.empty
    r_atom : {a : ℕ} {τ : Ty} → Atomic (form a) → ty_form (form a) (ty_at form) ≡ τ → Rows τ (Model.atom a)
    r_seq : {τ σ : Ty} {m n : Model} → Rows τ m → Rows σ n → Rows (Ty.seq τ σ) (Model.seq m n)
    r_choice : {τ σ : Ty} {m n : Model} → Rows τ m → Rows σ n → Rows (Ty.choice τ σ) (Model.choice m n)
    r_star : {τ : Ty} {m : Model} → Rows τ m → Rows (Ty.star τ) (Model.star m)

  atom_row : (t : TypeRow) (r : ℕ) → form r ≡ t → Atomic t → Rows (ty_form t (ty_at form)) (Model.atom r)
  atom_row t r e x = r_atom {a = r} {τ = ty_form t (ty_at form)} (rw e x) (rw e)

  rows_row : (t : TypeRow) (r : ℕ) → form r ≡ t → Low t r → ((j : ℕ) → j < r → Rows (ty_at form j) (model_at form j)) → Rows (ty_form t (ty_at form)) (model_form t r (model_at form))
  unfolding Low ty_form model_form
  rows_row TypeRow.none r e l h = r_empty
  rows_row TypeRow.empty r e l h = r_empty
  rows_row TypeRow.text r e l h = atom_row TypeRow.text r e tt
  rows_row TypeRow.bool r e l h = atom_row TypeRow.bool r e tt
  rows_row (TypeRow.label n q) r e l h = atom_row (TypeRow.label n q) r e tt
  rows_row (TypeRow.seq p q) r e l h = r_seq (h p l.0) (h q l.1)
  rows_row (TypeRow.choice p q) r e l h = r_choice (h p l.0) (h q l.1)
  rows_row (TypeRow.star p) r e l h = r_star (h p l)
  rows_row (TypeRow.name x) r e l h = atom_row (TypeRow.name x) r e tt

  rows_below : (n r : ℕ) → r < n → Rows (ty_at form r) (model_at form r)
  rows_below zero r l = absurd (omega arith)
  rows_below (suc n) r l = rw (ty_at_row form lower r, model_at_row form lower r) (rows_row (form r) r refl (lower r) (λ j p. rows_below n j (omega arith)))

  module _ (M : ℕ → Tree → Type 0) where
    -- at every place, t is of the place's type exactly if M says so
    abbrev Says : Tree → Type 0
    Says t = (a : ℕ) → Atomic (form a) → M a t ↔ Of names (place_ty a) (only t)

    abbrev Each : Forest → Type 0
    Each nil = Unit {0}
    Each (cons t f) = Says t × Each f

    each_front : (f g : Forest) → Each (f ⊕ g) → Each f
    unfolding ◌⊕◌
    each_front nil g x = tt
    each_front (cons t f) g x = (x.0, each_front f g x.1)

    each_back : (f g : Forest) → Each (f ⊕ g) → Each g
    unfolding ◌⊕◌
    each_back nil g x = x
    each_back (cons t f) g x = each_back f g x.1

    atom_in : (a : ℕ) → Atomic (form a) → (f : Forest) → Each f → Of names (ty_form (form a) (ty_at form)) f → In M (Model.atom a) f
    atom_in a x f s i = go (one_tree names (head_at row name_row a) (content_ty a) f j) s j
      where
        j : Of names (place_ty a) f
        j = (place_row a (form a) (view (row a)) x f).0 i

        go : (t : Tree) × (f ≡ only t) → Each f → Of names (place_ty a) f → In M (Model.atom a) f
        go (t, e) s j = rw e (in_atom (((rw e at s).0 a x).1 (rw e at j)))

    star_in : {τ : Ty} {f : Forest} → Of names (Ty.star τ) f → (m : Model) → ((g : Forest) → Each g → Of names τ g → In M m g) → Each f → In M (Model.star m) f
    star_in of_none m h x = in_none
    star_in (of_more {f = f} {g = g} i j) m h x = in_more (h f (each_front f g x) i) (star_in j m h (each_back f g x))

    of_in : {τ : Ty} {m : Model} → Rows τ m → (f : Forest) → Each f → Of names τ f → In M m f
    of_in r_empty f x of_empty = in_empty
    of_in (r_atom {a = a} p e) f x i = atom_in a p f x (rw (← e) at i)
    of_in (r_seq r s) f x (of_seq {f = g} {g = h} i j) = in_seq (of_in r g (each_front g h x) i) (of_in s h (each_back g h x) j)
    of_in (r_choice r s) f x (of_left i) = in_left (of_in r f x i)
    of_in (r_choice r s) f x (of_right i) = in_right (of_in s f x i)
    of_in (r_star {m = m} r) f x i = star_in i m (λ g y j. of_in r g y j) x

    star_of : {m : Model} {f : Forest} → In M (Model.star m) f → (τ : Ty) → ((g : Forest) → Each g → In M m g → Of names τ g) → Each f → Of names (Ty.star τ) f
    star_of in_none τ h x = of_none
    star_of (in_more {f = f} {g = g} i j) τ h x = of_more (h f (each_front f g x) i) (star_of j τ h (each_back f g x))

    in_of : {τ : Ty} {m : Model} → Rows τ m → (f : Forest) → Each f → In M m f → Of names τ f
    in_of r_empty f x in_empty = of_empty
    in_of (r_atom {a = a} p e) f x (in_atom {t = t} i) = rw e at ((place_row a (form a) (view (row a)) p (only t)).1 ((x.0 a p).0 i))
    in_of (r_seq r s) f x (in_seq {f = g} {g = h} i j) = of_seq (in_of r g (each_front g h x) i) (in_of s h (each_back g h x) j)
    in_of (r_choice r s) f x (in_left i) = of_left (in_of r f x i)
    in_of (r_choice r s) f x (in_right i) = of_right (in_of s f x i)
    in_of (r_star {τ = τ} r) f x i = star_of i τ (λ g y j. in_of r g y j) x

    -- the forests of the model at a row are those of the type there
    in_is_of : (r : ℕ) (f : Forest) → Each f → In M (model_at form r) f ↔ Of names (ty_at form r) f
    in_is_of r f x = let s = rows_below (suc r) r (omega arith) in (in_of s f x, of_in s f x)

    lang_is_of : (nx : ℕ → Set) (r : ℕ) → Wired nx (model_in row name_row r) ends → (f : Forest) → Each f → Lang M nx (start (model_in row name_row r)) f ↔ Of names (ty_at form r) f
    lang_is_of nx r w f x = Iff.trans (places M nx (model_in row name_row r) w f) (in_is_of r f x)

  -- ---- by the computed sets

  abbrev Suits : ℕ → Tree → Type 0
  Suits a t = Fits row name_row t a

  admits_lang : (f : Forest) (m : Model) (s : Set) → Admits row name_row f m s ↔ Lang Suits (next m) s f
  unfolding Admits Lang
  admits_lang nil m s = (λ x. x, λ x. x)
  admits_lang (cons t f) m s = (
    λ x. (x.0, x.1, x.2, x.3, (admits_lang f m (next m x.0)).0 x.4),
    λ x. (x.0, x.1, x.2, x.3, (admits_lang f m (next m x.0)).1 x.4),
  )

  module _ (once : Once row) where
    admits_each : (r : ℕ) (f : Forest) → Each Suits f → Admits row name_row f (model_in row name_row r) (start (model_in row name_row r)) ↔ Of names (ty_at form r) f
    admits_each r f x =
        let m = model_in row name_row r in
        Iff.trans (admits_lang f m (start m)) (lang_is_of Suits (next m) r (model_wired row name_row lower once r) f x)

    mutual
      unfolding Fits

      fits_of : (t : Tree) → Says Suits t
      fits_of (Tree.text w) a x = text_says names (head_at row name_row a) (content_ty a) w
      fits_of (Tree.bool b) a x = bool_says names (head_at row name_row a) (content_ty a) b
      fits_of (Tree.node n f) a x = node_says names (head_at row name_row a) (content_ty a) n f _ (λ e. admits_each (acting row name_row a).q f (fits_each f))

      fits_each : (f : Forest) → Each Suits f
      fits_each nil = tt
      fits_each (cons t f) = (λ a x. fits_of t a x, fits_each f)

    pub admits_of : (r : ℕ) (f : Forest) → Admits row name_row f (model_in row name_row r) (start (model_in row name_row r)) ↔ Of names (ty_at form r) f
    admits_of r f = admits_each r f (fits_each f)

  -- ---- by any table that is wired

  module _ (inner nx : ℕ → Set)
      (inside : (a : ℕ) → (acting row name_row a).kind ≡ 4 → (b : ℕ) → inner a b ≡ start (content_at row name_row a) b)
      (wired : (i : ℕ) → (row i).kind ≡ 4 → Wired nx (model_in row name_row (row i).q) ends) where
    abbrev SuitsBy : ℕ → Tree → Type 0
    SuitsBy a t = FitsBy (head_at row name_row) inner nx t a

    admits_by_each : (r : ℕ) → Wired nx (model_in row name_row r) ends → (f : Forest) → Each SuitsBy f
        → AdmitsBy (head_at row name_row) inner nx f (start (model_in row name_row r)) ↔ Of names (ty_at form r) f
    admits_by_each r w f x = Iff.trans (admits_by_lang (head_at row name_row) inner nx f (start (model_in row name_row r))) (lang_is_of SuitsBy nx r w f x)

    content_by : (a : ℕ) → Atomic (form a) → (n : ℕ) → head_at row name_row a ≡ Head.label n → (f : Forest) → Each SuitsBy f
        → AdmitsBy (head_at row name_row) inner nx f (inner a) ↔ Of names (content_ty a) f
    content_by a x n e f s =
        let z = acting_row a (form a) (view (row a)) x n e in
        let k : (acting row name_row a).kind ≡ 4 = ap (λ (c : Cells). c.kind) z.1 ∙ z.2 in
        rw (fun_ext (inside a k)) (admits_by_each (acting row name_row a).q (subst⁻¹ (λ (c : Cells). Wired nx (model_in row name_row c.q) ends) z.1 (wired z.0 z.2)) f s)

    mutual
      unfolding FitsBy

      fits_by_of : (t : Tree) → Says SuitsBy t
      fits_by_of (Tree.text w) a x = text_says names (head_at row name_row a) (content_ty a) w
      fits_by_of (Tree.bool b) a x = bool_says names (head_at row name_row a) (content_ty a) b
      fits_by_of (Tree.node n f) a x = node_says names (head_at row name_row a) (content_ty a) n f _ (λ e. content_by a x n e f (fits_by_each f))

      fits_by_each : (f : Forest) → Each SuitsBy f
      fits_by_each nil = tt
      fits_by_each (cons t f) = (λ a x. fits_by_of t a x, fits_by_each f)

    pub admits_by_of : (r : ℕ) → Wired nx (model_in row name_row r) ends → (f : Forest)
        → AdmitsBy (head_at row name_row) inner nx f (start (model_in row name_row r)) ↔ Of names (ty_at form r) f
    admits_by_of r w f = admits_by_each r w f (fits_by_each f)

-- ---- the types of a shaped sheet

module _ (s : List ℕ) (e : shapely s ≡ true) where
  abbrev type_rows : ℕ → Cells
  type_rows = (script_of s).type_row

  abbrev name_rows : ℕ → ℕ
  name_rows = (script_of s).name_row

  -- a forest is of a declared type exactly if the type's places admit it; what is no row is the empty type
  pub places_say : (r : ℕ) (f : Forest) → Admits type_rows name_rows f (model_in type_rows name_rows r) (start (model_in type_rows name_rows r))
      ↔ Of (names_in (script_of s)) (declared (script_of s) r) f
  unfolding names_in
  places_say = admits_of type_rows name_rows (shaped_lower s e) (shaped_labelled s e) (shaped_once s e)

  -- the same by any table that is wired for the type and for every content
  pub places_say_by : (inner nx : ℕ → Set)
      → ((a : ℕ) → (acting type_rows name_rows a).kind ≡ 4 → (b : ℕ) → inner a b ≡ start (content_at type_rows name_rows a) b)
      → ((i : ℕ) → (type_rows i).kind ≡ 4 → Wired nx (model_in type_rows name_rows (type_rows i).q) ends)
      → (r : ℕ) → Wired nx (model_in type_rows name_rows r) ends
      → (f : Forest) → AdmitsBy (head_at type_rows name_rows) inner nx f (start (model_in type_rows name_rows r)) ↔ Of (names_in (script_of s)) (declared (script_of s) r) f
  unfolding names_in
  places_say_by = admits_by_of type_rows name_rows (shaped_lower s e) (shaped_labelled s e)

-- ---- ties

other_place : (a b : ℕ) → not (eqb a b) ≡ true ↔ (a ≡ b → ⊥)
other_place a b = (λ e h. false≢true (rw (eq-eqb a b h) at e), λ h. rw (ne_eqb a b h))

-- both a and b may stand next at one point of a word
pub record Both (m : Model) (a b : ℕ) : Type 0 where
  pub point : List ℕ
  pub one : Next m point a
  pub other : Next m point b

module _ (m : Model) (a b n : ℕ) where
  -- as `rivals` computes it: at the start, or behind a place up to n
  abbrev meets : Bool
  meets = first m a && first m b || some (λ c. follows m c a && follows m c b) n

  begin_next : (c : ℕ) → first m c ≡ true → Next m [] c
  begin_next c h = let w = (first_word m c).0 h in record { rest = w.0; word = w.1 }

  meets_both : Apart m → meets ≡ true → Both m a b
  meets_both x h = elim (or_cases (first m a && first m b) (some (λ c. follows m c a && follows m c b) n) h) [
    | inl g ↦ record { point = []; one = begin_next a (and_left (first m a) (first m b) g); other = begin_next b (and_right (first m a) (first m b) g) }
    | inr g ↦ (let z = some_of (λ c. follows m c a && follows m c b) n g in behind z.0 z.3)
  ]
    where
      behind : (c : ℕ) → follows m c a && follows m c b ≡ true → Both m a b
      behind c g =
          let v = (follows_word m c a).0 (and_left (follows m c a) (follows m c b) g) in
          let w = (follows_word m c b).0 (and_right (follows m c a) (follows m c b) g) in
          record {
            point = v.0 ++ c ∷ [];
            one = record { rest = v.1; word = rw (append_assoc v.0 (c ∷ []) (a ∷ v.1)) v.2 };
            other = record { rest = w.1; word = rw (append_assoc v.0 (c ∷ []) (b ∷ w.1)) (exchanged m x c v.0 (a ∷ v.1) w.0 (b ∷ w.1) v.2 w.2) };
          }

  -- a point is the start, or behind a place
  next_first : (c : ℕ) (u : List ℕ) → u ≡ [] → Next m u c → first m c ≡ true
  next_first c u e x = (first_word m c).1 (x.rest, rw e at x.word)

  next_behind : (c d : ℕ) (u l : List ℕ) → u ≡ l ++ d ∷ [] → (x : Next m u c) → Word m (l ++ d ∷ c ∷ x.rest)
  next_behind c d u l e x = rw (append_assoc l (d ∷ []) (c ∷ x.rest)) at (rw e at x.word)

  both_meets : ((c : ℕ) → has m c ≡ true → (1 ≤ c) × (c ≤ n)) → Both m a b → meets ≡ true
  both_meets h k = elim (eq-nil-or-concat k.point) [
    | inl e ↦ or_left (some (λ c. follows m c a && follows m c b) n) (and_both (first m a) (first m b) (next_first a k.point e k.one) (next_first b k.point e k.other))
    | inr z ↦ (let l = z.0 in let d = z.1 in let e = z.2 ∙ concat-eq-append l d in
        let v = next_behind a d k.point l e k.one in
        let w = next_behind b d k.point l e k.other in
        let i = h d (word_has v d l (a ∷ k.one.rest) refl) in
        or_right (first m a && first m b) (some_at (λ c. follows m c a && follows m c b) n d i.0 i.1
        (and_both (follows m d a) (follows m d b) ((follows_word m d a).1 (l, k.one.rest, v)) ((follows_word m d b).1 (l, k.other.rest, w)))))
  ]

-- rivals: both may stand next at one point, and they are two places with one head
module _ (row : ℕ → Cells) (name_row : ℕ → ℕ) (m : Model) (a b : ℕ) where
  pub record Rivals : Type 0 where
    pub both : Both m a b
    pub differ : a ≡ b → ⊥
    pub head : head_at row name_row a ≡ head_at row name_row b

  abbrev same : Bool
  same = same_head (head_at row name_row a) (head_at row name_row b)

  rivals_are : (n : ℕ) → Apart m → ((c : ℕ) → has m c ≡ true → (1 ≤ c) × (c ≤ n)) → rivals row name_row n m a b ≡ true ↔ Rivals
  rivals_are n x l = (
    λ h. let g = and_left (not (eqb a b) && same) (meets m a b n) h in record {
      both = meets_both m a b n x (and_right (not (eqb a b) && same) (meets m a b n) h);
      differ = (other_place a b).0 (and_left (not (eqb a b)) same g);
      head = (same_head_says (head_at row name_row a) (head_at row name_row b)).0 (and_right (not (eqb a b)) same g);
    },
    λ z. and_both (not (eqb a b) && same) (meets m a b n)
        (and_both (not (eqb a b)) same ((other_place a b).1 z.differ) ((same_head_says (head_at row name_row a) (head_at row name_row b)).1 z.head)) (both_meets m a b n l z.both),
  )

-- two places are tied: they are rivals in a declared type or in a content
pub record Tying (S : Script) (a b : ℕ) : Type 0 where
  pub root : ℕ
  pub is_row : in_table S.types root ≡ true
  pub asked : is_declared S root || is_content S root ≡ true
  pub rivals : Rivals S.type_row S.name_row (model_in S.type_row S.name_row root) a b

module _ (s : List ℕ) (e : shapely s ≡ true) (a b : ℕ) where
  abbrev asked_at : ℕ → Bool
  asked_at r = is_declared (script_of s) r || is_content (script_of s) r

  abbrev model_here : ℕ → Model
  model_here r = model_in (script_of s).type_row (script_of s).name_row r

  abbrev rivals_at : ℕ → Bool
  rivals_at r = Rattle.meaning.specs.Places.rivals (script_of s).type_row (script_of s).name_row (script_of s).types (model_here r) a b

  rivals_at_are : (r : ℕ) → r ≤ (script_of s).types → rivals_at r ≡ true ↔ Rivals (script_of s).type_row (script_of s).name_row (model_here r) a b
  rivals_at_are r l = rivals_are (script_of s).type_row (script_of s).name_row (model_here r) a b (script_of s).types
      (model_apart (script_of s).type_row (script_of s).name_row (shaped_lower s e) (shaped_once s e) r)
      (λ c h. (model_placed (script_of s).type_row (script_of s).name_row (shaped_lower s e) r c h, omega (arith, model_below (script_of s).type_row (script_of s).name_row (shaped_lower s e) r c h)))

  pub tied_says : tied (script_of s) a b ≡ true ↔ Tying (script_of s) a b
  unfolding tied
  tied_says = (
    λ h. let z = some_of (λ r. asked_at r && rivals_at r) (script_of s).types h in record {
      root = z.0;
      is_row = in_table_lem (script_of s).types z.0 z.1 z.2;
      asked = and_left (asked_at z.0) (rivals_at z.0) z.3;
      rivals = (rivals_at_are z.0 z.2).0 (and_right (asked_at z.0) (rivals_at z.0) z.3);
    },
    λ t. let l = table_high (script_of s).types t.root t.is_row in
        some_at (λ r. asked_at r && rivals_at r) (script_of s).types t.root (table_low (script_of s).types t.root t.is_row) l
        (and_both (asked_at t.root) (rivals_at t.root) t.asked ((rivals_at_are t.root l).1 t.rivals)),
  )
