-- On a shaped sheet with no tie no type row has one: every row's words stand inside the words of a declared type or a content, so its rivals would be rivals there.
-- By induction on rows, from the last down: a row's user is higher.
use Rattle.std.specs.Prelude.{ℕ, zero, suc, ◌+◌, ◌<◌, ◌≡◌, true, ◌&&◌, ◌||◌}
use Rattle.std.proofs.Common.{◌∙◌, inl, inr, arith}
use mathlib.Core.List.{List, [], ◌∷◌, ◌++◌, append_assoc, append-nil, eq-nil-or-concat, concat-eq-append}
use Rattle.meaning.specs.Tests.{in_table}
use Rattle.meaning.specs.Sheet.{Script, script_of}
use Rattle.meaning.specs.Kinds.{TypeRow, type_form}
use Rattle.meaning.specs.Types.{Head}
use Rattle.meaning.specs.Shape.{shapely}
use Rattle.meaning.specs.Places.{Model, model_form, Word, w_seq, w_left, w_right, w_more, w_none, first, follows, head_at, model_in, is_declared, is_content, Untied}
use Rattle.meaning.specs.Laws.Bools.{or_left, or_right, and_both}
use Rattle.meaning.specs.Laws.Tests.{table_high, some_at}
use Rattle.meaning.specs.Laws.Models.{any_word, first_word, follows_word}
use Rattle.meaning.specs.Laws.Apart.{Side, side_lower, followed_has, model_placed, model_below, model_at_row, shaped_lower}
use Rattle.meaning.specs.Laws.Users.{user_of}
use Rattle.meaning.specs.Theorems.Within.Rows.{one_place}

module _ (s : List ℕ) (e : shapely s ≡ true) where
  abbrev S : Script
  S = script_of s

  abbrev model_of : ℕ → Model
  model_of r = model_in S.type_row S.name_row r

  -- ---- the words of a row stand inside those of a model that is asked about

  record Held (r : ℕ) : Type 0 where
    pub root : ℕ
    pub is_row : in_table S.types root ≡ true
    pub is_asked : is_declared S root || is_content S root ≡ true
    pub before : List ℕ
    pub behind : List ℕ
    pub within : (u : List ℕ) → Word (model_of r) u → Word (model_of root) (before ++ (u ++ behind))

  -- a word of a side inside a word of the row
  record Inner (r i : ℕ) : Type 0 where
    pub before : List ℕ
    pub behind : List ℕ
    pub within : (u : List ℕ) → Word (model_of r) u → Word (model_of i) (before ++ (u ++ behind))

  inner_row : (t : TypeRow) (r i : ℕ) → model_of i ≡ model_form t i model_of → Side t r → Inner r i
  unfolding Side model_form
  inner_row TypeRow.none r i e h = elim h [ ]
  inner_row TypeRow.empty r i e h = elim h [ ]
  inner_row TypeRow.text r i e h = elim h [ ]
  inner_row TypeRow.bool r i e h = elim h [ ]
  inner_row (TypeRow.label n q) r i e h = elim h [ ]
  inner_row (TypeRow.seq p q) r i e (inl h) = let w = any_word (model_of q) in record { before = []; behind = w.0; within = λ u x. rw e (w_seq (rw (← h) at x) w.1) }
  inner_row (TypeRow.seq p q) r i e (inr h) = let w = any_word (model_of p) in record { before = w.0; behind = []; within = λ u x. rw (e, append-nil u) (w_seq w.1 (rw (← h) at x)) }
  inner_row (TypeRow.choice p q) r i e (inl h) = record { before = []; behind = []; within = λ u x. rw (e, append-nil u) (w_left (rw (← h) at x)) }
  inner_row (TypeRow.choice p q) r i e (inr h) = record { before = []; behind = []; within = λ u x. rw (e, append-nil u) (w_right (rw (← h) at x)) }
  inner_row (TypeRow.star p) r i e h = record { before = []; behind = []; within = λ u x. rw e (w_more (rw (← h) at x) w_none) }
  inner_row (TypeRow.name x) r i e h = elim h [ ]

  inner : (r i : ℕ) → Side (type_form (S.type_row i)) r → Inner r i
  inner r i x = inner_row (type_form (S.type_row i)) r i (model_at_row (λ i. type_form (S.type_row i)) (shaped_lower s e) i) x

  regroup : (a b u c d : List ℕ) → (a ++ b) ++ (u ++ (c ++ d)) ≡ a ++ ((b ++ (u ++ c)) ++ d)
  regroup a b u c d = simp append_assoc

  held_root : (r : ℕ) → in_table S.types r ≡ true → is_declared S r || is_content S r ≡ true → Held r
  held_root r t a = record { root = r; is_row = t; is_asked = a; before = []; behind = []; within = λ u x. rw (append-nil u) x }

  held_inner : (r i : ℕ) → Inner r i → Held i → Held r
  held_inner r i x h = record {
    root = h.root;
    is_row = h.is_row;
    is_asked = h.is_asked;
    before = h.before ++ x.before;
    behind = x.behind ++ h.behind;
    within = λ u w. rw (regroup h.before x.before u x.behind h.behind) (h.within (x.before ++ (u ++ x.behind)) (x.within u w));
  }

  user_higher : (r i : ℕ) → Side (type_form (S.type_row i)) r → r < i
  user_higher r i x = side_lower (type_form (S.type_row i)) i r (shaped_lower s e i) x

  held_below : (d r : ℕ) → in_table S.types r ≡ true → S.types < r + d → Held r
  held_below zero r t l = absurd (omega (arith, table_high S.types r t))
  held_below (suc d) r t l = elim (user_of s e r t) [
    | inl a ↦ held_root r t a
    | inr u ↦ held_inner r u.0 (inner r u.0 u.2) (held_below d u.0 u.1 (omega (arith, user_higher r u.0 u.2)))
  ]

  held : (r : ℕ) → in_table S.types r ≡ true → Held r
  held r t = held_below (suc S.types) r t (omega arith)

  -- ---- so no row has rivals

  abbrev head : ℕ → Head
  head a = head_at S.type_row S.name_row a

  -- two places of one head that may stand at one point are one
  pub record Single (m : Model) : Type 0 where
    pub begin : (a b : ℕ) → first m a ≡ true → first m b ≡ true → head a ≡ head b → a ≡ b
    pub behind : (c a b : ℕ) → follows m c a ≡ true → follows m c b ≡ true → head a ≡ head b → a ≡ b

  module _ (untied : Untied S) where
    root_begin : (r a b : ℕ) → in_table S.types r ≡ true → is_declared S r || is_content S r ≡ true → head a ≡ head b → first (model_of r) a ≡ true → first (model_of r) b ≡ true → a ≡ b
    root_begin r a b t k h p q = one_place s e untied r a b (t, k) h (or_left _ (and_both (first (model_of r) a) (first (model_of r) b) p q))

    root_behind : (r c a b : ℕ) → in_table S.types r ≡ true → is_declared S r || is_content S r ≡ true → head a ≡ head b → follows (model_of r) c a ≡ true → follows (model_of r) c b ≡ true → a ≡ b
    root_behind r c a b t k h p q =
        let i = followed_has (model_of r) c a p in
        one_place s e untied r a b (t, k) h (or_right (first (model_of r) a && first (model_of r) b)
        (some_at (λ c. follows (model_of r) c a && follows (model_of r) c b) S.types c (model_placed S.type_row S.name_row (shaped_lower s e) r c i)
        (omega (arith, model_below S.type_row S.name_row (shaped_lower s e) r c i, table_high S.types r t)) (and_both (follows (model_of r) c a) (follows (model_of r) c b) p q)))

    -- a word of a row that begins with a, inside a word of the root
    held_begin : (r a b : ℕ) → Held r → head a ≡ head b → first (model_of r) a ≡ true → first (model_of r) b ≡ true → a ≡ b
    held_begin r a b x h p q =
        let m = model_of x.root in
        let u = (first_word (model_of r) a).0 p in
        let v = (first_word (model_of r) b).0 q in
        elim (eq-nil-or-concat x.before) [
          | inl n ↦ root_begin x.root a b x.is_row x.is_asked h
              ((first_word m a).1 (u.0 ++ x.behind, rw n at (x.within (a ∷ u.0) u.1))) ((first_word m b).1 (v.0 ++ x.behind, rw n at (x.within (b ∷ v.0) v.1)))
          | inr z ↦ (let l = z.0 in let d = z.1 in let n = z.2 ∙ concat-eq-append l d in
              root_behind x.root d a b x.is_row x.is_asked h
              ((follows_word m d a).1 (l, u.0 ++ x.behind, rw (append_assoc l (d ∷ []) (a ∷ (u.0 ++ x.behind))) at (rw n at (x.within (a ∷ u.0) u.1))))
              ((follows_word m d b).1 (l, v.0 ++ x.behind, rw (append_assoc l (d ∷ []) (b ∷ (v.0 ++ x.behind))) at (rw n at (x.within (b ∷ v.0) v.1)))))
        ]

    held_behind : (r c a b : ℕ) → Held r → head a ≡ head b → follows (model_of r) c a ≡ true → follows (model_of r) c b ≡ true → a ≡ b
    held_behind r c a b x h p q =
        let m = model_of x.root in
        let u = (follows_word (model_of r) c a).0 p in
        let v = (follows_word (model_of r) c b).0 q in
        root_behind x.root c a b x.is_row x.is_asked h (moved c a u.0 u.1 u.2) (moved c b v.0 v.1 v.2)
      where
        moved : (c a : ℕ) (l k : List ℕ) → Word (model_of r) (l ++ c ∷ a ∷ k) → follows (model_of x.root) c a ≡ true
        moved c a l k w = (follows_word (model_of x.root) c a).1 (
          x.before ++ l,
          k ++ x.behind,
          rw (append_assoc x.before l (c ∷ a ∷ (k ++ x.behind)), ← append_assoc l (c ∷ a ∷ k) x.behind) (x.within (l ++ c ∷ a ∷ k) w),
        )

    pub single : (r : ℕ) → in_table S.types r ≡ true → Single (model_of r)
    single r t = let x = held r t in record { begin = λ a b p q h. held_begin r a b x h p q; behind = λ c a b p q h. held_behind r c a b x h p q }
