-- The points of types are a side: every place that is reached stands in a word of its model, so a forest can go through it if every content has a forest. Tables that hold the points' sets are a
-- side that goes alike.
use Rattle.std.specs.Prelude.{ℕ, ◌≤◌, ◌≡◌, refl, Bool, false, ◌&&◌, ltb}
use Rattle.std.proofs.Common.{sym, ◌∙◌, inl, inr, arith, eqb-true, ltb-true, lt-ltb}
use Rattle.std.proofs.Math.Bool.{true}
use mathlib.Core.List.{List, [], ◌∷◌, ◌++◌, append_assoc}
use Rattle.std.proofs.Math.Dec.{eqb}
use Rattle.meaning.specs.Forest.{Tree, Forest, nil, cons}
use Rattle.meaning.specs.Types.{Head}
use Rattle.meaning.specs.Places.{Model, Word, nullable, first, last, follows, Set, start, next, same_head}
use Rattle.meaning.specs.Laws.Bools.{or_left, or_right, or_cases, and_left, and_right, and_both, not_both}
use Rattle.meaning.specs.Laws.Models.{first_word, last_word, follows_word, same_head_says}
use Rattle.meaning.specs.Laws.Wired.{has}
use Rattle.meaning.specs.Laws.Apart.{word_has}
use Rattle.meaning.specs.Laws.Pairs.{Side, Suits, Admitted, Lives, Included, Comes, comes_found, Looked, ended, Alike}

-- two heads that are not one
pub heads_differ : {g h : Head} → g ≡ h → same_head g h ≡ false → ⊥
heads_differ {g} {h} e d = not_both ((same_head_says g h).1 e) d

-- ---- the places of a model

-- a stands in a word of m
pub record On (m : Model) (a : ℕ) : Type 0 where
  pub before : List ℕ
  pub behind : List ℕ
  pub word : Word m (before ++ a ∷ behind)

pub on_has : {m : Model} {a : ℕ} → On m a → has m a ≡ true
on_has {a = a} o = word_has o.word a o.before o.behind refl

first_on : (m : Model) (a : ℕ) → first m a ≡ true → On m a
first_on m a e = let x = (first_word m a).0 e in record { before = []; behind = x.0; word = x.1 }

follows_on : (m : Model) (c a : ℕ) → follows m c a ≡ true → On m a
follows_on m c a e = let x = (follows_word m c a).0 e in record { before = x.0 ++ c ∷ []; behind = x.1; word = rw (append_assoc x.0 (c ∷ []) (a ∷ x.1)) x.2 }

-- a place that may stand at the start is first; one that may stand behind another follows it
pub has_first : (m : Model) (a : ℕ) → ltb 0 a && start m a ≡ true → first m a ≡ true
has_first m a e = elim (or_cases (first m a) (nullable m && eqb 0 a) (and_right (ltb 0 a) (start m a) e)) [
  | inl h ↦ h
  | inr h ↦ absurd (omega (arith, eqb-true 0 a (and_right (nullable m) (eqb 0 a) h), ltb-true 0 a (and_left (ltb 0 a) (start m a) e)))
]

pub has_follows : (m : Model) (c a : ℕ) → ltb 0 a && next m c a ≡ true → follows m c a ≡ true
has_follows m c a e = elim (or_cases (follows m c a) (last m c && eqb 0 a) (and_right (ltb 0 a) (next m c a) e)) [
  | inl h ↦ h
  | inr h ↦ absurd (omega (arith, eqb-true 0 a (and_right (last m c) (eqb 0 a) h), ltb-true 0 a (and_left (ltb 0 a) (next m c a) e)))
]

-- ---- points of types, as a side

-- types, each known by a key: its model, the heads of its places, and the types inside them
pub record Family : Type 1 where
  pub Key : Type 0
  pub model : Key → Model
  pub head : Key → ℕ → Head
  pub content : Key → ℕ → Key

-- a point of a type: the places that may stand there
pub record Point (K : Type 0) : Type 0 where
  pub key : K
  pub set : Set

module _ (T : Family) where
  abbrev pub begin : T.Key → Point T.Key
  begin k = record { key = k; set = start (T.model k) }

  abbrev pub beyond : T.Key → ℕ → Point T.Key
  beyond k a = record { key = k; set = next (T.model k) a }

  abbrev pub point_side : Side
  point_side = record {
    State = Point T.Key;
    ends = λ x. x.set 0;
    has = λ x a. ltb 0 a && x.set a;
    head = λ x a. T.head x.key a;
    into = λ x a. begin (T.content x.key a);
    after = λ x a. beyond x.key a;
  }

  -- the points that are reached: `Asked` holds of the types that are asked about and of the contents of their places
  module _ (Asked : T.Key → Type 0) where
    -- what stands at a place
    pub data Sort (k : T.Key) (a : ℕ) : Type 0 where
      sort_text : T.head k a ≡ Head.text → Sort k a
      sort_bool : T.head k a ≡ Head.bool → Sort k a
      sort_label : (n : ℕ) → T.head k a ≡ Head.label n → Asked (T.content k a) → Sort k a

    pub record Place (k : T.Key) (a : ℕ) : Type 0 where
      pub low : 1 ≤ a
      pub sort : Sort k a

    pub data Reached : Point T.Key → Type 0 where
      at_start : (k : T.Key) → Asked k → Reached (begin k)
      at_place : (k : T.Key) (c : ℕ) → Asked k → On (T.model k) c → Reached (beyond k c)

    pub reached_asked : {x : Point T.Key} → Reached x → Asked x.key
    reached_asked (at_start k h) = h
    reached_asked (at_place k c h o) = h

    pub reached_on : {x : Point T.Key} → Reached x → (a : ℕ) → ltb 0 a && x.set a ≡ true → On (T.model x.key) a
    reached_on (at_start k h) a e = first_on (T.model k) a (has_first (T.model k) a e)
    reached_on (at_place k c h o) a e = follows_on (T.model k) c a (has_follows (T.model k) c a e)

    module _ (each : (k : T.Key) → Asked k → (a : ℕ) → has (T.model k) a ≡ true → Place k a) where
      reached_place : {x : Point T.Key} → Reached x → (a : ℕ) → ltb 0 a && x.set a ≡ true → Place x.key a
      reached_place {x} h a e = each x.key (reached_asked h) a (on_has (reached_on h a e))

      pub reached_after : (x : Point T.Key) (a : ℕ) → Reached x → ltb 0 a && x.set a ≡ true → Reached (beyond x.key a)
      reached_after x a h e = at_place x.key a (reached_asked h) (reached_on h a e)

      pub reached_into : (x : Point T.Key) (a n : ℕ) → Reached x → ltb 0 a && x.set a ≡ true → T.head x.key a ≡ Head.label n → Reached (begin (T.content x.key a))
      unfolding same_head
      reached_into x a n h e g = go (reached_place h a e).sort
        where
          go : Sort x.key a → Reached (begin (T.content x.key a))
          go (sort_text i) = absurd (heads_differ (sym i ∙ g) refl)
          go (sort_bool i) = absurd (heads_differ (sym i ∙ g) refl)
          go (sort_label m i c) = at_start (T.content x.key a) c

      -- if every type asked about has a forest, then a forest can go through every place
      module _ (filled : (k : T.Key) → Asked k → (f : Forest) × Admitted point_side f (begin k)) where
        place_tree : (x : Point T.Key) (a : ℕ) → Sort x.key a → (t : Tree) × Suits point_side t x a
        unfolding Suits
        place_tree x a (sort_text e) = (Tree.text (record { offset = 0; size = 0; bytes = [] }), e)
        place_tree x a (sort_bool e) = (Tree.bool true, e)
        place_tree x a (sort_label n e h) = let f = filled (T.content x.key a) h in (Tree.node n f.0, (e, f.1))

        -- trees for the rest of a word
        word_behind : (k : T.Key) → Asked k → (v l : List ℕ) (a : ℕ) → Word (T.model k) (l ++ a ∷ v) → (f : Forest) × Admitted point_side f (beyond k a)
        unfolding Admitted
        word_behind k h [] l a w = (nil, or_right (follows (T.model k) a 0) (and_both (last (T.model k) a) (eqb 0 0) ((last_word (T.model k) a).1 (l, w)) refl))
        word_behind k h (b ∷ v) l a w =
            let u : Word (T.model k) ((l ++ a ∷ []) ++ b ∷ v) = rw (append_assoc l (a ∷ []) (b ∷ v)) w in
            let p = each k h b (word_has u b (l ++ a ∷ []) v refl) in
            let t = place_tree (beyond k a) b p.sort in
            let f = word_behind k h v (l ++ a ∷ []) b u in (
              cons t.0 f.0,
              (
                b,
                and_both (ltb 0 b) (next (T.model k) a b) (lt-ltb 0 b p.low) (or_left (last (T.model k) a && eqb 0 b) ((follows_word (T.model k) a b).1 (l, v, w))),
                t.1,
                f.1,
              ),
            )

        reached_lives : (x : Point T.Key) → Reached x → (a : ℕ) → ltb 0 a && x.set a ≡ true → Lives point_side x a
        reached_lives x h a e =
            let o = reached_on h a e in
            let t = place_tree x a (reached_place h a e).sort in
            let f = word_behind x.key (reached_asked h) o.behind o.before a o.word in
            record { tree = t.0; suits = t.1; behind = f.0; goes_on = f.1 }

        -- the found places that are reached from a type asked about live, whatever is wanted
        pub comes_lives : (W : Side) (y : W.State) (k : T.Key) → Asked k → (u : Point T.Key) (v : W.State) → Comes point_side W (begin k) y u v
            → (a : ℕ) → ltb 0 a && u.set a ≡ true → Lives point_side u a
        comes_lives W y k h u v c a e = reached_lives u (comes_found point_side W (begin k) y Reached (at_start k h) reached_after reached_into c) a e

-- ---- the same by tables: the sets inside each place and behind it, as code keeps them

module _ (hd : ℕ → Head) (inner nx : ℕ → Set) where
  abbrev pub table_side : Side
  table_side = record {
    State = Set;
    ends = λ s. s 0;
    has = λ s a. ltb 0 a && s a;
    head = λ s a. hd a;
    into = λ s a. inner a;
    after = λ s a. nx a;
  }

-- when a walk over pairs of places of two such sides has ended, all marked pairs looked at: inclusion
pub tables_ended : (hd hd' : ℕ → Head) (inner nx inner' nx' : ℕ → Set) (from from' : Set) (seen : ℕ → ℕ → Bool)
    → ((a b : ℕ) → seen a b ≡ true → Looked (table_side hd inner nx) (table_side hd' inner' nx') seen (nx a) (nx' b)
    × ((n : ℕ) → hd a ≡ Head.label n → Looked (table_side hd inner nx) (table_side hd' inner' nx') seen (inner a) (inner' b)))
    → Looked (table_side hd inner nx) (table_side hd' inner' nx') seen from from' → Included (table_side hd inner nx) (table_side hd' inner' nx') from from'
tables_ended hd hd' inner nx inner' nx' from from' seen all l = ended (table_side hd inner nx) (table_side hd' inner' nx') from from' seen (λ u v a b c p q e h. all a b h) l

module _ (T : Family) (Asked : T.Key → Type 0) (each : (k : T.Key) → Asked k → (a : ℕ) → has (T.model k) a ≡ true → Place T Asked k a) (hd : ℕ → Head) (inner nx : ℕ → Set) where
  -- a set shows a point that is reached
  abbrev pub Shows : Set → Point T.Key → Type 0
  Shows s x = Reached T Asked x × ((b : ℕ) → s b ≡ x.set b)

  -- if the tables hold the sets of each place of the types asked about, then they go as the points do
  pub table_alike : ((k : T.Key) → Asked k → (a : ℕ) → has (T.model k) a ≡ true → hd a ≡ T.head k a)
      → ((k : T.Key) → Asked k → (a n : ℕ) → has (T.model k) a ≡ true → T.head k a ≡ Head.label n → (b : ℕ) → inner a b ≡ start (T.model (T.content k a)) b)
      → ((k : T.Key) → Asked k → (a : ℕ) → has (T.model k) a ≡ true → (b : ℕ) → nx a b ≡ next (T.model k) a b)
      → Alike (table_side hd inner nx) (point_side T) Shows
  table_alike heads insides nexts = record {
    ends = λ s x m. m.1 0;
    has = λ s x m a. rw (m.1 a);
    head = λ s x m a e. heads x.key (reached_asked T Asked m.0) a (on_has (reached_on T Asked m.0 a e));
    into = λ s x m a n e h. (reached_into T Asked each x a n m.0 e h, insides x.key (reached_asked T Asked m.0) a n (on_has (reached_on T Asked m.0 a e)) h);
    after = λ s x m a e. (reached_after T Asked each x a m.0 e, nexts x.key (reached_asked T Asked m.0) a (on_has (reached_on T Asked m.0 a e)));
  }
