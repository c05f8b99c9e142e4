-- Inclusion between two graphs of places, a found side and a wanted one: a closed relation of their states gives it; every pair of states that is reached from an included pair is included,
-- where the found places live and the wanted states are free of ties; so it holds exactly if no reached pair is bad. By induction on forests, and on how a pair is reached.
use Rattle.std.specs.Prelude.{ℕ, ◌≤◌, ◌≡◌, Bool, true, false, ◌&&◌, ◌⊎◌, ◌↔◌}
use Rattle.std.proofs.Common.{sym, ◌∙◌, inl, inr}
use Rattle.meaning.specs.Tests.{some}
use Rattle.meaning.specs.Forest.{Tree, Forest, nil, cons}
use Rattle.meaning.specs.Types.{Head}
use Rattle.meaning.specs.Places.{same_head}
use Rattle.meaning.specs.Laws.Bools.{and_left, and_right, and_both, either, not_both}
use Rattle.meaning.specs.Laws.Tests.{some_at, some_of}
use Rattle.meaning.specs.Laws.Models.{same_head_says}

-- a graph of places: in each state a forest may end, and some places may stand; a place has a head there, a state inside it and one behind it
pub record Side : Type 1 where
  pub State : Type 0
  pub ends : State → Bool
  pub has : State → ℕ → Bool
  pub head : State → ℕ → Head
  pub into : State → ℕ → State
  pub after : State → ℕ → State

module _ (X : Side) where
  -- a tree suits a place, a forest is admitted at a state
  unfoldable mutual
    pub Suits : Tree → X.State → ℕ → Type 0
    Suits (Tree.text w) x a = X.head x a ≡ Head.text
    Suits (Tree.bool b) x a = X.head x a ≡ Head.bool
    Suits (Tree.node n f) x a = (X.head x a ≡ Head.label n) × Admitted f (X.into x a)

    pub Admitted : Forest → X.State → Type 0
    Admitted nil x = X.ends x ≡ true
    Admitted (cons t f) x = (a : ℕ) × (X.has x a ≡ true) × Suits t x a × Admitted f (X.after x a)

  -- a forest can go through the place a
  pub record Lives (x : X.State) (a : ℕ) : Type 0 where
    pub tree : Tree
    pub suits : Suits tree x a
    pub behind : Forest
    pub goes_on : Admitted behind (X.after x a)

  -- no two places of a state have one head
  abbrev pub Free : X.State → Type 0
  Free x = (a b : ℕ) → X.has x a ≡ true → X.has x b ≡ true → X.head x a ≡ X.head x b → a ≡ b

-- one tree, one head
one_head : (X Y : Side) (t : Tree) (x : X.State) (y : Y.State) (a b : ℕ) → Suits X t x a → Suits Y t y b → X.head x a ≡ Y.head y b
unfolding Suits
one_head X Y (Tree.text w) x y a b i j = i ∙ sym j
one_head X Y (Tree.bool v) x y a b i j = i ∙ sym j
one_head X Y (Tree.node n f) x y a b i j = i.0 ∙ sym j.0

module _ (F W : Side) where
  -- inclusion
  abbrev pub Included : F.State → W.State → Type 0
  Included x y = (f : Forest) → Admitted F f x → Admitted W f y

  -- ---- a closed relation gives inclusion

  -- each place of the found state has a rival in the wanted one, and the insides and what is behind are related
  pub record Closed (R : F.State → W.State → Type 0) : Type 0 where
    pub end : (x : F.State) (y : W.State) → R x y → F.ends x ≡ true → W.ends y ≡ true
    pub place : (x : F.State) (y : W.State) → R x y → (a : ℕ) → F.has x a ≡ true
        → (b : ℕ) × (W.has y b ≡ true) × (F.head x a ≡ W.head y b) × ((n : ℕ) → F.head x a ≡ Head.label n → R (F.into x a) (W.into y b)) × R (F.after x a) (W.after y b)

  module _ (R : F.State → W.State → Type 0) (closed : Closed R) where
    mutual
      unfolding Suits Admitted

      closed_tree : (t : Tree) (x : F.State) (y : W.State) (a b : ℕ) → F.head x a ≡ W.head y b
          → ((n : ℕ) → F.head x a ≡ Head.label n → R (F.into x a) (W.into y b)) → Suits F t x a → Suits W t y b
      closed_tree (Tree.text w) x y a b e r i = sym e ∙ i
      closed_tree (Tree.bool v) x y a b e r i = sym e ∙ i
      closed_tree (Tree.node n f) x y a b e r i = (sym e ∙ i.0, closed_included f (F.into x a) (W.into y b) (r n i.0) i.1)

      pub closed_included : (f : Forest) (x : F.State) (y : W.State) → R x y → Admitted F f x → Admitted W f y
      closed_included nil x y r i = closed.end x y r i
      closed_included (cons t f) x y r i =
          let p = closed.place x y r i.0 i.1 in
          (p.0, p.1, closed_tree t x y i.0 p.0 p.2 p.3 i.2, closed_included f (F.after x i.0) (W.after y p.0) p.4 i.3)

  -- ---- what an inclusion says of each place

  pub record Step (x : F.State) (y : W.State) (a : ℕ) : Type 0 where
    pub rival : ℕ
    pub has : W.has y rival ≡ true
    pub same : F.head x a ≡ W.head y rival
    pub inside : (n : ℕ) → F.head x a ≡ Head.label n → Included (F.into x a) (W.into y rival)
    pub behind : Included (F.after x a) (W.after y rival)

  pub step : (x : F.State) (y : W.State) → Free W y → Included x y → (a : ℕ) → F.has x a ≡ true → Lives F x a → Step x y a
  unfolding Suits Admitted
  step x y free w a m l = record {
    rival = b;
    has = i.1;
    same = e;
    inside = λ n h f j. (let z = w (cons (Tree.node n f) l.behind) (a, m, (h, j), l.goes_on) in
        rw (one z.0 z.1 (one_head F W (Tree.node n f) x y a z.0 (h, j) z.2)) at z.2.1);
    behind = λ f j. (let z = w (cons l.tree f) (a, m, l.suits, j) in
        rw (one z.0 z.1 (one_head F W l.tree x y a z.0 l.suits z.2)) at z.3);
  }
    where
      i : Admitted W (cons l.tree l.behind) y
      i = w (cons l.tree l.behind) (a, m, l.suits, l.goes_on)

      b : ℕ
      b = i.0

      e : F.head x a ≡ W.head y b
      e = one_head F W l.tree x y a b l.suits i.2

      one : (c : ℕ) → W.has y c ≡ true → F.head x a ≡ W.head y c → c ≡ b
      one c h g = free c b h i.1 (sym g ∙ e)

  -- ---- the pairs of states that are reached from one pair, by places of one head

  pub data Comes (x : F.State) (y : W.State) : F.State → W.State → Type 0 where
    here : Comes x y x y
    behind : {u : F.State} {v : W.State} (a b : ℕ) → Comes x y u v → F.has u a ≡ true → W.has v b ≡ true → F.head u a ≡ W.head v b
        → Comes x y (F.after u a) (W.after v b)
    inside : {u : F.State} {v : W.State} (n a b : ℕ) → Comes x y u v → F.has u a ≡ true → W.has v b ≡ true → F.head u a ≡ W.head v b
        → F.head u a ≡ Head.label n → Comes x y (F.into u a) (W.into v b)

  -- a pair that refutes: the found may end and the wanted not, or a found place has no rival
  pub data Bad (u : F.State) (v : W.State) : Type 0 where
    bad_end : F.ends u ≡ true → W.ends v ≡ false → Bad u v
    bad_place : (a : ℕ) → F.has u a ≡ true → ((b : ℕ) → W.has v b ≡ true → F.head u a ≡ W.head v b → ⊥) → Bad u v

  -- no pair that is reached is bad
  abbrev pub NoneBad : F.State → W.State → Type 0
  NoneBad x y = (u : F.State) (v : W.State) → Comes x y u v → Bad u v → ⊥

  module _ (x : F.State) (y : W.State) where
    -- a property of the found states that are reached, of the wanted ones
    pub comes_found : (P : F.State → Type 0) → P x → ((u : F.State) (a : ℕ) → P u → F.has u a ≡ true → P (F.after u a))
        → ((u : F.State) (a n : ℕ) → P u → F.has u a ≡ true → F.head u a ≡ Head.label n → P (F.into u a)) → {u : F.State} {v : W.State} → Comes x y u v → P u
    comes_found P p q r here = p
    comes_found P p q r (behind {u = u} a b c m k e) = q u a (comes_found P p q r c) m
    comes_found P p q r (inside {u = u} n a b c m k e h) = r u a n (comes_found P p q r c) m h

    pub comes_wanted : (Q : W.State → Type 0) → Q y → ((v : W.State) (b : ℕ) → Q v → W.has v b ≡ true → Q (W.after v b))
        → ((v : W.State) (b n : ℕ) → Q v → W.has v b ≡ true → W.head v b ≡ Head.label n → Q (W.into v b)) → {u : F.State} {v : W.State} → Comes x y u v → Q v
    comes_wanted Q p q r here = p
    comes_wanted Q p q r (behind {v = v} a b c m k e) = q v b (comes_wanted Q p q r c) k
    comes_wanted Q p q r (inside {v = v} n a b c m k e h) = r v b n (comes_wanted Q p q r c) k (sym e ∙ h)

    -- ---- the found places that are reached live, the wanted states that are reached are free of ties
    module _ (lives : (u : F.State) (v : W.State) → Comes x y u v → (a : ℕ) → F.has u a ≡ true → Lives F u a)
        (free : (u : F.State) (v : W.State) → Comes x y u v → Free W v) where
      pub comes_included : Included x y → {u : F.State} {v : W.State} → Comes x y u v → Included u v
      comes_included w here = w
      comes_included w (behind {u = u} {v = v} a b c m k e) =
          let s = step u v (free u v c) (comes_included w c) a m (lives u v c a m) in
          rw (free u v c s.rival b s.has k (sym s.same ∙ e)) at s.behind
      comes_included w (inside {u = u} {v = v} n a b c m k e h) =
          let s = step u v (free u v c) (comes_included w c) a m (lives u v c a m) in
          rw (free u v c s.rival b s.has k (sym s.same ∙ e)) at (s.inside n h)

      -- a bad pair that is reached refutes the inclusion
      pub refutes : Included x y → NoneBad x y
      unfolding Admitted
      refutes w u v c (bad_end p q) = not_both (comes_included w c nil p) q
      refutes w u v c (bad_place a m q) = let s = step u v (free u v c) (comes_included w c) a m (lives u v c a m) in q s.rival s.has s.same

    -- ---- the rival is searched for among the places 1 to top of the wanted side
    module _ (top : ℕ) (low : (u : F.State) (v : W.State) → Comes x y u v → (b : ℕ) → W.has v b ≡ true → (1 ≤ b) × (b ≤ top)) where
      abbrev Rival : F.State → W.State → ℕ → Type 0
      Rival u v a = (b : ℕ) × (W.has v b ≡ true) × (F.head u a ≡ W.head v b)

      rival_or_bad : (u : F.State) (v : W.State) → Comes x y u v → (a : ℕ) → F.has u a ≡ true → Rival u v a ⊎ Bad u v
      rival_or_bad u v c a m = go (either (some test top))
        where
          test : ℕ → Bool
          test b = W.has v b && same_head (F.head u a) (W.head v b)

          go : (some test top ≡ true) ⊎ (some test top ≡ false) → Rival u v a ⊎ Bad u v
          go (inl e) = let z = some_of test top e in inl (
            z.0,
            and_left (W.has v z.0) (same_head (F.head u a) (W.head v z.0)) z.3,
            (same_head_says (F.head u a) (W.head v z.0)).0 (and_right (W.has v z.0) (same_head (F.head u a) (W.head v z.0)) z.3),
          )
          go (inr e) = inr (bad_place a m (λ b k h. not_both (some_at test top b (low u v c b k).0 (low u v c b k).1
              (and_both (W.has v b) (same_head (F.head u a) (W.head v b)) k ((same_head_says (F.head u a) (W.head v b)).1 h))) e))

      pub none_bad : NoneBad x y → Included x y
      none_bad none f = closed_included (Comes x y) closed f x y here
        where
          closed : Closed (Comes x y)
          closed = record {
            end = λ u v c p. elim (either (W.ends v)) [ inl q ↦ q | inr q ↦ absurd (none u v c (bad_end p q)) ];
            place = λ u v c a m. elim (rival_or_bad u v c a m) [
              | inl z ↦ (z.0, z.1, z.2, (λ n h. inside n a z.0 c m z.1 z.2 h), behind a z.0 c m z.1 z.2)
              | inr z ↦ absurd (none u v c z)
            ];
          }

      -- inclusion holds exactly if no pair that is reached is bad
      pub decides : ((u : F.State) (v : W.State) → Comes x y u v → (a : ℕ) → F.has u a ≡ true → Lives F u a)
          → ((u : F.State) (v : W.State) → Comes x y u v → Free W v) → Included x y ↔ NoneBad x y
      decides lives free = (refutes lives free, none_bad)

  -- ---- what a walk over pairs of places leaves when it ends

  -- a pair of states has been looked at: each found place has a rival, and the two are marked
  pub record Looked (seen : ℕ → ℕ → Bool) (u : F.State) (v : W.State) : Type 0 where
    pub end : F.ends u ≡ true → W.ends v ≡ true
    pub at : (a : ℕ) → F.has u a ≡ true → (b : ℕ) × (W.has v b ≡ true) × (F.head u a ≡ W.head v b) × (seen a b ≡ true)

  -- behind and inside each marked pair has been looked at: inclusion
  pub ended : (x : F.State) (y : W.State) (seen : ℕ → ℕ → Bool)
      → ((u : F.State) (v : W.State) (a b : ℕ) → Comes x y u v → F.has u a ≡ true → W.has v b ≡ true → F.head u a ≡ W.head v b → seen a b ≡ true
      → Looked seen (F.after u a) (W.after v b) × ((n : ℕ) → F.head u a ≡ Head.label n → Looked seen (F.into u a) (W.into v b)))
      → Looked seen x y → Included x y
  ended x y seen all l f = closed_included (λ u v. Comes x y u v × Looked seen u v) closed f x y (here, l)
    where
      closed : Closed (λ u v. Comes x y u v × Looked seen u v)
      closed = record {
        end = λ u v r. r.1.end;
        place = λ u v r a m. (let z = r.1.at a m in let k = all u v a z.0 r.0 m z.1 z.2 z.3 in
            (z.0, z.1, z.2, (λ n h. (inside n a z.0 r.0 m z.1 z.2 h, k.1 n h)), (behind a z.0 r.0 m z.1 z.2, k.0)));
      }

-- ---- two sides that go alike: what holds of the one holds of the other

module _ (Z X : Side) (M : Z.State → X.State → Type 0) where
  pub record Alike : Type 0 where
    pub ends : (z : Z.State) (x : X.State) → M z x → Z.ends z ≡ X.ends x
    pub has : (z : Z.State) (x : X.State) → M z x → (a : ℕ) → Z.has z a ≡ X.has x a
    pub head : (z : Z.State) (x : X.State) → M z x → (a : ℕ) → X.has x a ≡ true → Z.head z a ≡ X.head x a
    pub into : (z : Z.State) (x : X.State) → M z x → (a n : ℕ) → X.has x a ≡ true → X.head x a ≡ Head.label n → M (Z.into z a) (X.into x a)
    pub after : (z : Z.State) (x : X.State) → M z x → (a : ℕ) → X.has x a ≡ true → M (Z.after z a) (X.after x a)

  module _ (alike : Alike) where
    mutual
      unfolding Suits Admitted

      suits_alike : (t : Tree) (z : Z.State) (x : X.State) → M z x → (a : ℕ) → X.has x a ≡ true → Suits Z t z a ↔ Suits X t x a
      suits_alike (Tree.text w) z x m a h = let e = alike.head z x m a h in ((λ i. sym e ∙ i), (λ i. e ∙ i))
      suits_alike (Tree.bool b) z x m a h = let e = alike.head z x m a h in ((λ i. sym e ∙ i), (λ i. e ∙ i))
      suits_alike (Tree.node n f) z x m a h = let e = alike.head z x m a h in (
        (λ i. let g = sym e ∙ i.0 in (g, (admitted_alike f (Z.into z a) (X.into x a) (alike.into z x m a n h g)).0 i.1)),
        (λ i. (e ∙ i.0, (admitted_alike f (Z.into z a) (X.into x a) (alike.into z x m a n h i.0)).1 i.1)),
      )

      pub admitted_alike : (f : Forest) (z : Z.State) (x : X.State) → M z x → Admitted Z f z ↔ Admitted X f x
      admitted_alike nil z x m = let e = alike.ends z x m in ((λ i. sym e ∙ i), (λ i. e ∙ i))
      admitted_alike (cons t f) z x m = (
        (λ i. let h = sym (alike.has z x m i.0) ∙ i.1 in
            (i.0, h, (suits_alike t z x m i.0 h).0 i.2, (admitted_alike f (Z.after z i.0) (X.after x i.0) (alike.after z x m i.0 h)).0 i.3)),
        (λ i. let h = i.1 in
            (i.0, alike.has z x m i.0 ∙ h, (suits_alike t z x m i.0 h).1 i.2, (admitted_alike f (Z.after z i.0) (X.after x i.0) (alike.after z x m i.0 h)).1 i.3)),
      )

    pub lives_alike : (z : Z.State) (x : X.State) → M z x → (a : ℕ) → X.has x a ≡ true → Lives X x a → Lives Z z a
    lives_alike z x m a h l = record {
      tree = l.tree;
      suits = (suits_alike l.tree z x m a h).1 l.suits;
      behind = l.behind;
      goes_on = (admitted_alike l.behind (Z.after z a) (X.after x a) (alike.after z x m a h)).1 l.goes_on;
    }

    pub free_alike : (z : Z.State) (x : X.State) → M z x → Free X x → Free Z z
    free_alike z x m free a b p q e =
        let h = sym (alike.has z x m a) ∙ p in
        let g = sym (alike.has z x m b) ∙ q in
        free a b h g (sym (alike.head z x m a h) ∙ e ∙ alike.head z x m b g)

    -- what is reached on the one side is reached on the other
    pub found_alike : (W : Side) (y : W.State) (z : Z.State) (x : X.State) → M z x → {u : Z.State} {v : W.State} → Comes Z W z y u v → (w : X.State) × M u w × Comes X W x y w v
    found_alike W y z x m here = (x, m, here)
    found_alike W y z x m (behind {u = u} a b c p q e) =
        let r = found_alike W y z x m c in
        let h = sym (alike.has u r.0 r.1 a) ∙ p in
        let g = alike.head u r.0 r.1 a h in
        (X.after r.0 a, alike.after u r.0 r.1 a h, behind a b r.2 h q (sym g ∙ e))
    found_alike W y z x m (inside {u = u} n a b c p q e l) =
        let r = found_alike W y z x m c in
        let h = sym (alike.has u r.0 r.1 a) ∙ p in
        let g = alike.head u r.0 r.1 a h in
        (X.into r.0 a, alike.into u r.0 r.1 a n h (sym g ∙ l), inside n a b r.2 h q (sym g ∙ e) (sym g ∙ l))

    pub wanted_alike : (F : Side) (y : F.State) (z : Z.State) (x : X.State) → M z x → {u : F.State} {v : Z.State} → Comes F Z y z u v → (w : X.State) × M v w × Comes F X y x u w
    wanted_alike F y z x m here = (x, m, here)
    wanted_alike F y z x m (behind {v = v} a b c p q e) =
        let r = wanted_alike F y z x m c in
        let h = sym (alike.has v r.0 r.1 b) ∙ q in
        let g = alike.head v r.0 r.1 b h in
        (X.after r.0 b, alike.after v r.0 r.1 b h, behind a b r.2 p h (e ∙ g))
    wanted_alike F y z x m (inside {v = v} n a b c p q e l) =
        let r = wanted_alike F y z x m c in
        let h = sym (alike.has v r.0 r.1 b) ∙ q in
        let g = alike.head v r.0 r.1 b h in
        (X.into r.0 b, alike.into v r.0 r.1 b n h (sym g ∙ sym e ∙ l), inside n a b r.2 p h (e ∙ g) l)
