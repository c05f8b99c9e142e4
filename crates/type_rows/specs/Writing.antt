-- A type written out: row 512 stands for the found row, and the parts of each row get the next free rows below. So each row has one user; the rows that wait carry what is left of the size.
use Prim.Native.Nat.{ℕ, zero, suc, ◌+◌, ◌-◌, ◌*◌, ◌≤◌, ◌<◌}
use Rattle.std.specs.Prelude.{◌≡◌, true, List, [], ◌∷◌, ◌⊎◌, get_or, length, set, replicate}
use Rattle.std.proofs.Math.Path.{refl, sym, ap}
use Rattle.std.proofs.Common.{◌∙◌, inl, inr, length-set, get_or-set_same}
use Rattle.std.proofs.Math.Decide.{ℕ_discrete, dec_le}
use native.Mathlib.Omega.{arith}
use Rattle.std.proofs.lemmas.List.{length-replicate}
use Rattle.meaning.specs.Tests.{in_table}
use Rattle.meaning.specs.Sheet.{Cells, row3}
use Rattle.meaning.specs.Kinds.{TypeRow, type_form}
use Rattle.meaning.specs.Types.{Ty, size, ty_form, ty_at}
use Rattle.sheet.specs.Whole.{Lies}
use Rattle.meaning.specs.Laws.Words.{zeros}
use Rattle.meaning.specs.Laws.Bools.{either}
use Rattle.meaning.specs.Laws.Tests.{table_high}
use Rattle.meaning.specs.Laws.Apart.{Low, Lower, View, v_none, v_empty, v_text, v_bool, v_label, v_seq, v_choice, v_star, v_name, view, ty_at_row}

-- ---- rows of the type written out

abbrev pub own_row : List ℕ → ℕ → Cells
own_row own = row3 own 0 512

-- row j is a part of the row
abbrev pub Uses : Cells → ℕ → Type 0
Uses d j = ((d.kind ≡ 4) × (d.q ≡ j)) ⊎ ((((d.kind ≡ 5) ⊎ (d.kind ≡ 6)) × ((d.p ≡ j) ⊎ (d.q ≡ j))) ⊎ ((d.kind ≡ 7) × (d.p ≡ j)))

-- how many parts a row of kind k has
abbrev pub parts_of : ℕ → ℕ
parts_of k = get_or (0 ∷ 0 ∷ 0 ∷ 0 ∷ 1 ∷ 2 ∷ 2 ∷ 1 ∷ []) k 0

-- row i is written
pub record Put (old new : List ℕ) (i : ℕ) (c : Cells) : Type 0 where
  pub size : length new ≡ length old
  pub here : own_row new i ≡ c
  pub others : (k : ℕ) → (k ≡ i → ⊥) → own_row new k ≡ own_row old k

-- row i is written for the row c, and its parts have the rows `free` and below
pub record Handed (own new from from' : List ℕ) (i : ℕ) (c : Cells) (free : ℕ) : Type 0 where
  pub own_size : length new ≡ length own
  pub from_size : length from' ≡ length from
  pub others : (k : ℕ) → (k ≡ i → ⊥) → own_row new k ≡ own_row own k
  pub kept : (j : ℕ) → free < j → get_or from' j 0 ≡ get_or from j 0
  pub kind : (own_row new i).kind ≡ c.kind
  pub label : c.kind ≡ 4 → ((own_row new i).p ≡ c.p) × ((own_row new i).q ≡ free) × (get_or from' free 0 ≡ c.q)
  pub pair : (c.kind ≡ 5) ⊎ (c.kind ≡ 6) → ((own_row new i).p ≡ free) × ((own_row new i).q ≡ free - 1) × (get_or from' free 0 ≡ c.p) × (get_or from' (free - 1) 0 ≡ c.q)
  pub star : c.kind ≡ 7 → ((own_row new i).p ≡ free) × (get_or from' free 0 ≡ c.p)
  pub name : c.kind ≡ 8 → (own_row new i).p ≡ c.p

-- the row d at k says what c says, of parts between lo and k
pub record Copied (from : List ℕ) (lo k : ℕ) (c d : Cells) : Type 0 where
  pub kind : d.kind ≡ c.kind
  pub label : c.kind ≡ 4 → (d.p ≡ c.p) × (get_or from d.q 0 ≡ c.q) × (lo < d.q) × (d.q < k)
  pub pair : (c.kind ≡ 5) ⊎ (c.kind ≡ 6) → (get_or from d.p 0 ≡ c.p) × (get_or from d.q 0 ≡ c.q) × (lo < d.q) × (d.q < d.p) × (d.p < k)
  pub star : c.kind ≡ 7 → (get_or from d.p 0 ≡ c.p) × (lo < d.p) × (d.p < k)
  pub name : c.kind ≡ 8 → d.p ≡ c.p

-- the parts of such a row lie between lo and k
pub copied_uses : {from : List ℕ} {lo k : ℕ} {c d : Cells} → Copied from lo k c d → (j : ℕ) → Uses d j → (lo < j) × (j < k)
copied_uses x j (inl (k, e)) = let z = x.label (sym x.kind ∙ k) in (omega (arith, z.2, e), omega (arith, z.3, e))
copied_uses x j (inr (inl (inl k, inl e))) = let z = x.pair (inl (sym x.kind ∙ k)) in (omega (arith, z.2, z.3, e), omega (arith, z.4, e))
copied_uses x j (inr (inl (inl k, inr e))) = let z = x.pair (inl (sym x.kind ∙ k)) in (omega (arith, z.2, e), omega (arith, z.3, z.4, e))
copied_uses x j (inr (inl (inr k, inl e))) = let z = x.pair (inr (sym x.kind ∙ k)) in (omega (arith, z.2, z.3, e), omega (arith, z.4, e))
copied_uses x j (inr (inl (inr k, inr e))) = let z = x.pair (inr (sym x.kind ∙ k)) in (omega (arith, z.2, e), omega (arith, z.3, z.4, e))
copied_uses x j (inr (inr (k, e))) = let z = x.star (sym x.kind ∙ k) in (omega (arith, z.1, e), omega (arith, z.2, e))

copied_kept : {from from' : List ℕ} {lo lo' k : ℕ} {c d : Cells} → lo' ≤ lo → ((j : ℕ) → lo < j → get_or from' j 0 ≡ get_or from j 0) → Copied from lo k c d → Copied from' lo' k c d
copied_kept l h x = record {
  kind = x.kind;
  label = λ k. (let z = x.label k in (z.0, h _ z.2 ∙ z.1, omega (arith, z.2), z.3));
  pair = λ k. (let z = x.pair k in (h _ (omega (arith, z.2, z.3)) ∙ z.0, h _ z.2 ∙ z.1, omega (arith, z.2), z.3, z.4));
  star = λ k. (let z = x.star k in (h _ z.1 ∙ z.0, omega (arith, z.1), z.2));
  name = x.name;
}

-- ---- sums

-- the sum over the n rows behind row lo
unfoldable pub weigh : (ℕ → ℕ) → ℕ → ℕ → ℕ
weigh f lo zero = 0
weigh f lo (suc n) = weigh f lo n + f (lo + suc n)

weigh_same : (f g : ℕ → ℕ) (lo : ℕ) → ((j : ℕ) → lo < j → f j ≡ g j) → (n : ℕ) → weigh f lo n ≡ weigh g lo n
unfolding weigh
weigh_same f g lo h zero = refl
weigh_same f g lo h (suc n) = rw (weigh_same f g lo h n, h (lo + suc n) (omega arith))

weigh_least : (f : ℕ → ℕ) (lo : ℕ) → ((j : ℕ) → 1 ≤ f j) → (n : ℕ) → n ≤ weigh f lo n
unfolding weigh
weigh_least f lo h zero = omega arith
weigh_least f lo h (suc n) = omega (arith, weigh_least f lo h n, h (lo + suc n))

-- one row more at the low end
weigh_low : (f : ℕ → ℕ) (lo : ℕ) → 1 ≤ lo → (n : ℕ) → weigh f (lo - 1) (suc n) ≡ f lo + weigh f lo n
unfolding weigh
weigh_low f lo l zero = let e : lo - 1 + 1 ≡ lo = omega arith in rw e (omega arith)
weigh_low f lo l (suc n) = let e : lo - 1 + suc (suc n) ≡ lo + suc n = omega arith in rw e (let h = weigh_low f lo l n in omega (arith, h))

pub size_some : (τ : Ty) → 1 ≤ size τ
unfolding size
size_some Ty.empty = omega arith
size_some Ty.text = omega arith
size_some Ty.bool = omega arith
size_some (Ty.label n τ) = omega arith
size_some (Ty.seq τ σ) = omega arith
size_some (Ty.choice τ σ) = omega arith
size_some (Ty.star τ) = omega arith
size_some (Ty.name x) = omega arith

-- ---- the loop

module _ (g : ℕ → Cells) where
  abbrev pub type_of : ℕ → Ty
  type_of r = ty_at (λ i. type_form (g i)) r

  abbrev weight : List ℕ → ℕ → ℕ
  weight from j = size (type_of (get_or from j 0))

  -- the rows above i are written, those above `free` are handed out
  pub record Writing (found : ℕ) (own from : List ℕ) (free i : ℕ) : Type 0 where
    pub own_size : length own ≡ 3072
    pub from_size : length from ≡ 513
    pub order : (free ≤ i) × (i ≤ 512)
    pub root : get_or from 512 0 ≡ found
    pub begun : free < 512
    pub known : (j : ℕ) → free < j → j ≤ 512 → get_or from j 0 ≤ found
    pub done : (k : ℕ) → i < k → k ≤ 512 → Copied from free k (g (get_or from k 0)) (own_row own k)
    pub rest : (k : ℕ) → k ≤ i → (own_row own k).kind ≡ 0
    pub once : (k m j : ℕ) → i < k → k ≤ 512 → i < m → m ≤ 512 → Uses (own_row own k) j → Uses (own_row own m) j → k ≡ m
    pub left : size (type_of found) ≡ 512 - i + weigh (weight from) free (i - free)

  module _ (low : Lower g) where
    type_row : (r : ℕ) → type_of r ≡ ty_form (type_form (g r)) type_of
    type_row r = ty_at_row (λ i. type_form (g i)) low r

    -- a row and its parts
    data Sort (c : Cells) (r : ℕ) : Type 0 where
      none : parts_of c.kind ≡ 0 → size (type_of r) ≡ 1 → Sort c r
      label : c.kind ≡ 4 → size (type_of r) ≡ suc (size (type_of c.q)) → c.q < r → Sort c r
      pair : (c.kind ≡ 5) ⊎ (c.kind ≡ 6) → size (type_of r) ≡ suc (size (type_of c.p) + size (type_of c.q)) → c.p < r → c.q < r → Sort c r
      star : c.kind ≡ 7 → size (type_of r) ≡ suc (size (type_of c.p)) → c.p < r → Sort c r

    sort : (r : ℕ) → Sort (g r) r
    unfolding Low ty_form size
    sort r = go (g r).kind refl
      where
        base : size (type_of r) ≡ size (ty_form (type_form (g r)) type_of)
        base = ap size (type_row r)

        go : (k : ℕ) → (g r).kind ≡ k → Sort (g r) r
        go zero e = none (rw e) (rw e at base)
        go (suc zero) e = none (rw e) (rw e at base)
        go (suc (suc zero)) e = none (rw e) (rw e at base)
        go (suc (suc (suc zero))) e = none (rw e) (rw e at base)
        go (suc (suc (suc (suc zero)))) e = label e (rw e at base) (rw e at (low r))
        go (suc (suc (suc (suc (suc zero))))) e = let l : ((g r).p < r) × ((g r).q < r) = rw e at (low r) in pair (inl e) (rw e at base) l.0 l.1
        go (suc (suc (suc (suc (suc (suc zero)))))) e = let l : ((g r).p < r) × ((g r).q < r) = rw e at (low r) in pair (inr e) (rw e at base) l.0 l.1
        go (suc (suc (suc (suc (suc (suc (suc zero))))))) e = star e (rw e at base) (rw e at (low r))
        go (suc (suc (suc (suc (suc (suc (suc (suc zero)))))))) e = none (rw e) (rw e at base)
        go (suc (suc (suc (suc (suc (suc (suc (suc (suc k))))))))) e = none (rw e) (rw e at base)

    -- ---- one row more

    module _ {found : ℕ} {own from : List ℕ} {free i : ℕ} (w : Writing found own from free i) (more : free < i) where
      abbrev here : ℕ
      here = get_or from i 0

      known_here : here ≤ found
      known_here = w.known i more w.order.1

      -- the waiting rows below i
      others : weigh (weight from) free (i - free) ≡ weigh (weight from) free (i - 1 - free) + weight from i
      unfolding weigh
      others = let e : i - free ≡ suc (i - 1 - free) = omega arith in let f : free + suc (i - 1 - free) ≡ i = omega arith in rw e (rw f)

      least : i - 1 - free ≤ weigh (weight from) free (i - 1 - free)
      least = weigh_least (weight from) free (λ j. size_some (type_of (get_or from j 0))) (i - 1 - free)

      -- no room for the parts: too many rows
      pub too_wide : (c : Cells) → c ≡ g here → free < parts_of c.kind → 512 < size (type_of found)
      too_wide c e l = go (sort here) (rw e at l)
        where
          go : Sort (g here) here → free < parts_of (g here).kind → 512 < size (type_of found)
          go (none p z) l = absurd (omega (arith, p))
          go (label k z b) l = let m : free < 1 = rw k at l in omega (arith, w.left, others, least, z, size_some (type_of (g here).q), w.order.1)
          go (pair (inl k) z b d) l = let m : free < 2 = rw k at l in omega (arith, w.left, others, least, z, size_some (type_of (g here).p), size_some (type_of (g here).q), w.order.1)
          go (pair (inr k) z b d) l = let m : free < 2 = rw k at l in omega (arith, w.left, others, least, z, size_some (type_of (g here).p), size_some (type_of (g here).q), w.order.1)
          go (star k z b) l = let m : free < 1 = rw k at l in omega (arith, w.left, others, least, z, size_some (type_of (g here).p), w.order.1)

      module _ {new from' : List ℕ} {c : Cells} (e : c ≡ g here) (h : Handed own new from from' i c free) where
        copied_here : Copied from' (free - parts_of c.kind) i c (own_row new i) → Copied from' (free - parts_of c.kind) i (g (get_or from' i 0)) (own_row new i)
        copied_here x = rw (h.kept i more, ← e) x

        -- the new row and its parts
        copied : parts_of c.kind ≤ free → Copied from' (free - parts_of c.kind) i c (own_row new i)
        copied l = record {
          kind = h.kind;
          label = λ k. (let z = h.label k in let m : 1 ≤ free = rw k at l in (z.0, rw z.1 z.2, rw (k, z.1) (omega arith), rw z.1 more));
          pair = λ k. (let z = h.pair k in let n = two k in let m : 2 ≤ free = rw n at l in
              (rw z.0 z.2, rw z.1 z.3, rw (n, z.1) (omega arith), rw (z.0, z.1) (omega arith), rw z.0 more));
          star = λ k. (let z = h.star k in let m : 1 ≤ free = rw k at l in (rw z.0 z.1, rw (k, z.0) (omega arith), rw z.0 more));
          name = h.name;
        }
          where
            two : (c.kind ≡ 5) ⊎ (c.kind ≡ 6) → parts_of c.kind ≡ 2
            two (inl k) = rw k
            two (inr k) = rw k

        new_uses : (j : ℕ) → Uses (own_row new i) j → j ≤ free
        new_uses j (inl (k, z)) = omega (arith, (h.label (sym h.kind ∙ k)).1, z)
        new_uses j (inr (inl (inl k, inl z))) = omega (arith, (h.pair (inl (sym h.kind ∙ k))).0, z)
        new_uses j (inr (inl (inl k, inr z))) = omega (arith, (h.pair (inl (sym h.kind ∙ k))).1, z)
        new_uses j (inr (inl (inr k, inl z))) = omega (arith, (h.pair (inr (sym h.kind ∙ k))).0, z)
        new_uses j (inr (inl (inr k, inr z))) = omega (arith, (h.pair (inr (sym h.kind ∙ k))).1, z)
        new_uses j (inr (inr (k, z))) = omega (arith, (h.star (sym h.kind ∙ k)).0, z)

        old_uses : (k j : ℕ) → i < k → k ≤ 512 → Uses (own_row new k) j → free < j
        old_uses k j a b u = (copied_uses (w.done k a b) j (rw (h.others k (λ z. omega arith)) at u)).0

        -- what the new rows stand for, and their weight
        record Fresh : Type 0 where
          known : (j : ℕ) → free - parts_of c.kind < j → j ≤ free → get_or from' j 0 ≤ found
          weighs : weigh (weight from') (free - parts_of c.kind) (i - 1 - (free - parts_of c.kind)) + 1 ≡ weigh (weight from) free (i - free)

        same_weigh : weigh (weight from') free (i - 1 - free) ≡ weigh (weight from) free (i - 1 - free)
        same_weigh = weigh_same (weight from') (weight from) free (λ j l. rw (h.kept j l)) (i - 1 - free)

        one_row : 1 ≤ free → weigh (weight from') (free - 1) (i - 1 - (free - 1)) ≡ weight from' free + weigh (weight from) free (i - 1 - free)
        one_row l = let z : i - 1 - (free - 1) ≡ suc (i - 1 - free) = omega arith in rw z (weigh_low (weight from') free l (i - 1 - free) ∙ rw same_weigh)

        two_rows : 2 ≤ free → weigh (weight from') (free - 2) (i - 1 - (free - 2)) ≡ weight from' (free - 1) + (weight from' free + weigh (weight from) free (i - 1 - free))
        two_rows l =
            let z : i - 1 - (free - 2) ≡ suc (i - 1 - (free - 1)) = omega arith in
            let y : free - 2 ≡ free - 1 - 1 = omega arith in
            rw (z, y) (weigh_low (weight from') (free - 1) (omega arith) (i - 1 - (free - 1)) ∙ rw (one_row (omega arith)))

        fresh : parts_of c.kind ≤ free → Fresh
        fresh l = go (sort here)
          where
            go : Sort (g here) here → Fresh
            go (none p z) = let n : parts_of c.kind ≡ 0 = rw e p in record {
              known = λ j a b. absurd (omega (arith, n));
              weighs = let y : free - 0 ≡ free = omega arith in rw (n, y) (omega (arith, same_weigh, others, z));
            }
            go (label k z b) = let k' : c.kind ≡ 4 = rw e k in let m : 1 ≤ free = rw k' at l in let y = (h.label k').2 in let x : get_or from' free 0 ≡ (g here).q = rw e at y in record {
              known = λ j a d. (let v : j ≡ free = let a' : free - 1 < j = rw k' at a in omega arith in rw (v, x) (omega (arith, known_here)));
              weighs = rw k' (let o = one_row m in let u : weight from' free ≡ size (type_of (g here).q) = rw x in omega (arith, o, u, others, z));
            }
            go (pair s z b d) = let s' : (c.kind ≡ 5) ⊎ (c.kind ≡ 6) = rw e s in pair_fresh s' (two s') z b d
              where
                two : (c.kind ≡ 5) ⊎ (c.kind ≡ 6) → parts_of c.kind ≡ 2
                two (inl k) = rw k
                two (inr k) = rw k

                pair_fresh : (c.kind ≡ 5) ⊎ (c.kind ≡ 6) → parts_of c.kind ≡ 2 → size (type_of here) ≡ suc (size (type_of (g here).p) + size (type_of (g here).q)) → (g here).p < here
                    → (g here).q < here → Fresh
                pair_fresh s n z b d =
                    let m : 2 ≤ free = rw n at l in
                    let y = h.pair s in
                    let x : get_or from' free 0 ≡ (g here).p = rw e at y.2 in
                    let v : get_or from' (free - 1) 0 ≡ (g here).q = rw e at y.3 in record {
                      known = λ j a o. (let a' : free - 2 < j = rw n at a in elim (ℕ_discrete j free) [
                        | yes q ↦ rw (q, x) (omega (arith, known_here))
                        | no q ↦ (let r : j ≡ free - 1 = omega arith in rw (r, v) (omega (arith, known_here)))
                      ]);
                      weighs = rw n (let o = two_rows m in let u : weight from' free ≡ size (type_of (g here).p) = rw x in let t : weight from' (free - 1) ≡ size (type_of (g here).q) = rw v in
                          omega (arith, o, u, t, others, z));
                    }
            go (star k z b) = let k' : c.kind ≡ 7 = rw e k in let m : 1 ≤ free = rw k' at l in let y = (h.star k').1 in let x : get_or from' free 0 ≡ (g here).p = rw e at y in record {
              known = λ j a d. (let v : j ≡ free = let a' : free - 1 < j = rw k' at a in omega arith in rw (v, x) (omega (arith, known_here)));
              weighs = rw k' (let o = one_row m in let u : weight from' free ≡ size (type_of (g here).p) = rw x in omega (arith, o, u, others, z));
            }

        pub writing_more : parts_of c.kind ≤ free → Writing found new from' (free - parts_of c.kind) (i - 1)
        writing_more l = let f = fresh l in record {
          own_size = h.own_size ∙ w.own_size;
          from_size = h.from_size ∙ w.from_size;
          order = (omega arith, omega (arith, w.order.1));
          root = h.kept 512 w.begun ∙ w.root;
          begun = omega (arith, w.begun);
          known = λ j a b. elim (dec_le j free) [ yes q ↦ f.known j a q | no q ↦ rw (h.kept j (omega arith)) (w.known j (omega arith) b) ];
          done = λ k a b. elim (ℕ_discrete k i) [
            | yes q ↦ rw q (copied_here (copied l))
            | no q ↦ rw (h.others k q, h.kept k (omega arith)) (copied_kept (omega arith) h.kept (w.done k (omega arith) b))
          ];
          rest = λ k a. rw (h.others k (λ z. omega arith)) (w.rest k (omega arith));
          once = λ k m j a b d o x y. elim (ℕ_discrete k i) [
            | yes q ↦ elim (ℕ_discrete m i) [
              | yes r ↦ q ∙ sym r
              | no r ↦ absurd (omega (arith, new_uses j (rw q at x), old_uses m j (omega arith) o y))
            ]
            | no q ↦ elim (ℕ_discrete m i) [
              | yes r ↦ absurd (omega (arith, new_uses j (rw r at y), old_uses k j (omega arith) b x))
              | no r ↦ w.once k m j (omega arith) b (omega arith) o (rw (h.others k q) at x) (rw (h.others m r) at y)
            ]
          ];
          left = omega (arith, w.left, f.weighs, w.order.1);
        }

-- ---- all rows are written

-- the type at row 512 is the found one; a part is a lower row, not 0, and has one user; labels and names are those of the rows that it was written from
pub record Written (g : ℕ → Cells) (found : ℕ) (own : List ℕ) : Type 0 where
  pub size : length own ≡ 3072
  pub same : ty_at (λ i. type_form (own_row own i)) 512 ≡ ty_at (λ i. type_form (g i)) found
  pub lower : Lower (own_row own)
  pub parts : (k j : ℕ) → Uses (own_row own k) j → (1 ≤ j) × (j < k)
  pub once : (k m j : ℕ) → Uses (own_row own k) j → Uses (own_row own m) j → k ≡ m
  pub sides : (k : ℕ) → ((own_row own k).kind ≡ 5) ⊎ ((own_row own k).kind ≡ 6) → (own_row own k).p ≡ (own_row own k).q → ⊥
  pub atoms : (k : ℕ) → ((own_row own k).kind ≡ 4) ⊎ ((own_row own k).kind ≡ 8) → (r : ℕ) × (r ≤ found) × ((g r).kind ≡ (own_row own k).kind) × ((g r).p ≡ (own_row own k).p)

-- the rows 1 to r are blank: of kind 0 and part of no row; the type's own row is above them
pub record Blank (own : List ℕ) (r : ℕ) : Type 0 where
  pub few : r < 512
  pub none : (k : ℕ) → 1 ≤ k → k ≤ r → (own_row own k).kind ≡ 0
  pub unused : (k j : ℕ) → Uses (own_row own k) j → r < j

-- it lies in its bytes
pub own_lies : {g : ℕ → Cells} {found : ℕ} {own : List ℕ} → Written g found own → Lies own 0 3 512
own_lies w = record { bytes = omega (arith, w.size); low = omega arith; few = omega arith }

-- a row with a kind is a row of the table
pub own_in : (own : List ℕ) (k n : ℕ) → (own_row own k).kind ≡ suc n → in_table 512 k ≡ true
own_in own k n e = elim (either (in_table 512 k)) [ inl h ↦ h | inr h ↦ (let z : ◌≡◌ {A = ℕ} 0 (suc n) = rw h at e in absurd (omega arith)) ]

uses_kind : (d : Cells) (j : ℕ) → Uses d j → (n : ℕ) × (d.kind ≡ suc n)
uses_kind d j (inl (k, e)) = (3, k)
uses_kind d j (inr (inl (inl k, e))) = (4, k)
uses_kind d j (inr (inl (inr k, e))) = (5, k)
uses_kind d j (inr (inr (k, e))) = (6, k)

module _ (g : ℕ → Cells) (low : Lower g) {found : ℕ} {own from : List ℕ} {free i : ℕ} (w : Writing g found own from free i) (end : i ≤ free) where
  -- a row with a kind is written
  row_in : (k n : ℕ) → (own_row own k).kind ≡ suc n → (i < k) × (k ≤ 512)
  row_in k n e = elim (dec_le k i) [
    | yes l ↦ absurd (omega (arith, w.rest k l, e))
    | no l ↦ (omega arith, table_high 512 k (own_in own k n e))
  ]

  is_copied : (k n : ℕ) → (own_row own k).kind ≡ suc n → Copied from free k (g (get_or from k 0)) (own_row own k)
  is_copied k n e = w.done k (row_in k n e).0 (row_in k n e).1

  use_low : (k j : ℕ) → Uses (own_row own k) j → (1 ≤ j) × (j < k)
  use_low k j u = let n = uses_kind (own_row own k) j u in let z = copied_uses (is_copied k n.0 n.1) j u in (omega (arith, z.0), z.1)

  own_lower : Lower (own_row own)
  unfolding Low
  own_lower k = go (view (own_row own k))
    where
      at : (n : ℕ) → (own_row own k).kind ≡ suc n → 0 < k
      at n e = omega (arith, (row_in k n e).0)

      go : {t : TypeRow} → View (own_row own k) t → Low t k
      go v_none = tt
      go v_empty = tt
      go (v_text e) = at 1 e
      go (v_bool e) = at 2 e
      go (v_label e) = (use_low k (own_row own k).q (inl (e, refl))).1
      go (v_seq e) = ((use_low k (own_row own k).p (inr (inl (inl e, inl refl)))).1, (use_low k (own_row own k).q (inr (inl (inl e, inr refl)))).1)
      go (v_choice e) = ((use_low k (own_row own k).p (inr (inl (inr e, inl refl)))).1, (use_low k (own_row own k).q (inr (inl (inr e, inr refl)))).1)
      go (v_star e) = (use_low k (own_row own k).p (inr (inr (e, refl)))).1
      go (v_name e) = at 7 e

  abbrev own_type : ℕ → Ty
  own_type k = ty_at (λ i. type_form (own_row own i)) k

  -- row by row from below
  copy : (k : ℕ) → i < k → k ≤ 512 → ((j : ℕ) → i < j → j < k → own_type j ≡ type_of g (get_or from j 0)) → own_type k ≡ type_of g (get_or from k 0)
  unfolding ty_form
  copy k a b below = ty_at_row (λ i. type_form (own_row own i)) own_lower k ∙ go c.kind refl ∙ sym (ty_at_row (λ i. type_form (g i)) low (get_or from k 0))
    where
      c : Cells
      c = g (get_or from k 0)

      x : Copied from free k c (own_row own k)
      x = w.done k a b

      part : (j r : ℕ) → Uses (own_row own k) j → get_or from j 0 ≡ r → own_type j ≡ type_of g r
      part j r u e = let z = copied_uses x j u in below j (omega (arith, z.0)) z.1 ∙ rw e

      go : (m : ℕ) → c.kind ≡ m → ty_form (type_form (own_row own k)) own_type ≡ ty_form (type_form c) (type_of g)
      go zero e = let d = x.kind ∙ e in rw (e, d)
      go (suc zero) e = let d = x.kind ∙ e in rw (e, d)
      go (suc (suc zero)) e = let d = x.kind ∙ e in rw (e, d)
      go (suc (suc (suc zero))) e = let d = x.kind ∙ e in rw (e, d)
      go (suc (suc (suc (suc zero)))) e = let d = x.kind ∙ e in let z = x.label e in
          rw (e, d) (rw (z.0, part (own_row own k).q c.q (inl (d, refl)) z.1))
      go (suc (suc (suc (suc (suc zero))))) e = let d = x.kind ∙ e in let z = x.pair (inl e) in
          rw (e, d) (rw (part (own_row own k).p c.p (inr (inl (inl d, inl refl))) z.0, part (own_row own k).q c.q (inr (inl (inl d, inr refl))) z.1))
      go (suc (suc (suc (suc (suc (suc zero)))))) e = let d = x.kind ∙ e in let z = x.pair (inr e) in
          rw (e, d) (rw (part (own_row own k).p c.p (inr (inl (inr d, inl refl))) z.0, part (own_row own k).q c.q (inr (inl (inr d, inr refl))) z.1))
      go (suc (suc (suc (suc (suc (suc (suc zero))))))) e = let d = x.kind ∙ e in let z = x.star e in
          rw (e, d) (rw (part (own_row own k).p c.p (inr (inr (d, refl))) z.0))
      go (suc (suc (suc (suc (suc (suc (suc (suc zero)))))))) e = let d = x.kind ∙ e in rw (e, d) (rw (x.name e))
      go (suc (suc (suc (suc (suc (suc (suc (suc (suc m))))))))) e = let d = x.kind ∙ e in rw (e, d)

  copies : (n k : ℕ) → k ≤ n → i < k → k ≤ 512 → own_type k ≡ type_of g (get_or from k 0)
  copies zero k l a b = absurd (omega arith)
  copies (suc n) k l a b = copy k a b (λ j p q. copies n j (omega arith) p (omega arith))

  pub all_written : Written g found own
  all_written = record {
    size = w.own_size;
    same = copies 512 512 (omega arith) (omega (arith, w.begun)) (omega arith) ∙ rw w.root;
    lower = own_lower;
    parts = use_low;
    once = λ k m j x y. (let a = uses_kind (own_row own k) j x in let b = uses_kind (own_row own m) j y in let p = row_in k a.0 a.1 in let q = row_in m b.0 b.1 in
        w.once k m j p.0 p.1 q.0 q.1 x y);
    sides = apart;
    atoms = atom;
  }
    where
      apart : (k : ℕ) → ((own_row own k).kind ≡ 5) ⊎ ((own_row own k).kind ≡ 6) → (own_row own k).p ≡ (own_row own k).q → ⊥
      apart k (inl e) z = let x = is_copied k 4 e in omega (arith, (x.pair (inl (sym x.kind ∙ e))).3, z)
      apart k (inr e) z = let x = is_copied k 5 e in omega (arith, (x.pair (inr (sym x.kind ∙ e))).3, z)

      atom : (k : ℕ) → ((own_row own k).kind ≡ 4) ⊎ ((own_row own k).kind ≡ 8) → (r : ℕ) × (r ≤ found) × ((g r).kind ≡ (own_row own k).kind) × ((g r).p ≡ (own_row own k).p)
      atom k (inl e) = let x = is_copied k 3 e in let l = row_in k 3 e in (get_or from k 0, w.known k (omega (arith, l.0)) l.1, sym x.kind, sym (x.label (sym x.kind ∙ e)).0)
      atom k (inr e) = let x = is_copied k 7 e in let l = row_in k 7 e in (get_or from k 0, w.known k (omega (arith, l.0)) l.1, sym x.kind, sym (x.name (sym x.kind ∙ e)))

  pub narrow : size (type_of g found) ≤ 512
  unfolding weigh
  narrow = let z : i - free ≡ 0 = omega arith in let y = rw z at w.left in omega (arith, y, w.order.1)

  -- the rows that were not handed out
  pub all_blank : Blank own free
  all_blank = record {
    few = w.begun;
    none = λ k a b. w.rest k (omega (arith, w.order.0));
    unused = λ k j u. (let n = uses_kind (own_row own k) j u in (copied_uses (is_copied k n.0 n.1) j u).0);
  }

-- ---- where the loop begins

own_blank : (k : ℕ) → (own_row (replicate 3072 0) k).kind ≡ 0
own_blank k = elim (either (in_table 512 k)) [ inl h ↦ rw h (rw (zeros 3072 (2 * (0 + 3 * (k - 1))), zeros 3072 (2 * (0 + 3 * (k - 1)) + 1))) | inr h ↦ rw h ]

-- where no row is written all but the last are blank
pub blank_all : Blank (replicate 3072 0) 511
blank_all = record {
  few = omega arith;
  none = λ k a b. own_blank k;
  unused = λ k j u. (let n = uses_kind (own_row (replicate 3072 0) k) j u in let z : ◌≡◌ {A = ℕ} 0 (suc n.0) = sym (own_blank k) ∙ n.1 in absurd (omega arith));
}

pub writing_none : (g : ℕ → Cells) (found : ℕ) → Writing g found (replicate 3072 0) (set (replicate 513 0) 512 found) 511 512
unfolding weigh
writing_none g found = record {
  own_size = length-replicate {A = ℕ} 3072 0;
  from_size = length-set (replicate 513 0) 512 found ∙ length-replicate {A = ℕ} 513 0;
  order = (omega arith, omega arith);
  root = at;
  begun = omega arith;
  known = λ j a b. (let z : j ≡ 512 = omega arith in rw (z, at) (omega arith));
  done = λ k a b. absurd (omega arith);
  rest = λ k a. own_blank k;
  once = λ k m j a b. absurd (omega arith);
  left = rw at (omega arith);
}
  where
    at : get_or (set (replicate 513 0) 512 found) 512 0 ≡ found
    at = get_or-set_same (replicate 513 0) 512 found 0 (omega (arith, length-replicate {A = ℕ} 513 0))
