-- A found point, set k of t, and a wanted one, set j of u, go together: each place a of the first has a rival in the second, a place of set kin[a] of `same`, and the pair is pending or done; End,
-- place 0, needs End.
use Rattle.std.specs.Prelude.{ℕ, ◌+◌, ◌≤◌, ◌<◌, ◌≡◌, Bool, true, false, List, ◌⊎◌, get_or}
use Rattle.std.proofs.Common.{inl, inr, arith}
use Rattle.std.proofs.lemmas.Bool.{false≢true}
use Rattle.std.proofs.Math.Decide.{ℕ_discrete, dec_lt}
use Rattle.meaning.specs.Laws.Bools.{and_left, and_right, and_both, not_both}
use Rattle.bits.specs.Sets.{in_set, LowestBoth}
use Rattle.within_pairs.specs.Queue.{Marked}

-- what is asked of the tables
pub record Facing (t : List ℕ) (k : ℕ) (u : List ℕ) (j : ℕ) (kin : List ℕ) : Type 0 where
  pub found : k ≤ 512
  pub wanted : j ≤ 512
  pub kins : (a : ℕ) → a < 576 → get_or kin a 0 ≤ 512
  pub places : (a : ℕ) → a < 576 → in_set t k a ≡ true → a ≤ 512

module _ (t : List ℕ) (k : ℕ) (u : List ℕ) (j : ℕ) (kin same : List ℕ) where
  -- b is a rival of the found place a
  pub record Rival (a b : ℕ) : Type 0 where
    pub low : 1 ≤ b
    pub high : b < 576
    pub stands : in_set u j b ≡ true
    pub like : in_set same (get_or kin a 0) b ≡ true

  -- a has a rival, and the pair is seen
  pub record Rivalled (p d : List ℕ) (a : ℕ) : Type 0 where
    pub rival : ℕ
    pub is : Rival a rival
    pub seen : (in_set p a rival ≡ true) ⊎ (in_set d a rival ≡ true)

  pub record Faced (p d : List ℕ) : Type 0 where
    pub end : in_set t k 0 ≡ true → in_set u j 0 ≡ true
    pub each : (a : ℕ) → 1 ≤ a → a < 576 → in_set t k a ≡ true → Rivalled p d a

  -- what refutes
  pub data Clash : Type 0 where
    at_end : in_set t k 0 ≡ true → in_set u j 0 ≡ false → Clash
    at_place : (a : ℕ) → 1 ≤ a → a < 576 → in_set t k a ≡ true → ((b : ℕ) → Rival a b → ⊥) → Clash

  -- what is pending besides: pairs of a place and its rival
  pub record Grows (p p' : List ℕ) : Type 0 where
    pub kept : (x y : ℕ) → 1 ≤ x → y < 576 → in_set p x y ≡ true → in_set p' x y ≡ true
    pub new : (x y : ℕ) → 1 ≤ x → x < 576 → y < 576 → in_set p' x y ≡ true → (in_set p x y ≡ true) ⊎ ((in_set t k x ≡ true) × Rival x y)

  pub record Outcome (p p' d : List ℕ) (r : Bool) : Type 0 where
    pub grows : Grows p p'
    pub holds : r ≡ true → Faced p' d
    pub fails : r ≡ false → Clash

  -- the places below a are done
  pub record Meeting (p p' d : List ℕ) (a : ℕ) : Type 0 where
    pub grows : Grows p p'
    pub place : a < 576 → (1 ≤ a) × (in_set t k a ≡ true)
    pub each : (x : ℕ) → 1 ≤ x → x < a → x < 576 → in_set t k x ≡ true → Rivalled p' d x

  found_place : {from a : ℕ} → 1 ≤ from → LowestBoth t k t k from a → a < 576 → (1 ≤ a) × (in_set t k a ≡ true)
  found_place {from} {a} h l s = (omega (arith, l.onward s), and_left (in_set t k a) (in_set t k a) (l.here s))

  pub meeting_more : {p m p' d : List ℕ} {a b a' : ℕ} → Meeting p m d a → a < 576 → LowestBoth u j same (get_or kin a 0) 1 b → b < 576 → Marked m p' d a b → LowestBoth t k t k (a + 1) a'
      → Meeting p p' d a'
  meeting_more {p} {m} {p'} {d} {a} {b} {a'} w s l h mk n = record {
    grows = record {
      kept = λ x y i o e. mk.kept x y i o (w.grows.kept x y i o e);
      new = λ x y i r o e. elim (mk.new x y i o e) [
        | inl z ↦ w.grows.new x y i r o z
        | inr z ↦ rw (z.0, z.1) (inr ((w.place s).1, is))
      ];
    };
    place = found_place (omega arith) n;
    each = λ x i o r e. elim (ℕ_discrete x a) [
      | yes z ↦ rw z (record { rival = b; is = is; seen = mk.seen })
      | no z ↦ elim (dec_lt x a) [
        | yes q ↦ (let v = w.each x i q r e in record { rival = v.rival; is = v.is; seen = elim v.seen [ inl y ↦ inl (mk.kept x v.rival i v.is.high y) | inr y ↦ inr y ] })
        | no q ↦ absurd (not_both (and_both (in_set t k x) (in_set t k x) e e) (n.below x (omega arith) o))
      ]
    ];
  }
    where
      is : Rival a b
      is = record {
        low = l.onward h;
        high = h;
        stands = and_left (in_set u j b) (in_set same (get_or kin a 0) b) (l.here h);
        like = and_right (in_set u j b) (in_set same (get_or kin a 0) b) (l.here h);
      }

  pub no_rival : {p m d : List ℕ} {a b : ℕ} → Meeting p m d a → a < 576 → LowestBoth u j same (get_or kin a 0) 1 b → 576 ≤ b → Outcome p m d false
  no_rival {a = a} {b = b} w s l h = record {
    grows = w.grows;
    holds = λ e. absurd (false≢true e);
    fails = λ e. at_place a (w.place s).0 s (w.place s).1 (λ c r. not_both (and_both (in_set u j c) (in_set same (get_or kin a 0) c) r.stands r.like)
        (l.below c r.low (omega (arith, r.high))));
  }
