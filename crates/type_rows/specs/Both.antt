-- Two walks one after the other, then what follows; and what a row that is written asks, by its kind.
use Rattle.std.specs.Prelude.{ℕ, ◌+◌, ◌≤◌, ◌<◌, ◌≡◌, refl, ◌⊎◌, List, Result}
use native.Mathlib.Omega.{arith}
use Rattle.std.proofs.Common.{sym, subst, inl, inr}
use Rattle.meaning.specs.Types.{Ty, ty, ty_at}
use Rattle.meaning.specs.Check.{Asking}
use Rattle.meaning.specs.Walk.{tick, ◌>>=◌}
use Rattle.meaning.specs.Laws.Apart.{Low}
use Rattle.meaning.specs.Laws.Walk.{leads_tick, leads_then}
use Rattle.walk.specs.declared.Got.{Got}
use Rattle.type_rows.specs.Grown.{ty_in}
use Rattle.type_rows.specs.Finds.{top, Judges, Room, WriteAsks, Typed, Halted, Finds, finds_then, halt_then, halt_leads, type_after}
use Rattle.type_rows.specs.declared.Halt.{Halt}

-- row 0 is ()
pub type_zero : (s work : List ℕ) (n : ℕ) → ty_in s work n 0 ≡ Ty.empty
unfolding ty_at ty
type_zero s work n = refl

module _ {s : List ℕ} {left : ℕ} {why : Halt} where
  -- the definition in another form
  pub halted_as : {w w' : Asking Ty} → w ≡ w' → Halted w' s left why → Halted w s left why
  halted_as e h = subst (λ (x : Asking Ty). Halted x s left why) (sym e) h

-- a row's own unit
pub halted_tick : {s : List ℕ} {left' : ℕ} {why : Halt} {w : Asking Ty} (left : ℕ) → left' + 1 ≡ left → Halted w s left' why → Halted (tick w) s left why
halted_tick {s} {left'} {why} {w} left e h = halt_leads (leads_tick (Judges s) w left left' e) h

-- ---- two walks, then what follows

module _ {w w' : Asking Ty} {s old mid : List ℕ} {left used x n left' : ℕ} (f : Typed w s left used old mid x n left') (k : Ty → Ty → Asking Ty) where
  pub both_halt : {why : Halt} → Halted w' s left' why → Halted (w >>= λ x. w' >>= λ y. k x y) s left why
  both_halt h = halt_leads (leads_then (Judges s) (λ (σ : Ty). w' >>= λ y. k σ y) f.settles) (halt_then (k (ty_in s mid n x)) h)

  pub both_finds : {new end : List ℕ} {y m left'' : ℕ} {a : Result Got Halt} → Typed w' s left' n mid new y m left'' → Finds (k (ty_in s new m x) (ty_in s new m y)) s left'' m new end a
      → Finds (w >>= λ x. w' >>= λ y. k x y) s left used old end a
  both_finds {new} {end} {y} {m} {left''} {a} g b =
      finds_then (λ (σ : Ty). w' >>= λ y. k σ y) f
      (finds_then (k (ty_in s mid n x)) g (subst (λ (σ : Ty). Finds (k σ (ty_in s new m y)) s left'' m new end a) (type_after f.grows g x f.inside) b))

-- ---- what a row that is written asks

module _ {s work : List ℕ} {used left : ℕ} (room : Room s work used left) where
  -- (), text and bool
  pub asks_empty : WriteAsks s work used 1 0 0 left
  unfolding Low
  asks_empty = record { room = room; low = tt; known = λ e. absurd (omega (arith, e)); small_kind = omega arith; small_p = omega arith; small_q = omega arith }

  pub asks_text : WriteAsks s work used 2 0 0 left
  unfolding Low
  asks_text = record { room = room; low = omega arith; known = λ e. absurd (omega (arith, e)); small_kind = omega arith; small_p = omega arith; small_q = omega arith }

  pub asks_bool : WriteAsks s work used 3 0 0 left
  unfolding Low
  asks_bool = record { room = room; low = omega arith; known = λ e. absurd (omega (arith, e)); small_kind = omega arith; small_p = omega arith; small_q = omega arith }

  -- of parts that are types already
  pub asks_label : (k x : ℕ) → k < 65536 → x ≤ top s + used → WriteAsks s work used 4 k x left
  unfolding Low
  asks_label k x h i = record {
    room = room;
    low = omega (arith, i);
    known = λ e. absurd (omega (arith, e));
    small_kind = omega arith;
    small_p = h;
    small_q =
        omega (arith, i, room.small);
  }

  pub asks_seq : (x y : ℕ) → x ≤ top s + used → y ≤ top s + used → WriteAsks s work used 5 x y left
  unfolding Low
  asks_seq x y h i = record {
    room = room;
    low = (omega (arith, h), omega (arith, i));
    known = λ e. absurd (omega (arith, e));
    small_kind = omega arith;
    small_p =
        omega (arith, h, room.small);
    small_q = omega (arith, i, room.small);
  }

  pub asks_choice : (x y : ℕ) → x ≤ top s + used → y ≤ top s + used → WriteAsks s work used 6 x y left
  unfolding Low
  asks_choice x y h i = record {
    room = room;
    low = (omega (arith, h), omega (arith, i));
    known = λ e. absurd (omega (arith, e));
    small_kind = omega arith;
    small_p =
        omega (arith, h, room.small);
    small_q = omega (arith, i, room.small);
  }

  pub asks_pair : (k x y : ℕ) → (k ≡ 5) ⊎ (k ≡ 6) → x ≤ top s + used → y ≤ top s + used → WriteAsks s work used k x y left
  asks_pair k x y (inl e) h i = rw e (asks_seq x y h i)
  asks_pair k x y (inr e) h i = rw e (asks_choice x y h i)

  pub asks_star : (x : ℕ) → x ≤ top s + used → WriteAsks s work used 7 x 0 left
  unfolding Low
  asks_star x h = record {
    room = room;
    low = omega (arith, h);
    known = λ e. absurd (omega (arith, e));
    small_kind = omega arith;
    small_p = omega (arith, h, room.small);
    small_q =
        omega arith;
  }
