-- What a check's evaluator asks, what its answer has to be by the walk that the definition gives, and a law for each way in which an evaluator makes its answer from another's.
use Rattle.std.specs.Prelude.{ℕ, zero, suc, ◌+◌, ◌*◌, ◌≤◌, ◌<◌, ◌≡◌, refl, true, List, [], ◌∷◌, ◌++◌, length, Result, Ok, Err}
use Rattle.std.specs.Result.{IsErrAnd}
use Rattle.std.proofs.Common.{arith, sym, subst}
use Rattle.std.proofs.lemmas.Result.{err_from_is_err_and}
use Rattle.meaning.specs.Sheet.{script_of}
use Rattle.meaning.specs.Types.{Ty, Named, names_in, atom_of}
use Rattle.meaning.specs.Types as types
use Rattle.meaning.specs.Tests.{in_table}
use Rattle.meaning.specs.Kinds.{type_form}
use Rattle.meaning.specs.Laws.Apart.{Low}
use Rattle.meaning.specs.Check.{Question, Judged, Asking}
use Rattle.meaning.specs.Walk.{Walk, ret, halt, tick, ◌>>=◌, Verdict, gives, fuel, stops, Settles, done, halted, short}
use Rattle.meaning.specs.Walk as meaning
use Rattle.meaning.specs.Laws.Rows.{SameRows}
use Rattle.meaning.specs.Laws.Walk.{Leads, leads_tick, leads_then, stops_then, fuel_then}
use Rattle.meaning.specs.Theorems.ReadBack.{lent_row}
use Rattle.walk.specs.Concern.{concern_of}
use Rattle.walk.specs.Scope.{live, values, Scoped, Fresh, More, scoped_more, values_same, values_last}
use Rattle.walk.specs.Meets.{same_trans}
use Rattle.walk.specs.declared.Scope.{Scope}
use Rattle.walk.specs.declared.Concern.{Concern}
use Rattle.walk.specs.declared.Got.{Got}
use Rattle.walk.specs.declared.Purse.{Purse}
use Rattle.type_rows.specs.Grown.{Grows, ty_in, ty_kept}
use Rattle.type_rows.specs.declared.Halt.{Halt}
use Rattle.type_rows.specs.declared.Halt.TheVariants.{Fuel, Depth, Wide, Mismatch, Outside}
use Rattle.type_rows.specs.declared.Atom.{Atom}
use Rattle.type_rows.specs.declared.Atom.TheVariants.{Other, Text, Bool, Label}

abbrev pub top : List ℕ → ℕ
top s = (script_of s).types

-- how the questions of a sheet are judged
abbrev pub Judges : List ℕ → Question → meaning.Judgement → Type 0
Judges s = Judged (names_in (script_of s))

-- ---- what an evaluator asks

-- a row for each unit, and all of them numbers of rows
pub record Room (s work : List ℕ) (used left : ℕ) : Type 0 where
  pub grows : Grows s work used
  pub room : 8 * (used + left) ≤ length work
  pub small : top s + (used + left) < 65536

pub record Ready (s work : List ℕ) (e : Scope) (used on left : ℕ) : Type 0 where
  pub room : Room s work used left
  pub scoped : Scoped (top s + used) e
  pub focus : on ≤ top s + used

-- the types of the variables
abbrev pub types_of : List ℕ → List ℕ → ℕ → Scope → List Ty
types_of s work n e = values (ty_in s work n) (live e)

-- ---- what it gives

pub record Typed (w : Asking Ty) (s : List ℕ) (left used : ℕ) (old new : List ℕ) (root used' left' : ℕ) : Type 0 where
  pub settles : Settles (Judges s) w left (gives (ty_in s new used' root)) left'
  pub inside : root ≤ top s + used'
  pub grown : used ≤ used'
  -- each unit buys at most one row
  pub paid : used' + left' ≤ used + left
  pub grows : Grows s new used'
  pub same : SameRows (lent_row old) (lent_row new) used

abbrev pub HaltedBy : Asking Ty → List ℕ → ℕ → Halt → Type 0
HaltedBy w s left Fuel = Settles (Judges s) w left fuel 0
HaltedBy w s left (Depth p) = Settles (Judges s) w left (stops meaning.depth) p.left
HaltedBy w s left (Wide at p) = Settles (Judges s) w left (stops (meaning.wide (concern_of at))) p.left
HaltedBy w s left (Mismatch at p) = Settles (Judges s) w left (stops (meaning.mismatch (concern_of at))) p.left
HaltedBy w s left (Outside at p) = Settles (Judges s) w left (stops (meaning.outside (concern_of at))) p.left

pub record Halted (w : Asking Ty) (s : List ℕ) (left : ℕ) (why : Halt) : Type 0 where
  pub by : HaltedBy w s left why

abbrev pub FindsBy : Asking Ty → List ℕ → ℕ → ℕ → List ℕ → List ℕ → Result Got Halt → Type 0
FindsBy w s left used old new (Ok g) = Typed w s left used old new g.root g.left.used g.left.purse.left
FindsBy w s left used old new (Err why) = Halted w s left why

pub record Finds (w : Asking Ty) (s : List ℕ) (left used : ℕ) (old new : List ℕ) (a : Result Got Halt) : Type 0 where
  pub by : FindsBy w s left used old new a

-- ---- what an arm of a `match` says of the answer, and back

module _ {w : Asking Ty} {s : List ℕ} {left used : ℕ} {old new : List ℕ} {a : Result Got Halt} where
  pub finds_done : {g : Got} → a ≡ Ok g → Finds w s left used old new a → Typed w s left used old new g.root g.left.used g.left.purse.left
  finds_done e m = subst (FindsBy w s left used old new) e m.by

  pub finds_not : {why : Halt} → a ≡ Err why → Finds w s left used old new a → Halted w s left why
  finds_not e m = subst (FindsBy w s left used old new) e m.by

  -- the definition in another form
  pub finds_as : {w' : Asking Ty} → w ≡ w' → Finds w' s left used old new a → Finds w s left used old new a
  finds_as e m = subst (λ (x : Asking Ty). Finds x s left used old new a) (sym e) m

pub finds_of : {w : Asking Ty} {s : List ℕ} {left used : ℕ} {old new : List ℕ} {root used' left' : ℕ} → Typed w s left used old new root used' left'
    → Finds w s left used old new (Ok (record { root = root; left = record { used = used'; purse = record { left = left' } } }))
finds_of f = record { by = f }

-- what a `?` hands on
pub finds_err : {w : Asking Ty} {s : List ℕ} {left used : ℕ} {old new : List ℕ} {a : Result Got Halt} {why : Halt} → IsErrAnd a (λ (y : Halt). y ≡ why) → Halted w s left why
    → Finds w s left used old new a
finds_err {a = a} e h = let p = err_from_is_err_and a e in record { by = rw (p.1, p.2) h }

pub finds_halt : {w : Asking Ty} {s : List ℕ} {left used : ℕ} {old new : List ℕ} {why : Halt} → Halted w s left why → Finds w s left used old new (Err why)
finds_halt h = record { by = h }

-- ---- by a walk that it leads to

module _ {w w' : Asking Ty} {s : List ℕ} {left left' : ℕ} (to : Leads (Judges s) w left w' left') where
  pub halt_leads : {why : Halt} → Halted w' s left' why → Halted w s left why
  halt_leads {why} h = record { by = go why h.by }
    where
      go : (why : Halt) → HaltedBy w' s left' why → HaltedBy w s left why
      go Fuel h = to fuel 0 h
      go (Depth p) h = to (stops meaning.depth) p.left h
      go (Wide at p) h = to (stops (meaning.wide (concern_of at))) p.left h
      go (Mismatch at p) h = to (stops (meaning.mismatch (concern_of at))) p.left h
      go (Outside at p) h = to (stops (meaning.outside (concern_of at))) p.left h

  -- rows may be written on the way
  module _ {used used' : ℕ} {old mid new : List ℕ} (grown : used ≤ used') (paid : used' + left' ≤ used + left) (same : SameRows (lent_row old) (lent_row mid) used) where
    pub typed_leads : {root n m : ℕ} → Typed w' s left' used' mid new root n m → Typed w s left used old new root n m
    typed_leads {root} {n} {m} f = record {
      settles = to (gives (ty_in s new n root)) m f.settles;
      inside = f.inside;
      grown = omega (arith, f.grown);
      paid = omega (arith, f.paid);
      grows = f.grows;
      same = same_trans used used' (lent_row old) (lent_row mid) (lent_row new) grown same f.same;
    }

    pub finds_leads : {a : Result Got Halt} → Finds w' s left' used' mid new a → Finds w s left used old new a
    finds_leads {a} m = record { by = go a m.by }
      where
        go : (a : Result Got Halt) → FindsBy w' s left' used' mid new a → FindsBy w s left used old new a
        go (Ok g) f = typed_leads f
        go (Err why) h = halt_leads h

-- a part gave a type, and the rest goes on from it
pub finds_then : {w : Asking Ty} {s : List ℕ} {left left' used used' root : ℕ} {old mid new : List ℕ} {a : Result Got Halt} (k : Ty → Asking Ty) → Typed w s left used old mid root used' left'
    → Finds (k (ty_in s mid used' root)) s left' used' mid new a → Finds (w >>= k) s left used old new a
finds_then {s = s} k f m = finds_leads (leads_then (Judges s) k f.settles) f.grown f.paid f.same m

-- a part is not done, and that is the answer
pub halt_then : {w : Asking Ty} {s : List ℕ} {left : ℕ} {why : Halt} (k : Ty → Asking Ty) → Halted w s left why → Halted (w >>= k) s left why
halt_then {w} {s} {left} {why} k h = record { by = go why h.by }
  where
    go : (why : Halt) → HaltedBy w s left why → HaltedBy (w >>= k) s left why
    go Fuel h = fuel_then (Judges s) k h
    go (Depth p) h = stops_then (Judges s) k h
    go (Wide at p) h = stops_then (Judges s) k h
    go (Mismatch at p) h = stops_then (Judges s) k h
    go (Outside at p) h = stops_then (Judges s) k h

-- a row's own unit
pub finds_tick : {w : Asking Ty} {s : List ℕ} {left' used : ℕ} {old new : List ℕ} {a : Result Got Halt} (left : ℕ) → left' + 1 ≡ left → Finds w s left' used old new a
    → Finds (tick w) s left used old new a
finds_tick {w} {s} {left'} left e m = finds_leads (leads_tick (Judges s) w left left' e) (omega arith) (omega arith) (λ r i j. refl) m

pub halt_tick : (w : Asking Ty) (s : List ℕ) (left : ℕ) → left < 1 → Halted (tick w) s left Fuel
halt_tick w s zero h = record { by = short }
halt_tick w s (suc left) h = absurd (omega arith)

pub halt_depth : (s : List ℕ) (p : Purse) → Halted (halt meaning.depth) s p.left (Depth p)
halt_depth s p = record { by = halted }

pub halt_mismatch : (s : List ℕ) (at : Concern) (p : Purse) → Halted (halt (meaning.mismatch (concern_of at))) s p.left (Mismatch at p)
halt_mismatch s at p = record { by = halted }

-- a type as it stands
pub typed_ret : {s work : List ℕ} {used root : ℕ} (left : ℕ) → Grows s work used → root ≤ top s + used → Typed (ret (ty_in s work used root)) s left used work work root used left
typed_ret left g h = record { settles = done; inside = h; grown = omega arith; paid = omega arith; grows = g; same = λ r i j. refl }

-- ---- what the next evaluator asks

module _ {w : Asking Ty} {s old new : List ℕ} {left used root used' left' : ℕ} (n : length new ≡ length old) (f : Typed w s left used old new root used' left') where
  pub room_after : Room s old used left → Room s new used' left'
  room_after r = record { grows = f.grows; room = omega (arith, r.room, f.paid); small = omega (arith, r.small, f.paid) }

  pub ready_after : {e : Scope} {focus : ℕ} (focus' : ℕ) → Ready s old e used focus left → focus' ≤ top s + used' → Ready s new e used' focus' left'
  ready_after focus' r h = record { room = room_after r.room; scoped = scoped_more (top s + used') (omega (arith, f.grown)) r.scoped; focus = h }

pub room_less : {s work : List ℕ} {used left : ℕ} (left' k : ℕ) → Room s work used left → left' + k ≡ left → Room s work used left'
room_less left' k r e = record { grows = r.grows; room = omega (arith, r.room); small = omega (arith, r.small) }

pub ready_less : {s work : List ℕ} {e : Scope} {used focus left : ℕ} (left' k focus' : ℕ) → Ready s work e used focus left → left' + k ≡ left → focus' ≤ top s + used
    → Ready s work e used focus' left'
ready_less left' k focus' r e h = record { room = room_less left' k r.room e; scoped = r.scoped; focus = h }

-- ---- the types of the variables, as they stay

module _ {w : Asking Ty} {s old new : List ℕ} {left used root used' left' : ℕ} (g : Grows s old used) (f : Typed w s left used old new root used' left') where
  pub type_after : (r : ℕ) → r ≤ top s + used → ty_in s new used' r ≡ ty_in s old used r
  type_after r h = ty_kept s old new used used' f.grown f.same g r h

  pub types_after : {e : Scope} → Scoped (top s + used) e → types_of s new used' e ≡ types_of s old used e
  types_after {e} c = values_same (ty_in s old used) (ty_in s new used') (top s + used) (live e) type_after c.within

pub types_with : {e e' : Scope} {k v : ℕ} (s work : List ℕ) (n : ℕ) → More e e' k v → types_of s work n e' ≡ types_of s work n e ++ ty_in s work n v ∷ []
types_with {e} {e'} {k} {v} s work n m = rw m.live (values_last (ty_in s work n) (live e) (record { kind = k; value = v }))

pub types_fresh : {e : Scope} (s work : List ℕ) (n : ℕ) → Fresh e → types_of s work n e ≡ []
unfolding values
types_fresh {e} s work n f = rw f.none

-- ---- a row is written

pub record WriteAsks (s work : List ℕ) (used kind p q left : ℕ) : Type 0 where
  pub room : Room s work used left
  pub low : Low (type_form (record { kind = kind; p = p; q = q; r = 0 })) (top s + (used + 1))
  pub known : kind ≡ 8 → in_table (script_of s).names p ≡ true
  pub small_kind : kind < 65536
  pub small_p : p < 65536
  pub small_q : q < 65536

-- ---- an atom

abbrev pub ActsBy : List ℕ → List ℕ → ℕ → ℕ → Atom → Type 0
ActsBy s work n r Other = atom_of (names_in (script_of s)) (ty_in s work n r) ≡ types.Atom.no_atom
ActsBy s work n r Text = atom_of (names_in (script_of s)) (ty_in s work n r) ≡ types.Atom.text
ActsBy s work n r Bool = atom_of (names_in (script_of s)) (ty_in s work n r) ≡ types.Atom.bool
ActsBy s work n r (Label k c) = record { is : atom_of (names_in (script_of s)) (ty_in s work n r) ≡ types.Atom.label k (ty_in s work n c); label : k < 65536; inside : c ≤ top s + n }

pub record Acts (s work : List ℕ) (n r : ℕ) (a : Atom) : Type 0 where
  pub by : ActsBy s work n r a

module _ {s work : List ℕ} {n r : ℕ} {a : Atom} where
  pub acts_other : a ≡ Other → Acts s work n r a → atom_of (names_in (script_of s)) (ty_in s work n r) ≡ types.Atom.no_atom
  acts_other e m = subst (ActsBy s work n r) e m.by

  pub acts_text : a ≡ Text → Acts s work n r a → atom_of (names_in (script_of s)) (ty_in s work n r) ≡ types.Atom.text
  acts_text e m = subst (ActsBy s work n r) e m.by

  pub acts_bool : a ≡ Bool → Acts s work n r a → atom_of (names_in (script_of s)) (ty_in s work n r) ≡ types.Atom.bool
  acts_bool e m = subst (ActsBy s work n r) e m.by

  pub acts_label : {k c : ℕ} → a ≡ Label k c → Acts s work n r a → ActsBy s work n r (Label k c)
  acts_label e m = subst (ActsBy s work n r) e m.by
