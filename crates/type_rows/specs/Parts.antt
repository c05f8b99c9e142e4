-- What a type consists of, row by row, as the walk through its parts takes it; and what the walk finds at a row, from what it finds at the parts.
use Prim.Native.Nat.{ℕ, ◌+◌, ◌≤◌, ◌<◌}
use Rattle.std.proofs.Common.{arith, sym, ◌∙◌, subst}
use Rattle.std.specs.Prelude.{◌≡◌, cond, ◌⊎◌, List, eqb, Result, Ok}
use Rattle.std.proofs.Math.Path.{refl, ap}
use Rattle.std.proofs.Math.Logic.{inl, inr}
use Rattle.meaning.specs.Sheet.{Cells}
use Rattle.meaning.specs.Kinds.{TypeRow, type_form}
use Rattle.meaning.specs.Types.{Ty, ty_form}
use Rattle.meaning.specs.Check.{Asking, parts, written}
use Rattle.meaning.specs.Walk.{ret, tick, ◌>>=◌}
use Rattle.meaning.specs.Laws.Apart.{Low}
use Rattle.type_rows.specs.Grown.{type_in, ty_in, Grows, row_says, row_low}
use Rattle.type_rows.specs.Finds.{top, Typed, Halted, Finds, finds_as, finds_of, finds_then, finds_tick, halt_then, halt_tick, typed_ret, type_after}
use Rattle.type_rows.specs.declared.Halt.{Halt}
use Rattle.type_rows.specs.declared.Halt.TheVariants.{Fuel}
use Rattle.walk.specs.declared.Got.{Got}
use Rattle.walk.specs.declared.Purse.{Purse}
use Rattle.type_rows.specs.Both.{halted_as, halted_tick, both_halt, both_finds, type_zero}
use Rattle.type_rows.specs.declared.parts.Part.{Part}
use Rattle.type_rows.specs.declared.parts.Part.TheVariants.{Nothing, Atom, Pair, Star}

-- a sequence or a choice, by its kind
abbrev pub paired : ℕ → Ty → Ty → Ty
paired k σ τ = cond (eqb k 5) (Ty.seq σ τ) (Ty.choice σ τ)

pub record Paired (s work : List ℕ) (n r k p q : ℕ) : Type 0 where
  pub is : (go : Ty → Asking Ty) → parts go (ty_in s work n r) ≡ tick (parts go (ty_in s work n p) >>= λ x. parts go (ty_in s work n q) >>= λ y. written (paired k x y))
  pub kind : (k ≡ 5) ⊎ (k ≡ 6)
  pub first : p < r
  pub second : q < r

pub record Starred (s work : List ℕ) (n r p : ℕ) : Type 0 where
  pub is : (go : Ty → Asking Ty) → parts go (ty_in s work n r) ≡ tick (parts go (ty_in s work n p) >>= λ x. written (Ty.star x))
  pub part : p < r

abbrev pub ConsistsBy : List ℕ → List ℕ → ℕ → ℕ → Part → Type 0
ConsistsBy s work n r Nothing = (go : Ty → Asking Ty) → parts go (ty_in s work n r) ≡ tick (ret Ty.empty)
ConsistsBy s work n r Atom = (go : Ty → Asking Ty) → parts go (ty_in s work n r) ≡ tick (go (ty_in s work n r))
ConsistsBy s work n r (Pair k p q) = Paired s work n r k p q
ConsistsBy s work n r (Star p) = Starred s work n r p

pub record Consists (s work : List ℕ) (n r : ℕ) (a : Part) : Type 0 where
  pub by : ConsistsBy s work n r a

module _ {s work : List ℕ} {n r : ℕ} {a : Part} where
  pub consists_nothing : a ≡ Nothing → Consists s work n r a → (go : Ty → Asking Ty) → parts go (ty_in s work n r) ≡ tick (ret Ty.empty)
  consists_nothing e m = subst (ConsistsBy s work n r) e m.by

  pub consists_atom : a ≡ Atom → Consists s work n r a → (go : Ty → Asking Ty) → parts go (ty_in s work n r) ≡ tick (go (ty_in s work n r))
  consists_atom e m = subst (ConsistsBy s work n r) e m.by

  pub consists_pair : {k p q : ℕ} → a ≡ Pair k p q → Consists s work n r a → Paired s work n r k p q
  consists_pair e m = subst (ConsistsBy s work n r) e m.by

  pub consists_star : {p : ℕ} → a ≡ Star p → Consists s work n r a → Starred s work n r p
  consists_star e m = subst (ConsistsBy s work n r) e m.by

-- ---- by what the row says

module _ {s work : List ℕ} {n : ℕ} (g : Grows s work n) (r : ℕ) {c : Cells} (is : c ≡ type_in s work n r) where
  -- an atom, from what the row says
  atom_consists : {t : TypeRow} → t ≡ type_form c → ((go : Ty → Asking Ty) → parts go (ty_form t (ty_in s work n)) ≡ tick (go (ty_form t (ty_in s work n)))) → Consists s work n r Atom
  atom_consists e h = record { by = λ go. ap (parts go) (row_says g r is e) ∙ h go ∙ ap (λ (σ : Ty). tick (go σ)) (sym (row_says g r is e)) }

  pub text_part : TypeRow.text ≡ type_form c → Consists s work n r Atom
  unfolding parts ty_form
  text_part e = atom_consists e (λ go. refl)

  pub bool_part : TypeRow.bool ≡ type_form c → Consists s work n r Atom
  unfolding parts ty_form
  bool_part e = atom_consists e (λ go. refl)

  pub label_part : {l q : ℕ} → TypeRow.label l q ≡ type_form c → Consists s work n r Atom
  unfolding parts ty_form
  label_part e = atom_consists e (λ go. refl)

  pub name_part : {x : ℕ} → TypeRow.name x ≡ type_form c → Consists s work n r Atom
  unfolding parts ty_form
  name_part e = atom_consists e (λ go. refl)

  pub seq_part : {p q : ℕ} → TypeRow.seq p q ≡ type_form c → Consists s work n r (Pair 5 p q)
  unfolding parts ty_form Low
  seq_part e = let l = row_low g r is e in record { by = record { is = λ go. ap (parts go) (row_says g r is e); kind = inl refl; first = l.0; second = l.1 } }

  pub choice_part : {p q : ℕ} → TypeRow.choice p q ≡ type_form c → Consists s work n r (Pair 6 p q)
  unfolding parts ty_form Low
  choice_part e = let l = row_low g r is e in record { by = record { is = λ go. ap (parts go) (row_says g r is e); kind = inr refl; first = l.0; second = l.1 } }

  pub star_part : {p : ℕ} → TypeRow.star p ≡ type_form c → Consists s work n r (Star p)
  unfolding parts ty_form Low
  star_part e = record { by = record { is = λ go. ap (parts go) (row_says g r is e); part = row_low g r is e } }

  pub none_part : TypeRow.none ≡ type_form c → Consists s work n r Nothing
  unfolding parts ty_form
  none_part e = record { by = λ go. ap (parts go) (row_says g r is e) }

  pub empty_part : TypeRow.empty ≡ type_form c → Consists s work n r Nothing
  unfolding parts ty_form
  empty_part e = record { by = λ go. ap (parts go) (row_says g r is e) }

-- a row's own unit
pub parts_fuel : (s : List ℕ) (go : Ty → Asking Ty) (τ : Ty) (left : ℕ) → left < 1 → Halted (parts go τ) s left Fuel
unfolding parts
parts_fuel s go Ty.empty left h = halt_tick _ s left h
parts_fuel s go Ty.text left h = halt_tick _ s left h
parts_fuel s go Ty.bool left h = halt_tick _ s left h
parts_fuel s go (Ty.label n τ) left h = halt_tick _ s left h
parts_fuel s go (Ty.seq τ σ) left h = halt_tick _ s left h
parts_fuel s go (Ty.choice τ σ) left h = halt_tick _ s left h
parts_fuel s go (Ty.star τ) left h = halt_tick _ s left h
parts_fuel s go (Ty.name x) left h = halt_tick _ s left h

-- a row of the kind is written
pub pair_is : (k x y : ℕ) (at : ℕ → Ty) → (k ≡ 5) ⊎ (k ≡ 6) → ty_form (type_form (record { kind = k; p = x; q = y; r = 0 })) at ≡ paired k (at x) (at y)
unfolding ty_form
pair_is k x y at (inl e) = rw e
pair_is k x y at (inr e) = rw e

-- ---- what is found at a row, from what is found at its parts: `go` is what the walk does at an atom

module _ {s work : List ℕ} {used left : ℕ} (r : ℕ) (go : Ty → Asking Ty) (left' : ℕ) (paid : left' + 1 ≡ left) where
  pub nothing_finds : (p : Purse) → p.left ≡ left' → Grows s work used → parts go (ty_in s work used r) ≡ tick (ret Ty.empty)
      → Finds (parts go (ty_in s work used r)) s left used work work (Ok (record { root = 0; left = record { used = used; purse = p } }))
  nothing_finds p e g is =
      finds_as is (finds_tick left (omega arith) (finds_as (ap (λ (τ : Ty). ret τ) (sym (type_zero s work used))) (finds_of (typed_ret p.left g (omega arith)))))

  pub atom_finds : {new : List ℕ} {a : Result Got Halt} → parts go (ty_in s work used r) ≡ tick (go (ty_in s work used r)) → Finds (go (ty_in s work used r)) s left' used work new a
      → Finds (parts go (ty_in s work used r)) s left used work new a
  atom_finds is m = finds_as is (finds_tick left paid m)

  module _ {p : ℕ} (is : Starred s work used r p) where
    pub star_halts : {why : Halt} → Halted (parts go (ty_in s work used p)) s left' why → Halted (parts go (ty_in s work used r)) s left why
    star_halts h = halted_as (is.is go) (halted_tick left paid (halt_then (λ x. written (Ty.star x)) h))

    pub star_finds : {mid new : List ℕ} {x n left'' : ℕ} {a : Result Got Halt} → Typed (parts go (ty_in s work used p)) s left' used work mid x n left''
        → Finds (written (ty_form (type_form (record { kind = 7; p = x; q = 0; r = 0 })) (ty_in s mid n))) s left'' n mid new a → Finds (parts go (ty_in s work used r)) s left used work new a
    unfolding ty_form
    star_finds f m = finds_as (is.is go) (finds_tick left paid (finds_then (λ x. written (Ty.star x)) f m))

  module _ {k p q : ℕ} (is : Paired s work used r k p q) where
    pub pair_halts : {why : Halt} → Halted (parts go (ty_in s work used p)) s left' why → Halted (parts go (ty_in s work used r)) s left why
    pair_halts h = halted_as (is.is go) (halted_tick left paid (halt_then (λ x. parts go (ty_in s work used q) >>= λ y. written (paired k x y)) h))

    -- after the first part: the same is done at an atom, whose type is as it was
    module _ {mid : List ℕ} {x n left'' : ℕ} (g : Grows s work used) (f : Typed (parts go (ty_in s work used p)) s left' used work mid x n left'') (go' : Ty → Asking Ty) (same : go' ≡ go)
        (inside : r ≤ top s + used) where
      second : parts go' (ty_in s mid n q) ≡ parts go (ty_in s work used q)
      second = ap (λ (h : Ty → Asking Ty). parts h (ty_in s mid n q)) same ∙ ap (parts go) (type_after g f q (omega (arith, is.second)))

      pub pair_halts_2 : {why : Halt} → Halted (parts go' (ty_in s mid n q)) s left'' why → Halted (parts go (ty_in s work used r)) s left why
      pair_halts_2 h = halted_as (is.is go) (halted_tick left paid (both_halt f (λ x y. written (paired k x y)) (halted_as (sym second) h)))

      pub pair_finds : {new end : List ℕ} {y m left''' : ℕ} {a : Result Got Halt} → Typed (parts go' (ty_in s mid n q)) s left'' n mid new y m left'''
          → Finds (written (ty_form (type_form (record { kind = k; p = x; q = y; r = 0 })) (ty_in s new m))) s left''' m new end a → Finds (parts go (ty_in s work used r)) s left used work end a
      pair_finds {new} {end} {y} {m} {left'''} {a} h w =
          finds_as (is.is go) (finds_tick left paid (both_finds f (λ x y. written (paired k x y)) (subst (λ (v : Asking Ty). Typed v s left'' n mid new y m left''') second h)
          (finds_as (ap written (sym (pair_is k x y (ty_in s new m) is.kind))) w)))
