-- What a type row that is read says, what one that is written is, and what a row acts as, by its kind.
use Prim.Native.Nat.{ℕ, ◌+◌, ◌-◌, ◌≤◌, ◌<◌}
use native.Mathlib.Omega.{arith}
use mathlib.Core.Path.{◌≡◌, refl, sym, ap, ◌∙◌, subst}
use mathlib.Core.Bool.{true}
use mathlib.Core.List.{List}
use Rattle.std.specs.Prelude.{Ok}
use Rattle.meaning.specs.Sheet.{Cells, script_of}
use Rattle.meaning.specs.Kinds.{TypeRow, type_form, type_at}
use Rattle.meaning.specs.Types.{Ty, Named, ty_form, ty_at, declared, names_in, atom_of}
use Rattle.meaning.specs.Types as types
use Rattle.meaning.specs.Check.{written}
use Rattle.meaning.specs.Shape.{shapely}
use Rattle.meaning.specs.Walk.{ret, gives, Settles, done}
use Rattle.meaning.specs.Laws.Apart.{Low, View, v_label, view, ty_row, ty_at_same}
use Rattle.meaning.specs.Laws.Walk.{leads_tick}
use Rattle.meaning.specs.Theorems.ReadBack.{lent_row}
use Rattle.meaning.specs.Theorems.Within.Rows.{named_low, name_content}
use Rattle.forest_rows.specs.Rows.{Pushed}
use Rattle.walk.specs.declared.Purse.{Purse}
use Rattle.type_rows.specs.Grown.{type_in, form_in, ty_in, in_sheet, in_work, Grows, row_says, row_low, ty_kept, grows_more, ty_more}
use Rattle.type_rows.specs.Finds.{top, Judges, WriteAsks, Finds, Acts, finds_of}
use Rattle.type_rows.specs.declared.Atom.TheVariants as Atom
use Rattle.sheet.specs.Forms.{type_said}
use Rattle.sheet.specs.declared.forms.Ty.{Ty as Form}

module _ (s work : List ℕ) (n r : ℕ) {types : ℕ} (types_is : types ≡ (script_of s).types) where
  pub read_sheet : {c : Cells} → r ≤ types → c ≡ (script_of s).type_row r → c ≡ type_in s work n r
  read_sheet h e = e ∙ sym (in_sheet s work n r (omega (arith, types_is)))

  pub read_work : {c : Cells} → types < r → r ≤ (script_of s).types + n → c ≡ lent_row work (r - types) → c ≡ type_in s work n r
  read_work h i e = e ∙ ap (λ (t : ℕ). lent_row work (r - t)) types_is ∙ sym (in_work s work n r (omega (arith, types_is)) i)

-- ---- a row is written

module _ {s work new : List ℕ} {used kind p q left : ℕ} (a : WriteAsks s work used kind p q left) (pushed : Pushed work new used (record { kind = kind; p = p; q = q; r = 0 })) where
  abbrev cells : Cells
  cells = record { kind = kind; p = p; q = q; r = 0 }

  more : Grows s new (used + 1)
  more = grows_more s work new used cells a.room.grows pushed a.low a.known a.small_p

  value : ty_in s new (used + 1) (top s + (used + 1)) ≡ ty_form (type_form cells) (ty_in s work used)
  value = ty_more s work new used cells a.room.grows pushed more
      ∙ ty_row (type_form cells) (top s + (used + 1)) a.low (ty_in s new (used + 1)) (ty_in s work used) (λ j h. ty_kept s work new used (used + 1) (omega arith) pushed.same a.room.grows j (omega arith))

  pub wrote : {types root last : ℕ} (rest : Purse) → rest.left + 1 ≡ left → last ≡ used + 1 → types ≡ top s → root ≡ types + last
      → Finds (written (ty_form (type_form (record { kind = kind; p = p; q = q; r = 0 })) (ty_in s work used))) s left used work new (Ok (record { root = root; left = record { used = last; purse = rest } }))
  wrote {types} {root} {last} rest pd is count at =
      let here : root ≡ top s + (used + 1) = omega arith in
      let said : ty_in s new last root ≡ ty_form (type_form cells) (ty_in s work used) = ap (λ (m : ℕ). ty_in s new m root) is ∙ ap (ty_in s new (used + 1)) here ∙ value in
      let end : Settles (Judges s) (ret (ty_form (type_form cells) (ty_in s work used))) rest.left (gives (ty_in s new last root)) rest.left =
      subst (λ (τ : Ty). Settles (Judges s) (ret (ty_form (type_form cells) (ty_in s work used))) rest.left (gives τ) rest.left) (sym said) done in
      finds_of (record {
        settles = leads_tick (Judges s) (ret (ty_form (type_form cells) (ty_in s work used))) left rest.left pd (gives (ty_in s new last root)) rest.left end;
        inside = omega arith;
        grown = omega arith;
        paid = omega arith;
        grows = rw is more;
        same = pushed.same;
      })

-- ---- an atom

-- the first word of a label row is a label
unfoldable label_of : TypeRow → ℕ
label_of (TypeRow.label l q) = l
label_of _ = 0

label_view : {c : Cells} {t : TypeRow} → View c t → label_of t ≤ c.p
unfolding label_of
label_view (v_label e) = omega arith
label_view _ = omega arith

module _ {s work : List ℕ} {n : ℕ} (g : Grows s work n) (r : ℕ) {c : Cells} (is : c ≡ type_in s work n r) where
  abbrev atom : types.Atom
  atom = atom_of (names_in (script_of s)) (ty_in s work n r)

  acts : {t : TypeRow} → t ≡ type_form c → atom_of (names_in (script_of s)) (ty_in s work n r) ≡ atom_of (names_in (script_of s)) (ty_form t (ty_in s work n))
  acts e = ap (atom_of (names_in (script_of s))) (row_says g r is e)

  pub text_acts : TypeRow.text ≡ type_form c → Acts s work n r Atom.Text
  unfolding atom_of ty_form
  text_acts e = record { by = acts e }

  pub bool_acts : TypeRow.bool ≡ type_form c → Acts s work n r Atom.Bool
  unfolding atom_of ty_form
  bool_acts e = record { by = acts e }

  pub label_acts : {l q : ℕ} → TypeRow.label l q ≡ type_form c → r ≤ top s + n → Acts s work n r (Atom.Label l q)
  unfolding atom_of ty_form Low label_of
  label_acts {l} e h =
      let z : c.p < 65536 = subst (λ (x : Cells). x.p < 65536) (sym is) (g.small r) in
      let y : l ≤ c.p = subst (λ (t : TypeRow). label_of t ≤ c.p) (sym e) (label_view (view c)) in
      record { by = record { is = acts e; label = omega arith; inside = omega (arith, h, row_low g r is e) } }

  pub other_acts : (u : Form) → type_said u ≡ type_form c → (u ≡ Form.Text → ⊥) → (u ≡ Form.Bool → ⊥) → ((l q : ℕ) → u ≡ Form.Label l q → ⊥) → ((x : ℕ) → u ≡ Form.Name x → ⊥) → Acts s work n r Atom.Other
  unfolding atom_of ty_form
  other_acts Form.Nothing e a b d f = record { by = acts e }
  other_acts Form.Empty e a b d f = record { by = acts e }
  other_acts Form.Text e a b d f = absurd (a refl)
  other_acts Form.Bool e a b d f = absurd (b refl)
  other_acts (Form.Label l q) e a b d f = absurd (d l q refl)
  other_acts (Form.Sequence p q) e a b d f = record { by = acts e }
  other_acts (Form.Choice p q) e a b d f = record { by = acts e }
  other_acts (Form.Star p) e a b d f = record { by = acts e }
  other_acts (Form.Name x) e a b d f = absurd (f x refl)

  -- a name acts as its label row
  module _ (shaped : shapely s ≡ true) (x : ℕ) (d : Cells) (at : d ≡ (script_of s).type_row ((script_of s).name_row x)) where
    content_in : d.q ≤ (script_of s).types
    content_in = subst (λ (y : Cells). y.q ≤ (script_of s).types) (sym at) (name_content s shaped x)

    -- a row of the sheet keeps its declared type
    declared_in : (q : ℕ) → q ≤ (script_of s).types → declared (script_of s) q ≡ ty_in s work n q
    declared_in q h = sym (ty_at_same (form_in s work n) (type_at (script_of s)) (script_of s).types (λ i j. g.low i) (λ i j. ap type_form (in_sheet s work n i j)) q h)

    pub name_acts : TypeRow.name x ≡ type_form c → Acts s work n r (Atom.Label d.p d.q)
    unfolding atom_of ty_form names_in
    name_acts e = record {
      by = record {
        is = acts e ∙ ap (λ (y : Cells). types.Atom.label y.p (declared (script_of s) y.q)) (sym at) ∙ ap (types.Atom.label d.p) (declared_in d.q content_in);
        label = subst (λ (y : Cells). y.p < 65536) (in_sheet s work n ((script_of s).name_row x) (named_low s shaped x) ∙ sym at) (g.small ((script_of s).name_row x));
        inside = omega (arith, content_in);
      };
    }
