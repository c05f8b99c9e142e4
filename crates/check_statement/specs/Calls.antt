-- A call's procedure and a script's declared types, as Shape has seen them: each may be asked about; and what a call's arguments go as.
use Rattle.std.specs.Prelude.{ℕ, ◌≤◌, ◌≡◌, Bool, cond, ◌||◌, List, Result}
use Rattle.std.proofs.Common.{arith, sym, ap, ◌∙◌}
use Rattle.std.proofs.Math.Path.{refl, subst}
use Rattle.std.proofs.Math.Bool.{true, false}
use Rattle.std.proofs.Math.Dec.{eqb}
use borrow.Author.Tests.{eq-eqb, ne_eqb, leb-true}
use Rattle.meaning.specs.Tests.{in_table, some}
use Rattle.meaning.specs.Sheet.{Cells, Procedure, script_of, sheet_of, statements_of}
use Rattle.meaning.specs.Kinds.{present}
use Rattle.meaning.specs.Types.{Ty, declared}
use Rattle.meaning.specs.Places.{is_content}
use Rattle.meaning.specs.Shape.{unused, query, argument, word_ok, words_ok, statement_uses, procedure_ok, shapely}
use Rattle.meaning.specs.Run.{arguments}
use Rattle.meaning.specs.Walk.{of_statement, ret, ask, ◌>>=◌}
use Rattle.meaning.specs.Check.{Asking, nine, is_in, infer, declaration, ask_all}
use Rattle.meaning.specs.Laws.Bools.{or_left, or_right, and_left, and_right}
use Rattle.meaning.specs.Laws.Tests.{in_table_lem, table_low, table_high, some_at}
use Rattle.meaning.specs.Laws.Shaped.{cells, roots, roots_pass, procedures_pass, procedures_say, statements_pass, statements_say}
use Rattle.sheet.specs.Laid.{procedure_of}
use Rattle.sheet.specs.declared.Procedure as sheet
use Rattle.type_models.specs.Roots.{is_root}
use Rattle.walk.specs.Concern.{concern_of}
use Rattle.walk.specs.declared.Scope.{Scope}
use Rattle.walk.specs.declared.Concern.{Concern}
use Rattle.walk.specs.declared.Got.{Got}
use Rattle.type_rows.specs.Grown.{ty_in}
use Rattle.type_rows.specs.Finds.{Finds, types_of}
use Rattle.type_rows.specs.declared.Halt.{Halt}

-- ---- the walks, and what is given

abbrev pub arguments_go : List ℕ → List ℕ → ℕ → Scope → ℕ → ℕ → ℕ → List ℕ → Asking Ty
arguments_go s work n e d at c l =
    arguments (infer (script_of s) d (types_of s work n e)) l >>= λ x. ask_all (of_statement at) x (declaration (script_of s) c).parameters (ret (declaration (script_of s) c).output)

abbrev pub ArgumentsGive : List ℕ → List ℕ → List ℕ → Scope → ℕ → ℕ → ℕ → ℕ → ℕ → ℕ → ℕ → Result Got Halt → Type 0
ArgumentsGive s old new e n d at c q r left a = Finds (arguments_go s old n e d at c (present q r)) s left n old new a

abbrev pub LiesGives : List ℕ → List ℕ → ℕ → Concern → ℕ → ℕ → ℕ → ℕ → Result Got Halt → Type 0
LiesGives s work n at found wanted given left a =
    Finds (ask (is_in (ty_in s work n found) (declared (script_of s) wanted) nine (concern_of at)) (ret (ty_in s work n given))) s left n work work a

-- ---- what may be asked about

pub record Wanted (s : List ℕ) (w : ℕ) : Type 0 where
  pub row : in_table (script_of s).types w ≡ true
  pub root : is_root s w ≡ true

-- the procedure is there, and an argument is absent exactly where the parameter is
pub record Called (s : List ℕ) (c q r : ℕ) : Type 0 where
  pub there : in_table (script_of s).procedures c ≡ true
  pub first : eqb q 0 ≡ eqb ((script_of s).procedure_row c).first 0
  pub second : eqb r 0 ≡ eqb ((script_of s).procedure_row c).second 0

module _ (s : List ℕ) (e : shapely s ≡ true) where
  -- A and B
  pub a_low : (script_of s).a ≤ (script_of s).types
  unfolding sheet_of
  a_low = table_high (script_of s).types (script_of s).a (roots (sheet_of s) (roots_pass s e)).a

  pub b_wanted : Wanted s (script_of s).b
  unfolding sheet_of
  b_wanted = record {
    row = (roots (sheet_of s) (roots_pass s e)).b;
    root = or_left (is_content (script_of s) (script_of s).b) (or_left _ (or_left _ (or_right (eqb (script_of s).a (script_of s).b) (eq-eqb (script_of s).b (script_of s).b refl))));
  }

  -- a procedure's types
  module _ (c : ℕ) (t : in_table (script_of s).procedures c ≡ true) where
    abbrev one : Procedure
    one = (script_of s).procedure_row c

    abbrev signs : ℕ → ℕ → Bool
    signs w i = eqb ((script_of s).procedure_row i).first w || eqb ((script_of s).procedure_row i).second w || eqb ((script_of s).procedure_row i).input w
        || eqb ((script_of s).procedure_row i).output w

    signed : (w : ℕ) → in_table (script_of s).types w ≡ true → signs w c ≡ true → Wanted s w
    signed w r h = record {
      row = r;
      root = or_left (is_content (script_of s) w) (or_right (eqb (script_of s).a w || eqb (script_of s).b w || some (λ x. eqb ((script_of s).name_row x) w) (script_of s).names)
          (some_at (signs w) (script_of s).procedures c (table_low (script_of s).procedures c t) (table_high (script_of s).procedures c t) h));
    }

    says : procedure_ok (sheet_of s) ((script_of s).procedure_row c) ≡ true
    unfolding sheet_of
    says = procedures_say (sheet_of s) c (procedures_pass s e) t

    input_row : in_table (script_of s).types one.input ≡ true
    unfolding sheet_of
    input_row = let r = says in search (and_left, and_right) depth 9

    output_row : in_table (script_of s).types one.output ≡ true
    unfolding sheet_of
    output_row = let r = says in search (and_left, and_right) depth 9

    first_row : one.first ≤ (script_of s).types
    unfolding sheet_of
    first_row = let r = says in leb-true one.first (script_of s).types (search (and_left, and_right) depth 9)

    second_row : one.second ≤ (script_of s).types
    unfolding sheet_of
    second_row = let r = says in leb-true one.second (script_of s).types (search (and_left, and_right) depth 9)

    input_of : Wanted s one.input
    input_of = signed one.input input_row (or_left _ (or_right (eqb one.first one.input || eqb one.second one.input) (eq-eqb one.input one.input refl)))

    output_of : Wanted s one.output
    output_of = signed one.output output_row (or_right (eqb one.first one.output || eqb one.second one.output || eqb one.input one.output)
        (eq-eqb one.output one.output refl))

    first_of : (one.first ≡ 0 → ⊥) → Wanted s one.first
    first_of some = signed one.first (in_table_lem (script_of s).types one.first (omega arith) first_row) (or_left _ (or_left _ (or_left _ (eq-eqb one.first one.first refl))))

    second_of : (one.second ≡ 0 → ⊥) → Wanted s one.second
    second_of some = signed one.second (in_table_lem (script_of s).types one.second (omega arith) second_row)
        (or_left _ (or_left _ (or_right (eqb one.first one.second) (eq-eqb one.second one.second refl))))

    -- as they are read
    module _ (p : sheet.Procedure) (is : procedure_of p ≡ one) where
      pub input_wanted : Wanted s p.input
      input_wanted = subst (λ (x : Procedure). Wanted s x.input) (sym is) input_of

      pub output_wanted : Wanted s p.output
      output_wanted = subst (λ (x : Procedure). Wanted s x.output) (sym is) output_of

      pub first_wanted : (p.first ≡ 0 → ⊥) → Wanted s p.first
      first_wanted some = subst (λ (x : Procedure). (x.first ≡ 0 → ⊥) → Wanted s x.first) (sym is) first_of some

      pub second_wanted : (p.second ≡ 0 → ⊥) → Wanted s p.second
      second_wanted some = subst (λ (x : Procedure). (x.second ≡ 0 → ⊥) → Wanted s x.second) (sym is) second_of some

pub wanted_low : {s : List ℕ} {w : ℕ} → Wanted s w → w ≤ (script_of s).types
wanted_low {s} {w} h = table_high (script_of s).types w h.row

-- ---- a call's words

module _ (s : List ℕ) (e : shapely s ≡ true) where
  same_none : (i x w : ℕ) → word_ok (sheet_of s) (argument x) i w ≡ true → eqb w 0 ≡ eqb x 0
  unfolding word_ok
  same_none i x w h = go (eqb x 0) h
    where
      go : (b : Bool) → word_ok (sheet_of s) (cond b unused query) i w ≡ true → eqb w 0 ≡ b
      go true h = h
      go false h = ne_eqb w 0 (λ z. omega (arith, table_low (sheet_of s).script.queries w h))

  some_kind : (k : ℕ) → k ≡ 14 → k ≡ 0 → ⊥
  some_kind k a b = omega arith

  called_of : (i c q r : ℕ) → (script_of s).statement_row i ≡ cells 14 c q r → Called s c q r
  unfolding sheet_of script_of word_ok
  called_of i c q r is = go (in_table (statements_of s) i) refl
    where
      go : (b : Bool) → in_table (statements_of s) i ≡ b → Called s c q r
      go true h =
          let w : words_ok (sheet_of s) (statement_uses (script_of s).procedure_row (cells 14 c q r)) i (cells 14 c q r) ≡ true =
          subst (λ (x : Cells). words_ok (sheet_of s) (statement_uses (script_of s).procedure_row x) i x ≡ true) is (statements_say (sheet_of s) i (statements_pass s e) h) in
          record {
            there = search (and_left, and_right);
            first = same_none i ((script_of s).procedure_row c).first q (search (and_left, and_right));
            second =
                same_none i ((script_of s).procedure_row c).second r (search (and_left, and_right));
          }
      go false h = absurd (some_kind ((script_of s).statement_row i).kind (ap (λ (x : Cells). x.kind) is) (rw h))

  -- what a row says that is a call
  pub form_called : (at : ℕ) {c : Cells} → c ≡ (script_of s).statement_row at → {p q r : ℕ} → c ≡ record { kind = 14; p = p; q = q; r = r } → Called s p q r
  form_called at is {p} {q} {r} e = called_of at p q r (sym is ∙ e)
