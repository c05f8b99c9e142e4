-- What a call finds: its focus is asked about, its queries go in order, then what they gave is asked about in order; it gives the declared output.
use Prim.Native.Nat.{ℕ, ◌≤◌}
use native.Mathlib.Omega.{arith}
use mathlib.Core.Path.{◌≡◌, refl, sym, ap, ◌∙◌, subst, fun_ext}
use mathlib.Core.Bool.{Bool, true, false}
use mathlib.Core.List.{List, [], ◌∷◌}
use lib.Dec.{eqb}
use borrow.Author.Tests.{eq-eqb, ne_eqb}
use Rattle.std.specs.Prelude.{Result, Ok}
use Rattle.meaning.specs.Sheet.{script_of}
use Rattle.meaning.specs.Sheet as meaning
use Rattle.meaning.specs.Kinds.{Statement, present}
use Rattle.meaning.specs.Types.{Ty, declared}
use Rattle.meaning.specs.Run.{arguments}
use Rattle.meaning.specs.Walk.{of_statement, ret, ask, pass, ◌>>=◌}
use Rattle.meaning.specs.Laws.Bools.{not_both}
use Rattle.meaning.specs.Laws.Walk.{then_assoc}
use Rattle.meaning.specs.Check.{Asking, Question, nine, is_in, infer, statement_type, declaration, types_at, ask_all}
use Rattle.sheet.specs.Laid.{procedure_of}
use Rattle.sheet.specs.declared.Procedure as sheet
use Rattle.walk.specs.declared.Scope.{Scope}
use Rattle.walk.specs.declared.Purse.{Purse}
use Rattle.walk.specs.declared.Concern.TheVariants as concern
use Rattle.walk.specs.declared.Got.{Got}
use Rattle.type_rows.specs.Grown.{ty_in}
use Rattle.type_rows.specs.Finds.{Judges, Ready, Typed, Halted, Finds, types_of, finds_as, finds_of, finds_halt, finds_then, halt_then, typed_ret}
use Rattle.type_rows.specs.declared.Halt.{Halt}
use Rattle.type_rows.specs.Both.{halted_as, both_halt, both_finds}
use Rattle.check_query.specs.Infer.{asked, asked_after}
use Rattle.check_query.specs.Questions.{ask_finds}
use Rattle.check_statement.specs.Typing.{row_goes}
use Rattle.within.specs.Short.{declared_is}
use Rattle.check_statement.specs.Calls.{arguments_go, Called, LiesGives}

-- ---- two words that may be absent

pub present_none : (q r : ℕ) → eqb q 0 ≡ true → present q r ≡ []
present_none q r e = rw e

pub present_one : (q r : ℕ) → eqb q 0 ≡ false → eqb r 0 ≡ true → present q r ≡ q ∷ []
present_one q r e f = rw (e, f)

pub present_two : (q r : ℕ) → eqb q 0 ≡ false → eqb r 0 ≡ false → present q r ≡ q ∷ r ∷ []
present_two q r e f = rw (e, f)

present_first : (q r : ℕ) → eqb q 0 ≡ false → (l : List ℕ) × (present q r ≡ q ∷ l)
present_first q r e = go (eqb r 0) refl
  where
    go : (b : Bool) → eqb r 0 ≡ b → (l : List ℕ) × (present q r ≡ q ∷ l)
    go true h = ([], present_one q r e h)
    go false h = (r ∷ [], present_two q r e h)

-- two arguments, one after the other
two_args : (w : Asking Ty) (x : Ty) (k : List Ty → Asking Ty) → (((w >>= λ z. ret (z ∷ [])) >>= λ y. ret (x ∷ y)) >>= k) ≡ (w >>= λ z. k (x ∷ z ∷ []))
unfolding ◌>>=◌
two_args w x k = ap (λ (v : _). v >>= k) (then_assoc w (λ z. ret (z ∷ [])) (λ y. ret (x ∷ y))) ∙ then_assoc w (λ z. ret (x ∷ z ∷ [])) k

module _ (s : List ℕ) (d at c q r : ℕ) {work : List ℕ} {e : Scope} {used left : ℕ} (ready : Ready s work e used 0 left) (one : sheet.Procedure) (is : procedure_of one ≡ (script_of s).procedure_row c) (called : Called s c q r) where
  abbrev asks : ℕ → Asking Ty
  asks p = infer (script_of s) d (types_of s work used e) p

  -- the questions about a list of types, of the parameters in another list
  abbrev asks_of : List ℕ → List Ty → Asking Ty
  asks_of l x = ask_all (of_statement at) x (types_at (script_of s) l) (ret (declaration (script_of s) c).output)

  abbrev parameters : List ℕ
  parameters = present ((script_of s).procedure_row c).first ((script_of s).procedure_row c).second

  abbrev given : Asking Ty
  given = ret (declared (script_of s) one.output)

  abbrev first_asked : Ty → Asking Ty → Asking Ty
  first_asked x w = ask (is_in x (declared (script_of s) one.first) nine (of_statement at)) w

  abbrev second_asked : Ty → Asking Ty → Asking Ty
  second_asked y w = ask (is_in y (declared (script_of s) one.second) nine (of_statement at)) w

  abbrev whole : Asking Ty
  whole = arguments_go s work used e d at c (present q r)

  -- an argument that is there has its parameter
  pub first_there : (q ≡ 0 → ⊥) → one.first ≡ 0 → ⊥
  first_there some z = not_both (called.first ∙ eq-eqb ((script_of s).procedure_row c).first 0 (ap (λ (p : meaning.Procedure). p.first) (sym is) ∙ z)) (ne_eqb q 0 some)

  pub second_there : (r ≡ 0 → ⊥) → one.second ≡ 0 → ⊥
  second_there some z = not_both (called.second ∙ eq-eqb ((script_of s).procedure_row c).second 0 (ap (λ (p : meaning.Procedure). p.second) (sym is) ∙ z)) (ne_eqb r 0 some)

  goes_none : q ≡ 0 → whole ≡ given
  unfolding arguments ask_all types_at ◌>>=◌
  goes_none z =
      let no = eq-eqb q 0 z in
      ap (λ (l : List ℕ). arguments asks l >>= asks_of parameters) (present_none q r no)
      ∙ ap (λ (l : List ℕ). asks_of l []) (present_none ((script_of s).procedure_row c).first ((script_of s).procedure_row c).second (sym called.first ∙ no))
      ∙ ap (λ (p : meaning.Procedure). ret (declared (script_of s) p.output)) (sym is)

  pub none_finds : (p : Purse) → q ≡ 0 → one.output ≤ (script_of s).types → Finds whole s p.left used work work (Ok (record { root = one.output; left = record { used = used; purse = p } }))
  none_finds p z low = finds_as (goes_none z ∙ ap (λ (τ : Ty). ret τ) (sym (declared_is ready.room.grows one.output low))) (finds_of (typed_ret p.left ready.room.grows (omega arith)))

  -- the first argument, then the rest
  module _ (some : q ≡ 0 → ⊥) where
    goes_first : (l : List ℕ) → present q r ≡ q ∷ l → whole ≡ (asks q >>= λ x. (arguments asks l >>= λ y. ret (x ∷ y)) >>= asks_of parameters)
    unfolding arguments
    goes_first l h = ap (λ (m : List ℕ). arguments asks m >>= asks_of parameters) h ∙ then_assoc (asks q) (λ x. arguments asks l >>= λ y. ret (x ∷ y)) (asks_of parameters)

    pub first_halts : {why : Halt} → Halted (asked s work used e d q) s left why → Halted whole s left why
    first_halts h =
        let l = present_first q r (ne_eqb q 0 some) in
        halted_as (goes_first l.0 l.1) (halt_then (λ (x : Ty). (arguments asks l.0 >>= λ y. ret (x ∷ y)) >>= asks_of parameters) h)

    goes_one : r ≡ 0 → whole ≡ (asks q >>= λ x. first_asked x given)
    unfolding arguments ask_all types_at ◌>>=◌
    goes_one z =
        let here = ne_eqb q 0 some in
        let no = eq-eqb r 0 z in
        goes_first [] (present_one q r here no)
        ∙ ap (λ (l : List ℕ). asks q >>= λ x. asks_of l (x ∷ [])) (present_one ((script_of s).procedure_row c).first ((script_of s).procedure_row c).second (sym called.first ∙ here) (sym called.second ∙ no))
        ∙ ap (λ (p : meaning.Procedure). asks q >>= λ x. ask (is_in x (declared (script_of s) p.first) nine (of_statement at)) (ret (declared (script_of s) p.output))) (sym is)

    goes_two : (r ≡ 0 → ⊥) → whole ≡ (asks q >>= λ x. asks r >>= λ y. first_asked x (second_asked y given))
    unfolding arguments ask_all types_at ◌>>=◌
    goes_two more =
        let here = ne_eqb q 0 some in
        let both = ne_eqb r 0 more in
        goes_first (r ∷ []) (present_two q r here both)
        ∙ ap (λ (k : Ty → Asking Ty). asks q >>= k) (fun_ext (λ x. two_args (asks r) x (asks_of parameters)))
        ∙ ap (λ (l : List ℕ). asks q >>= λ x. asks r >>= λ y. asks_of l (x ∷ y ∷ [])) (present_two ((script_of s).procedure_row c).first ((script_of s).procedure_row c).second (sym called.first ∙ here) (sym called.second ∙ both))
        ∙ ap (λ (p : meaning.Procedure). asks q >>= λ x. asks r >>= λ y. ask (is_in x (declared (script_of s) p.first) nine (of_statement at)) (ask (is_in y (declared (script_of s) p.second) nine (of_statement at)) (ret (declared (script_of s) p.output)))) (sym is)

    module _ {mid : List ℕ} {x n left' : ℕ} (f : Typed (asked s work used e d q) s left used work mid x n left') where
      pub one_finds : {a : Result Got Halt} → r ≡ 0 → one.output ≤ (script_of s).types → LiesGives s mid n (concern.Statement at) x one.first one.output left' a → Finds whole s left used work mid a
      one_finds z low m =
          finds_as (goes_one z) (finds_then (λ (x : Ty). first_asked x given) f
          (finds_as (ap (λ (τ : Ty). first_asked (ty_in s mid n x) (ret τ)) (sym (declared_is f.grows one.output low))) m))

      module _ (more : r ≡ 0 → ⊥) where
        pub second_halts : {why : Halt} → Halted (asked s mid n e d r) s left' why → Halted whole s left why
        second_halts h = halted_as (goes_two more) (both_halt f (λ x y. first_asked x (second_asked y given)) (halted_as (sym (asked_after ready f d r)) h))

        module _ {new : List ℕ} {y m left'' : ℕ} (g : Typed (asked s mid n e d r) s left' n mid new y m left'') where
          then_both : {a : Result Got Halt} → Finds (first_asked (ty_in s new m x) (second_asked (ty_in s new m y) given)) s left'' m new new a → Finds whole s left used work new a
          then_both b =
              finds_as (goes_two more) (both_finds f (λ x y. first_asked x (second_asked y given))
              (subst (λ (w : Asking Ty). Typed w s left' n mid new y m left'') (asked_after ready f d r) g) b)

          abbrev first_question : Question
          first_question = is_in (ty_in s new m x) (declared (script_of s) one.first) nine (of_statement at)

          pub two_halts : {why : Halt} → ((w : Asking Ty) → Halted (ask first_question w) s left'' why) → Halted whole s left why
          two_halts h = (then_both (finds_halt (h (second_asked (ty_in s new m y) given)))).by

          pub two_finds : {a : Result Got Halt} → Judges s first_question pass → one.output ≤ (script_of s).types → LiesGives s new m (concern.Statement at) y one.second one.output left'' a → Finds whole s left used work new a
          two_finds j low b = then_both (ask_finds j (finds_as (ap (λ (τ : Ty). second_asked (ty_in s new m y) (ret τ)) (sym (declared_is g.grows one.output low))) b))

-- ---- the focus first

module _ (s : List ℕ) (d at c : ℕ) (l : List ℕ) {work : List ℕ} {e : Scope} {used focus left : ℕ} (ready : Ready s work e used focus left) (one : sheet.Procedure) (is : procedure_of one ≡ (script_of s).procedure_row c) where
  abbrev after : Asking Ty
  after = arguments_go s work used e d at c l

  abbrev put : Question
  put = is_in (ty_in s work used focus) (declared (script_of s) one.input) nine (of_statement at)

  call_is : row_goes s work used e d at (Statement.call c l) focus ≡ ask put after
  unfolding statement_type
  call_is = ap (λ (p : meaning.Procedure). ask (is_in (ty_in s work used focus) (declared (script_of s) p.input) nine (of_statement at)) after) (sym is)

  pub call_halts : {why : Halt} → ((w : Asking Ty) → Halted (ask put w) s left why) → Halted (row_goes s work used e d at (Statement.call c l) focus) s left why
  call_halts h = halted_as call_is (h after)

  pub call_finds : {new : List ℕ} {a : Result Got Halt} → Judges s put pass → Finds after s left used work new a → Finds (row_goes s work used e d at (Statement.call c l) focus) s left used work new a
  call_finds j m = finds_as call_is (ask_finds j m)
