-- What a body finds, a procedure and main: the types of the parameters are the declared ones, and the scope is Shape's.
use Prim.Native.Nat.{ℕ, ◌+◌, ◌≤◌, ◌<◌}
use native.Mathlib.Omega.{arith}
use mathlib.Core.Path.{◌≡◌, sym, ap, ◌∙◌, subst}
use mathlib.Core.Bool.{true}
use Rattle.std.specs.Prelude.{Result}
use mathlib.Core.List.{List, [], ◌∷◌, ◌++◌}
use borrow.Author.Tests.{eq-eqb, ne_eqb}
use Rattle.meaning.specs.Tests.{in_table}
use Rattle.meaning.specs.Sheet.{script_of}
use Rattle.meaning.specs.Sheet as meaning
use Rattle.meaning.specs.Kinds.{present}
use Rattle.meaning.specs.Types.{Ty, declared}
use Rattle.meaning.specs.Shape.{Holds, parameters_scope, statement_scoped, shapely}
use Rattle.meaning.specs.Reply.{done, Loads}
use Rattle.meaning.specs.Walk.{of_output, ret, ask}
use Rattle.meaning.specs.Check.{nine, is_in, body, body_by, types_at}
use Rattle.meaning.specs.Laws.Shaped.{few_types}
use Rattle.meaning.specs.Laws.Scoped.{main_in_scope, body_in_scope}
use Rattle.meaning.specs.Theorems.Sound.Written.{loads_shapely}
use Rattle.sheet.specs.Laid.{procedure_of}
use Rattle.sheet.specs.declared.Procedure as sheet
use Rattle.walk.specs.Scope.{Fresh, More, Scoped, scoped_fresh, scoped_with}
use Rattle.walk.specs.Fits.{shape_of, held}
use Rattle.walk.specs.declared.Scope.{Scope}
use Rattle.walk.specs.declared.Concern.TheVariants as concern
use Rattle.walk.specs.declared.Got.{Got}
use Rattle.type_rows.specs.Grown.{ty_in}
use Rattle.type_rows.specs.Finds.{top, Room, Ready, Typed, Halted, Finds, types_of, finds_as, finds_then, halt_then, types_fresh, types_with}
use Rattle.type_rows.specs.declared.Halt.{Halt}
use Rattle.run_statement.specs.Edit.{fits}
use Rattle.run_statement.proofs.Laws.{finds_none, finds_one, finds_two}
use Rattle.check_statement.specs.Typing.{Checks, goes}
use Rattle.within.specs.Short.{declared_is}
use Rattle.check_statement.specs.Calls.{LiesGives, Wanted, wanted_low, a_low, b_wanted, input_wanted, output_wanted, first_wanted, second_wanted}
use Rattle.check_statement.specs.Bodies.{procedure_walk, main_walk, BodyGives, ProcedureGives}
use Rattle.check_statement.proofs.Calling.{present_none, present_one, present_two}

-- ---- a body

module _ {s work : List ℕ} {e : Scope} {used input left : ℕ} (ready : Ready s work e used input left) (at output : ℕ) where
  pub body_halts : {why : Halt} → Halted (goes s work used e 200 at input) s left why → Halted (body (script_of s) (types_of s work used e) at (ty_in s work used input) (declared (script_of s) output)) s left why
  unfolding body_by
  body_halts h = halt_then (λ (x : Ty). ask (is_in x (declared (script_of s) output) nine of_output) (ret x)) h

  pub body_finds : {mid : List ℕ} {root n left' : ℕ} {a : Result Got Halt} → Typed (goes s work used e 200 at input) s left used work mid root n left' → LiesGives s mid n concern.Output root output root left' a → BodyGives s work mid e used at input output left a
  unfolding body_by
  body_finds f m = finds_then (λ (x : Ty). ask (is_in x (declared (script_of s) output) nine of_output) (ret x)) f m

-- ---- a procedure

module _ {s work : List ℕ} {used left : ℕ} (loads : Loads s done) (room : Room s work used left) (c : ℕ) (t : in_table (script_of s).procedures c ≡ true) (one : sheet.Procedure) (is : procedure_of one ≡ (script_of s).procedure_row c) where
  abbrev shaped : shapely s ≡ true
  shaped = loads_shapely loads

  body_is : one.body ≡ ((script_of s).procedure_row c).body
  body_is = ap (λ (p : meaning.Procedure). p.body) is

  in_scope : statement_scoped (script_of s) 200 (parameters_scope (present one.first one.second)) ((script_of s).procedure_row c).body ≡ true
  in_scope = subst (λ (p : meaning.Procedure). statement_scoped (script_of s) 200 (parameters_scope (present p.first p.second)) ((script_of s).procedure_row c).body ≡ true) (sym is) (body_in_scope s shaped 200 c t)

  checks_of : {g : Scope} → Scoped (top s + used) g → fits s 200 g one.body ≡ true → (Checks s work g used one.input left (fits s 200 g one.body)) × (Wanted s one.output)
  checks_of sc h =
      let low = wanted_low (input_wanted s shaped c t one is) in
      (record { loads = loads; ready = record { room = room; scoped = sc; focus = omega arith }; scope = h }, output_wanted s shaped c t one is)

  goes_as : (Γ : List Ty) → types_at (script_of s) (present one.first one.second) ≡ Γ → procedure_walk (script_of s) c ≡ body (script_of s) Γ one.body (ty_in s work used one.input) (declared (script_of s) one.output)
  goes_as Γ h =
      ap (λ (p : meaning.Procedure). body (script_of s) (types_at (script_of s) (present p.first p.second)) p.body (declared (script_of s) p.input) (declared (script_of s) p.output)) (sym is)
      ∙ ap (λ (Δ : List Ty). body (script_of s) Δ one.body (declared (script_of s) one.input) (declared (script_of s) one.output)) h
      ∙ ap (λ (τ : Ty). body (script_of s) Γ one.body τ (declared (script_of s) one.output)) (sym (declared_is room.grows one.input (wanted_low (input_wanted s shaped c t one is))))

  pub first_small : (one.first ≡ 0 → ⊥) → one.first < 65536
  first_small some = let low = wanted_low (first_wanted s shaped c t one is some) in omega (arith, few_types s shaped)

  pub second_small : (one.second ≡ 0 → ⊥) → one.second < 65536
  second_small some = let low = wanted_low (second_wanted s shaped c t one is some) in omega (arith, few_types s shaped)

  module _ {g : Scope} (fresh : Fresh g) where
    no_types : types_of s work used g ≡ []
    no_types = types_fresh s work used fresh

    pub none_asks : one.first ≡ 0 → (Checks s work g used one.input left (fits s 200 g one.body)) × (Wanted s one.output)
    none_asks z = checks_of (scoped_fresh (top s + used) fresh) (finds_none s 200 c one.first one.second body_is in_scope fresh z)

    pub none_gives : {new : List ℕ} {a : Result Got Halt} → one.first ≡ 0 → BodyGives s work new g used one.body one.input one.output left a → ProcedureGives s work new used c left a
    unfolding types_at
    none_gives z m = finds_as (goes_as (types_of s work used g) (ap (types_at (script_of s)) (present_none one.first one.second (eq-eqb one.first 0 z)) ∙ sym no_types)) m

    -- with a first parameter
    module _ (some : one.first ≡ 0 → ⊥) {g1 : Scope} (m1 : More g g1 1 one.first) where
      abbrev first_low : one.first ≤ (script_of s).types
      first_low = wanted_low (first_wanted s shaped c t one is some)

      one_type : types_of s work used g1 ≡ declared (script_of s) one.first ∷ []
      one_type = types_with s work used m1 ∙ ap (λ (Γ : List Ty). Γ ++ ty_in s work used one.first ∷ []) no_types ∙ ap (λ (τ : Ty). τ ∷ []) (declared_is room.grows one.first first_low)

      first_scoped : Scoped (top s + used) g1
      first_scoped = let low = first_low in scoped_with (scoped_fresh (top s + used) fresh) (omega (arith, fresh.none)) (omega arith) m1

      pub one_asks : one.second ≡ 0 → (Checks s work g1 used one.input left (fits s 200 g1 one.body)) × (Wanted s one.output)
      one_asks z = checks_of first_scoped (finds_one s 200 c one.first one.second body_is in_scope fresh m1 some z)

      pub one_gives : {new : List ℕ} {a : Result Got Halt} → one.second ≡ 0 → BodyGives s work new g1 used one.body one.input one.output left a → ProcedureGives s work new used c left a
      unfolding types_at
      one_gives z m = finds_as (goes_as (types_of s work used g1) (ap (types_at (script_of s)) (present_one one.first one.second (ne_eqb one.first 0 some) (eq-eqb one.second 0 z)) ∙ sym one_type)) m

      -- and a second
      module _ (more : one.second ≡ 0 → ⊥) {g2 : Scope} (m2 : More g1 g2 1 one.second) where
        abbrev second_low : one.second ≤ (script_of s).types
        second_low = wanted_low (second_wanted s shaped c t one is more)

        two_types : types_of s work used g2 ≡ declared (script_of s) one.first ∷ declared (script_of s) one.second ∷ []
        two_types = types_with s work used m2 ∙ ap (λ (Γ : List Ty). Γ ++ ty_in s work used one.second ∷ []) one_type
            ∙ ap (λ (τ : Ty). declared (script_of s) one.first ∷ τ ∷ []) (declared_is room.grows one.second second_low)

        pub two_asks : (Checks s work g2 used one.input left (fits s 200 g2 one.body)) × (Wanted s one.output)
        two_asks =
            let low = second_low in
            checks_of (scoped_with first_scoped (omega (arith, fresh.none, m1.count)) (omega arith) m2) (finds_two s 200 c one.first one.second body_is in_scope fresh m1 m2 some more)

        pub two_gives : {new : List ℕ} {a : Result Got Halt} → BodyGives s work new g2 used one.body one.input one.output left a → ProcedureGives s work new used c left a
        unfolding types_at
        two_gives m = finds_as (goes_as (types_of s work used g2) (ap (types_at (script_of s)) (present_two one.first one.second (ne_eqb one.first 0 some) (ne_eqb one.second 0 more)) ∙ sym two_types)) m

-- ---- every procedure, and main

module _ {s work : List ℕ} {used left : ℕ} (loads : Loads s done) (room : Room s work used left) {m a b : ℕ} (main_is : m ≡ (script_of s).main) (a_is : a ≡ (script_of s).a) (b_is : b ≡ (script_of s).b) {g : Scope}
    (fresh : Fresh g) where
  no_shape : shape_of g ≡ []
  unfolding held
  no_shape = rw fresh.none

  main_fits : fits s 200 g m ≡ true
  main_fits = ap (λ (x : List Holds). statement_scoped (script_of s) 200 x m) no_shape ∙ ap (statement_scoped (script_of s) 200 []) main_is ∙ main_in_scope s (loads_shapely loads) 200

  pub main_asks : (Checks s work g used a left (fits s 200 g m)) × (Wanted s b)
  main_asks =
      let low = a_low s (loads_shapely loads) in (
        record { loads = loads; ready = record { room = room; scoped = scoped_fresh (top s + used) fresh; focus = omega (arith, a_is) }; scope = main_fits },
        subst (Wanted s) (sym b_is) (b_wanted s (loads_shapely loads)),
      )

  pub main_gives : {new : List ℕ} {r : Result Got Halt} → BodyGives s work new g used m a b left r → Finds (main_walk (script_of s)) s left used work new r
  main_gives k =
      finds_as (sym (ap (λ (Γ : List Ty). body (script_of s) Γ m (ty_in s work used a) (declared (script_of s) b)) (types_fresh s work used fresh)
      ∙ ap (λ (τ : Ty). body (script_of s) [] m τ (declared (script_of s) b)) (ap (ty_in s work used) a_is ∙ declared_is room.grows (script_of s).a (a_low s (loads_shapely loads)))
      ∙ ap (λ (i : ℕ). body (script_of s) [] i (declared (script_of s) (script_of s).a) (declared (script_of s) b)) main_is
      ∙ ap (λ (w : ℕ). body (script_of s) [] (script_of s).main (declared (script_of s) (script_of s).a) (declared (script_of s) w)) b_is)) k
