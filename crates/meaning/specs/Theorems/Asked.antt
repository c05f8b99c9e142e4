-- Every question that a check asks, on tables that pass 2 to 4, is about a type over the names of the sheet, and wants a declared type, or (), text or bool:
-- inclusions that are decided (Within/Decided). By the closure scheme `Safe` of walks.
use Prim.Native.Nat.{ℕ, zero, suc, ◌≤◌}
use Rattle.std.specs.Prelude.{◌≡◌, Bool, ◌&&◌, ◌||◌, not, get_or}
use Rattle.std.proofs.Math.Path.{refl}
use Rattle.std.proofs.Math.Bool.{true, false}
use mathlib.Core.List.{List, [], ◌∷◌, ◌++◌}
use Rattle.std.proofs.Common.{inl, inr, arith, leb-true, eq-eqb}
use Rattle.std.proofs.Math.Decide.{dec_lt}
use Rattle.std.proofs.lemmas.Bool.{eqb-false}
use Rattle.std.proofs.Math.Dec.{leb, eqb}
use Rattle.meaning.specs.Limits.{most_depth, most_width}
use Rattle.meaning.specs.Tests.{some, in_table}
use Rattle.meaning.specs.Sheet.{Script, Procedure, script_of, sheet_of}
use Rattle.meaning.specs.Kinds.{Query, Test, Statement, query_at, statement_at}
use Rattle.meaning.specs.Types.{Ty, Atom, atom_of, size, declared, names_in}
use Rattle.meaning.specs.Walk.{Stop, Place, of_query, of_statement, Judgement, pass, stop, Walk, ret, halt, tick, ask, ◌>>=◌, Verdict, Settles, halted, short, paid, passed}
use Rattle.meaning.specs.Walk as walk
use Rattle.meaning.specs.Run.{Fate, misfit, matched, arguments}
use Rattle.meaning.specs.Run as run
use Rattle.meaning.specs.Check.{Question, Judged, too_wide, holds, fails, Asking, Types, parts}
use Rattle.meaning.specs.Check.{tests, picked, inside_type, rename_type, children_type, test_type, ask_all, query_type}
use Rattle.meaning.specs.Check.{statement_type, types_at, declaration, infer, typing, body, bodies, check_walk}
use Rattle.meaning.specs.Check.{infer_by, typing_by, body_by, bodies_by, check_by}
use Rattle.meaning.specs.Places.{is_content}
use Rattle.meaning.specs.Shape.{procedure_ok, shapely}
use Rattle.meaning.specs.Reply.{done, Loads, sound}
use Rattle.meaning.specs.Laws.Bools.{or_left, or_right, and_left, and_right}
use Rattle.meaning.specs.Laws.Tests.{some_at, in_table_lem, table_low, table_high}
use Rattle.meaning.specs.Laws.Shaped.{roots, roots_pass, procedures_say, procedures_pass}
use Rattle.meaning.specs.Laws.Barren.{Over, Name, declared_over, contents_over}
use Rattle.meaning.specs.Laws.Walk.{Safe, safe_then}
use Rattle.meaning.specs.Theorems.Sound.Written.{calls_named}
use Rattle.meaning.specs.Theorems.Within.Rows.{Wanted}
use Rattle.meaning.specs.Theorems.Within.Whole.{Plain, plain_empty, plain_text, plain_bool}
use Rattle.meaning.specs.Theorems.Within.Decided.{Decided, row_decided, plain_decided}

-- ---- a walk whose questions are judged settles

pub settles_by : {Q A : Type 0} (J : Q → Judgement → Type 0) (F : Stop → Type 0) (Met : Q → Type 0) (P : A → Type 0) → ((q : Q) → Met q → (j : Judgement) × J q j)
    → (w : Walk Q A) → Safe J F Met P w → (n : ℕ) → (v : Verdict A) × (m : ℕ) × Settles J w n v m
unfolding Safe
settles_by J F Met P judge (ret x) h n = (_, _, walk.done)
settles_by J F Met P judge (halt x) h n = (_, _, halted)
settles_by J F Met P judge (tick w) h zero = (_, _, short)
settles_by J F Met P judge (tick w) h (suc n) = let t = settles_by J F Met P judge w h n in (t.0, t.1, paid t.2)
settles_by J F Met P judge (ask q w) h n = go (judge q h.0) (settles_by J F Met P judge w h.1 n)
  where
    go : (j : Judgement) × J q j → (v : Verdict _) × (m : ℕ) × Settles J w n v m → (v : Verdict _) × (m : ℕ) × Settles J (ask q w) n v m
    go (pass, k) t = (t.0, t.1, passed k t.2)
    go (stop h, k) t = (_, _, walk.refused k)

module _ (s : List ℕ) (shape : shapely s ≡ true) where
  abbrev S : Script
  S = script_of s

  -- a type over the names of the sheet
  abbrev Known : Ty → Type 0
  Known τ = Over (Name S.names) τ

  unfoldable KnownAll : List Ty → Type 0
  KnownAll [] = Unit {0}
  KnownAll (τ ∷ Γ) = Known τ × KnownAll Γ

  -- a wanted type: a declared type, or (), text or bool
  pub data Askable : Ty → Type 0 where
    of_row : (w : ℕ) → Wanted S w → Askable (declared S w)
    of_plain : {τ : Ty} → Plain τ → Askable τ

  unfoldable AskableAll : List Ty → Type 0
  AskableAll [] = Unit {0}
  AskableAll (τ ∷ l) = Askable τ × AskableAll l

  pub record Fine (q : Question) : Type 0 where
    pub known : Known q.found
    pub askable : Askable q.wanted

  abbrev Any : Stop → Type 0
  Any h = Unit {0}

  abbrev Tidy : {A : Type 0} → (A → Type 0) → Asking A → Type 0
  Tidy P w = Safe (Judged (names_in S)) Any Fine P w

  tidy_then : {A B : Type 0} (P : A → Type 0) (R : B → Type 0) (w : Asking A) (k : A → Asking B) → Tidy P w → ((x : A) → P x → Tidy R (k x)) → Tidy R (w >>= k)
  tidy_then = safe_then (Judged (names_in S)) Any Fine

  known_at : (Γ : Types) → KnownAll Γ → (v : ℕ) → Known (get_or Γ v Ty.empty)
  unfolding KnownAll Over
  known_at [] h v = tt
  known_at (τ ∷ Γ) h zero = h.0
  known_at (τ ∷ Γ) h (suc v) = known_at Γ h.1 v

  known_also : (Γ : Types) (τ : Ty) → KnownAll Γ → Known τ → KnownAll (Γ ++ τ ∷ [])
  unfolding KnownAll
  known_also [] τ h k = (k, tt)
  known_also (σ ∷ Γ) τ h k = (h.0, known_also Γ τ h.1 k)

  -- an atom's content
  abbrev KnownAtom : Atom → Type 0
  KnownAtom Atom.no_atom = Unit {0}
  KnownAtom Atom.text = Unit {0}
  KnownAtom Atom.bool = Unit {0}
  KnownAtom (Atom.label n τ) = Known τ

  known_atom : (τ : Ty) → Known τ → KnownAtom (atom_of (names_in S) τ)
  unfolding atom_of Over
  known_atom Ty.empty h = tt
  known_atom Ty.text h = tt
  known_atom Ty.bool h = tt
  known_atom (Ty.label n τ) h = h
  known_atom (Ty.seq τ σ) h = tt
  known_atom (Ty.choice τ σ) h = tt
  known_atom (Ty.star τ) h = tt
  known_atom (Ty.name x) h = contents_over s shape x h

  tidy_parts : (go : Ty → Asking Ty) → ((α : Ty) → Known α → Tidy Known (go α)) → (τ : Ty) → Known τ → Tidy Known (parts go τ)
  unfolding parts Safe Over
  tidy_parts go h Ty.empty k = tt
  tidy_parts go h Ty.text k = h Ty.text k
  tidy_parts go h Ty.bool k = h Ty.bool k
  tidy_parts go h (Ty.label n τ) k = h (Ty.label n τ) k
  tidy_parts go h (Ty.seq τ σ) k = tidy_then Known Known (parts go τ) _ (tidy_parts go h τ k.0) λ x a. tidy_then Known Known (parts go σ) _ (tidy_parts go h σ k.1) λ y b. (a, b)
  tidy_parts go h (Ty.choice τ σ) k = tidy_then Known Known (parts go τ) _ (tidy_parts go h τ k.0) λ x a. tidy_then Known Known (parts go σ) _ (tidy_parts go h σ k.1) λ y b. (a, b)
  tidy_parts go h (Ty.star τ) k = tidy_then Known Known (parts go τ) _ (tidy_parts go h τ k) λ x a. a
  tidy_parts go h (Ty.name x) k = h (Ty.name x) k

  tidy_picked : (k : Fate) (α : Ty) → Known α → Tidy Known (picked k α)
  unfolding picked Safe Over
  tidy_picked misfit α h = h
  tidy_picked matched α h = h
  tidy_picked run.Fate.passed α h = tt

  tidy_inside : (at : Place) (k : Atom) → KnownAtom k → Tidy Known (inside_type at k)
  unfolding inside_type Safe Over
  tidy_inside at Atom.no_atom h = tt
  tidy_inside at Atom.text h = tt
  tidy_inside at Atom.bool h = tt
  tidy_inside at (Atom.label n τ) h = h

  tidy_rename : (at : Place) (l : ℕ) (k : Atom) → KnownAtom k → Tidy Known (rename_type at l k)
  unfolding rename_type Safe Over
  tidy_rename at l Atom.no_atom h = tt
  tidy_rename at l Atom.text h = tt
  tidy_rename at l Atom.bool h = tt
  tidy_rename at l (Atom.label n τ) h = h

  tidy_children : (at : Place) (k : Atom) (go : Ty → Asking Ty) → ((τ : Ty) → Known τ → Tidy Known (go τ)) → KnownAtom k → Tidy Known (children_type at k go)
  unfolding children_type Safe Over
  tidy_children at Atom.no_atom go h k = tt
  tidy_children at Atom.text go h k = tt
  tidy_children at Atom.bool go h k = tt
  tidy_children at (Atom.label n τ) go h k = tidy_then Known Known (go τ) _ (h τ k) λ x a. a

  tidy_test : (at : Place) (k : Fate) (τ : Ty) (go : Ty → Asking Ty) → Known τ → ((σ : Ty) → Known σ → Tidy Known (go σ)) → Tidy Known (test_type at k τ go)
  unfolding test_type Safe
  tidy_test at misfit τ go k h = tt
  tidy_test at matched τ go k h = h τ k
  tidy_test at run.Fate.passed τ go k h = k

  tidy_lie : (at : Place) (l m : List Ty) (σ : Ty) → KnownAll l → AskableAll m → Known σ → Tidy Known (ask_all at l m (ret σ))
  unfolding ask_all Safe KnownAll AskableAll
  tidy_lie at [] [] σ h k o = o
  tidy_lie at [] (τ ∷ m) σ h k o = tt
  tidy_lie at (ρ ∷ l) [] σ h k o = tt
  tidy_lie at (ρ ∷ l) (τ ∷ m) σ h k o = (record { known = h.0; askable = k.0 }, tidy_lie at l m σ h.1 k.1 o)

  module _ (asks : Types → ℕ → Asking Ty) (ah : (Γ : Types) (i : ℕ) → KnownAll Γ → Tidy Known (asks Γ i)) (Γ : Types) (env : KnownAll Γ) (i : ℕ) where
    tidy_query : (c : Query) → Tidy Known (query_type (names_in S) c i asks Γ)
    unfolding query_type Safe Over
    tidy_query Query.none = tt
    tidy_query Query.empty = tt
    tidy_query (Query.join p q) = tidy_then Known Known (asks Γ p) _ (ah Γ p env) λ x a. tidy_then Known Known (asks Γ q) _ (ah Γ q env) λ y b. (a, b)
    tidy_query (Query.tree n q) = tidy_then Known Known (asks Γ q) _ (ah Γ q env) λ x a. a
    tidy_query (Query.text p q) = tt
    tidy_query (Query.bool b) = tt
    tidy_query (Query.variable v) = known_at Γ env v
    tidy_query (Query.letin p q) = tidy_then Known Known (asks Γ p) _ (ah Γ p env) λ x a. ah (Γ ++ x ∷ []) q (known_also Γ x env a)
    tidy_query (Query.if p q r) = tidy_then Known Known (asks Γ p) _ (ah Γ p env) λ c a. (
      record { known = a; askable = of_plain plain_bool },
      tidy_then Known Known (asks Γ q) _ (ah Γ q env) λ x b. tidy_then Known Known (asks Γ r) _ (ah Γ r env) λ y d. (b, d),
    )
    tidy_query (Query.same p q) = tidy_then Known Known (asks Γ p) _ (ah Γ p env) λ x a. tidy_then Known Known (asks Γ q) _ (ah Γ q env) λ y b.
        (record { known = a; askable = of_plain plain_text }, (record { known = b; askable = of_plain plain_text }, tt))
    tidy_query (Query.children v) = tidy_inside (of_query i) (atom_of (names_in S) (get_or Γ v Ty.empty)) (known_atom (get_or Γ v Ty.empty) (known_at Γ env v))
    tidy_query (Query.pick p l) = tidy_then Known Known (asks Γ p) _ (ah Γ p env) λ x a. tidy_parts _ (λ α k. tidy_picked (tests (Test.label l) (atom_of (names_in S) α)) α k) x a
    tidy_query (Query.for p q) = tidy_then Known Known (asks Γ p) _ (ah Γ p env) λ x a. tidy_parts _ (λ α k. ah (Γ ++ α ∷ []) q (known_also Γ α env k)) x a

    tidy_arguments : (l : List ℕ) → Tidy KnownAll (arguments (asks Γ) l)
    unfolding arguments Safe KnownAll
    tidy_arguments [] = tt
    tidy_arguments (q ∷ l) = tidy_then Known KnownAll (asks Γ q) _ (ah Γ q env) λ x a. tidy_then KnownAll KnownAll (arguments (asks Γ) l) _ (tidy_arguments l) λ y b. (a, b)

  -- ---- the declared rows of a procedure that there is

  module _ (c : ℕ) (there : in_table S.procedures c ≡ true) where
    abbrev row : Procedure
    row = S.procedure_row c

    -- Shape's six tests of it
    pass_all : procedure_ok (sheet_of s) row ≡ true
    unfolding sheet_of
    pass_all = procedures_say (sheet_of s) c (procedures_pass s shape) there

    -- a row that it names is declared
    names_row : (r : ℕ) → (eqb row.first r || eqb row.second r || eqb row.input r || eqb row.output r ≡ true) → in_table S.types r ≡ true → Wanted S r
    names_row r h t = (
      t,
      or_left (is_content S r) (or_right (eqb S.a r || eqb S.b r || some (λ x. eqb (S.name_row x) r) S.names)
          (some_at (λ c. eqb (S.procedure_row c).first r || eqb (S.procedure_row c).second r || eqb (S.procedure_row c).input r || eqb (S.procedure_row c).output r) S.procedures c
          (table_low S.procedures c there) (table_high S.procedures c there) h)),
    )

    abbrev types_end : Bool
    types_end = leb row.first S.types && leb row.second S.types && (not (eqb row.first 0) || eqb row.second 0) && in_table S.types row.input

    input_row : Wanted S row.input
    unfolding sheet_of
    input_row = names_row row.input (or_left (eqb row.output row.input) (or_right (eqb row.first row.input || eqb row.second row.input) (eq-eqb row.input row.input refl)))
        (and_right (leb row.first S.types && leb row.second S.types && (not (eqb row.first 0) || eqb row.second 0)) (in_table S.types row.input)
        (and_left types_end (in_table S.types row.output) (and_left (types_end && in_table S.types row.output) (in_table S.statements row.body) pass_all)))

    output_row : Wanted S row.output
    unfolding sheet_of
    output_row = names_row row.output (or_right (eqb row.first row.output || eqb row.second row.output || eqb row.input row.output) (eq-eqb row.output row.output refl))
        (and_right types_end (in_table S.types row.output) (and_left (types_end && in_table S.types row.output) (in_table S.statements row.body) pass_all))

    abbrev two : Bool
    two = leb row.first S.types && leb row.second S.types

    limits : two ≡ true
    unfolding sheet_of
    limits = and_left two (not (eqb row.first 0) || eqb row.second 0) (and_left (two && (not (eqb row.first 0) || eqb row.second 0)) (in_table S.types row.input)
        (and_left types_end (in_table S.types row.output) (and_left (types_end && in_table S.types row.output) (in_table S.statements row.body) pass_all)))

    first_row : eqb row.first 0 ≡ false → Wanted S row.first
    first_row e = names_row row.first
        (or_left (eqb row.output row.first) (or_left (eqb row.input row.first) (or_left (eqb row.second row.first) (eq-eqb row.first row.first refl))))
        (in_table_lem S.types row.first (let z = eqb-false row.first 0 e in omega arith)
        (leb-true row.first S.types (and_left (leb row.first S.types) (leb row.second S.types) limits)))

    second_row : eqb row.second 0 ≡ false → Wanted S row.second
    second_row e = names_row row.second
        (or_left (eqb row.output row.second) (or_left (eqb row.input row.second) (or_right (eqb row.first row.second) (eq-eqb row.second row.second refl))))
        (in_table_lem S.types row.second (let z = eqb-false row.second 0 e in omega arith)
        (leb-true row.second S.types (and_right (leb row.first S.types) (leb row.second S.types) limits)))

    parameters_askable : AskableAll (declaration S c).parameters
    unfolding AskableAll types_at
    parameters_askable = go (eqb row.first 0) refl (eqb row.second 0) refl
      where
        go : (a : Bool) → eqb row.first 0 ≡ a → (b : Bool) → eqb row.second 0 ≡ b → AskableAll (declaration S c).parameters
        go true e b f = rw e tt
        go false e true f = rw (e, f) (of_row row.first (first_row e), tt)
        go false e false f = rw (e, f) (of_row row.first (first_row e), (of_row row.second (second_row f), tt))

  known_types : (l : List ℕ) → KnownAll (types_at S l)
  unfolding KnownAll types_at
  known_types [] = tt
  known_types (r ∷ l) = (declared_over s shape r, known_types l)

  -- ---- statements, bodies and the whole

  module _ (asks : Types → ℕ → Asking Ty) (ah : (Γ : Types) (i : ℕ) → KnownAll Γ → Tidy Known (asks Γ i))
      (go : Types → ℕ → Ty → Asking Ty) (h : (Γ : Types) (p : ℕ) (τ : Ty) → KnownAll Γ → Known τ → Tidy Known (go Γ p τ)) (Γ : Types) (env : KnownAll Γ) (i : ℕ) (τ : Ty) (k : Known τ) where
    tidy_statement : (c : Statement) → statement_at S i ≡ c → Tidy Known (statement_type (names_in S) (declaration S) c i go asks Γ τ)
    unfolding statement_type Safe Over
    tidy_statement Statement.none e = tt
    tidy_statement Statement.skip e = k
    tidy_statement (Statement.then p q) e = tidy_then Known Known (go Γ p τ) _ (h Γ p τ env k) λ x a. h Γ q x env a
    tidy_statement (Statement.if p q r) e = tidy_then Known Known (asks Γ p) _ (ah Γ p env) λ c a. (
      record { known = a; askable = of_plain plain_bool },
      tidy_then Known Known (go Γ q τ) _ (h Γ q τ env k) λ x b. tidy_then Known Known (go Γ r τ) _ (h Γ r τ env k) λ y d. (b, d),
    )
    tidy_statement (Statement.insert p) e = (record { known = k; askable = of_plain plain_empty }, ah Γ p env)
    tidy_statement Statement.delete e = tt
    tidy_statement (Statement.rename l) e = tidy_rename (of_statement i) l (atom_of (names_in S) τ) (known_atom τ k)
    tidy_statement (Statement.letin p q) e = tidy_then Known Known (asks Γ p) _ (ah Γ p env) λ x a. h (Γ ++ x ∷ []) q τ (known_also Γ x env a) k
    tidy_statement (Statement.snapshot p) e = h (Γ ++ τ ∷ []) p τ (known_also Γ τ env k) k
    tidy_statement (Statement.test t r) e = tidy_test (of_statement i) (tests t (atom_of (names_in S) τ)) τ (go Γ r) k (λ σ j. h Γ r σ env j)
    tidy_statement (Statement.children p) e = tidy_children (of_statement i) (atom_of (names_in S) τ) (go Γ p) (λ σ j. h Γ p σ env j) (known_atom τ k)
    tidy_statement (Statement.left p) e = tidy_then Known Known (go Γ p Ty.empty) _ (h Γ p Ty.empty env tt) λ x a. (a, k)
    tidy_statement (Statement.right p) e = tidy_then Known Known (go Γ p Ty.empty) _ (h Γ p Ty.empty env tt) λ x a. (k, a)
    tidy_statement (Statement.iter p) e = tidy_parts (go Γ p) (λ σ j. h Γ p σ env j) τ k
    tidy_statement (Statement.call c l) e = let t = calls_named s shape i c l e in (
      record { known = k; askable = of_row (S.procedure_row c).input (input_row c t) },
      tidy_then KnownAll Known (arguments (asks Γ) l) _ (tidy_arguments asks ah Γ env i l) λ x a.
          tidy_lie (of_statement i) x (declaration S c).parameters (declaration S c).output a (parameters_askable c t) (declared_over s shape (S.procedure_row c).output),
    )

  tidy_infer : (d : ℕ) (Γ : Types) (i : ℕ) → KnownAll Γ → Tidy Known (infer S d Γ i)
  unfolding infer_by query_type Safe
  tidy_infer zero Γ i env = tt
  tidy_infer (suc d) Γ i env = tidy_query (infer S d) (tidy_infer d) Γ env i (query_at S i)

  tidy_typing : (d : ℕ) (Γ : Types) (i : ℕ) (τ : Ty) → KnownAll Γ → Known τ → Tidy Known (typing S d Γ i τ)
  unfolding typing_by Safe
  tidy_typing zero Γ i τ env k = tt
  tidy_typing (suc d) Γ i τ env k = tidy_statement (infer S d) (tidy_infer d) (typing S d) (tidy_typing d) Γ env i τ k (statement_at S i) refl

  tidy_body : (Γ : Types) (i r w : ℕ) → KnownAll Γ → Wanted S w → Tidy Known (body S Γ i (declared S r) (declared S w))
  unfolding body_by Safe
  tidy_body Γ i r w env h = tidy_then Known Known (typing S most_depth Γ i (declared S r)) _ (tidy_typing most_depth Γ i (declared S r) env (declared_over s shape r)) λ x a.
      (record { known = a; askable = of_row w h }, a)

  tidy_bodies : (n : ℕ) → n ≤ S.procedures → (w : Asking Ty) → Tidy Known w → Tidy Known (bodies S n w)
  unfolding bodies_by
  tidy_bodies zero l w h = h
  tidy_bodies (suc n) l w h = tidy_bodies n (omega arith) _
      (tidy_then Known Known (body S (declaration S (suc n)).parameters (S.procedure_row (suc n)).body (declaration S (suc n)).input (declaration S (suc n)).output) _
      (tidy_body _ (S.procedure_row (suc n)).body (S.procedure_row (suc n)).input (S.procedure_row (suc n)).output (known_types _)
      (output_row (suc n) (in_table_lem S.procedures (suc n) (omega arith) l))) λ x a. h)

  b_row : Wanted S S.b
  unfolding sheet_of
  b_row = let r = roots (sheet_of s) (roots_pass s shape) in (r.b, or_left (is_content S S.b) (or_left _ (or_left _ (or_right (eqb S.a S.b) (eq-eqb S.b S.b refl)))))

  pub tidy_check : Safe (Judged (names_in S)) Any Fine Known (check_walk S)
  unfolding check_by KnownAll
  tidy_check = tidy_bodies S.procedures (omega arith) _ (tidy_body [] S.main S.a S.b tt b_row)

-- ---- so each of them is judged, and a check's walk settles with every purse

fine_judged : (s : List ℕ) (shape : shapely s ≡ true) → Loads s done → (q : Question) → Fine s shape q → (j : Judgement) × Judged (names_in (script_of s)) q j
fine_judged s shape loads q f = elim (dec_lt most_width (size q.found)) [
  | yes l ↦ (_, too_wide {q = q} l)
  | no l ↦ elim (decided q.wanted f.askable) [ inl w ↦ (pass, holds {q = q} (omega arith) w) | inr w ↦ (_, fails {q = q} (omega arith) w) ]
]
  where
    decided : (τ : Ty) → Askable s shape τ → Decided (names_in (script_of s)) q.found τ
    decided τ (of_row w h) = row_decided s loads q.found f.known w h
    decided τ (of_plain p) = plain_decided s loads q.found f.known τ p

pub check_settles : (s : List ℕ) → Loads s done → (n : ℕ) → (v : Verdict Ty) × (m : ℕ) × Settles (Judged (names_in (script_of s))) (check_walk (script_of s)) n v m
check_settles s (sound shape fertile untied) n =
    settles_by (Judged (names_in (script_of s))) _ (Fine s shape) _ (fine_judged s shape (sound shape fertile untied)) (check_walk (script_of s)) (tidy_check s shape) n
