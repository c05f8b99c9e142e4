-- From the tables of the places to the walk's, and from the walk's answer to membership (Theorems/Places); then the answer of the whole question.
use Prim.Native.Nat.{ℕ, ◌≤◌, ◌<◌}
use mathlib.Core.Path.{◌≡◌, refl, sym, ◌∙◌}
use mathlib.Core.Bool.{Bool, true, false, ◌&&◌, cond}
use mathlib.Core.List.{List}
use Rattle.std.specs.Prelude.{Result, Ok, Err, IsErrAnd}
use mathlib.Core.Logic.{inl, inr}
use native.Mathlib.Omega.{arith}
use lib.Dec.{eqb}
use lib.ListN.{set, replicate, length-replicate}
use borrow.Author.Tests.{eq-eqb, lt-ltb}
use Rattle.meaning.specs.Tests.{in_table}
use Rattle.meaning.specs.Sheet.{script_of, grove_of}
use Rattle.meaning.specs.Forest.{forest_of}
use Rattle.meaning.specs.Shape.{shapely}
use Rattle.meaning.specs.Places.{Model, is_declared}
use Rattle.meaning.specs.Reply.{refused, shape, misshapen, Loads, Fitted, no_row, unsound}
use Rattle.meaning.specs.Laws.Bools.{or_right, and_both, either}
use Rattle.meaning.specs.Laws.Tests.{in_table_lem, table_low, table_high, some_at}
use Rattle.meaning.specs.Laws.Wired.{Wired, wired_next, ends}
use Rattle.meaning.specs.Theorems.Places.{places_say}
use Rattle.type_barren.specs.Flags.{flag, flag_set}
use Rattle.meaning.specs.Laws.Shaped.{kind_in, label_row, few_types}
use Rattle.sheet.specs.Laid.{outside_low, outside_high}
use Rattle.sheet.specs.Table.{Table, types_in}
use Rattle.type_ties.specs.Users.{told_free}
use Rattle.type_places.specs.Tables.{model_of, set_of, Wires, Free}
use Rattle.type_tables.specs.Points.{SheetPoints}
use Rattle.type_models.specs.Roots.{is_root, Rooted}
use Rattle.type_heads.specs.Heads.{acting_at}
use Rattle.type_ties.specs.declared.Unsound.{Unsound}
use Rattle.type_ties.specs.Sound.{unsound_of}
use Rattle.fit.specs.declared.Fault.{Fault as Found}
use Rattle.fit.specs.declared.Refusal.{Refusal}
use Rattle.fit.specs.Answers.{unfit_of, fit_of, unsound_as}
use Rattle.fit.specs.Fitting.{Nexts, Finds, Walks, Told, IsOf}
use Rattle.meaning.specs.Laws.Trees.{root_row}

-- the sets of a table that is wired for a model are what may stand behind its places
nexts : (t : List ℕ) (m : Model) → Wired (set_of t) m ends → Nexts t m
nexts t m w a h b l = rw (lt-ltb b 576 l) at (wired_next (set_of t) m ends w a h b)

module _ (s : List ℕ) (e : shapely s ≡ true) where
  content_asked : (i : ℕ) → ((script_of s).type_row i).kind ≡ 4 → is_root s ((script_of s).type_row i).q ≡ true
  content_asked i k =
      let h = kind_in s i 3 k in
      let q = ((script_of s).type_row i).q in
      or_right (is_declared (script_of s) q) (some_at (λ i. eqb ((script_of s).type_row i).kind 4 && eqb ((script_of s).type_row i).q q) (script_of s).types i (table_low (script_of s).types i h) (table_high (script_of s).types i h)
      (and_both (eqb ((script_of s).type_row i).kind 4) (eqb q q) (eq-eqb ((script_of s).type_row i).kind 4 k) (eq-eqb q q refl)))

  -- the content of a row of kind 4: a root, and a row of the table
  module _ {first behind : List ℕ} (P : SheetPoints s first behind) where
    content_nexts : (i : ℕ) → ((script_of s).type_row i).kind ≡ 4 → Nexts behind (model_of s ((script_of s).type_row i).q)
    content_nexts i k =
        let x = (label_row s e i k).1 in
        let q = ((script_of s).type_row i).q in
        nexts behind (model_of s q) (P.roots q (in_table_lem (script_of s).types q x.low (omega (arith, x.lower, table_high (script_of s).types i (kind_in s i 3 k)))) (content_asked i k))

    pub contents : (a : ℕ) → (acting_at s a).kind ≡ 4 → Nexts behind (model_of s (acting_at s a).q)
    contents a = go (eqb ((script_of s).type_row a).kind 8)
      where
        go : (t : Bool) → (cond t ((script_of s).type_row ((script_of s).name_row ((script_of s).type_row a).p)) ((script_of s).type_row a)).kind ≡ 4
            → Nexts behind (model_of s (cond t ((script_of s).type_row ((script_of s).name_row ((script_of s).type_row a).p)) ((script_of s).type_row a)).q)
        go true k = content_nexts ((script_of s).name_row ((script_of s).type_row a).p) k
        go false k = content_nexts a k

  -- the told row alone: no side of a lower row is it
  module _ (told : ℕ) (t : in_table (script_of s).types told ≡ true) where
    pub told_index : told < 513
    told_index = omega (arith, table_high (script_of s).types told t, few_types s e)

    told_flag : flag (set (replicate 513 false) told true) told ≡ true
    told_flag = flag_set (replicate 513 false) told true (rw (length-replicate {A = Bool} 513 false) told_index)

    told_low : told ≤ (script_of s).types
    told_low = table_high (script_of s).types told t

    pub told_row : {types : Table} → types ≡ types_in s → told ≤ types.rows
    unfolding script_of
    told_row is = rw is told_low

    pub told_alone : Free (script_of s).type_row (set (replicate 513 false) told true) told
    told_alone = told_free s e told told_low

    pub told_wired : {next : List ℕ} → Wires (script_of s).type_row (set (replicate 513 false) told true) next told → Wired (set_of next) (model_of s told) ends
    told_wired w = w.wired told (table_low (script_of s).types told t) (omega arith) told_flag

    pub told_root : {first behind : List ℕ} {root : List Bool} → SheetPoints s first behind → Rooted s root → flag root told ≡ true → Wired (set_of behind) (model_of s told) ends
    told_root {root = root} P R h = P.roots told t (sym (R.at told told_index) ∙ h)

-- the question, in the walk's words
module _ {s : List ℕ} {told : ℕ} {first behind class same : List ℕ} (T : Told s told first behind class same) where
  pub walked : {next : List ℕ} → Wired (set_of next) (model_of s told) ends → Walks s (grove_of s).root told next
  walked {next} w = record { is_tree = root_row s T.ready.shaped; is_type = T.is_type; nexts = nexts next (model_of s told) w }

  pub of_type : (f : Result Unit Found) → Finds s 0 (grove_of s).root told f → IsOf s told f
  of_type (Ok u) x = record { by = (places_say s T.ready.shaped told (forest_of (grove_of s))).0 x.by }
  of_type (Err f) x = record { by = x.by }

-- ---- the answer

module _ (s : List ℕ) (told : ℕ) where
  pub not_shaped : shapely s ≡ false → Fitted s told (refused shape)
  not_shaped x = elim (either (in_table (script_of s).types told)) [
    | inl t ↦ unsound t (misshapen x)
    | inr t ↦ no_row t
  ]

  pub no_told : told ≡ 0 → Fitted s told (refused shape)
  no_told e = no_row (outside_low (script_of s).types told e)

  pub past_told : (script_of s).types < told → Fitted s told (refused shape)
  past_told h = no_row (outside_high (script_of s).types told h)

  pub is_told : {n : ℕ} → n ≡ (script_of s).types → (told ≡ 0 → ⊥) → told ≤ n → in_table (script_of s).types told ≡ true
  is_told e z h = in_table_lem (script_of s).types told (omega arith) (omega arith)

  pub not_sound : (u : Unsound) → in_table (script_of s).types told ≡ true → Loads s (refused (unsound_of u)) → Fitted s told (refused (unfit_of (unsound_as u)))
  not_sound (Unsound.Barren x) t l = unsound t l
  not_sound (Unsound.Tie y) t l = unsound t l

  -- a refusal, handed on
  pub refused_as : (r : Result Unit Refusal) (e : Refusal) → IsErrAnd r (λ y. y ≡ e) → Fitted s told (refused (unfit_of e)) → Fitted s told (fit_of r)
  refused_as (Err y) e x f = rw x f
  refused_as (Ok u) e x f = elim x [ ]
