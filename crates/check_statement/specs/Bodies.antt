-- Bodies in number order, then main, for one purse: what is left of them after the first c, and what holds there. Before the first: the sheet's types, and no row written.
use Prim.Native.Nat.{ℕ, zero, suc, ◌+◌, ◌*◌, ◌-◌, ◌≤◌, ◌<◌}
use native.Mathlib.Omega.{arith}
use Rattle.std.proofs.Math.Decide.{dec_le}
use Rattle.std.proofs.Common.{add-one, sym, ap, ◌∙◌, subst}
use Rattle.std.specs.Prelude.{◌≡◌, Bool, List, [], length, Result}
use Rattle.std.proofs.Math.Path.{refl}
use Rattle.std.proofs.Math.Bool.{true, false}
use borrow.Author.Tests.{eqb-true, leb-true}
use Rattle.meaning.specs.Tests.{in_table}
use Rattle.meaning.specs.Sheet.{Cells, blank, Script, script_of, sheet_of, types_in_header}
use Rattle.meaning.specs.Kinds.{type_form}
use Rattle.meaning.specs.Types.{Ty, declared}
use Rattle.meaning.specs.Reply.{done, Loads}
use Rattle.meaning.specs.Shape.{word_ok, words_ok, type_uses, shapely}
use Rattle.meaning.specs.Walk.{◌>>=◌}
use Rattle.meaning.specs.Check.{Asking, declaration, body, bodies, check_walk, bodies_by, check_by}
use Rattle.meaning.specs.Laws.Apart.{Low, shaped_lower}
use Rattle.meaning.specs.Laws.Bools.{and_left, and_right}
use Rattle.meaning.specs.Laws.Tests.{table_high}
use Rattle.meaning.specs.Laws.Shaped.{cells, part_of, types_pass, types_say, name_row_lem, few_names, few_types}
use Rattle.meaning.specs.Laws.Walk.{Leads, leads_then}
use Rattle.meaning.specs.Theorems.Sound.Written.{loads_shapely}
use Rattle.walk.specs.declared.Scope.{Scope}
use Rattle.walk.specs.declared.Got.{Got}
use Rattle.type_rows.specs.Grown.{type_in, ty_in, Grows, in_sheet, in_none}
use Rattle.type_rows.specs.Finds.{Judges, Room, Typed, Halted, Finds, types_of, finds_as, finds_leads, halt_leads, halt_then, room_after}
use Rattle.type_rows.specs.declared.Halt.{Halt}
use Rattle.type_rows.specs.Both.{halted_as}

-- ---- the walks, and what is given

abbrev pub procedure_walk : Script → ℕ → Asking Ty
procedure_walk S c = body S (declaration S c).parameters (S.procedure_row c).body (declaration S c).input (declaration S c).output

abbrev pub main_walk : Script → Asking Ty
main_walk S = body S [] S.main (declared S S.a) (declared S S.b)

abbrev pub BodyGives : List ℕ → List ℕ → List ℕ → Scope → ℕ → ℕ → ℕ → ℕ → ℕ → Result Got Halt → Type 0
BodyGives s old new e n at input output left a = Finds (body (script_of s) (types_of s old n e) at (ty_in s old n input) (declared (script_of s) output)) s left n old new a

abbrev pub ProcedureGives : List ℕ → List ℕ → List ℕ → ℕ → ℕ → ℕ → Result Got Halt → Type 0
ProcedureGives s old new n c left a = Finds (procedure_walk (script_of s) c) s left n old new a

-- ---- from the front: m procedures after the first c, and then what follows

unfoldable pub onward : Script → ℕ → ℕ → Asking Ty → Asking Ty
onward S c zero w = w
onward S c (suc m) w = procedure_walk S (suc c) >>= λ x. onward S (suc c) m w

onward_bodies : (S : Script) (c m : ℕ) (w : Asking Ty) → bodies S c (onward S c m w) ≡ bodies S (c + m) w
unfolding bodies_by onward
onward_bodies S c zero w = let e : c ≡ c + 0 = omega arith in ap (λ (k : ℕ). bodies S k w) e
onward_bodies S c (suc m) w = let e : suc c + m ≡ c + suc m = omega arith in onward_bodies S (suc c) m w ∙ ap (λ (k : ℕ). bodies S k w) e

-- what is left after the first c
abbrev pub rest_of : Script → ℕ → Asking Ty
rest_of S c = onward S c (S.procedures - c) (main_walk S)

rest_all : (S : Script) → check_walk S ≡ rest_of S 0
unfolding check_by bodies_by
rest_all S =
    let e : 0 + (S.procedures - 0) ≡ S.procedures = omega arith in
    sym (onward_bodies S 0 (S.procedures - 0) (main_walk S) ∙ ap (λ (k : ℕ). bodies S k (main_walk S)) e)

rest_more : (S : Script) (c : ℕ) → c < S.procedures → rest_of S c ≡ (procedure_walk S (c + 1) >>= λ x. rest_of S (c + 1))
unfolding onward
rest_more S c h =
    let e : S.procedures - c ≡ suc (S.procedures - (c + 1)) = omega arith in
    ap (λ (k : ℕ). onward S c k (main_walk S)) e ∙ ap (λ (k : ℕ). procedure_walk S k >>= λ x. onward S k (S.procedures - (c + 1)) (main_walk S)) (sym (add-one c))

rest_none : (S : Script) (c : ℕ) → S.procedures ≤ c → rest_of S c ≡ main_walk S
unfolding onward
rest_none S c h = let e : S.procedures - c ≡ 0 = omega arith in ap (λ (k : ℕ). onward S c k (main_walk S)) e

-- ---- after the first c procedures

pub record Checking (s : List ℕ) (left : ℕ) (old work : List ℕ) (c n left' : ℕ) : Type 0 where
  pub few : c ≤ (script_of s).procedures
  pub room : Room s work n left'
  pub leads : Leads (Judges s) (check_walk (script_of s)) left (rest_of (script_of s) c) left'
  pub paid : n + left' ≤ left
  pub size : length work ≡ length old

pub checking_start : {s work : List ℕ} {left : ℕ} → Room s work 0 left → Checking s left work work 0 0 left
checking_start {s} {work} {left} r = record {
  few = omega arith;
  room = r;
  leads = subst (λ (w : Asking Ty). Leads (Judges s) w left (rest_of (script_of s) 0) left) (sym (rest_all (script_of s))) (λ v m t. t);
  paid = omega arith;
  size = refl;
}

module _ {s : List ℕ} {left : ℕ} {old work : List ℕ} {c n left' : ℕ} (g : Checking s left old work c n left') where
  module _ (more : c < (script_of s).procedures) where
    pub checking_halts : {why : Halt} → Halted (procedure_walk (script_of s) (c + 1)) s left' why → Halted (check_walk (script_of s)) s left why
    checking_halts h = halt_leads g.leads (halted_as (rest_more (script_of s) c more) (halt_then (λ (x : Ty). rest_of (script_of s) (c + 1)) h))

    pub checking_more : {new : List ℕ} {root n' left'' : ℕ} → length new ≡ length work → Typed (procedure_walk (script_of s) (c + 1)) s left' n work new root n' left''
        → Checking s left old new (c + 1) n' left''
    checking_more {left'' = left''} same f = record {
      few = omega arith;
      room = room_after same f g.room;
      leads = λ v m t. g.leads v m (subst (λ (w : Asking Ty). Leads (Judges s) w left' (rest_of (script_of s) (c + 1)) left'') (sym (rest_more (script_of s) c more))
          (leads_then (Judges s) (λ (x : Ty). rest_of (script_of s) (c + 1)) f.settles) v m t);
      paid = omega (arith, f.paid, g.paid);
      size = same ∙ g.size;
    }

  -- main is last
  pub checking_done : {new : List ℕ} {a : Result Got Halt} → (script_of s).procedures ≤ c → Finds (main_walk (script_of s)) s left' n work new a → Finds (check_walk (script_of s)) s left 0 old new a
  checking_done all m = finds_leads g.leads (omega arith) (omega (arith, g.paid)) (λ r i j. absurd (omega arith)) (finds_as (rest_none (script_of s) c all) m)

-- ---- the sheet's types, and no row written

module _ (s : List ℕ) (e : shapely s ≡ true) where
  word_small : (i k p q r : ℕ) → i ≤ 512 → words_ok (sheet_of s) (type_uses (cells k p q r)) i (cells k p q r) ≡ true → p < 65536
  unfolding word_ok sheet_of
  word_small i zero p q r l h = omega (arith, eqb-true p 0 (search (and_left, and_right)))
  word_small i (suc zero) p q r l h = omega (arith, eqb-true p 0 (search (and_left, and_right)))
  word_small i (suc (suc zero)) p q r l h = omega (arith, eqb-true p 0 (search (and_left, and_right)))
  word_small i (suc (suc (suc zero))) p q r l h = omega (arith, eqb-true p 0 (search (and_left, and_right)))
  word_small i (suc (suc (suc (suc zero)))) p q r l h = omega (arith, leb-true p 1023 (search (and_left, and_right)))
  word_small i (suc (suc (suc (suc (suc zero))))) p q r l h = omega (arith, (part_of i p (search (and_left, and_right))).lower)
  word_small i (suc (suc (suc (suc (suc (suc zero)))))) p q r l h = omega (arith, (part_of i p (search (and_left, and_right))).lower)
  word_small i (suc (suc (suc (suc (suc (suc (suc zero))))))) p q r l h = omega (arith, (part_of i p (search (and_left, and_right))).lower)
  word_small i (suc (suc (suc (suc (suc (suc (suc (suc zero)))))))) p q r l h = omega (arith, few_names s e, table_high (script_of s).names p (search (and_left, and_right)))
  word_small i (suc (suc (suc (suc (suc (suc (suc (suc (suc k))))))))) p q r l h = omega (arith, eqb-true p 0 (search (and_left, and_right)))

  row_small : (i : ℕ) → ((script_of s).type_row i).p < 65536
  unfolding sheet_of script_of
  row_small i = go (in_table (types_in_header s) i) refl
    where
      go : (b : Bool) → in_table (types_in_header s) i ≡ b → ((script_of s).type_row i).p < 65536
      go true h = let c = (script_of s).type_row i in
          word_small i c.kind c.p c.q c.r (omega (arith, few_types s e, table_high (types_in_header s) i h)) (types_say (sheet_of s) i (types_pass s e) h)
      go false h = rw h (omega arith)

  module _ (work : List ℕ) where
    -- of the sheet's rows, and of those past them
    by_sheet : (P : Cells → ℕ → Type 0) → ((i : ℕ) → P ((script_of s).type_row i) i) → ((i : ℕ) → P blank i) → (i : ℕ) → P (type_in s work 0 i) i
    by_sheet P here past i = elim (dec_le i (script_of s).types) [
      | yes h ↦ subst (λ (x : Cells). P x i) (sym (in_sheet s work 0 i h)) (here i)
      | no h ↦ subst (λ (x : Cells). P x i) (sym (in_none s work 0 i (omega arith))) (past i)
    ]

    grows_none : Grows s work 0
    unfolding Low
    grows_none = record {
      low = by_sheet (λ x i. Low (type_form x) i) (shaped_lower s e) (λ i. tt);
      known = by_sheet (λ x i. x.kind ≡ 8 → in_table (script_of s).names x.p ≡ true) (name_row_lem s e) (λ i z. absurd (not_eight z));
      small = by_sheet (λ x i. x.p < 65536) row_small (λ i. omega arith);
    }
      where
        not_eight : blank.kind ≡ 8 → ⊥
        not_eight z = omega arith

pub room_first : {s work : List ℕ} {left : ℕ} → Loads s done → 8 * left ≤ length work → left ≤ 4096 → Room s work 0 left
room_first {s} {work} loads h i = record { grows = grows_none s (loads_shapely loads) work; room = omega arith; small = omega (arith, few_types s (loads_shapely loads)) }
