-- How the walk of main ends, from what its evaluator leaves to what a reply says of it.
use Rattle.std.specs.Prelude.{ℕ, ◌+◌, ◌*◌, ◌≤◌, ◌<◌, ◌≡◌, true, List, length, Result, Ok, Err, Option, Some, None}
use Rattle.std.proofs.Common.{ap, subst, arith}
use Rattle.meaning.specs.Words.{rows_lent}
use Rattle.meaning.specs.Sheet.{script_of, grove_of, sheet_of}
use Rattle.meaning.specs.Shape.{shapely}
use Rattle.meaning.specs.Forest.{Forest, forest_at}
use Rattle.meaning.specs.Walk.{gives, fuel, stops, Settles, Quiet, Unasked}
use Rattle.meaning.specs.Walk as meaning
use Rattle.meaning.specs.Run.{run_walk}
use Rattle.meaning.specs.Reply.{done, Loads, run_settled, verdict_answer, no_scratch, ended, no_room, gave}
use Rattle.meaning.specs.Laws.Rows.{LowRows, forest_at_same}
use Rattle.meaning.specs.Laws.Walk.{settles_settle, within_purse}
use Rattle.meaning.specs.Theorems.ReadBack.{lent_row}
use Rattle.walk.specs.Scope.{Fresh, env_fresh, scoped_fresh}
use Rattle.walk.specs.Meets.{Ready, Stopped, MeetsBy, Ran, low_same}
use Rattle.walk.specs.declared.Purse.{Purse}
use Rattle.walk.specs.declared.Concern.{Concern}
use Rattle.walk.specs.declared.Scope.{Scope}
use Rattle.walk.specs.declared.Stop.{Stop}
use Rattle.walk.specs.declared.Stop.TheVariants.{Fuel, Depth, Stuck}
use Rattle.walk.specs.declared.Got.{Got}
use Rattle.walk.specs.Concern.{concern_of}
use Rattle.forest_rows.specs.Rows.{Readable}
use Rattle.walk.specs.Fits.{held}
use Rattle.run_statement.specs.Edit.{Edits, fits, went}
use Rattle.run_result.specs.Hands.{HandsBy}
use Rattle.desk.specs.Said.{Says}
use Rattle.meaning.specs.Laws.Shaped.{few_rows, few_units}
use Rattle.meaning.specs.Laws.Trees.{root_row, grove_low}
use Rattle.desk.specs.Load.{Loaded}
use Rattle.meaning.specs.Laws.Scoped.{main_in_scope}
use Rattle.desk.specs.declared.RunRefusal.TheVariants as ran

-- main gave the forest at row root of the rows `new`
pub record MainDone (s new : List ℕ) (root left : ℕ) : Type 0 where
  pub settles : Settles Unasked (run_walk (sheet_of s)) (sheet_of s).run_fuel (gives (forest_at (grove_of s).byte (lent_row new) root)) left
  pub readable : Readable new root

abbrev pub MainEndsBy : List ℕ → List ℕ → Result Got Stop → Type 0
MainEndsBy s new (Ok g) = MainDone s new g.root g.left.purse.left
MainEndsBy s new (Err why) = Stopped (run_walk (sheet_of s)) (sheet_of s).run_fuel why

pub record MainEnds (s new : List ℕ) (a : Result Got Stop) : Type 0 where
  pub by : MainEndsBy s new a

pub ends_done : {s new : List ℕ} {a : Result Got Stop} {g : Got} → a ≡ Ok g → MainEnds s new a → MainDone s new g.root g.left.purse.left
ends_done {s} {new} e m = subst (MainEndsBy s new) e m.by

pub ends_not : {s new : List ℕ} {a : Result Got Stop} {why : Stop} → a ≡ Err why → MainEnds s new a → Stopped (run_walk (sheet_of s)) (sheet_of s).run_fuel why
ends_not {s} {new} e m = subst (MainEndsBy s new) e m.by

pub done_left : {s new : List ℕ} {root left : ℕ} → MainDone s new root left → left ≤ (sheet_of s).run_fuel
done_left m = within_purse Unasked m.settles

-- ---- where main begins

-- the sheet is sound, and the working rows are enough
pub record Begun (s lent : List ℕ) : Type 0 where
  pub loads : Loads s done
  pub rows : (grove_of s).rows + (sheet_of s).run_fuel ≤ rows_lent lent

module _ (s : List ℕ) (e : shapely s ≡ true) where
  -- Scratch asks for the forest's rows, and a row for each unit
  pub few_asked : (grove_of s).rows + (sheet_of s).run_fuel ≤ 6144
  few_asked = omega (arith, few_rows s e, few_units s e)

  pub short : {lent : List ℕ} (result : List ℕ) → Loads s done → rows_lent lent < (grove_of s).rows + (sheet_of s).run_fuel → Says s lent result (Err ran.Scratch) result
  short result d h = record { said = no_scratch d h }

  pub begun : {lent : List ℕ} → Loads s done → (grove_of s).rows + (sheet_of s).run_fuel ≤ rows_lent lent → Begun s lent
  begun d h = record { loads = d; rows = h }

  module _ (old : List ℕ) (loaded : Loaded s old) {g : Scope} (fresh : Fresh g) where
    loaded_low : LowRows (lent_row old) (grove_of s).rows
    loaded_low = low_same (grove_of s).rows (grove_of s).row (lent_row old) (grove_low s e) loaded

    ready : 8 * ((grove_of s).rows + (sheet_of s).run_fuel) ≤ length old → Ready old g (grove_of s).rows (grove_of s).root (sheet_of s).run_fuel
    ready room = record {
      roomy = record { low = loaded_low; room = room; small = omega (arith, few_asked) };
      scoped = scoped_fresh (grove_of s).rows fresh;
      focus = root_row s e;
    }

    -- main has no variables, and its rows find theirs
    pub edits_main : 8 * ((grove_of s).rows + (sheet_of s).run_fuel) ≤ length old → Edits s old g (grove_of s).rows (grove_of s).root (sheet_of s).run_fuel (fits s 200 g (script_of s).main)
    unfolding held
    edits_main room = record { shaped = e; asks = record { ready = ready room; scope = rw fresh.none (main_in_scope s e 200) } }

    -- the walk that the evaluator goes is main's on the sheet's forest
    main_walk : went s old g 200 (script_of s).main (grove_of s).root ≡ run_walk (sheet_of s)
    unfolding run_walk sheet_of
    main_walk =
        let inside = root_row s e in
        let same : forest_at (grove_of s).byte (grove_of s).row (grove_of s).root ≡ forest_at (grove_of s).byte (lent_row old) (grove_of s).root =
        forest_at_same (grove_of s).byte (grove_of s).row (lent_row old) (grove_of s).root (λ i p q. grove_low s e i p (omega arith)) (λ i p q. loaded i p (omega arith)) in
        rw (env_fresh (grove_of s).byte old fresh, ← same)

    pub main_ends : {new : List ℕ} {a : Result Got Stop}
        → Ran (went s old g 200 (script_of s).main (grove_of s).root) (grove_of s).byte (sheet_of s).run_fuel (grove_of s).rows old new a
        → 8 * ((grove_of s).rows + (sheet_of s).run_fuel) ≤ length new → MainEnds s new a
    main_ends {new} {a} r room = record { by = go a (rw main_walk at r.met.by) }
      where
        go : (a : Result Got Stop) → MeetsBy (run_walk (sheet_of s)) (grove_of s).byte (sheet_of s).run_fuel (grove_of s).rows old new a → MainEndsBy s new a
        go (Ok g) f =
            let inside : g.root ≤ (grove_of s).rows + (sheet_of s).run_fuel = omega (arith, f.inside, f.paid) in
            record { settles = f.settles; readable = record { low = λ i j k. f.low i j (omega (arith, f.inside)); small = omega (arith, few_asked); there = omega arith } }
        go (Err why) f = f

-- ---- what is said of its end

-- what is left of the purse
abbrev pub left_of : Stop → ℕ
left_of Fuel = 0
left_of (Depth p) = p.left
left_of (Stuck at p) = p.left

pub left_of_lem : {w : Quiet Forest} {n : ℕ} (why : Stop) → Stopped w n why → left_of why ≤ n
left_of_lem Fuel h = omega arith
left_of_lem (Depth p) h = within_purse Unasked h.by
left_of_lem (Stuck at p) h = within_purse Unasked h.by

module _ {s lent : List ℕ} (b : Begun s lent) where
  pub stop_fuel : (result : List ℕ) {units n : ℕ} → n ≡ (sheet_of s).run_fuel → Stopped (run_walk (sheet_of s)) (sheet_of s).run_fuel Fuel → units ≡ n
      → Says s lent result (Err (ran.Fuel units)) result
  stop_fuel result {units} en h eu =
      let v = settles_settle (run_walk (sheet_of s)) (sheet_of s).run_fuel 0 fuel h.by in
      record { said = ended {units = units} b.loads b.rows (ap verdict_answer v.0) (omega (arith, v.1)) }

  pub stop_depth : (result : List ℕ) {p : Purse} {units n : ℕ} → n ≡ (sheet_of s).run_fuel → Stopped (run_walk (sheet_of s)) (sheet_of s).run_fuel (Depth p) → units + p.left ≡ n
      → Says s lent result (Err (ran.Depth units)) result
  stop_depth result {p} {units} en h eu =
      let v = settles_settle (run_walk (sheet_of s)) (sheet_of s).run_fuel p.left (stops meaning.depth) h.by in
      record { said = ended {units = units} b.loads b.rows (ap verdict_answer v.0) (omega (arith, v.1)) }

  pub stop_stuck : (result : List ℕ) {at : Concern} {p : Purse} {units n : ℕ} → n ≡ (sheet_of s).run_fuel
      → Stopped (run_walk (sheet_of s)) (sheet_of s).run_fuel (Stuck at p) → units + p.left ≡ n
      → Says s lent result (Err (ran.Stuck at units)) result
  stop_stuck result {at} {p} {units} en h eu =
      let v = settles_settle (run_walk (sheet_of s)) (sheet_of s).run_fuel p.left (stops (meaning.stuck (concern_of at))) h.by in
      record { said = ended {units = units} b.loads b.rows (ap verdict_answer v.0) (omega (arith, v.1)) }

-- main gave a forest, at these units
pub record Gave (s lent new : List ℕ) (root units : ℕ) : Type 0 where
  pub begun : Begun s lent
  pub verdict : (run_settled s).verdict ≡ gives (forest_at (grove_of s).byte (lent_row new) root)
  pub charge : units + (run_settled s).left ≡ (sheet_of s).run_fuel

pub gave_of : {s lent new : List ℕ} {root left units n : ℕ} → Begun s lent → MainDone s new root left → n ≡ (sheet_of s).run_fuel → units + left ≡ n → Gave s lent new root units
gave_of {s} {lent} {new} {root} {left} b m en eu =
    let v = settles_settle (run_walk (sheet_of s)) (sheet_of s).run_fuel left (gives (forest_at (grove_of s).byte (lent_row new) root)) m.settles in
    record { begun = b; verdict = v.0; charge = omega (arith, v.1) }

-- ---- the result: Room, or its rows

module _ {s lent new : List ℕ} {root units : ℕ} (g : Gave s lent new root units) {result after : List ℕ} where
  pub said_room : HandsBy new root result after None → Says s lent result (Err (ran.Room units)) after
  said_room h = rw h.0 (record {
    said = no_room {f = forest_at (grove_of s).byte (lent_row new) root} {units = units} g.begun.loads g.begun.rows g.verdict g.charge
        (h.1 (grove_of s).byte);
  })

  pub said_rows : {n : ℕ} → HandsBy new root result after (Some n) → Says s lent result (Ok (record { units = units; root = n })) after
  said_rows h =
      let size = (h.1 (grove_of s).byte).0 in
      record {
        said = gave {f = forest_at (grove_of s).byte (lent_row new) root} {units = units} g.begun.loads g.begun.rows g.verdict g.charge (omega (arith, h.0)) size
            (h.1 (grove_of s).byte).1;
      }
