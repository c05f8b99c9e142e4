-- Wrong runs, refuted.
use Rattle.std.specs.Prelude.{ℕ, ◌+◌, ◌*◌, ◌≤◌, ◌<◌, ◌≡◌, true, false, eqb, leb, length, take}
use Rattle.std.proofs.Math.Path.{refl, ap}
use Rattle.std.proofs.Common.{sym, ◌∙◌, arith, leb-true}
use mathlib.Core.List.{List, [], ◌∷◌, ◌++◌}
use Rattle.std.proofs.Math.ListN.{drop}
use Rattle.meaning.specs.Tests.{in_table}
use Rattle.meaning.specs.Words.{bytes_of, rows_lent, zeroed}
use Rattle.meaning.specs.Sheet.{Cells, sheet_of, script_of, grove_of}
use Rattle.meaning.specs.Kinds.{Query, Test, Statement}
use Rattle.meaning.specs.Forest.{Tree, Forest, nil, cons, only, ◌⊕◌, forest_size, tree_rows, root_after, rows_of_result, row_bytes}
use Rattle.meaning.specs.Types.{Ty, Of, of_name, of_label, Barren, Fertile, names_in}
use Rattle.meaning.specs.Walk.{gives, settle, of_query, of_statement}
use Rattle.meaning.specs.Run.{run_walk}
use Rattle.meaning.specs.Shape.{shapely}
use Rattle.meaning.specs.Places.{Tie}
use Rattle.meaning.specs.Reply.{shape, barren, tie, fuel, depth, stuck, scratch, room, Refusal, Answer, done, refused, Loads, misshapen, is_barren, is_tied, Ran, unsound, no_scratch}
use Rattle.meaning.specs.Reply.{no_room, given, run_settled}
use Rattle.meaning.specs.Listing.{lent_work, lent_result}
use Rattle.meaning.specs.Laws.Tests.{table_low, table_high}
use Rattle.meaning.specs.Theorems.Single.{one_run}
use Rattle.meaning.specs.Theorems.Worked.{worked, seven, whole, run_whole, ok12}
use Rattle.meaning.specs.Theorems.Worked.Sheets.{Row, tr, row, joined, sheet, small, s1, s5, s6, s8, s9, s11, s12, loop}
use Rattle.meaning.specs.Theorems.Worked.Ties.{tie as tie-of}
use Rattle.meaning.specs.Theorems.Worked.Stated.{tables, shape as shape-computes, ties, runs, checks, a, b, leaf, trees, Does, Refuses, no_names, loads, does, refuses}
use Rattle.meaning.specs.Theorems.Refuted.Calls.{Run, MeetsRun, statement_in, query_in, main_of, forest_in, Enough, codes, two_answers, two_numbers, differ, two_bytes, work_rows, result_rows}
use Rattle.meaning.specs.Theorems.Refuted.Calls.{skipping, idle, barren_tied}

-- ---- what is given

-- always Fuel, if only of sheets that pass 2 to 4, with enough lent
abbrev pub AlwaysFuel : Run → Type 0
AlwaysFuel f = (s work result : List ℕ) → Loads s done → Enough s work → (f s work result).answer ≡ refused fuel

-- the input's rows, whenever done
abbrev pub GivesInput : Run → Type 0
GivesInput f = (s work result : List ℕ) → (f s work result).answer ≡ done → (f s work result).result ≡ given (forest_in s) result

-- iter edits the first tree and copies the rest
abbrev pub FirstOnly : Run → Type 0
FirstOnly f = (s work result : List ℕ) (p : ℕ) (t : Tree) (rest : Forest) → main_of s ≡ Statement.iter p → forest_in s ≡ cons t rest
    → (f s work result).answer ≡ done → (g : Forest) × ((f s work result).result ≡ given (g ⊕ rest) result)

-- iter visits trees it has just inserted: iter [l? right [insert l]] on l is never done
abbrev pub Visits : Run → Type 0
Visits f = (s work result : List ℕ) (p q r i j l : ℕ) (g : Forest) → main_of s ≡ Statement.iter p → statement_in s p ≡ Statement.test (Test.label l) q
    → statement_in s q ≡ Statement.right r → statement_in s r ≡ Statement.insert i → query_in s i ≡ Query.tree l j → forest_in s ≡ only (Tree.node l g)
    → (f s work result).answer ≡ done → ⊥

-- a failed test drops its tree
abbrev pub Drops : Run → Type 0
Drops f = (s work result : List ℕ) (l r n : ℕ) (g : Forest) → main_of s ≡ Statement.test (Test.label l) r → forest_in s ≡ only (Tree.node n g) → eqb l n ≡ false
    → (f s work result).answer ≡ done → (f s work result).root ≡ 0

-- same of texts at two offsets is false
abbrev pub ByOffset : Run → Type 0
ByOffset f = (s work result : List ℕ) (q p i m p' j n : ℕ) → main_of s ≡ Statement.insert q → query_in s q ≡ Query.same p p' → query_in s p ≡ Query.text i m
    → query_in s p' ≡ Query.text j n → eqb i j ≡ false → (f s work result).answer ≡ done → (f s work result).result ≡ given (only (Tree.bool false)) result

-- left sets its part behind the focus, as right does
abbrev pub LeftAsRight : Run → Type 0
LeftAsRight f = (s work result : List ℕ) (p i l j : ℕ) (t : Tree) → main_of s ≡ Statement.left p → statement_in s p ≡ Statement.insert i → query_in s i ≡ Query.tree l j
    → query_in s j ≡ Query.empty → forest_in s ≡ only t → (f s work result).answer ≡ done → (f s work result).result ≡ given (trees (t ∷ leaf l ∷ [])) result

-- ---- the order of parts

-- of "delete, then insert" the insert comes first, and is stuck on what is not yet deleted
abbrev pub ThenTurned : Run → Type 0
ThenTurned f = (s work result : List ℕ) (p q i : ℕ) (t : Tree) (g : Forest) → Loads s done → Enough s work → 2 ≤ (sheet_of s).run_fuel → main_of s ≡ Statement.then p q
    → statement_in s p ≡ Statement.delete → statement_in s q ≡ Statement.insert i → forest_in s ≡ cons t g → (f s work result).answer ≡ refused (stuck (of_statement q))

-- of two sides of a join, both stuck, the right one is met first
abbrev pub JoinTurned : Run → Type 0
JoinTurned f = (s work result : List ℕ) (i p c x y q c' x' y' : ℕ) → Loads s done → Enough s work → 4 ≤ (sheet_of s).run_fuel → main_of s ≡ Statement.insert i → query_in s i ≡ Query.join p q
    → query_in s p ≡ Query.if c x y → query_in s c ≡ Query.empty → query_in s q ≡ Query.if c' x' y' → query_in s c' ≡ Query.empty → forest_in s ≡ nil
    → (f s work result).answer ≡ refused (stuck (of_query q))

-- insert asks its query, (), before it tests the focus: two units in place of one
abbrev pub FocusLate : Run → Type 0
FocusLate f = (s work result : List ℕ) (i : ℕ) (t : Tree) (g : Forest) → Loads s done → Enough s work → 2 ≤ (sheet_of s).run_fuel → main_of s ≡ Statement.insert i
    → query_in s i ≡ Query.empty → forest_in s ≡ cons t g → (f s work result).run_units ≡ 2

-- ---- units

-- made up: one number, whenever done
abbrev pub OneNumber : Run → Type 0
OneNumber f = (n : ℕ) × ((s work result : List ℕ) → (f s work result).answer ≡ done → (f s work result).run_units ≡ n)

-- all the fuel, whenever done
abbrev pub AllFuel : Run → Type 0
AllFuel f = (s work result : List ℕ) → (f s work result).answer ≡ done → (f s work result).run_units ≡ (sheet_of s).run_fuel

-- by a rule of its own, with this refusal
abbrev pub RefusedFor : Refusal → (List ℕ → ℕ) → Run → Type 0
RefusedFor r amount f = (s work result : List ℕ) → (f s work result).answer ≡ refused r → (f s work result).run_units ≡ amount s

-- by a rule of its own, whenever done
abbrev pub DoneFor : (List ℕ → ℕ) → Run → Type 0
DoneFor amount f = (s work result : List ℕ) → (f s work result).answer ≡ done → (f s work result).run_units ≡ amount s

-- ---- the order of refusals

-- where Depth is due and the purse is empty, Fuel
abbrev pub FuelFirst : Run → Type 0
FuelFirst f = (s work result : List ℕ) → Ran s work result (refused depth) (sheet_of s).run_fuel 0 result → (f s work result).answer ≡ refused fuel

-- a query that is stuck is named as a statement
abbrev pub StuckAsStatement : Run → Type 0
StuckAsStatement f = (s work result : List ℕ) (i u : ℕ) → Ran s work result (refused (stuck (of_query i))) u 0 result → (f s work result).answer ≡ refused (stuck (of_statement i))

-- Tie's two rows exchanged
abbrev pub TieTurned : Run → Type 0
TieTurned f = (s work result : List ℕ) (x y : ℕ) → Loads s (refused (tie x y)) → (f s work result).answer ≡ refused (tie y x)

-- Tie with whatever rival a rule picks: the highest, the first found
abbrev pub RivalBy : (List ℕ → ℕ) → Run → Type 0
RivalBy pick f = (s work result : List ℕ) (x y : ℕ) → Loads s (refused (tie x y)) → (f s work result).answer ≡ refused (tie x (pick s))

-- Barren with the highest name
abbrev pub HighestBarren : Run → Type 0
HighestBarren f = (s work result : List ℕ) (x y : ℕ) → Loads s (refused (barren x)) → in_table (script_of s).names y ≡ true → Barren (names_in (script_of s)) y
    → ((z : ℕ) → in_table (script_of s).names z ≡ true → y < z → Fertile (names_in (script_of s)) z) → (f s work result).answer ≡ refused (barren y)

-- Tie before Barren
abbrev pub TieFirst : Run → Type 0
TieFirst f = (s work result : List ℕ) (x y : ℕ) → shapely s ≡ true → Tie (script_of s) x y → (f s work result).answer ≡ refused (tie x y)

-- Scratch before this refusal of 2 to 4
abbrev pub ScratchFirst : Refusal → Run → Type 0
ScratchFirst r f = (s work result : List ℕ) → Loads s (refused r) → rows_lent work < (grove_of s).rows + (sheet_of s).run_fuel → (f s work result).answer ≡ refused scratch

-- the fuels exchanged: Scratch by the check's fuel
abbrev pub ScratchByCheckFuel : Run → Type 0
ScratchByCheckFuel f = (s work result : List ℕ) → Loads s done → rows_lent work < (grove_of s).rows + (sheet_of s).check_fuel → (f s work result).answer ≡ refused scratch

-- done where the check's fuel is enough
abbrev pub RunsOnCheckFuel : Run → Type 0
RunsOnCheckFuel f = (s work result : List ℕ) (g : Forest) → Loads s done → Enough s work → (settle (run_walk (sheet_of s)) (sheet_of s).check_fuel).verdict ≡ gives g → forest_size g ≤ rows_lent result
    → (f s work result).answer ≡ done

-- ---- what is lent

-- with this refusal the working rows are left as they were
abbrev pub Unzeroed : Refusal → Run → Type 0
Unzeroed r f = (s work result : List ℕ) → (f s work result).answer ≡ refused r → (f s work result).work ≡ work

-- with Room, as much of the result as finds place is written
abbrev pub RoomWrites : Run → Type 0
RoomWrites f = (s work result : List ℕ) (g : Forest) → (run_settled s).verdict ≡ gives g → (f s work result).answer ≡ refused room
    → (f s work result).result ≡ take (length result) (row_bytes (rows_of_result g))

-- with Room, what was lent is cleared
abbrev pub RoomClears : Run → Type 0
RoomClears f = (s work result : List ℕ) → (f s work result).answer ≡ refused room → (f s work result).result ≡ zeroed result

-- ---- the sheets beyond the document's own, and what is computed of each

-- iter [rename b] on a, a
unfoldable pub two_trees : List ℕ
unfolding small
two_trees = small [] (row 6 2 0 0 ∷ row 13 1 0 0 ∷ []) 2 (row 4 1 0 0 ∷ row 4 1 0 1 ∷ [])

does_two : Does two_trees 9 (trees (leaf b ∷ leaf b ∷ [])) (row 4 2 0 0 ∷ row 4 2 0 1 ∷ [])
unfolding two_trees shape-computes ties runs
does_two = does (loads two_trees refl refl refl) 4087 refl refl refl refl

-- iter [b? right [insert b]] on b
unfoldable pub breeding : List ℕ
unfolding small
breeding = small (row 1 0 0 0 ∷ row 3 2 1 0 ∷ []) (row 4 2 0 0 ∷ row 12 1 0 0 ∷ row 9 2 2 2 ∷ row 13 3 0 0 ∷ []) 4 (row 4 2 0 0 ∷ [])

does_breeding : Does breeding 11 (trees (leaf b ∷ leaf b ∷ [])) (row 4 2 0 0 ∷ row 4 2 0 1 ∷ [])
unfolding breeding shape-computes ties runs
does_breeding = does (loads breeding refl refl refl) 4085 refl refl refl refl

-- b? skip on a
unfoldable pub failing : List ℕ
unfolding small
failing = small [] (row 1 0 0 0 ∷ row 9 2 2 1 ∷ []) 2 (row 4 1 0 0 ∷ [])

does_failing : Does failing 1 (only (leaf a)) (row 4 1 0 0 ∷ [])
unfolding failing shape-computes ties runs
does_failing = does (loads failing refl refl refl) 4095 refl refl refl refl

-- left [insert b] on a
unfoldable pub leftward : List ℕ
unfolding small
leftward = small (row 1 0 0 0 ∷ row 3 2 1 0 ∷ []) (row 4 2 0 0 ∷ row 11 1 0 0 ∷ []) 2 (row 4 1 0 0 ∷ [])

does_leftward : Does leftward 6 (trees (leaf b ∷ leaf a ∷ [])) (row 4 1 0 0 ∷ row 4 2 0 1 ∷ [])
unfolding leftward shape-computes ties runs
does_leftward = does (loads leftward refl refl refl) 4090 refl refl refl refl

-- delete, then insert b, on a
unfoldable pub in_turn : List ℕ
unfolding small
in_turn = small (row 1 0 0 0 ∷ row 3 2 1 0 ∷ []) (row 5 0 0 0 ∷ row 4 2 0 0 ∷ row 2 1 2 0 ∷ []) 3 (row 4 1 0 0 ∷ [])

ok_in_turn : Loads in_turn done
unfolding in_turn shape-computes ties
ok_in_turn = loads in_turn refl refl refl

does_in_turn : Does in_turn 6 (only (leaf b)) (row 4 2 0 0 ∷ [])
unfolding in_turn runs
does_in_turn = does ok_in_turn 4090 refl refl refl refl

-- insert (if () then () else ()), (if () then () else ()), on ()
unfoldable pub twice_stuck : List ℕ
unfolding small
twice_stuck = small (row 1 0 0 0 ∷ row 1 0 0 0 ∷ row 1 0 0 0 ∷ row 9 1 2 3 ∷ row 1 0 0 0 ∷ row 1 0 0 0 ∷ row 1 0 0 0 ∷ row 9 5 6 7 ∷ row 2 4 8 0 ∷ []) (row 4 9 0 0 ∷ []) 1 []

pub ok_twice_stuck : Loads twice_stuck done
unfolding twice_stuck shape-computes ties
ok_twice_stuck = loads twice_stuck refl refl refl

pub stuck_twice : Refuses twice_stuck (stuck (of_query 4)) 4
unfolding twice_stuck runs
stuck_twice = refuses ok_twice_stuck 4092 refl refl refl

-- insert () on a
unfoldable pub occupied : List ℕ
unfolding small
occupied = small (row 1 0 0 0 ∷ []) (row 4 1 0 0 ∷ []) 1 (row 4 1 0 0 ∷ [])

ok_occupied : Loads occupied done
unfolding occupied shape-computes ties
ok_occupied = loads occupied refl refl refl

stuck_occupied : Refuses occupied (stuck (of_statement 1)) 1
unfolding occupied runs
stuck_occupied = refuses ok_occupied 4095 refl refl refl

-- skip on (), with no run fuel
ok_idle : Loads (idle 4096 0) done
unfolding idle shape-computes ties
ok_idle = loads (idle 4096 0) refl refl refl

fuel_idle : Refuses (idle 4096 0) fuel 0
unfolding idle runs
fuel_idle = refuses ok_idle 0 refl refl refl

-- rename a on a, with no result row lent
room_12 : (work result : List ℕ) → Enough s12 work → rows_lent result < 1 → Ran s12 work result (refused room) 2 0 result
unfolding s12 runs
room_12 work result p q = no_room {f = only (leaf a)} {units = 2} ok12 p refl refl q

-- a name is barren and A is tied: Barren
none_of_X : (f : Forest) → Of (names_in (script_of barren_tied)) (Ty.name 1) f → ⊥
unfolding barren_tied checks
none_of_X _ (of_name (of_label o)) = none_of_X _ o

ok_barren : Loads barren_tied (refused (barren 1))
unfolding barren_tied shape-computes
ok_barren = is_barren refl (record { is_name = refl; barren = none_of_X; lowest = λ y t l. let h = table_low 1 y t in absurd (omega arith) })

tied_too : Tie (script_of barren_tied) 4 7
unfolding barren_tied ties
tied_too = tie-of (script_of barren_tied) 4 7 refl refl refl

shapely_too : shapely barren_tied ≡ true
unfolding barren_tied shape-computes
shapely_too = refl

-- X = a[X], Y = b[Y], from () to (): two names are barren
unfoldable pub two_barren : List ℕ
unfolding sheet
two_barren = sheet (record {
  names = 2 ∷ 4 ∷ [];
  types = tr 8 1 0 ∷ tr 4 1 1 ∷ tr 8 2 0 ∷ tr 4 2 3 ∷ tr 1 0 0 ∷ tr 1 0 0 ∷ [];
  queries = [];
  statements = row 1 0 0 0 ∷ [];
  procedures = [];
  rows = [];
  pool = [];
  a = 5;
  b = 6;
  main = 1;
  root = 0;
  check_fuel = 4096;
  run_fuel = 4096;
})

none_of_1 : Barren (names_in (script_of two_barren)) 1
unfolding two_barren checks
none_of_1 _ (of_name (of_label o)) = none_of_1 _ o

none_of_2 : Barren (names_in (script_of two_barren)) 2
unfolding two_barren checks
none_of_2 _ (of_name (of_label o)) = none_of_2 _ o

ok_two_barren : Loads two_barren (refused (barren 1))
unfolding two_barren shape-computes
ok_two_barren = is_barren refl (record { is_name = refl; barren = none_of_1; lowest = λ y t l. let h = table_low 2 y t in absurd (omega arith) })

-- fuel past the limit is Shape
ok_over : Loads (idle 0 4097) (refused shape)
unfolding idle shape-computes
ok_over = misshapen refl

-- from a | (a | a): rows 2, 4 and 6 are rivals
unfoldable pub three_rivals : List ℕ
unfolding skipping
three_rivals = skipping (tr 1 0 0 ∷ tr 4 1 1 ∷ tr 1 0 0 ∷ tr 4 1 3 ∷ tr 1 0 0 ∷ tr 4 1 5 ∷ tr 6 4 6 ∷ tr 6 2 7 ∷ tr 1 0 0 ∷ []) 8 9 [] 4096 4096

tied_three : Loads three_rivals (refused (tie 2 4))
unfolding three_rivals shape-computes ties
tied_three = is_tied refl (no_names three_rivals refl) (tie-of (script_of three_rivals) 2 4 refl refl refl)

-- a[b,c,b],d, as rows
abbrev five : List Row
five = row 4 4 0 0 ∷ row 4 2 0 0 ∷ row 4 3 0 2 ∷ row 4 2 0 3 ∷ row 4 1 4 1 ∷ []

input_rows : (result : List ℕ) → given (forest_in whole) result ≡ bytes_of (joined five) ++ drop 40 result
unfolding whole s1 runs
input_rows result = refl

-- a forest that ends in a is written from a on
ends_in_a : (g : Forest) → (l : List Cells) × (rows_of_result (g ⊕ only (leaf a)) ≡ record { kind = 4; p = 1; q = 0; r = 0 } ∷ l)
unfolding runs
ends_in_a nil = ([], refl)
ends_in_a (cons t g) =
    let h = ends_in_a g in
    let rows = tree_rows (0 + forest_size (g ⊕ only (leaf a))) t (root_after 0 (g ⊕ only (leaf a))) in
    (h.0 ++ rows, ap (λ (x : List Cells). x ++ rows) h.1)

-- ---- none of them meets the promise

module _ (f : Run) (meets : MeetsRun f) where
  -- what is computed of a sheet is what f says of it
  said : {s work result : List ℕ} {x : Answer} {units root : ℕ} {after : List ℕ} → Ran s work result x units root after
      → ((f s work result).answer ≡ x) × ((f s work result).run_units ≡ units) × ((f s work result).root ≡ root) × ((f s work result).result ≡ after)
  said {s} {work} {result} h = one_run s work result (meets s work result).said h

  -- where the program's rows are lent
  lent_so : {s : List ℕ} {units : ℕ} {g : Forest} {rows : List Row} → Does s units g rows → leb ((grove_of s).rows + (sheet_of s).run_fuel) 6144 ≡ true → leb (length rows) 8192 ≡ true
      → ((f s lent_work lent_result).answer ≡ done) × ((f s lent_work lent_result).run_units ≡ units) × ((f s lent_work lent_result).root ≡ length rows)
      × ((f s lent_work lent_result).result ≡ bytes_of (joined rows) ++ drop (8 * length rows) lent_result)
  lent_so {s} {rows = rows} h p q = said (h.reply lent_work lent_result (work_rows ((grove_of s).rows + (sheet_of s).run_fuel) p) (result_rows (length rows) q))

  on_whole : ((f whole lent_work lent_result).answer ≡ done) × ((f whole lent_work lent_result).run_units ≡ 33) × ((f whole lent_work lent_result).root ≡ 7)
      × ((f whole lent_work lent_result).result ≡ bytes_of (joined seven) ++ drop 56 lent_result)
  unfolding whole s1 tables
  on_whole = lent_so run_whole refl refl

  -- P1 is done: no run always says Fuel
  pub not_always_fuel : AlwaysFuel f → ⊥
  unfolding whole s1 tables codes
  not_always_fuel w = two_answers on_whole.0 (w whole lent_work lent_result worked.met.loaded (work_rows 4101 refl)) refl

  -- P1 gives a[b,c,c,b,c],d: no run returns its input
  pub not_input : GivesInput f → ⊥
  unfolding bytes_of joined differ
  not_input w = two_bytes (bytes_of (joined seven)) (bytes_of (joined five)) (drop 56 lent_result) (drop 40 lent_result) on_whole.3
      (w whole lent_work lent_result on_whole.0 ∙ input_rows lent_result) refl

  -- a, a becomes b, b: no iter edits the first tree and copies the rest
  pub not_first_only : FirstOnly f → ⊥
  unfolding two_trees runs differ
  not_first_only w =
      let e = lent_so does_two refl refl in
      let h = w two_trees lent_work lent_result 1 (leaf a) (only (leaf a)) refl refl e.0 in
      let k = ends_in_a h.0 in
      let past = drop (8 * forest_size (h.0 ⊕ only (leaf a))) lent_result in
      two_bytes (bytes_of (joined (row 4 2 0 0 ∷ row 4 2 0 1 ∷ []))) (bytes_of (row 4 1 0 0)) (drop 16 lent_result) (row_bytes k.0 ++ past) e.3
      (h.1 ∙ ap (λ (x : List Cells). row_bytes x ++ past) k.1) refl

  -- iter [b? right [insert b]] on b is done: no iter visits what it has just inserted
  pub not_visits : Visits f → ⊥
  unfolding breeding runs
  not_visits w = w breeding lent_work lent_result 3 2 1 2 1 2 nil refl refl refl refl refl refl (lent_so does_breeding refl refl).0

  -- b? on a leaves a: no failed test drops its tree
  pub not_drops : Drops f → ⊥
  unfolding failing runs
  not_drops w = let e = lent_so does_failing refl refl in two_numbers e.2 (w failing lent_work lent_result 2 1 1 nil refl refl refl e.0) refl

  -- P11 is true: no same by offset
  pub not_by_offset : ByOffset f → ⊥
  unfolding s11 runs differ
  not_by_offset w =
      let e = lent_so worked.p11.2 refl refl in
      two_bytes (bytes_of (row 3 0 0 0)) (bytes_of (row 2 0 0 0)) (drop 8 lent_result) (drop 8 lent_result) e.3 (w s11 lent_work lent_result 3 1 0 2 2 2 2 refl refl refl refl refl e.0) refl

  -- left [insert b] on a gives b, a: no left as right
  pub not_left_as_right : LeftAsRight f → ⊥
  unfolding leftward runs differ
  not_left_as_right w =
      let e = lent_so does_leftward refl refl in
      two_bytes (bytes_of (row 4 1 0 0)) (bytes_of (row 4 2 0 0)) (bytes_of (row 4 2 0 1) ++ drop 16 lent_result) (bytes_of (row 4 1 0 1) ++ drop 16 lent_result) e.3
      (w leftward lent_work lent_result 1 2 2 1 (leaf a) refl refl refl refl refl e.0) refl

  -- delete, then insert b, on a is done: the first part comes first
  pub not_then_turned : ThenTurned f → ⊥
  unfolding in_turn runs codes
  not_then_turned w = two_answers (lent_so does_in_turn refl refl).0
      (w in_turn lent_work lent_result 1 2 2 (leaf a) nil ok_in_turn (work_rows 4097 refl) (leb-true 2 4096 refl) refl refl refl refl) refl

  -- of two stuck sides the left one is named
  pub not_join_turned : JoinTurned f → ⊥
  unfolding twice_stuck runs codes
  not_join_turned w = two_answers (said (stuck_twice lent_work lent_result (work_rows 4096 refl))).0
      (w twice_stuck lent_work lent_result 9 4 1 2 3 8 5 6 7 ok_twice_stuck (work_rows 4096 refl) (leb-true 4 4096 refl) refl refl refl refl refl refl refl) refl

  -- insert () on a is Stuck for 1 unit: the focus is tested before the parts
  pub not_focus_late : FocusLate f → ⊥
  unfolding occupied runs
  not_focus_late w = two_numbers (said (stuck_occupied lent_work lent_result (work_rows 4097 refl))).1
      (w occupied lent_work lent_result 1 (leaf a) nil ok_occupied (work_rows 4097 refl) (leb-true 2 4096 refl) refl refl refl) refl

  -- 33 units of P1 and 1 of P5 are not one number
  pub not_one_number : OneNumber f → ⊥
  unfolding s5 tables
  not_one_number (n, w) =
      let e = lent_so worked.p5 refl refl in
      two_numbers on_whole.1 (w whole lent_work lent_result on_whole.0 ∙ (sym (w s5 lent_work lent_result e.0) ∙ e.1)) refl

  -- nor is P1's fuel 33
  pub not_all_fuel : AllFuel f → ⊥
  unfolding whole s1 tables
  not_all_fuel w = two_numbers on_whole.1 (w whole lent_work lent_result on_whole.0) refl

  -- whatever rule gives other than 33 units of P1
  pub not_units : (amount : List ℕ → ℕ) → eqb 33 (amount whole) ≡ false → DoneFor amount f → ⊥
  not_units amount u w = two_numbers on_whole.1 (w whole lent_work lent_result on_whole.0) u

  -- one unit more
  pub not_one_more : (f whole lent_work lent_result).run_units ≡ 34 → ⊥
  not_one_more w = two_numbers on_whole.1 w refl

  -- one unit less
  pub not_one_less : (f whole lent_work lent_result).run_units ≡ 32 → ⊥
  not_one_less w = two_numbers on_whole.1 w refl

  -- whatever rule gives with Stuck other than 1 unit of P9
  pub not_stuck_units : (amount : List ℕ → ℕ) → eqb 1 (amount s9) ≡ false → RefusedFor (stuck (of_statement 2)) amount f → ⊥
  unfolding s9 tables
  not_stuck_units amount u w = let e = said (worked.p9 lent_work lent_result (work_rows 4097 refl)) in two_numbers e.1 (w s9 lent_work lent_result e.0) u

  -- with Room other than 2 units of P12
  pub not_room_units : (amount : List ℕ → ℕ) → eqb 2 (amount s12) ≡ false → RefusedFor room amount f → ⊥
  unfolding s12 tables
  not_room_units amount u w = let e = said (room_12 lent_work [] (work_rows 4097 refl) (leb-true 1 1 refl)) in two_numbers e.1 (w s12 lent_work [] e.0) u

  -- with Fuel other than 32 units of P2
  pub not_fuel_units : (amount : List ℕ → ℕ) → eqb 32 (amount (s1 4096 32)) ≡ false → RefusedFor fuel amount f → ⊥
  unfolding s1 tables
  not_fuel_units amount u w = let e = said (worked.p2 lent_work lent_result (work_rows 37 refl)) in two_numbers e.1 (w (s1 4096 32) lent_work lent_result e.0) u

  -- the recursion at fuel 200 is Depth, with all of it spent
  pub not_fuel_first : FuelFirst f → ⊥
  unfolding loop tables codes
  not_fuel_first w = let k = worked.recursion.0 lent_work lent_result (work_rows 200 refl) in two_answers (said k).0 (w (loop 200) lent_work lent_result k) refl

  -- query row 4 is stuck, and no statement
  pub not_stuck_as_statement : StuckAsStatement f → ⊥
  unfolding twice_stuck tables codes
  not_stuck_as_statement w = let k = stuck_twice lent_work lent_result (work_rows 4096 refl) in two_answers (said k).0 (w twice_stuck lent_work lent_result 4 4 k) refl

  -- P6 is Tie with 2 and 5
  pub not_tie_turned : TieTurned f → ⊥
  unfolding codes
  not_tie_turned w = two_answers (said {work = []} {result = []} (unsound worked.p6.1)).0 (w s6 [] [] 2 5 worked.p6.1) refl

  -- of three rivals the lowest two are given, and none that another rule picks beside row 2
  pub not_any_rival : (pick : List ℕ → ℕ) → eqb 4 (pick three_rivals) ≡ false → RivalBy pick f → ⊥
  unfolding codes
  not_any_rival pick u w = two_answers (said {work = []} {result = []} (unsound tied_three)).0 (w three_rivals [] [] 2 4 tied_three) u

  -- of two barren names the lowest is given
  pub not_highest_barren : HighestBarren f → ⊥
  unfolding two_barren tables codes
  not_highest_barren w = two_answers (said {work = []} {result = []} (unsound ok_two_barren)).0
      (w two_barren [] [] 1 2 ok_two_barren refl none_of_2 (λ z t l. let h = table_high 2 z t in absurd (omega arith))) refl

  -- a barren name goes before a tied type
  pub not_tie_first : TieFirst f → ⊥
  unfolding codes
  not_tie_first w = two_answers (said {work = []} {result = []} (unsound ok_barren)).0 (w barren_tied [] [] 4 7 shapely_too tied_too) refl

  -- fuel past the limit, with nothing lent, is Shape: 2 goes before 12
  pub not_scratch_first_of_shape : ScratchFirst shape f → ⊥
  unfolding idle tables codes
  not_scratch_first_of_shape w = two_answers (said {work = []} {result = []} (unsound ok_over)).0 (w (idle 0 4097) [] [] ok_over (leb-true 1 4097 refl)) refl

  -- P8, with nothing lent, is Barren: 3 goes before 12
  pub not_scratch_first_of_barren : ScratchFirst (barren 1) f → ⊥
  unfolding s8 tables codes
  not_scratch_first_of_barren w = two_answers (said {work = []} {result = []} (unsound worked.p8.1)).0 (w s8 [] [] worked.p8.1 (leb-true 1 4096 refl)) refl

  -- P6, with nothing lent, is Tie: 4 goes before 12
  pub not_scratch_first_of_tie : ScratchFirst (tie 2 5) f → ⊥
  unfolding s6 tables codes
  not_scratch_first_of_tie w = two_answers (said {work = []} {result = []} (unsound worked.p6.1)).0 (w s6 [] [] worked.p6.1 (leb-true 1 4096 refl)) refl

  -- without run fuel no working rows are needed, and there is no Scratch
  pub not_scratch_by_check_fuel : ScratchByCheckFuel f → ⊥
  unfolding idle tables codes
  not_scratch_by_check_fuel w = two_answers (said (fuel_idle [] [] (leb-true 0 0 refl))).0 (w (idle 4096 0) [] [] ok_idle (leb-true 1 4096 refl)) refl

  -- nor is anything done
  pub not_runs_on_check_fuel : RunsOnCheckFuel f → ⊥
  unfolding idle runs codes
  not_runs_on_check_fuel w = two_answers (said (fuel_idle [] [] (leb-true 0 0 refl))).0 (w (idle 4096 0) [] [] nil ok_idle (leb-true 0 0 refl) refl (leb-true 0 0 refl)) refl

  -- one working byte, 9: it is 0 after each refusal
  zero_nine : {s result : List ℕ} {r : Refusal} → (f s (9 ∷ []) result).answer ≡ refused r → Unzeroed r f → ⊥
  unfolding differ
  zero_nine {s} {result} e w = two_bytes (0 ∷ []) (9 ∷ []) [] [] (meets s (9 ∷ []) result).clear (w s (9 ∷ []) result e) refl

  -- after Shape
  pub not_unzeroed_at_shape : Unzeroed shape f → ⊥
  not_unzeroed_at_shape = zero_nine (said {work = 9 ∷ []} {result = []} (unsound ok_over)).0

  -- after Scratch
  pub not_unzeroed_at_scratch : Unzeroed scratch f → ⊥
  unfolding s12 tables
  not_unzeroed_at_scratch = zero_nine (said {s = s12} {work = 9 ∷ []} {result = []} (no_scratch ok12 (leb-true 1 4097 refl))).0

  -- after Fuel
  pub not_unzeroed_at_fuel : Unzeroed fuel f → ⊥
  unfolding idle tables
  not_unzeroed_at_fuel = zero_nine (said (fuel_idle (9 ∷ []) [] (leb-true 0 0 refl))).0

  -- one result byte, 9: it is 9 after Room, and not the 4 that the first row begins with
  pub not_room_writes : RoomWrites f → ⊥
  unfolding s12 runs differ
  not_room_writes w =
      let e = said (room_12 lent_work (9 ∷ []) (work_rows 4097 refl) (leb-true 1 1 refl)) in
      two_bytes (9 ∷ []) (4 ∷ []) [] [] e.3 (w s12 lent_work (9 ∷ []) (only (leaf a)) refl e.0) refl

  -- nor is it cleared
  pub not_room_clears : RoomClears f → ⊥
  unfolding s12 tables differ
  not_room_clears w =
      let e = said (room_12 lent_work (9 ∷ []) (work_rows 4097 refl) (leb-true 1 1 refl)) in
      two_bytes (9 ∷ []) (0 ∷ []) [] [] e.3 (w s12 lent_work (9 ∷ []) e.0) refl
