-- Document 01, "Worked on paper": P1 to P12, the recursion and the listing, gathered under a single statement, `Worked`, about the replies, walks and types that the promises cite.
-- By computation, but for what speaks of all forests, of all rows, or of all that may be lent.
use Rattle.std.specs.Prelude.{ℕ, ◌+◌, ◌≤◌, refl, true, List, [], ◌∷◌, ◌++◌, drop, replicate}
use Rattle.std.proofs.Math.Path.{◌≡◌}
use Rattle.std.proofs.Common.{arith, leb-true}
use Rattle.meaning.specs.Limits.{most_depth, most_width, most_lent}
use Rattle.meaning.specs.Words.{bytes_of, rows_lent}
use Rattle.meaning.specs.Sheet.{sheet_of, script_of, grove_of}
use Rattle.meaning.specs.Forest.{Tree, Forest, nil, only, ◌⊕◌, forest_of}
use Rattle.meaning.specs.Types.{Ty, Named, Of, of_empty, of_label, of_seq, of_left, of_right, of_none, of_more, of_name, Within, Barren, Fertile, names_in, declared}
use Rattle.meaning.specs.Walk.{gives, settle, paid, of_statement, of_output}
use Rattle.meaning.specs.Walk as walk
use Rattle.meaning.specs.Run.{query}
use Rattle.meaning.specs.Check.{holds, fails, check_walk}
use Rattle.meaning.specs.Places.{Tie, Untied, LowestBarren}
use Rattle.meaning.specs.Bundle.{bundle_of, framed, sheet_in}
use Rattle.meaning.specs.Reply.{fuel, depth, stuck, barren, tie, outside, done, refused, Loads, is_barren, is_tied, sound, Checked, Fitted, fits, Applied, applied}
use Rattle.meaning.specs.Listing.{codes, digits, fields, all_done, row_lines, listing, lent_work, lent_result, Tells, told}
use Rattle.meaning.specs.Laws.Tests.{table_low}
use Rattle.meaning.specs.Theorems.Sound.{OfB, apply_sound}
pub mod Sheets
pub mod Ties
pub mod Stated
pub mod Slips
pub mod Trials
use Sheets.{Row, row, joined, s1, s5, s6, s6_star, s7, s8, s8_star, s9, s10, s11, s12, loop}
use Ties.{untied}
use Ties.{tie as tie-of}
use Stated.{
  tables,
  shape,
  ties,
  runs,
  checks,
  frames,
  a,
  b,
  c,
  d,
  leaf,
  tip,
  trees,
  Does,
  Refuses,
  Checks,
  Walks,
  no_names,
  one_name,
  loads,
  does,
  refuses,
  Passing,
  settles,
  answers_by,
  answers,
  in_itself,
  lent,
}

-- ---- the statements

-- a[b,c,c,b,c],d, and its rows
abbrev pub edited : Forest
edited = trees (Tree.node a (trees (leaf b ∷ leaf c ∷ leaf c ∷ leaf b ∷ leaf c ∷ [])) ∷ leaf d ∷ [])

abbrev pub seven : List Row
seven = row 4 4 0 0 ∷ row 4 3 0 0 ∷ row 4 2 0 2 ∷ row 4 3 0 3 ∷ row 4 3 0 4 ∷ row 4 2 0 5 ∷ row 4 1 6 1 ∷ []

-- S on a[b,c,b],d gives a[b,c,c,b,c],d for 33 units
abbrev pub P1 : Type 0
P1 = Does (s1 4096 33) 33 edited seven

-- fuel 32 is Fuel
abbrev pub P2 : Type 0
P2 = Refuses (s1 4096 32) fuel 32

-- a[(b,c)*,c,(b,c)*],d
abbrev pub yielded : Ty
yielded = Ty.seq (Ty.label a (Ty.seq (Ty.star (Ty.seq (tip b) (tip c))) (Ty.seq (tip c) (Ty.star (Ty.seq (tip b) (tip c)))))) (tip d)

-- S from a[b*,c,b*],d yields a[(b,c)*,c,(b,c)*],d for 38 units
abbrev pub P3 : Type 0
P3 = Walks (s1 38 4096) 38 (gives yielded) 0 × Checks (s1 38 4096) done 38

-- check fuel 37 is Fuel
abbrev pub P4 : Type 0
P4 = Checks (s1 37 4096) (refused fuel) 37

-- iter on () gives (), 1 unit
abbrev pub P5 : Type 0
P5 = Does s5 1 nil []

-- "a*, a" is tied; (a*)* is not
abbrev pub P6 : Type 0
P6 = Tie (script_of s6) 2 5 × Loads s6 (refused (tie 2 5)) × Untied (script_of s6_star) × Loads s6_star done

-- a* lies in (a|b)*, not the reverse, for b is of the one and not of the other; and so says a check of skip
abbrev pub a* : Ty
a* = Ty.star (tip a)

abbrev pub a|b* : Ty
a|b* = Ty.star (Ty.choice (tip a) (tip b))

abbrev pub P7 : Type 0
P7 = ((names : ℕ → Named) → Within names a* a|b*)
    × ((names : ℕ → Named) → Of names a|b* (only (leaf b)) × (Of names a* (only (leaf b)) → ⊥))
    × ((names : ℕ → Named) → Within names a|b* a* → ⊥)
    × Checks (s7 3 9) done 1
    × Checks (s7 9 3) (refused (outside of_output)) 1

-- X = a[X] is Barren; X = a[X*] is not
abbrev pub P8 : Type 0
P8 = Barren (names_in (script_of s8)) 1 × Loads s8 (refused (barren 1)) × Fertile (names_in (script_of s8_star)) 1 × Loads s8_star done

-- children on a text is Stuck, 1 unit
abbrev pub P9 : Type 0
P9 = Refuses s9 (stuck (of_statement 2)) 1

-- delete on a,d gives (), 1 unit
abbrev pub P10 : Type 0
P10 = Does s10 1 nil []

-- same of "ab" at two offsets is true, 6 units: of the query's own walk; and 7 where main inserts it
abbrev pub P11 : Type 0
P11 = (settle (query (script_of s11) (grove_of s11).byte most_depth [] 3) 6 ≡ record { verdict = gives (only (Tree.bool true)); left = 0 })
    × (settle (query (script_of s11) (grove_of s11).byte most_depth [] 3) 5 ≡ record { verdict = walk.Verdict.fuel; left = 0 })
    × Does s11 7 (only (Tree.bool true)) (row 3 0 0 0 ∷ [])

-- rename a on a gives a, 2 units
abbrev pub P12 : Type 0
P12 = Does s12 2 (only (leaf a)) (row 4 1 0 0 ∷ [])

-- a main row that calls a procedure that only calls itself gives Depth at fuel 200 and Fuel at 199
abbrev pub Recursion : Type 0
Recursion = Refuses (loop 200) depth 200 × Refuses (loop 199) fuel 199

-- P1's script and forest, P3's two types, both fuels 4,096
unfoldable pub whole : List ℕ
whole = s1 4096 4096

-- what the program tells of its bundle, and prints, whole
abbrev pub Printed : Type 0
Printed = Tells (bundle_of whole) (all_done 38 33 7 (bytes_of (joined seven) ++ drop 56 lent_result))
    × ((rest : List ℕ) → listing (all_done 38 33 7 (bytes_of (joined seven) ++ rest))
    ≡ codes "check 0 38\nfit 0 0\nrun 0 33 7\n1 4 4 0 0\n2 4 3 0 0\n3 4 2 0 2\n4 4 3 0 3\n5 4 3 0 4\n6 4 2 0 5\n7 4 1 6 1\n")

-- what the theorems assume, met together by one sheet: it passes 2 to 4, check passes it, its forest is of A
pub record Met (s work : List ℕ) : Type 0 where
  pub loaded : Loads s done
  pub checked : Checked s work done 38
  pub fitted : Fitted s (script_of s).a done
  pub of_A : Of (names_in (script_of s)) (declared (script_of s) (script_of s).a) (forest_of (grove_of s))

pub record Worked : Type 0 where
  pub p1 : P1
  pub p2 : P2
  pub p3 : P3
  pub p4 : P4
  pub p5 : P5
  pub p6 : P6
  pub p7 : P7
  pub p8 : P8
  pub p9 : P9
  pub p10 : P10
  pub p11 : P11
  pub p12 : P12
  pub recursion : Recursion
  pub printed : Printed
  pub met : Met whole lent_work
  -- and apply's reply on it, the eighth row lent untouched
  pub applies : Applied whole lent_work (replicate 64 9) done 38 33 7 (bytes_of (joined seven) ++ replicate 8 9)
  -- so soundness speaks of it: the rows given, read back, are a forest of B
  pub of_B : OfB whole (bytes_of (joined seven) ++ replicate 8 9) 7

-- ---- P1 to P4

ok1 : Loads (s1 4096 33) done
unfolding s1 shape ties
ok1 = loads (s1 4096 33) refl refl refl

ok2 : Loads (s1 4096 32) done
unfolding s1 shape ties
ok2 = loads (s1 4096 32) refl refl refl

ok3 : Loads (s1 38 4096) done
unfolding s1 shape ties
ok3 = loads (s1 38 4096) refl refl refl

ok4 : Loads (s1 37 4096) done
unfolding s1 shape ties
ok4 = loads (s1 37 4096) refl refl refl

p1 : P1
unfolding s1 runs
p1 = does ok1 0 refl refl refl refl

p2 : P2
unfolding s1 runs
p2 = refuses ok2 0 refl refl refl

-- two inserts and the output ask
asked : (check_fuel run_fuel : ℕ) → Passing (names_in (script_of (s1 check_fuel run_fuel))) (check_walk (script_of (s1 check_fuel run_fuel)))
unfolding s1 checks
asked check_fuel run_fuel = (in_itself refl refl, (in_itself refl refl, (in_itself refl refl, tt)))

p3 : P3
unfolding s1 checks
p3 = (settles (check_walk (script_of (s1 38 4096))) 38 (asked 38 4096), answers ok3 0 (asked 38 4096) refl refl refl)

p4 : P4
unfolding s1 checks
p4 = answers ok4 0 (asked 37 4096) refl refl refl

-- ---- P5, P6

ok5 : Loads s5 done
unfolding s5 shape ties
ok5 = loads s5 refl refl refl

p5 : P5
unfolding s5 runs
p5 = does ok5 4095 refl refl refl refl

p6 : P6
unfolding s6 s6_star shape ties
p6 =
    let t : Tie (script_of s6) 2 5 = tie-of (script_of s6) 2 5 refl refl refl in
    (t, is_tied refl (no_names s6 refl) t, untied (script_of s6_star) refl, loads s6_star refl refl refl)

-- ---- P7

module _ (names : ℕ → Named) where
  star_left : {τ σ : Ty} {f : Forest} → Of names (Ty.star τ) f → Of names (Ty.star (Ty.choice τ σ)) f
  star_left of_none = of_none
  star_left (of_more x y) = of_more (of_left x) (star_left y)

  b_is : Of names a|b* (only (leaf b))
  unfolding ◌⊕◌
  b_is = of_more {f = only (leaf b)} (of_right (of_label of_empty)) of_none

  begins_with_a : {f : Forest} (g : Forest) → Of names (tip a) f → f ⊕ g ≡ only (leaf b) → ⊥
  unfolding ◌⊕◌
  begins_with_a g (of_label x) e = let z : ◌≡◌ {A = ℕ} 1 2 = cc in absurd (omega arith)

  b_is_not : {f : Forest} → Of names a* f → f ≡ only (leaf b) → ⊥
  b_is_not of_none e = let z : ◌≡◌ {A = ℕ} 0 1 = cc in absurd (omega arith)
  b_is_not (of_more {g = g} x y) e = begins_with_a g x e

  not_back : Within names a|b* a* → ⊥
  not_back w = b_is_not (w (only (leaf b)) b_is) refl

ok7 : Loads (s7 3 9) done
unfolding s7 shape ties
ok7 = loads (s7 3 9) refl refl refl

pub ok7_back : Loads (s7 9 3) done
unfolding s7 shape ties
ok7_back = loads (s7 9 3) refl refl refl

p7 : P7
unfolding s7 checks
p7 = (
  (λ names f o. star_left names o),
  (λ names. (b_is names, λ o. b_is_not names o refl)),
  not_back,
  answers ok7 4095 (holds (leb-true 3 most_width refl) (λ f o. star_left _ o), tt) refl refl refl,
  answers_by ok7_back 4095 (paid (walk.refused (fails (leb-true 6 most_width refl) (not_back _)))) refl refl,
)

-- ---- P8

-- a forest of X holds a smaller one
none_of_X : (f : Forest) → Of (names_in (script_of s8)) (Ty.name 1) f → ⊥
unfolding s8 checks
none_of_X _ (of_name (of_label o)) = none_of_X _ o

lowest_X : LowestBarren (script_of s8) 1
unfolding s8 tables
lowest_X = record { is_name = refl; barren = none_of_X; lowest = λ y t l. let h = table_low 1 y t in absurd (omega arith) }

some_of_X : Fertile (names_in (script_of s8_star)) 1
unfolding s8_star checks
some_of_X = (only (leaf a), of_name (of_label of_none))

p8 : P8
unfolding s8 s8_star shape ties
p8 = (
  none_of_X,
  is_barren refl lowest_X,
  some_of_X,
  sound refl (one_name s8_star refl some_of_X) (untied (script_of s8_star) refl),
)

-- ---- P9 to P12

ok9 : Loads s9 done
unfolding s9 shape ties
ok9 = loads s9 refl refl refl

p9 : P9
unfolding s9 runs
p9 = refuses ok9 4095 refl refl refl

ok10 : Loads s10 done
unfolding s10 shape ties
ok10 = loads s10 refl refl refl

p10 : P10
unfolding s10 runs
p10 = does ok10 4095 refl refl refl refl

ok11 : Loads s11 done
unfolding s11 shape ties
ok11 = loads s11 refl refl refl

p11 : P11
unfolding s11 runs
p11 = (refl, refl, does ok11 0 refl refl refl refl)

pub ok12 : Loads s12 done
unfolding s12 shape ties
ok12 = loads s12 refl refl refl

p12 : P12
unfolding s12 runs
p12 = does ok12 4094 refl refl refl refl

-- ---- recursion

ok_200 : Loads (loop 200) done
unfolding loop shape ties
ok_200 = loads (loop 200) refl refl refl

ok_199 : Loads (loop 199) done
unfolding loop shape ties
ok_199 = loads (loop 199) refl refl refl

recursion : Recursion
unfolding loop runs
recursion = (refuses ok_200 0 refl refl refl, refuses ok_199 0 refl refl refl)

-- ---- the whole sheet: checked, fitted, run, printed

ok_whole : Loads whole done
unfolding whole s1 shape ties
ok_whole = loads whole refl refl refl

check_whole : Checks whole done 38
unfolding whole s1 checks
check_whole = answers ok_whole 4058 (asked 4096 4096) refl refl refl

of_A_whole : Of (names_in (script_of whole)) (declared (script_of whole) (script_of whole).a) (forest_of (grove_of whole))
unfolding whole s1 checks runs
of_A_whole = of_seq {f = only (Tree.node a (trees (leaf b ∷ leaf c ∷ leaf b ∷ [])))} {g = only (leaf d)}
    (of_label (of_seq {f = only (leaf b)} {g = trees (leaf c ∷ leaf b ∷ [])}
    (of_more {f = only (leaf b)} {g = nil} (of_label of_empty) of_none)
    (of_seq {f = only (leaf c)} {g = only (leaf b)} (of_label of_empty) (of_more {f = only (leaf b)} {g = nil} (of_label of_empty) of_none))))
    (of_label of_empty)

fit_whole : Fitted whole (script_of whole).a done
unfolding whole s1 tables
fit_whole = fits refl ok_whole of_A_whole

pub run_whole : Does whole 33 edited seven
unfolding whole s1 runs
run_whole = does ok_whole 4063 refl refl refl refl

check_room : (sheet_of whole).check_fuel ≤ rows_lent lent_work
unfolding whole s1 tables
check_room = lent 6144 4096 (leb-true 6144 most_lent refl) (leb-true 4096 6144 refl)

run_room : (grove_of whole).rows + (sheet_of whole).run_fuel ≤ rows_lent lent_work
unfolding whole s1 tables
run_room = lent 6144 4101 (leb-true 6144 most_lent refl) (leb-true 4101 6144 refl)

result_room : 7 ≤ rows_lent lent_result
result_room = lent 8192 7 (leb-true 8192 most_lent refl) (leb-true 7 8192 refl)

framed_whole : framed (bundle_of whole) ≡ true
unfolding whole s1 frames
framed_whole = refl

read_whole : sheet_in (bundle_of whole) ≡ whole
unfolding whole s1 frames
read_whole = refl

printed : Printed
unfolding tables listing codes digits fields row_lines
printed = (
  told {u = 38} {v = 33} {root = 7} {after = bytes_of (joined seven) ++ drop 56 lent_result} framed_whole (rw read_whole (check_whole lent_work check_room))
      (rw read_whole fit_whole) (rw read_whole (run_whole.reply lent_work lent_result run_room result_room)),
  λ rest. refl,
)

applies : Applied whole lent_work (replicate 64 9) done 38 33 7 (bytes_of (joined seven) ++ replicate 8 9)
applies = applied (check_whole lent_work check_room) fit_whole (run_whole.reply lent_work (replicate 64 9) run_room (leb-true 7 8 refl))

-- ---- all of it

pub worked : Worked
worked = record {
  p1 = p1;
  p2 = p2;
  p3 = p3;
  p4 = p4;
  p5 = p5;
  p6 = p6;
  p7 = p7;
  p8 = p8;
  p9 = p9;
  p10 = p10;
  p11 = p11;
  p12 = p12;
  recursion = recursion;
  printed = printed;
  met = record { loaded = ok_whole; checked = check_whole lent_work check_room; fitted = fit_whole; of_A = of_A_whole };
  applies = applies;
  of_B = apply_sound applies;
}
