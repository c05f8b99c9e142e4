-- Small sheets, one for each way to be stuck, to be mismatched and to be tied that the twelve leave open, and for children of a text or bool: each refuses a slip in a definition. By computation;
-- rows and units are those that the independent second program gives.
use Rattle.std.specs.Prelude.{ℕ, ◌+◌, ◌-◌, ◌≡◌, refl, true, ◌&&◌, List, [], ◌∷◌, eqb, ltb}
use Rattle.meaning.specs.Sheet.{sheet_of, script_of}
use Rattle.meaning.specs.Forest.{only}
use Rattle.meaning.specs.Types.{Ty, of_empty, of_label, of_name, names_in, Fertile}
use Rattle.meaning.specs.Walk.{Place, of_query, of_statement, gives, stops}
use Rattle.meaning.specs.Walk as walk
use Rattle.meaning.specs.Check.{check_walk}
use Rattle.meaning.specs.Shape.{shapely}
use Rattle.meaning.specs.Places.{tied, NoneBarren}
use Rattle.meaning.specs.Reply.{tie, mismatch, stuck, done, refused, Loads, is_tied, run_settled}
use Rattle.meaning.specs.Theorems.Worked.Sheets.{Row, tr, row, small, typed}
use Rattle.meaning.specs.Theorems.Worked.Ties.{none_tied}
use Rattle.meaning.specs.Theorems.Worked.Ties.{tie as tie-of}
use Rattle.meaning.specs.Theorems.Worked.Stated.{shape, ties, runs, checks, b, leaf, Refuses, Checks, no_names, one_name, loads, refuses, Passing, check_settled, answers, in_itself}

-- a sheet, the place where it is refused and the units; or the two rows that are tied
pub record Trial : Type 0 where
  pub sheet : List ℕ
  pub place : Place
  pub units : ℕ

abbrev pub Each : (Trial → Type 0) → List Trial → Type 0
Each P [] = Unit {0}
Each P (t ∷ l) = P t × Each P l

-- ---- runs that are stuck

pub record Sticks (t : Trial) : Type 0 where
  pub reply : Refuses t.sheet (stuck t.place) t.units

sticks : {t : Trial} → shapely t.sheet ≡ true → (script_of t.sheet).names ≡ 0 → none_tied (script_of t.sheet) (λ x y. true) ≡ true
    → run_settled t.sheet ≡ record { verdict = stops (walk.Stop.stuck t.place); left = 4096 - t.units } → t.units + (4096 - t.units) ≡ (sheet_of t.sheet).run_fuel → Sticks t
sticks {t} s n u e p = record { reply = refuses (loads t.sheet s n u) (4096 - t.units) e refl p }

abbrev none : List Row
none = []

abbrev one_a : List Row
one_a = row 4 1 0 0 ∷ []

abbrev a_and_d : List Row
a_and_d = row 4 4 0 0 ∷ row 4 1 0 1 ∷ []

abbrev one_text : List Row
one_text = row 1 0 2 0 ∷ []

abbrev one_bool : List Row
one_bool = row 3 0 0 0 ∷ []

abbrev a_and_text : List Row
a_and_text = row 1 0 2 0 ∷ row 4 1 0 1 ∷ []

-- queries, statements, main, forest; the place and the units
abbrev trial : List Row → List Row → ℕ → List Row → Place → ℕ → Trial
trial queries statements main rows place units = record { sheet = small queries statements main rows; place = place; units = units }

abbrev pub stuck_trials : List Trial
stuck_trials =
    trial (row 1 0 0 0 ∷ []) (row 4 1 0 0 ∷ []) 1 one_a (of_statement 1) 1  -- insert on a
    ∷ trial [] (row 1 0 0 0 ∷ row 9 1 0 1 ∷ []) 2 none (of_statement 2) 1  -- text? on ()
    ∷ trial [] (row 1 0 0 0 ∷ row 9 1 0 1 ∷ []) 2 a_and_d (of_statement 2) 1  -- text? on a, d
    ∷ trial [] (row 1 0 0 0 ∷ row 9 2 1 1 ∷ []) 2 none (of_statement 2) 1  -- label? on ()
    ∷ trial [] (row 1 0 0 0 ∷ row 9 2 1 1 ∷ []) 2 a_and_d (of_statement 2) 1  -- label? on a, d
    ∷ trial [] (row 1 0 0 0 ∷ row 9 3 0 1 ∷ []) 2 none (of_statement 2) 1  -- any tree? on ()
    ∷ trial [] (row 1 0 0 0 ∷ row 9 3 0 1 ∷ []) 2 a_and_d (of_statement 2) 1  -- any tree? on a, d
    ∷ trial [] (row 6 2 0 0 ∷ []) 1 none (of_statement 1) 1  -- rename on ()
    ∷ trial [] (row 6 2 0 0 ∷ []) 1 a_and_d (of_statement 1) 1  -- rename on a, d
    ∷ trial [] (row 6 2 0 0 ∷ []) 1 one_text (of_statement 1) 1  -- rename on a text
    ∷ trial [] (row 6 2 0 0 ∷ []) 1 one_bool (of_statement 1) 1  -- rename on a bool
    ∷ trial [] (row 1 0 0 0 ∷ row 10 1 0 0 ∷ []) 2 none (of_statement 2) 1  -- children on ()
    ∷ trial [] (row 1 0 0 0 ∷ row 10 1 0 0 ∷ []) 2 a_and_d (of_statement 2) 1  -- children on a, d
    ∷ trial [] (row 1 0 0 0 ∷ row 10 1 0 0 ∷ []) 2 one_bool (of_statement 2) 1  -- children on a bool
    ∷ trial (row 1 0 0 0 ∷ []) (row 1 0 0 0 ∷ row 1 0 0 0 ∷ row 3 1 1 2 ∷ []) 3 none (of_statement 3) 2  -- if ()
    ∷ trial (row 5 0 0 0 ∷ row 5 0 0 0 ∷ row 2 1 2 0 ∷ []) (row 1 0 0 0 ∷ row 1 0 0 0 ∷ row 3 3 1 2 ∷ []) 3 none (of_statement 3) 7  -- if true, true
    ∷ trial (row 4 0 2 0 ∷ []) (row 1 0 0 0 ∷ row 1 0 0 0 ∷ row 3 1 1 2 ∷ []) 3 none (of_statement 3) 3  -- if a text
    ∷ trial (row 1 0 0 0 ∷ row 3 1 1 0 ∷ []) (row 1 0 0 0 ∷ row 1 0 0 0 ∷ row 3 2 1 2 ∷ []) 3 none (of_statement 3) 4  -- if a
    ∷ trial (row 1 0 0 0 ∷ row 4 0 2 0 ∷ row 10 1 2 0 ∷ []) (row 4 3 0 0 ∷ []) 1 none (of_query 3) 5  -- same (), "ab"
    ∷ trial (row 4 0 2 0 ∷ row 1 0 0 0 ∷ row 10 1 2 0 ∷ []) (row 4 3 0 0 ∷ []) 1 none (of_query 3) 5  -- same "ab", ()
    ∷ trial (row 5 0 0 0 ∷ row 5 0 0 0 ∷ row 2 1 2 0 ∷ row 4 0 2 0 ∷ row 10 3 4 0 ∷ []) (row 4 5 0 0 ∷ []) 1 none (of_query 5) 10  -- same true, true, "ab"
    ∷ trial (row 4 0 2 0 ∷ row 5 0 0 0 ∷ row 5 0 0 0 ∷ row 2 2 3 0 ∷ row 10 1 4 0 ∷ []) (row 4 5 0 0 ∷ []) 1 none (of_query 5) 10  -- same "ab", true, true
    ∷ trial (row 5 0 0 0 ∷ row 4 0 2 0 ∷ row 10 1 2 0 ∷ []) (row 4 3 0 0 ∷ []) 1 none (of_query 3) 6  -- same true, "ab"
    ∷ trial (row 4 0 2 0 ∷ row 5 0 0 0 ∷ row 10 1 2 0 ∷ []) (row 4 3 0 0 ∷ []) 1 none (of_query 3) 6  -- same "ab", true
    ∷ trial (row 1 0 0 0 ∷ row 3 1 1 0 ∷ row 4 0 2 0 ∷ row 10 2 3 0 ∷ []) (row 4 4 0 0 ∷ []) 1 none (of_query 4) 7  -- same a, "ab"
    ∷ trial (row 4 0 2 0 ∷ row 1 0 0 0 ∷ row 3 1 2 0 ∷ row 10 1 3 0 ∷ []) (row 4 4 0 0 ∷ []) 1 none (of_query 4) 7  -- same "ab", a
    -- if () as a query, joined to true: the copy of true is not yet paid
    ∷ trial (row 5 0 0 0 ∷ row 1 0 0 0 ∷ row 1 0 0 0 ∷ row 1 0 0 0 ∷ row 9 2 3 4 ∷ row 2 1 5 0 ∷ []) (row 4 6 0 0 ∷ []) 1 none (of_query 5) 6
    ∷ trial [] (row 6 2 0 0 ∷ row 13 1 0 0 ∷ []) 2 a_and_text (of_statement 1) 7  -- iter [rename b] on a, "ab": the first result is paid before the second tree
    -- left [insert true]; insert () on the result: the new part is paid
    ∷ trial (row 5 0 0 0 ∷ row 1 0 0 0 ∷ []) (row 4 1 0 0 ∷ row 11 1 0 0 ∷ row 4 2 0 0 ∷ row 2 2 3 0 ∷ []) 4 none (of_statement 3) 7
    ∷ []

pub all_stick : Each Sticks stuck_trials
unfolding small shape ties runs
all_stick = (
  sticks refl refl refl refl refl,
  (
    sticks refl refl refl refl refl,
    (
      sticks refl refl refl refl refl,
      (
        sticks refl refl refl refl refl,
        (
          sticks refl refl refl refl refl,
          (
            sticks refl refl refl refl refl,
            (
              sticks refl refl refl refl refl,
              (
                sticks refl refl refl refl refl,
                (
                  sticks refl refl refl refl refl,
                  (
                    sticks refl refl refl refl refl,
                    (
                      sticks refl refl refl refl refl,
                      (
                        sticks refl refl refl refl refl,
                        (
                          sticks refl refl refl refl refl,
                          (
                            sticks refl refl refl refl refl,
                            (
                              sticks refl refl refl refl refl,
                              (
                                sticks refl refl refl refl refl,
                                (
                                  sticks refl refl refl refl refl,
                                  (
                                    sticks refl refl refl refl refl,
                                    (
                                      sticks refl refl refl refl refl,
                                      (
                                        sticks refl refl refl refl refl,
                                        (
                                          sticks refl refl refl refl refl,
                                          (
                                            sticks refl refl refl refl refl,
                                            (
                                              sticks refl refl refl refl refl,
                                              (
                                                sticks refl refl refl refl refl,
                                                (
                                                  sticks refl refl refl refl refl,
                                                  (
                                                    sticks refl refl refl refl refl,
                                                    (sticks refl refl refl refl refl, (sticks refl refl refl refl refl, (sticks refl refl refl refl refl, tt))),
                                                  ),
                                                ),
                                              ),
                                            ),
                                          ),
                                        ),
                                      ),
                                    ),
                                  ),
                                ),
                              ),
                            ),
                          ),
                        ),
                      ),
                    ),
                  ),
                ),
              ),
            ),
          ),
        ),
      ),
    ),
  ),
)

-- ---- checks that are mismatched

pub record Mismatches (t : Trial) : Type 0 where
  pub reply : Checks t.sheet (refused (mismatch t.place)) t.units

mismatches : {t : Trial} → shapely t.sheet ≡ true → (script_of t.sheet).names ≡ 0 → none_tied (script_of t.sheet) (λ x y. true) ≡ true
    → Passing (names_in (script_of t.sheet)) (check_walk (script_of t.sheet))
    → check_settled t.sheet ≡ record { verdict = stops (walk.Stop.mismatch t.place); left = 4096 - t.units } → t.units + (4096 - t.units) ≡ (sheet_of t.sheet).check_fuel → Mismatches t
mismatches {t} s n u h e p = record { reply = answers (loads t.sheet s n u) (4096 - t.units) h e refl p }

-- types, the last of them A; queries, statements, main; the place and the units
abbrev typing : List Row → List Row → List Row → ℕ → Place → ℕ → Trial
typing types queries statements main place units = record { sheet = typed [] types queries statements main; place = place; units = units }

abbrev pub mismatch_trials : List Trial
mismatch_trials =
    typing (tr 1 0 0 ∷ tr 4 1 1 ∷ tr 7 2 0 ∷ []) [] (row 1 0 0 0 ∷ row 9 1 0 1 ∷ []) 2 (of_statement 2) 1  -- text? on a*
    ∷ typing (tr 1 0 0 ∷ tr 4 1 1 ∷ tr 7 2 0 ∷ []) [] (row 1 0 0 0 ∷ row 9 2 1 1 ∷ []) 2 (of_statement 2) 1  -- a? on a*
    ∷ typing (tr 1 0 0 ∷ tr 4 1 1 ∷ tr 7 2 0 ∷ []) [] (row 1 0 0 0 ∷ row 9 3 0 1 ∷ []) 2 (of_statement 2) 1  -- any tree? on a*
    ∷ typing (tr 2 0 0 ∷ []) [] (row 1 0 0 0 ∷ row 10 1 0 0 ∷ []) 2 (of_statement 2) 1  -- children on text
    ∷ typing (tr 3 0 0 ∷ []) [] (row 1 0 0 0 ∷ row 10 1 0 0 ∷ []) 2 (of_statement 2) 1  -- children on bool
    ∷ typing (tr 1 0 0 ∷ tr 4 1 1 ∷ tr 7 2 0 ∷ []) [] (row 1 0 0 0 ∷ row 10 1 0 0 ∷ []) 2 (of_statement 2) 1  -- children on a*
    ∷ typing (tr 2 0 0 ∷ []) [] (row 6 1 0 0 ∷ []) 1 (of_statement 1) 1  -- rename on text
    ∷ typing (tr 3 0 0 ∷ []) [] (row 6 1 0 0 ∷ []) 1 (of_statement 1) 1  -- rename on bool
    ∷ typing (tr 1 0 0 ∷ tr 4 1 1 ∷ tr 7 2 0 ∷ []) [] (row 6 1 0 0 ∷ []) 1 (of_statement 1) 1  -- rename on a*
    ∷ []

pub all_mismatch : Each Mismatches mismatch_trials
unfolding typed shape ties checks
all_mismatch = (
  mismatches refl refl refl tt refl refl,
  (
    mismatches refl refl refl tt refl refl,
    (
      mismatches refl refl refl tt refl refl,
      (
        mismatches refl refl refl tt refl refl,
        (
          mismatches refl refl refl tt refl refl,
          (
            mismatches refl refl refl tt refl refl,
            (mismatches refl refl refl tt refl refl, (mismatches refl refl refl tt refl refl, (mismatches refl refl refl tt refl refl, tt))),
          ),
        ),
      ),
    ),
  ),
)

-- ---- checks that are done: children of a text or bool variable are (), and a row is written

pub record Passes (t : Trial) : Type 0 where
  pub reply : Checks t.sheet done t.units

passes : (t : Trial) → shapely t.sheet ≡ true → (script_of t.sheet).names ≡ 0 → none_tied (script_of t.sheet) (λ x y. true) ≡ true
    → Passing (names_in (script_of t.sheet)) (check_walk (script_of t.sheet))
    → check_settled t.sheet ≡ record { verdict = gives Ty.empty; left = 4096 - t.units } → t.units + (4096 - t.units) ≡ (sheet_of t.sheet).check_fuel → Passes t
passes t s n u h e p = record { reply = answers (loads t.sheet s n u) (4096 - t.units) h e refl p }

-- insert the children of each tree that a query gives
abbrev child : Row → Trial
child first = typing (tr 1 0 0 ∷ []) (first ∷ row 11 0 0 0 ∷ row 13 1 2 0 ∷ []) (row 4 3 0 0 ∷ []) 1 (of_query 2) 7

-- a text, a bool
abbrev pub child_trials : List Trial
child_trials = child (row 4 0 0 0) ∷ child (row 5 0 0 0) ∷ []

pub all_childless : Each Passes child_trials
unfolding typed shape ties checks
all_childless = (
  passes (child (row 4 0 0 0)) refl refl refl (in_itself refl refl, (in_itself refl refl, tt)) refl refl,
  (passes (child (row 5 0 0 0)) refl refl refl (in_itself refl refl, (in_itself refl refl, tt)) refl refl, tt),
)

-- ---- types that are tied

pub record Ties (t : Trial) : Type 0 where
  pub reply : Loads t.sheet (refused (tie t.place.row t.place.flag))

module _ {t : Trial} (s : shapely t.sheet ≡ true) where
  tie_so : NoneBarren (script_of t.sheet) → tied (script_of t.sheet) t.place.row t.place.flag ≡ true → none_tied (script_of t.sheet) (λ x y. ltb x t.place.row) ≡ true
      → none_tied (script_of t.sheet) (λ x y. eqb x t.place.row && ltb y t.place.flag) ≡ true → Ties t
  tie_so f e l r = record { reply = is_tied s f (tie-of (script_of t.sheet) t.place.row t.place.flag e l r) }

  tie_unnamed : (script_of t.sheet).names ≡ 0 → tied (script_of t.sheet) t.place.row t.place.flag ≡ true → none_tied (script_of t.sheet) (λ x y. ltb x t.place.row) ≡ true
      → none_tied (script_of t.sheet) (λ x y. eqb x t.place.row && ltb y t.place.flag) ≡ true → Ties t
  tie_unnamed n = tie_so (no_names t.sheet n)

  tie_named : (script_of t.sheet).names ≡ 1 → Fertile (names_in (script_of t.sheet)) 1 → tied (script_of t.sheet) t.place.row t.place.flag ≡ true
      → none_tied (script_of t.sheet) (λ x y. ltb x t.place.row) ≡ true
      → none_tied (script_of t.sheet) (λ x y. eqb x t.place.row && ltb y t.place.flag) ≡ true → Ties t
  tie_named n f = tie_so (one_name t.sheet n f)

-- names, types, the last of them A; the two rows
abbrev tying : List ℕ → List Row → ℕ → ℕ → Trial
tying names types x y = record { sheet = typed names types [] (row 1 0 0 0 ∷ []) 1; place = record { row = x; flag = y }; units = 0 }

abbrev pub tie_trials : List Trial
tie_trials =
    tying [] (tr 2 0 0 ∷ tr 7 1 0 ∷ tr 2 0 0 ∷ tr 5 2 3 ∷ []) 1 3  -- text*, text
    ∷ tying [] (tr 3 0 0 ∷ tr 7 1 0 ∷ tr 3 0 0 ∷ tr 5 2 3 ∷ []) 1 3  -- bool*, bool
    -- (a, (b | ())), (b | c): behind a, where what may be left out is
    ∷ tying [] (tr 1 0 0 ∷ tr 4 1 1 ∷ tr 1 0 0 ∷ tr 4 2 3 ∷ tr 1 0 0 ∷ tr 6 4 5 ∷ tr 5 2 6 ∷ tr 1 0 0 ∷ tr 4 2 8 ∷ tr 1 0 0 ∷ tr 4 3 10 ∷ tr 6 9 11 ∷ tr 5 7 12 ∷ []) 4 9
    -- ((a | ()), b, (a | ()))*: behind b, by the loop back alone
    ∷ tying [] (tr 1 0 0 ∷ tr 4 1 1 ∷ tr 1 0 0 ∷ tr 6 2 3 ∷ tr 1 0 0 ∷ tr 4 2 5 ∷ tr 1 0 0 ∷ tr 4 1 7 ∷ tr 1 0 0 ∷ tr 6 8 9 ∷ tr 5 6 10 ∷ tr 5 4 11 ∷ tr 7 12 0 ∷ []) 2 8
    ∷ tying [] (tr 1 0 0 ∷ tr 4 1 1 ∷ tr 7 2 0 ∷ tr 1 0 0 ∷ tr 4 1 4 ∷ tr 5 3 5 ∷ tr 4 4 6 ∷ []) 2 5  -- d[a*, a]: in a content
    ∷ []

pub all_tie : Each Ties tie_trials
unfolding typed shape ties
all_tie = (
  tie_unnamed refl refl refl refl refl,
  (
    tie_unnamed refl refl refl refl refl,
    (tie_unnamed refl refl refl refl refl, (tie_unnamed refl refl refl refl refl, (tie_unnamed refl refl refl refl refl, tt))),
  ),
)

-- a name acts as its label row
abbrev pub name_trials : List Trial
name_trials =
    tying (2 ∷ []) (tr 1 0 0 ∷ tr 4 2 1 ∷ tr 8 1 0 ∷ tr 7 3 0 ∷ tr 8 1 0 ∷ tr 5 4 5 ∷ []) 3 5  -- X*, X, where X = b
    ∷ tying (2 ∷ []) (tr 1 0 0 ∷ tr 4 2 1 ∷ tr 8 1 0 ∷ tr 7 3 0 ∷ tr 1 0 0 ∷ tr 4 2 5 ∷ tr 5 4 6 ∷ []) 3 6  -- X*, b, where X = b
    ∷ []

pub names_tie : Each Ties name_trials
unfolding typed shape ties checks
names_tie = (tie_named refl refl (only (leaf b), of_name (of_label of_empty)) refl refl refl, (tie_named refl refl (only (leaf b), of_name (of_label of_empty)) refl refl refl, tt))
