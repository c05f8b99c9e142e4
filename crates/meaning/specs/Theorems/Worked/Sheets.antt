-- The sheets of document 01's "Worked on paper", row by row as the document lists them, made into bytes by one function.
use Rattle.std.specs.Prelude.{ℕ, suc, List, [], ◌∷◌, ◌++◌, length}
use Rattle.meaning.specs.Words.{bytes_of}

-- one row, a word each
abbrev pub Row : Type 0
Row = List ℕ

-- a type row: kind, p, q
abbrev pub tr : ℕ → ℕ → ℕ → Row
tr k p q = k ∷ p ∷ q ∷ []

-- a query, statement or forest row: kind, p, q, and r or next
abbrev pub row : ℕ → ℕ → ℕ → ℕ → Row
row k p q r = k ∷ p ∷ q ∷ r ∷ []

-- a procedure: parameter, parameter, input, output, body
abbrev pub pr : ℕ → ℕ → ℕ → ℕ → ℕ → Row
pr x y i o b = x ∷ y ∷ i ∷ o ∷ b ∷ []

pub record Tables : Type 0 where
  pub names : List ℕ
  pub types : List Row
  pub queries : List Row
  pub statements : List Row
  pub procedures : List Row
  pub rows : List Row
  pub pool : List ℕ
  pub a : ℕ
  pub b : ℕ
  pub main : ℕ
  pub root : ℕ
  pub check_fuel : ℕ
  pub run_fuel : ℕ

unfoldable pub joined : List Row → List ℕ
joined [] = []
joined (r ∷ l) = r ++ joined l

-- counts, roots and fuels; the tables in the order of the counts; the pool
unfoldable pub sheet : Tables → List ℕ
sheet t = bytes_of
    ((length t.names ∷ length t.types ∷ length t.queries ∷ length t.statements ∷ length t.procedures ∷ length t.rows ∷ length t.pool
    ∷ t.a ∷ t.b ∷ t.main ∷ t.root ∷ t.check_fuel ∷ t.run_fuel ∷ [])
    ++ t.names ++ joined t.types ++ joined t.queries ++ joined t.statements ++ joined t.procedures ++ joined t.rows)
    ++ t.pool

-- P1 to P4. S: iter [a? children [iter [b? right [insert c]]]], on a[b,c,b],d, between P3's two types
unfoldable pub s1 : ℕ → ℕ → List ℕ
unfolding sheet
s1 check_fuel run_fuel = sheet (record {
  names = [];
  types =
      tr 1 0 0  -- 1: ()
      ∷ tr 4 2 1  -- 2: b
      ∷ tr 7 2 0  -- 3: b*
      ∷ tr 1 0 0  -- 4: ()
      ∷ tr 4 3 4  -- 5: c
      ∷ tr 1 0 0  -- 6: ()
      ∷ tr 4 2 6  -- 7: b
      ∷ tr 7 7 0  -- 8: b*
      ∷ tr 5 5 8  -- 9: c, b*
      ∷ tr 5 3 9  -- 10: b*, c, b*
      ∷ tr 4 1 10  -- 11: a[b*, c, b*]
      ∷ tr 1 0 0  -- 12: ()
      ∷ tr 4 4 12  -- 13: d
      ∷ tr 5 11 13  -- 14: a[b*, c, b*], d
      ∷ tr 1 0 0  -- 15: ()
      ∷ tr 4 2 15  -- 16: b
      ∷ tr 1 0 0  -- 17: ()
      ∷ tr 4 3 17  -- 18: c
      ∷ tr 5 16 18  -- 19: b, c
      ∷ tr 7 19 0  -- 20: (b, c)*
      ∷ tr 1 0 0  -- 21: ()
      ∷ tr 4 3 21  -- 22: c
      ∷ tr 1 0 0  -- 23: ()
      ∷ tr 4 2 23  -- 24: b
      ∷ tr 1 0 0  -- 25: ()
      ∷ tr 4 3 25  -- 26: c
      ∷ tr 5 24 26  -- 27: b, c
      ∷ tr 7 27 0  -- 28: (b, c)*
      ∷ tr 5 22 28  -- 29: c, (b, c)*
      ∷ tr 5 20 29  -- 30: (b, c)*, c, (b, c)*
      ∷ tr 4 1 30  -- 31: a[(b, c)*, c, (b, c)*]
      ∷ tr 1 0 0  -- 32: ()
      ∷ tr 4 4 32  -- 33: d
      ∷ tr 5 31 33  -- 34: a[(b, c)*, c, (b, c)*], d
      ∷ [];
  queries =
      row 1 0 0 0  -- 1: ()
      ∷ row 3 3 1 0  -- 2: c
      ∷ [];
  statements =
      row 4 2 0 0  -- 1: insert c
      ∷ row 12 1 0 0  -- 2: right [1]
      ∷ row 9 2 2 2  -- 3: b? [2]
      ∷ row 13 3 0 0  -- 4: iter [3]
      ∷ row 10 4 0 0  -- 5: children [4]
      ∷ row 9 2 1 5  -- 6: a? [5]
      ∷ row 13 6 0 0  -- 7: iter [6]
      ∷ [];
  procedures = [];
  rows =
      row 4 4 0 0  -- 1: d
      ∷ row 4 2 0 0  -- 2: b
      ∷ row 4 3 0 2  -- 3: c, b
      ∷ row 4 2 0 3  -- 4: b, c, b
      ∷ row 4 1 4 1  -- 5: a[4], d
      ∷ [];
  pool = [];
  a = 14;
  b = 34;
  main = 7;
  root = 5;
  check_fuel = check_fuel;
  run_fuel = run_fuel;
})

-- P5: iter on ()
unfoldable pub s5 : List ℕ
unfolding sheet
s5 = sheet (record {
  names = [];
  types =
      tr 1 0 0  -- 1: ()
      ∷ tr 1 0 0  -- 2: ()
      ∷ [];
  queries = [];
  statements =
      row 1 0 0 0  -- 1: skip
      ∷ row 13 1 0 0  -- 2: iter [1]
      ∷ [];
  procedures = [];
  rows = [];
  pool = [];
  a = 1;
  b = 2;
  main = 2;
  root = 0;
  check_fuel = 4096;
  run_fuel = 4096;
})

-- P6: a*, a
unfoldable pub s6 : List ℕ
unfolding sheet
s6 = sheet (record {
  names = [];
  types =
      tr 1 0 0  -- 1: ()
      ∷ tr 4 1 1  -- 2: a
      ∷ tr 7 2 0  -- 3: a*
      ∷ tr 1 0 0  -- 4: ()
      ∷ tr 4 1 4  -- 5: a
      ∷ tr 5 3 5  -- 6: a*, a
      ∷ tr 1 0 0  -- 7: ()
      ∷ [];
  queries = [];
  statements =
      row 1 0 0 0  -- 1: skip
      ∷ [];
  procedures = [];
  rows = [];
  pool = [];
  a = 6;
  b = 7;
  main = 1;
  root = 0;
  check_fuel = 4096;
  run_fuel = 4096;
})

-- P6: (a*)*
unfoldable pub s6_star : List ℕ
unfolding sheet
s6_star = sheet (record {
  names = [];
  types =
      tr 1 0 0  -- 1: ()
      ∷ tr 4 1 1  -- 2: a
      ∷ tr 7 2 0  -- 3: a*
      ∷ tr 7 3 0  -- 4: (a*)*
      ∷ tr 1 0 0  -- 5: ()
      ∷ [];
  queries = [];
  statements =
      row 1 0 0 0  -- 1: skip
      ∷ [];
  procedures = [];
  rows = [];
  pool = [];
  a = 4;
  b = 5;
  main = 1;
  root = 0;
  check_fuel = 4096;
  run_fuel = 4096;
})

-- P7: a*, row 3, and (a|b)*, row 9; from the first row given to the second
unfoldable pub s7 : ℕ → ℕ → List ℕ
unfolding sheet
s7 a b = sheet (record {
  names = [];
  types =
      tr 1 0 0  -- 1: ()
      ∷ tr 4 1 1  -- 2: a
      ∷ tr 7 2 0  -- 3: a*
      ∷ tr 1 0 0  -- 4: ()
      ∷ tr 4 1 4  -- 5: a
      ∷ tr 1 0 0  -- 6: ()
      ∷ tr 4 2 6  -- 7: b
      ∷ tr 6 5 7  -- 8: a|b
      ∷ tr 7 8 0  -- 9: (a|b)*
      ∷ [];
  queries = [];
  statements =
      row 1 0 0 0  -- 1: skip
      ∷ [];
  procedures = [];
  rows = [];
  pool = [];
  a = a;
  b = b;
  main = 1;
  root = 0;
  check_fuel = 4096;
  run_fuel = 4096;
})

-- P8: X = a[X]
unfoldable pub s8 : List ℕ
unfolding sheet
s8 = sheet (record {
  names = 2 ∷ [];
  types =
      tr 8 1 0  -- 1: X
      ∷ tr 4 1 1  -- 2: a[X], what X stands for
      ∷ tr 1 0 0  -- 3: ()
      ∷ tr 1 0 0  -- 4: ()
      ∷ [];
  queries = [];
  statements =
      row 1 0 0 0  -- 1: skip
      ∷ [];
  procedures = [];
  rows = [];
  pool = [];
  a = 3;
  b = 4;
  main = 1;
  root = 0;
  check_fuel = 4096;
  run_fuel = 4096;
})

-- P8: X = a[X*]
unfoldable pub s8_star : List ℕ
unfolding sheet
s8_star = sheet (record {
  names = 3 ∷ [];
  types =
      tr 8 1 0  -- 1: X
      ∷ tr 7 1 0  -- 2: X*
      ∷ tr 4 1 2  -- 3: a[X*], what X stands for
      ∷ tr 1 0 0  -- 4: ()
      ∷ tr 1 0 0  -- 5: ()
      ∷ [];
  queries = [];
  statements =
      row 1 0 0 0  -- 1: skip
      ∷ [];
  procedures = [];
  rows = [];
  pool = [];
  a = 4;
  b = 5;
  main = 1;
  root = 0;
  check_fuel = 4096;
  run_fuel = 4096;
})

-- P9: children on a text
unfoldable pub s9 : List ℕ
unfolding sheet
s9 = sheet (record {
  names = [];
  types =
      tr 1 0 0  -- 1: ()
      ∷ tr 1 0 0  -- 2: ()
      ∷ [];
  queries = [];
  statements =
      row 1 0 0 0  -- 1: skip
      ∷ row 10 1 0 0  -- 2: children [1]
      ∷ [];
  procedures = [];
  rows =
      row 1 0 2 0  -- 1: "ab"
      ∷ [];
  pool = 97 ∷ 98 ∷ [];
  a = 1;
  b = 2;
  main = 2;
  root = 1;
  check_fuel = 4096;
  run_fuel = 4096;
})

-- P10: delete on a, d
unfoldable pub s10 : List ℕ
unfolding sheet
s10 = sheet (record {
  names = [];
  types =
      tr 1 0 0  -- 1: ()
      ∷ tr 1 0 0  -- 2: ()
      ∷ [];
  queries = [];
  statements =
      row 5 0 0 0  -- 1: delete
      ∷ [];
  procedures = [];
  rows =
      row 4 4 0 0  -- 1: d
      ∷ row 4 1 0 1  -- 2: a, d
      ∷ [];
  pool = [];
  a = 1;
  b = 2;
  main = 1;
  root = 2;
  check_fuel = 4096;
  run_fuel = 4096;
})

-- P11: same of "ab" at two offsets, inserted
unfoldable pub s11 : List ℕ
unfolding sheet
s11 = sheet (record {
  names = [];
  types =
      tr 1 0 0  -- 1: ()
      ∷ tr 1 0 0  -- 2: ()
      ∷ [];
  queries =
      row 4 0 2 0  -- 1: "ab", at 0
      ∷ row 4 2 2 0  -- 2: "ab", at 2
      ∷ row 10 1 2 0  -- 3: same
      ∷ [];
  statements =
      row 4 3 0 0  -- 1: insert [3]
      ∷ [];
  procedures = [];
  rows = [];
  pool = 97 ∷ 98 ∷ 97 ∷ 98 ∷ [];
  a = 1;
  b = 2;
  main = 1;
  root = 0;
  check_fuel = 4096;
  run_fuel = 7;
})

-- P12: rename a on a
unfoldable pub s12 : List ℕ
unfolding sheet
s12 = sheet (record {
  names = [];
  types =
      tr 1 0 0  -- 1: ()
      ∷ tr 4 1 1  -- 2: a
      ∷ tr 1 0 0  -- 3: ()
      ∷ tr 4 1 3  -- 4: a
      ∷ [];
  queries = [];
  statements =
      row 6 1 0 0  -- 1: rename a
      ∷ [];
  procedures = [];
  rows =
      row 4 1 0 0  -- 1: a
      ∷ [];
  pool = [];
  a = 2;
  b = 4;
  main = 1;
  root = 1;
  check_fuel = 4096;
  run_fuel = 4096;
})

-- a main row that calls a procedure that only calls itself
unfoldable pub loop : ℕ → List ℕ
unfolding sheet
loop run_fuel = sheet (record {
  names = [];
  types =
      tr 1 0 0  -- 1: ()
      ∷ tr 1 0 0  -- 2: ()
      ∷ tr 1 0 0  -- 3: ()
      ∷ tr 1 0 0  -- 4: ()
      ∷ [];
  queries = [];
  statements =
      row 14 1 0 0  -- 1: call procedure 1, its body
      ∷ row 14 1 0 0  -- 2: call procedure 1, main
      ∷ [];
  procedures =
      pr 0 0 3 4 1  -- 1: () to (), no parameters
      ∷ [];
  rows = [];
  pool = [];
  a = 1;
  b = 2;
  main = 2;
  root = 0;
  check_fuel = 4096;
  run_fuel = run_fuel;
})

-- Every kind of row, and a sheet with a name and a procedure. f(p, q) is: insert p, q. Main is: let z = "zz" in (left [insert c, false, d]; right [f("x", true)]; iter [a? snapshot s in (rename b;
-- children [let v = for t in s return pick b from children(t) in if "ab" = "ab" then (delete; insert for u in v return children(u), let w = d in if "ab" = "ba" then () else w) else skip])]; iter
-- [any tree? skip]; iter [text? delete])
unfoldable pub kinds : List ℕ
unfolding sheet
kinds = sheet (record {
  names = 2 ∷ [];
  types =
      tr 2 0 0  -- 1: text
      ∷ tr 4 2 1  -- 2: b[text]
      ∷ tr 2 0 0  -- 3: text
      ∷ tr 3 0 0  -- 4: bool
      ∷ tr 1 0 0  -- 5: ()
      ∷ tr 2 0 0  -- 6: text
      ∷ tr 3 0 0  -- 7: bool
      ∷ tr 5 6 7  -- 8: text, bool
      ∷ tr 8 1 0  -- 9: X
      ∷ tr 7 9 0  -- 10: X*
      ∷ tr 1 0 0  -- 11: ()
      ∷ tr 4 3 11  -- 12: c
      ∷ tr 5 10 12  -- 13: X*, c
      ∷ tr 4 1 13  -- 14: a[X*, c]
      ∷ tr 2 0 0  -- 15: text
      ∷ tr 3 0 0  -- 16: bool
      ∷ tr 3 0 0  -- 17: bool
      ∷ tr 1 0 0  -- 18: ()
      ∷ tr 4 3 18  -- 19: c
      ∷ tr 6 17 19  -- 20: bool | c
      ∷ tr 5 16 20  -- 21: bool, (bool | c)
      ∷ tr 5 15 21  -- 22: text, bool, (bool | c)
      ∷ tr 5 14 22  -- 23: a[X*, c], text, bool, (bool | c)
      ∷ tr 1 0 0  -- 24: ()
      ∷ tr 4 3 24  -- 25: c
      ∷ tr 3 0 0  -- 26: bool
      ∷ tr 1 0 0  -- 27: ()
      ∷ tr 4 4 27  -- 28: d
      ∷ tr 5 26 28  -- 29: bool, d
      ∷ tr 5 25 29  -- 30: c, bool, d
      ∷ tr 2 0 0  -- 31: text
      ∷ tr 1 0 0  -- 32: ()
      ∷ tr 1 0 0  -- 33: ()
      ∷ tr 4 4 33  -- 34: d
      ∷ tr 6 32 34  -- 35: () | d
      ∷ tr 5 31 35  -- 36: text, (() | d)
      ∷ tr 7 36 0  -- 37: (text, (() | d))*
      ∷ tr 1 0 0  -- 38: ()
      ∷ tr 5 37 38  -- 39: (text, (() | d))*, ()
      ∷ tr 8 1 0  -- 40: X
      ∷ tr 7 40 0  -- 41: X*
      ∷ tr 1 0 0  -- 42: ()
      ∷ tr 4 3 42  -- 43: c
      ∷ tr 5 41 43  -- 44: X*, c
      ∷ tr 6 39 44  -- 45: ((text, (() | d))*, ()) | (X*, c)
      ∷ tr 4 2 45  -- 46: b[((text, (() | d))*, ()) | (X*, c)]
      ∷ tr 1 0 0  -- 47: ()
      ∷ tr 3 0 0  -- 48: bool
      ∷ tr 3 0 0  -- 49: bool
      ∷ tr 1 0 0  -- 50: ()
      ∷ tr 4 3 50  -- 51: c
      ∷ tr 6 49 51  -- 52: bool | c
      ∷ tr 5 48 52  -- 53: bool, (bool | c)
      ∷ tr 5 47 53  -- 54: (), bool, (bool | c)
      ∷ tr 5 46 54  -- 55: b[((text, (() | d))*, ()) | (X*, c)], (), bool, (bool | c)
      ∷ tr 5 30 55  -- 56: (c, bool, d), b[((text, (() | d))*, ()) | (X*, c)], (), bool, (bool | c)
      ∷ tr 1 0 0  -- 57: ()
      ∷ tr 3 0 0  -- 58: bool
      ∷ tr 5 57 58  -- 59: (), bool
      ∷ tr 5 56 59  -- 60: ((c, bool, d), b[((text, (() | d))*, ()) | (X*, c)], (), bool, (bool | c)), (), bool
      ∷ [];
  queries =
      row 7 0 0 0  -- 1: x0
      ∷ row 7 1 0 0  -- 2: x1
      ∷ row 2 1 2 0  -- 3: [1], [2]
      ∷ row 4 0 2 0  -- 4: "zz"
      ∷ row 1 0 0 0  -- 5: ()
      ∷ row 3 3 5 0  -- 6: c[5]
      ∷ row 6 0 0 0  -- 7: false
      ∷ row 1 0 0 0  -- 8: ()
      ∷ row 3 4 8 0  -- 9: d[8]
      ∷ row 2 7 9 0  -- 10: [7], [9]
      ∷ row 2 6 10 0  -- 11: [6], [10]
      ∷ row 4 2 1 0  -- 12: "x"
      ∷ row 5 0 0 0  -- 13: true
      ∷ row 7 1 0 0  -- 14: x1
      ∷ row 11 2 0 0  -- 15: children of x2
      ∷ row 12 15 2 0  -- 16: pick from [15] b
      ∷ row 13 14 16 0  -- 17: for each of [14] return [16]
      ∷ row 4 3 2 0  -- 18: "ab"
      ∷ row 4 3 2 0  -- 19: "ab"
      ∷ row 10 18 19 0  -- 20: same [18], [19]
      ∷ row 7 2 0 0  -- 21: x2
      ∷ row 11 3 0 0  -- 22: children of x3
      ∷ row 1 0 0 0  -- 23: ()
      ∷ row 3 4 23 0  -- 24: d[23]
      ∷ row 4 3 2 0  -- 25: "ab"
      ∷ row 4 5 2 0  -- 26: "ba"
      ∷ row 10 25 26 0  -- 27: same [25], [26]
      ∷ row 1 0 0 0  -- 28: ()
      ∷ row 7 4 0 0  -- 29: x4
      ∷ row 9 27 28 29  -- 30: if [27] then [28] else [29]
      ∷ row 8 24 30 0  -- 31: let [24] in [30]
      ∷ row 2 22 31 0  -- 32: [22], [31]
      ∷ row 13 21 32 0  -- 33: for each of [21] return [32]
      ∷ [];
  statements =
      row 4 3 0 0  -- 1: insert query [3]
      ∷ row 4 11 0 0  -- 2: insert query [11]
      ∷ row 11 2 0 0  -- 3: left [2]
      ∷ row 14 1 12 13  -- 4: call procedure 1 with queries [12], [13]
      ∷ row 12 4 0 0  -- 5: right [4]
      ∷ row 6 2 0 0  -- 6: rename b
      ∷ row 5 0 0 0  -- 7: delete
      ∷ row 4 33 0 0  -- 8: insert query [33]
      ∷ row 2 7 8 0  -- 9: [7] then [8]
      ∷ row 1 0 0 0  -- 10: skip
      ∷ row 3 20 9 10  -- 11: if query [20] then [9] else [10]
      ∷ row 7 17 11 0  -- 12: let query [17] in [11]
      ∷ row 10 12 0 0  -- 13: children [12]
      ∷ row 2 6 13 0  -- 14: [6] then [13]
      ∷ row 8 14 0 0  -- 15: snapshot in [14]
      ∷ row 9 2 1 15  -- 16: a? [15]
      ∷ row 13 16 0 0  -- 17: iter [16]
      ∷ row 1 0 0 0  -- 18: skip
      ∷ row 9 3 0 18  -- 19: any tree? [18]
      ∷ row 13 19 0 0  -- 20: iter [19]
      ∷ row 5 0 0 0  -- 21: delete
      ∷ row 9 1 0 21  -- 22: text? [21]
      ∷ row 13 22 0 0  -- 23: iter [22]
      ∷ row 2 20 23 0  -- 24: [20] then [23]
      ∷ row 2 17 24 0  -- 25: [17] then [24]
      ∷ row 2 5 25 0  -- 26: [5] then [25]
      ∷ row 2 3 26 0  -- 27: [3] then [26]
      ∷ row 7 4 27 0  -- 28: let query [4] in [27]
      ∷ [];
  procedures =
      pr 3 4 5 8 1  -- 1: from () to text, bool, body [1]
      ∷ [];
  rows =
      row 2 0 0 0  -- 1: false
      ∷ row 3 0 0 1  -- 2: true, row 1
      ∷ row 1 10 1 2  -- 3: "t", row 2
      ∷ row 4 3 0 0  -- 4: c
      ∷ row 1 8 2 0  -- 5: "qq"
      ∷ row 4 2 5 4  -- 6: b[row 5], row 4
      ∷ row 1 7 1 0  -- 7: "p"
      ∷ row 4 2 7 6  -- 8: b[row 7], row 6
      ∷ row 4 1 8 3  -- 9: a[row 8], row 3
      ∷ [];
  pool = 122 ∷ 122 ∷ 120 ∷ 97 ∷ 98 ∷ 98 ∷ 97 ∷ 112 ∷ 113 ∷ 113 ∷ 116 ∷ [];
  a = 23;
  b = 60;
  main = 28;
  root = 9;
  check_fuel = 4096;
  run_fuel = 4096;
})

-- a small sheet for a run: these queries and statements, main among them, on this forest. A and B are (), the pool is "abac"
unfoldable pub small : List Row → List Row → ℕ → List Row → List ℕ
unfolding sheet
small queries statements main rows = sheet (record {
  names = [];
  types = tr 1 0 0 ∷ tr 1 0 0 ∷ [];
  queries = queries;
  statements = statements;
  procedures = [];
  rows = rows;
  pool = 97 ∷ 98 ∷ 97 ∷ 99 ∷ [];
  a = 1;
  b = 2;
  main = main;
  root = length rows;
  check_fuel = 4096;
  run_fuel = 4096;
})

-- a small sheet for a check: from the last of these types to ()
unfoldable pub typed : List ℕ → List Row → List Row → List Row → ℕ → List ℕ
unfolding sheet
typed names types queries statements main = sheet (record {
  names = names;
  types = types ++ tr 1 0 0 ∷ [];
  queries = queries;
  statements = statements;
  procedures = [];
  rows = [];
  pool = [];
  a = length types;
  b = suc (length types);
  main = main;
  root = 0;
  check_fuel = 4096;
  run_fuel = 4096;
})

-- X = b. From X to X: snapshot x0 in let x1 = x0, x0 in .. let x8 = x7, x7 in if a condition then skip else skip; x8 has 511 type rows
unfoldable pub doubling : List Row → ℕ → List ℕ
unfolding sheet
doubling more condition = sheet (record {
  names = 2 ∷ [];
  types =
      tr 1 0 0  -- 1: ()
      ∷ tr 4 2 1  -- 2: b, what X stands for
      ∷ tr 8 1 0  -- 3: X
      ∷ tr 8 1 0  -- 4: X
      ∷ [];
  queries =
      row 7 0 0 0  -- 1: x0
      ∷ row 7 0 0 0  -- 2: x0
      ∷ row 2 1 2 0  -- 3: [1], [2]
      ∷ row 7 1 0 0  -- 4: x1
      ∷ row 7 1 0 0  -- 5: x1
      ∷ row 2 4 5 0  -- 6: [4], [5]
      ∷ row 7 2 0 0  -- 7: x2
      ∷ row 7 2 0 0  -- 8: x2
      ∷ row 2 7 8 0  -- 9: [7], [8]
      ∷ row 7 3 0 0  -- 10: x3
      ∷ row 7 3 0 0  -- 11: x3
      ∷ row 2 10 11 0  -- 12: [10], [11]
      ∷ row 7 4 0 0  -- 13: x4
      ∷ row 7 4 0 0  -- 14: x4
      ∷ row 2 13 14 0  -- 15: [13], [14]
      ∷ row 7 5 0 0  -- 16: x5
      ∷ row 7 5 0 0  -- 17: x5
      ∷ row 2 16 17 0  -- 18: [16], [17]
      ∷ row 7 6 0 0  -- 19: x6
      ∷ row 7 6 0 0  -- 20: x6
      ∷ row 2 19 20 0  -- 21: [19], [20]
      ∷ row 7 7 0 0  -- 22: x7
      ∷ row 7 7 0 0  -- 23: x7
      ∷ row 2 22 23 0  -- 24: [22], [23]
      ∷ row 7 8 0 0  -- 25: x8
      ∷ more;
  statements =
      row 1 0 0 0  -- 1: skip
      ∷ row 1 0 0 0  -- 2: skip
      ∷ row 3 condition 1 2  -- 3: if query [condition] then [1] else [2]
      ∷ row 7 24 3 0  -- 4: let query [24] in [3]
      ∷ row 7 21 4 0  -- 5: let query [21] in [4]
      ∷ row 7 18 5 0  -- 6: let query [18] in [5]
      ∷ row 7 15 6 0  -- 7: let query [15] in [6]
      ∷ row 7 12 7 0  -- 8: let query [12] in [7]
      ∷ row 7 9 8 0  -- 9: let query [9] in [8]
      ∷ row 7 6 9 0  -- 10: let query [6] in [9]
      ∷ row 7 3 10 0  -- 11: let query [3] in [10]
      ∷ row 8 11 0 0  -- 12: snapshot in [11]
      ∷ [];
  procedures = [];
  rows = [];
  pool = [];
  a = 3;
  b = 4;
  main = 12;
  root = 0;
  check_fuel = 4096;
  run_fuel = 4096;
})

-- a call with a text for a bool
unfoldable pub wrong_argument : List ℕ
unfolding sheet
wrong_argument = sheet (record {
  names = [];
  types =
      tr 1 0 0  -- 1: ()
      ∷ tr 1 0 0  -- 2: ()
      ∷ tr 3 0 0  -- 3: bool
      ∷ tr 1 0 0  -- 4: ()
      ∷ tr 1 0 0  -- 5: ()
      ∷ [];
  queries =
      row 4 0 0 0  -- 1: ""
      ∷ [];
  statements =
      row 1 0 0 0  -- 1: skip
      ∷ row 14 1 1 0  -- 2: call procedure 1 with query [1]
      ∷ [];
  procedures =
      pr 3 0 4 5 1  -- 1: a bool; from () to (), body [1]
      ∷ [];
  rows = [];
  pool = [];
  a = 1;
  b = 2;
  main = 2;
  root = 0;
  check_fuel = 4096;
  run_fuel = 4096;
})
