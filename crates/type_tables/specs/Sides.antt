-- The sets of a type written out and of the sheet are the tables of the two sides (Theorems/Within: `Kept`), in the numbering of the joined table.
use Rattle.std.specs.Prelude.{ℕ, ◌+◌, ◌-◌, ◌≤◌, ◌<◌, ◌≡◌, refl, Bool, true, false, ◌&&◌, cond, List, eqb, leb}
use Rattle.std.proofs.Common.{sym, ◌∙◌, ap, arith, eq-eqb, le-leb}
use Rattle.std.proofs.Math.Path.{fun_ext}
use Rattle.std.proofs.Math.Decide.{dec_le}
use Rattle.std.proofs.lemmas.Bool.{lt-leb}
use Rattle.meaning.specs.Tests.{in_table}
use Rattle.meaning.specs.Sheet.{Cells, script_of}
use Rattle.meaning.specs.Kinds.{type_form}
use Rattle.meaning.specs.Places.{Set, start, acting, is_declared}
use Rattle.meaning.specs.Shape.{shapely}
use Rattle.meaning.specs.Laws.Bools.{or_right, and_both}
use Rattle.meaning.specs.Laws.Tests.{in_table_lem, table_low, table_high, some_at}
use Rattle.meaning.specs.Laws.Wired.{has, Wired, ends}
use Rattle.meaning.specs.Laws.Apart.{shaped_lower, model_placed, model_below, model_at_same}
use Rattle.meaning.specs.Theorems.Within.Tables.{Kept}
use Rattle.meaning.specs.Laws.Shaped.{kind_in, label_row}
use Rattle.type_places.specs.Tables.{set_of, row_model}
use Rattle.type_models.specs.Roots.{is_root}
use Rattle.type_heads.specs.Heads.{acting_at}
use Rattle.type_rows.specs.Writing.{own_row, Written}
use Rattle.type_tables.specs.Points.{SheetPoints, OwnPoints}
use Rattle.type_tables.specs.Joined.{own_apart, joined, moved, sheet_row, own_row_lem, joined_lower, model_same}
use Rattle.type_tables.specs.Lifted.{lift, lift_ends, up_start, up_wired, wired_agree}

-- ---- the sets of the two sides

-- inside a place of the sheet
abbrev pub wanted_inner : List ℕ → List ℕ → ℕ → Set
wanted_inner s opens b = set_of opens (acting_at s b).q

-- where a row of the joined table begins, and what is behind its places
abbrev pub found_from : List ℕ → List ℕ → List ℕ → ℕ → Set
found_from s opens first r = cond (leb r (script_of s).types) (set_of opens r) (lift (script_of s).types (set_of first (r - (script_of s).types)))

abbrev pub found_next : List ℕ → List ℕ → List ℕ → ℕ → Set
found_next s nexts behind a = cond (leb a (script_of s).types) (set_of nexts a) (lift (script_of s).types (set_of behind (a - (script_of s).types)))

abbrev pub found_inner : List ℕ → List ℕ → List ℕ → List ℕ → ℕ → Set
found_inner s own opens first a = found_from s opens first (acting (joined s own) (script_of s).name_row a).q

module _ (s : List ℕ) (e : shapely s ≡ true) where
  abbrev T : ℕ
  T = (script_of s).types

  abbrev S : ℕ → Cells
  S = (script_of s).type_row

  abbrev N : ℕ → ℕ
  N = (script_of s).name_row

  -- the content of a label row of the sheet: a row of the table, and a root
  pub sheet_content : (i : ℕ) → (S i).kind ≡ 4 → (in_table T (S i).q ≡ true) × (is_root s (S i).q ≡ true)
  sheet_content i k =
      let h = kind_in s i 3 k in
      let x = (label_row s e i k).1 in
      let q = (S i).q in (
        in_table_lem T q x.low (omega (arith, x.lower, table_high T i h)),
        or_right (is_declared (script_of s) q) (some_at (λ i. eqb (S i).kind 4 && eqb (S i).q q) T i (table_low T i h) (table_high T i h)
            (and_both (eqb (S i).kind 4) (eqb q q) (eq-eqb (S i).kind 4 k) (eq-eqb q q refl))),
      )

  -- what a place acts as, if that is a label row
  pub acting_content : (a : ℕ) → (acting_at s a).kind ≡ 4 → (in_table T (acting_at s a).q ≡ true) × (is_root s (acting_at s a).q ≡ true)
  acting_content a = go (eqb (S a).kind 8)
    where
      go : (t : Bool) → (cond t (S (N (S a).p)) (S a)).kind ≡ 4 → (in_table T (cond t (S (N (S a).p)) (S a)).q ≡ true) × (is_root s (cond t (S (N (S a).p)) (S a)).q ≡ true)
      go true k = sheet_content (N (S a).p) k
      go false k = sheet_content a k

  module _ {opens nexts : List ℕ} (given : SheetPoints s opens nexts) where
    -- ---- the wanted side

    pub wanted_kept : (w : ℕ) → in_table T w ≡ true → is_root s w ≡ true → Kept S N w (set_of opens w) (wanted_inner s opens) (set_of nexts)
    wanted_kept w h r = record {
      begins = given.begins w h;
      wired = given.roots w h r;
      contents = λ i k. (let c = sheet_content i k in given.roots (S i).q c.0 c.1);
      insides = λ a k b. given.begins (acting_at s a).q (acting_content a k).0 b;
    }

    -- ---- the found side

    module _ {own first behind : List ℕ} (mine : OwnPoints own first behind) {g : ℕ → Cells} {found : ℕ} (G : (i : ℕ) → (g i).kind ≡ 8 → in_table (script_of s).names (g i).p ≡ true)
        (W : Written g found own) where
      abbrev J : ℕ → Cells
      J = joined s own

      sheet_model : (r : ℕ) → r ≤ T → row_model J r ≡ row_model S r
      sheet_model r l = model_at_same (λ i. type_form (J i)) (λ i. type_form (S i)) T (λ i h. joined_lower s own e G W i) (λ i h. ap type_form (sheet_row s own i h)) r l

      own_placed : (r : ℕ) (a : ℕ) → has (row_model (own_row own) r) a ≡ true → 0 < a
      own_placed r a h = model_placed (own_row own) N W.lower r a h

      -- where a row of either table begins
      from_sheet : (r : ℕ) → in_table T r ≡ true → (b : ℕ) → found_from s opens first r b ≡ start (row_model J r) b
      from_sheet r h b = rw (le-leb r T (table_high T r h), sheet_model r (table_high T r h)) (given.begins r h b)

      from_own : (r : ℕ) → 1 ≤ r → ((b : ℕ) → set_of first r b ≡ start (row_model (own_row own) r) b) → (b : ℕ) → found_from s opens first (T + r) b ≡ start (row_model J (T + r)) b
      from_own r l h b =
          let z : T + r - T ≡ r = omega arith in
          rw (lt-leb (T + r) T (omega arith), z, model_same s own e G W r l) (ap (λ k. lift T k b) (fun h) ∙ sym (up_start T (row_model (own_row own) r) (own_placed r) b))
        where
          fun : {k m : Set} → ((b : ℕ) → k b ≡ m b) → k ≡ m
          fun h = fun_ext h

      wired_sheet : (r : ℕ) → in_table T r ≡ true → is_root s r ≡ true → Wired (found_next s nexts behind) (row_model J r) ends
      wired_sheet r h k = rw (sheet_model r (table_high T r h)) (wired_agree (set_of nexts) (found_next s nexts behind) (row_model S r) ends
          (λ a p b. rw (le-leb a T (omega (arith, model_below S N (shaped_lower s e) r a p, table_high T r h)))) (given.roots r h k))

      wired_own : (r : ℕ) → 1 ≤ r → Wired (set_of behind) (row_model (own_row own) r) ends → Wired (found_next s nexts behind) (row_model J (T + r)) ends
      wired_own r l w = rw (model_same s own e G W r l) (rw (fun_ext (lift_ends T)) at (up_wired T (set_of behind) (found_next s nexts behind) (row_model (own_row own) r) ends (own_placed r)
          (λ a p b. (let i = own_placed r a p in let z : T + a - T ≡ a = omega arith in rw (lt-leb (T + a) T (omega arith), z))) w))

      label_inner : (i : ℕ) → (J i).kind ≡ 4 → Wired (found_next s nexts behind) (row_model J (J i).q) ends × ((b : ℕ) → found_from s opens first (J i).q b ≡ start (row_model J (J i).q) b)
      label_inner i k = elim (dec_le i T) [
        | yes l ↦ (let k' : (S i).kind ≡ 4 = rw (sheet_row s own i l) at k in let c = sheet_content i k' in rw (sheet_row s own i l) (wired_sheet (S i).q c.0 c.1, from_sheet (S i).q c.0))
        | no l ↦ (let z : T + (i - T) ≡ i = omega arith in let j = i - T in let r : J i ≡ moved T (own_row own j) = rw z at (own_row_lem s own j (omega arith)) in
            let k' : (own_row own j).kind ≡ 4 = rw r at k in let c = table_low 512 (own_row own j).q ((own_apart W).content j k') in
            rw (r, k') (wired_own (own_row own j).q c (mine.contents j k'), from_own (own_row own j).q c (mine.insides j k')))
      ]

      pub found_kept : Kept J N (T + 512) (found_from s opens first (T + 512)) (found_inner s own opens first) (found_next s nexts behind)
      found_kept = record {
        begins = from_own 512 (omega arith) mine.begins;
        wired = wired_own 512 (omega arith) mine.top;
        contents = λ i k. (label_inner i k).0;
        insides = λ a k b. inside a (eqb (J a).kind 8) k b;
      }
        where
          inside : (a : ℕ) (t : Bool) → (cond t (J (N (J a).p)) (J a)).kind ≡ 4 → (b : ℕ)
              → found_from s opens first (cond t (J (N (J a).p)) (J a)).q b ≡ start (row_model J (cond t (J (N (J a).p)) (J a)).q) b
          inside a true k b = (label_inner (N (J a).p) k).1 b
          inside a false k b = (label_inner a k).1 b
