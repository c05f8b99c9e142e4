-- The steps of the walks as the code takes them, from tables of zeros: what holds where a pair of contents is taken (`Going`), and that each way out is the answer.
use Rattle.std.specs.Prelude.{ℕ, ◌≡◌, refl, Bool, true, false, List, ◌⊎◌}
use Rattle.std.proofs.Common.{inl, inr}
use Rattle.meaning.specs.Tests.{in_table}
use Rattle.meaning.specs.Sheet.{script_of}
use Rattle.meaning.specs.Reply.{done, Loads}
use Rattle.meaning.specs.Theorems.Sound.Written.{loads_shapely}
use Rattle.meaning.specs.Laws.Bools.{not_both}
use Rattle.sheet.specs.Table.{Table, rows_in, types_in}
use Rattle.type_places.specs.Tables.{clear_zeros}
use Rattle.type_models.specs.Roots.{is_root}
use Rattle.type_rows.specs.Writing.{own_row}
use Rattle.type_tables.specs.Points.{OwnPoints}
use Rattle.type_heads.specs.Kin.{Kins}
use Rattle.within_pairs.specs.Queue.{zeros, Idle, Taken}
use Rattle.within_pairs.specs.Meet.{Facing, Outcome}
use Rattle.within_pairs.specs.Reach.{Like, Walked}
use Rattle.type_tables.specs.Lent.{Lent}
use Rattle.within.specs.Matched.{Standing, Setting}
use Rattle.within.specs.Run.{Run, start_facing, start_clash, start_like, start_lost, start_run, round_facing, round_clash, round_like, round_lost, round_run}
use Rattle.within.specs.Lies.{Lies, lies_within, lies_not}

-- ---- the rows, as tables

-- a type written out
abbrev pub own_table : List ℕ → Table
own_table own = record { bytes = own; at = 0; rows = 512 }

-- the sheet's
pub sheet_rows : (s : List ℕ) → rows_in (types_in s) ≡ (script_of s).type_row
unfolding script_of
sheet_rows s = refl

-- ---- the first walk

-- between the rounds
pub record Going (s own opens nexts first behind same own-kin kin : List ℕ) (w : ℕ) (p d f m : List ℕ) : Type 0 where
  pub class : List ℕ
  pub own_done : List ℕ
  pub run : Run s own opens nexts first behind class same own-kin kin w own_done p d f m

-- the points where both begin have been met, and where they go together the pairs that they lead to are walked
pub record OwnWalked (s own opens nexts first behind same own-kin : List ℕ) (w : ℕ) (p d f : List ℕ) (r : Bool) : Type 0 where
  pub start : List ℕ
  pub together : Bool
  pub outcome : Outcome first 512 opens w own-kin same zeros start zeros together
  pub went : ((together ≡ false) × (r ≡ false)) ⊎ ((together ≡ true) × Walked (own_row own) first behind own-kin s opens nexts same start p zeros d zeros f zeros r)

module _ {s own opens nexts first behind same own-kin : List ℕ} {w : ℕ} {p1 : List ℕ} {b : Bool} (o : Outcome first 512 opens w own-kin same zeros p1 zeros b) where
  pub own_went : b ≡ true → {p2 d f : List ℕ} {r : Bool} → Walked (own_row own) first behind own-kin s opens nexts same p1 p2 zeros d zeros f zeros r
      → OwnWalked s own opens nexts first behind same own-kin w p2 d f r
  own_went z v = record { start = p1; together = b; outcome = o; went = inr (z, v) }

module _ {s own opens nexts first behind same own-kin kin : List ℕ} (x : (class : List ℕ) × Setting s own opens nexts first behind class same own-kin kin) {w : ℕ}
    (asked : (in_table (script_of s).types w ≡ true) × (is_root s w ≡ true)) where
  pub first_facing : Facing first 512 opens w own-kin
  first_facing = start_facing s own opens nexts first behind x.0 same own-kin kin w x.1 asked

  pub first_like : {p1 : List ℕ} {r : Bool} → Outcome first 512 opens w own-kin same zeros p1 zeros r → Like (own_row own) first behind own-kin s opens nexts same p1
  first_like o = start_like s own opens nexts first behind x.0 same own-kin kin w x.1 asked clear_zeros o

  module _ {p d f : List ℕ} {r : Bool} (v : OwnWalked s own opens nexts first behind same own-kin w p d f r) where
    pub first_lost : Loads s done → r ≡ false → Lies s own w false
    first_lost load z = lies_not load x.1 asked (elim v.went [
      | inl y ↦ start_clash s own opens nexts first behind x.0 same own-kin kin w x.1 asked clear_zeros (rw y.0 at v.outcome)
      | inr y ↦ start_lost s own opens nexts first behind x.0 same own-kin kin w x.1 asked clear_zeros v.outcome y.1 z
    ])

    pub going_first : r ≡ true → Going s own opens nexts first behind same own-kin kin w p zeros f zeros
    going_first z = elim v.went [
      | inl y ↦ absurd (not_both z y.1)
      | inr y ↦ record {
        class = x.0;
        own_done = d;
        run = start_run s own opens nexts first behind x.0 same own-kin kin w x.1 asked clear_zeros v.outcome y.1 clear_zeros clear_zeros clear_zeros clear_zeros y.0 z;
      }
    ]

-- ---- a round

module _ {s own opens nexts first behind same own-kin kin : List ℕ} {w : ℕ} {p d f m : List ℕ} (G : Going s own opens nexts first behind same own-kin kin w p d f m) where
  pub ended : Loads s done → Idle f → Lies s own w true
  ended load none = lies_within G.run none load

  module _ {f1 m1 : List ℕ} {q r : ℕ} (t : Taken f f1 m m1 q r) where
    pub facing : Facing opens q opens r kin
    facing = round_facing s own opens nexts first behind G.class same own-kin kin w G.run t

    module _ {p1 : List ℕ} {ok : Bool} (o : Outcome opens q opens r kin same p p1 d ok) where
      pub clash : Loads s done → ok ≡ false → Lies s own w false
      clash load z = lies_not load G.run.setting G.run.asked (round_clash s own opens nexts first behind G.class same own-kin kin w G.run t o z)

      pub like : Like (script_of s).type_row opens nexts kin s opens nexts same p1
      like = round_like s own opens nexts first behind G.class same own-kin kin w G.run t o

      module _ {p2 d2 f2 : List ℕ} {went : Bool} (v : Walked (script_of s).type_row opens nexts kin s opens nexts same p1 p2 d d2 f1 f2 m1 went) where
        pub lost : Loads s done → went ≡ false → Lies s own w false
        lost load z = lies_not load G.run.setting G.run.asked (round_lost s own opens nexts first behind G.class same own-kin kin w G.run t o v z)

        pub going_on : ok ≡ true → went ≡ true → Going s own opens nexts first behind same own-kin kin w p2 d2 f2 m1
        going_on y z = record {
          class = G.class;
          own_done = G.own_done;
          run = round_run s own opens nexts first behind G.class same own-kin kin w G.run t o v y z;
        }

-- ---- the tables

pub set_up : {s own opens nexts first behind class same own-kin kin : List ℕ} → Loads s done → Standing s own → OwnPoints own first behind → Lent s opens nexts class same kin
    → Kins (own_row own) 512 s class own-kin → Setting s own opens nexts first behind class same own-kin kin
set_up load stands mine lent own_kins =
    record { shape = loads_shapely load; standing = stands; sheet = lent.points; mine = mine; classes = lent.classes; own_kins = own_kins; kins = lent.kins }
