-- What an answer has to be, by the walk that the definition gives; and a law for each way in which an evaluator makes its answer from another's.
use Rattle.std.specs.Prelude.{ℕ, zero, suc, ◌+◌, ◌*◌, ◌≤◌, ◌<◌, ◌≡◌, refl, List, length, Result, Ok, Err, IsErrAnd}
use Rattle.std.proofs.Common.{arith, sym, ◌∙◌, subst}
use Rattle.meaning.specs.Sheet.{Cells}
use Rattle.meaning.specs.Forest.{Forest, nil, forest_at}
use Rattle.meaning.specs.Walk.{Walk, ret, halt, tick, ◌>>=◌, pay, Verdict, gives, fuel, stops, Settles, done, halted, short, paid, Quiet, Unasked}
use Rattle.meaning.specs.Walk as meaning
use Rattle.meaning.specs.Laws.Rows.{LowRow, LowRows, SameRows, forest_at_same, forest_at_zero}
use Rattle.meaning.specs.Laws.Walk.{Leads, leads_then, leads_tick, pay_short, stops_then, fuel_then}
use Rattle.meaning.specs.Theorems.ReadBack.{lent_row}
use Rattle.walk.specs.Concern.{concern_of}
use Rattle.walk.specs.Scope.{Scoped, scoped_more}
use Rattle.walk.specs.declared.Purse.{Purse}
use Rattle.walk.specs.declared.Scope.{Scope}
use Rattle.walk.specs.declared.Concern.{Concern}
use Rattle.walk.specs.declared.Got.{Got}
use Rattle.walk.specs.declared.Stop.{Stop}
use Rattle.walk.specs.declared.Stop.TheVariants.{Fuel, Depth, Stuck}

-- ---- rows as they are written: below a count they stay as they are

pub same_trans : (n m : ℕ) (a b c : ℕ → Cells) → n ≤ m → SameRows a b n → SameRows b c m → SameRows a c n
same_trans n m a b c h x y = λ r i j. x r i j ∙ y r i (omega arith)

pub low_same : (n : ℕ) (a b : ℕ → Cells) → LowRows a n → SameRows a b n → LowRows b n
low_same n a b low same = λ r i j. subst (λ (c : Cells). LowRow c r) (same r i j) (low r i j)

pub low_less : (n m : ℕ) (a : ℕ → Cells) → n ≤ m → LowRows a m → LowRows a n
low_less n m a h low = λ r i j. low r i (omega arith)

-- old values stay true
pub forest_kept : (byte : ℕ → ℕ) (n : ℕ) (a b : ℕ → Cells) (r : ℕ) → LowRows a n → SameRows a b n → r ≤ n → forest_at byte b r ≡ forest_at byte a r
forest_kept byte n a b r low same h = sym (forest_at_same byte a b r (λ i p q. low i p (omega arith)) (λ i p q. same i p (omega arith)))

-- ---- what an evaluator asks

-- rows that refer to lower rows, and room for a row for each unit
pub record Roomy (rows : List ℕ) (used left : ℕ) : Type 0 where
  pub low : LowRows (lent_row rows) used
  pub room : 8 * (used + left) ≤ length rows
  pub small : used + left < 65536

pub record Ready (rows : List ℕ) (e : Scope) (used on left : ℕ) : Type 0 where
  pub roomy : Roomy rows used left
  pub scoped : Scoped used e
  pub focus : on ≤ used

-- ---- what it gives

pub record Finished (w : Quiet Forest) (byte : ℕ → ℕ) (left used : ℕ) (old new : List ℕ) (root used' left' : ℕ) : Type 0 where
  pub settles : Settles Unasked w left (gives (forest_at byte (lent_row new) root)) left'
  pub inside : root ≤ used'
  pub grown : used ≤ used'
  -- each unit buys at most one row
  pub paid : used' + left' ≤ used + left
  pub low : LowRows (lent_row new) used'
  pub same : SameRows (lent_row old) (lent_row new) used

abbrev pub StoppedBy : Quiet Forest → ℕ → Stop → Type 0
StoppedBy w left Fuel = Settles Unasked w left fuel 0
StoppedBy w left (Depth p) = Settles Unasked w left (stops meaning.depth) p.left
StoppedBy w left (Stuck at p) = Settles Unasked w left (stops (meaning.stuck (concern_of at))) p.left

pub record Stopped (w : Quiet Forest) (left : ℕ) (why : Stop) : Type 0 where
  pub by : StoppedBy w left why

abbrev pub MeetsBy : Quiet Forest → (ℕ → ℕ) → ℕ → ℕ → List ℕ → List ℕ → Result Got Stop → Type 0
MeetsBy w byte left used old new (Ok g) = Finished w byte left used old new g.root g.left.used g.left.purse.left
MeetsBy w byte left used old new (Err why) = Stopped w left why

pub record Meets (w : Quiet Forest) (byte : ℕ → ℕ) (left used : ℕ) (old new : List ℕ) (a : Result Got Stop) : Type 0 where
  pub by : MeetsBy w byte left used old new a

-- a query's or a statement's own unit writes no row: one is left to spare
abbrev pub SpareBy : ℕ → ℕ → Result Got Stop → Type 0
SpareBy left used (Ok g) = g.left.used + g.left.purse.left + 1 ≤ used + left
SpareBy left used (Err why) = Unit {0}

pub record Ran (w : Quiet Forest) (byte : ℕ → ℕ) (left used : ℕ) (old new : List ℕ) (a : Result Got Stop) : Type 0 where
  pub met : Meets w byte left used old new a
  pub spare : SpareBy left used a

-- ---- what an arm of a `match` says of the answer

module _ {w : Quiet Forest} {byte : ℕ → ℕ} {left used : ℕ} {old new : List ℕ} {a : Result Got Stop} where
  pub met_done : {g : Got} → a ≡ Ok g → Meets w byte left used old new a → Finished w byte left used old new g.root g.left.used g.left.purse.left
  met_done e m = subst (MeetsBy w byte left used old new) e m.by

  pub met_not : {why : Stop} → a ≡ Err why → Meets w byte left used old new a → Stopped w left why
  met_not e m = subst (MeetsBy w byte left used old new) e m.by

  pub ran_done : {g : Got} → a ≡ Ok g → Ran w byte left used old new a → Finished w byte left used old new g.root g.left.used g.left.purse.left
  ran_done e m = met_done e m.met

  pub ran_spare : {g : Got} → a ≡ Ok g → Ran w byte left used old new a → g.left.used + g.left.purse.left + 1 ≤ used + left
  ran_spare e m = subst (SpareBy left used) e m.spare

  pub ran_not : {why : Stop} → a ≡ Err why → Ran w byte left used old new a → Stopped w left why
  ran_not e m = met_not e m.met

  -- the definition in another form
  pub met_as : {w' : Quiet Forest} → w ≡ w' → Meets w' byte left used old new a → Meets w byte left used old new a
  met_as e m = subst (λ (x : Quiet Forest). Meets x byte left used old new a) (sym e) m

-- and back
pub met_of : {w : Quiet Forest} {byte : ℕ → ℕ} {left used : ℕ} {old new : List ℕ} {root used' left' : ℕ} → Finished w byte left used old new root used' left'
    → Meets w byte left used old new (Ok (record { root = root; left = record { used = used'; purse = record { left = left' } } }))
met_of f = record { by = f }

pub met_stop : {w : Quiet Forest} {byte : ℕ → ℕ} {left used : ℕ} {old new : List ℕ} {why : Stop} → Stopped w left why → Meets w byte left used old new (Err why)
met_stop s = record { by = s }

-- what the exit of a `?` hands on
pub met_exit : {w : Quiet Forest} {byte : ℕ → ℕ} {left used : ℕ} {old new : List ℕ} {why : Stop} (a : Result Got Stop) → IsErrAnd a (λ e. e ≡ why) → Stopped w left why
    → Meets w byte left used old new a
met_exit (Ok g) h s = absurd h
met_exit {w} {left = left} (Err e) h s = met_stop (subst (Stopped w left) (sym h) s)

pub ran_stop : {w : Quiet Forest} {byte : ℕ → ℕ} {left used : ℕ} {old new : List ℕ} {why : Stop} → Stopped w left why → Ran w byte left used old new (Err why)
ran_stop s = record { met = met_stop s; spare = tt }

pub ran_exit : {w : Quiet Forest} {byte : ℕ → ℕ} {left used : ℕ} {old new : List ℕ} {why : Stop} (a : Result Got Stop) → IsErrAnd a (λ e. e ≡ why) → Stopped w left why → Ran w byte left used old new a
ran_exit (Ok g) h s = absurd h
ran_exit {w} {left = left} (Err e) h s = ran_stop (subst (Stopped w left) (sym h) s)

-- ---- by a walk that it leads to

module _ {w w' : Quiet Forest} {left left' : ℕ} (to : Leads Unasked w left w' left') where
  pub stop_leads : {why : Stop} → Stopped w' left' why → Stopped w left why
  stop_leads {why} s = record { by = go why s.by }
    where
      go : (why : Stop) → StoppedBy w' left' why → StoppedBy w left why
      go Fuel s = to fuel 0 s
      go (Depth p) s = to (stops meaning.depth) p.left s
      go (Stuck at p) s = to (stops (meaning.stuck (concern_of at))) p.left s

  -- rows may be written on the way
  module _ {byte : ℕ → ℕ} {used used' : ℕ} {old mid new : List ℕ} (grown : used ≤ used') (paid : used' + left' ≤ used + left) (same : SameRows (lent_row old) (lent_row mid) used) where
    pub finished_leads : {root n m : ℕ} → Finished w' byte left' used' mid new root n m → Finished w byte left used old new root n m
    finished_leads {root} {n} {m} f = record {
      settles = to (gives (forest_at byte (lent_row new) root)) m f.settles;
      inside = f.inside;
      grown = omega (arith, f.grown);
      paid = omega (arith, f.paid);
      low = f.low;
      same = same_trans used used' (lent_row old) (lent_row mid) (lent_row new) grown same f.same;
    }

    pub met_leads : {a : Result Got Stop} → Meets w' byte left' used' mid new a → Meets w byte left used old new a
    met_leads {a} m = record { by = go a m.by }
      where
        go : (a : Result Got Stop) → MeetsBy w' byte left' used' mid new a → MeetsBy w byte left used old new a
        go (Ok g) m = finished_leads m
        go (Err why) m = stop_leads m

-- ---- parts of an evaluator

-- a part is done, and what follows is met from where it left off
pub met_then : {w : Quiet Forest} {byte : ℕ → ℕ} {left used left' used' root : ℕ} {old mid new : List ℕ} {a : Result Got Stop} (k : Forest → Quiet Forest)
    → Finished w byte left used old mid root used' left' → Meets (k (forest_at byte (lent_row mid) root)) byte left' used' mid new a → Meets (w >>= k) byte left used old new a
met_then k f m = met_leads (leads_then Unasked k f.settles) f.grown f.paid f.same m

-- a part is not done, and that is the answer
pub stop_then : {w : Quiet Forest} {left : ℕ} {why : Stop} (k : Forest → Quiet Forest) → Stopped w left why → Stopped (w >>= k) left why
stop_then {w} {left} {why} k s = record { by = go why s.by }
  where
    go : (why : Stop) → StoppedBy w left why → StoppedBy (w >>= k) left why
    go Fuel s = fuel_then Unasked k s
    go (Depth p) s = stops_then Unasked k s
    go (Stuck at p) s = stops_then Unasked k s

-- a row's own unit
spare_of : (w : Quiet Forest) (byte : ℕ → ℕ) (left left' used : ℕ) (old new : List ℕ) (a : Result Got Stop) → left' + 1 ≡ left → MeetsBy w byte left' used old new a → SpareBy left used a
spare_of w byte left left' used old new (Ok g) e m = omega (arith, m.paid)
spare_of w byte left left' used old new (Err why) e m = tt

pub ran_tick : {w : Quiet Forest} {byte : ℕ → ℕ} {left' used : ℕ} {old new : List ℕ} {a : Result Got Stop} (left : ℕ) → left' + 1 ≡ left → Meets w byte left' used old new a
    → Ran (tick w) byte left used old new a
ran_tick {w} {byte} {left'} {used} {old} {new} {a} left e m = record {
  met = met_leads (leads_tick Unasked w left left' e) (omega arith) (omega arith) (λ r i j. refl) m;
  spare = spare_of w byte left left' used old new a e m.by;
}

-- no unit for it
pub stop_tick : (w : Quiet Forest) (left : ℕ) → left < 1 → Stopped (tick w) left Fuel
stop_tick w zero h = record { by = short }
stop_tick w (suc left) h = absurd (omega arith)

-- or for the copies
pub stop_pay : (k : ℕ) (w : Quiet Forest) (left : ℕ) → left < k → Stopped (pay k w) left Fuel
stop_pay k w left h = record { by = pay_short Unasked k left w h }

pub stop_depth : (p : Purse) → Stopped (halt meaning.depth) p.left (Depth p)
stop_depth p = record { by = halted }

pub stop_stuck : (at : Concern) (p : Purse) → Stopped (halt (meaning.stuck (concern_of at))) p.left (Stuck at p)
stop_stuck at p = record { by = halted }

-- a value as it stands
pub met_ret : {byte : ℕ → ℕ} {s : List ℕ} {used root : ℕ} (left : ℕ) → LowRows (lent_row s) used → root ≤ used → Finished (ret (forest_at byte (lent_row s) root)) byte left used s s root used left
met_ret left low h = record { settles = done; inside = h; grown = omega arith; paid = omega arith; low = low; same = λ r i j. refl }

pub met_nil : {byte : ℕ → ℕ} {s : List ℕ} {used : ℕ} (left : ℕ) → LowRows (lent_row s) used → Finished (ret nil) byte left used s s 0 used left
met_nil {byte} {s} {used} left low = subst (λ (f : Forest). Finished (ret f) byte left used s s 0 used left) (forest_at_zero byte (lent_row s)) (met_ret left low (omega arith))

-- ---- what the next evaluator asks

pub roomy_after : {w : Quiet Forest} {byte : ℕ → ℕ} {s t : List ℕ} {used left root used' left' : ℕ} → Roomy s used left → length t ≡ length s → Finished w byte left used s t root used' left'
    → Roomy t used' left'
roomy_after r e f = record { low = f.low; room = omega (arith, r.room, f.paid); small = omega (arith, r.small, f.paid) }

pub roomy_less : {s : List ℕ} {used left : ℕ} (left' n : ℕ) → Roomy s used left → left' + n ≡ left → Roomy s used left'
roomy_less left' n r e = record { low = r.low; room = omega (arith, r.room); small = omega (arith, r.small) }

-- from where an evaluator left off, on a focus that is in use
pub ready_after : {w : Quiet Forest} {byte : ℕ → ℕ} {s t : List ℕ} {e : Scope} {used focus left root used' left' : ℕ} (focus' : ℕ) → Ready s e used focus left → length t ≡ length s
    → Finished w byte left used s t root used' left' → focus' ≤ used' → Ready t e used' focus' left'
ready_after {used' = used'} focus' r e f h = record { roomy = roomy_after r.roomy e f; scoped = scoped_more used' f.grown r.scoped; focus = h }

-- with units paid, on another focus
pub ready_less : {s : List ℕ} {e : Scope} {used focus left : ℕ} (left' n focus' : ℕ) → Ready s e used focus left → left' + n ≡ left → focus' ≤ used → Ready s e used focus' left'
ready_less left' n focus' r e h = record { roomy = roomy_less left' n r.roomy e; scoped = r.scoped; focus = h }

-- with another scope
pub ready_scope : {s : List ℕ} {e : Scope} {used focus left : ℕ} (e' : Scope) → Ready s e used focus left → Scoped used e' → Ready s e' used focus left
ready_scope e' r h = record { roomy = r.roomy; scoped = h; focus = r.focus }
