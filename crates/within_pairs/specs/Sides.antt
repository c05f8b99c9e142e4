-- The two sides as the code lends them: what is asked of their tables, and what a turn and a walk do with the pairs.
use Rattle.std.specs.Prelude.{ℕ, List, Bool}
use Rattle.sheet.specs.Table.{rows_in}
use Rattle.within_pairs.specs.declared.Found.{Found}
use Rattle.within_pairs.specs.declared.Wanted.{Wanted}
use Rattle.within_pairs.specs.Queue.{Pairs}
use Rattle.within_pairs.specs.Reach.{Tabled, Like, Turn, Walked, Walking}

abbrev pub TabledBy : Found → Wanted → Type 0
TabledBy x y = Tabled (rows_in x.rows.now) x.first.now x.behind.now x.kin.now y.sheet.now y.first.now y.behind.now y.same.now

abbrev pub LikeBy : Found → Wanted → List ℕ → Type 0
LikeBy x y p = Like (rows_in x.rows.now) x.first.now x.behind.now x.kin.now y.sheet.now y.first.now y.behind.now y.same.now p

abbrev pub TurnBy : Found → Wanted → Pairs → Pairs → Pairs → Pairs → ℕ → ℕ → Bool → Type 0
TurnBy x y q q' f f' a b r = Turn (rows_in x.rows.now) x.first.now x.behind.now x.kin.now y.sheet.now y.first.now y.behind.now y.same.now
    q.pending q'.pending q.done f.pending f'.pending f.done a b r

abbrev pub WalkedBy : Found → Wanted → Pairs → Pairs → Pairs → Pairs → Bool → Type 0
WalkedBy x y q q' f f' r = Walked (rows_in x.rows.now) x.first.now x.behind.now x.kin.now y.sheet.now y.first.now y.behind.now y.same.now
    q.pending q'.pending q.done q'.done f.pending f'.pending f.done r

-- on the way
abbrev pub WalkingBy : Found → Wanted → Pairs → Pairs → Pairs → Pairs → Type 0
WalkingBy x y q q' f f' = Walking (rows_in x.rows.now) x.first.now x.behind.now x.kin.now y.sheet.now y.first.now y.behind.now y.same.now
    q.pending q.done f.pending f.done q'.pending q'.done f'.pending
