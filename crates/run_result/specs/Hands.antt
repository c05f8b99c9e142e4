-- What becomes of a result: it needs more rows than are lent, and nothing is written; or its rows stand in front of what was lent.
use Rattle.std.specs.Prelude.{ℕ, ◌≤◌, ◌<◌, ◌≡◌, refl, List, Option, Some, None}
use Rattle.std.proofs.Common.{subst, arith}
use Rattle.meaning.specs.Words.{rows_lent}
use Rattle.meaning.specs.Forest.{forest_at, forest_size}
use Rattle.meaning.specs.Reply.{given}
use Rattle.meaning.specs.Theorems.ReadBack.{lent_row}
use Rattle.run_result.specs.Count.{Counts}
use Rattle.run_result.specs.Written.{Written, given_out}

-- no pool changes a size
abbrev pub HandsBy : List ℕ → ℕ → List ℕ → List ℕ → Option ℕ → Type 0
HandsBy work root old new None = (new ≡ old) × ((byte : ℕ → ℕ) → rows_lent old < forest_size (forest_at byte (lent_row work) root))
HandsBy work root old new (Some n) = (n ≤ rows_lent old) × ((byte : ℕ → ℕ) → (n ≡ forest_size (forest_at byte (lent_row work) root)) × (new ≡ given (forest_at byte (lent_row work) root) old))

pub record HandsOut (work : List ℕ) (root : ℕ) (old new : List ℕ) (h : Option ℕ) : Type 0 where
  pub by : HandsBy work root old new h

module _ {work old new : List ℕ} {root : ℕ} {h : Option ℕ} where
  pub hands_room : h ≡ None → HandsOut work root old new h → HandsBy work root old new None
  hands_room e m = subst (HandsBy work root old new) e m.by

  pub hands_rows : {n : ℕ} → h ≡ Some n → HandsOut work root old new h → HandsBy work root old new (Some n)
  hands_rows e m = subst (HandsBy work root old new) e m.by

-- the rows were counted up to one past those that are lent
module _ {work : List ℕ} {root n room : ℕ} (old : List ℕ) (lent : room ≡ rows_lent old) (counts : Counts work root 0 room n) where
  pub room_short : room < n → HandsOut work root old old None
  room_short h = record { by = (refl, λ byte. omega (arith, counts.is byte)) }

  pub room_exact : n ≤ room → (byte : ℕ → ℕ) → n ≡ forest_size (forest_at byte (lent_row work) root)
  room_exact h byte = omega (arith, counts.is byte)

  pub room_enough : {first : ℕ} {new : List ℕ} → n ≤ room → Written work root first n old new → HandsOut work root old new (Some n)
  room_enough h w = record { by = (omega arith, λ byte. let e = room_exact h byte in (e, given_out w byte e)) }
