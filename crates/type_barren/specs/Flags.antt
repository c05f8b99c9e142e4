-- A list of flags. What a store does to them.
use Rattle.std.specs.Prelude.{ℕ, zero, suc, ◌<◌, ◌≡◌, refl, Bool, false, List, get_or, length, set, replicate}
use Rattle.std.proofs.Common.{get_or-set_same, get_or-set_other}

abbrev pub flag : List Bool → ℕ → Bool
flag t x = get_or t x false

pub flag_set : (t : List Bool) (x : ℕ) (v : Bool) → x < length t → flag (set t x v) x ≡ v
flag_set t x v h = get_or-set_same t x v false h

pub flag_kept : (t : List Bool) (x : ℕ) (v : Bool) (y : ℕ) → (y ≡ x → ⊥) → flag (set t x v) y ≡ flag t y
flag_kept t x v y h = get_or-set_other t x y v false h

pub unset : (n x : ℕ) → flag (replicate n false) x ≡ false
unset zero x = refl
unset (suc n) zero = refl
unset (suc n) (suc x) = unset n x
