-- The answer to a question about inclusion: Wide first, then whether every forest of the found type is one of the wanted.
use Rattle.std.specs.Prelude.{ℕ, ◌≤◌, ◌<◌, ◌≡◌, refl, Bool, true, false, List, Result, Ok, Err}
use Rattle.meaning.specs.Sheet.{script_of}
use Rattle.meaning.specs.Types.{Ty, Within, size, declared, names_in}
use Rattle.type_rows.specs.Grown.{type_in, ty_in, Grows}
use Rattle.type_rows.specs.Writing.{Written}
use Rattle.within.specs.Matched.{Standing}
use Rattle.within.specs.Lies.{Lies}
use Rattle.within.specs.declared.Wide.{Wide}
use Rattle.within.specs.declared.PlainType.{PlainType}

-- (), text, bool: as types, and the kinds of their rows
abbrev pub plain_ty : PlainType → Ty
plain_ty PlainType.Empty = Ty.empty
plain_ty PlainType.Text = Ty.text
plain_ty PlainType.Bool = Ty.bool

abbrev pub plain_kind : PlainType → ℕ
plain_kind PlainType.Empty = 1
plain_kind PlainType.Text = 2
plain_kind PlainType.Bool = 3

abbrev AnswersBy : List ℕ → Ty → Ty → Result Bool Wide → Type 0
AnswersBy s σ τ (Ok true) = (size σ ≤ 512) × Within (names_in (script_of s)) σ τ
AnswersBy s σ τ (Ok false) = (size σ ≤ 512) × (Within (names_in (script_of s)) σ τ → ⊥)
AnswersBy s σ τ (Err wide) = 512 < size σ

pub record Answers (s : List ℕ) (σ τ : Ty) (r : Result Bool Wide) : Type 0 where
  pub by : AnswersBy s σ τ r

module _ {s : List ℕ} {σ τ : Ty} where
  pub answers_ok : (b : Bool) → size σ ≤ 512 → (b ≡ true → Within (names_in (script_of s)) σ τ) → (b ≡ false → Within (names_in (script_of s)) σ τ → ⊥) → Answers s σ τ (Ok b)
  answers_ok true few holds fails = record { by = (few, holds refl) }
  answers_ok false few holds fails = record { by = (few, fails refl) }

-- ---- in a declared type or a content

module _ {s work : List ℕ} {n found : ℕ} (G : Grows s work n) {own : List ℕ} (W : Written (type_in s work n) found own) where
  pub own_standing : Standing s own
  own_standing = record { g = type_in s work n; found = found; known = G.known; written = W }

  module _ (few : size (ty_in s work n found) ≤ 512) {w : ℕ} {r : Bool} (a : Lies s own w r) where
    pub lies_answers : Answers s (ty_in s work n found) (declared (script_of s) w) (Ok r)
    lies_answers = answers_ok r few (λ z. rw W.same at (a.holds z)) (λ z. rw W.same at (a.fails z))
