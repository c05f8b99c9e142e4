-- Laws of forests joined and counted.
use Rattle.std.specs.Prelude.{◌+◌, ◌≡◌, refl}
use Rattle.std.proofs.Common.{ap, arith}
use Rattle.meaning.specs.Forest.{Forest, nil, cons, ◌⊕◌, count}

pub ⊕-nil : (f : Forest) → f ⊕ nil ≡ f
unfolding ◌⊕◌
⊕-nil nil = refl
⊕-nil (cons t f) = ap (cons t) (⊕-nil f)

pub nil-⊕ : (f : Forest) → nil ⊕ f ≡ f
unfolding ◌⊕◌
nil-⊕ f = refl

pub ⊕-assoc : (f g h : Forest) → (f ⊕ g) ⊕ h ≡ f ⊕ (g ⊕ h)
unfolding ◌⊕◌
⊕-assoc nil g h = refl
⊕-assoc (cons t f) g h = ap (cons t) (⊕-assoc f g h)

pub count-⊕ : (f g : Forest) → count (f ⊕ g) ≡ count f + count g
unfolding ◌⊕◌ count
count-⊕ nil g = omega arith
count-⊕ (cons t f) g = let h = count-⊕ f g in omega arith
