-- Lists of hands: what stores of words make of the scopes, how often a row is handed one, and that a row handed one once has just that.
use Rattle.std.specs.Prelude.{◌≡◌, refl, List, [], ◌∷◌, Bool, true, false, ◌&&◌, cond, ℕ, ◌+◌, ◌≤◌, ◌<◌, eqb, set}
use Rattle.std.proofs.Math.Path.{sym}
use Rattle.std.proofs.Common.{ap, ◌∙◌, arith, eq-eqb, ne_eqb, get_or-set_same, get_or-set_other}
use Rattle.std.proofs.Math.Decide.{ℕ_discrete}
use Rattle.std.proofs.Math.ListN.{get_or, length-set}
use Rattle.meaning.specs.Sheet.{Cells}
use Rattle.meaning.specs.Kinds.{present}
use Rattle.meaning.specs.Shape.{Use, Uses, Scope, hit, hits}
use Rattle.shape_scope.specs.Scopes.{Neat, scope_of, seen, Hand, hand_of, put, after, Each, none, more, takes, handed, argument_hands, Words, Handed}

put_same : (σ : ℕ → Scope) (r : ℕ) (Γ : Scope) → put σ r Γ r ≡ Γ
put_same σ r Γ = rw (eq-eqb r r refl)

put_other : (σ : ℕ → Scope) (r : ℕ) (Γ : Scope) (j : ℕ) → (r ≡ j → ⊥) → put σ r Γ j ≡ σ j
put_other σ r Γ j d = rw (ne_eqb r j d)

-- ---- after several

pub after_same : (l : List Hand) (σ ρ : ℕ → Scope) (j : ℕ) → σ j ≡ ρ j → after l σ j ≡ after l ρ j
unfolding after
after_same [] σ ρ j e = e
after_same (h ∷ l) σ ρ j e = after_same l (put σ h.row h.scope) (put ρ h.row h.scope) j (rw e)

pub handed_none : {old : List ℕ} → Handed old old []
unfolding after
handed_none = record { at = λ j p q. refl }

pub handed_more : {old mid new : List ℕ} {r : ℕ} {Γ : Scope} {l : List Hand} → Handed old mid (hand_of r Γ ∷ []) → Handed mid new l → Handed old new (hand_of r Γ ∷ l)
unfolding after
handed_more {old} {mid} {new} {r} {Γ} {l} f g = record { at = λ j p q. g.at j p q ∙ after_same l (seen mid) (put (seen old) r Γ) j (f.at j p q) }

-- a word is stored
module _ {old : List ℕ} (r x : ℕ) (w : Words old) where
  stored : r ≤ 512 → (j : ℕ) → r ≡ j → get_or (set old r x) j 0 ≡ x
  stored l j e = rw (← e) (get_or-set_same old r x 0 (omega (arith, w.size)))

  kept : (j : ℕ) → (r ≡ j → ⊥) → get_or (set old r x) j 0 ≡ get_or old j 0
  kept j d = get_or-set_other old r j x 0 (λ e. d (sym e))

  pub words_store : Neat x → r ≤ 512 → Words (set old r x)
  words_store n l = record {
    size = length-set old r x ∙ w.size;
    neat = λ j. elim (ℕ_discrete r j) [ yes e ↦ rw (stored l j e) n | no d ↦ rw (kept j d) (w.neat j) ];
  }

  pub hand_store : r ≤ 512 → Handed old (set old r x) (hand_of r (scope_of x) ∷ [])
  unfolding after
  hand_store l = record {
    at = λ j p q. elim (ℕ_discrete r j) [
      | yes e ↦ (ap scope_of (stored l j e) ∙ sym (rw (eq-eqb r j e)))
      | no d ↦ (ap scope_of (kept j d) ∙ sym (put_other (seen old) r (scope_of x) j d))
    ];
  }

pub hand_past : {old : List ℕ} (r : ℕ) (Γ : Scope) → 512 < r → Handed old old (hand_of r Γ ∷ [])
unfolding after
hand_past {old} r Γ l = record { at = λ j p q. sym (put_other (seen old) r Γ j (λ e. omega arith)) }

-- a call's arguments: what is handed to row 0 changes no row
module _ {old : List ℕ} (first second : ℕ) (Γ : Scope) where
  pub arguments_none : first ≡ 0 → Handed old old (argument_hands (present first second) Γ)
  arguments_none e = rw (eq-eqb first 0 e) handed_none

  pub arguments_there : {new : List ℕ} → (first ≡ 0 → ⊥) → Handed old new (hand_of first Γ ∷ hand_of second Γ ∷ []) → Handed old new (argument_hands (present first second) Γ)
  unfolding after
  arguments_there {new} d h = elim (ℕ_discrete second 0) [
    | yes e ↦ rw (ne_eqb first 0 d, eq-eqb second 0 e) (record { at = λ j p q. h.at j p q ∙ put_other (put (seen old) first Γ) second Γ j (λ z. omega arith) })
    | no f ↦ rw (ne_eqb first 0 d, ne_eqb second 0 f) h
  ]

-- ---- how often a row is handed a scope

unfoldable pub tally : List Hand → ℕ → ℕ
tally [] r = 0
tally (h ∷ l) r = cond (eqb h.row r) 1 0 + tally l r

tally_takes : (b : Bool) (p : ℕ) (Γ : Scope) (l : List Hand) (r : ℕ) → tally (takes b p Γ l) r ≡ cond (b && eqb p r) 1 0 + tally l r
unfolding tally takes
tally_takes true p Γ l r = refl
tally_takes false p Γ l r = omega arith

pub tally_hits : (which : Use → Bool) (u : Uses) (c : Cells) (Γ Δ Θ : Scope) (r : ℕ) → tally (handed which u c Γ Δ Θ) r ≡ hits which r u c
unfolding tally
tally_hits which u c Γ Δ Θ r =
    let l = takes (which u.r) c.r Θ [] in
    let m = takes (which u.q) c.q Δ l in
    let a = tally_takes (which u.p) c.p Γ m r in
    let b = tally_takes (which u.q) c.q Δ l r in
    let d = tally_takes (which u.r) c.r Θ [] r in
    omega arith

pub found : {P : ℕ → Scope → Type 0} {l : List Hand} (r : ℕ) → 1 ≤ tally l r → Each P l → (Γ : Scope) × P r Γ
unfolding tally
found r h none = absurd (omega arith)
found {P} r h (more {h = x} {l = l} e f) = elim (ℕ_discrete x.row r) [
  | yes q ↦ (x.scope, rw q at e)
  | no q ↦ (let z : hit r x.row ≡ 0 = rw (ne_eqb x.row r q) in found r (omega arith) f)
]

pub each_map : {P Q : ℕ → Scope → Type 0} → ((p : ℕ) (Γ : Scope) → P p Γ → Q p Γ) → {l : List Hand} → Each P l → Each Q l
each_map f none = none
each_map f (more {h = x} e g) = more (f x.row x.scope e) (each_map f g)

pub each_both : {P Q : ℕ → Scope → Type 0} {l : List Hand} → Each P l → Each Q l → Each (λ p Γ. P p Γ × Q p Γ) l
each_both none none = none
each_both (more e f) (more g h) = more (e, g) (each_both f h)

pub each_head : {P : ℕ → Scope → Type 0} {h : Hand} {l : List Hand} → Each P (h ∷ l) → P h.row h.scope
each_head (more e f) = e

pub each_tail : {P : ℕ → Scope → Type 0} {h : Hand} {l : List Hand} → Each P (h ∷ l) → Each P l
each_tail (more e f) = f

-- a row that is handed nothing keeps its scope
pub after_none : (l : List Hand) (σ : ℕ → Scope) (p : ℕ) → tally l p ≡ 0 → after l σ p ≡ σ p
unfolding after tally
after_none [] σ p h = refl
after_none (x ∷ l) σ p h = elim (ℕ_discrete x.row p) [
  | yes q ↦ absurd (let z : hit p x.row ≡ 1 = rw (eq-eqb x.row p q) in omega arith)
  | no q ↦ (let z : hit p x.row ≡ 0 = rw (ne_eqb x.row p q) in after_none l (put σ x.row x.scope) p (omega arith) ∙ put_other σ x.row x.scope p q)
]

-- rows that are handed one scope each have it
pub after_once : {Q : ℕ → Type 0} {l : List Hand} (σ : ℕ → Scope) → Each (λ p Γ. Q p) l → ((p : ℕ) → Q p → tally l p ≤ 1) → Each (λ p Γ. after l σ p ≡ Γ) l
unfolding after tally
after_once σ none f = none
after_once {Q} σ (more {h = x} {l = l} e g) f =
    let one : hit x.row x.row ≡ 1 = rw (eq-eqb x.row x.row refl) in
    let most = f x.row e in
    more (after_none l (put σ x.row x.scope) x.row (omega arith) ∙ put_same σ x.row x.scope)
    (after_once {Q = Q} (put σ x.row x.scope) g (λ p q. let m = f p q in omega arith))

-- ---- what each hand is, read off how often a row is handed one

pub tally_none : {Q : ℕ → Type 0} {l : List Hand} (r : ℕ) → Each (λ p Γ. Q p) l → (Q r → ⊥) → tally l r ≡ 0
unfolding tally
tally_none r none f = refl
tally_none {Q} r (more {h = x} {l = l} e g) f = elim (ℕ_discrete x.row r) [
  | yes q ↦ absurd (f (rw q at e))
  | no q ↦ (let z : hit r x.row ≡ 0 = rw (ne_eqb x.row r q) in let s = tally_none {Q = Q} r g f in omega arith)
]

tally_each : (m : ℕ → ℕ) (l : List Hand) → ((p : ℕ) → tally l p ≤ m p) → Each (λ p Γ. 1 ≤ m p) l
unfolding tally
tally_each m [] f = none
tally_each m (x ∷ l) f =
    let one : hit x.row x.row ≡ 1 = rw (eq-eqb x.row x.row refl) in
    let s : 1 ≤ m x.row = omega (arith, f x.row) in
    more {h = x} s (tally_each m l (λ p. omega (arith, f p)))

-- each row of a list is handed a scope
pub tally_own : (l : List Hand) → Each (λ p Γ. 1 ≤ tally l p) l
tally_own l = tally_each (λ p. tally l p) l (λ p. omega arith)

-- words of a use, each with what is known of it
takes_each : {Q : ℕ → Type 0} (b : Bool) (r : ℕ) (Γ : Scope) {l : List Hand} → (b ≡ true → Q r) → Each (λ p Γ. Q p) l → Each (λ p Γ. Q p) (takes b r Γ l)
unfolding takes
takes_each true r Γ f e = more (f refl) e
takes_each false r Γ f e = e

pub handed_each : (Q : ℕ → Type 0) (which : Use → Bool) (u : Uses) (c : Cells) (Γ Δ Θ : Scope) → (which u.p ≡ true → Q c.p) → (which u.q ≡ true → Q c.q)
    → (which u.r ≡ true → Q c.r)
    → Each (λ p Γ. Q p) (handed which u c Γ Δ Θ)
handed_each Q which u c Γ Δ Θ f g h = takes_each {Q = Q} (which u.p) c.p Γ f (takes_each {Q = Q} (which u.q) c.q Δ g (takes_each {Q = Q} (which u.r) c.r Θ h none))
