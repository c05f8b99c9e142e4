-- The loop of for and iter as the code does it: each turn's result becomes a link in front of the links before, and what they hold is gathered from the back. It is meaning's `each` (`loop_is`).
use Rattle.std.specs.Prelude.{ℕ, ◌+◌, ◌≤◌, ◌≡◌, refl, List, Result, Ok, Err, IsErrAnd}
use Rattle.std.proofs.Common.{sym, ap, ◌∙◌, subst}
use Rattle.meaning.specs.Forest.{Tree, Forest, nil, cons, only, ◌⊕◌, count, forest_at}
use Rattle.meaning.specs.Run.{each}
use Rattle.meaning.specs.Walk.{ret, halt, tick, ask, ◌>>=◌, pay, gives, Settles, Quiet, Unasked}
use Rattle.meaning.specs.Laws.Forest.{⊕-nil, nil-⊕, ⊕-assoc}
use Rattle.meaning.specs.Laws.Rows.{LowRows, SameRows}
use Rattle.meaning.specs.Laws.Walk.{then_ret, then_assoc, pay_then}
use Rattle.meaning.specs.Theorems.ReadBack.{lent_row}
use Rattle.walk.specs.Meets.{Stopped}
use Rattle.walk.specs.declared.Got.{Got}
use Rattle.walk.specs.declared.Stop.{Stop}

-- links: labelled trees, the last turn's first; a link's children are a turn's result
unfoldable pub Links : Forest → Type 0
Links nil = Unit {0}
Links (cons (Tree.text w) f) = ⊥
Links (cons (Tree.bool b) f) = ⊥
Links (cons (Tree.node l x) f) = Links f

-- what the links hold, first to last
unfoldable pub gathered : Forest → Forest
gathered nil = nil
gathered (cons (Tree.text w) f) = gathered f
gathered (cons (Tree.bool b) f) = gathered f
gathered (cons (Tree.node l x) f) = gathered f ⊕ x

-- the first tree of a forest, alone
unfoldable pub alone : Forest → Forest
alone nil = nil
alone (cons t f) = only t

-- a turn's result, its copies paid, as a link in front of the links before
abbrev pub keep_of : Forest → Forest → Quiet Forest
keep_of links x = pay (count x) (ret (cons (Tree.node 0 x) links))

abbrev pub turn_of : (Forest → Quiet Forest) → Forest → Forest → Quiet Forest
turn_of body one links = tick (body one >>= keep_of links)

unfoldable pub loop_of : (Forest → Quiet Forest) → Forest → Forest → Quiet Forest
loop_of body nil links = ret (gathered links)
loop_of body (cons t f) links = turn_of body (only t) links >>= loop_of body f

-- walks that go on alike are alike
then_same : {A B : Type 0} (w : Quiet A) (k l : A → Quiet B) → ((x : A) → k x ≡ l x) → (w >>= k) ≡ (w >>= l)
unfolding ◌>>=◌
then_same (ret x) k l h = h x
then_same (halt s) k l h = refl
then_same (tick w) k l h = ap tick (then_same w k l h)
then_same (ask q w) k l h = absurd q

-- the links stand before what is still to come
onto_turn : (body : Forest → Quiet Forest) (f links x : Forest) → ((l : Forest) → loop_of body f l ≡ (each body f >>= λ y. ret (gathered l ⊕ y)))
    → (keep_of links x >>= loop_of body f) ≡ (pay (count x) (each body f >>= λ y. ret (x ⊕ y)) >>= λ y. ret (gathered links ⊕ y))
unfolding gathered ◌>>=◌
onto_turn body f links x ih =
    let rest : Quiet Forest = each body f in
    let all : (rest >>= λ y. ret ((gathered links ⊕ x) ⊕ y)) ≡ (rest >>= λ y. ret (gathered links ⊕ (x ⊕ y))) =
    then_same rest (λ y. ret ((gathered links ⊕ x) ⊕ y)) (λ y. ret (gathered links ⊕ (x ⊕ y))) (λ y. ap (λ (g : Forest). ret g) (⊕-assoc (gathered links) x y)) in
    pay_then (count x) (ret (cons (Tree.node 0 x) links)) (loop_of body f)
    ∙ ap (pay (count x)) (ih (cons (Tree.node 0 x) links) ∙ all ∙ sym (then_assoc rest (λ y. ret (x ⊕ y)) (λ y. ret (gathered links ⊕ y))))
    ∙ sym (pay_then (count x) (rest >>= λ y. ret (x ⊕ y)) (λ y. ret (gathered links ⊕ y)))

loop_onto : (body : Forest → Quiet Forest) (f links : Forest) → loop_of body f links ≡ (each body f >>= λ y. ret (gathered links ⊕ y))
unfolding loop_of each gathered ◌>>=◌
loop_onto body nil links = ap (λ (f : Forest). ret f) (sym (⊕-nil (gathered links)))
loop_onto body (cons t f) links =
    ap tick (then_assoc (body (only t)) (keep_of links) (loop_of body f)
    ∙ then_same (body (only t)) (λ x. keep_of links x >>= loop_of body f) (λ x. pay (count x) (each body f >>= λ y. ret (x ⊕ y)) >>= λ y. ret (gathered links ⊕ y))
    (λ x. onto_turn body f links x (loop_onto body f))
    ∙ sym (then_assoc (body (only t)) (λ x. pay (count x) (each body f >>= λ y. ret (x ⊕ y))) (λ y. ret (gathered links ⊕ y))))

-- the loop is meaning's
pub loop_is : (body : Forest → Quiet Forest) (f : Forest) → loop_of body f nil ≡ each body f
unfolding gathered
loop_is body f = loop_onto body f nil ∙ then_same (each body f) (λ y. ret (nil ⊕ y)) (λ y. ret y) (λ y. ap (λ (g : Forest). ret g) (nil-⊕ y)) ∙ then_ret (each body f)

-- ---- a turn: the copies that its links owe are paid and not yet written

pub record Turned (w : Quiet Forest) (byte : ℕ → ℕ) (left used cap : ℕ) (old new : List ℕ) (root used' left' : ℕ) : Type 0 where
  pub settles : Settles Unasked w left (gives (forest_at byte (lent_row new) root)) left'
  pub inside : root ≤ used'
  pub grown : used ≤ used'
  pub paid : used' + left' + count (gathered (forest_at byte (lent_row new) root)) ≤ cap
  pub low : LowRows (lent_row new) used'
  pub same : SameRows (lent_row old) (lent_row new) used
  pub links : Links (forest_at byte (lent_row new) root)

abbrev pub TurnsBy : Quiet Forest → (ℕ → ℕ) → ℕ → ℕ → ℕ → List ℕ → List ℕ → Result Got Stop → Type 0
TurnsBy w byte left used cap old new (Ok g) = Turned w byte left used cap old new g.root g.left.used g.left.purse.left
TurnsBy w byte left used cap old new (Err why) = Stopped w left why

pub record Turns (w : Quiet Forest) (byte : ℕ → ℕ) (left used cap : ℕ) (old new : List ℕ) (a : Result Got Stop) : Type 0 where
  pub by : TurnsBy w byte left used cap old new a

module _ {w : Quiet Forest} {byte : ℕ → ℕ} {left used cap : ℕ} {old new : List ℕ} {a : Result Got Stop} where
  pub turns_done : {g : Got} → a ≡ Ok g → Turns w byte left used cap old new a → Turned w byte left used cap old new g.root g.left.used g.left.purse.left
  turns_done e m = subst (TurnsBy w byte left used cap old new) e m.by

  pub turns_not : {why : Stop} → a ≡ Err why → Turns w byte left used cap old new a → Stopped w left why
  turns_not e m = subst (TurnsBy w byte left used cap old new) e m.by

pub turns_stop : {w : Quiet Forest} {byte : ℕ → ℕ} {left used cap : ℕ} {old new : List ℕ} {why : Stop} → Stopped w left why → Turns w byte left used cap old new (Err why)
turns_stop s = record { by = s }

pub turns_exit : {w : Quiet Forest} {byte : ℕ → ℕ} {left used cap : ℕ} {old new : List ℕ} {why : Stop} (a : Result Got Stop) → IsErrAnd a (λ e. e ≡ why) → Stopped w left why
    → Turns w byte left used cap old new a
turns_exit (Ok g) h s = absurd h
turns_exit {w} {left = left} (Err e) h s = turns_stop (subst (Stopped w left) (sym h) s)
