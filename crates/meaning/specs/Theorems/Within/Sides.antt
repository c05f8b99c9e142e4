-- What is asked of a found side and of a wanted one that stand for types; then inclusion of the types holds exactly if no pair of states that is reached is bad. A side that goes alike stands for
-- the same type.
use Rattle.std.specs.Prelude.{ℕ, ◌≤◌, ◌≡◌, true, ◌↔◌}
use Rattle.std.proofs.Common.{sym, ◌∙◌}
use Rattle.meaning.specs.Forest.{Forest}
use Rattle.meaning.specs.Types.{Ty, Named, Of, Within}
use Rattle.meaning.specs.Laws.Pairs.{Side, Admitted, Lives, Free, Included, Comes, NoneBad, decides, Alike, admitted_alike, lives_alike, free_alike, found_alike, wanted_alike}

-- the found side F stands for σ at x: it admits what is of σ, and every place that is reached lives, whatever is wanted
pub record Found (names : ℕ → Named) (F : Side) (x : F.State) (σ : Ty) : Type 1 where
  pub exact : (f : Forest) → Admitted F f x ↔ Of names σ f
  pub lives : (W : Side) (y : W.State) (u : F.State) (v : W.State) → Comes F W x y u v → (a : ℕ) → F.has u a ≡ true → Lives F u a

-- the wanted side W stands for τ at y: it admits what is of τ, and every state that is reached has places 1 to top only, no two of one head, whatever is found
pub record Sought (names : ℕ → Named) (W : Side) (y : W.State) (τ : Ty) : Type 1 where
  pub exact : (f : Forest) → Admitted W f y ↔ Of names τ f
  pub top : ℕ
  pub low : (F : Side) (x : F.State) (u : F.State) (v : W.State) → Comes F W x y u v → (b : ℕ) → W.has v b ≡ true → (1 ≤ b) × (b ≤ top)
  pub free : (F : Side) (x : F.State) (u : F.State) (v : W.State) → Comes F W x y u v → Free W v

-- then inclusion of the types is that of the two states, and holds exactly if no pair that is reached is bad
module _ {names : ℕ → Named} {F W : Side} {x : F.State} {y : W.State} {σ τ : Ty} (p : Found names F x σ) (q : Sought names W y τ) where
  pub within_included : Within names σ τ ↔ Included F W x y
  within_included = ((λ h f i. (q.exact f).1 (h f ((p.exact f).0 i))), (λ h f i. (q.exact f).0 (h f ((p.exact f).1 i))))

  pub decided : Within names σ τ ↔ NoneBad F W x y
  decided = let d = decides F W x y q.top (q.low F x) (p.lives W y) (q.free F x) in ((λ h. d.0 (within_included.0 h)), (λ n. within_included.1 (d.1 n)))

-- a side that goes alike stands for the same
pub found_by : {names : ℕ → Named} {σ : Ty} (Z X : Side) (M : Z.State → X.State → Type 0) → Alike Z X M → (z : Z.State) (x : X.State) → M z x → Found names X x σ → Found names Z z σ
found_by Z X M alike z x m p = record {
  exact = λ f. (let g = admitted_alike Z X M alike f z x m in ((λ i. (p.exact f).0 (g.0 i)), (λ i. g.1 ((p.exact f).1 i))));
  lives = λ W y u v c a e. (let r = found_alike Z X M alike W y z x m c in let h = sym (alike.has u r.0 r.1 a) ∙ e in
      lives_alike Z X M alike u r.0 r.1 a h (p.lives W y r.0 v r.2 a h));
}

pub sought_by : {names : ℕ → Named} {τ : Ty} (Z X : Side) (M : Z.State → X.State → Type 0) → Alike Z X M → (z : Z.State) (x : X.State) → M z x → Sought names X x τ → Sought names Z z τ
sought_by Z X M alike z x m q = record {
  exact = λ f. (let g = admitted_alike Z X M alike f z x m in ((λ i. (q.exact f).0 (g.0 i)), (λ i. g.1 ((q.exact f).1 i))));
  top = q.top;
  low = λ F y u v c b e. (let r = wanted_alike Z X M alike F y z x m c in q.low F y u r.0 r.2 b (sym (alike.has v r.0 r.1 b) ∙ e));
  free = λ F y u v c. (let r = wanted_alike Z X M alike F y z x m c in free_alike Z X M alike v r.0 r.1 (q.free F y u r.0 r.2));
}
