-- The paper's judgments, as document 01 narrows them: run by figures 3 and 12, typing by figures 4 and 13, with appendix A's judgments for
-- pick and for.
-- Figure 13 has children of a labelled variable only; here those of a text or bool are () too, as a run gives them.
-- No units, no depth, no order. A premise `statement_at S i ≡ ..` says which rule a row is for. Subsumption stands only where document 01
-- asks for inclusion, and arities are replaced by "an atom as written".
-- What a rule looks at is said by relations of its own, not by functions of run and check; Laws/Figures shows that they agree.
use Rattle.std.specs.Prelude.{ℕ, ◌≤◌, ◌≡◌, Bool, true, false, List, [], ◌∷◌, ◌++◌, get_or}
use Rattle.meaning.specs.Sheet.{Script}
use Rattle.meaning.specs.Kinds.{Query, Test, Statement, query_at, statement_at}
use Rattle.meaning.specs.Forest.{Text, Tree, Forest, nil, cons, only, ◌⊕◌, text_at}
use Rattle.meaning.specs.Types.{Ty, Named, Within, declared, names_in}
use Rattle.meaning.specs.Run.{Env}
use Rattle.meaning.specs.Check.{Types, declaration}

-- ---- what the rules of a run look at

-- t ∈ ⟦φ⟧ (section 3.3): the tree is one that the test is for
pub data Matches : Test → Tree → Type 0 where
  m_text : {w : Text} → Matches Test.text (Tree.text w)
  m_any : {t : Tree} → Matches Test.any t
  m_label : {n : ℕ} {f : Forest} → Matches (Test.label n) (Tree.node n f)

-- t ∉ ⟦φ⟧
abbrev pub Differs : Test → Tree → Type 0
Differs φ t = Matches φ t → ⊥

-- children (n[f]) = f, and children (v) = () for any other v (figure 12)
pub data Inside : Forest → Forest → Type 0 where
  in_node : {n : ℕ} {f : Forest} → Inside (only (Tree.node n f)) f
  in_other : {v : Forest} → ((n : ℕ) (f : Forest) → v ≡ only (Tree.node n f) → ⊥) → Inside v nil

-- [n[v] | n[v] ∈ f] (figure 12): the trees of f with the label n, in their order
pub data Kept (n : ℕ) : Forest → Forest → Type 0 where
  k_none : Kept n nil nil
  k_tree : {t : Tree} {f g : Forest} → Matches (Test.label n) t → Kept n f g → Kept n (cons t f) (cons t g)
  k_other : {t : Tree} {f g : Forest} → Differs (Test.label n) t → Kept n f g → Kept n (cons t f) g

-- are two texts the same: by their bytes
pub data Same (w v : Text) : Bool → Type 0 where
  same_bytes : w.bytes ≡ v.bytes → Same w v true
  other_bytes : (w.bytes ≡ v.bytes → ⊥) → Same w v false

-- ---- run: γ ⊢ e ⇒ v (figure 12) and γ; v ⊢ s ⇒ v' (figure 3)

module _ (S : Script) (byte : ℕ → ℕ) where
  mutual
    -- row i, a query, gives v
    pub data Gives : Env → ℕ → Forest → Type 0 where
      g_empty : {γ : Env} {i : ℕ} → query_at S i ≡ Query.empty → Gives γ i nil
      g_join : {γ : Env} {i p q : ℕ} {x y z : Forest} → query_at S i ≡ Query.join p q → Gives γ p x → Gives γ q y → x ⊕ y ≡ z → Gives γ i z
      g_tree : {γ : Env} {i n q : ℕ} {x : Forest} → query_at S i ≡ Query.tree n q → Gives γ q x → Gives γ i (only (Tree.node n x))
      g_text : {γ : Env} {i p q : ℕ} {w : Text} → query_at S i ≡ Query.text p q → text_at byte p q ≡ w → Gives γ i (only (Tree.text w))
      g_bool : {γ : Env} {i : ℕ} {b : Bool} → query_at S i ≡ Query.bool b → Gives γ i (only (Tree.bool b))
      g_variable : {γ : Env} {i v : ℕ} {x : Forest} → query_at S i ≡ Query.variable v → get_or γ v nil ≡ x → Gives γ i x
      g_let : {γ : Env} {i p q : ℕ} {x y : Forest} → query_at S i ≡ Query.letin p q → Gives γ p x → Gives (γ ++ x ∷ []) q y → Gives γ i y
      g_if_true : {γ : Env} {i p q r : ℕ} {x : Forest} → query_at S i ≡ Query.if p q r → Gives γ p (only (Tree.bool true)) → Gives γ q x
          → Gives γ i x
      g_if_false : {γ : Env} {i p q r : ℕ} {x : Forest} → query_at S i ≡ Query.if p q r → Gives γ p (only (Tree.bool false)) → Gives γ r x
          → Gives γ i x
      g_same : {γ : Env} {i p q : ℕ} {w v : Text} {b : Bool} → query_at S i ≡ Query.same p q
          → Gives γ p (only (Tree.text w)) → Gives γ q (only (Tree.text v)) → Same w v b → Gives γ i (only (Tree.bool b))
      g_children : {γ : Env} {i v : ℕ} {x : Forest} → query_at S i ≡ Query.children v → Inside (get_or γ v nil) x → Gives γ i x
      g_pick : {γ : Env} {i p l : ℕ} {x y : Forest} → query_at S i ≡ Query.pick p l → Gives γ p x → Kept l x y → Gives γ i y
      g_for : {γ : Env} {i p q : ℕ} {x y : Forest} → query_at S i ≡ Query.for p q → Gives γ p x → GivesEach γ q x y → Gives γ i y

    -- row q, for each tree, one after the other
    pub data GivesEach : Env → ℕ → Forest → Forest → Type 0 where
      each_none : {γ : Env} {q : ℕ} → GivesEach γ q nil nil
      each_tree : {γ : Env} {q : ℕ} {t : Tree} {f x y z : Forest} → Gives (γ ++ only t ∷ []) q x → GivesEach γ q f y → x ⊕ y ≡ z
          → GivesEach γ q (cons t f) z

  -- a call's queries give the parameters' values
  pub data GivesAll (γ : Env) : List ℕ → List Forest → Type 0 where
    all_none : GivesAll γ [] []
    all_more : {q : ℕ} {l : List ℕ} {x : Forest} {m : List Forest} → Gives γ q x → GivesAll γ l m → GivesAll γ (q ∷ l) (x ∷ m)

  mutual
    -- row i, a statement, takes the focus to a value
    pub data Takes : Env → ℕ → Forest → Forest → Type 0 where
      t_skip : {γ : Env} {i : ℕ} {f : Forest} → statement_at S i ≡ Statement.skip → Takes γ i f f
      t_then : {γ : Env} {i p q : ℕ} {f g h : Forest} → statement_at S i ≡ Statement.then p q → Takes γ p f g
          → Takes γ q g h → Takes γ i f h
      t_if_true : {γ : Env} {i p q r : ℕ} {f g : Forest} → statement_at S i ≡ Statement.if p q r → Gives γ p (only (Tree.bool true))
          → Takes γ q f g → Takes γ i f g
      t_if_false : {γ : Env} {i p q r : ℕ} {f g : Forest} → statement_at S i ≡ Statement.if p q r → Gives γ p (only (Tree.bool false))
          → Takes γ r f g → Takes γ i f g
      t_insert : {γ : Env} {i p : ℕ} {x : Forest} → statement_at S i ≡ Statement.insert p → Gives γ p x → Takes γ i nil x
      t_delete : {γ : Env} {i : ℕ} {f : Forest} → statement_at S i ≡ Statement.delete → Takes γ i f nil
      t_rename : {γ : Env} {i l n : ℕ} {f : Forest} → statement_at S i ≡ Statement.rename l
          → Takes γ i (only (Tree.node n f)) (only (Tree.node l f))
      t_let : {γ : Env} {i p q : ℕ} {x f g : Forest} → statement_at S i ≡ Statement.letin p q → Gives γ p x → Takes (γ ++ x ∷ []) q f g
          → Takes γ i f g
      t_snapshot : {γ : Env} {i p : ℕ} {f g : Forest} → statement_at S i ≡ Statement.snapshot p → Takes (γ ++ f ∷ []) p f g → Takes γ i f g
      t_test : {γ : Env} {i r : ℕ} {t : Test} {u : Tree} {g : Forest} → statement_at S i ≡ Statement.test t r
          → Matches t u → Takes γ r (only u) g → Takes γ i (only u) g
      t_pass : {γ : Env} {i r : ℕ} {t : Test} {u : Tree} → statement_at S i ≡ Statement.test t r → Differs t u → Takes γ i (only u) (only u)
      t_children : {γ : Env} {i p n : ℕ} {f g : Forest} → statement_at S i ≡ Statement.children p → Takes γ p f g
          → Takes γ i (only (Tree.node n f)) (only (Tree.node n g))
      t_left : {γ : Env} {i p : ℕ} {f x g : Forest} → statement_at S i ≡ Statement.left p → Takes γ p nil x → x ⊕ f ≡ g → Takes γ i f g
      t_right : {γ : Env} {i p : ℕ} {f x g : Forest} → statement_at S i ≡ Statement.right p → Takes γ p nil x → f ⊕ x ≡ g → Takes γ i f g
      t_iter : {γ : Env} {i p : ℕ} {f g : Forest} → statement_at S i ≡ Statement.iter p → TakesEach γ p f g → Takes γ i f g
      t_call : {γ : Env} {i c : ℕ} {l : List ℕ} {m : List Forest} {f g : Forest} → statement_at S i ≡ Statement.call c l → GivesAll γ l m
          → Takes m (S.procedure_row c).body f g → Takes γ i f g

    -- iter: each tree of the focus as it was
    pub data TakesEach : Env → ℕ → Forest → Forest → Type 0 where
      iter_none : {γ : Env} {p : ℕ} → TakesEach γ p nil nil
      iter_tree : {γ : Env} {p : ℕ} {t : Tree} {f x y z : Forest} → Takes γ p (only t) x → TakesEach γ p f y → x ⊕ y ≡ z
          → TakesEach γ p (cons t f) z

-- ---- what the rules of typing look at: an atom as written

-- a type whose top is an atom
pub data Atomic : Ty → Type 0 where
  is_text : Atomic Ty.text
  is_bool : Atomic Ty.bool
  is_label : {n : ℕ} {τ : Ty} → Atomic (Ty.label n τ)
  is_name : {x : ℕ} → Atomic (Ty.name x)

-- α is the labelled atom n[τ]; a name acts as its label row
pub data Labelled (names : ℕ → Named) : Ty → ℕ → Ty → Type 0 where
  l_label : {n : ℕ} {τ : Ty} → Labelled names (Ty.label n τ) n τ
  l_name : {x : ℕ} → Labelled names (Ty.name x) (names x).label (names x).content

-- α is an atom without children
pub data Childless : Ty → Type 0 where
  c_text : Childless Ty.text
  c_bool : Childless Ty.bool

-- α <: φ (section 4): the test is for every tree of the atom
pub data TestMatches (names : ℕ → Named) : Test → Ty → Type 0 where
  a_text : TestMatches names Test.text Ty.text
  a_any : {α : Ty} → Atomic α → TestMatches names Test.any α
  a_label : {n : ℕ} {α τ : Ty} → Labelled names α n τ → TestMatches names (Test.label n) α

-- not α <: φ, and α is an atom
pub record TestDiffers (names : ℕ → Named) (φ : Test) (α : Ty) : Type 0 where
  pub atom : Atomic α
  pub differs : TestMatches names φ α → ⊥

-- ---- typing: τ :: n ⇒ τ' (appendix A)

pub data Picks (names : ℕ → Named) (l : ℕ) : Ty → Ty → Type 0 where
  p_empty : Picks names l Ty.empty Ty.empty
  p_kept : {α : Ty} → TestMatches names (Test.label l) α → Picks names l α α
  p_away : {α : Ty} → TestDiffers names (Test.label l) α → Picks names l α Ty.empty
  p_seq : {τ τ' σ σ' : Ty} → Picks names l τ σ → Picks names l τ' σ' → Picks names l (Ty.seq τ τ') (Ty.seq σ σ')
  p_choice : {τ τ' σ σ' : Ty} → Picks names l τ σ → Picks names l τ' σ' → Picks names l (Ty.choice τ τ') (Ty.choice σ σ')
  p_star : {τ σ : Ty} → Picks names l τ σ → Picks names l (Ty.star τ) (Ty.star σ)

module _ (S : Script) where
  -- ---- Γ ⊢ e : τ (figure 13), and x̄ in τ → e (appendix A)
  mutual
    pub data Has : Types → ℕ → Ty → Type 0 where
      h_empty : {Γ : Types} {i : ℕ} → query_at S i ≡ Query.empty → Has Γ i Ty.empty
      h_join : {Γ : Types} {i p q : ℕ} {τ σ : Ty} → query_at S i ≡ Query.join p q → Has Γ p τ → Has Γ q σ → Has Γ i (Ty.seq τ σ)
      h_tree : {Γ : Types} {i n q : ℕ} {τ : Ty} → query_at S i ≡ Query.tree n q → Has Γ q τ → Has Γ i (Ty.label n τ)
      h_text : {Γ : Types} {i p q : ℕ} → query_at S i ≡ Query.text p q → Has Γ i Ty.text
      h_bool : {Γ : Types} {i : ℕ} {b : Bool} → query_at S i ≡ Query.bool b → Has Γ i Ty.bool
      h_variable : {Γ : Types} {i v : ℕ} {τ : Ty} → query_at S i ≡ Query.variable v → get_or Γ v Ty.empty ≡ τ → Has Γ i τ
      h_let : {Γ : Types} {i p q : ℕ} {τ σ : Ty} → query_at S i ≡ Query.letin p q → Has Γ p τ → Has (Γ ++ τ ∷ []) q σ → Has Γ i σ
      h_if : {Γ : Types} {i p q r : ℕ} {c τ σ : Ty} → query_at S i ≡ Query.if p q r → Has Γ p c → Within (names_in S) c Ty.bool → Has Γ q τ
          → Has Γ r σ → Has Γ i (Ty.choice τ σ)
      h_same : {Γ : Types} {i p q : ℕ} {τ σ : Ty} → query_at S i ≡ Query.same p q → Has Γ p τ → Has Γ q σ → Within (names_in S) τ Ty.text
          → Within (names_in S) σ Ty.text → Has Γ i Ty.bool
      h_children : {Γ : Types} {i v n : ℕ} {τ : Ty} → query_at S i ≡ Query.children v
          → Labelled (names_in S) (get_or Γ v Ty.empty) n τ → Has Γ i τ
      h_childless : {Γ : Types} {i v : ℕ} → query_at S i ≡ Query.children v → Childless (get_or Γ v Ty.empty) → Has Γ i Ty.empty
      h_pick : {Γ : Types} {i p l : ℕ} {τ σ : Ty} → query_at S i ≡ Query.pick p l → Has Γ p τ → Picks (names_in S) l τ σ → Has Γ i σ
      h_for : {Γ : Types} {i p q : ℕ} {τ σ : Ty} → query_at S i ≡ Query.for p q → Has Γ p τ → HasEach Γ q τ σ → Has Γ i σ

    pub data HasEach : Types → ℕ → Ty → Ty → Type 0 where
      e_empty : {Γ : Types} {q : ℕ} → HasEach Γ q Ty.empty Ty.empty
      e_atom : {Γ : Types} {q : ℕ} {α σ : Ty} → Atomic α → Has (Γ ++ α ∷ []) q σ → HasEach Γ q α σ
      e_seq : {Γ : Types} {q : ℕ} {τ τ' σ σ' : Ty} → HasEach Γ q τ σ → HasEach Γ q τ' σ' → HasEach Γ q (Ty.seq τ τ') (Ty.seq σ σ')
      e_choice : {Γ : Types} {q : ℕ} {τ τ' σ σ' : Ty} → HasEach Γ q τ σ → HasEach Γ q τ' σ' → HasEach Γ q (Ty.choice τ τ') (Ty.choice σ σ')
      e_star : {Γ : Types} {q : ℕ} {τ σ : Ty} → HasEach Γ q τ σ → HasEach Γ q (Ty.star τ) (Ty.star σ)

  -- a call's queries have types
  pub data HasAll (Γ : Types) : List ℕ → List Ty → Type 0 where
    has_none : HasAll Γ [] []
    has_more : {q : ℕ} {l : List ℕ} {τ : Ty} {m : List Ty} → Has Γ q τ → HasAll Γ l m → HasAll Γ (q ∷ l) (τ ∷ m)

  -- and these lie in the declared ones, one by one
  pub data Lie : List Ty → List Ty → Type 0 where
    lie_none : Lie [] []
    lie_more : {σ τ : Ty} {l m : List Ty} → Within (names_in S) σ τ → Lie l m → Lie (σ ∷ l) (τ ∷ m)

  -- ---- Γ ⊢ {τ} s {τ'} and iter (figure 4)
  mutual
    pub data Typed : Types → ℕ → Ty → Ty → Type 0 where
      y_skip : {Γ : Types} {i : ℕ} {τ : Ty} → statement_at S i ≡ Statement.skip → Typed Γ i τ τ
      y_then : {Γ : Types} {i p q : ℕ} {τ σ ρ : Ty} → statement_at S i ≡ Statement.then p q → Typed Γ p τ σ → Typed Γ q σ ρ → Typed Γ i τ ρ
      y_if : {Γ : Types} {i p q r : ℕ} {c τ σ ρ : Ty} → statement_at S i ≡ Statement.if p q r → Has Γ p c → Within (names_in S) c Ty.bool
          → Typed Γ q τ σ → Typed Γ r τ ρ → Typed Γ i τ (Ty.choice σ ρ)
      y_insert : {Γ : Types} {i p : ℕ} {τ σ : Ty} → statement_at S i ≡ Statement.insert p → Within (names_in S) τ Ty.empty → Has Γ p σ
          → Typed Γ i τ σ
      y_delete : {Γ : Types} {i : ℕ} {τ : Ty} → statement_at S i ≡ Statement.delete → Typed Γ i τ Ty.empty
      y_rename : {Γ : Types} {i l n : ℕ} {α τ : Ty} → statement_at S i ≡ Statement.rename l
          → Labelled (names_in S) α n τ → Typed Γ i α (Ty.label l τ)
      y_let : {Γ : Types} {i p q : ℕ} {ρ τ σ : Ty} → statement_at S i ≡ Statement.letin p q → Has Γ p ρ → Typed (Γ ++ ρ ∷ []) q τ σ
          → Typed Γ i τ σ
      y_snapshot : {Γ : Types} {i p : ℕ} {τ σ : Ty} → statement_at S i ≡ Statement.snapshot p → Typed (Γ ++ τ ∷ []) p τ σ → Typed Γ i τ σ
      y_test : {Γ : Types} {i r : ℕ} {t : Test} {τ σ : Ty} → statement_at S i ≡ Statement.test t r
          → TestMatches (names_in S) t τ → Typed Γ r τ σ → Typed Γ i τ σ
      y_pass : {Γ : Types} {i r : ℕ} {t : Test} {τ : Ty} → statement_at S i ≡ Statement.test t r
          → TestDiffers (names_in S) t τ → Typed Γ i τ τ
      y_children : {Γ : Types} {i p n : ℕ} {α τ σ : Ty} → statement_at S i ≡ Statement.children p
          → Labelled (names_in S) α n τ → Typed Γ p τ σ → Typed Γ i α (Ty.label n σ)
      y_left : {Γ : Types} {i p : ℕ} {τ σ : Ty} → statement_at S i ≡ Statement.left p → Typed Γ p Ty.empty σ → Typed Γ i τ (Ty.seq σ τ)
      y_right : {Γ : Types} {i p : ℕ} {τ σ : Ty} → statement_at S i ≡ Statement.right p → Typed Γ p Ty.empty σ → Typed Γ i τ (Ty.seq τ σ)
      y_iter : {Γ : Types} {i p : ℕ} {τ σ : Ty} → statement_at S i ≡ Statement.iter p → TypedEach Γ p τ σ → Typed Γ i τ σ
      y_call : {Γ : Types} {i c : ℕ} {l : List ℕ} {m : List Ty} {τ σ : Ty} → statement_at S i ≡ Statement.call c l
          → Within (names_in S) τ (declaration S c).input → HasAll Γ l m → Lie m (declaration S c).parameters → (declaration S c).output ≡ σ
          → Typed Γ i τ σ

    pub data TypedEach : Types → ℕ → Ty → Ty → Type 0 where
      i_empty : {Γ : Types} {p : ℕ} → TypedEach Γ p Ty.empty Ty.empty
      i_atom : {Γ : Types} {p : ℕ} {α σ : Ty} → Atomic α → Typed Γ p α σ → TypedEach Γ p α σ
      i_seq : {Γ : Types} {p : ℕ} {τ τ' σ σ' : Ty} → TypedEach Γ p τ σ → TypedEach Γ p τ' σ' → TypedEach Γ p (Ty.seq τ τ') (Ty.seq σ σ')
      i_choice : {Γ : Types} {p : ℕ} {τ τ' σ σ' : Ty} → TypedEach Γ p τ σ → TypedEach Γ p τ' σ'
          → TypedEach Γ p (Ty.choice τ τ') (Ty.choice σ σ')
      i_star : {Γ : Types} {p : ℕ} {τ σ : Ty} → TypedEach Γ p τ σ → TypedEach Γ p (Ty.star τ) (Ty.star σ)

  -- ---- ⊢ Δ: a body, or main, computes a type that lies in the declared one
  pub record Passes (Γ : Types) (i : ℕ) (τ σ : Ty) : Type 0 where
    pub output : Ty
    pub typed : Typed Γ i τ output
    pub lies : Within (names_in S) output σ

  -- every procedure keeps its declaration, and main takes A into B
  pub record Accepts : Type 0 where
    pub procedures : (c : ℕ) → 1 ≤ c → c ≤ S.procedures
        → Passes (declaration S c).parameters (S.procedure_row c).body (declaration S c).input (declaration S c).output
    pub main : Passes [] S.main (declared S S.a) (declared S S.b)
