-- What a run costs by its rules (document 01, "How a run goes"): the units and the levels of depth of a derivation by figures 3 and 12.
-- Each row takes one unit and one level; its parts take theirs; then copies take theirs.
use Rattle.std.specs.Prelude.{ℕ, suc, ◌+◌, max, List}
use Rattle.meaning.specs.Sheet.{Script}
use Rattle.meaning.specs.Forest.{Forest, count}
use Rattle.meaning.specs.Run.{Env}
use Rattle.meaning.specs.Figures.{Gives, g_empty, g_join, g_tree, g_text, g_bool, g_variable, g_let, g_if_true, g_if_false}
use Rattle.meaning.specs.Figures.{g_same, g_children, g_pick, g_for, GivesEach, each_none, each_tree, GivesAll, all_none, all_more}
use Rattle.meaning.specs.Figures.{Takes, t_skip, t_then, t_if_true, t_if_false, t_insert, t_delete, t_rename, t_let, t_snapshot}
use Rattle.meaning.specs.Figures.{t_test, t_pass, t_children, t_left, t_right, t_iter, t_call, TakesEach, iter_none, iter_tree}

module _ {S : Script} {byte : ℕ → ℕ} where
  -- ---- units

  unfoldable mutual
    -- a query: join copies the trees of its left value; tree, text, true, false and same 1; pick each kept tree
    pub gives_charge : {γ : Env} {i : ℕ} {x : Forest} → Gives S byte γ i x → ℕ
    gives_charge (g_empty e) = 1
    gives_charge (g_join {x = x} e a b h) = 1 + gives_charge a + gives_charge b + count x
    gives_charge (g_tree e a) = 1 + gives_charge a + 1
    gives_charge (g_text e h) = 1 + 1
    gives_charge (g_bool e) = 1 + 1
    gives_charge (g_variable e h) = 1
    gives_charge (g_let e a b) = 1 + gives_charge a + gives_charge b
    gives_charge (g_if_true e a b) = 1 + gives_charge a + gives_charge b
    gives_charge (g_if_false e a b) = 1 + gives_charge a + gives_charge b
    gives_charge (g_same e a b h) = 1 + gives_charge a + gives_charge b + 1
    gives_charge (g_children e h) = 1
    gives_charge (g_pick {y = y} e a h) = 1 + gives_charge a + count y
    gives_charge (g_for e a b) = 1 + gives_charge a + each_charge b

    -- for: 1 at each tree before its body, and then the trees of that body's result
    pub each_charge : {γ : Env} {q : ℕ} {f x : Forest} → GivesEach S byte γ q f x → ℕ
    each_charge each_none = 0
    each_charge (each_tree {x = x} a b h) = 1 + gives_charge a + count x + each_charge b

  -- a call's queries
  unfoldable pub all_charge : {γ : Env} {l : List ℕ} {m : List Forest} → GivesAll S byte γ l m → ℕ
  all_charge all_none = 0
  all_charge (all_more a b) = gives_charge a + all_charge b

  unfoldable mutual
    -- a statement: rename and children copy 1; left the trees of the new part, right those of the old focus
    pub takes_charge : {γ : Env} {i : ℕ} {f g : Forest} → Takes S byte γ i f g → ℕ
    takes_charge (t_skip e) = 1
    takes_charge (t_then e a b) = 1 + takes_charge a + takes_charge b
    takes_charge (t_if_true e a b) = 1 + gives_charge a + takes_charge b
    takes_charge (t_if_false e a b) = 1 + gives_charge a + takes_charge b
    takes_charge (t_insert e a) = 1 + gives_charge a
    takes_charge (t_delete e) = 1
    takes_charge (t_rename e) = 1 + 1
    takes_charge (t_let e a b) = 1 + gives_charge a + takes_charge b
    takes_charge (t_snapshot e a) = 1 + takes_charge a
    takes_charge (t_test e h a) = 1 + takes_charge a
    takes_charge (t_pass e h) = 1
    takes_charge (t_children e a) = 1 + takes_charge a + 1
    takes_charge (t_left {x = x} e a h) = 1 + takes_charge a + count x
    takes_charge (t_right {f = f} e a h) = 1 + takes_charge a + count f
    takes_charge (t_iter e a) = 1 + iter_charge a
    takes_charge (t_call e a b) = 1 + all_charge a + takes_charge b

    -- iter: as for
    pub iter_charge : {γ : Env} {p : ℕ} {f g : Forest} → TakesEach S byte γ p f g → ℕ
    iter_charge iter_none = 0
    iter_charge (iter_tree {x = x} a b h) = 1 + takes_charge a + count x + iter_charge b

  -- ---- levels of depth: a row one more than the deepest of its parts

  unfoldable mutual
    pub gives_levels : {γ : Env} {i : ℕ} {x : Forest} → Gives S byte γ i x → ℕ
    gives_levels (g_empty e) = 1
    gives_levels (g_join e a b h) = suc (max (gives_levels a) (gives_levels b))
    gives_levels (g_tree e a) = suc (gives_levels a)
    gives_levels (g_text e h) = 1
    gives_levels (g_bool e) = 1
    gives_levels (g_variable e h) = 1
    gives_levels (g_let e a b) = suc (max (gives_levels a) (gives_levels b))
    gives_levels (g_if_true e a b) = suc (max (gives_levels a) (gives_levels b))
    gives_levels (g_if_false e a b) = suc (max (gives_levels a) (gives_levels b))
    gives_levels (g_same e a b h) = suc (max (gives_levels a) (gives_levels b))
    gives_levels (g_children e h) = 1
    gives_levels (g_pick e a h) = suc (gives_levels a)
    gives_levels (g_for e a b) = suc (max (gives_levels a) (each_levels b))

    pub each_levels : {γ : Env} {q : ℕ} {f x : Forest} → GivesEach S byte γ q f x → ℕ
    each_levels each_none = 0
    each_levels (each_tree a b h) = max (gives_levels a) (each_levels b)

  unfoldable pub all_levels : {γ : Env} {l : List ℕ} {m : List Forest} → GivesAll S byte γ l m → ℕ
  all_levels all_none = 0
  all_levels (all_more a b) = max (gives_levels a) (all_levels b)

  unfoldable mutual
    pub takes_levels : {γ : Env} {i : ℕ} {f g : Forest} → Takes S byte γ i f g → ℕ
    takes_levels (t_skip e) = 1
    takes_levels (t_then e a b) = suc (max (takes_levels a) (takes_levels b))
    takes_levels (t_if_true e a b) = suc (max (gives_levels a) (takes_levels b))
    takes_levels (t_if_false e a b) = suc (max (gives_levels a) (takes_levels b))
    takes_levels (t_insert e a) = suc (gives_levels a)
    takes_levels (t_delete e) = 1
    takes_levels (t_rename e) = 1
    takes_levels (t_let e a b) = suc (max (gives_levels a) (takes_levels b))
    takes_levels (t_snapshot e a) = suc (takes_levels a)
    takes_levels (t_test e h a) = suc (takes_levels a)
    takes_levels (t_pass e h) = 1
    takes_levels (t_children e a) = suc (takes_levels a)
    takes_levels (t_left e a h) = suc (takes_levels a)
    takes_levels (t_right e a h) = suc (takes_levels a)
    takes_levels (t_iter e a) = suc (iter_levels a)
    takes_levels (t_call e a b) = suc (max (all_levels a) (takes_levels b))

    pub iter_levels : {γ : Env} {p : ℕ} {f g : Forest} → TakesEach S byte γ p f g → ℕ
    iter_levels iter_none = 0
    iter_levels (iter_tree a b h) = max (takes_levels a) (iter_levels b)
