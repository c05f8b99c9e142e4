-- A law for each way in which an evaluator of the cycle makes its answer: a part, two parts, a place more, a condition, a variable, a turn, the loop.
use Prim.Native.Nat.{ℕ, ◌+◌, ◌≤◌, ◌<◌}
use native.Mathlib.Omega.{arith}
use mathlib.Core.Path.{◌≡◌, refl, sym, ap, ◌∙◌, subst}
use mathlib.Core.Bool.{Bool, true, false}
use mathlib.Core.List.{List}
use lib.ListN.{length}
use Rattle.std.specs.Prelude.{Result, Ok, Err}
use Rattle.meaning.specs.Sheet.{Cells}
use Rattle.meaning.specs.Kinds.{Query}
use Rattle.meaning.specs.Tests.{in_table}
use Rattle.meaning.specs.Forest.{Text, Tree, Forest, nil, only, count, forest_at, text_at, bytes_from, equal_bytes, bool_kind}
use Rattle.meaning.specs.Walk.{Unasked, Quiet, halt, ret, ◌>>=◌, of_query, stuck}
use Rattle.meaning.specs.Run.{Seen, nothing, many, a_text, a_bool, a_node, seen, inside, branch, same_texts, copied, query_of, each}
use Rattle.meaning.specs.Laws.Walk.{leads_then}
use Rattle.meaning.specs.Theorems.ReadBack.{lent_row}
use Rattle.walk.specs.Scope.{value_of, More, scoped_with, env_at}
use Rattle.walk.specs.Meets.{Roomy, Ready, Finished, Stopped, Meets, met_as, met_of, met_ret, met_then, met_stop, stop_then, stop_leads, stop_stuck, forest_kept}
use Rattle.walk.specs.Loop.{Links, Turned, Turns, alone, gathered, turn_of, keep_of}
use Rattle.walk.specs.declared.Scope.{Scope}
use Rattle.walk.specs.declared.Purse.{Purse}
use Rattle.walk.specs.declared.Concern.TheVariants as concern
use Rattle.walk.specs.declared.Got.{Got}
use Rattle.walk.specs.declared.Stop.{Stop}
use Rattle.walk.specs.declared.Stop.TheVariants.{Stuck}
use Rattle.forest_rows.specs.Rows.{Pushed, MakeAsks, made, GatherAsks, Gathered}
use Rattle.forest_rows.specs.Asks.{leaf_asks, branch_stuck, Arm, arm_branch}
use Rattle.forest_rows.specs.Each.{Looping, loop_start, loop_ready, loop_asks, loop_done, loop_falls, loop_stop, loop_more, one_ready, one_stop, one_keep, one_links, one_more}
use Rattle.walk.specs.Fits.{fits, fits_body, a_place, fits_turn, fits_more}
use Rattle.run_query.specs.Ask.{pool, Asks, asked, row_asked, body_asked, asked_after, body_after, asked_with}

-- Stuck at a query row
pub met_stuck : {w : Quiet Forest} {byte : ℕ → ℕ} {used : ℕ} {old new : List ℕ} (at : ℕ) (p : Purse) → w ≡ halt (stuck (of_query at)) → Meets w byte p.left used old new (Err (Stuck (concern.Query at) p))
met_stuck at p h = met_as h (met_stop (stop_stuck (concern.Query at) p))

-- ---- two texts

pub first_stuck : {x : Seen} (y : Seen) (at : ℕ) → ((w : Text) → x ≡ a_text w → ⊥) → same_texts (of_query at) x y ≡ halt (stuck (of_query at))
unfolding same_texts
first_stuck {x = nothing} y at h = refl
first_stuck {x = many} y at h = refl
first_stuck {x = a_text w} y at h = absurd (h w refl)
first_stuck {x = a_bool b} y at h = refl
first_stuck {x = a_node l f} y at h = refl

after_stuck : {y : Seen} (at : ℕ) (w : Text) → ((v : Text) → y ≡ a_text v → ⊥) → same_texts (of_query at) (a_text w) y ≡ halt (stuck (of_query at))
unfolding same_texts
after_stuck {y = nothing} at w h = refl
after_stuck {y = many} at w h = refl
after_stuck {y = a_text v} at w h = absurd (h v refl)
after_stuck {y = a_bool b} at w h = refl
after_stuck {y = a_node l f} at w h = refl

pub second_stuck : {x y : Seen} {w : Text} (at : ℕ) → x ≡ a_text w → ((v : Text) → y ≡ a_text v → ⊥) → same_texts (of_query at) x y ≡ halt (stuck (of_query at))
second_stuck {y = y} {w} at e h = ap (λ (o : Seen). same_texts (of_query at) o y) e ∙ after_stuck at w h

-- the children of what is no labelled tree
pub inside_none : {v : Seen} → ((l : ℕ) (f : Forest) → v ≡ a_node l f → ⊥) → inside v ≡ nil
unfolding inside
inside_none {v = nothing} h = refl
inside_none {v = many} h = refl
inside_none {v = a_text w} h = refl
inside_none {v = a_bool b} h = refl
inside_none {v = a_node l f} h = absurd (h l f refl)

leaf_kind : (b : Bool) → in_table 3 (bool_kind b) ≡ true
leaf_kind true = refl
leaf_kind false = refl

small_kind : (b : Bool) → bool_kind b < 65536
small_kind true = omega arith
small_kind false = omega arith

made_bool : (byte : ℕ → ℕ) (rows : List ℕ) (b : Bool) → made byte rows (bool_kind b) 0 0 ≡ copied 1 (only (Tree.bool b))
made_bool byte rows true = refl
made_bool byte rows false = refl

pub bool_asks : {rows : List ℕ} {used left k : ℕ} (b : Bool) → k ≡ bool_kind b → Roomy rows used left → MakeAsks rows used k 0 0 left
bool_asks {k = k} b e r = leaf_asks k 0 0 (ap (in_table 3) e ∙ leaf_kind b) r (omega (arith, e, small_kind b)) (omega arith) (omega arith)

pub bool_met : {k left used : ℕ} {new : List ℕ} {a : Result Got Stop} (byte : ℕ → ℕ) (rows : List ℕ) (b : Bool) → k ≡ bool_kind b → Meets (made byte rows k 0 0) byte left used rows new a
    → Meets (copied 1 (only (Tree.bool b))) byte left used rows new a
bool_met byte rows b kind got = met_as (sym (made_bool byte rows b) ∙ ap (λ (j : ℕ). made byte rows j 0 0) (sym kind)) got

pub texts_met : {x y : Seen} {o n p m k left used : ℕ} {new : List ℕ} {b : Bool} {a : Result Got Stop} (byte : ℕ → ℕ) (rows : List ℕ) (at : ℕ) → x ≡ a_text (text_at byte o n) → y ≡ a_text (text_at byte p m)
    → b ≡ equal_bytes (bytes_from byte o n) (bytes_from byte p m) → k ≡ bool_kind b → Meets (made byte rows k 0 0) byte left used rows new a → Meets (same_texts (of_query at) x y) byte left used rows new a
unfolding same_texts
texts_met {x} {y} {o} {n} {p} {m} byte rows at ex ey is kind got =
    met_as (ap (λ (v : Seen). same_texts (of_query at) v y) ex ∙ ap (λ (v : Seen). same_texts (of_query at) (a_text (text_at byte o n)) v) ey)
    (bool_met byte rows (equal_bytes (bytes_from byte o n) (bytes_from byte p m)) (kind ∙ ap bool_kind is) got)

-- ---- parts: rows and t are the rows before and after the first

module _ (s : List ℕ) (d : ℕ) {rows t : List ℕ} {e : Scope} {used focus left root n left' : ℕ} (ready : Ready rows e used focus left) (p : ℕ)
    (f : Finished (asked s rows e d p) (pool s) left used rows t root n left') where
  first_after : (q : ℕ) → asked s t e d q ≡ asked s rows e d q
  first_after q = asked_after s rows t ready.roomy.low f.same ready.scoped d q

  -- two parts, then what follows
  module _ (q : ℕ) (k : Forest → Forest → Quiet Forest) where
    abbrev both : Quiet Forest
    both = asked s rows e d p >>= λ x. asked s rows e d q >>= λ y. k x y

    pub both_stop : {why : Stop} → Stopped (asked s t e d q) left' why → Stopped both left why
    both_stop {why} m =
        let x : Forest = forest_at (pool s) (lent_row t) root in
        stop_leads (leads_then Unasked (λ (x : Forest). asked s rows e d q >>= λ y. k x y) f.settles) (stop_then (k x) (subst (λ (w : Quiet Forest). Stopped w left' why) (first_after q) m))

    pub both_met : {u v : List ℕ} {y m left'' : ℕ} {a : Result Got Stop} → Finished (asked s t e d q) (pool s) left' n t u y m left''
        → Meets (k (forest_at (pool s) (lent_row u) root) (forest_at (pool s) (lent_row u) y)) (pool s) left'' m u v a → Meets both (pool s) left used rows v a
    both_met {u} {v} {y} g m =
        let x : Forest = forest_at (pool s) (lent_row t) root in
        let z : Forest = forest_at (pool s) (lent_row u) y in
        let same = forest_kept (pool s) n (lent_row t) (lent_row u) root f.low g.same f.inside in
        met_then (λ (x : Forest). asked s rows e d q >>= λ y. k x y) f
        (met_as (ap (λ (w : Quiet Forest). w >>= k x) (sym (first_after q)))
        (met_then (k x) g (met_as (ap (λ (o : Forest). k o z) (sym same)) m)))

  -- a variable more
  pub let_met : {e' : Scope} {u : List ℕ} {a : Result Got Stop} (q : ℕ) → More e e' 1 root → Meets (asked s t e' d q) (pool s) left' n t u a → Meets (row_asked s rows e d 0 (Query.letin p q)) (pool s) left used rows u a
  unfolding query_of
  let_met q m b = met_then (λ (x : Forest). body_asked s rows e d q x) f (met_as (sym (asked_with s rows t ready.roomy.low f.same ready.scoped d q m)) b)

  -- a condition
  module _ (at q r : ℕ) where
    abbrev chosen : Forest → Quiet Forest
    chosen x = branch (of_query at) (seen x) (asked s rows e d q) (asked s rows e d r)

    pub choose_met : {u : List ℕ} {a : Result Got Stop} {b : Bool} {arm : ℕ} → seen (forest_at (pool s) (lent_row t) root) ≡ a_bool b → Arm b q r arm → Meets (asked s t e d arm) (pool s) left' n t u a
        → Meets (row_asked s rows e d at (Query.if p q r)) (pool s) left used rows u a
    unfolding query_of
    choose_met {arm = arm} is so m = met_then chosen f (met_as (ap (λ (v : Seen). branch (of_query at) v (asked s rows e d q) (asked s rows e d r)) is
        ∙ arm_branch (of_query at) (asked s rows e d) so ∙ sym (first_after arm)) m)

    pub choose_stuck : ((b : Bool) → seen (forest_at (pool s) (lent_row t) root) ≡ a_bool b → ⊥) → (pu : Purse) → left' ≡ pu.left
        → Meets (row_asked s rows e d at (Query.if p q r)) (pool s) left used rows t (Err (Stuck (concern.Query at) pu))
    unfolding query_of
    choose_stuck other pu el = met_then chosen f (subst (λ (j : ℕ). Meets (chosen (forest_at (pool s) (lent_row t) root)) (pool s) j n t t (Err (Stuck (concern.Query at) pu))) (sym el)
        (met_stuck at pu (branch_stuck (of_query at) (asked s rows e d q) (asked s rows e d r) other)))

  -- a body on each tree
  pub for_met : {u : List ℕ} {a : Result Got Stop} (q : ℕ) → Meets (each (body_asked s t e d q) (forest_at (pool s) (lent_row t) root)) (pool s) left' n t u a → Meets (row_asked s rows e d 0 (Query.for p q)) (pool s) left used rows u a
  unfolding query_of
  for_met q m = met_then (each (body_asked s rows e d q)) f (met_as (ap (λ (b : Forest → Quiet Forest). each b (forest_at (pool s) (lent_row t) root)) (sym (body_after s rows t ready.roomy.low f.same ready.scoped d q))) m)

-- ---- variables

module _ (s : List ℕ) (d at v : ℕ) {rows : List ℕ} {e : Scope} {used focus left r : ℕ} (ready : Ready rows e used focus left) where
  pub variable_met : (p : Purse) → r ≤ used → r ≡ value_of e v → Meets (row_asked s rows e d at (Query.variable v)) (pool s) p.left used rows rows (Ok (record { root = r; left = record { used = used; purse = p } }))
  unfolding query_of
  variable_met p h is = met_as (ap (λ (f : Forest). ret f) (env_at (pool s) rows e v ∙ ap (forest_at (pool s) (lent_row rows)) (sym is))) (met_of (met_ret p.left ready.roomy.low h))

  pub children_met : (p : Purse) → r ≤ used → forest_at (pool s) (lent_row rows) r ≡ inside (seen (forest_at (pool s) (lent_row rows) (value_of e v))) → Meets (row_asked s rows e d at (Query.children v)) (pool s) p.left used rows rows (Ok (record { root = r; left = record { used = used; purse = p } }))
  unfolding query_of
  children_met p h is = met_as (ap (λ (f : Forest). ret (inside (seen f))) (env_at (pool s) rows e v) ∙ ap (λ (f : Forest). ret f) (sym is)) (met_of (met_ret p.left ready.roomy.low h))

-- ---- a turn: row `at` is read and its tree written alone, in the row after

module _ (s : List ℕ) {rows t : List ℕ} {e e' : Scope} (d body : ℕ) {used at left row : ℕ} (left' : ℕ) (c : Cells) (a : Asks s rows e used at left (fits_body s d e body)) (some : 0 < at) (pd : left' + 1 ≡ left)
    (is : c ≡ lent_row rows at) (push : Pushed rows t used (record { kind = c.kind; p = c.p; q = c.q; r = 0 })) (isrow : row ≡ used + 1) (more : More e e' 2 row) where
  pub turn_asks : length t ≡ length rows → Asks s t e' row 0 left' (fits s d e' body)
  turn_asks len =
      let r = one_ready (pool s) left' c a.ready.roomy some a.ready.focus pd is push isrow a.ready.scoped len in
      let fit = fits_turn s d e body a.scope in
      record { ready = record { roomy = r.roomy; scoped = scoped_with r.scoped (a_place a.ready.scoped fit.0) (omega arith) more; focus = omega arith }; scope = fits_more s d e body more fit.1 }

  turn_body : asked s t e' d body ≡ body_asked s rows e d body (forest_at (pool s) (lent_row t) row)
  turn_body = asked_with s rows t a.ready.roomy.low push.same a.ready.scoped d body more

  pub turn_stop : {why : Stop} (link : ℕ) → Stopped (asked s t e' d body) left' why
      → Stopped (turn_of (body_asked s rows e d body) (alone (forest_at (pool s) (lent_row rows) at)) (forest_at (pool s) (lent_row rows) link)) left why
  turn_stop link m = one_stop (pool s) left' c a.ready.roomy some a.ready.focus pd is push isrow (body_asked s rows e d body) turn_body (forest_at (pool s) (lent_row rows) link) m

  module _ {t' : List ℕ} {root n left'' : ℕ} (fin : Finished (asked s t e' d body) (pool s) left' row t t' root n left'') (spare : n + left'' + 1 ≤ row + left') where
    pub turn_keep : (link : ℕ) → link ≤ used → length t' ≡ length rows → (Roomy t' n (left'' + 1)) × (root ≤ n) × (link ≤ n)
    turn_keep link h len = one_keep (pool s) left' c a.ready.roomy some a.ready.focus pd is push isrow (body_asked s rows e d body) turn_body fin spare link h len

    pub turn_more : {u : List ℕ} {x : Result Got Stop} (link : ℕ) → link ≤ used → Links (forest_at (pool s) (lent_row rows) link)
        → ((byte : ℕ → ℕ) → Links (forest_at byte (lent_row t') link) → Turns (keep_of (forest_at byte (lent_row t') link) (forest_at byte (lent_row t') root)) byte left'' n (n + left'' + 1 + count (gathered (forest_at byte (lent_row t') link))) t' u x)
        → Turns (turn_of (body_asked s rows e d body) (alone (forest_at (pool s) (lent_row rows) at)) (forest_at (pool s) (lent_row rows) link)) (pool s) left used (used + left + count (gathered (forest_at (pool s) (lent_row rows) link))) rows u x
    turn_more link h ls m =
        one_more (pool s) left' c a.ready.roomy some a.ready.focus pd is push isrow (body_asked s rows e d body) turn_body fin spare link h ls
        (m (pool s) (one_links (pool s) left' c a.ready.roomy some a.ready.focus pd is push isrow (body_asked s rows e d body) turn_body fin spare link h ls))

-- ---- the loop

module _ (s : List ℕ) {rows : List ℕ} {e : Scope} (d body : ℕ) {used over left : ℕ} (a : Asks s rows e used over left (fits_body s d e body)) where
  abbrev start : Forest → Quiet Forest
  start = body_asked s rows e d body

  pub each_start : Looping (body_asked s rows e d body) (pool s) rows rows used over left over 0 used left
  each_start = loop_start start (pool s) a.ready.roomy a.ready.focus

  module _ {t : List ℕ} {at link n left' : ℕ} (g : Looping (body_asked s rows e d body) (pool s) rows t used over left at link n left') where
    pub each_asks : length t ≡ length rows → Asks s t e n at left' (fits_body s d e body)
    each_asks len = record { ready = loop_ready start (pool s) a.ready.roomy a.ready.focus g a.ready.scoped len; scope = a.scope }

    pub each_gather : length t ≡ length rows → GatherAsks t n link
    each_gather len = loop_asks start (pool s) a.ready.roomy a.ready.focus g len

    pub each_done : {u : List ℕ} {root m : ℕ} → at ≡ 0 → ((byte : ℕ → ℕ) → Gathered byte t u n link root m) → Finished (each (body_asked s rows e d body) (forest_at (pool s) (lent_row rows) over)) (pool s) left used rows u root m left'
    each_done h j = loop_done start (pool s) a.ready.roomy a.ready.focus g h (j (pool s))

    module _ (c : Cells) (some : 0 < at) (is : c ≡ lent_row t at) where
      pub each_falls : c.r < at
      each_falls = loop_falls start (pool s) a.ready.roomy a.ready.focus g c some is

      same_body : body_asked s t e d body ≡ start
      same_body = body_after s rows t a.ready.roomy.low g.same a.ready.scoped d body

      pub each_stop : {why : Stop} → Stopped (turn_of (body_asked s t e d body) (alone (forest_at (pool s) (lent_row t) at)) (forest_at (pool s) (lent_row t) link)) left' why → Stopped (each (body_asked s rows e d body) (forest_at (pool s) (lent_row rows) over)) left why
      each_stop m = loop_stop start (pool s) a.ready.roomy a.ready.focus g c some is same_body m

      pub each_more : {u : List ℕ} {root m left'' : ℕ}
          → Turned (turn_of (body_asked s t e d body) (alone (forest_at (pool s) (lent_row t) at)) (forest_at (pool s) (lent_row t) link)) (pool s) left' n (n + left' + count (gathered (forest_at (pool s) (lent_row t) link))) t u root m left''
          → Looping (body_asked s rows e d body) (pool s) rows u used over left c.r root m left''
      each_more f = loop_more start (pool s) a.ready.roomy a.ready.focus g c some is same_body f
