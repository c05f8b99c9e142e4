-- The loop of for and iter over lent rows, for any body: how far it is (`Looping`), what a turn asks and gives, and that the whole is meaning's `each`.
use Rattle.std.specs.Prelude.{ℕ, ◌+◌, ◌≤◌, ◌<◌, ◌≡◌, refl, List, length, Result, Ok, Err}
use Rattle.std.proofs.Common.{arith, ◌∙◌}
use Rattle.std.proofs.Math.Path.{sym, ap, subst}
use Rattle.meaning.specs.Sheet.{Cells}
use Rattle.meaning.specs.Forest.{Forest, cons, count, tree_form, forest_at}
use Rattle.meaning.specs.Run.{each}
use Rattle.meaning.specs.Walk.{ret, ◌>>=◌, gives, Settles, done, Quiet, Unasked}
use Rattle.meaning.specs.Laws.Rows.{LowRow, LowRows, SameRows, forest_at_zero}
use Rattle.meaning.specs.Laws.Walk.{Leads, leads_then, leads_tick}
use Rattle.meaning.specs.Theorems.ReadBack.{lent_row}
use Rattle.walk.specs.Scope.{Scoped, scoped_more}
use Rattle.walk.specs.Meets.{Roomy, Ready, Finished, Stopped, stop_leads, stop_then, same_trans, forest_kept}
use Rattle.walk.specs.Loop.{Links, gathered, alone, keep_of, turn_of, loop_of, loop_is, Turned, TurnsBy, Turns}
use Rattle.walk.specs.declared.Scope.{Scope}
use Rattle.walk.specs.declared.Got.{Got}
use Rattle.walk.specs.declared.Stop.{Stop}
use Rattle.forest_rows.specs.Rows.{Pushed, GatherAsks, Gathered}
use Rattle.forest_rows.specs.Table.{read_next, read_child, read_forest, forest_none, push_low, push_forest}

-- how far the loop is: what is left of it, the links, and the copies paid and not yet written
pub record Looping (b : Forest → Quiet Forest) (byte : ℕ → ℕ) (s t : List ℕ) (used focus left at link n left' : ℕ) : Type 0 where
  pub among : at ≤ used
  pub linked : link ≤ n
  pub leads : Leads Unasked (each b (forest_at byte (lent_row s) focus)) left (loop_of b (forest_at byte (lent_row s) at) (forest_at byte (lent_row t) link)) left'
  pub links : Links (forest_at byte (lent_row t) link)
  pub grown : used ≤ n
  pub paid : n + left' + count (gathered (forest_at byte (lent_row t) link)) ≤ used + left
  pub low : LowRows (lent_row t) n
  pub same : SameRows (lent_row s) (lent_row t) used

module _ (b : Forest → Quiet Forest) (byte : ℕ → ℕ) {s : List ℕ} {used focus left : ℕ} (roomy : Roomy s used left) (inside : focus ≤ used) where
  pub loop_start : Looping b byte s s used focus left focus 0 used left
  unfolding gathered count Links
  loop_start =
      let f : Forest = forest_at byte (lent_row s) focus in
      let z = forest_at_zero byte (lent_row s) in
      record {
        among = inside;
        linked = omega arith;
        leads = λ v m x. subst (λ (w : Quiet Forest). Settles Unasked w left v m) (ap (loop_of b f) z ∙ loop_is b f) x;
        links = rw z tt;
        grown = omega arith;
        paid = rw z (omega arith);
        low = roomy.low;
        same = λ r i j. refl;
      }

  module _ {t : List ℕ} {at link n left' : ℕ} (g : Looping b byte s t used focus left at link n left') where
    pub loop_roomy : length t ≡ length s → Roomy t n left'
    loop_roomy e = record { low = g.low; room = omega (arith, roomy.room, g.paid); small = omega (arith, roomy.small, g.paid) }

    pub loop_ready : {e : Scope} → Scoped used e → length t ≡ length s → Ready t e n at left'
    loop_ready c e = record { roomy = loop_roomy e; scoped = scoped_more n g.grown c; focus = omega (arith, g.among, g.grown) }

    pub loop_asks : length t ≡ length s → GatherAsks t n link
    loop_asks e = record { byte = byte; low = g.low; inside = g.linked; links = g.links; room = omega (arith, roomy.room, g.paid); small = omega (arith, roomy.small, g.paid) }

    pub loop_done : {u : List ℕ} {root m : ℕ} → at ≡ 0 → Gathered byte t u n link root m → Finished (each b (forest_at byte (lent_row s) focus)) byte left used s u root m left'
    unfolding loop_of
    loop_done {u} {root} {m} e j =
        let z = forest_none byte (lent_row s) at e in
        let last : Settles Unasked (ret (forest_at byte (lent_row u) root)) left' (gives (forest_at byte (lent_row u) root)) left' = done in
        let all : ret (forest_at byte (lent_row u) root) ≡ loop_of b (forest_at byte (lent_row s) at) (forest_at byte (lent_row t) link) =
        ap (λ (f : Forest). ret f) j.value ∙ sym (ap (λ (f : Forest). loop_of b f (forest_at byte (lent_row t) link)) z) in
        record {
          settles = g.leads (gives (forest_at byte (lent_row u) root)) left' (subst (λ (w : Quiet Forest). Settles Unasked w left' (gives (forest_at byte (lent_row u) root)) left') all last);
          inside = j.inside;
          grown = omega (arith, j.rows, g.grown);
          paid = omega (arith, j.rows, g.paid);
          low = j.low;
          same = same_trans used n (lent_row s) (lent_row t) (lent_row u) g.grown g.same j.same;
        }

    -- the row at `at` is read, and the body in the rows as they are goes as in the rows before
    module _ (c : Cells) (some : 0 < at) (is : c ≡ lent_row t at) where
      is_before : c ≡ lent_row s at
      is_before = is ∙ sym (g.same at some g.among)

      pub loop_falls : c.r < at
      loop_falls = read_next (lent_row s) used at c roomy.low some g.among is_before

      module _ {now-body : Forest → Quiet Forest} (same_body : now-body ≡ b) where
        loop_next : loop_of b (forest_at byte (lent_row s) at) (forest_at byte (lent_row t) link)
            ≡ (turn_of now-body (alone (forest_at byte (lent_row t) at)) (forest_at byte (lent_row t) link) >>= loop_of b (forest_at byte (lent_row s) c.r))
        unfolding loop_of alone
        loop_next =
            let l = forest_at byte (lent_row t) link in
            let e = read_forest byte (lent_row s) used at c roomy.low some g.among is_before in
            let k = forest_kept byte used (lent_row s) (lent_row t) at roomy.low g.same g.among in
            ap (λ (f : Forest). loop_of b f l) e
            ∙ sym (ap (λ (f : Forest). turn_of b (alone f) l >>= loop_of b (forest_at byte (lent_row s) c.r)) (k ∙ e))
            ∙ sym (ap (λ (body : Forest → Quiet Forest). turn_of body (alone (forest_at byte (lent_row t) at)) l >>= loop_of b (forest_at byte (lent_row s) c.r)) same_body)

        abbrev turn_walk : Quiet Forest
        turn_walk = turn_of now-body (alone (forest_at byte (lent_row t) at)) (forest_at byte (lent_row t) link)

        whole : Leads Unasked (each b (forest_at byte (lent_row s) focus)) left (turn_walk >>= loop_of b (forest_at byte (lent_row s) c.r)) left'
        whole = λ v m x. g.leads v m (subst (λ (w : Quiet Forest). Settles Unasked w left' v m) (sym loop_next) x)

        pub loop_stop : {why : Stop} → Stopped (turn_of now-body (alone (forest_at byte (lent_row t) at)) (forest_at byte (lent_row t) link)) left' why
            → Stopped (each b (forest_at byte (lent_row s) focus)) left why
        loop_stop m = stop_leads whole (stop_then (loop_of b (forest_at byte (lent_row s) c.r)) m)

        pub loop_more : {u : List ℕ} {root m left'' : ℕ}
            → Turned (turn_of now-body (alone (forest_at byte (lent_row t) at)) (forest_at byte (lent_row t) link)) byte left' n (n + left' + count (gathered (forest_at byte (lent_row t) link)))
            t u root m left''
            → Looping b byte s u used focus left c.r root m left''
        loop_more {u} {root} {m} {left''} f = record {
          among = omega (arith, loop_falls, g.among);
          linked = f.inside;
          leads = λ v k x. whole v k (leads_then Unasked (loop_of b (forest_at byte (lent_row s) c.r)) f.settles v k x);
          links = f.links;
          grown = omega (arith, g.grown, f.grown);
          paid = omega (arith, g.paid, f.paid);
          low = f.low;
          same = same_trans used n (lent_row s) (lent_row t) (lent_row u) g.grown g.same f.same;
        }

-- a turn: row r is read and its tree written alone, in the row after; w is what the body goes as on it
module _ (byte : ℕ → ℕ) {s t : List ℕ} {used r left row : ℕ} (left' : ℕ) (c : Cells) (roomy : Roomy s used left) (some : 0 < r) (within : r ≤ used) (pd : left' + 1 ≡ left) (is : c ≡ lent_row s r)
    (push : Pushed s t used (record { kind = c.kind; p = c.p; q = c.q; r = 0 })) (isrow : row ≡ used + 1) where
  one_lower : LowRow (record { kind = c.kind; p = c.p; q = c.q; r = 0 }) (used + 1)
  one_lower = record { child = λ h. omega (arith, read_child (lent_row s) used r c roomy.low some within is h); next = omega arith }

  -- the tree alone stands in the row that was written
  pub one_is : forest_at byte (lent_row t) row ≡ alone (forest_at byte (lent_row s) r)
  unfolding alone
  one_is =
      let f = push_forest (lent_row s) (lent_row t) used (record { kind = c.kind; p = c.p; q = c.q; r = 0 }) roomy.low push.same push.row one_lower byte in
      ap (forest_at byte (lent_row t)) isrow ∙ f ∙ ap (λ (x : Forest). cons (tree_form byte c (forest_at byte (lent_row s) c.q)) x) (forest_at_zero byte (lent_row s))
      ∙ sym (ap alone (read_forest byte (lent_row s) used r c roomy.low some within is))

  pub one_roomy : length t ≡ length s → Roomy t row left'
  one_roomy e = record {
    low = rw isrow (push_low (lent_row s) (lent_row t) used (record { kind = c.kind; p = c.p; q = c.q; r = 0 }) roomy.low push.same push.row one_lower);
    room = omega (arith, roomy.room);
    small = omega (arith, roomy.small);
  }

  pub one_ready : {e : Scope} → Scoped used e → length t ≡ length s → Ready t e row row left'
  one_ready h e = record { roomy = one_roomy e; scoped = scoped_more row (omega arith) h; focus = omega arith }

  module _ (b : Forest → Quiet Forest) {w : Quiet Forest} (same_body : w ≡ b (forest_at byte (lent_row t) row)) where
    body_is : w ≡ b (alone (forest_at byte (lent_row s) r))
    body_is = same_body ∙ ap b one_is

    pub one_stop : {why : Stop} (links : Forest) → Stopped w left' why → Stopped (turn_of b (alone (forest_at byte (lent_row s) r)) links) left why
    one_stop {why} links m = stop_leads (leads_tick Unasked (b (alone (forest_at byte (lent_row s) r)) >>= keep_of links) left left' pd)
        (stop_then (keep_of links) (subst (λ (x : Quiet Forest). Stopped x left' why) body_is m))

    module _ {t' : List ℕ} {root n left'' : ℕ} (fin : Finished w byte left' row t t' root n left'') (spare : n + left'' + 1 ≤ row + left') where
      pub one_keep : (link : ℕ) → link ≤ used → length t' ≡ length s → (Roomy t' n (left'' + 1)) × (root ≤ n) × (link ≤ n)
      one_keep link h e = (record { low = fin.low; room = omega (arith, roomy.room); small = omega (arith, roomy.small) }, fin.inside, omega (arith, fin.grown))

      one_same : SameRows (lent_row s) (lent_row t') used
      one_same = same_trans used row (lent_row s) (lent_row t) (lent_row t') (omega arith) push.same fin.same

      module _ (link : ℕ) (h : link ≤ used) (ls : Links (forest_at byte (lent_row s) link)) where
        link_kept : forest_at byte (lent_row t') link ≡ forest_at byte (lent_row s) link
        link_kept = forest_kept byte used (lent_row s) (lent_row t') link roomy.low one_same h

        pub one_links : Links (forest_at byte (lent_row t') link)
        one_links = rw link_kept ls

        one_leads : Leads Unasked (turn_of b (alone (forest_at byte (lent_row s) r)) (forest_at byte (lent_row s) link)) left
            (keep_of (forest_at byte (lent_row t') link) (forest_at byte (lent_row t') root))
            left''
        one_leads = λ v m x.
            let body : Settles Unasked (b (alone (forest_at byte (lent_row s) r))) left' (gives (forest_at byte (lent_row t') root)) left'' =
            subst (λ (y : Quiet Forest). Settles Unasked y left' (gives (forest_at byte (lent_row t') root)) left'') body_is fin.settles in
            let kept : Settles Unasked (keep_of (forest_at byte (lent_row s) link) (forest_at byte (lent_row t') root)) left'' v m =
            subst (λ (l : Forest). Settles Unasked (keep_of l (forest_at byte (lent_row t') root)) left'' v m) link_kept x in
            leads_tick Unasked (b (alone (forest_at byte (lent_row s) r)) >>= keep_of (forest_at byte (lent_row s) link)) left left' pd v m
            (leads_then Unasked (keep_of (forest_at byte (lent_row s) link)) body v m kept)

        one_by : (u : List ℕ) (a : Result Got Stop) → TurnsBy (keep_of (forest_at byte (lent_row t') link) (forest_at byte (lent_row t') root)) byte left'' n
            (n + left'' + 1 + count (gathered (forest_at byte (lent_row t') link))) t' u a
            → TurnsBy (turn_of b (alone (forest_at byte (lent_row s) r)) (forest_at byte (lent_row s) link)) byte left used (used + left + count (gathered (forest_at byte (lent_row s) link))) s u a
        one_by u (Ok g) m = record {
          settles = one_leads (gives (forest_at byte (lent_row u) g.root)) g.left.purse.left m.settles;
          inside = m.inside;
          grown = omega (arith, m.grown, fin.grown);
          paid = omega (arith, m.paid, ap (λ (l : Forest). count (gathered l)) link_kept);
          low = m.low;
          same = same_trans used n (lent_row s) (lent_row t') (lent_row u) (omega (arith, fin.grown)) one_same m.same;
          links = m.links;
        }
        one_by u (Err why) m = stop_leads one_leads m

        pub one_more : {u : List ℕ} {a : Result Got Stop} → Turns (keep_of (forest_at byte (lent_row t') link) (forest_at byte (lent_row t') root)) byte left'' n
            (n + left'' + 1 + count (gathered (forest_at byte (lent_row t') link))) t' u a
            → Turns (turn_of b (alone (forest_at byte (lent_row s) r)) (forest_at byte (lent_row s) link)) byte left used (used + left + count (gathered (forest_at byte (lent_row s) link))) s u a
        one_more {u} {a} m = record { by = one_by u a m.by }
