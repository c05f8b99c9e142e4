-- What the listing of a bundle is: question by question, the text that each answer adds; together `Listing.listing` of what `Listing.Tells` says of the bundle.
use Rattle.std.specs.Prelude.{ℕ, ◌≤◌, ◌<◌, ◌≡◌, refl, true, List, [], ◌∷◌, ◌++◌, length, take, Result, Ok, Err}
use Rattle.std.proofs.Common.{sym, ap, ◌∙◌, subst, append_assoc, arith, length-take}
use Rattle.std.proofs.lemmas.List.{length-replicate}
use Rattle.meaning.specs.Words.{rows_lent, word_at}
use Rattle.meaning.specs.Sheet.{script_of}
use Rattle.meaning.specs.Walk.{Verdict, gives, stops}
use Rattle.meaning.specs.Walk as walk
use Rattle.meaning.specs.Bundle.{framed, sheet_in}
use Rattle.meaning.specs.Reply.{
  Refusal,
  block,
  shape,
  barren,
  tie,
  depth,
  wide,
  mismatch,
  outside,
  unfit,
  stuck,
  scratch,
  room,
  Answer,
  done,
  refused,
  Coded,
  refusal_code,
  answer_code,
  verdict_answer,
  Loads,
  misshapen,
  is_barren,
  is_tied,
  sound,
  Checked,
  Fitted,
  Ran,
  RunReply,
  CheckReply,
  read,
}
use Rattle.meaning.specs.Reply as meaning
use Rattle.meaning.specs.Listing.{
  line,
  number,
  carried,
  Told,
  loaded,
  check_ended,
  fit_ended,
  run_ended,
  all_done,
  listing,
  row_lines,
  lent_work,
  lent_result,
  Tells,
  not_framed,
  not_loaded,
  not_checked,
  not_fit,
  not_run,
  told,
}
use Rattle.listing.specs.Adds.{Adds, adds_as, adds_then}
use Rattle.bundle.specs.declared.Refused.{Refused}
use Rattle.bundle.specs.declared.Refused.TheVariants.{Block, Shape, Room}
use Rattle.bundle.specs.Calls.{copied_of, replied}
use Rattle.bundle.specs.Reads.{largest, read_block, read_shape, never_room}
use Rattle.desk.specs.declared.CheckRefusal.{CheckRefusal}
use Rattle.desk.specs.Checking.{checked_answer, checked_units, checked_reply}
use Rattle.desk.specs.declared.Ran.{Ran as Done}
use Rattle.desk.specs.declared.RunRefusal.{RunRefusal}
use Rattle.desk.specs.Said.{ran_answer, ran_units, ran_root, ran_reply, root_lent}
use Rattle.fit.specs.declared.Refusal.{Refusal as FitRefusal}
use Rattle.fit.specs.Answers.{fit_of}
use Rattle.coded.specs.declared.Coded.{Coded as Given}
use Rattle.coded.specs.Numbers.{numbers}
use Rattle.listing.specs.declared.Listed.{Listed}

-- what the questions answer
abbrev CheckAnswer : Type 0
CheckAnswer = Result ℕ CheckRefusal

abbrev FitAnswer : Type 0
FitAnswer = Result (Unit {0}) FitRefusal

abbrev RunAnswer : Type 0
RunAnswer = Result Done RunRefusal

abbrev pub numbered : Answer → ℕ
numbered a = (answer_code a).number

-- ---- the run's part, fit's and the check's

abbrev pub run_text : Answer → ℕ → ℕ → List ℕ → List ℕ
run_text done v root after = line "run" (0 ∷ v ∷ root ∷ []) ++ row_lines after root
run_text (refused r) v root after = line "run" (number r ∷ v ∷ [])

pub record RunTold (s old : List ℕ) (at : ℕ) (new : List ℕ) (l : Listed) : Type 0 where
  pub answer : Answer
  pub units : ℕ
  pub root : ℕ
  pub after : List ℕ
  pub ran : Ran s lent_work lent_result answer units root after
  pub adds : Adds (run_text answer units root after) old at new l.bytes
  pub ends : l.number ≡ numbered answer

pub data FitTold (s old : List ℕ) (at : ℕ) (new : List ℕ) (l : Listed) : Type 0 where
  misfits : {r : Refusal} → Fitted s (script_of s).a (refused r) → Adds (line "fit" (number r ∷ carried r ∷ [])) old at new l.bytes → l.number ≡ number r → FitTold s old at new l
  fits : {mid : List ℕ} {m : ℕ} → Fitted s (script_of s).a done → Adds (line "fit" (0 ∷ 0 ∷ [])) old at mid m → RunTold s mid m new l → FitTold s old at new l

pub data SheetTold (s old new : List ℕ) (l : Listed) : Type 0 where
  unsound : {r : Refusal} {u : ℕ} → Checked s lent_work (refused r) u → number r < 5 → Adds (line "load" (number r ∷ [])) old 0 new l.bytes → l.number ≡ number r → SheetTold s old new l
  unchecked : {r : Refusal} {u : ℕ} → Checked s lent_work (refused r) u → 5 ≤ number r → Adds (line "check" (number r ∷ u ∷ [])) old 0 new l.bytes → l.number ≡ number r → SheetTold s old new l
  checks : {u m : ℕ} {mid : List ℕ} → Checked s lent_work done u → Adds (line "check" (0 ∷ u ∷ [])) old 0 mid m → FitTold s mid m new l → SheetTold s old new l

-- ---- the whole

-- what ended it, 0 where all is done
abbrev pub end_of : Told → ℕ
end_of (loaded r) = number r
end_of (check_ended r u) = number r
end_of (fit_ended u r) = number r
end_of (run_ended u r v) = number r
end_of (all_done u v root after) = 0

pub record Lists (b : List ℕ) (l : Listed) (new : List ℕ) : Type 0 where
  pub what : Told
  pub tells : Tells b what
  pub lists : take l.bytes new ≡ listing what
  pub ends : l.number ≡ end_of what
  pub inside : l.bytes ≤ length new

-- ---- numbers

refusal_number : (r : Refusal) → 0 < number r
unfolding refusal_code
refusal_number block = omega arith
refusal_number shape = omega arith
refusal_number (barren x) = omega arith
refusal_number (tie a b) = omega arith
refusal_number meaning.Refusal.fuel = omega arith
refusal_number depth = omega arith
refusal_number (wide at) = omega arith
refusal_number (mismatch at) = omega arith
refusal_number (outside at) = omega arith
refusal_number (unfit x) = omega arith
refusal_number (stuck at) = omega arith
refusal_number scratch = omega arith
refusal_number room = omega arith

code_refused : (r : Refusal) → numbered (refused r) ≡ number r
unfolding answer_code
code_refused r = refl

carried_refused : (r : Refusal) → (answer_code (refused r)).a ≡ carried r
unfolding answer_code
carried_refused r = refl

done_carries : (answer_code done).a ≡ 0
unfolding answer_code
done_carries = refl

-- fit's line by other numbers
fit_as : {n n' a a' at end : ℕ} {old new : List ℕ} → n ≡ n' → a ≡ a' → Adds (line "fit" (n ∷ a ∷ [])) old at new end → Adds (line "fit" (n' ∷ a' ∷ [])) old at new end
fit_as e o x = rw (e, o) at x

pub is_done : (a : Answer) → numbered a ≡ 0 → a ≡ done
is_done done e = refl
is_done (refused r) e = absurd (omega (arith, code_refused r, refusal_number r))

pub is_refused : (a : Answer) → (numbered a ≡ 0 → ⊥) → (r : Refusal) × (a ≡ refused r)
unfolding answer_code
is_refused done n = absurd (n refl)
is_refused (refused r) n = (r, refl)

load_number : {s : List ℕ} {a : Answer} → Loads s a → numbered a < 5
unfolding answer_code refusal_code
load_number (misshapen e) = omega arith
load_number (is_barren e l) = omega arith
load_number (is_tied e n t) = omega arith
load_number (sound e n u) = omega arith

walk_number : {A : Type 0} (v : Verdict A) → 0 < numbered (verdict_answer v) → 5 ≤ numbered (verdict_answer v)
unfolding answer_code refusal_code
walk_number (gives x) p = absurd (omega arith)
walk_number walk.Verdict.fuel p = omega arith
walk_number (stops walk.Stop.depth) p = omega arith
walk_number (stops (walk.Stop.wide at)) p = omega arith
walk_number (stops (walk.Stop.mismatch at)) p = omega arith
walk_number (stops (walk.Stop.outside at)) p = omega arith
walk_number (stops (walk.Stop.stuck at)) p = omega arith

scratch_number : numbered (refused scratch) ≡ 12
unfolding answer_code refusal_code
scratch_number = refl

loads_if : {s work : List ℕ} {a : Answer} {u : ℕ} → Checked s work a u → 0 < numbered a → numbered a < 5 → Loads s a
loads_if (meaning.Checked.unsound l) p h = l
loads_if (meaning.Checked.no_scratch l n) p h = absurd (omega (arith, scratch_number))
loads_if (meaning.Checked.walked {v = v} l n t e d) p h = let w = walk_number v (rw e p) in absurd (omega (arith, ap numbered e))

sound_if : {s work : List ℕ} {a : Answer} {u : ℕ} → Checked s work a u → 5 ≤ numbered a → Loads s done
sound_if (meaning.Checked.unsound l) h = absurd (omega (arith, load_number l))
sound_if (meaning.Checked.no_scratch l n) h = l
sound_if (meaning.Checked.walked l n t e d) h = l

-- ---- the parts together

module _ {old new : List ℕ} {end : ℕ} where
  pub adds_inside : {text : List ℕ} → Adds text old 0 new end → end ≤ length new
  adds_inside {text} a = let e = sym (length-take end new) ∙ ap (λ (l : List ℕ). length l) a.says in let n = a.ends in omega arith

pub lists_told : {b old new : List ℕ} {l : Listed} {t : Told} → Tells b t → Adds (listing t) old 0 new l.bytes → l.number ≡ end_of t → Lists b l new
lists_told {t = t} w a e = record { what = t; tells = w; lists = a.says; ends = e; inside = adds_inside a }

module _ {b old new : List ℕ} {l : Listed} (fr : framed b ≡ true) where
  ran_lists : {mid : List ℕ} {m u v root : ℕ} {after : List ℕ} → Checked (sheet_in b) lent_work done u → Fitted (sheet_in b) (script_of (sheet_in b)).a done
      → Adds (line "check" (0 ∷ u ∷ []) ++ line "fit" (0 ∷ 0 ∷ [])) old 0 mid m
      → (a : Answer) → Ran (sheet_in b) lent_work lent_result a v root after → Adds (run_text a v root after) mid m new l.bytes → l.number ≡ numbered a → Lists b l new
  unfolding listing answer_code
  ran_lists {u = u} {v = v} {root = root} {after = after} c f x done r y e = lists_told {t = all_done u v root after} (told fr c f r)
      (adds_as (sym (append_assoc (line "check" (0 ∷ u ∷ []) ++ line "fit" (0 ∷ 0 ∷ [])) (line "run" (0 ∷ v ∷ root ∷ [])) (row_lines after root))) (adds_then x y)) e
  ran_lists {u = u} {v = v} c f x (refused q) r y e = lists_told {t = run_ended u q v} (not_run fr c f r) (adds_then x y) e

  fit_lists : {mid : List ℕ} {m u : ℕ} → Checked (sheet_in b) lent_work done u → Adds (line "check" (0 ∷ u ∷ [])) old 0 mid m → FitTold (sheet_in b) mid m new l → Lists b l new
  unfolding listing
  fit_lists {u = u} c x (misfits {r = r} f y e) = lists_told {t = fit_ended u r} (not_fit fr c f) (adds_then x y) e
  fit_lists {u = u} c x (fits f y t) = ran_lists c f (adds_then x y) t.answer t.ran t.adds t.ends

  pub sheet_lists : SheetTold (sheet_in b) old new l → Lists b l new
  unfolding listing answer_code
  sheet_lists (unsound {r = r} c h a e) = lists_told {t = loaded r} (not_loaded fr (loads_if c (refusal_number r) h)) a e
  sheet_lists (unchecked {r = r} {u = u} c h a e) = lists_told {t = check_ended r u} (not_checked fr (sound_if c h) c) a e
  sheet_lists (checks c a t) = fit_lists c a t

-- refused by the reader
pub load_lists : (b lent : List ℕ) {old new after : List ℕ} {l : Listed} (r : Refused) → replied (Err r) after ≡ read b lent → largest ≤ length lent
    → l.number ≡ numbered (copied_of (Err r)) → Adds (line "load" (l.number ∷ [])) old 0 new l.bytes → Lists b l new
unfolding listing answer_code
load_lists b lent {l = l} Block e n is a = lists_told {t = loaded block} (not_framed (read_block b lent e refl)) (adds_as (ap (λ (k : ℕ). line "load" (k ∷ [])) is) a) is
load_lists b lent {l = l} Shape e n is a = let x = read_shape b lent e refl in
    lists_told {t = loaded shape} (not_loaded x.0 (misshapen x.1)) (adds_as (ap (λ (k : ℕ). line "load" (k ∷ [])) is) a) is
load_lists b lent Room e n is a = absurd (never_room b lent e n refl)

-- ---- each answer's part, as the code adds it

-- 8,192 rows are lent
few_rows : rows_lent lent_result ≤ 8192
few_rows = omega (arith, length-replicate {A = ℕ} 65536 0)

pub few_root : {s work result o w : List ℕ} {root : ℕ} (c : RunAnswer) → result ≡ lent_result → RunReply s work result (ran_reply c o w) → root ≡ ran_root c → root ≤ 8192
few_root c e h r = let k = root_lent (rw e at h) in omega (arith, few_rows)

module _ {s : List ℕ} (c : RunAnswer) (x : Given) (u : ℕ) {o w work result : List ℕ} (lent : work ≡ lent_work) (given : result ≡ lent_result)
    (h : RunReply s work result (ran_reply c o w)) (coded : numbers x ≡ answer_code (ran_answer c)) (units : u ≡ ran_units c) where
  run_said : Ran s lent_work lent_result (ran_answer c) u (ran_root c) o
  run_said =
      subst (λ (y : List ℕ). Ran s y lent_result (ran_answer c) u (ran_root c) o) lent
      (subst (λ (y : List ℕ). Ran s work y (ran_answer c) u (ran_root c) o) given
      (subst (λ (k : ℕ). Ran s work result (ran_answer c) k (ran_root c) o) (sym units) h.said))

  pub run_refused : {old new : List ℕ} {at end : ℕ} → (x.number ≡ 0 → ⊥) → Adds (line "run" (x.number ∷ u ∷ [])) old at new end → RunTold s old at new (record { bytes = end; number = x.number })
  run_refused n a =
      let is : x.number ≡ numbered (ran_answer c) = ap (λ (k : Coded). k.number) coded in
      let z = is_refused (ran_answer c) (λ e. n (is ∙ e)) in
      let e : x.number ≡ number z.0 = is ∙ ap numbered z.1 ∙ code_refused z.0 in
      record {
        answer = refused z.0;
        units = u;
        root = ran_root c;
        after = o;
        ran = subst (λ (y : Answer). Ran s lent_work lent_result y u (ran_root c) o) z.1 run_said;
        adds = adds_as (ap (λ (k : ℕ). line "run" (k ∷ u ∷ [])) e) a;
        ends = e ∙ sym (code_refused z.0);
      }

  pub run_gave : {old mid new : List ℕ} {at m end root : ℕ} → x.number ≡ 0 → root ≡ ran_root c → Adds (line "run" (0 ∷ u ∷ root ∷ [])) old at mid m → Adds (row_lines o root) mid m new end
      → RunTold s old at new (record { bytes = end; number = x.number })
  run_gave {root = root} z r a b =
      let is : x.number ≡ numbered (ran_answer c) = ap (λ (k : Coded). k.number) coded in
      let d = is_done (ran_answer c) (sym is ∙ z) in
      record {
        answer = done;
        units = u;
        root = root;
        after = o;
        ran = subst (λ (y : Answer). Ran s lent_work lent_result y u root o) d (subst (λ (k : ℕ). Ran s lent_work lent_result (ran_answer c) u k o) (sym r) run_said);
        adds = adds_then a b;
        ends = is ∙ ap numbered d;
      }

module _ {s : List ℕ} (c : FitAnswer) (x : Given) {row : ℕ} (told-row : row ≡ word_at s 7) (h : Fitted s row (fit_of c)) (coded : numbers x ≡ answer_code (fit_of c)) where
  fit_said : Fitted s (script_of s).a (fit_of c)
  unfolding script_of
  fit_said = rw told-row at h

  pub fit_refused : {old new : List ℕ} {at end : ℕ} → (x.number ≡ 0 → ⊥) → Adds (line "fit" (x.number ∷ x.a ∷ [])) old at new end
      → FitTold s old at new (record { bytes = end; number = x.number })
  fit_refused n a =
      let is : x.number ≡ numbered (fit_of c) = ap (λ (k : Coded). k.number) coded in
      let z = is_refused (fit_of c) (λ e. n (is ∙ e)) in
      let e : x.number ≡ number z.0 = is ∙ ap numbered z.1 ∙ code_refused z.0 in
      let o : x.a ≡ carried z.0 = ap (λ (k : Coded). k.a) coded ∙ ap (λ (y : Answer). (answer_code y).a) z.1 ∙ carried_refused z.0 in
      misfits {r = z.0} (subst (λ (y : Answer). Fitted s (script_of s).a y) z.1 fit_said) (fit_as e o a) e

  pub fit_done : {old mid new : List ℕ} {at m : ℕ} {l : Listed} → x.number ≡ 0 → Adds (line "fit" (x.number ∷ x.a ∷ [])) old at mid m → RunTold s mid m new l → FitTold s old at new l
  fit_done z a t =
      let is : x.number ≡ numbered (fit_of c) = ap (λ (k : Coded). k.number) coded in
      let d = is_done (fit_of c) (sym is ∙ z) in
      let o : x.a ≡ 0 = ap (λ (k : Coded). k.a) coded ∙ ap (λ (y : Answer). (answer_code y).a) d ∙ done_carries in
      fits (subst (λ (y : Answer). Fitted s (script_of s).a y) d fit_said) (fit_as z o a) t

module _ {s : List ℕ} (c : CheckAnswer) (x : Given) (u : ℕ) {w work : List ℕ} (lent : work ≡ lent_work)
    (h : CheckReply s work (checked_reply c w)) (coded : numbers x ≡ answer_code (checked_answer c)) (units : u ≡ checked_units c) where
  check_said : Checked s lent_work (checked_answer c) u
  check_said = rw (sym lent, units) h.said

  check_is : x.number ≡ numbered (checked_answer c)
  check_is = ap (λ (k : Coded). k.number) coded

  not_done : (x.number ≡ 0 → ⊥) → (r : Refusal) × (Checked s lent_work (refused r) u) × (x.number ≡ number r)
  not_done n =
      let z = is_refused (checked_answer c) (λ e. n (check_is ∙ e)) in
      (z.0, subst (λ (y : Answer). Checked s lent_work y u) z.1 check_said, check_is ∙ ap numbered z.1 ∙ code_refused z.0)

  pub check_loaded : {old new : List ℕ} {end : ℕ} → (x.number ≡ 0 → ⊥) → x.number < 5 → Adds (line "load" (x.number ∷ [])) old 0 new end
      → SheetTold s old new (record { bytes = end; number = x.number })
  check_loaded n f a = let z = not_done n in let e = z.2 in unsound {r = z.0} z.1 (omega arith) (adds_as (ap (λ (k : ℕ). line "load" (k ∷ [])) e) a) e

  pub check_refused : {old new : List ℕ} {end : ℕ} → (x.number ≡ 0 → ⊥) → 5 ≤ x.number → Adds (line "check" (x.number ∷ u ∷ [])) old 0 new end
      → SheetTold s old new (record { bytes = end; number = x.number })
  check_refused n f a = let z = not_done n in let e = z.2 in unchecked {r = z.0} z.1 (omega arith) (adds_as (ap (λ (k : ℕ). line "check" (k ∷ u ∷ [])) e) a) e

  pub check_done : {old mid new : List ℕ} {m : ℕ} {l : Listed} → x.number ≡ 0 → Adds (line "check" (x.number ∷ u ∷ [])) old 0 mid m → FitTold s mid m new l → SheetTold s old new l
  check_done z a t = checks (subst (λ (y : Answer). Checked s lent_work y u) (is_done (checked_answer c) (sym check_is ∙ z)) check_said) (adds_as (ap (λ (k : ℕ). line "check" (k ∷ u ∷ [])) z) a) t
