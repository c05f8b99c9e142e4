-- What each answer of this crate is called.
use Rattle.std.specs.Prelude.{Result, Ok, Err}
use Rattle.meaning.specs.Reply as reply
use Rattle.meaning.specs.Reply.{Answer}
use Rattle.type_ties.specs.declared.Unsound.{Unsound}
use Rattle.fit.specs.declared.Refusal.{Refusal}

abbrev pub unfit_of : Refusal → reply.Refusal
unfit_of Refusal.Shape = reply.Refusal.shape
unfit_of (Refusal.Barren x) = reply.Refusal.barren x
unfit_of (Refusal.Tie t) = reply.Refusal.tie t.row t.rival
unfit_of (Refusal.Unfit x) = reply.Refusal.unfit x

abbrev pub fit_of : Result Unit Refusal → Answer
fit_of (Ok _) = Answer.done
fit_of (Err why) = Answer.refused (unfit_of why)

-- 3 and 4, of a sheet's types, as refusals of a fit
abbrev pub unsound_as : Unsound → Refusal
unsound_as (Unsound.Barren x) = Refusal.Barren x
unsound_as (Unsound.Tie t) = Refusal.Tie t
