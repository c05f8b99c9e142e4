-- `fit::fit` meets its contract: each way out is one of the ways that `Fitted` has, in its order.
use Rattle.std.proofs.Common.{◌≡◌, refl, rules, arith}
use Rattle.meaning.specs.Reply.{refused, shape, Fitted, fits, misfits}
use Rattle.type_tables.specs.Lent.{lent_done}
use Rattle.fit.proofs.Whole.{not_shaped, no_told, past_told, is_told, not_sound, refused_as}
use Rattle.fit.specs.Fitting.{told_lent}
use Rattle.fit.specs.declared.Refusal.{Refusal}
use Rattle.fit.proofs.fit.Goals.{then-told-eq0-via-then-told-eq0, then-told-eq0-via-else-told-eq0+then-types-told}
use Rattle.fit.proofs.fit.Goals as goal

pub returns-in_err-sheet : goal.returns-in_err-sheet
returns-in_err-sheet c =
    let value = rw c.in_err-sheet.ensures.ok_part at c.in_err-sheet.ensures.value in
    let why : c.in_err-sheet.field-0.0 ≡ Refusal.Shape = cc value in
    refused_as _ _ _ _ (rw why at c.from_residual.ensures.1) (not_shaped _ c.args.told (c.shaped.ensures.none (rw c.in_err-sheet.ensures.ok_part (search rules))))

pub returns-then-told-eq0 : goal.returns-then-told-eq0
returns-then-told-eq0 c =
    let shaped = rw c.in_ok-sheet.ensures.ok_part at c.shaped.ensures.some in
    let no_row : Fitted c.in_ok-sheet.sheet c.args.told (refused shape) = elim c.then-told-eq0.branch [
      | then-told-eq0-via-then-told-eq0 w ↦ no_told c.in_ok-sheet.sheet c.args.told w.if-told-eq0.true
      | then-told-eq0-via-else-told-eq0+then-types-told w ↦ past_told c.in_ok-sheet.sheet c.args.told (omega (arith, w.types.ensures.is, w.if-types-told.true))
    ] in
    rw shaped.0 at no_row

pub returns-in_err-judge : goal.returns-in_err-judge
returns-in_err-judge c =
    let shaped = rw c.in_ok-sheet.ensures.ok_part at c.shaped.ensures.some in
    let told = is_told c.in_ok-sheet.sheet c.args.told c.types.ensures.is c.if-told-eq0.false c.if-types-told.false in
    refused_as _ _ _ _ c.from_residual-in_err-judge.ensures.1 (rw shaped.0 at (not_sound _ _ c.in_err-judge.field-0.0 told c.in_err-judge.ensures.loads))

pub of_row-requires : goal.of_row-requires
of_row-requires c = told_lent (is_told _ _ c.types.ensures.is c.if-told-eq0.false c.if-types-told.false) c.in_ok-judge.ensures.loads (lent_done refl c.in_ok-judge.ensures)

pub returns-in_err-of_row : goal.returns-in_err-of_row
returns-in_err-of_row c =
    let shaped = rw c.in_ok-sheet.ensures.ok_part at c.shaped.ensures.some in
    let told = is_told c.in_ok-sheet.sheet c.args.told c.types.ensures.is c.if-told-eq0.false c.if-types-told.false in
    refused_as _ _ _ _ c.from_residual-in_err-of_row.ensures.1 (rw shaped.0 at (misfits told c.in_ok-judge.ensures.loads c.in_err-of_row.ensures.by))

pub returns : goal.returns
returns c =
    let shaped = rw c.in_ok-sheet.ensures.ok_part at c.shaped.ensures.some in
    let told = is_told c.in_ok-sheet.sheet c.args.told c.types.ensures.is c.if-told-eq0.false c.if-types-told.false in
    rw shaped.0 at (fits told c.in_ok-judge.ensures.loads c.in_ok-of_row.ensures.by)
