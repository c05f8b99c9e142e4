-- `listing::fit_told` meets its contract: Unfit, or what the run tells.
use Rattle.listing.specs.Lists.{fit_refused, fit_done}
use Rattle.meaning.specs.Listing.{codes}
use Rattle.listing.proofs.fit_told.Goals as goal

pub returns-then-number-ne0 : goal.returns-then-number-ne0
unfolding codes
returns-then-number-ne0 c = fit_refused c.fit.result c.fitted-code.result c.word_at-a.ensures.is c.fit.ensures c.fitted-code.ensures c.if-number-ne0.true c.line-bytes.ensures.adds

pub returns : goal.returns
unfolding codes
returns c = fit_done c.fit.result c.fitted-code.result c.word_at-a.ensures.is c.fit.ensures c.fitted-code.ensures c.if-number-ne0.false c.line-bytes.ensures.adds c.run_told.ensures
