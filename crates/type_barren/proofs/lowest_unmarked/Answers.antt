-- `type_barren::lowest_unmarked` meets its contract: the chain finds the first name that is not marked.
use Rattle.std.proofs.lemmas.Iterator.{first_from_Range}
use Rattle.std.proofs.Common.{rules, tests}
use Rattle.type_barren.specs.Flags.{flag}
use mathlib.Core.Path.{◌≡◌}
use mathlib.Core.Bool.{true, false}
use Rattle.type_barren.proofs.lowest_unmarked.Goals as goal

pub returns : goal.returns
returns c = first_from_Range _ _ _ c.find.result (λ x. flag c.args.marked.now x ≡ false) (λ x. flag c.args.marked.now x ≡ true) c.find.ensures.ran
    (λ x q k. search (rules, tests)) (λ x q k. search (rules, tests))
