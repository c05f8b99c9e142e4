-- `type_barren::count` meets its contract: the chain counts the names that are marked.
use mathlib.Core.Path.{◌∙◌}
use native.Mathlib.Omega.{arith}
use Rattle.std.proofs.Common.{rules, tests, ◌+◌}
use Rattle.std.proofs.lemmas.Iterator.{YieldsList-from_range}
use Rattle.std.proofs.lemmas.Iterator.Consumers.{count_from_yields_List, YieldsList-from_filter}
use Rattle.type_barren.specs.Flags.{flag}
use Rattle.type_barren.specs.Marks.{marks_from}
use Rattle.type_barren.proofs.count.Goals as goal

pub returns : goal.returns
returns c = let names = YieldsList-from_range 1 (c.args.names + 1) c.args.names c.filter.ensures.source (omega arith) in
    count_from_yields_List c.filter.result c.count.result c.count.ensures.ran (YieldsList-from_filter _ (flag c.args.marked.now) names c.filter.ensures.closure (λ x b q k. search (rules, tests)))
    ∙ marks_from (flag c.args.marked.now) c.args.names
