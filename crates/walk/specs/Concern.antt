-- The row whose rule asks, as the meaning names it.
use Rattle.meaning.specs.Walk.{Place, of_query, of_statement, of_output}
use Rattle.walk.specs.declared.Concern.{Concern}
use Rattle.walk.specs.declared.Concern.TheVariants.{Output, Query, Statement}

abbrev pub concern_of : Concern → Place
concern_of Output = of_output
concern_of (Query row) = of_query row
concern_of (Statement row) = of_statement row
