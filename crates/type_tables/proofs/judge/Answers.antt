-- `type_tables::judge` meets its contract: Barren, Tie, or the tables as they were made, with End where a row may be empty.
use native.Mathlib.Omega.{arith}
use Rattle.meaning.specs.Laws.Shaped.{few_types}
use Rattle.type_barren.specs.Flags.{unset}
use Rattle.type_ties.specs.Sound.{loads_barren, loads_tie, loads_sound, rows_are}
use Rattle.type_tables.specs.Lent.{lent_made}
use Rattle.type_tables.proofs.judge.Goals as goal

pub returns-in-Some : goal.returns-in-Some
returns-in-Some c = record { loads = loads_barren c.requires.s_value c.in-Some.ensures; offered = λ z. absurd cc }

pub make-requires-clause-root_value : goal.make-requires-clause-root_value
make-requires-clause-root_value c = unset 513

pub returns-in-Some-tie_in : goal.returns-in-Some-tie_in
returns-in-Some-tie_in c = record { loads = loads_tie c.requires.s_value c.in_default.ensures c.in-Some-tie_in.ensures; offered = λ z. absurd cc }

pub starts-requires : goal.starts-requires
starts-requires c = (omega arith, omega (arith, c.types.ensures.is, few_types c.args.s.now c.requires.s_value))

pub kins-requires-clause-few : goal.kins-requires-clause-few
kins-requires-clause-few c = omega (arith, rows_are c.type_table.ensures.is, few_types c.args.s.now c.requires.s_value)

pub returns : goal.returns
returns c = record {
  loads = loads_sound c.requires.s_value c.in_default.ensures c.in_default-tie_in.ensures;
  offered = λ z. lent_made c.requires.s_value c.make.ensures.made c.types.ensures.is c.starts.ensures c.type_table.ensures.is c.kins.ensures;
}
