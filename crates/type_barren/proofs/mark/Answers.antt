-- `type_barren::mark` meets its contract: a sheet has few names, and a name's row is one of the types.
use native.Mathlib.Omega.{arith}
use Rattle.meaning.specs.Sheet.{script_of}
use Rattle.meaning.specs.Laws.Tests.{in_table_lem, table_high}
use Rattle.meaning.specs.Laws.Shaped.{named, few_types, few_names}
use Rattle.type_barren.proofs.mark.Goals as goal

pub bounds-full-name_row : goal.bounds-full-name_row
bounds-full-name_row c =
    let h = named c.args.s.now c.requires.s_value c.args.x (in_table_lem _ c.args.x c.requires.le_x.0 c.requires.le_x.1) in
    omega (arith, c.name_row.ensures.value, table_high (script_of c.args.s.now).types ((script_of c.args.s.now).name_row c.args.x) h.0, few_types c.args.s.now c.requires.s_value)

pub bounds-marked-x : goal.bounds-marked-x
bounds-marked-x c = omega (arith, few_names c.args.s.now c.requires.s_value)
