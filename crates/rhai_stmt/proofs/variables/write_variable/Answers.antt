use Rattle.std.proofs.Common.{◌∙◌, refl, sym}
use Rattle.rhai_values.specs.Cells.{cells_of}
use Rattle.rhai_state.specs.Scope.{entries_of}
use Rattle.rhai_stmt.specs.Variables.{seen_as}
use Rattle.rhai_stmt.proofs.CellLemmas.{wrote_in_cell}
use Rattle.rhai_stmt.proofs.variables.write_variable.Goals as goal

pub returns-clause-wrote : goal.returns-clause-wrote
returns-clause-wrote g c l =
    let before = seen_as (entries_of c.args.scope.now) (cells_of c.args.cells.now) l in
    wrote_in_cell (entries_of c.args.scope.now) (cells_of c.args.cells.now) (cells_of c.write_cell.new.cells) c.args.value before
    c.args.name.now
    c.args.pos c.args.index c.write_cell.new.place c.write_cell.result c.value_at.result.now c.in-Some.id c.value_at.ensures
    (sym c.cell_of.ensures ∙ c.in-Some.is)
    (record {
      known = c.write_cell.ensures.known;
      wrote = c.write_cell.ensures.wrote;
      held = c.write_cell.ensures.held;
      told = c.write_cell.ensures.told;
    }) refl
