use Rattle.std.proofs.Common.{refl, sym, ◌∙◌}
use Rattle.rhai_values.specs.Cells.{cells_of, value_of_cell}
use Rattle.rhai_machine.specs.language.Places.{InCell}
use Rattle.rhai_machine.specs.language.Setting.{Rules}
use Rattle.rhai_steps.specs.Sessions.{under}
use Rattle.rhai_assign.specs.declared.place.Place.TheVariants as place
use Rattle.rhai_assign.proofs.Going.{goes_back}
use Rattle.rhai_assign.proofs.Lent.{keeps_held, one_value}
use Rattle.rhai_assign.proofs.focus.assign_in_cell.Goals as goal

pub returns-clause-keeps : goal.returns-clause-keeps
returns-clause-keeps g c = keeps_held c.args.global.now c.assign_lent-result.new.global _ c.take.new.self c.put_back.new.cells c.args.id
    c.unwrap-target.result c.assign_lent-result.new.target (sym c.take.ensures.value ∙ c.unwrap-target.ensures) c.take.ensures.held
    c.assign_lent-result.ensures.keeps c.put_back.ensures refl

pub returns-clause-runs : goal.returns-clause-runs
returns-clause-runs g c scope held path name inner there =
    let rules : Rules _ _ = under g.H.Host.name_of c.args.session.now g.T.NativeTable.natives in
    let taken = sym c.take.ensures.value ∙ c.unwrap-target.ensures in
    rw (one_value (value_of_cell (cells_of c.args.global.now.cells) c.args.id.number) inner c.unwrap-target.result there taken)
    (goes_back rules _ (place.InCell c.args.id) c.unwrap-target.result c.assign_lent-result.new.target
    (g.T.NativeTable.state c.args.table.now) (g.T.NativeTable.state c.assign_lent-result.new.table) c.args.global.now
    c.assign_lent-result.new.global c.take.new.self c.put_back.new.cells scope scope scope held c.assign_lent-result.result taken
    refl c.take.ensures.held (record { entries = refl; cells = c.put_back.ensures })
    (c.assign_lent-result.ensures.runs scope held path name (InCell c.args.id.number) refl))
