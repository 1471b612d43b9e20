use Rattle.rhai_values.specs.Cells.{cells_of}
use Rattle.rhai_state.specs.Scope.{entries_of}
use Rattle.rhai_machine.specs.language.Setting.{Rules}
use Rattle.rhai_machine.specs.language.Values.{unit_value}
use Rattle.rhai_steps.specs.Sessions.{under}
use Rattle.rhai_assign.specs.Targets.{place_in}
use Rattle.rhai_assign.proofs.Going.{goes_back}
use Rattle.rhai_assign.proofs.Lent.{lent_from, names_back}
use Rattle.rhai_assign.proofs.Places.{standing_is}
use Rattle.rhai_assign.proofs.update.update_at.Goals as goal

pub returns-clause-keeps : goal.returns-clause-keeps
returns-clause-keeps g c = record {
  counts = c.update-result.ensures.keeps.counts;
  names = names_back c.args.place unit_value c.update-result.new.target c.args.scope.now c.take-target.new.scope c.put.new.scope
      c.update-result.new.global.cells c.put.new.cells c.take-target.ensures.entries c.put.ensures;
}

pub returns-clause-runs : goal.returns-clause-runs
returns-clause-runs g c held =
    let rules : Rules _ _ = under g.H.Host.name_of c.args.session.now g.T.NativeTable.natives in
    rw (standing_is (place_in c.args.place) c.take-target.result (entries_of c.args.scope.now) (cells_of c.args.global.now.cells)
    c.take-target.ensures.value)
    (goes_back rules _ c.args.place c.take-target.result c.update-result.new.target (g.T.NativeTable.state c.args.table.now)
    (g.T.NativeTable.state c.update-result.new.table) c.args.global.now c.update-result.new.global c.take-target.new.cells c.put.new.cells
    c.args.scope.now c.take-target.new.scope c.put.new.scope held c.update-result.result c.take-target.ensures.value
    c.take-target.ensures.entries c.take-target.ensures.cells c.put.ensures
    (c.update-result.ensures.runs c.take-target.new.scope held (place_in c.args.place)
    (rw c.requires.lent (lent_from c.args.place))))
