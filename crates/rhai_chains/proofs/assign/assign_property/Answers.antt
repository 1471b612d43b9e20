use Rattle.rhai_machine.specs.language.Setting.{Rules}
use Rattle.rhai_steps.specs.Sessions.{under}
use Rattle.rhai_steps.specs.States.{state_of}
use Rattle.rhai_links.specs.Chains.{new_value}
use Rattle.rhai_chains.proofs.AssignLemmas.{property_follows}
use Rattle.rhai_chains.proofs.assign.assign_property.Goals as goal

pub returns-clause-runs : goal.returns-clause-runs
returns-clause-runs g c scope held =
    let rules : Rules _ _ = under g.H.Host.name_of c.args.session.now g.T.NativeTable.natives in
    property_follows rules c.args.root.now (new_value c.args.new) c.args.spot c.args.source.now c.place_mut-place.result.now
    c.assign_to-outcome.new.target (state_of (g.T.NativeTable.state c.args.table.now) c.args.global.now scope held)
    (state_of (g.T.NativeTable.state c.assign_to-outcome.new.table) c.assign_to-outcome.new.global scope held)
    c.assign_to-outcome.result c.measure_assigned.result c.place_mut-place.ensures.value c.measure_assigned.ensures.fault
    c.measure_assigned.ensures.fits
    (c.assign_to-outcome.ensures.runs scope held)
