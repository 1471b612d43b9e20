use Rattle.std.proofs.Common.{refl}
use Rattle.rhai_machine.specs.language.Setting.{Rules}
use Rattle.rhai_steps.specs.Sessions.{under}
use Rattle.rhai_steps.specs.States.{state_of}
use Rattle.rhai_links.specs.Chains.{new_value}
use Rattle.rhai_chains.proofs.AssignLemmas.{part_follows, part_is_not}
use Rattle.rhai_chains.proofs.assign.assign_read.Goals as goal

pub returns-in-Ok-clause-runs : goal.returns-in-Ok-clause-runs
returns-in-Ok-clause-runs g c scope held link =
    let rules : Rules _ _ = under g.H.Host.name_of c.args.session.now g.T.NativeTable.natives in
    part_follows rules c.args.root.now (new_value c.args.new) c.args.spot c.args.source.now c.args.part c.assign_focus.new.target
    c.put_assigned.new.source (state_of (g.T.NativeTable.state c.args.table.now) c.args.global.now scope held)
    (state_of (g.T.NativeTable.state c.assign_focus.new.table) c.assign_focus.new.global scope held) c.requires.read link c.in-Ok.done
    c.put_assigned.result (c.in-Ok.ensures.runs scope held) c.put_assigned.ensures

pub returns-clause-runs : goal.returns-clause-runs
returns-clause-runs g c scope held link =
    let rules : Rules _ _ = under g.H.Host.name_of c.args.session.now g.T.NativeTable.natives in
    part_is_not rules c.args.root.now (new_value c.args.new) c.args.spot c.args.source.now c.args.part c.assign_focus.new.target
    c.args.source.now (state_of (g.T.NativeTable.state c.args.table.now) c.args.global.now scope held)
    (state_of (g.T.NativeTable.state c.assign_focus.new.table) c.assign_focus.new.global scope held) c.requires.read link c.in-Err.error
    (c.in-Err.ensures.runs scope held) refl
