use Rattle.rhai_machine.specs.language.Setting.{Rules}
use Rattle.rhai_steps.specs.States.{state_of}
use Rattle.rhai_steps.specs.OnFocus.{lending}
use Rattle.rhai_links.specs.Chains.{link_seen}
use Rattle.rhai_values.specs.Cells.{cells_of}
use Rattle.rhai_steps.specs.Sessions.{under}
use Rattle.rhai_links.specs.Walking.{IsFree}
use Rattle.rhai_links.proofs.Beginning.{charge_comes, charge_refused, free_seen, races_there, stops_there, uncharged_comes}
use Rattle.rhai_links.proofs.ways.begin_link.Goals as goal

pub returns-in-Races-clause-begins : goal.returns-in-Races-clause-begins
returns-in-Races-clause-begins g c scope held chain is =
    let rules : Rules _ _ = under g.H.Host.name_of c.args.session.now g.T.NativeTable.natives in
    races_there rules (link_seen c.args.link) chain is
    (state_of (g.T.NativeTable.state c.args.table.now) c.args.global.now scope (lending held c.args.focus.now)) c.data_race.result
    c.in-Races.ensures c.data_race.ensures

pub returns-in-Stops-clause-begins : goal.returns-in-Stops-clause-begins
returns-in-Stops-clause-begins g c scope held chain is =
    let rules : Rules _ _ = under g.H.Host.name_of c.args.session.now g.T.NativeTable.natives in
    stops_there rules (link_seen c.args.link) chain is
    (state_of (g.T.NativeTable.state c.args.table.now) c.args.global.now scope (lending held c.args.focus.now)) c.unit_value.result
    c.in-Stops.ensures c.unit_value.ensures

pub returns-in-Ok-clause-begins : goal.returns-in-Ok-clause-begins
returns-in-Ok-clause-begins g c scope held chain is =
    let rules : Rules _ _ = under g.H.Host.name_of c.args.session.now g.T.NativeTable.natives in
    charge_comes rules (link_seen c.args.link) chain is (g.T.NativeTable.state c.args.table.now) c.args.global.now
    c.track_operation.new.global scope held c.args.focus.now c.in-Charges.ensures.0 c.in-Charges.ensures.1 c.in-Ok.ensures.room
    c.in-Ok.ensures.charged

pub returns-in-Err-clause-begins : goal.returns-in-Err-clause-begins
returns-in-Err-clause-begins g c scope held chain is =
    let rules : Rules _ _ = under g.H.Host.name_of c.args.session.now g.T.NativeTable.natives in
    charge_refused rules (link_seen c.args.link) chain is (g.T.NativeTable.state c.args.table.now) c.args.global.now
    c.track_operation.new.global scope held c.args.focus.now c.in-Charges.ensures.0 c.in-Charges.ensures.1 c.in-Err.error
    c.in-Err.ensures.full c.in-Err.ensures.refused c.in-Err.ensures.same

pub returns-in-Enters-clause-begins : goal.returns-in-Enters-clause-begins
returns-in-Enters-clause-begins g c scope held chain is =
    let rules : Rules _ _ = under g.H.Host.name_of c.args.session.now g.T.NativeTable.natives in
    uncharged_comes rules (link_seen c.args.link) chain is
    (state_of (g.T.NativeTable.state c.args.table.now) c.args.global.now scope (lending held c.args.focus.now)) c.in-Enters.ensures.0
    c.in-Enters.ensures.1

pub returns-in-Ok-clause-fits : goal.returns-in-Ok-clause-fits
returns-in-Ok-clause-fits g c =
    let free : IsFree (cells_of c.args.global.now.cells) c.args.focus.now.value =
    free_seen (link_seen c.args.link) (cells_of c.args.global.now.cells) c.args.focus.now c.in-Charges.ensures.0 in
    rw c.in-Ok.ensures.charged free

pub returns-in-Enters-clause-fits : goal.returns-in-Enters-clause-fits
returns-in-Enters-clause-fits g c =
    free_seen (link_seen c.args.link) (cells_of c.args.global.now.cells) c.args.focus.now c.in-Enters.ensures.0
