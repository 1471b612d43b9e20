use Rattle.std.proofs.Common.{sym, ◌∙◌}
use Rattle.rhai_values.specs.Layers.{layer_of}
use Rattle.rhai_machine.specs.language.Setting.{Rules}
use Rattle.rhai_steps.specs.Sessions.{under}
use Rattle.rhai_steps.specs.States.{state_of}
use Rattle.rhai_steps.specs.OnFocus.{lending}
use Rattle.rhai_links.specs.Chains.{link_seen, new_value}
use Rattle.rhai_chains.proofs.AssignLemmas.{at_part, at_place}
use Rattle.rhai_chains.proofs.SpotLemmas.{is_a_part, is_a_place}
use Rattle.rhai_chains.proofs.assign.assign_spot.Goals as goal

pub assign_place-requires : goal.assign_place-requires
assign_place-requires g c =
    is_a_place (layer_of c.args.source.now) c.args.spot (sym c.is_place.ensures ∙ c.if-is_place.true) c.requires

pub assign_part-requires : goal.assign_part-requires
assign_part-requires g c =
    is_a_part (layer_of c.args.source.now) c.args.spot (sym c.is_place.ensures ∙ c.if-is_place.false) c.requires

pub returns-then-is_place-clause-runs : goal.returns-then-is_place-clause-runs
returns-then-is_place-clause-runs g c scope held =
    let rules : Rules _ _ = under g.H.Host.name_of c.args.session.now g.T.NativeTable.natives in
    at_place rules c.args.root.now (new_value c.args.new) c.args.spot c.args.source.now (link_seen c.args.link)
    (state_of (g.T.NativeTable.state c.args.table.now) c.args.global.now scope (lending held c.args.source.now))
    (state_of (g.T.NativeTable.state c.assign_place.new.table) c.assign_place.new.global scope (lending held c.assign_place.new.source))
    c.assign_place.result (sym c.is_place.ensures ∙ c.if-is_place.true) (c.assign_place.ensures.runs scope held)

pub returns-clause-runs : goal.returns-clause-runs
returns-clause-runs g c scope held =
    let rules : Rules _ _ = under g.H.Host.name_of c.args.session.now g.T.NativeTable.natives in
    let other = sym c.is_place.ensures ∙ c.if-is_place.false in
    at_part rules c.args.root.now (new_value c.args.new) c.args.spot c.args.source.now (link_seen c.args.link)
    (state_of (g.T.NativeTable.state c.args.table.now) c.args.global.now scope (lending held c.args.source.now))
    (state_of (g.T.NativeTable.state c.assign_part.new.table) c.assign_part.new.global scope (lending held c.assign_part.new.source))
    c.assign_part.result other (is_a_part (layer_of c.args.source.now) c.args.spot other c.requires)
    (c.assign_part.ensures.runs scope held (link_seen c.args.link))
