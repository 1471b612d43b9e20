use Rattle.std.proofs.Common.{Some, sym, ap, ◌∙◌}
use Rattle.rhai_values.specs.Cells.{cells_of}
use Rattle.rhai_spots.specs.declared.spot.Access.{Access}
use Rattle.rhai_spots.specs.Found.{found}
use Rattle.rhai_machine.specs.language.Setting.{Rules}
use Rattle.rhai_steps.specs.Sessions.{under}
use Rattle.rhai_steps.specs.States.{state_of}
use Rattle.rhai_links.specs.Chains.{chain_at, link_seen, new_value}
use Rattle.rhai_chains.proofs.AssignLemmas.{key_barred, none_found, spot_follows}
use Rattle.rhai_chains.proofs.SpotLemmas.{found_stands}
use Rattle.rhai_chains.proofs.assign.assign_at.Goals as goal

pub returns-then-bars_key-clause-runs : goal.returns-then-bars_key-clause-runs
returns-then-bars_key-clause-runs g c scope held rest args in_place =
    let rules : Rules _ _ = under g.H.Host.name_of c.args.session.now g.T.NativeTable.natives in
    key_barred rules (new_value c.args.new) (link_seen c.args.link) c.args.index.now c.args.source.now
    (chain_at c.args.root.now rest args (Some c.args.new) in_place)
    (state_of (g.T.NativeTable.state c.args.table.now) c.args.global.now scope held) c.constant_of.result
    (sym c.bars_key.ensures ∙ c.if-bars_key.true) c.constant_of.ensures

pub returns-in-Ok-clause-runs : goal.returns-in-Ok-clause-runs
returns-in-Ok-clause-runs g c scope held rest args in_place =
    let rules : Rules _ _ = under g.H.Host.name_of c.args.session.now g.T.NativeTable.natives in
    let cells = cells_of c.args.global.now.cells in
    let finds = ap (λ (how : Access). found how g.H.Host.name_of cells c.args.source.now c.args.index.now)
    (sym c.access_for-how.ensures) ∙ c.in-Ok.ensures.finds in
    spot_follows rules (new_value c.args.new) (link_seen c.args.link) c.args.index.now c.args.source.now
    (chain_at c.args.root.now rest args (Some c.args.new) in_place)
    (state_of (g.T.NativeTable.state c.args.table.now) c.args.global.now scope held) c.find_spot.new.source c.assign_spot.new.source
    c.in-Ok.spot (state_of (g.T.NativeTable.state c.assign_spot.new.table) c.assign_spot.new.global scope held) c.assign_spot.result
    (sym c.bars_key.ensures ∙ c.if-bars_key.false) finds
    (found_stands c.access_for-how.result g.H.Host.name_of cells c.args.source.now c.find_spot.new.source c.in-Ok.spot
    (ap (λ (how : Access). how.add_if_not_found) c.access_for-how.ensures) c.args.index.now c.in-Ok.ensures.finds c.in-Ok.ensures.there)
    (c.assign_spot.ensures.runs scope held)

pub returns-in-Err-clause-runs : goal.returns-in-Err-clause-runs
returns-in-Err-clause-runs g c scope held rest args in_place =
    let rules : Rules _ _ = under g.H.Host.name_of c.args.session.now g.T.NativeTable.natives in
    rw c.in-Err.ensures.finds.0 (none_found rules (new_value c.args.new) (link_seen c.args.link) c.args.index.now c.args.source.now
    (chain_at c.args.root.now rest args (Some c.args.new) in_place)
    (state_of (g.T.NativeTable.state c.args.table.now) c.args.global.now scope held) c.in-Err.error
    (sym c.bars_key.ensures ∙ c.if-bars_key.false) (λ memory.
    ap (λ (w : Access). found w g.H.Host.name_of (cells_of c.args.global.now.cells) c.args.source.now c.args.index.now)
    (sym c.access_for-how.ensures)
    ∙ c.in-Err.ensures.finds.1 memory))
