use Rattle.std.proofs.Common.{map, sym}
use Rattle.rhai_state.specs.Scope.{entries_of, name_of}
use Rattle.rhai_state.proofs.Newest.{good_fits, place_is_newest}
use Rattle.rhai_steps.specs.Agreement.{sight_of}
use Rattle.rhai_steps.proofs.Agreeing.{good_by_offset}
use Rattle.rhai_names.proofs.variables.index_by_offset.Goals as goal
use Rattle.std.specs.Prelude.{Some}

pub place_of-requires : goal.place_of-requires
place_of-requires g c = good_fits (Some c.in_ok-offset.offset) c.args.name.now (entries_of c.args.scope.now)
    (good_by_offset (sight_of c.args.global.now) c.args.offset c.args.name.now c.args._namespace.now.path
    (map name_of (entries_of c.args.scope.now)) c.requires c.in_ok-offset.offset c.in_ok-offset.ensures).0

pub returns-clause-exact : goal.returns-clause-exact
returns-clause-exact g c =
    let entries = entries_of c.args.scope.now in
    let good = good_by_offset (sight_of c.args.global.now) c.args.offset c.args.name.now c.args._namespace.now.path (map name_of entries)
    c.requires c.in_ok-offset.offset c.in_ok-offset.ensures in
    rw (c.place_of.ensures.exact, good.1) (sym (place_is_newest (Some c.in_ok-offset.offset) c.args.name.now entries good.0))
