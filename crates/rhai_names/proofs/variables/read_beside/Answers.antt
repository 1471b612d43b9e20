use Rattle.std.proofs.Common.{◌≡◌, ap, sym, ◌∙◌}
use Rattle.rhai_state.specs.Scope.{in_use}
use Rattle.rhai_machine.specs.language.Variables.{variable_named}
use Rattle.rhai_steps.specs.Offers.{globals_in}
use Rattle.rhai_names.specs.Roots.{path_searched}
use Rattle.rhai_steps.specs.States.{surroundings_of}
use Rattle.rhai_names.proofs.Rooted.{path_is_named, root_fits}
use Rattle.rhai_names.proofs.variables.read_beside.Goals as goal

pub search_path-requires : goal.search_path-requires
search_path-requires g c =
    let global = c.args.global.now in
    root_fits global.lists.1 (in_use global.always_search_scope c.args.namespace.now.index) c.args.namespace.now.path
    (sym c.is_plain.ensures ∙ c.if-is_plain.false) c.requires

pub returns : goal.returns
returns g c memory =
    let global = c.args.global.now in
    let namespace = c.args.namespace.now in
    let globals = globals_in c.args.session.now.offered in
    let index = in_use global.always_search_scope namespace.index in
    let asked : c.as_str.result.now ≡ c.args.name.now = cc in
    c.search_path.ensures memory
    ∙ ap (λ name. path_searched globals (surroundings_of global) index namespace.path name namespace.position) asked
    ∙ path_is_named globals (surroundings_of global) index namespace.path (variable_named c.args.name.now namespace c.args.pos)
    (sym c.is_plain.ensures ∙ c.if-is_plain.false) c.requires
