use Rattle.std.proofs.Common.{Err, None, ap, length, sym, ◌∙◌}
use Rattle.rhai_values.specs.Cells.{cells_of}
use Rattle.rhai_state.specs.Scope.{in_use}
use Rattle.rhai_machine.specs.language.Calls.{types_of}
use Rattle.rhai_machine.specs.language.Functions.{key_by}
use Rattle.rhai_steps.specs.Offers.{globals_in}
use Rattle.rhai_steps.specs.States.{surroundings_of}
use Rattle.rhai_names.proofs.Rooted.{root_fits}
use Rattle.rhai_callees.proofs.PublicRoots.{public_named, public_none}
use Rattle.rhai_callees.proofs.path.public_function.Goals as goal

pub returns-then-is_plain : goal.returns-then-is_plain
returns-then-is_plain g c memory =
    let global = c.args.global.now in
    let namespace = c.args.namespace.now in
    let none = rw c.as_slice-path.ensures at (c.no_module.ensures memory) in
    ap Err none
    ∙ sym (public_none (globals_in c.args.session.now.offered) (surroundings_of global) namespace.position
    (key_by c.args.name.now (length c.args.args.now) None) (types_of g.H.Host.name_of (cells_of global.cells) c.args.args.now) c.args.pos
    namespace.path (sym c.is_plain.ensures ∙ c.if-is_plain.true))

pub public_searched-requires : goal.public_searched-requires
public_searched-requires g c =
    let global = c.args.global.now in
    root_fits global.lists.1 (in_use global.always_search_scope c.args.namespace.now.index) c.args.namespace.now.path
    (sym c.is_plain.ensures ∙ c.if-is_plain.false) c.requires

pub returns : goal.returns
returns g c memory =
    let global = c.args.global.now in
    let namespace = c.args.namespace.now in
    c.public_searched.ensures memory
    ∙ public_named (globals_in c.args.session.now.offered) (surroundings_of global) namespace.position
    (key_by c.args.name.now (length c.args.args.now) None) (types_of g.H.Host.name_of (cells_of global.cells) c.args.args.now) c.args.pos
    (in_use global.always_search_scope namespace.index) namespace.path (sym c.is_plain.ensures ∙ c.if-is_plain.false) c.requires
