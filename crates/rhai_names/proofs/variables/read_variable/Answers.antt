use Rattle.rhai_state.specs.Scope.{names_in}
use Rattle.rhai_steps.specs.Agreement.{sight_of}
use Rattle.rhai_steps.proofs.Agreeing.{offset_agrees, path_agrees}
use Rattle.rhai_names.proofs.variables.read_variable.Goals as goal

pub entry_of_variable-requires : goal.entry_of_variable-requires
entry_of_variable-requires g c =
    let variable = c.args.variable.now in
    offset_agrees variable.offset variable.name.now variable.namespace.now c.requires

pub read_beside-requires : goal.read_beside-requires
read_beside-requires g c =
    let variable = c.args.variable.now in
    path_agrees (sight_of c.args.global.now) (names_in c.args.scope.now) variable.offset variable.name.now variable.namespace.now c.requires
