use Rattle.rhai_names.specs.Variables.{variable_told}
use Rattle.std.proofs.Common.{sym, ◌∙◌}
use Rattle.rhai_state.specs.Scope.{entries_of, names_in}
use Rattle.rhai_steps.specs.Agreement.{sight_of}
use Rattle.rhai_steps.proofs.Agreeing.{offset_agrees, path_agrees}
use Rattle.rhai_steps.specs.Offers.{globals_in}
use Rattle.rhai_steps.specs.States.{surroundings_of}
use Rattle.rhai_names.proofs.Passing.{beside_copied, entry_looked}
use Rattle.rhai_callees.proofs.path.pass_variable.Goals as goal

pub returns-in-Some : goal.returns-in-Some
returns-in-Some g c m =
    c.pass_entry.ensures m
    ∙ sym (entry_looked (globals_in c.args.session.now.offered) (surroundings_of c.args.global.now) (entries_of c.args.scope.now)
    (variable_told c.args.variable.now) c.in-Some.index c.value_at.result.now
    (sym c.entry_of_variable.ensures.exact ∙ c.in-Some.is) c.value_at.ensures)

pub returns-in-None : goal.returns-in-None
returns-in-None g c m =
    c.pass_beside.ensures m
    ∙ sym (beside_copied (globals_in c.args.session.now.offered) (surroundings_of c.args.global.now) (entries_of c.args.scope.now)
    (variable_told c.args.variable.now) (sym c.entry_of_variable.ensures.exact ∙ c.in-None.is))

pub entry_of_variable-requires : goal.entry_of_variable-requires
entry_of_variable-requires g c =
    let variable = c.args.variable.now in
    offset_agrees variable.offset variable.name.now variable.namespace.now c.requires

pub pass_beside-requires : goal.pass_beside-requires
pass_beside-requires g c =
    let variable = c.args.variable.now in
    path_agrees (sight_of c.args.global.now) (names_in c.args.scope.now) variable.offset variable.name.now variable.namespace.now c.requires
