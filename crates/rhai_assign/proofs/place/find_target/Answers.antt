use Rattle.std.proofs.Common.{ap, sym}
use Rattle.rhai_values.specs.Cells.{cells_of}
use Rattle.rhai_state.specs.Scope.{entries_of, names_in}
use Rattle.rhai_machine.specs.language.Names.{value_beside}
use Rattle.rhai_machine.specs.language.Places.{target_meant}
use Rattle.rhai_machine.proofs.MeantLaws.{meant_beside}
use Rattle.rhai_steps.specs.Agreement.{sight_of}
use Rattle.rhai_steps.specs.Offers.{globals_in}
use Rattle.rhai_steps.specs.States.{surroundings_of}
use Rattle.rhai_names.specs.Variables.{variable_told}
use Rattle.rhai_steps.proofs.Agreeing.{offset_agrees, path_agrees}
use Rattle.rhai_assign.proofs.Entries.{entry_meant, none_temporary}
use Rattle.rhai_assign.proofs.place.find_target.Goals as goal

pub returns-in-Some : goal.returns-in-Some
returns-in-Some g c =
    let variable = variable_told c.args.variable.now in
    rw (entry_meant (globals_in c.args.session.now.offered) (surroundings_of c.args.global.now) (entries_of c.args.scope.now) variable
    c.in-Some.index c.value_at.result.now (sym c.in-Some.ensures.exact) c.value_at.ensures)
    (c.entry_target.ensures (entries_of c.args.scope.now) c.value_at.ensures)

pub returns-in-None : goal.returns-in-None
returns-in-None g c =
    let globals = globals_in c.args.session.now.offered in
    let around = surroundings_of c.args.global.now in
    let variable = variable_told c.args.variable.now in
    let cells = cells_of c.args.global.now.cells in
    let beside = ap (target_meant cells c.args.variable.now.name.now c.args.variable.now.at)
    (meant_beside globals around (entries_of c.args.scope.now) variable (sym c.in-None.ensures.exact)) in
    rw beside (
      none_temporary cells c.args.variable.now.name.now c.args.variable.now.at
          (value_beside globals around variable),
      c.no_target.ensures,
    )

pub entry_of_variable-requires : goal.entry_of_variable-requires
entry_of_variable-requires g c =
    let variable = c.args.variable.now in
    offset_agrees variable.offset variable.name.now variable.namespace.now c.requires

pub no_target-requires : goal.no_target-requires
no_target-requires g c =
    let variable = c.args.variable.now in
    path_agrees (sight_of c.args.global.now) (names_in c.args.scope.now) variable.offset variable.name.now variable.namespace.now c.requires
