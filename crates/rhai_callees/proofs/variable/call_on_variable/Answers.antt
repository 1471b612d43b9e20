use Rattle.std.proofs.Common.{arith, sym, ◌∙◌}
use Rattle.rhai_machine.specs.language.Variables.{path_of}
use Rattle.rhai_state.specs.Scope.{names_in}
use Rattle.rhai_steps.specs.Agreement.{sight_of}
use Rattle.rhai_steps.proofs.Agreeing.{offset_agrees, path_agrees}
use Rattle.rhai_callees.proofs.variable.call_on_variable.Goals as goal

pub returns-in-None-clause-runs : goal.returns-in-None-clause-runs
returns-in-None-clause-runs g c held on_scope =
    c.call_beside.ensures.runs c.args.scope.now held on_scope (sym c.entry_of_variable.ensures.exact ∙ c.in-None.is)

pub returns-in-Some-clause-runs : goal.returns-in-Some-clause-runs
returns-in-Some-clause-runs g c held on_scope =
    c.call_found.ensures.runs held on_scope (path_of c.args.variable.now.namespace.now)
    (sym c.entry_of_variable.ensures.exact ∙ c.in-Some.is)

pub entry_of_variable-requires : goal.entry_of_variable-requires
entry_of_variable-requires g c =
    let variable = c.args.variable.now in
    offset_agrees variable.offset variable.name.now variable.namespace.now c.requires

pub call_beside-requires : goal.call_beside-requires
call_beside-requires g c =
    let variable = c.args.variable.now in (
      omega arith,
      path_agrees (sight_of c.args.global.now) (names_in c.args.scope.now) variable.offset variable.name.now variable.namespace.now
          c.requires,
    )
