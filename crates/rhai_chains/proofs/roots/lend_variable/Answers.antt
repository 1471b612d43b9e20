use Rattle.std.proofs.Common.{sym, ◌∙◌}
use Rattle.rhai_state.specs.Scope.{names_in}
use Rattle.rhai_steps.specs.Agreement.{sight_of}
use Rattle.rhai_steps.proofs.Agreeing.{offset_agrees, path_agrees}
use Rattle.rhai_chains.proofs.roots.lend_variable.Goals as goal

pub returns-then-is_anothers-clause-lends : goal.returns-then-is_anothers-clause-lends
returns-then-is_anothers-clause-lends g c =
    rw (sym c.entry_of_variable.ensures.exact ∙ c.in-Some.is) (
      c.value_at.result.now,
      (
        c.value_at.ensures,
        (
          sym c.is_held-is_anothers.ensures ∙ c.if-is_anothers.true,
          rw c.stop-then-is_anothers.ensures.told c.data_race_of.ensures,
        ),
      ),
    )

pub entry_of_variable-requires : goal.entry_of_variable-requires
entry_of_variable-requires g c =
    let variable = c.args.variable.now in
    offset_agrees variable.offset variable.name.now variable.namespace.now c.requires

pub read_beside-requires : goal.read_beside-requires
read_beside-requires g c =
    let variable = c.args.variable.now in
    path_agrees (sight_of c.args.global.now) (names_in c.args.scope.now) variable.offset variable.name.now variable.namespace.now c.requires
