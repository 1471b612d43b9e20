use Rattle.std.proofs.Common.{ap, sym, ◌∙◌}
use Rattle.rhai_values.specs.Cells.{cells_of}
use Rattle.rhai_state.specs.Scope.{entries_of}
use Rattle.rhai_steps.proofs.Agreeing.{offset_agrees}
use Rattle.rhai_assign.specs.Targets.{if_found}
use Rattle.rhai_assign.proofs.Entries.{found_none, target_is}
use Rattle.rhai_assign.proofs.place.find_named.Goals as goal

pub returns-in-Ok : goal.returns-in-Ok
returns-in-Ok g c =
    let entries = entries_of c.args.scope.now in
    let found = c.in-Ok.ensures entries c.value_at.ensures in (
      target_is (cells_of c.args.global.now.cells) c.args.variable.now.namespace.now.path c.args.variable.now.name.now
          c.args.variable.now.at entries c.in_ok-index.index
          c.value_at.result.now (sym c.in_ok-index.ensures.exact) c.value_at.ensures ∙ ap if_found found.0,
      found.1,
    )

pub returns-in-Err : goal.returns-in-Err
returns-in-Err g c =
    let entries = entries_of c.args.scope.now in
    target_is (cells_of c.args.global.now.cells) c.args.variable.now.namespace.now.path c.args.variable.now.name.now c.args.variable.now.at
    entries c.in_ok-index.index
    c.value_at.result.now (sym c.in_ok-index.ensures.exact) c.value_at.ensures
    ∙ found_none _ (c.in-Err.ensures entries c.value_at.ensures).0

pub entry_of_variable-requires : goal.entry_of_variable-requires
entry_of_variable-requires g c =
    let variable = c.args.variable.now in
    offset_agrees variable.offset variable.name.now variable.namespace.now c.requires
