use Rattle.std.proofs.Common.{◌≡◌, ◌∙◌, None, Some, refl, sym}
use Rattle.rhai_state.specs.Scope.{entries_of, index_of}
use Rattle.rhai_machine.specs.language.Runs.{Goes}
use Rattle.rhai_steps.specs.Sessions.{under}
use Rattle.rhai_steps.specs.States.{state_of}
use Rattle.rhai_stmt.proofs.ExportSteps.{aliased_names, exports, no_memory, not_found}
use Rattle.rhai_stmt.proofs.exporting.export_variable.Goals as goal

pub returns-in_default-clause-runs : goal.returns-in_default-clause-runs
unfolding Goes
returns-in_default-clause-runs g c global held pos restoring k =
    let rules = under g.H.Host.name_of c.args.session.now g.T.NativeTable.natives in
    let none : index_of c.args.ident.now.name (entries_of c.args.scope.now) ≡ None =
    sym (rw (c.as_str.ensures, c.get.ensures) at c.place_of.ensures.exact) ∙ c.in_default.is in
    rw (c.stop.ensures.stopped, c.stop.ensures.told) (not_found rules c.args.ident.now c.args.alias.now pos restoring k
    (state_of (g.T.NativeTable.state c.args._table.now) global c.args.scope.now held) c.variable_not_found.result none
    c.variable_not_found.ensures)

pub returns-in_default-share-clause-runs : goal.returns-in_default-share-clause-runs
unfolding Goes
returns-in_default-share-clause-runs g c global held pos restoring k =
    let rules = under g.H.Host.name_of c.args.session.now g.T.NativeTable.natives in
    rw (c.stop-in_default-share.ensures.stopped, c.stop-in_default-share.ensures.told)
    (no_memory rules c.args.ident.now c.args.alias.now pos restoring k
    (state_of (g.T.NativeTable.state c.args._table.now) global c.args.scope.now held) c.args.ident.now.pos)

pub returns-in-Ok-add_alias-clause-names : goal.returns-in-Ok-add_alias-clause-names
returns-in-Ok-add_alias-clause-names g c =
    rw c.in-Ok-add_alias.ensures.ok (aliased_names (entries_of c.args.scope.now) c.in-Some.index _ c.in-Ok.alias refl)

pub returns-in-Ok-add_alias-clause-runs : goal.returns-in-Ok-add_alias-clause-runs
unfolding Goes
returns-in-Ok-add_alias-clause-runs g c global held pos restoring k =
    let rules = under g.H.Host.name_of c.args.session.now g.T.NativeTable.natives in
    let found : index_of c.args.ident.now.name (entries_of c.args.scope.now) ≡ Some c.in-Some.index =
    sym (rw (c.as_str.ensures, c.get.ensures) at c.place_of.ensures.exact) ∙ c.in-Some.is in
    rw (c.put_unit.ensures, c.in-Ok-add_alias.ensures.ok, c.in-Ok.ensures, c.alias_or.ensures)
    (exports rules c.args.ident.now c.args.alias.now pos restoring k
    (state_of (g.T.NativeTable.state c.args._table.now) global c.args.scope.now held) c.in-Some.index found)

pub returns-in-Err-clause-runs : goal.returns-in-Err-clause-runs
unfolding Goes
returns-in-Err-clause-runs g c global held pos restoring k =
    let rules = under g.H.Host.name_of c.args.session.now g.T.NativeTable.natives in
    rw (c.stop-in-Err.ensures.stopped, c.stop-in-Err.ensures.told, c.in-Err.ensures.err)
    (no_memory rules c.args.ident.now c.args.alias.now pos restoring k
    (state_of (g.T.NativeTable.state c.args._table.now) global c.args.scope.now held) c.args.ident.now.pos)
