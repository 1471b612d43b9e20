use Rattle.std.proofs.Common.{◌≡◌, Some, ap, sym, ◌∙◌, length, slice_get}
use Rattle.std.proofs.lemmas.Option.{slice_get-get_or}
use Rattle.rhai_tree.specs.Forms.{is_exported}
use Rattle.rhai_state.specs.Scope.{entries_of}
use Rattle.rhai_machine.specs.language.Statements.{constant_core, enters}
use Rattle.rhai_steps.specs.States.{local_of}
use Rattle.rhai_stmt.proofs.Declared.{first_own, own_value}
use Rattle.rhai_stmt.proofs.declaring.publish.Goals as goal

pub returns-in-Err-clause-same_scope : goal.returns-in-Err-clause-same_scope
returns-in-Err-clause-same_scope g c =
    let old = entries_of c.args.scope.now in
    let entry = c.index-entries-at.result in
    let there : slice_get old c.args.at ≡ Some entry = slice_get-get_or old c.args.at entry c.requires
    ∙ ap Some (sym (rw c.entries.ensures at c.index-entries-at.is)) in
    let counted : c.len-count.result ≡ length entry.aliases = c.len-count.ensures ∙ ap (λ e. length e.aliases) (sym
    c.index-entries-at.is) in
    c.truncate_aliases.ensures
    ∙ rw c.in_ok-add_own_alias.ensures.aliased (first_own (is_exported c.args.declaration.now.options) old c.args.at entry
    c.args.declaration.now.ident.now.name c.len-count.result there counted)

pub returns-clause-entered : goal.returns-clause-entered
returns-clause-entered g c v s held stands =
    let old = entries_of c.args.scope.now in
    let before = local_of c.args.global.now s held in
    let there : Some c.value_at-value.result.now ≡ Some v = sym c.value_at-value.ensures
    ∙ rw c.in_ok-add_own_alias.ensures.aliased
    (own_value (is_exported c.args.declaration.now.options) old c.args.at c.args.declaration.now.ident.now.name) ∙ stands in
    let same : c.value_at-value.result.now ≡ v = cc in
    c.in_default.ensures.entered s held
    ∙ ap (λ x. constant_core (enters c.args.declaration.now.options c.args.declaration.now.restoring before)
    c.args.declaration.now.ident.now.name x before) same
