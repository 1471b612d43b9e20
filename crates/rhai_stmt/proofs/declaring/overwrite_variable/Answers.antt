use Rattle.std.proofs.Common.{◌≡◌, Some, ap, false, sym, true, ◌∙◌, slice_get}
use Rattle.std.specs.Option.{option_map}
use Rattle.rhai_tree.specs.Forms.{is_exported}
use Rattle.rhai_values.specs.Modes.{with_mode}
use Rattle.rhai_state.specs.Scope.{entries_of, index_of, revalued, value_of}
use Rattle.rhai_machine.specs.language.Frames.{Back, core}
use Rattle.rhai_machine.specs.language.Places.{InEntry, put}
use Rattle.rhai_machine.specs.language.Statements.{constant_core, enters, mode_of}
use Rattle.rhai_machine.specs.language.Values.{unit_value}
use Rattle.rhai_steps.specs.Agreement.{sight_of}
use Rattle.rhai_steps.specs.States.{local_of}
use Rattle.rhai_steps.proofs.Agreeing.{index_agrees, place_fits}
use Rattle.rhai_stmt.specs.Declares.{own_alias}
use Rattle.rhai_stmt.proofs.Declared.{declares_at, entered_as_given, own_names, put_back, revalued_names, revalued_value, same_place}
use Rattle.rhai_stmt.proofs.declaring.overwrite_variable.Goals as goal

pub index_of_variable-requires : goal.index_of_variable-requires
index_of_variable-requires g c = place_fits (sight_of c.args.global.now) (Some c.args.offset) c.args.declaration.now.ident.now.name
    (entries_of c.args.scope.now) c.requires

pub returns-in_default-clause-declares : goal.returns-in_default-clause-declares
returns-in_default-clause-declares g c held = c.overwrite_none.ensures.declares c.args.offset c.args.scope.now held
    (sym (index_agrees (sight_of c.args.global.now) (Some c.args.offset) c.args.declaration.now.ident.now.name
    (entries_of c.args.scope.now) c.requires c.index_of_variable.result c.index_of_variable.ensures.exact) ∙ c.in_default.is)

pub returns-in_default-clause-misses : goal.returns-in_default-clause-misses
returns-in_default-clause-misses g c held = c.overwrite_none.ensures.misses c.args.offset c.args.scope.now held
    (sym (index_agrees (sight_of c.args.global.now) (Some c.args.offset) c.args.declaration.now.ident.now.name
    (entries_of c.args.scope.now) c.requires c.index_of_variable.result c.index_of_variable.ensures.exact) ∙ c.in_default.is)

pub returns-in-Err-clause-misses : goal.returns-in-Err-clause-misses
returns-in-Err-clause-misses g c held told k = let never : true ≡ false = sym c.in-Err.ensures.refused ∙ told in cc

pub returns-in-Err-clause-same_scope : goal.returns-in-Err-clause-same_scope
returns-in-Err-clause-same_scope g c = c.replace_value.ensures.after
    ∙ rw (c.in-Err.ensures.same_scope, c.replace_value-before.ensures.after)
    (put_back (entries_of c.args.scope.now) c.in-Some.at _ c.replace_value-before.result c.replace_value-before.ensures.before)

pub returns-clause-declares : goal.returns-clause-declares
returns-clause-declares g c held k =
    let old = entries_of c.args.scope.now in
    let before = local_of c.args.global.now c.args.scope.now held in
    let after = local_of c.publish-published.new.global c.args.scope.now held in
    let name = c.args.declaration.now.ident.now.name in
    let at = c.in-Some.at in
    let v = with_mode (mode_of c.args.declaration.now.options) c.args.value in
    let more = revalued old at (slice_get old at) v in
    let valued : c.set_access_mode.new.self ≡ v = c.set_access_mode.ensures ∙ ap (λ mode. with_mode mode c.args.value) c.mode_of.ensures in
    let written : entries_of c.replace_value-before.new.self ≡ more = rw (← valued) c.replace_value-before.ensures.after in
    let there : option_map value_of (slice_get (entries_of c.replace_value-before.new.self) at) ≡ Some v =
    rw written (revalued_value old at v c.replace_value-before.result c.replace_value-before.ensures.before) in
    let entered : constant_core (enters c.args.declaration.now.options c.args.declaration.now.restoring before) name c.args.value before ≡
    after =
    sym (entered_as_given (mode_of c.args.declaration.now.options)
    (enters c.args.declaration.now.options c.args.declaration.now.restoring before) name c.args.value before)
    ∙ sym (c.in_default-published.ensures.entered v c.args.scope.now held there) in
    let here : index_of name old ≡ Some at = sym (index_agrees (sight_of c.args.global.now) (Some c.args.offset) name old c.requires
    c.index_of_variable.result c.index_of_variable.ensures.exact) ∙ c.in-Some.is in
    let found : index_of name more ≡ Some at = same_place name more old (revalued_names old at v) ∙ here in
    let aliased : own_alias (is_exported c.args.declaration.now.options) more at name ≡ entries_of c.publish-published.new.scope =
    sym (c.in_default-published.ensures.aliased
    ∙ ap (λ entries. own_alias (is_exported c.args.declaration.now.options) entries at name) written) in
    rw (entered, here) (declares_at (is_exported c.args.declaration.now.options) c.args.declaration.now.ident.now k
    (put (InEntry at) v after) at found
    ∙ ap (λ entries. core (Back unit_value) k (record after { scope = entries })) aliased)

pub returns-clause-names : goal.returns-clause-names
returns-clause-names g c = rw c.in_default-published.ensures.aliased (own_names (is_exported c.args.declaration.now.options)
    (entries_of c.replace_value-before.new.self) c.in-Some.at c.args.declaration.now.ident.now.name
    ∙ rw c.replace_value-before.ensures.after (revalued_names (entries_of c.args.scope.now) c.in-Some.at _))
