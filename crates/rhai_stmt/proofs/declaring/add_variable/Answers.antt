use Rattle.std.proofs.Common.{◌≡◌, Some, ◌∷◌, ◌++◌, [], ap, sym, ◌∙◌, slice_get}
use Rattle.std.proofs.lemmas.List.{map-append}
use Rattle.std.specs.Option.{option_map}
use Rattle.rhai_tree.specs.Forms.{is_exported}
use Rattle.rhai_values.specs.Modes.{with_mode}
use Rattle.rhai_state.specs.Scope.{entries_of, index_of, name_of, new_entry, value_of}
use Rattle.rhai_machine.specs.language.Frames.{Back, core}
use Rattle.rhai_machine.specs.language.Statements.{added, constant_core, enters, mode_of}
use Rattle.rhai_machine.specs.language.Values.{unit_value}
use Rattle.rhai_steps.specs.States.{local_of}
use Rattle.rhai_stmt.specs.Declares.{own_alias}
use Rattle.rhai_stmt.proofs.Declared.{added_there, declares_at, entered_as_given, newest_added, own_names}
use Rattle.rhai_stmt.proofs.declaring.add_variable.Goals as goal

pub returns-clause-declares : goal.returns-clause-declares
returns-clause-declares g c held k =
    let old = entries_of c.args.scope.now in
    let before = local_of c.args.global.now c.args.scope.now held in
    let after = local_of c.publish-published.new.global c.args.scope.now held in
    let name = c.args.declaration.now.ident.now.name in
    let mode = mode_of c.args.declaration.now.options in
    let more = old ++ new_entry name mode c.args.value ∷ [] in
    let pushed : entries_of c.define_variable.new.scope ≡ more = rw (← c.mode_of.ensures) c.in_ok-define_variable.ensures.pushed in
    let there : option_map value_of (slice_get (entries_of c.define_variable.new.scope) c.len-at.result) ≡ Some (with_mode
    mode c.args.value) =
    rw (pushed, c.len-at.ensures) (added_there mode old name c.args.value) in
    let entered : constant_core (enters c.args.declaration.now.options c.args.declaration.now.restoring before) name c.args.value before ≡
    after =
    sym (entered_as_given mode (enters c.args.declaration.now.options c.args.declaration.now.restoring before) name c.args.value before)
    ∙ sym (c.in_default.ensures.entered (with_mode mode c.args.value) c.args.scope.now held there) in
    let found : index_of name more ≡ Some c.len-at.result = newest_added name mode c.args.value old ∙ ap Some (sym c.len-at.ensures) in
    let aliased : own_alias (is_exported c.args.declaration.now.options) more c.len-at.result name ≡ entries_of
    c.publish-published.new.scope =
    sym (c.in_default.ensures.aliased
    ∙ ap (λ entries. own_alias (is_exported c.args.declaration.now.options) entries c.len-at.result name) pushed) in
    rw entered (declares_at (is_exported c.args.declaration.now.options) c.args.declaration.now.ident.now k
    (added c.args.value c.args.declaration.now.ident.now c.args.declaration.now.options after)
    c.len-at.result found ∙ ap (λ entries. core (Back unit_value) k (record after { scope = entries })) aliased)

pub returns-clause-names : goal.returns-clause-names
returns-clause-names g c =
    let old = entries_of c.args.scope.now in
    let name = c.args.declaration.now.ident.now.name in
    rw c.in_default.ensures.aliased
    (own_names (is_exported c.args.declaration.now.options) (entries_of c.define_variable.new.scope) c.len-at.result name
    ∙ rw c.in_ok-define_variable.ensures.pushed (map-append name_of old (new_entry name c.mode_of.result c.args.value ∷ [])))
