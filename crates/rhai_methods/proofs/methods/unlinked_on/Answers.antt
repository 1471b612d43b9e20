use Rattle.std.proofs.Common.{◌≡◌, ap, ◌∙◌}
use Rattle.std.specs.Option.{option_copied}
use Rattle.rhai_values.specs.declared.base.value.FnPtr.{out-FnPtr}
use Rattle.rhai_machine.specs.language.Setting.{Rules}
use Rattle.rhai_steps.specs.Sessions.{under}
use Rattle.rhai_steps.specs.States.{state_of}
use Rattle.rhai_steps.specs.OnFocus.{lending}
use Rattle.rhai_methods.specs.Parts.{name_called}
use Rattle.rhai_methods.proofs.Pointed.{by_parts_on, called_is}
use Rattle.rhai_methods.proofs.methods.unlinked_on.Goals as goal

pub returns-clause-runs : goal.returns-clause-runs
returns-clause-runs g c scope held =
    let rules : Rules _ _ = under g.H.Host.name_of c.args.session.now g.T.NativeTable.natives in
    let named : c.as_str-text.result.now ≡ (out-FnPtr _ c.args.pointer).name =
    c.as_str-text.ensures ∙ c.get.ensures ∙ c.parts_of-name.ensures.name in
    let so : c.unwrap_or-called.result.now ≡ name_called c.args.pointer (option_copied c.args.called) =
    ap (λ name. name.now) c.unwrap_or-called.ensures ∙ called_is c.args.pointer c.args.called c.as_str-text.result named in
    by_parts_on rules c.args.pointer c.args.pos c.args.args.now
    (state_of (g.T.NativeTable.state c.args.table.now) c.args.global.now scope (lending held c.args.target.now))
    (state_of (g.T.NativeTable.state c.call_on-call.new.table) c.call_on-call.new.global scope (lending held c.call_on-call.new.target))
    c.call_on-call.result c.parts_of-name.result.2 c.as_str-text.result.now c.parts_of-name.result.1
    named c.parts_of-name.ensures.curried c.parts_of-name.ensures.number
    (name_called c.args.pointer (option_copied c.args.called)) c.args.target.now
    (rw so at (c.call_on-call.ensures.runs scope held))
