use Rattle.std.proofs.Common.{◌∙◌}
use Rattle.rhai_machine.specs.language.Setting.{Rules}
use Rattle.rhai_machine.specs.language.Methods.{Method}
use Rattle.rhai_steps.specs.Sessions.{under}
use Rattle.rhai_steps.specs.States.{state_of}
use Rattle.rhai_calls.proofs.Taking.{first_and_others, none_below, others}
use Rattle.rhai_steps.specs.OnFocus.{lending}
use Rattle.rhai_methods.proofs.Meanings.{argument_errs, argument_goes, argument_misses}
use Rattle.rhai_methods.proofs.methods.call_argument.Goals as goal

pub returns-in_default-clause-runs : goal.returns-in_default-clause-runs
returns-in_default-clause-runs g c scope held name was_handle seen sees =
    let rules : Rules _ _ = under g.H.Host.name_of c.args.session.now g.T.NativeTable.natives in
    let method : Method = record { name = name; at = c.args.pos; first_at = c.args.first_arg_pos; was_handle = was_handle } in
    argument_misses rules method c.args.args.now c.args.target.now
    (state_of (g.T.NativeTable.state c.args.table.now) c.args.global.now scope (lending held c.args.target.now))
    seen (none_below c.args.args.now c.in_default.len_below) c.no_pointer.result (rw sees at c.no_pointer.ensures)

pub returns-in-Ok-clause-runs : goal.returns-in-Ok-clause-runs
returns-in-Ok-clause-runs g c scope held name was_handle seen sees =
    let rules : Rules _ _ = under g.H.Host.name_of c.args.session.now g.T.NativeTable.natives in
    let method : Method = record { name = name; at = c.args.pos; first_at = c.args.first_arg_pos; was_handle = was_handle } in
    argument_goes rules method c.args.args.now c.args.target.now
    (state_of (g.T.NativeTable.state c.args.table.now) c.args.global.now scope (lending held c.args.target.now))
    seen c.replace-first.result (others c.args.args.now)
    (first_and_others c.args.args.now c.result-item.result c.replace-first.result c.in-len1-up.len_at_least
    (c.replace-first.ensures.value ∙ c.result-item.is))
    c.in-Ok.pointer (rw c.unwrap_or-first_pos.ensures at (c.in-Ok.ensures tt)) c.call_pointer_on.result
    (state_of (g.T.NativeTable.state c.call_pointer_on.new.table) c.call_pointer_on.new.global scope
    (lending held c.call_pointer_on.new.target))
    (c.call_pointer_on.ensures.runs scope held)

pub returns-in-Err-clause-runs : goal.returns-in-Err-clause-runs
returns-in-Err-clause-runs g c scope held name was_handle seen sees =
    let rules : Rules _ _ = under g.H.Host.name_of c.args.session.now g.T.NativeTable.natives in
    let method : Method = record { name = name; at = c.args.pos; first_at = c.args.first_arg_pos; was_handle = was_handle } in
    argument_errs rules method c.args.args.now c.args.target.now
    (state_of (g.T.NativeTable.state c.args.table.now) c.args.global.now scope (lending held c.args.target.now))
    seen c.replace-first.result (others c.args.args.now)
    (first_and_others c.args.args.now c.result-item.result c.replace-first.result c.in-len1-up.len_at_least
    (c.replace-first.ensures.value ∙ c.result-item.is))
    c.in-Err.error (λ m. rw c.unwrap_or-first_pos.ensures at (c.in-Err.ensures m))
