use Rattle.std.proofs.Common.{Ok, sym, ap, ◌∙◌}
use Rattle.rhai_machine.specs.language.Setting.{Rules}
use Rattle.rhai_machine.specs.language.Methods.{Method}
use Rattle.rhai_steps.specs.Sessions.{under}
use Rattle.rhai_steps.specs.States.{state_of}
use Rattle.rhai_steps.specs.OnFocus.{lending}
use Rattle.rhai_methods.proofs.Meanings.{call_alone_goes, call_argument_goes, call_errs}
use Rattle.rhai_methods.proofs.methods.call_word.Goals as goal

pub returns-in-Ok-Some-clause-runs : goal.returns-in-Ok-Some-clause-runs
returns-in-Ok-Some-clause-runs g c scope held name was_handle =
    let rules : Rules _ _ = under g.H.Host.name_of c.args.session.now g.T.NativeTable.natives in
    let method : Method = record { name = name; at = c.args.pos; first_at = c.args.first_arg_pos; was_handle = was_handle } in
    call_alone_goes rules method c.args.args.now c.args.target.now
    (state_of (g.T.NativeTable.state c.args.table.now) c.args.global.now scope (lending held c.args.target.now))
    c.in-Ok-Some.pointer (ap Ok (sym c.in-Ok-Some.field-0-is) ∙ c.in-Ok-Some.ensures tt) c.call_pointer.result
    (state_of (g.T.NativeTable.state c.call_pointer.new.table) c.call_pointer.new.global scope (lending held c.args.target.now))
    (c.call_pointer.ensures.runs scope (lending held c.args.target.now))

pub returns-in-Ok-None-clause-runs : goal.returns-in-Ok-None-clause-runs
returns-in-Ok-None-clause-runs g c scope held name was_handle =
    let rules : Rules _ _ = under g.H.Host.name_of c.args.session.now g.T.NativeTable.natives in
    let method : Method = record { name = name; at = c.args.pos; first_at = c.args.first_arg_pos; was_handle = was_handle } in
    call_argument_goes rules method c.args.args.now c.args.target.now
    (state_of (g.T.NativeTable.state c.args.table.now) c.args.global.now scope (lending held c.args.target.now))
    (ap Ok (sym c.in-Ok-None.field-0-is) ∙ c.in-Ok-None.ensures tt) c.call_argument.result
    (state_of (g.T.NativeTable.state c.call_argument.new.table) c.call_argument.new.global scope (lending held c.call_argument.new.target))
    (λ v sees. c.call_argument.ensures.runs scope held name was_handle v sees)

pub returns-in-Err-clause-runs : goal.returns-in-Err-clause-runs
returns-in-Err-clause-runs g c scope held name was_handle =
    let rules : Rules _ _ = under g.H.Host.name_of c.args.session.now g.T.NativeTable.natives in
    let method : Method = record { name = name; at = c.args.pos; first_at = c.args.first_arg_pos; was_handle = was_handle } in
    call_errs rules method c.args.args.now c.args.target.now
    (state_of (g.T.NativeTable.state c.args.table.now) c.args.global.now scope (lending held c.args.target.now))
    c.in-Err.error c.in-Err.ensures
