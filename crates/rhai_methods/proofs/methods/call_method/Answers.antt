use Rattle.std.proofs.Common.{false, Ok}
use Rattle.rhai_machine.specs.language.Setting.{Rules}
use Rattle.rhai_machine.specs.language.Methods.{Method, CallWord, CurryWord, SharedWord, PlainWord}
use Rattle.rhai_steps.specs.Sessions.{under}
use Rattle.rhai_steps.specs.States.{state_of}
use Rattle.rhai_steps.specs.OnFocus.{lending}
use Rattle.rhai_calls.specs.declared.dispatch.Called.TheVariants.{Ended}
use Rattle.rhai_methods.proofs.Meanings.{by_word, curry_goes, shared_goes}
use Rattle.rhai_methods.proofs.methods.call_method.Goals as goal

pub returns-in-Call-clause-runs : goal.returns-in-Call-clause-runs
returns-in-Call-clause-runs g c scope held =
    let rules : Rules _ _ = under g.H.Host.name_of c.args.session.now g.T.NativeTable.natives in
    let method : Method = record {
      name = c.args.operation.now.name.now;
      at = c.args.operation.now.at;
      first_at = c.args.first_arg_pos;
      was_handle = c.args.was_handle;
    } in
    by_word rules method c.args.args.now c.args.target.now
    (state_of (g.T.NativeTable.state c.args.table.now) c.args.global.now scope (lending held c.args.target.now))
    CallWord c.in-Call.ensures c.call_word.result
    (state_of (g.T.NativeTable.state c.call_word.new.table) c.call_word.new.global scope (lending held c.call_word.new.target))
    (c.call_word.ensures.runs scope held c.args.operation.now.name.now c.args.was_handle)

pub returns-in-Curry-clause-runs : goal.returns-in-Curry-clause-runs
returns-in-Curry-clause-runs g c scope held =
    let rules : Rules _ _ = under g.H.Host.name_of c.args.session.now g.T.NativeTable.natives in
    let method : Method = record {
      name = c.args.operation.now.name.now;
      at = c.args.operation.now.at;
      first_at = c.args.first_arg_pos;
      was_handle = c.args.was_handle;
    } in
    let old = state_of (g.T.NativeTable.state c.args.table.now) c.args.global.now scope (lending held c.args.target.now) in
    by_word rules method c.args.args.now c.args.target.now old CurryWord c.in-Curry.ensures (Ended c.tell_changed.result) old
    (curry_goes rules method c.args.args.now c.args.target.now old c.curried-result.result c.tell_changed.result c.tell_changed.ensures
    c.curried-result.ensures)

pub returns-in-Shared-clause-runs : goal.returns-in-Shared-clause-runs
returns-in-Shared-clause-runs g c scope held =
    let rules : Rules _ _ = under g.H.Host.name_of c.args.session.now g.T.NativeTable.natives in
    let method : Method = record {
      name = c.args.operation.now.name.now;
      at = c.args.operation.now.at;
      first_at = c.args.first_arg_pos;
      was_handle = c.args.was_handle;
    } in
    let old = state_of (g.T.NativeTable.state c.args.table.now) c.args.global.now scope (lending held c.args.target.now) in
    by_word rules method c.args.args.now c.args.target.now old SharedWord c.in-Shared.ensures (Ended (Ok (c.bool_value.result, false))) old
    (shared_goes rules method c.args.args.now c.args.target.now old c.bool_value.result c.bool_value.ensures)

pub returns-in-Plain-clause-runs : goal.returns-in-Plain-clause-runs
returns-in-Plain-clause-runs g c scope held =
    let rules : Rules _ _ = under g.H.Host.name_of c.args.session.now g.T.NativeTable.natives in
    let method : Method = record {
      name = c.args.operation.now.name.now;
      at = c.args.operation.now.at;
      first_at = c.args.first_arg_pos;
      was_handle = c.args.was_handle;
    } in
    by_word rules method c.args.args.now c.args.target.now
    (state_of (g.T.NativeTable.state c.args.table.now) c.args.global.now scope (lending held c.args.target.now))
    PlainWord c.in-Plain.ensures c.call_plain.result
    (state_of (g.T.NativeTable.state c.call_plain.new.table) c.call_plain.new.global scope (lending held c.call_plain.new.target))
    (c.call_plain.ensures.runs scope held c.args.first_arg_pos c.args.was_handle)
