use Rattle.std.proofs.Common.{Some, arith, false, true}
use Rattle.rhai_machine.specs.language.Calls.{dispatch_core}
use Rattle.rhai_machine.specs.language.Frames.{Operation}
use Rattle.rhai_machine.specs.language.Setting.{Rules}
use Rattle.rhai_lookups.proofs.Returned.{left_twice}
use Rattle.rhai_steps.specs.Operations.{operation_of}
use Rattle.rhai_steps.specs.OnFocus.{lending}
use Rattle.rhai_steps.specs.Callers.{state_of}
use Rattle.rhai_eval.specs.Places.{by_name, by_value, on_place}
use Rattle.rhai_eval.specs.States.{under}
use Rattle.rhai_eval.proofs.Dispatching.{alone_out, ended_out, method_out, no_method, none_lends}
use Rattle.rhai_eval.proofs.engine.Engine.call_with.Goals as goal

pub returns-in-Ended-clause-lent : goal.returns-in-Ended-clause-lent
returns-in-Ended-clause-lent g c scope held lent =
    let rules : Rules _ _ = under g.H.Host.name_of c.args.self.now g.T.NativeTable.natives in
    let operation : Operation = operation_of c.args.operation.now in
    ended_out rules true c.args.operation.now.at (dispatch_core rules.setting (by_name c.args.manner.is_method_call false)
    (on_place operation true (Some c.args.first.now) c.args.rest.now))
    c.call_first-call.result
    (state_of (g.T.NativeTable.state c.args.table.now) c.args.global.now scope (lending held c.args.first.now))
    (state_of (g.T.NativeTable.state c.call_first-call.new.table) c.call_first-call.new.global scope (lending held
    c.call_first-call.new.first))
    (state_of (g.T.NativeTable.state c.call_first-call.new.table) c.call_first-call.new.global scope (lending held
    c.call_first-call.new.first))
    c.in-Ended.result c.in-Ended.is (c.call_first-call.ensures.lent scope held false lent)

pub returns-in-OnTarget-clause-lent : goal.returns-in-OnTarget-clause-lent
returns-in-OnTarget-clause-lent g c scope held lent =
    let rules : Rules _ _ = under g.H.Host.name_of c.args.self.now g.T.NativeTable.natives in
    let operation : Operation = operation_of c.args.operation.now in
    method_out rules true c.args.operation.now.at (dispatch_core rules.setting (by_name c.args.manner.is_method_call false)
    (on_place operation true (Some c.args.first.now) c.args.rest.now))
    c.call_first-call.result
    (state_of (g.T.NativeTable.state c.args.table.now) c.args.global.now scope (lending held c.args.first.now))
    (state_of (g.T.NativeTable.state c.call_first-call.new.table) c.call_first-call.new.global scope (lending held
    c.call_first-call.new.first))
    (state_of (g.T.NativeTable.state c.enter_method_fresh.new.table) c.enter_method_fresh.new.global scope
    (lending held c.enter_method_fresh.new.place))
    c.in-OnTarget.function c.in-OnTarget.args c.enter_method_fresh.result
    (rw c.in-OnTarget.is at c.in-Enters.is)
    (c.call_first-call.ensures.lent scope held false lent) (c.enter_method_fresh.ensures.runs scope held)

pub returns-in-Alone-clause-lent : goal.returns-in-Alone-clause-lent
returns-in-Alone-clause-lent g c scope held lent =
    let rules : Rules _ _ = under g.H.Host.name_of c.args.self.now g.T.NativeTable.natives in
    let operation : Operation = operation_of c.args.operation.now in
    alone_out rules true c.args.operation.now.at (dispatch_core rules.setting (by_name c.args.manner.is_method_call false)
    (on_place operation true (Some c.args.first.now) c.args.rest.now))
    c.call_first-call.result
    (state_of (g.T.NativeTable.state c.args.table.now) c.args.global.now scope (lending held c.args.first.now))
    (state_of (g.T.NativeTable.state c.call_first-call.new.table) c.call_first-call.new.global scope (lending held
    c.call_first-call.new.first))
    (state_of (g.T.NativeTable.state c.call_first-call.new.table) c.call_first-call.new.global scope (lending held
    c.call_first-call.new.first))
    c.in-Alone.function c.in-Alone.args
    (rw c.in-Alone.is at c.in-Enters.is)
    (c.call_first-call.ensures.lent scope held false lent)

pub returns-in-Ended-clause-by_value : goal.returns-in-Ended-clause-by_value
returns-in-Ended-clause-by_value g c scope held none =
    let rules : Rules _ _ = under g.H.Host.name_of c.args.self.now g.T.NativeTable.natives in
    let operation : Operation = operation_of c.args.operation.now in
    ended_out rules true c.args.operation.now.at (dispatch_core rules.setting (by_name false false)
    (by_value operation (Some c.args.first.now) c.args.rest.now))
    c.call_first-call.result
    (state_of (g.T.NativeTable.state c.args.table.now) c.args.global.now scope held)
    (state_of (g.T.NativeTable.state c.call_first-call.new.table) c.call_first-call.new.global scope held)
    (state_of (g.T.NativeTable.state c.call_first-call.new.table) c.call_first-call.new.global scope held)
    c.in-Ended.result c.in-Ended.is (c.call_first-call.ensures.by_value scope held false none)

pub returns-in-OnTarget-clause-by_value : goal.returns-in-OnTarget-clause-by_value
returns-in-OnTarget-clause-by_value g c scope held none =
    absurd (no_method c.call_first-call.result c.in-OnTarget.function c.in-OnTarget.args
    (rw c.in-OnTarget.is at c.in-Enters.is)
    (c.call_first-call.ensures.by_itself (none_lends c.args.manner.is_ref_mut c.args.manner.is_method_call none).1))

pub returns-in-Alone-clause-by_value : goal.returns-in-Alone-clause-by_value
returns-in-Alone-clause-by_value g c scope held none =
    let rules : Rules _ _ = under g.H.Host.name_of c.args.self.now g.T.NativeTable.natives in
    let operation : Operation = operation_of c.args.operation.now in
    alone_out rules true c.args.operation.now.at (dispatch_core rules.setting (by_name false false)
    (by_value operation (Some c.args.first.now) c.args.rest.now))
    c.call_first-call.result
    (state_of (g.T.NativeTable.state c.args.table.now) c.args.global.now scope held)
    (state_of (g.T.NativeTable.state c.call_first-call.new.table) c.call_first-call.new.global scope held)
    (state_of (g.T.NativeTable.state c.call_first-call.new.table) c.call_first-call.new.global scope held)
    c.in-Alone.function c.in-Alone.args
    (rw c.in-Alone.is at c.in-Enters.is)
    (c.call_first-call.ensures.by_value scope held false none)

pub returns-in-OnTarget-clause-taken : goal.returns-in-OnTarget-clause-taken
returns-in-OnTarget-clause-taken g c none =
    absurd (no_method c.call_first-call.result c.in-OnTarget.function c.in-OnTarget.args
    (rw c.in-OnTarget.is at c.in-Enters.is)
    (c.call_first-call.ensures.by_itself (none_lends c.args.manner.is_ref_mut c.args.manner.is_method_call none).1))

pub enter_method_fresh-requires : goal.enter_method_fresh-requires
enter_method_fresh-requires g c = (omega arith, c.call_first-call.ensures.caches.fit)

pub returns-in-OnTarget-clause-caches : goal.returns-in-OnTarget-clause-caches
returns-in-OnTarget-clause-caches g c = left_twice _ _ _ _ _ c.call_first-call.ensures.caches c.enter_method_fresh.ensures.caches
