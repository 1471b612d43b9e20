use Rattle.std.proofs.Common.{◌≡◌, true, Some, [], ◌∷◌, refl}
use Rattle.rhai_machine.specs.language.Frames.{FromEntry, Operation}
use Rattle.rhai_machine.specs.language.Runs.{Goes}
use Rattle.rhai_machine.specs.language.Setting.{Rules}
use Rattle.rhai_steps.specs.Operations.{operation_of}
use Rattle.rhai_steps.specs.Sessions.{under}
use Rattle.rhai_steps.specs.Lending.{lent_call}
use Rattle.rhai_calls.proofs.NativeCalls.{refuses_call}
use Rattle.rhai_fast_calls.proofs.Steps.{asks_native, names_kept}
use Rattle.rhai_fast_calls.proofs.at_once.call_entry.Goals as goal

pub returns-clause-names : goal.returns-clause-names
returns-clause-names g c = names_kept c.args.scope.now.entries c.args.index c.ask-answer.new.first

pub returns-then-not-charge-clause-runs : goal.returns-then-not-charge-clause-runs
unfolding Goes
returns-then-not-charge-clause-runs g c held v stands k =
    let rules : Rules _ _ = under g.H.Host.name_of c.args.session.now g.T.NativeTable.natives in
    let operation : Operation = operation_of c.args.operation.now in
    refuses_call rules _ c.args.global.now c.charge.new.global c.args.scope.now held
    (lent_call operation (Some (FromEntry c.args.index)) true (v ∷ [])) _ (c.charge.ensures.full c.if-not-charge.true)
    (c.charge.ensures.refused c.if-not-charge.true) (c.charge.ensures.same c.if-not-charge.true) k

pub returns-clause-runs : goal.returns-clause-runs
returns-clause-runs g c held v stands =
    let rules : Rules _ _ = under g.H.Host.name_of c.args.session.now g.T.NativeTable.natives in
    let operation : Operation = operation_of c.args.operation.now in
    let same : v ≡ c.value_at_mut-first.result.now = let there = c.value_at_mut-first.ensures.value in cc in
    let none : c.as_slice-rest.result.now ≡ [] = c.as_slice-rest.ensures in
    rw same
    (asks_native rules operation c.args.index c.value_at_mut-first.result.now
    (rw c.value_at_mut-first.ensures.value at c.requires.lendable) (g.T.NativeTable.state c.args.table.now)
    c.args.global.now c.charge.new.global (g.T.NativeTable.state c.ask-answer.new.table) c.args.scope.now _ held c.ask-answer.new.first
    c.value_at_mut-first.ensures.value refl (c.charge.ensures.room c.if-not-charge.false) (c.charge.ensures.charged c.if-not-charge.false)
    _ (rw none at c.ask-answer.ensures.obeys)
    (record { no_handle = c.ask-answer.ensures.no_handle; leaves = rw none at c.ask-answer.ensures.leaves })
    _ (rw none at c.settle_answer.ensures.told) c.settle_answer.ensures.memory)
