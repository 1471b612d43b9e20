use Rattle.std.proofs.Common.{◌≤◌, ◌+◌, ap, arith, rules}
use Rattle.rhai_errors.specs.Native.{ByState}
use Rattle.rhai_state.specs.declared.state.GlobalRuntimeState.{GlobalRuntimeState}
use Rattle.rhai_index.proofs.Uncalled.{no_room, uncalled}
use Rattle.rhai_index.proofs.indexing.get_indexed_mut.Goals as goal

pub returns-in_err-charge_caller : goal.returns-in_err-charge_caller
returns-in_err-charge_caller g c =
    let full : c.args.session.now.limits.max_operations ≤ c.args.global.now.num_operations + 1 =
    omega (arith, c.in_err-charge_caller.ensures.full) in
    ((search rules, search rules, uncalled _ _ _ _ _ (no_room _ _ _ full)), search (rules, ByState))

pub returns-then-not-asks_indexer : goal.returns-then-not-asks_indexer
returns-then-not-asks_indexer g c = search (rules, ByState)

pub returns-in_err-charge_caller-2 : goal.returns-in_err-charge_caller-2
returns-in_err-charge_caller-2 g c =
    let charged = ap (λ (h : GlobalRuntimeState g.row.H.Denot). h.num_operations) c.in_ok-charge_caller.ensures.charged in
    let full : c.args.session.now.limits.max_operations ≤ c.args.global.now.num_operations + 1 =
    omega (arith, charged, c.in_err-charge_caller-2.ensures.full) in
    ((search rules, search rules, uncalled _ _ _ _ _ (no_room _ _ _ full)), search (rules, ByState))
