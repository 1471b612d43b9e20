use Rattle.std.proofs.Common.{◌≡◌, suc, ◌-◌, sym, arith}
use Rattle.rhai_state.specs.Scope.{name_of}
use Rattle.rhai_state.proofs.Newest.{newest_here}
use Rattle.rhai_state.proofs.scope.newest_entry.Goals as goal

pub returns-then-eq : goal.returns-then-eq
returns-then-eq g c =
    let place : suc (c.entries.at - 1) ≡ c.entries.at = omega arith in
    sym (newest_here name_of c.args.name.now c.args.entries.now (c.entries.at - 1) c.index-entries-at.result (omega arith)
    (rw place c.entries.invariant.0) c.index-entries-at.is (cc))

pub returns : goal.returns
returns g c =
    let start : c.entries.at ≡ 0 = omega arith in
    sym (rw start at c.entries.invariant.0)
