use Rattle.std.proofs.Common.{◌≡◌, suc, ◌-◌, sym, arith}
use Rattle.rhai_state.specs.State.{import_name}
use Rattle.rhai_state.proofs.Newest.{newest_here}
use Rattle.rhai_state.proofs.state.newest_import.Goals as goal

pub returns-then-eq : goal.returns-then-eq
returns-then-eq g c =
    let place : suc (c.imports.at - 1) ≡ c.imports.at = omega arith in
    sym (newest_here import_name c.args.name.now c.args.imports.now (c.imports.at - 1) c.index-imports-at.result (omega arith)
    (rw place c.imports.invariant.0) c.index-imports-at.is (cc))

pub returns : goal.returns
returns g c =
    let start : c.imports.at ≡ 0 = omega arith in
    sym (rw start at c.imports.invariant.0)
