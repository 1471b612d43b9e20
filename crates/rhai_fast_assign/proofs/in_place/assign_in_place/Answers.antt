use Rattle.std.proofs.Common.{◌≡◌, ◌+◌, ◌-◌, arith}
use Rattle.rhai_fast_assign.proofs.in_place.assign_in_place.Goals as goal

pub returns-then-assign_integer-clause-runs : goal.returns-then-assign_integer-clause-runs
returns-then-assign_integer-clause-runs g c held restoring fast =
    let none : c.args.global.now.num_operations + (2 - 2) ≡ c.args.global.now.num_operations = omega arith in
    let charged = c.assign_integer.ensures.charged c.if-assign_integer.true in
    rw (c.put_unit.ensures, charged) ((rw (none, charged) at
    c.assign_integer.ensures.runs c.if-assign_integer.true held restoring c.args.global.now.scope_level fast))
