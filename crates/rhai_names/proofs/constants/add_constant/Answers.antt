use Rattle.std.proofs.Common.{ap}
use Rattle.rhai_names.proofs.Tables.{set_again}
use Rattle.rhai_names.proofs.constants.add_constant.Goals as goal

pub returns-in-Err-clause-same : goal.returns-in-Err-clause-same
returns-in-Err-clause-same g c = ap (λ tables. record c.args.global.now { constant_tables = tables })
    (set_again c.args.global.now.constant_tables c.args.global.now.constants c.at_mut.result.now c.insert.new.self c.in-Err.ensures.err
    c.at_mut.ensures.value)
