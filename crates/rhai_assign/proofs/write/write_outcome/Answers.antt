use Rattle.rhai_assign.proofs.Places.{keeps_names}
use Rattle.rhai_assign.proofs.write.write_outcome.Goals as goal

pub returns-clause-names : goal.returns-clause-names
returns-clause-names g c =
    keeps_names c.args.place c.in_ok-value.value c.args.scope.now c.put.new.scope c.args.global.now.cells c.put.new.cells c.put.ensures
