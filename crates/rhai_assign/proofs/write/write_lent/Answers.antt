use Rattle.rhai_machine.specs.language.Calls.{applied}
use Rattle.rhai_assign.proofs.Lent.{wrote_lent}
use Rattle.rhai_assign.proofs.write.write_lent.Goals as goal

pub returns-clause-written : goal.returns-clause-written
returns-clause-written g c place l memory k =
    rw c.unit_value.ensures (wrote_lent (applied c.args.session.now.limits c.args.outcome c.args.at) c.in_ok-new.new c.args.target.now
    c.replace.new.dest place k l (c.in_ok-new.ensures tt) c.replace.ensures.after)
