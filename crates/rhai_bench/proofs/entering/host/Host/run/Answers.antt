use Rattle.std.proofs.Common.{ap}
use Rattle.rhai_steps.specs.Agreement.{imports_in}
use Rattle.rhai_bench.proofs.EnteringLemmas.{leads_behind, ok_then}
use Rattle.rhai_bench.proofs.entering.host.Host.run.Goals as goal

pub returns : goal.returns
returns c = record {
  leads = ok_then c.eval_stmt.result
      (λ names none. leads_behind c.args.stmt.now _ names (ap imports_in (c.eval_stmt.ensures.imports none))
      c.eval_stmt.ensures.search none)
      c.eval_stmt.ensures.names;
}
