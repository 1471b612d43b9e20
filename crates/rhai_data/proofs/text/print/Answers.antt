use Rattle.std.proofs.Common.{◌≡◌, None}
use Rattle.rhai_values.specs.Copy.{copy_of}
use Rattle.rhai_steps.specs.Sessions.{under}
use Rattle.rhai_steps.proofs.Pieces.{passed}
use Rattle.rhai_data.proofs.TextSteps.{failed_out_of_memory, print_runs_out, print_called}
use Rattle.rhai_data.proofs.text.print.Goals as goal

pub returns-in_err-first-clause-runs : goal.returns-in_err-first-clause-runs
returns-in_err-first-clause-runs g c scope held =
    let rules = under g.H.Host.name_of c.args.session.now g.T.NativeTable.natives in
    rw (passed _ c.from_residual.ensures)
    (print_runs_out rules c.args.value.now c.args.pos _ _ (failed_out_of_memory _ _ c.in_err-first.ensures))

pub returns-clause-runs : goal.returns-clause-runs
returns-clause-runs g c scope held =
    let rules = under g.H.Host.name_of c.args.session.now g.T.NativeTable.natives in
    let is = c.in_ok-first.ensures tt in
    let copied : c.in_ok-first.first ≡ copy_of c.args.value.now = cc in
    print_called rules c.args.value.now c.args.pos _ _ c.call_native-outcome.result c.printed.result
    (rw (copied, c.as_slice-rest.ensures, c.new-rest.ensures) at (c.call_native-outcome.ensures.runs scope held None tt))
    c.printed.ensures
