use Rattle.std.proofs.Common.{◌≤◌}
use Rattle.rhai_rows.proofs.command.run_scripts.Given as goal

-- so far the status is that of an ending
abbrev pub invariant-loop-script : goal.invariant-loop-script
invariant-loop-script g l = l.status ≤ 2
