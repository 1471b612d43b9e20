use Rattle.std.proofs.Common.{ap, sym, ◌∙◌, map}
use Rattle.rhai_tree.specs.Frame.{all_resolve, resolves_stmt}
use Rattle.rhai_tree.specs.WellFormed.{faults_in_statements, faults_in_functions}
use Rattle.rhai_tree.specs.Names.{Frame}
use Rattle.rhai_check.proofs.Refused.{later_stands}
use Rattle.rhai_check.proofs.Scopes.{above_none}
use Rattle.rhai_check.proofs.check.check_tree.Goals as goal

pub returns-in_err-functions-clause-refused : goal.returns-in_err-functions-clause-refused
returns-in_err-functions-clause-refused c =
    later_stands _ (faults_in_statements c.args.statements) (faults_in_functions c.args.functions) _ _
    c.from_residual-in_err-functions.ensures c.in_err-functions.ensures.refused

pub new-requires-clause-resolves : goal.new-requires-clause-resolves
new-requires-clause-resolves c base =
    ap (λ (frame : Frame). (all_resolve (map resolves_stmt c.args.statements) frame).0) (sym (above_none base))
    ∙ ap (λ p. p.0) (rw (c.as_slice.ensures, c.new-declared.ensures) at (c.in_ok-check_statements.ensures.resolved base))

pub returns-clause-refused : goal.returns-clause-refused
returns-clause-refused c = tt

pub returns-clause-unformed : goal.returns-clause-unformed
returns-clause-unformed c = tt

pub returns-clause-memory : goal.returns-clause-memory
returns-clause-memory c = tt
