use Rattle.std.specs.Prelude.{length, map}
use Rattle.rhai_tree.specs.Frame.{all_resolve, resolves_stmt}
use Rattle.rhai_steps.specs.Callers.{AgreesAt}
use Rattle.rhai_steps.specs.Agreement.{passes}
use Rattle.rhai_bench.proofs.entering.enter_list.Given as goal

-- the statements that are left may run
abbrev pub invariant-each_statement : goal.invariant-each_statement
invariant-each_statement l = AgreesAt l.host.global l.host.scope (passes (all_resolve (map resolves_stmt l.rest)))

abbrev pub decreases-each_statement : goal.decreases-each_statement
decreases-each_statement l = length l.rest
