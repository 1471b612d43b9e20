use Rattle.std.specs.Prelude.{◌≡◌, drop}
use Rattle.rhai_machine.specs.language.Cases.{by_cases}
use Rattle.rhai_stmt.proofs.choices.case_numbers.Given as goal

abbrev pub invariant-each_case : goal.invariant-each_case
invariant-each_case g l = by_cases l.value l.cases ≡ by_cases l.value (drop l.case-index l.cases)
