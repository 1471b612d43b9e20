use Rattle.std.specs.Prelude.{◌≡◌, length}
use Rattle.rhai_machine.specs.language.Cases.{results_of}
use Rattle.rhai_stmt.specs.Candidates.{numbers_left}
use Rattle.rhai_stmt.proofs.choices.Candidates.next.Given as goal

abbrev pub invariant-each_number : goal.invariant-each_number
invariant-each_number l = results_of l.results (numbers_left l.initial.self) ≡ results_of l.results (numbers_left l.self)

abbrev pub decreases-each_number : goal.decreases-each_number
decreases-each_number l = length (numbers_left l.self)
