use Rattle.rhai_tables.specs.Bench.{name_of}
use Rattle.rhai_tables.specs.BenchLaw.{odd_leaves}
use Rattle.rhai_tables.proofs.tables.bench.BenchTable.call_alone.Goals as goal

pub returns-in-Odd-clause-leaves : goal.returns-in-Odd-clause-leaves
returns-in-Odd-clause-leaves c = rw c.in-Odd.is (odd_leaves name_of _ _ _ _ c.answer_alone-in-Odd.ensures.leaves)
