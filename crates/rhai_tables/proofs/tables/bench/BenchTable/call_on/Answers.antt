use Rattle.rhai_tables.specs.Bench.{name_of}
use Rattle.rhai_tables.specs.BenchLaw.{counting_leaves, odd_leaves}
use Rattle.rhai_tables.proofs.tables.bench.BenchTable.call_on.Goals as goal

pub returns-in-Counting-clause-leaves : goal.returns-in-Counting-clause-leaves
returns-in-Counting-clause-leaves c = rw c.in-Counting.is (counting_leaves name_of _ _ _ _ c.answer_on.ensures.leaves)

pub returns-in-Odd-clause-leaves : goal.returns-in-Odd-clause-leaves
returns-in-Odd-clause-leaves c = rw c.in-Odd.is (odd_leaves name_of _ _ _ _ c.answer_on-in-Odd.ensures.leaves)
