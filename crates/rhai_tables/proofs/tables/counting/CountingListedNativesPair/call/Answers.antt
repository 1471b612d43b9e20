use Rattle.rhai_tables.proofs.PairLemmas.{answered, counter_stays}
use Rattle.rhai_tables.proofs.tables.counting.CountingListedNativesPair.call.Goals as goal

pub returns-in-Pairs-clause-response : goal.returns-in-Pairs-clause-response
returns-in-Pairs-clause-response c = rw c.in-Pairs.is (answered _ _ _ c.call_pair.ensures)

pub returns-in-Pairs-clause-state : goal.returns-in-Pairs-clause-state
returns-in-Pairs-clause-state c had = rw c.in-Pairs.is (counter_stays _ _)
