use Rattle.rhai_tables.proofs.tables.bench.BenchTableNativeTablePair.call_numbered.Goals as goal

pub returns-in-Some-clause-obeys : goal.returns-in-Some-clause-obeys
returns-in-Some-clause-obeys c = rw c.in-Some.is c.call_on.ensures.obeys

pub returns-in-Some-clause-no_handle : goal.returns-in-Some-clause-no_handle
returns-in-Some-clause-no_handle c = rw c.in-Some.is c.call_on.ensures.no_handle

pub returns-in-Some-clause-leaves : goal.returns-in-Some-clause-leaves
returns-in-Some-clause-leaves c = rw c.in-Some.is c.call_on.ensures.leaves
