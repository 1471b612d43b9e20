use Rattle.std.proofs.Common.{refl}
use Rattle.rhai_tables.specs.OddLaw.{nothing_leaves}
use Rattle.rhai_tables.proofs.tables.odd.OddNativeTablePair.call_numbered.Goals as goal

pub returns-in-Some-clause-obeys : goal.returns-in-Some-clause-obeys
returns-in-Some-clause-obeys c = rw (c.in-Some.is, c.answer_no_native.ensures.first, c.answer_no_native.ensures.reply) refl

pub returns-in-Some-clause-no_handle : goal.returns-in-Some-clause-no_handle
returns-in-Some-clause-no_handle c = rw (c.in-Some.is, c.answer_no_native.ensures.first) (rw c.in-Some.is at c.requires)

pub returns-in-Some-clause-leaves : goal.returns-in-Some-clause-leaves
returns-in-Some-clause-leaves c = rw (c.in-Some.is, c.answer_no_native.ensures.first) (nothing_leaves _ _ _)

pub returns-in-None-clause-leaves : goal.returns-in-None-clause-leaves
returns-in-None-clause-leaves c = rw c.in-None.is (nothing_leaves _ _ _)
