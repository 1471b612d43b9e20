use Rattle.std.proofs.Common.{rules}
use Rattle.rhai_tables.proofs.OddLemmas.{gives_copy}
use Rattle.rhai_tables.proofs.tables.odd.Odd.give.Goals as goal

pub returns-in-Ok : goal.returns-in-Ok
returns-in-Ok c = search (rules, gives_copy)
