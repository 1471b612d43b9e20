use Rattle.std.proofs.Common.{rules}
use Rattle.rhai_tables.proofs.OddLemmas.{keeps_copy}
use Rattle.rhai_tables.proofs.tables.odd.Odd.keep.Goals as goal

pub returns-in-Ok : goal.returns-in-Ok
returns-in-Ok c = search (rules, keeps_copy)
