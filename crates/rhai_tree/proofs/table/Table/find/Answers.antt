use Rattle.std.proofs.Common.{sym, ◌∙◌}
use Rattle.rhai_tree.proofs.LookupLemmas.{paired_same}
use Rattle.rhai_tree.proofs.table.Table.find.Goals as goal

pub returns-clause-paired : goal.returns-clause-paired
returns-clause-paired g c = paired_same c.args.self.now (sym c.len-as_many.ensures.keys ∙ c.len-as_many.ensures.values)
