use Rattle.rhai_index.proofs.Reached.{may_stay}
use Rattle.rhai_index.proofs.indexers.call_indexer.Goals as goal

pub returns-then-barred-clause-reached : goal.returns-then-barred-clause-reached
returns-then-barred-clause-reached g c = may_stay _ _ _ _ _ _ _ _ c.requires
