use Rattle.std.proofs.Common.{sym, ◌∙◌}
use Rattle.rhai_eval.specs.Indexing.{access}
use Rattle.rhai_twins_eval.proofs.Targets.{index_once}
use Rattle.rhai_eval.specs.States.{limits_of}
use Rattle.rhai_twins_eval.proofs.lookups.get_indexed_mut.Goals as goal

pub returns-clause-result : goal.returns-clause-result
returns-clause-result g c = let one = c.get_indexed_mut in let other = c.get_indexed_mut-2 in let a = c.args in
    (index_once (limits_of a.engine.now) g.H.Host.name_of g.T.NativeTable.natives g.T.NativeTable.state
    (access a.engine.now a.idx_pos a.op_pos a.add_if_not_found) a.use_indexers _ _ _ _ _ _ _ _ _ _ _ _ _ _ one.result other.result
    c.requires.global c.requires.table c.requires.object c.requires.idx one.ensures.indexes other.ensures.indexes).0

pub returns-clause-global : goal.returns-clause-global
returns-clause-global g c = let one = c.get_indexed_mut in let other = c.get_indexed_mut-2 in let a = c.args in
    λ r_has s_has. (index_once (limits_of a.engine.now) g.H.Host.name_of g.T.NativeTable.natives g.T.NativeTable.state
    (access a.engine.now a.idx_pos a.op_pos a.add_if_not_found) a.use_indexers _ _ _ _ _ _ _ _ _ _ _ _ _ _ one.result other.result
    c.requires.global c.requires.table c.requires.object c.requires.idx one.ensures.indexes other.ensures.indexes).1.0

pub returns-clause-table : goal.returns-clause-table
returns-clause-table g c = let one = c.get_indexed_mut in let other = c.get_indexed_mut-2 in let a = c.args in
    (index_once (limits_of a.engine.now) g.H.Host.name_of g.T.NativeTable.natives g.T.NativeTable.state
    (access a.engine.now a.idx_pos a.op_pos a.add_if_not_found) a.use_indexers _ _ _ _ _ _ _ _ _ _ _ _ _ _ one.result other.result
    c.requires.global c.requires.table c.requires.object c.requires.idx one.ensures.indexes other.ensures.indexes).1.1

pub returns-clause-index : goal.returns-clause-index
returns-clause-index g c = let one = c.get_indexed_mut.ensures.indexes in let other = c.get_indexed_mut-2.ensures.indexes in
    one.index ∙ c.requires.idx ∙ sym other.index
