use Rattle.std.proofs.Common.{Err}
use Rattle.rhai_twins_eval.proofs.Refused.{refused_once}
use Rattle.rhai_twins_eval.proofs.lookups.refused_index.Goals as goal

pub returns-in-Err-get_indexed_mut : goal.returns-in-Err-get_indexed_mut
returns-in-Err-get_indexed_mut g c = let a = c.args in
    let one = rw c.in-Err.is at c.get_indexed_mut.follows.holds-at-none in
    let other = rw c.in-Err-get_indexed_mut.is at c.get_indexed_mut-in-Err.follows.holds-at-none in
    refused_once a.session.now.limits g.H.Host.name_of g.T.NativeTable.natives g.T.NativeTable.state a.how
    a.use_indexers _ _ _ _ _ _ _ _ _ _ (Err _) (Err _) c.requires.global c.requires.table c.requires.object c.requires.idx one other
