use Rattle.std.proofs.Common.{Some, true, ap, refl}
use Rattle.rhai_machine.specs.language.Members.{get_core}
use Rattle.rhai_eval.specs.Places.{with_place}
use Rattle.rhai_eval.specs.Indexing.{item_by}
use Rattle.rhai_eval.specs.States.{under}
use Rattle.rhai_twins_eval.proofs.Once.{call_once}
use Rattle.rhai_twins_eval.proofs.Starts.{same_start}
use Rattle.rhai_twins_eval.proofs.calls.call_indexer_get.Goals as goal

pub returns-clause-run : goal.returns-clause-run
returns-clause-run g c = let one = c.call_indexer_get in let other = c.call_indexer_get-2 in let a = c.args in
    λ scope this. call_once (under g.H.Host.name_of c.args.engine.now g.T.NativeTable.natives) _ _ _ _ _ _ one.result other.result
    (ap (λ x. get_core (item_by x a.pos true)) c.requires.index)
    (same_start c.requires.table c.requires.global refl (ap (λ x. with_place this (Some x)) c.requires.object))
    (one.ensures.ends scope this) (other.ensures.ends scope this)
