use Rattle.std.proofs.Common.{Some, false, ap, refl, ◌∙◌}
use Rattle.rhai_machine.specs.language.Members.{set_core}
use Rattle.rhai_eval.specs.Places.{with_place}
use Rattle.rhai_eval.specs.Indexing.{item_by}
use Rattle.rhai_eval.specs.States.{under}
use Rattle.rhai_twins_eval.proofs.Once.{changed_once}
use Rattle.rhai_twins_eval.proofs.Starts.{same_start}
use Rattle.rhai_twins_eval.proofs.calls.call_indexer_set.Goals as goal

pub returns-clause-run : goal.returns-clause-run
returns-clause-run g c = let one = c.call_indexer_set in let other = c.call_indexer_set-2 in let a = c.args in
    λ scope this. changed_once (under g.H.Host.name_of c.args.engine.now g.T.NativeTable.natives) _ _ _ _ _ _ one.result other.result
    (ap (λ x. set_core false (item_by x a.pos a.is_ref_mut) a.new_val.now) c.requires.index
    ∙ ap (λ x. set_core false (item_by a.also_index.now a.pos a.is_ref_mut) x) c.requires.new_val)
    (same_start c.requires.table c.requires.global refl (ap (λ x. with_place this (Some x)) c.requires.object))
    (one.ensures.ends scope this) (other.ensures.ends scope this)
