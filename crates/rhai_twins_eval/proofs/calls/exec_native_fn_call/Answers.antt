use Rattle.std.proofs.Common.{Some, ap, refl, ◌∙◌}
use Rattle.std.specs.Option.{option_copied}
use Rattle.rhai_machine.specs.language.Frames.{Ask, Operation, core}
use Rattle.rhai_eval.specs.Places.{on_place, with_place}
use Rattle.rhai_eval.specs.States.{under}
use Rattle.rhai_twins_eval.proofs.Once.{changed_once}
use Rattle.rhai_twins_eval.proofs.Starts.{same_start}
use Rattle.rhai_twins_eval.proofs.calls.exec_native_fn_call.Goals as goal

pub returns-clause-run : goal.returns-clause-run
returns-clause-run g c = let one = c.exec_native_fn_call in let other = c.exec_native_fn_call-2 in let a = c.args in
    let operation : Operation = record { name = a.name.now; token = option_copied a.op_token; at = a.position } in
    λ scope this. changed_once (under g.H.Host.name_of c.args.engine.now g.T.NativeTable.natives) _ _ _ _ _ _ one.result other.result
    (ap (λ x. λ k l. core (Ask (on_place operation
    a.is_ref_mut (Some x) a.rest.now)) k l) c.requires.first
    ∙ ap (λ x. λ k l. core (Ask (on_place operation
    a.is_ref_mut (Some a.also_first.now) x)) k l) c.requires.rest)
    (same_start c.requires.table c.requires.global refl (ap (λ x. with_place this (Some x)) c.requires.first))
    (one.ensures.ends scope this) (other.ensures.ends scope this)
