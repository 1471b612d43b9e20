use Rattle.std.proofs.Common.{Some, true, false, ap, refl, ◌∙◌, length, replicate, sym}
use Rattle.rhai_machine.specs.language.Values.{unit_value as unit}
use Rattle.std.specs.Option.{option_copied}
use Rattle.rhai_machine.specs.language.Calls.{dispatch_core}
use Rattle.rhai_machine.specs.language.Frames.{Operation}
use Rattle.rhai_machine.specs.language.Setting.{Rules}
use Rattle.rhai_eval.specs.Places.{by_name, by_value}
use Rattle.rhai_eval.specs.States.{under}
use Rattle.rhai_twins_eval.proofs.Once.{changed_once}
use Rattle.rhai_twins_eval.proofs.Starts.{same_start}
use Rattle.rhai_twins_eval.proofs.calls.exec_fn_call_by_value.Goals as goal

pub returns-clause-run : goal.returns-clause-run
returns-clause-run g c = let one = c.exec_fn_call in let other = c.exec_fn_call-2 in let a = c.args in
    let rules : Rules _ _ = under g.H.Host.name_of a.engine.now g.T.NativeTable.natives in
    let operation : Operation = record { name = a.name.now; token = option_copied a.op_token; at = a.position } in
    λ held. changed_once rules _ _ _ _ _ _ one.result other.result
    (ap (λ x. dispatch_core rules.setting (by_name false true) (by_value operation (Some x) a.rest.now)) c.requires.first
    ∙ ap (λ x. dispatch_core rules.setting (by_name false true) (by_value operation (Some a.also_first.now) x)) c.requires.rest)
    (same_start c.requires.table c.requires.global c.requires.scope refl)
    (one.ensures.by_value a.scope.now held refl) (other.ensures.by_value a.scope.now held refl)

pub returns-clause-rest : goal.returns-clause-rest
returns-clause-rest g c = c.exec_fn_call.ensures.rest ∙ ap (λ xs. replicate (length xs) unit) c.requires.rest
    ∙ sym c.exec_fn_call-2.ensures.rest

pub returns-clause-first : goal.returns-clause-first
returns-clause-first g c = let one = c.exec_fn_call.ensures.taken refl in let other = c.exec_fn_call-2.ensures.taken refl in cc

pub returns-clause-on : goal.returns-clause-on
returns-clause-on g c same = c.exec_fn_call.ensures.caches.on ∙ same ∙ sym c.exec_fn_call-2.ensures.caches.on
