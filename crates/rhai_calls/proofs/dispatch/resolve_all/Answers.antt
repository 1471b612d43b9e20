use Rattle.std.proofs.Common.{List, false, sym, subst}
use Rattle.rhai_values.specs.declared.base.value.Dynamic.{Dynamic}
use Rattle.rhai_machine.specs.language.Frames.{Operation}
use Rattle.rhai_steps.specs.Operations.{operation_of}
use Rattle.rhai_steps.specs.Sessions.{offer_of}
use Rattle.rhai_steps.specs.States.{surroundings_of}
use Rattle.rhai_calls.specs.declared.dispatch.Seeks.{Seeks}
use Rattle.rhai_calls.specs.Dispatch.{ResolvesCall}
use Rattle.rhai_calls.proofs.Taking.{first_and_others}
use Rattle.rhai_calls.proofs.dispatch.resolve_all.Goals as goal

pub returns-in-len1-up-clause-resolves : goal.returns-in-len1-up-clause-resolves
returns-in-len1-up-clause-resolves g c =
    let seeks : Seeks = record { of_method = false; natives_alone = c.args.natives_alone } in
    let operation : Operation = operation_of c.args.operation.now in
    subst (λ (xs : List (Dynamic g.row.H.Denot)).
    ResolvesCall (offer_of c.args.session.now) (surroundings_of c.args.global.now) g.H.Host.name_of seeks operation xs c.resolve.result)
    (sym (first_and_others c.args.args.now c.first-item.result c.first-item.result c.in-len1-up.len_at_least c.first-item.is))
    (c.resolve.ensures.resolves)
