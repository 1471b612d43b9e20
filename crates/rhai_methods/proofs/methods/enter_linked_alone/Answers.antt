use Rattle.std.proofs.Common.{List, ap}
use Rattle.rhai_values.specs.declared.base.value.Dynamic.{Dynamic}
use Rattle.rhai_calls.specs.declared.dispatch.Called.TheVariants.{Enters}
use Rattle.rhai_methods.specs.declared.calls.MethodEntry.TheVariants.{Alone}
use Rattle.rhai_methods.proofs.methods.enter_linked_alone.Goals as goal

pub returns-in-Ok : goal.returns-in-Ok
returns-in-Ok g c =
    (c.in-Ok.ensures.0, ap (λ (all : List (Dynamic _)). Enters (Alone c.args.function all)) c.in-Ok.ensures.1)

pub returns-in-Err : goal.returns-in-Err
returns-in-Err g c = c.in-Err.ensures
