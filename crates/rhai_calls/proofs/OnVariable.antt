-- A call on a variable that comes first: once what it passes is told, the call goes on.
use Rattle.std.proofs.Common.{◌≡◌, Bool, not, List, Result, Ok, Err, sym, subst}
use Rattle.rhai_values.specs.declared.base.value.Dynamic.{Dynamic}
use Rattle.rhai_errors.specs.declared.error.EvalAltResult.{EvalAltResult}
use Rattle.rhai_machine.specs.machine.Memory.{Leads}
use Rattle.rhai_machine.specs.language.Setting.{Rules, globals_of, cut}
use Rattle.rhai_machine.specs.language.State.{State}
use Rattle.rhai_machine.specs.language.Variables.{Variable}
use Rattle.rhai_machine.specs.language.Frames.{Operation, Dispatch, Call, ToCallOn, on_value}
use Rattle.rhai_machine.specs.language.Calls.{dispatch_core}
use Rattle.rhai_machine.specs.language.Arguments.{arguments_there, call_on}
use Rattle.rhai_machine.specs.language.Language.{machine}
use Rattle.rhai_machine.specs.language.Runs.{with_core, Goes}
use Rattle.rhai_calls.specs.Called.{came_out, Outcome}

module _ {S H : Type 0} (rules : Rules S H) where
  module _ (operation : Operation) (variable : Variable) (how : Dispatch) (args : List (Dynamic H)) (old : State S H) where
    -- what the call is
    abbrev pub asked : Result (Call H) (EvalAltResult H)
    asked = call_on (globals_of rules.setting.offer) old.local.around old.local.scope operation variable args

    pub on_called : (call : Call H) → asked ≡ Ok call →
        (called : Outcome H) (new : State S H) →
        Goes rules (dispatch_core rules.setting how call) old (came_out (not how.on_scope) call.operation.at called) new →
        Goes rules (arguments_there rules.setting (ToCallOn operation variable how) args) old
        (came_out (not how.on_scope) call.operation.at called) new
    unfolding Goes
    on_called call is called new runs k =
        subst (λ (x : Result (Call H) (EvalAltResult H)).
        Leads (machine rules) (cut rules)
        (with_core (on_value x (λ (c : Call H). dispatch_core rules.setting how c k old.local) k old.local) old)
        (with_core (came_out (not how.on_scope) call.operation.at called k new.local) new))
        (sym is) (runs k)
