-- What a host is told of a call that begins where a rule leads.
use Rattle.std.proofs.Common.{◌≡◌, Bool, List, [], Result, length}
use Rattle.rhai_tree.specs.declared.expr.Expr.{Expr}
use Rattle.rhai_values.specs.declared.base.value.Dynamic.{Dynamic}
use Rattle.rhai_errors.specs.declared.error.EvalAltResult.{EvalAltResult}
use Rattle.rhai_machine.specs.language.Setting.{Rules}
use Rattle.rhai_machine.specs.language.State.{Local, State}
use Rattle.rhai_machine.specs.language.Frames.{Core, Frame, Operation, ended, core}
use Rattle.rhai_machine.specs.language.Arguments.{keyword_of}
use Rattle.rhai_machine.specs.language.Runs.{Goes}
use Rattle.rhai_laws.specs.Kept.{Kept, names_of}
use Rattle.rhai_laws.proofs.KeptCalls.{function_keeps}
use Rattle.rhai_laws.proofs.KeptLaws.{kept_from, names_stay_from}
use Rattle.rhai_laws.proofs.ScriptMemory.{runs_up_to_memory, steps_with_memory}
use Rattle.rhai_eval_steps.specs.Calls.{called}
use Rattle.rhai_eval.specs.Ends.{EndsFrom}

module _ {S H : Type 0} (rules : Rules S H) (operation : Operation) (args : List Expr) (captures : Bool) where
  -- where the call begins
  abbrev begins : List (Frame H) → Local H → Core H
  begins = called operation args captures

  module _ (old new : State S H) (r : Result (Dynamic H) (EvalAltResult H)) (starts : Goes rules begins old (core (ended r)) new) where
    -- a run from there is the end of the call
    pub ends_from : EndsFrom rules begins old r new
    unfolding Goes
    ends_from = record {
      runs = λ memory k. steps_with_memory rules r k new memory (starts k);
      up_to = λ k. runs_up_to_memory rules (starts k);
    }

    -- and keeps what every run keeps
    pub call_kept : Kept rules old new
    unfolding Goes
    call_kept = kept_from rules (begins [] old.local) (ended r) old new
        (λ a. function_keeps a (keyword_of operation.token operation.name (length args)) operation args captures [] old.local) (starts [])

    -- the names of the variables among it
    pub call_names : names_of new.local ≡ names_of old.local
    unfolding Goes
    call_names = names_stay_from rules (begins [] old.local) (ended r) old new
        (λ a. function_keeps a (keyword_of operation.token operation.name (length args)) operation args captures [] old.local) (starts [])
