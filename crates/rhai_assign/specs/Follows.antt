-- An update, from where its built-in operator is tried.
use Rattle.std.specs.Prelude.{List, Option, IfSome}
use Rattle.rhai_tree.specs.declared.position.Position.{Position}
use Rattle.rhai_values.specs.declared.base.value.Dynamic.{Dynamic}
use Rattle.rhai_errors.specs.declared.error.EvalAltResult.TheVariants as error
use Rattle.rhai_errors.specs.Native.{Reply}
use Rattle.rhai_operators.specs.Answers.{op_assign_of}
use Rattle.rhai_machine.specs.language.Setting.{Rules, Setting}
use Rattle.rhai_machine.specs.language.State.{State, Local}
use Rattle.rhai_machine.specs.language.Frames.{Update, Frame, Core, core, AskUpdate, Fail}
use Rattle.rhai_machine.specs.language.Assignment.{answered_core, if_fast, update_core}
use Rattle.rhai_machine.specs.language.Runs.{Goes, Steps}

module _ {H : Type 0} (s : Setting H) where
  -- its built-in operator is tried
  abbrev pub updates : Update H → List (Frame H) → Local H → Core H
  updates u k l = update_core s (op_assign_of u.operator u.target u.operand) u k l

  -- it is asked whether that is tried at all
  abbrev pub tries : Update H → List (Frame H) → Local H → Core H
  tries u k l = update_core s (if_fast s.offer.fast_operators (op_assign_of u.operator u.target u.operand)) u k l

module _ {S H : Type 0} (rules : Rules S H) where
  -- a native was asked for an update and left a value in the target: the machine comes to its answer, and may run out of memory too
  pub record Asked (u : Update H) (old : State S H) (answer : Option (Reply H)) (left : Dynamic H) (new : State S H) : Type 0 where
    pub answered : IfSome answer (λ reply. Goes rules (core (AskUpdate u)) old
        (answered_core rules.setting u.attempt reply (record u { target = left })) new)
    pub out_in_native : (pos : Position) → Steps rules (AskUpdate u) old (Fail (error.ErrorOutOfMemory pos)) new
