-- How a condition is told: by the frame that asks for its truth value.
use Rattle.std.specs.Prelude.{◌≡◌, Bool, List, Option, Some, None, Result, Ok, Err}
use Rattle.rhai_tree.specs.declared.position.Position.{Position}
use Rattle.rhai_tree.specs.declared.expr.Expr.{Expr}
use Rattle.rhai_tree.specs.Positions.{position_of}
use Rattle.rhai_errors.specs.declared.error.EvalAltResult.{EvalAltResult}
use Rattle.rhai_machine.specs.language.Setting.{Setting, Rules}
use Rattle.rhai_machine.specs.language.State.{Local, State}
use Rattle.rhai_machine.specs.language.Values.{bool_value}
use Rattle.rhai_machine.specs.language.Frames.{Frame, Core, core, core_over, Eval, Fail, IfCondition, AndPart, OrPart, WhileCondition}
use Rattle.rhai_machine.specs.language.Frames.{DoCondition}
use Rattle.rhai_machine.specs.language.Frames.{SwitchCondition}
use Rattle.rhai_machine.specs.language.Runs.{Goes}
use Rattle.rhai_machine.specs.language.Unwinding.{up_core}

module _ {H : Type 0} where
  -- where a frame asks for a truth value
  abbrev pub asks_truth : Frame H → Option Position
  asks_truth (IfCondition test_at body branch) = Some test_at
  asks_truth (AndPart part_at rest) = Some part_at
  asks_truth (OrPart part_at rest) = Some part_at
  asks_truth (WhileCondition test body) = Some (position_of test)
  asks_truth (DoCondition test body options) = Some (position_of test)
  asks_truth (SwitchCondition candidate rest default) = Some (position_of candidate.condition)
  asks_truth _ = None

  -- a truth value comes up to a frame, or an error passes it
  abbrev pub told_truth : Setting H → Frame H → Result Bool (EvalAltResult H) → List (Frame H) → Local H → Core H
  told_truth s f (Ok holds) k l = up_core s f (bool_value holds) k l
  told_truth s f (Err e) k l = core (Fail e) k l

-- from a condition, over a frame that asks for its truth value, to what that frame does with it
unfoldable pub Tests : {S H : Type 0} → Rules S H → Expr → State S H → Result Bool (EvalAltResult H) → State S H → Type 0
Tests {S} {H} rules test old result new = (f : Frame H) → asks_truth f ≡ Some (position_of test) →
    Goes rules (core_over (Eval test) f) old (told_truth rules.setting f result) new
