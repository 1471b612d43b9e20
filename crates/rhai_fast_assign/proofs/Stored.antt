-- Steps of an assignment to `this` once its value is there.
use Rattle.std.proofs.Common.{◌≡◌, List, None, Result, refl}
use Rattle.rhai_tree.specs.declared.expr.OpAssignment.{OpAssignment}
use Rattle.rhai_tree.specs.declared.position.Position.{Position}
use Rattle.rhai_values.specs.declared.base.value.Dynamic.{Dynamic}
use Rattle.rhai_errors.specs.declared.error.EvalAltResult.{EvalAltResult}
use Rattle.rhai_errors.specs.declared.error.EvalAltResult.TheVariants as error
use Rattle.rhai_machine.specs.machine.Machine.{Go}
use Rattle.rhai_machine.specs.machine.Memory.{here, out_before_step, Leads}
use Rattle.rhai_machine.specs.language.Setting.{Rules, cut}
use Rattle.rhai_machine.specs.language.State.{State}
use Rattle.rhai_machine.specs.language.Assignment.{store_this}
use Rattle.rhai_machine.specs.language.Frames.{Frame, ended, Fail, StoreThis}
use Rattle.rhai_machine.specs.language.Runs.{at, Goes}
use Rattle.rhai_machine.specs.language.Language.{machine}
use Rattle.rhai_steps.proofs.Pieces.{step_by}
use Rattle.rhai_steps.specs.Follows.{Follows, Does, FindsNoMemory}

module _ {S H : Type 0} (rules : Rules S H) (op : OpAssignment) (pos : Position) (v : Dynamic H) (k : List (Frame H)) (s : State S H) where
  -- an assignment that is charged goes on
  pub this_stored : (r : Result (Dynamic H) (EvalAltResult H)) (new : State S H) →
      Follows rules ended (store_this rules.setting op pos v) s r new →
      Leads (machine rules) (cut rules) (at (StoreThis op pos v) k s) (at (ended r) k new)
  unfolding Goes
  this_stored r new (Does runs) = step_by rules _ _ (Go (store_this rules.setting op pos v k s.local)) refl (runs k)
  this_stored r new (FindsNoMemory p is same) = rw (is, same) (out_before_step {at = p} here)

  -- there is no `this` any more
  pub this_gone : s.local.this ≡ None →
      Leads (machine rules) (cut rules) (at (StoreThis op pos v) k s) (at (Fail (error.ErrorUnboundThis pos)) k s)
  this_gone none = step_by rules _ _ (Go (store_this rules.setting op pos v k s.local)) refl (rw none here)
