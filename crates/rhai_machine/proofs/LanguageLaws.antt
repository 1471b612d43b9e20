-- What the laws ask of a language: a refused charge only unwinds, and no run goes on for ever without a charge.
use Rattle.std.proofs.Common.{refl}
use Rattle.std.specs.Prelude.{◌≡◌, true, false, List, [], ◌∷◌, Result, Ok, Err}
use Rattle.rhai_tree.specs.declared.position.Position.{Position}
use Rattle.rhai_values.specs.declared.base.value.Dynamic.{Dynamic}
use Rattle.rhai_errors.specs.declared.error.EvalAltResult.{EvalAltResult}
use Rattle.rhai_errors.specs.declared.error.EvalAltResult.TheVariants as error
use Rattle.rhai_machine.specs.machine.Machine.{Halt}
use Rattle.rhai_machine.specs.machine.Unwinding.{Passes, Unwinds}
use Rattle.rhai_machine.specs.machine.Point.{Point, Reaches}
use Rattle.rhai_machine.specs.machine.Settling.{Settles}
use Rattle.rhai_machine.specs.language.Setting.{Rules, cut, limit_under}
use Rattle.rhai_machine.specs.language.State.{Local, State}
use Rattle.rhai_machine.specs.language.Frames.{Control, Frame, Core, NewValue, Member, Property, Item, MemberAccess, MemberGot, ended, Fail}
use Rattle.rhai_machine.specs.language.Frames.{CallEnd, Top}
use Rattle.rhai_machine.specs.language.Unwinding.{down_core, got_none}
use Rattle.rhai_machine.specs.language.Language.{move_at, machine}
use Rattle.rhai_machine.specs.language.Limits.{IsRefused}
use Rattle.rhai_machine.specs.language.Runs.{at}
use Rattle.rhai_machine.specs.language.Laws.{IsNeverCaught, CutFollows, CutOrSame, CutEnds, HigherLimit, HigherLimitOfSteps}
use Rattle.rhai_machine.specs.machine.Laws.{OneEnd, LimitsAgree}
use Rattle.rhai_machine.proofs.Runs.{one_end_law}
use Rattle.rhai_machine.proofs.Limits.{only_unwinds, follows_law, without_limit_law}
use Rattle.rhai_machine.proofs.Sizes.{size}
use Rattle.rhai_machine.proofs.Falls.{falls}
use Rattle.rhai_machine.proofs.Ends.{settles_by, ends, two_limits_law, limits_agree}

module _ {S H : Type 0} (rules : Rules S H) where
  -- a refused charge is no absence of an indexer
  member_passes : (member : Member H) (access : MemberAccess H) (new : NewValue H) (at : Position) (k : List (Frame H)) (l : Local H) →
      IsRefused (got_none rules.setting false member (error.ErrorTooManyOperations at) access new k l)
  member_passes (Property name pos) access new at k l = (at, refl)
  member_passes (Item index) access new at k l = (at, refl)

  -- the error of a refused charge passes each frame
  frame_passes : (frame : Frame H) (at : Position) (k : List (Frame H)) (l : Local H) →
      IsRefused (down_core rules.setting frame (error.ErrorTooManyOperations at) k l)
  frame_passes (Top true) at k l = (at, refl)
  frame_passes (Top false) at k l = (at, refl)
  frame_passes (CallEnd exit) at k l = (exit.at, refl)
  frame_passes (MemberGot access root new) at k l = member_passes access.member access new at k l
  frame_passes _ at k l = (at, refl)

  passes : (at : Position) (k : List (Frame H)) (l : Local H) →
      Passes IsRefused (move_at rules.setting (Fail (error.ErrorTooManyOperations at)) k l)
  passes at [] l = tt
  passes at (frame ∷ k) l = frame_passes frame at k l

  refused_passes : (c : Control H) (at : Position) → c ≡ Fail (error.ErrorTooManyOperations at) → (k : List (Frame H)) (l : Local H) →
      Passes IsRefused (move_at rules.setting c k l)
  refused_passes c at is k l = rw is (passes at k l)

  pub unwinds : Unwinds (machine rules) IsRefused
  unwinds = record {
    refuses = λ at c. (at, refl);
    stays = λ c is. refused_passes c.control is.0 is.1 c.stack c.local;
  }

module _ {S H : Type 0} (rules : Rules S H) where
  -- no run goes on for ever without a charge
  pub settles : (c : Core H) → Settles (machine rules) c
  settles c = settles_by (machine rules) size (falls rules.setting) c

  -- the machine halts where a result has come back to an empty stack
  result_halts : (r : Result (Dynamic H) (EvalAltResult H)) (l : Local H) → move_at rules.setting (ended r) [] l ≡ Halt
  result_halts (Ok v) l = refl
  result_halts (Err e) l = refl

  -- a run that is told in steps from any start to how it ended, under two limits
  pub limits_agree_from : {p : Point S (Core H)} (r : Result (Dynamic H) (EvalAltResult H)) (new : State S H) →
      Reaches (machine rules) (cut rules) p (at (ended r) [] new) →
      LimitsAgree (machine rules) IsRefused (limit_under rules) p (at (ended r) [] new)
  limits_agree_from r new steps =
      limits_agree (machine rules) IsRefused (unwinds rules) settles (limit_under rules) steps (result_halts r new.local)

  -- the same from a control with nothing below it
  pub script_limits_agree : (c : Control H) (old new : State S H) (r : Result (Dynamic H) (EvalAltResult H)) →
      Reaches (machine rules) (cut rules) (at c [] old) (at (ended r) [] new) →
      LimitsAgree (machine rules) IsRefused (limit_under rules) (at c [] old) (at (ended r) [] new)
  script_limits_agree c old new r steps = limits_agree_from r new steps

  pub one_end_of_scripts : OneEnd (machine rules)
  one_end_of_scripts = one_end_law (machine rules)

  pub never_caught : IsNeverCaught rules
  never_caught allows c a is run = only_unwinds (machine rules) IsRefused (unwinds rules) allows is run

  pub cut_follows : CutFollows rules
  cut_follows = follows_law (machine rules) IsRefused (unwinds rules)

  pub cut_or_same : CutOrSame rules
  cut_or_same = without_limit_law (machine rules) IsRefused (unwinds rules)

  pub cut_ends : CutEnds rules
  cut_ends = ends (machine rules) IsRefused (unwinds rules) settles

  pub higher_limit : HigherLimit rules
  higher_limit = two_limits_law (machine rules) IsRefused (unwinds rules) settles

  pub higher_limit_of_steps : HigherLimitOfSteps rules
  higher_limit_of_steps = script_limits_agree
