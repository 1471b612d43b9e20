-- A method on a target: what comes of its answer.
use Rattle.std.proofs.Common.{◌≡◌, Bool, true, false, List, ◌∷◌, Option, Some, None, Result, Ok, Err, refl, sym, ap, subst}
use Rattle.rhai_tree.specs.declared.position.Position.{Position}
use Rattle.rhai_values.specs.declared.base.value.Dynamic.{Dynamic}
use Rattle.rhai_errors.specs.declared.error.EvalAltResult.{EvalAltResult}
use Rattle.rhai_errors.specs.declared.error.EvalAltResult.TheVariants as error
use Rattle.rhai_spots.specs.declared.spot.Spot.{Spot}
use Rattle.rhai_spots.specs.declared.part.Part.TheVariants as part
use Rattle.rhai_spots.specs.PutBack.{put_back, IsNotPut}
use Rattle.rhai_machine.specs.machine.Machine.{Go}
use Rattle.rhai_machine.specs.machine.Memory.{here, out_before_step, ◌⨾◌, Leads}
use Rattle.rhai_machine.specs.language.Setting.{Rules, cut}
use Rattle.rhai_machine.specs.language.State.{State}
use Rattle.rhai_machine.specs.language.Frames.{Frame, core, ended_or_changed, Back, Changed, Fail, PartMethod}
use Rattle.rhai_machine.specs.language.Members.{focused_on}
use Rattle.rhai_machine.specs.language.Methods.{Method, method_core}
use Rattle.rhai_machine.specs.language.Runs.{at, Goes}
use Rattle.rhai_machine.specs.language.Unwinding.{put_back_error, part_changed}
use Rattle.rhai_machine.specs.language.Language.{machine}
use Rattle.rhai_steps.proofs.Pieces.{step_by}
use Rattle.rhai_calls.specs.Targets.{ComesBack, on_target}

module _ {S H : Type 0} (rules : Rules S H) where
  -- a state where this is worked on
  abbrev working : Dynamic H → State S H → State S H
  working v s = record s { local = focused_on (Some v) s.local }

  module _ (above x : Dynamic H) (spot : Spot) (pos : Position) (k : List (Frame H)) (s : State S H) where
    -- the stack while a method works on a part
    abbrev over : List (Frame H)
    over = PartMethod above spot pos ∷ k

    -- a part that may have changed goes back
    goes_back : (v left : Dynamic H) → put_back above spot x ≡ Some left →
        Leads (machine rules) (cut rules) (at (Changed v) over (working x s)) (at (Changed v) k (working left s))
    goes_back v left is = step_by rules _ _ (Go (core (Changed v) k (focused_on (Some left) s.local)))
        (ap (λ (whole : Option (Dynamic H)). Go (part_changed rules.setting whole above spot pos v k (working x s).local)) is) here

    -- an error comes down, and the place is as it was
    comes_down : (e : EvalAltResult H) →
        Leads (machine rules) (cut rules) (at (Fail e) over (working x s)) (at (Fail e) k (working above s))
    comes_down e = step_by rules _ _ (Go (core (Fail e) k (focused_on (Some above) s.local))) refl here

    -- and so it is where a value comes up that tells of no change
    comes_up : (v : Dynamic H) → Leads (machine rules) (cut rules) (at (Back v) over (working x s)) (at (Back v) k (working above s))
    comes_up v = step_by rules _ _ (Go (core (Back v) k (focused_on (Some above) s.local))) refl here

    not_back : (v : Dynamic H) → put_back above spot x ≡ None →
        Leads (machine rules) (cut rules) (at (Changed v) over (working x s))
        (at (Fail (put_back_error rules.setting spot x pos)) k (working above s))
    not_back v is = step_by rules _ _ (Go (core (Fail (put_back_error rules.setting spot x pos)) k (focused_on (Some above) s.local)))
        (ap (λ (whole : Option (Dynamic H)). Go (part_changed rules.setting whole above spot pos v k (working x s).local)) is) here

    -- and where a part is not taken back
    is_refused : (v : Dynamic H) (e : EvalAltResult H) → IsNotPut rules.setting.host_type above spot x pos e →
        Leads (machine rules) (cut rules) (at (Changed v) over (working x s)) (at (Fail e) k (working above s))
    is_refused v (error.ErrorOutOfMemory p) is = out_before_step {at = p} (comes_down (error.ErrorOutOfMemory p))
    is_refused v e is = rw (is refl).1 (not_back v (is refl).0)

    -- the answer of a method on a part, also of a function that it entered
    pub answer_comes : (answer result : Result (Dynamic H × Bool) (EvalAltResult H)) (left : Dynamic H) →
        ComesBack rules.setting.host_type (part.Of spot x) above pos answer result left →
        Leads (machine rules) (cut rules) (at (ended_or_changed answer) over (working x s))
        (at (ended_or_changed result) k (working left s))
    answer_comes (Ok (v, true)) (Ok w) left is =
        subst (λ (y : Dynamic H × Bool).
        Leads (machine rules) (cut rules) (at (Changed v) over (working x s)) (at (ended_or_changed (Ok y)) k (working left s)))
        (sym is.0)
        (goes_back v left is.1)
    answer_comes (Ok (v, true)) (Err e) left is =
        subst (λ (y : Dynamic H). Leads (machine rules) (cut rules) (at (Changed v) over (working x s)) (at (Fail e) k (working y s)))
        (sym is.0)
        (is_refused v e is.1)
    answer_comes (Ok (v, false)) result left is = rw (is.0, is.1) (comes_up v)
    answer_comes (Err e) result left is = rw (is.0, is.1) (comes_down e)

  -- a method on a part that has ended, with what comes of its answer
  pub part_goes : (method : Method) (args : List (Dynamic H)) (spot : Spot) (above x y left : Dynamic H) (old new : State S H)
      (answer result : Result (Dynamic H × Bool) (EvalAltResult H)) →
      Goes rules (method_core rules.setting method args x) (working x old) (core (ended_or_changed answer)) (working y new) →
      ComesBack rules.setting.host_type (part.Of spot y) above method.at answer result left →
      Goes rules (on_target rules.setting method args (part.Of spot x) above) (working x old) (core (ended_or_changed result))
      (working left new)
  unfolding Goes
  part_goes method args spot above x y left old new answer result runs comes k =
      runs (PartMethod above spot method.at ∷ k) ⨾ answer_comes above y spot method.at k new answer result left comes
