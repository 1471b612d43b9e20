-- A beginning of a part of a walk that is the same as another.
use Rattle.std.proofs.Common.{◌≡◌, Bool, List, Result, sym, subst}
use Rattle.rhai_values.specs.declared.base.value.Dynamic.{Dynamic}
use Rattle.rhai_errors.specs.declared.error.EvalAltResult.{EvalAltResult}
use Rattle.rhai_machine.specs.language.Setting.{Rules, cut}
use Rattle.rhai_machine.specs.language.State.{Local, State}
use Rattle.rhai_machine.specs.language.Frames.{Frame, Core, ended_or_changed, core}
use Rattle.rhai_machine.specs.language.Runs.{at, with_core, Goes}
use Rattle.rhai_machine.specs.machine.Memory.{Leads}
use Rattle.rhai_machine.specs.language.Language.{machine}
use Rattle.rhai_steps.specs.Follows.{Follows, Does, FindsNoMemory}

module _ {S H : Type 0} (rules : Rules S H) (start other : List (Frame H) → Local H → Core H) (old new : State S H)
    (r : Result (Dynamic H × Bool) (EvalAltResult H)) (same : (k : List (Frame H)) → other k old.local ≡ start k old.local) where
  -- it leads to the same
  pub begins_alike : Goes rules start old (core (ended_or_changed r)) new → Goes rules other old (core (ended_or_changed r)) new
  unfolding Goes
  begins_alike runs k =
      subst (λ (c : Core H). Leads (machine rules) (cut rules) (with_core c old) (at (ended_or_changed r) k new)) (sym (same k)) (runs k)

  pub follows_alike : Follows rules ended_or_changed start old r new → Follows rules ended_or_changed other old r new
  follows_alike (Does runs) = Does (begins_alike runs)
  follows_alike (FindsNoMemory pos is stays) = FindsNoMemory pos is stays
