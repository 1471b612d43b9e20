-- A method on a target: how it ends, and what it keeps.
use Rattle.std.proofs.Common.{ℕ, Bool, List, [], ◌∷◌, Some, Result, Ok, Err, refl, subst}
use Rattle.rhai_tree.specs.declared.position.Position.{Position}
use Rattle.rhai_values.specs.declared.base.value.Dynamic.{Dynamic}
use Rattle.rhai_errors.specs.declared.error.EvalAltResult.{EvalAltResult}
use Rattle.rhai_spots.specs.declared.spot.Spot.{Spot}
use Rattle.rhai_spots.specs.declared.part.Part.{Part}
use Rattle.rhai_spots.specs.declared.part.Part.TheVariants as part
use Rattle.rhai_spots.specs.Targets.{shown}
use Rattle.rhai_machine.specs.language.Setting.{Setting, Rules}
use Rattle.rhai_machine.specs.language.State.{HasMemory, Local, State}
use Rattle.rhai_machine.specs.machine.Memory.{◌⨾◌}
use Rattle.rhai_machine.specs.language.Frames.{Core, Frame, ended_or_changed, PartMethod, core}
use Rattle.rhai_machine.specs.language.Members.{focused_on}
use Rattle.rhai_machine.specs.language.Methods.{Method, method_core}
use Rattle.rhai_machine.specs.language.Runs.{Goes}
use Rattle.rhai_laws.specs.Kept.{Kept}
use Rattle.rhai_laws.proofs.Keeping.{Asked, Keeps, calm, quiet, through}
use Rattle.rhai_laws.proofs.KeptLaws.{kept_from}
use Rattle.rhai_laws.proofs.KeptMethods.{method_keeps}
use Rattle.rhai_calls.specs.Targets.{ComesBack, on_target, frames_waiting}
use Rattle.rhai_calls.proofs.TargetLemmas.{answer_comes}
use Rattle.rhai_eval.specs.Ends.{EndsAlone, EndsChanged}
use Rattle.rhai_eval.proofs.ChangedCalls.{ends_changed}

module _ {H : Type 0} (a : Asked) where
  -- what waits for a part changes nothing of what is kept
  waiting_keeps : (what : Part H) (place : Dynamic H) (at : Position) (k : List (Frame H)) (l : Local H) →
      Keeps a (calm k l) (calm (frames_waiting what place at k) l)
  waiting_keeps part.Whole place at k l = quiet a tt refl (λ h. h)
  waiting_keeps (part.Temporary v) place at k l = quiet a tt refl (λ h. h)
  waiting_keeps (part.Of spot v) place at k l = quiet a tt refl (λ h. h)

  -- nor does where the method begins
  begin_keeps : (s : Setting H) (method : Method) (args : List (Dynamic H)) (what : Part H) (place : Dynamic H) (k : List (Frame H))
      (l : Local H) → Keeps a (calm k l) (on_target s method args what place k l)
  begin_keeps s method args what place k l = through a (waiting_keeps what place method.at k l)
      (method_keeps a s method args (shown what place) (frames_waiting what place method.at k) l)

module _ {S H : Type 0} (rules : Rules S H) (method : Method) (args : List (Dynamic H)) (what : Part H) (place : Dynamic H)
    (old new : State S H) (r : Result (Dynamic H × Bool) (EvalAltResult H))
    (runs : Goes rules (on_target rules.setting method args what place) old (core (ended_or_changed r)) new) where
  -- over any stack it ends as it runs
  pub target_ends : EndsChanged rules (on_target rules.setting method args what place) old r new
  unfolding Goes
  target_ends = ends_changed rules old new r (on_target rules.setting method args what place) runs

  -- and keeps what every run keeps
  pub target_kept : Kept rules old new
  unfolding Goes
  target_kept = kept_from rules (on_target rules.setting method args what place [] old.local) (ended_or_changed r) old new
      (λ a. begin_keeps a rules.setting method args what place [] old.local) (runs [])

module _ {S H : Type 0} (rules : Rules S H) (method : Method) (args : List (Dynamic H)) (spot : Spot) (above x y left : Dynamic H)
    (old new : State S H) where
  -- a state where this is worked on
  abbrev working : Dynamic H → State S H → State S H
  working v s = record s { local = focused_on (Some v) s.local }

  -- a method on a part runs with what comes of its answer
  pub part_runs : (answer result : Result (Dynamic H × Bool) (EvalAltResult H)) →
      Goes rules (method_core rules.setting method args x) (working x old) (core (ended_or_changed answer)) (working y new) →
      ComesBack rules.setting.host_type (part.Of spot y) above method.at answer result left →
      Goes rules (on_target rules.setting method args (part.Of spot x) above) (working x old) (core (ended_or_changed result))
      (working left new)
  unfolding Goes
  part_runs answer result runs comes k =
      runs (PartMethod above spot method.at ∷ k) ⨾ answer_comes rules above y spot method.at k new answer result left comes

-- ---- what the target's own value has become

-- an answer of which something came that had memory had it too
pub answer_memory : {H : Type 0} (host : H → List ℕ) (what : Part H) (place : Dynamic H) (pos : Position)
    (answer result : Result (Dynamic H × Bool) (EvalAltResult H)) (left : Dynamic H) → ComesBack host what place pos answer result left →
    HasMemory result → HasMemory answer
answer_memory host what place pos (Ok v) result left comes memory = tt
answer_memory host what place pos (Err e) result left comes memory =
    subst (λ (r : Result (Dynamic _ × Bool) (EvalAltResult _)). HasMemory r) comes.0 memory

-- a call that had memory comes to what it leaves with nothing behind it
pub alone : {S H : Type 0} (rules : Rules S H) (begins : List (Frame H) → Local H → Core H) (old new : State S H)
    (answer : Result (Dynamic H × Bool) (EvalAltResult H)) → Goes rules begins old (core (ended_or_changed answer)) new → HasMemory answer →
    EndsAlone rules begins old new
unfolding Goes
alone rules begins old new answer runs memory = (answer, (ends_changed rules old new answer begins runs).runs memory [])
