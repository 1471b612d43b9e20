-- Memory that runs out in the language: the error of it only unwinds, so up to it a run is the machine's own.
use Rattle.std.proofs.Common.{refl}
use Rattle.std.specs.Prelude.{◌≡◌, true, false, List, [], ◌∷◌, Result, Ok, Err}
use Rattle.rhai_tree.specs.declared.position.Position.{Position}
use Rattle.rhai_values.specs.declared.base.value.Dynamic.{Dynamic}
use Rattle.rhai_errors.specs.declared.error.EvalAltResult.{EvalAltResult}
use Rattle.rhai_errors.specs.declared.error.EvalAltResult.TheVariants as error
use Rattle.rhai_machine.specs.machine.Unwinding.{Passes}
use Rattle.rhai_machine.specs.machine.Point.{Point, Reaches}
use Rattle.rhai_machine.specs.machine.Memory.{MemoryUnwinds, Leads}
use Rattle.rhai_machine.specs.language.Setting.{Rules, cut}
use Rattle.rhai_machine.specs.language.State.{Local, State, HasMemory}
use Rattle.rhai_machine.specs.language.Frames.{Control, Frame, Core, ended, Fail, CallEnd, Top}
use Rattle.rhai_machine.specs.language.Unwinding.{down_core}
use Rattle.rhai_machine.specs.language.Language.{move_at, machine}
use Rattle.rhai_machine.specs.language.Memory.{IsOutOfMemory, UpToMemory}
use Rattle.rhai_machine.specs.language.Runs.{at}
use Rattle.rhai_laws.proofs.MemoryLaws.{straight, up_to}

module _ {S H : Type 0} (rules : Rules S H) where
  -- the error passes each frame
  frame_passes : (frame : Frame H) (at : Position) (k : List (Frame H)) (l : Local H) →
      IsOutOfMemory (down_core rules.setting frame (error.ErrorOutOfMemory at) k l)
  frame_passes (Top true) at k l = (at, refl)
  frame_passes (Top false) at k l = (at, refl)
  frame_passes (CallEnd exit) at k l = (exit.at, refl)
  frame_passes _ at k l = (at, refl)

  passes : (at : Position) (k : List (Frame H)) (l : Local H) →
      Passes IsOutOfMemory (move_at rules.setting (Fail (error.ErrorOutOfMemory at)) k l)
  passes at [] l = tt
  passes at (frame ∷ k) l = frame_passes frame at k l

  run_out_passes : (c : Control H) (at : Position) → c ≡ Fail (error.ErrorOutOfMemory at) → (k : List (Frame H)) (l : Local H) →
      Passes IsOutOfMemory (move_at rules.setting c k l)
  run_out_passes c at is k l = rw is (passes at k l)

  -- once memory has run out a core only unwinds
  pub memory_unwinds : MemoryUnwinds (machine rules) IsOutOfMemory
  memory_unwinds = record {
    begins = λ at c. (at, refl);
    stays = λ c is. run_out_passes c.control is.0 is.1 c.stack c.local;
  }

  had_memory : (r : Result (Dynamic H) (EvalAltResult H)) → HasMemory r → (at : Position) → ended r ≡ Fail (error.ErrorOutOfMemory at) → ⊥
  had_memory (Ok v) has at is = cc
  had_memory (Err e) has at is = let same : e ≡ error.ErrorOutOfMemory at = cc in let no : true ≡ false = rw same at has in cc

  -- where a run does not end out of memory, the machine takes its steps by itself
  pub steps_with_memory : {p : Point S (Core H)} (r : Result (Dynamic H) (EvalAltResult H)) (k : List (Frame H)) (new : State S H) →
      HasMemory r →
      Leads (machine rules) (cut rules) p (at (ended r) k new) → Reaches (machine rules) (cut rules) p (at (ended r) k new)
  steps_with_memory r k new has steps =
      straight (machine rules) (cut rules) IsOutOfMemory memory_unwinds steps (λ is. had_memory r has is.0 is.1)

  pub with_memory : {p : Point S (Core H)} (r : Result (Dynamic H) (EvalAltResult H)) (new : State S H) → HasMemory r →
      Leads (machine rules) (cut rules) p (at (ended r) [] new) → Reaches (machine rules) (cut rules) p (at (ended r) [] new)
  with_memory r new has steps = steps_with_memory r [] new has steps

  -- else it does so up to where memory runs out
  pub runs_up_to_memory : {p q : Point S (Core H)} → Leads (machine rules) (cut rules) p q → UpToMemory rules p q
  runs_up_to_memory steps = up_to (machine rules) (cut rules) IsOutOfMemory memory_unwinds steps
