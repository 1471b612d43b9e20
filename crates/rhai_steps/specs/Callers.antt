-- The state of a caller, as a run of it would have it: what the definitions of States and Agreement say of that.
use Rattle.rhai_state.specs.declared.scope.Scope.{Scope}
use Rattle.rhai_state.specs.declared.state.GlobalRuntimeState.{GlobalRuntimeState}
use Rattle.rhai_lookups.specs.Runs.{run_of}
use Rattle.rhai_machine.specs.language.State.{Surroundings, Held, Local, State}
use Rattle.rhai_tree.specs.Names.{Frame}
use Rattle.rhai_steps.specs.Agreement as run
use Rattle.rhai_steps.specs.Agreement.{Sight, Test}
use Rattle.rhai_steps.specs.States as states

module _ {H : Type 0} where
  -- libraries, imports, constants and their tables, level, modules loaded, source and cells
  abbrev pub surroundings_of : GlobalRuntimeState H → Surroundings H
  surroundings_of global = states.surroundings_of (run_of global)

  -- what the rules read and change
  abbrev pub local_of : GlobalRuntimeState H → Scope H → Held H → Local H
  local_of global scope held = states.local_of (run_of global) scope held

  -- what a checker knows of this state
  abbrev pub sight_of : GlobalRuntimeState H → Sight
  sight_of global = run.sight_of (run_of global)

  -- the frame of a state and a scope
  abbrev pub frame_of : GlobalRuntimeState H → Scope H → Frame
  frame_of global scope = run.frame_of (run_of global) scope

  -- a test agrees with the frame of a state and a scope
  abbrev pub AgreesAt : GlobalRuntimeState H → Scope H → Test → Type 0
  AgreesAt global scope test = run.AgreesAt (run_of global) scope test

-- all that a run changes
abbrev pub state_of : {S H : Type 0} → S → GlobalRuntimeState H → Scope H → Held H → State S H
state_of table global scope held = states.state_of table (run_of global) scope held
