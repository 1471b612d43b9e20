-- A method that is called on a value, and the parts of its call.
use Rattle.std.specs.Prelude.{◌≡◌, Bool, true, List, Err}
use Rattle.rhai_tree.specs.declared.position.Position.{Position}
use Rattle.rhai_errors.specs.Errors.{is_out_of_memory}
use Rattle.rhai_machine.specs.language.State.{Local}
use Rattle.rhai_machine.specs.language.Activations.{NoThis, TheFocus}
use Rattle.rhai_machine.specs.language.Frames.{EnterFunction, Frame, Core, core, ended_or_changed}
use Rattle.rhai_machine.specs.language.Calls.{entry_of}
use Rattle.rhai_values.specs.declared.base.value.Dynamic.{Dynamic}
use Rattle.rhai_calls.specs.declared.dispatch.Called.{Called}
use Rattle.rhai_calls.specs.declared.dispatch.Called.TheVariants.{Ended, Enters}
use Rattle.rhai_methods.specs.declared.calls.MethodEntry.{MethodEntry}
use Rattle.rhai_methods.specs.declared.calls.MethodEntry.TheVariants.{OnTarget, Alone}

-- what a method's call comes to: an answer that tells whether it changed the focus, or a function of a script
abbrev pub MethodCall : Type 0 → Type 0
MethodCall H = Called (Dynamic H × Bool) (MethodEntry H) H

module _ {H : Type 0} where
  -- what came of a method's call: its answer comes back with whether it changed the focus, or a function of a script is entered, on the
  -- focus or by itself
  abbrev pub came_from : Position → MethodCall H → List (Frame H) → Local H → Core H
  came_from at (Ended r) k l = core (ended_or_changed r) k l
  came_from at (Enters (OnTarget function args)) k l = core (EnterFunction (entry_of function TheFocus true args at l)) k l
  came_from at (Enters (Alone function args)) k l = core (EnterFunction (entry_of function NoThis true args at l)) k l

  -- a function is entered so, unless memory ran out
  abbrev pub IsEntered : MethodCall H → MethodEntry H → Type 0
  IsEntered (Ended (Err e)) wanted = is_out_of_memory e ≡ true
  IsEntered call wanted = call ≡ Enters wanted
