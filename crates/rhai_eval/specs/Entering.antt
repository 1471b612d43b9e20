-- What a call by name comes to before a function of a script is entered by itself.
use Rattle.std.specs.Prelude.{⊤, Bool, List}
use Rattle.rhai_tree.specs.declared.position.Position.{Position}
use Rattle.rhai_machine.specs.language.State.{Local}
use Rattle.rhai_machine.specs.language.Activations.{NoThis, TheFocus}
use Rattle.rhai_machine.specs.language.Frames.{EnterFunction, Frame, Core, core, ended_or_changed}
use Rattle.rhai_machine.specs.language.Calls.{entry_of}
use Rattle.rhai_values.specs.declared.base.value.Dynamic.{Dynamic}
use Rattle.rhai_functions.specs.declared.function.Function.{Function}
use Rattle.rhai_calls.specs.declared.dispatch.Called.{Called}
use Rattle.rhai_calls.specs.declared.dispatch.Called.TheVariants.{Ended, Enters}
use Rattle.rhai_methods.specs.Methods.{MethodCall}
use Rattle.rhai_methods.specs.declared.calls.MethodEntry.TheVariants as entry

-- it enters no function on a value
abbrev pub IsByItself : {H : Type 0} → MethodCall H → Type 0
IsByItself (Enters (entry.OnTarget function args)) = ⊥
IsByItself call = ⊤

module _ {H : Type 0} (is_fresh : Bool) (at : Position) where
  -- its answer comes back with whether the first argument may have changed, or a function of a script is entered: on the value, or by
  -- itself, with variables of its own or on the caller's
  abbrev pub came_to : MethodCall H → List (Frame H) → Local H → Core H
  came_to (Ended r) k l = core (ended_or_changed r) k l
  came_to (Enters (entry.OnTarget function args)) k l = core (EnterFunction (entry_of function TheFocus is_fresh args at l)) k l
  came_to (Enters (entry.Alone function args)) k l = core (EnterFunction (entry_of function NoThis is_fresh args at l)) k l

  -- and so does a call that enters no method any more
  abbrev pub came_out : Called (Dynamic H × Bool) (Function H × List (Dynamic H)) H → List (Frame H) → Local H → Core H
  came_out (Ended r) k l = core (ended_or_changed r) k l
  came_out (Enters (function, args)) k l = core (EnterFunction (entry_of function NoThis is_fresh args at l)) k l
