-- A call that lends no argument: it ends, or enters a function of a script with its arguments.
use Rattle.std.specs.Prelude.{Bool, List}
use Rattle.rhai_tree.specs.declared.position.Position.{Position}
use Rattle.rhai_values.specs.declared.base.value.Dynamic.{Dynamic}
use Rattle.rhai_functions.specs.declared.function.Function.{Function}
use Rattle.rhai_machine.specs.language.State.{Local}
use Rattle.rhai_machine.specs.language.Activations.{NoThis}
use Rattle.rhai_machine.specs.language.Frames.{EnterFunction, Frame, Core, core, ended}
use Rattle.rhai_machine.specs.language.Calls.{entry_of}
use Rattle.rhai_calls.specs.declared.dispatch.Called.{Called}
use Rattle.rhai_calls.specs.declared.dispatch.Called.TheVariants.{Ended, Enters}

-- what a call comes to: its end, or a function with its arguments
abbrev pub Outcome : Type 0 → Type 0
Outcome H = Called (Dynamic H) (Function H × List (Dynamic H)) H

module _ {H : Type 0} where
  -- the arguments of a function stand in a list
  abbrev pub with_args : Called (Dynamic H) (Function H) H → List (Dynamic H) → Outcome H
  with_args (Ended r) args = Ended r
  with_args (Enters function) args = Enters (function, args)

  -- the result comes back, or the function is entered, which has variables of its own or not
  abbrev pub came_out : (is_fresh : Bool) → Position → Outcome H → List (Frame H) → Local H → Core H
  came_out is_fresh at (Ended r) k l = core (ended r) k l
  came_out is_fresh at (Enters (function, args)) k l = core (EnterFunction (entry_of function NoThis is_fresh args at l)) k l
