-- A call of a function that a pointer is linked to.
use Rattle.std.specs.Prelude.{◌≡◌, ⊤, List, Err, if◌then◌else◌}
use Rattle.rhai_tree.specs.declared.position.Position.{Position}
use Rattle.rhai_values.specs.declared.base.value.Dynamic.{Dynamic}
use Rattle.rhai_errors.specs.declared.error.EvalAltResult.TheVariants as error
use Rattle.rhai_functions.specs.declared.function.Function.{Function}
use Rattle.rhai_machine.specs.language.State.{HasMemory}
use Rattle.rhai_machine.specs.language.Values.{Cells}
use Rattle.rhai_machine.specs.language.Calls.{races}
use Rattle.rhai_calls.specs.declared.dispatch.Called.TheVariants.{Ended, Enters}
use Rattle.rhai_calls.specs.Called.{Outcome}

module _ {H : Type 0} where
  -- a call did not end because memory ran out
  abbrev pub CallHasMemory : Outcome H → Type 0
  CallHasMemory (Ended r) = HasMemory r
  CallHasMemory (Enters entered) = ⊤

  -- what came of a call is this, unless memory ran out
  abbrev pub Comes : Outcome H → Outcome H → Type 0
  Comes outcome wanted = CallHasMemory outcome → outcome ≡ wanted

  -- the function is entered, unless an argument is the handle of a cell that is held
  abbrev pub linked_call : Cells H → Function H → List (Dynamic H) → Position → Outcome H
  linked_call cells function args at =
      if races cells args then Ended (Err (error.ErrorDataRace function.def.name at)) else Enters (function, args)
