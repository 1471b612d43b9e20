-- What a method does with a pointer that it has found: it is called with what it has already before the arguments, the function that it is
-- linked to, a native by its number, or else its name.
use Rattle.std.specs.Prelude.{◌≡◌, ℕ, true, false, List, ◌++◌, length, Option, Some, None, Result, Ok, Err}
use Rattle.rhai_tree.specs.declared.position.Position.{Position}
use Rattle.rhai_values.specs.declared.base.value.Dynamic.{Dynamic}
use Rattle.rhai_values.specs.declared.base.value.FnPtr.{FnPtr, out-FnPtr}
use Rattle.rhai_errors.specs.declared.error.EvalAltResult.{EvalAltResult}
use Rattle.rhai_errors.specs.declared.error.EvalAltResult.TheVariants as error
use Rattle.rhai_errors.specs.Errors.{is_out_of_memory}
use Rattle.rhai_functions.specs.declared.function.Function.{Function}
use Rattle.rhai_machine.specs.language.Setting.{Setting}
use Rattle.rhai_machine.specs.language.State.{Local}
use Rattle.rhai_machine.specs.language.Values.{Cells}
use Rattle.rhai_machine.specs.language.Activations.{NoThis, TheFocus}
use Rattle.rhai_machine.specs.language.Frames.{Frame, Core}
use Rattle.rhai_machine.specs.language.Calls.{races}
use Rattle.rhai_machine.specs.language.Arguments.{linked_core, linked_to}
use Rattle.rhai_call_forms.specs.Pointers.{native_number_of}
use Rattle.rhai_methods.specs.Calls.{alone_by, on_by}
use Rattle.rhai_calls.specs.declared.dispatch.Called.TheVariants.{Ended, Enters}
use Rattle.rhai_methods.specs.Methods.{MethodCall}
use Rattle.rhai_methods.specs.declared.calls.MethodEntry.{MethodEntry}

-- all that a pointer is called with
abbrev pub all_of : {H : Type 0} → FnPtr H → (args : List (Dynamic H)) → List (Dynamic H)
all_of {H} pointer args = (out-FnPtr H pointer).curry ++ args

module _ {H : Type 0} (s : Setting H) where
  -- a call of a pointer by itself: of the function that it is linked to, or else by its native's number or its name
  abbrev pub alone_as : Option (Function H) → FnPtr H → Position → (args : List (Dynamic H)) → List (Frame H) → Local H → Core H
  alone_as (Some function) pointer at args k l = linked_core function NoThis at (all_of pointer args) k l
  alone_as None pointer at args k l =
      alone_by s (native_number_of (out-FnPtr H pointer).kind) (out-FnPtr H pointer).name at (all_of pointer args) k l

  -- a call of a pointer by itself: the number of arguments and the libraries decide whether it is linked to a function
  abbrev pub alone_with : FnPtr H → Position → (args : List (Dynamic H)) → List (Frame H) → Local H → Core H
  alone_with pointer at args k l = alone_as (linked_to pointer (length (all_of pointer args)) l.around.lib) pointer at args k l

  -- a call of a pointer on the focus: of the function that it is linked to, or else by its native's number, under this name, or its name
  abbrev pub on_as : Option (Function H) → FnPtr H → (called : List ℕ) → Position → (args : List (Dynamic H)) → (focus : Dynamic H) →
      List (Frame H) → Local H → Core H
  on_as (Some function) pointer called at args focus k l = linked_core function TheFocus at (all_of pointer args) k l
  on_as None pointer called at args focus k l =
      on_by s (native_number_of (out-FnPtr H pointer).kind) called (out-FnPtr H pointer).name at (all_of pointer args) focus k l

  -- a call of a pointer on the focus: the number of arguments and the libraries decide whether it is linked to a function
  abbrev pub on_with : FnPtr H → (called : List ℕ) → Position → (args : List (Dynamic H)) → (focus : Dynamic H) → List (Frame H) →
      Local H → Core H
  on_with pointer called at args focus k l =
      on_as (linked_to pointer (length (all_of pointer args)) l.around.lib) pointer called at args focus k l

-- by which name a native's number is called: this one, or else the pointer's own
abbrev pub name_called : {H : Type 0} → FnPtr H → Option (List ℕ) → List ℕ
name_called {H} pointer (Some name) = name
name_called {H} pointer None = (out-FnPtr H pointer).name

module _ {H : Type 0} (cells : Cells H) (function : Function H) (all : List (Dynamic H)) (at : Position) where
  -- why a function that a pointer is linked to is not entered: an argument is the handle of a cell that is held, or memory ran out
  abbrev pub IsKeptOut : EvalAltResult H → Type 0
  IsKeptOut e = is_out_of_memory e ≡ false → (races cells all ≡ true) × (e ≡ error.ErrorDataRace function.def.name at)

  -- all that such a function gets, or why it is not entered
  abbrev pub AreLinked : Result (List (Dynamic H)) (EvalAltResult H) → Type 0
  AreLinked (Ok args) = (races cells all ≡ false) × (args ≡ all)
  AreLinked (Err e) = IsKeptOut e

  -- what came of its call: it is entered so, or why it is not
  abbrev pub IsLinked : (wanted : MethodEntry H) → MethodCall H → Type 0
  IsLinked wanted (Ended (Err e)) = IsKeptOut e
  IsLinked wanted call = (races cells all ≡ false) × (call ≡ Enters wanted)
