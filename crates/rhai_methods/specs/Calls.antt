-- The calls of a method, by a native's number or else by a name.
use Rattle.std.specs.Prelude.{ℕ, Bool, List, Option, Some, None, codes, false, true}
use Rattle.rhai_tree.specs.declared.literal.NativeId.{NativeId}
use Rattle.rhai_tree.specs.declared.position.Position.{Position}
use Rattle.rhai_values.specs.declared.base.value.Dynamic.{Dynamic}
use Rattle.rhai_machine.specs.language.Setting.{Setting}
use Rattle.rhai_machine.specs.language.State.{Local}
use Rattle.rhai_machine.specs.language.Frames.{Frame, Core}
use Rattle.rhai_machine.specs.language.Calls.{call_of, dispatch_core, plainly}
use Rattle.rhai_machine.specs.language.Arguments.{natives_alone, numbered_core, operation_named}
use Rattle.rhai_machine.specs.language.Methods.{as_method, numbered_on, on_focus}

module _ {H : Type 0} where
  -- a native by its number, with nothing lent
  abbrev pub number_alone : (number : ℕ) → Position → (args : List (Dynamic H)) → List (Frame H) → Local H → Core H
  number_alone number at args k l = numbered_core (record (call_of (operation_named (codes "call") at) args) { number = Some number }) k l

  module _ (s : Setting H) where
    -- a call by name with nothing lent, whose answer tells whether it changed its first argument
    abbrev pub named_alone : (name : List ℕ) → Position → (args : List (Dynamic H)) → List (Frame H) → Local H → Core H
    named_alone name at args k l =
        dispatch_core s (plainly (natives_alone name) false) (record (call_of (operation_named name at) args) { marks = true }) k l

    -- a call of a pointer itself: of a native by its number, or else by the pointer's name
    abbrev pub alone_by : Option NativeId → (name : List ℕ) → Position → (args : List (Dynamic H)) → List (Frame H) → Local H → Core H
    alone_by (Some id) name at args k l = number_alone id.number at args k l
    alone_by None name at args k l = named_alone name at args k l

    -- a call by name on the focus, where natives alone are asked or not
    abbrev pub named_on : (alone : Bool) → (name : List ℕ) → Position → (args : List (Dynamic H)) → (focus : Dynamic H) →
        List (Frame H) → Local H → Core H
    named_on alone name at args focus k l = dispatch_core s (as_method alone) (on_focus (operation_named name at) args focus) k l

    -- a call on the focus: of a native by its number under the name by which it was called, or else by the pointer's name
    abbrev pub on_by : Option NativeId → (called name : List ℕ) → Position → (args : List (Dynamic H)) → (focus : Dynamic H) →
        List (Frame H) → Local H → Core H
    on_by (Some id) called name at args focus k l = numbered_on id.number (operation_named called at) args focus k l
    on_by None called name at args focus k l = named_on (natives_alone name) name at args focus k l
