-- What a pointer's arguments are for.
use Rattle.std.specs.Prelude.{codes}
use Rattle.rhai_tree.specs.declared.position.Position.{Position}
use Rattle.rhai_machine.specs.language.Arguments.{operation_named}
use Rattle.rhai_machine.specs.language.Frames.{Purpose, ToCallFunction, ToCallNumber, ToCurry}
use Rattle.rhai_callees.specs.declared.pointers.PointerUse.{PointerUse}
use Rattle.rhai_callees.specs.declared.pointers.PointerUse.TheVariants as code

module _ {H : Type 0} where
  -- they are kept by it, or a function or a native is called with them
  abbrev pub purpose_of : PointerUse H → Position → Purpose H
  purpose_of (code.Curry pointer) at = ToCurry pointer
  purpose_of (code.Linked function curried) at = ToCallFunction function at curried
  purpose_of (code.Number id curried) at = ToCallNumber id.number (operation_named (codes "call") at) curried
