-- Pointers that are found in values, as copies.
use Rattle.std.specs.Prelude.{ℕ, List, Option, Result, Ok, Err, codes}
use Rattle.std.specs.Option.{option_map}
use Rattle.rhai_tree.specs.declared.position.Position.{Position}
use Rattle.rhai_values.specs.declared.base.value.Dynamic.{Dynamic}
use Rattle.rhai_values.specs.declared.base.value.FnPtr.{FnPtr}
use Rattle.rhai_values.specs.declared.base.value.FnPtrKind.TheOpen as union
use Rattle.rhai_values.specs.Copy.{copy_pointer}
use Rattle.rhai_values.specs.Layers.{UnionLayer, layer_of}
use Rattle.rhai_values.specs.TypeNames.{type_name_of}
use Rattle.rhai_errors.specs.declared.error.EvalAltResult.{EvalAltResult}
use Rattle.rhai_errors.specs.Errors.{mismatch}
use Rattle.rhai_machine.specs.language.Values.{Cells, through}
use Rattle.rhai_machine.specs.language.Methods.{entry_seen, own_in, own_seen, pointer_with}

module _ {H : Type 0} where
  -- a copy of the pointer that was found
  abbrev pub found_copy : Result (Option (FnPtr H)) (EvalAltResult H) → Result (Option (FnPtr H)) (EvalAltResult H)
  found_copy (Ok found) = Ok (option_map copy_pointer found)
  found_copy (Err e) = Err e

  -- of the pointer that a value is, through a handle
  abbrev pub copy_seen : Cells H → Dynamic H → Position → Result (Option (FnPtr H)) (EvalAltResult H)
  copy_seen cells v at = found_copy (own_seen (through cells v at))

  -- and of the one that a map has under a name
  abbrev pub own_copy : Cells H → (name : List ℕ) → Dynamic H → Position → Result (Option (FnPtr H)) (EvalAltResult H)
  own_copy cells name v at = found_copy (own_in cells (entry_seen name (through cells v at)) at)

  module _ (host : H → List ℕ) (cells : Cells H) (args : List (Dynamic H)) (at : Position) where
    -- a copy of a pointer with more arguments, and of what is none the mismatch
    abbrev pub curried_in : UnionLayer H → (seen : Dynamic H) → Result (Dynamic H) (EvalAltResult H)
    curried_in (union.FnPtr pointer) seen = Ok (pointer_with pointer args)
    curried_in _ seen = Err (mismatch (codes "Fn") (type_name_of host cells seen) at)

    -- a copy of the pointer that was seen through a handle, with more arguments, or why nothing was seen
    abbrev pub curried_seen : Result (Dynamic H) (EvalAltResult H) → Result (Dynamic H) (EvalAltResult H)
    curried_seen (Ok v) = curried_in (layer_of v) v
    curried_seen (Err e) = Err e
