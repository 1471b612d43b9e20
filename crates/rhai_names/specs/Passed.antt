-- How a variable is passed that comes first.
use Rattle.std.specs.Prelude.{Bool, not, ◌&&◌, Result, Ok, Err}
use Rattle.rhai_tree.specs.declared.position.Position.{Position}
use Rattle.rhai_values.specs.declared.base.value.Dynamic.{Dynamic}
use Rattle.rhai_values.specs.Copy.{copy_of}
use Rattle.rhai_errors.specs.declared.error.EvalAltResult.{EvalAltResult}
use Rattle.rhai_machine.specs.language.Values.{Cells, flat, is_handle}
use Rattle.rhai_machine.specs.language.Names.{Meaning, AtEntry, AsTemporary}
use Rattle.rhai_machine.specs.language.Places.{is_constant}

module _ {H : Type 0} where
  -- a value that is lent from its entry: it is no constant and no handle
  abbrev pub is_lendable : Dynamic H → Bool
  is_lendable v = not (is_constant v.mode) && not (is_handle v.value)

  -- a value by itself is passed as a copy, a handle as one of its cell's value
  abbrev pub copy_passed : Cells H → Position → Result (Dynamic H) (EvalAltResult H) → Result (Dynamic H) (EvalAltResult H)
  copy_passed cells at (Ok v) = flat cells (copy_of v) at
  copy_passed cells at (Err e) = Err e

  -- and so is what a variable means, where nothing is lent
  abbrev pub meaning_passed : Cells H → Position → Result (Meaning H) (EvalAltResult H) → Result (Dynamic H) (EvalAltResult H)
  meaning_passed cells at (Ok (AtEntry index v)) = flat cells (copy_of v) at
  meaning_passed cells at (Ok (AsTemporary v)) = flat cells (copy_of v) at
  meaning_passed cells at (Err e) = Err e
