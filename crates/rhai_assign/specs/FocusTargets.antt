-- The focus of a chain and `this`, as they are assigned to.
use Rattle.std.specs.Prelude.{◌≡◌, false, Option, Some, None, Result, Ok, Err}
use Rattle.rhai_values.specs.declared.base.value.CellId.{CellId}
use Rattle.rhai_values.specs.declared.base.value.Dynamic.{Dynamic}
use Rattle.rhai_values.specs.Cells.{value_of_cell}
use Rattle.rhai_errors.specs.declared.error.EvalAltResult.{EvalAltResult}
use Rattle.rhai_errors.specs.Errors.{is_out_of_memory}
use Rattle.rhai_machine.specs.language.Values.{Cells, is_handle}
use Rattle.rhai_machine.specs.language.Places.{InCell, InThis, InFocus, Target, is_constant, target}

module _ {H : Type 0} where
  -- a value that is there and may be changed
  abbrev pub IsWritable : Option (Dynamic H) → Type 0
  IsWritable (Some v) = is_constant v.mode ≡ false
  IsWritable None = ⊥

  -- the target is a value that may be changed, in a cell that is not held
  pub record InOwnCell (id : CellId) (cells : Cells H) (wanted : Result (Target H) (EvalAltResult H)) : Type 0 where
    pub value : Dynamic H
    pub there : value_of_cell cells id.number ≡ Some value
    pub is : wanted ≡ Ok (target (InCell id.number) value)
    pub writable : is_constant value.mode ≡ false

  -- the target is the focus itself, which may be changed and is no handle
  pub record InItself (focus : Dynamic H) (wanted : Result (Target H) (EvalAltResult H)) : Type 0 where
    pub plain : is_handle focus.value ≡ false
    pub is : wanted ≡ Ok (target InFocus focus)

  -- where the target of a focus is: in a cell, or the focus itself; else the error is the machine's, unless memory ran out
  abbrev pub FindsFocus : Result (Option CellId) (EvalAltResult H) → Cells H → (focus : Dynamic H) → Result (Target H) (EvalAltResult H) →
      Type 0
  FindsFocus (Ok (Some id)) cells focus wanted = InOwnCell id cells wanted
  FindsFocus (Ok None) cells focus wanted = InItself focus wanted
  FindsFocus (Err e) cells focus wanted = is_out_of_memory e ≡ false → wanted ≡ Err e

module _ {H : Type 0} where
  -- the target is `this` itself, which may be changed and is no handle
  pub record IsThis (this : Dynamic H) (wanted : Result (Target H) (EvalAltResult H)) : Type 0 where
    pub plain : is_handle this.value ≡ false
    pub is : wanted ≡ Ok (target InThis this)

  -- where the target of an assignment to `this` is: in a cell, or `this` itself; else the error is the machine's, unless memory ran out
  abbrev pub FindsThis : Result (Option CellId) (EvalAltResult H) → Cells H → (this : Dynamic H) → Result (Target H) (EvalAltResult H) →
      Type 0
  FindsThis (Ok (Some id)) cells this wanted = InOwnCell id cells wanted
  FindsThis (Ok None) cells this wanted = IsThis this wanted
  FindsThis (Err e) cells this wanted = is_out_of_memory e ≡ false → wanted ≡ Err e
