-- Values as the rules look at them.
use Rattle.std.specs.Prelude.{ℕ, Bool, true, false, List, [], Option, Some, None, Result, Ok, Err, codes}
use Rattle.rhai_machine.specs.Types.{Dynamic, EvalAltResult, Position, Union}
use Rattle.rhai_values.specs.declared.base.value.Union.TheVariants as value
use Rattle.rhai_errors.specs.declared.error.EvalAltResult.TheVariants as error
use Rattle.rhai_errors.specs.Errors.{mismatch}
use Rattle.rhai_values.specs.Cells.{value_of_cell}
use Rattle.rhai_values.specs.Copy.{copy_of, plain}
use Rattle.rhai_values.specs.TypeNames.{type_name_of}

-- the store: the value of each cell, None where it is held
abbrev pub Cells : Type 0 → Type 0
Cells H = List (Option (Dynamic H))

module _ {H : Type 0} where
  -- the value `()`, read-write
  abbrev pub unit_value : Dynamic H
  unit_value = plain value.Unit

  -- a truth value, read-write
  abbrev pub bool_value : Bool → Dynamic H
  bool_value b = plain (value.Bool b)

  -- a bare handle of a cell
  abbrev pub is_handle : Union H → Bool
  is_handle (value.Cell id) = true
  is_handle _ = false

  -- a plain truth value
  abbrev pub is_truth : Union H → Bool
  is_truth (value.Bool b) = true
  is_truth _ = false

  -- a cell's value as it is used; where the cell is held, a data race under this name
  abbrev pub used : List ℕ → Position → Option (Dynamic H) → Result (Dynamic H) (EvalAltResult H)
  used name at (Some v) = Ok v
  used name at None = Err (error.ErrorDataRace name at)

  -- a copy of the value that a result has; an error stays
  abbrev pub copied : Result (Dynamic H) (EvalAltResult H) → Result (Dynamic H) (EvalAltResult H)
  copied (Ok v) = Ok (copy_of v)
  copied (Err e) = Err e

  -- a value taken off its handle, by its kind: of a handle a copy of the cell's value, and anything else as it is
  abbrev pub flat_union : Cells H → Union H → Dynamic H → Position → Result (Dynamic H) (EvalAltResult H)
  flat_union cells (value.Cell id) v at = copied (used [] at (value_of_cell cells id.number))
  flat_union cells _ v at = Ok v

  -- a value taken off its handle; where its cell is held, a data race at this position
  abbrev pub flat : Cells H → Dynamic H → Position → Result (Dynamic H) (EvalAltResult H)
  flat cells v at = flat_union cells v.value v at

  -- a value looked at through its handle, by its kind: of a handle the cell's value itself, and anything else as it is
  abbrev pub through_union : Cells H → Union H → Dynamic H → Position → Result (Dynamic H) (EvalAltResult H)
  through_union cells (value.Cell id) v at = used [] at (value_of_cell cells id.number)
  through_union cells _ v at = Ok v

  -- a value looked at through its handle, without a copy; where its cell is held, a data race at this position
  abbrev pub through : Cells H → Dynamic H → Position → Result (Dynamic H) (EvalAltResult H)
  through cells v at = through_union cells v.value v at

  -- the truth value that a value is, by its kind; any other kind is a mismatch
  abbrev pub truth_union : (H → List ℕ) → Cells H → Union H → Dynamic H → Position → Result Bool (EvalAltResult H)
  truth_union host cells (value.Bool b) v at = Ok b
  truth_union host cells _ v at = Err (mismatch (codes "bool") (type_name_of host cells v) at)

  -- the truth value that a value is as it was seen through a handle; an error stays
  abbrev pub truth_seen : (H → List ℕ) → Cells H → Position → Result (Dynamic H) (EvalAltResult H) → Result Bool (EvalAltResult H)
  truth_seen host cells at (Ok v) = truth_union host cells v.value v at
  truth_seen host cells at (Err e) = Err e

  -- the truth value that a condition gave, through a handle
  abbrev pub truth : (H → List ℕ) → Cells H → Dynamic H → Position → Result Bool (EvalAltResult H)
  truth host cells v at = truth_seen host cells at (through cells v at)
