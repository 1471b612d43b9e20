-- What a variable means, by name alone: an entry of the scope, or a temporary value.
use Rattle.std.specs.Prelude.{ℕ, List, [], ◌∷◌, Option, Some, None, Result, Ok, Err, slice_get}
use Rattle.std.specs.Option.{option_map, option_or, unwrap_or}
use Rattle.rhai_machine.specs.Types.{Dynamic, EvalAltResult, Module, Position, ScopeEntry, Union}
use Rattle.rhai_values.specs.declared.base.value.Union.TheVariants as value
use Rattle.rhai_errors.specs.declared.error.EvalAltResult.TheVariants as error
use Rattle.rhai_values.specs.Cells.{value_of_cell}
use Rattle.rhai_values.specs.Copy.{copy_of}
use Rattle.rhai_state.specs.Scope.{found, index_of}
use Rattle.rhai_functions.specs.Namespaces.{constant_among}
use Rattle.rhai_machine.specs.Qualified.{qualified}
use Rattle.rhai_machine.specs.language.Setting.{Globals}
use Rattle.rhai_machine.specs.language.State.{Surroundings}
use Rattle.rhai_machine.specs.language.Values.{Cells}
use Rattle.rhai_machine.specs.language.Functions.{meant_function}
use Rattle.rhai_machine.specs.language.Variables.{Variable}

-- what a variable means: an entry of the scope with its value, or a temporary value
pub data Meaning (H : Type 0) : Type 0 where
  AtEntry : (index : ℕ) → (v : Dynamic H) → Meaning H
  AsTemporary : (v : Dynamic H) → Meaning H

module _ {H : Type 0} where
  -- a variable that is a handle, by its cell: the handle itself, or a data race under the variable's name where the cell is held
  abbrev pub entered : List ℕ → Position → Dynamic H → Option (Dynamic H) → Result (Dynamic H) (EvalAltResult H)
  entered name at v (Some inner) = Ok v
  entered name at v None = Err (error.ErrorDataRace name at)

  -- the value of a variable, by its kind: the handle of a held cell is a data race under the variable's name
  abbrev pub looked_up : Cells H → List ℕ → Position → Union H → Dynamic H → Result (Dynamic H) (EvalAltResult H)
  looked_up cells name at (value.Cell id) v = entered name at v (value_of_cell cells id.number)
  looked_up cells name at _ v = Ok v

  -- the value of the variable that a name has, or the error that there is none
  abbrev pub variable_of : Cells H → List ℕ → Position → Option (Dynamic H) → Result (Dynamic H) (EvalAltResult H)
  variable_of cells name at (Some v) = looked_up cells name at v.value v
  variable_of cells name at None = Err (error.ErrorVariableNotFound name at)

  -- a value as that of an entry of the scope; an error stays
  abbrev pub of_entry : ℕ → Result (Dynamic H) (EvalAltResult H) → Result (Meaning H) (EvalAltResult H)
  of_entry index (Ok v) = Ok (AtEntry index v)
  of_entry index (Err e) = Err e

  -- a value as a temporary; an error stays
  abbrev pub temporary : Result (Dynamic H) (EvalAltResult H) → Result (Meaning H) (EvalAltResult H)
  temporary (Ok v) = Ok (AsTemporary v)
  temporary (Err e) = Err e

  -- a value, or the error that there is no such variable
  abbrev pub there_or_unknown : Option (Dynamic H) → List ℕ → Position → Result (Dynamic H) (EvalAltResult H)
  there_or_unknown (Some v) name at = Ok v
  there_or_unknown None name at = Err (error.ErrorVariableNotFound name at)

  -- what a name means that no entry has: a copy of the constant of a global module, or else a pointer to a function of the libraries
  abbrev pub without_entry : Globals H → List (Module H) → List ℕ → Option (Dynamic H)
  without_entry globals lib name =
      option_or (option_map copy_of (constant_among name globals.modules)) (meant_function lib name)

  -- the entry at an index with its value, or this meaning where there is no entry
  abbrev pub entry_or : Cells H → List ℕ → Position → Option ℕ → Option (Dynamic H) → (otherwise : Result (Meaning H) (EvalAltResult H)) →
      Result (Meaning H) (EvalAltResult H)
  entry_or cells name at (Some index) (Some v) otherwise = of_entry index (looked_up cells name at v.value v)
  entry_or cells name at _ _ otherwise = otherwise

  -- the current table of constants, empty where there is none
  abbrev pub own_constants : Surroundings H → List (List ℕ) × List (Dynamic H)
  own_constants around = unwrap_or (slice_get around.constant_tables around.constants) ([], [])

  module _ (globals : Globals H) (around : Surroundings H) where
    -- the value of a name that no entry has, by its path: behind one it is a constant of the module that the path leads to
    abbrev pub value_behind : (path : List (List ℕ)) → Variable → Result (Dynamic H) (EvalAltResult H)
    value_behind [] variable = there_or_unknown (without_entry globals around.lib variable.name) variable.name variable.at
    value_behind (root ∷ path) variable =
        qualified around.imports globals.named (own_constants around) (root ∷ path) variable.name variable.path.at

    -- the value of a variable that no entry of the scope has
    abbrev pub value_beside : Variable → Result (Dynamic H) (EvalAltResult H)
    value_beside variable = value_behind variable.path.names variable

  -- the index of the newest entry of a name that has no path
  abbrev pub entry_named : (path : List (List ℕ)) → List ℕ → List (ScopeEntry H) → Option ℕ
  entry_named [] name scope = index_of name scope
  entry_named (root ∷ path) name scope = None

  module _ (globals : Globals H) (around : Surroundings H) (scope : List (ScopeEntry H)) where
    -- what a variable means, by its path: without one its newest entry comes first, and behind one it is never an entry
    abbrev pub meant_behind : (path : List (List ℕ)) → Variable → Result (Meaning H) (EvalAltResult H)
    meant_behind [] variable = entry_or around.cells variable.name variable.at (index_of variable.name scope) (found variable.name scope)
        (temporary (value_behind globals around [] variable))
    meant_behind (root ∷ path) variable = temporary (value_behind globals around (root ∷ path) variable)

    -- what a variable means: an entry of the scope, a temporary value, or why it means nothing
    abbrev pub meant : Variable → Result (Meaning H) (EvalAltResult H)
    meant variable = meant_behind variable.path.names variable

  -- what reading gives: of an entry a read-write copy, of a temporary itself; a copied handle leads to the same cell
  abbrev pub read_of : Result (Meaning H) (EvalAltResult H) → Result (Dynamic H) (EvalAltResult H)
  read_of (Ok (AtEntry index v)) = Ok (copy_of v)
  read_of (Ok (AsTemporary v)) = Ok v
  read_of (Err e) = Err e

  -- the value of a variable as it is read
  abbrev pub read : Globals H → Surroundings H → List (ScopeEntry H) → Variable → Result (Dynamic H) (EvalAltResult H)
  read globals around scope variable = read_of (meant globals around scope variable)

  -- the value of `this`, or the error that it is not bound
  abbrev pub bound_this : Position → Option (Dynamic H) → Result (Dynamic H) (EvalAltResult H)
  bound_this at (Some v) = Ok v
  bound_this at None = Err (error.ErrorUnboundThis at)
