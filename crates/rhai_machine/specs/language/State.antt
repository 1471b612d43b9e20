-- What a run reads and changes.
use Rattle.std.specs.Prelude.{◌≡◌, ⊤, ℕ, ◌+◌, ◌-◌, ◌^◌, min, List, Option, Result, Ok, Err, false}
use Rattle.rhai_machine.specs.Types.{Dynamic, EvalAltResult, Module, ScopeEntry}
use Rattle.rhai_values.specs.declared.base.value.Import.{Import}
use Rattle.rhai_errors.specs.Errors.{is_out_of_memory}

-- What surrounds the variables: the libraries, the imports, the number of the current table of constants and all these tables, how deep the
-- calls are, how many modules are loaded, the source's name, and the cells, each with its value or none where it is held.
pub record Surroundings (H : Type 0) : Type 0 where
  pub lib : List (Module H)
  pub imports : List (Import H)
  pub constants : ℕ
  pub constant_tables : List (List (List ℕ) × List (Dynamic H))
  pub level : ℕ
  pub num_modules_loaded : ℕ
  pub source : Option (List ℕ)
  pub cells : List (Option (Dynamic H))

-- what a run has in hand beside its variables: `this`, and the focus of its chain
pub record Held (H : Type 0) : Type 0 where
  pub this : Option (Dynamic H)
  pub focus : Option (Dynamic H)

-- What the rules of the language read and change: the variables, `this`, the focus, how deep the restoring lists are, and what surrounds
-- them. The focus is what a chain's link works on: a temporary, or a copy that goes back to its place.
pub record Local (H : Type 0) : Type 0 where
  pub scope : List (ScopeEntry H)
  pub this : Option (Dynamic H)
  pub focus : Option (Dynamic H)
  pub scope_level : ℕ
  pub around : Surroundings H

-- all that a run changes: the table's state, the count of charges, and what the rules see
pub record State (S H : Type 0) : Type 0 where
  pub table : S
  pub count : ℕ
  pub local : Local H

-- one level deeper, up to the greatest level
abbrev pub deeper : ℕ → ℕ
deeper level = min (level + 1) (2 ^ 64 - 1)

-- a result that is not the error that memory ran out
abbrev pub HasMemory : {A H : Type 0} → Result A (EvalAltResult H) → Type 0
HasMemory (Ok v) = ⊤
HasMemory (Err e) = is_out_of_memory e ≡ false

-- the result is this one, unless memory ran out
abbrev pub Answers : {A H : Type 0} → Result A (EvalAltResult H) → Result A (EvalAltResult H) → Type 0
Answers result wanted = HasMemory result → result ≡ wanted
