-- A function of a script that is called: what it is entered with, and what its end takes back.
use Rattle.std.specs.Prelude.{ℕ, Bool, List, Option}
use Rattle.rhai_machine.specs.Types.{Dynamic, EncapsulatedEnviron, Position, ScopeEntry, ScriptFuncDef}

-- where a function's `this` comes from: there is none, it is the caller's own, or it is the focus
pub data ThisFrom : Type 0 where
  NoThis : ThisFrom
  OwnThis : ThisFrom
  TheFocus : ThisFrom

-- A function that is entered: its definition, its environment and its arguments, where its `this` comes from, whether it has variables of
-- its own, whether its list restores, the level that it runs at, and where the call stands.
pub record Entered (H : Type 0) : Type 0 where
  pub def : ScriptFuncDef
  pub environ : Option (EncapsulatedEnviron H)
  pub args : List (Dynamic H)
  pub object : ThisFrom
  pub is_fresh : Bool
  pub restores : Bool
  pub level : ℕ
  pub at : Position

-- what becomes of the variables at the end of a call: the caller's come back, all new ones go, or the parameters alone go
pub data Variables (H : Type 0) : Type 0 where
  Caller : List (ScopeEntry H) → Variables H
  UpTo : (length : ℕ) → Variables H
  Without : (length parameters : ℕ) → Variables H

-- What the end of a call takes back: the variables; `this` and the focus, each as it was or as the function leaves it; the libraries and
-- the imports up to these lengths; the table of constants, and the level. An error is wrapped under the function's name and its source, or
-- moved to the call.
pub record CallExit (H : Type 0) : Type 0 where
  pub variables : Variables H
  pub this : Option (Dynamic H)
  pub object : ThisFrom
  pub focus : Option (Dynamic H)
  pub lib_length : ℕ
  pub imports_length : ℕ
  pub constants : ℕ
  pub level : ℕ
  pub name : List ℕ
  pub source : List ℕ
  pub at : Position
