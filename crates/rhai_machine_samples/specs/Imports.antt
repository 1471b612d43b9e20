-- Samples of `import`: which module is imported under which name, and how many are loaded then.
use Rattle.std.specs.Prelude.{ℕ, ◌+◌, ◌-◌, ◌^◌, List, [], ◌∷◌, Option, Some, None, Result, Ok, Err, codes}
use Rattle.rhai_machine.specs.Types.{Dynamic, EvalAltResult, Expr, Ident, Import, Module, Stmt}
use Rattle.rhai_tree.specs.declared.expr.Stmt.TheVariants as stmt
use Rattle.rhai_tree.specs.declared.token.Token.TheVariants.{Plus}
use Rattle.rhai_values.specs.declared.base.value.Union.TheVariants.{Str}
use Rattle.rhai_values.specs.Copy.{plain}
use Rattle.rhai_errors.specs.declared.error.EvalAltResult.TheVariants.{ErrorMismatchDataType, ErrorModuleNotFound, ErrorTooManyModules}
use Rattle.rhai_errors.specs.declared.error.EvalAltResult.TheVariants.{ErrorTooManyOperations, ErrorVariableNotFound}
use Rattle.rhai_state.specs.State.{import_as}
use Rattle.rhai_machine.specs.language.Setting.{Setting}
use Rattle.rhai_machine.specs.language.State.{Local}
use Rattle.rhai_machine_samples.specs.Trees.{column, ident, int, var, op, inner, braces, value, block}
use Rattle.rhai_machine_samples.specs.Data.{text}
use Rattle.rhai_machine_samples.specs.Runs.{Table, Ends, usual, usual_limits, nothing_but, unit}
use Rattle.rhai_machine_samples.specs.Handles.{one_cell}

-- `import` of a path, with or without an alias
abbrev pub import_ : (at : ℕ) → Expr → Option Ident → Stmt
import_ c path alias = stmt.Import path alias (column c)

-- `import "m" as n`
abbrev pub as_n : (at : ℕ) → Stmt
as_n c = import_ c (text (c + 7) (codes "m")) (Some (ident (c + 14) (codes "n")))

-- `import "m"`
abbrev pub unnamed : (at : ℕ) → Stmt
unnamed c = import_ c (text (c + 7) (codes "m")) None

-- `import q`, of a variable that is not there
abbrev pub unknown_path : List Stmt
unknown_path = import_ 1 (var 8 (codes "q")) None ∷ []

-- `import { import "m"; "m" } as n`
abbrev pub nested : List Stmt
nested = import_ 1 (inner (braces 8 26 (unnamed 10 ∷ value (text 22 (codes "m")) ∷ []))) (Some (ident 31 (codes "n"))) ∷ []

module _ {S H : Type 0} (table : Table S H) (host : H → List ℕ) (m other : Module H) (older : Import H) where
  -- an engine has two modules, and at most so many may be loaded
  abbrev pub offering : (most : ℕ) → Setting H
  offering most = record (usual host) {
    limits = record usual_limits { max_modules = most };
    offer = record ((usual host).offer) { modules = (codes "a" ∷ codes "m" ∷ [], other ∷ m ∷ []) };
  }

  -- a local state where so many modules are loaded, and these are imported
  abbrev pub importing_of : (loaded : ℕ) → List (Import H) → Local H → Local H
  importing_of loaded imports l =
      record l { around = record l.around { imports = imports; num_modules_loaded = loaded } }

  -- a local state without variables where so many modules are loaded, and these are imported
  abbrev pub with_loaded : (loaded : ℕ) → List (Import H) → Local H
  with_loaded loaded imports = importing_of loaded imports (nothing_but [])

  -- the module under this name
  abbrev pub named : List ℕ → Import H
  named name = import_as name m

  -- where so many may be and so many are loaded, and one is imported, the script comes to this result, and leaves so many and these
  abbrev pub EndsWith : (most : ℕ) → List Stmt → (loaded : ℕ) → Result (Dynamic H) (EvalAltResult H) → (count loaded_then : ℕ) →
      List (Import H) → Type 0
  EndsWith most script loaded result count loaded_then imports =
      Ends table (offering most) (with_loaded loaded (older ∷ [])) script result count (with_loaded loaded_then imports)

  -- which module is imported under which name, and how many are loaded then
  pub record Imports : Type 0 where
    -- the module under its alias, behind the others, and one more is loaded
    pub aliased : EndsWith 100 (as_n 1 ∷ []) 3 (Ok unit) 2 4 (older ∷ named (codes "n") ∷ [])
    -- without an alias under the empty name
    pub without : EndsWith 100 (unnamed 1 ∷ []) 3 (Ok unit) 2 4 (older ∷ named [] ∷ [])
    -- the last one that may be loaded
    pub last : EndsWith 4 (as_n 1 ∷ []) 3 (Ok unit) 2 4 (older ∷ named (codes "n") ∷ [])
    -- where as many are loaded as may be, the path is not evaluated
    pub full : EndsWith 3 unknown_path 3 (Err (ErrorTooManyModules (column 1))) 1 3 (older ∷ [])
    -- where more may be, it fails
    pub unknown : EndsWith 4 unknown_path 3 (Err (ErrorVariableNotFound (codes "q") (column 8))) 2 3 (older ∷ [])
    -- no such module: the error stands at the start of the path, `"k" + "x"`
    pub missing : EndsWith 100 (import_ 1 (op 12 Plus (text 8 (codes "k") ∷ text 14 (codes "x") ∷ [])) None ∷ []) 3
        (Err (ErrorModuleNotFound (codes "kx") (column 8))) 4 3 (older ∷ [])
    -- no text: the error stands at the operator of the path, `1 + 2`
    pub no_text : EndsWith 100 (import_ 1 (op 10 Plus (int 8 1 ∷ int 12 2 ∷ [])) None ∷ []) 3
        (Err (ErrorMismatchDataType (record { wanted = codes "string"; found = codes "i64" }) (column 10))) 4 3 (older ∷ [])
    -- a text is seen through a handle
    pub handle : Ends table (offering 100) (one_cell table host (Some (plain (Str (codes "m")))) [])
        (import_ 1 (var 8 (codes "h")) None ∷ []) (Ok unit) 2
        (importing_of 1 (named [] ∷ []) (one_cell table host (Some (plain (Str (codes "m")))) []))
    -- it is charged at the statement
    pub refused : Ends table (record (offering 100) { limits = record usual_limits { max_operations = 1 } }) (with_loaded 3 (older ∷ []))
        (stmt.Noop (column 1) ∷ as_n 3 ∷ []) (Err (ErrorTooManyOperations (column 3))) 1 (with_loaded 3 (older ∷ []))
    -- `{ import "m" as n; }`: the block takes the import back, and the module stays loaded
    pub inside : EndsWith 100 (block (braces 1 23 (as_n 3 ∷ [])) ∷ []) 3 (Ok unit) 3 4 (older ∷ [])
    -- an import in the path is taken back too; it is told before the path whether there are too many
    pub path : EndsWith 4 nested 3 (Ok unit) 6 5 (older ∷ named (codes "n") ∷ [])
    -- the greatest count stays
    pub greatest : EndsWith (2 ^ 64 - 1) nested (2 ^ 64 - 2) (Ok unit) 6 (2 ^ 64 - 1) (older ∷ named (codes "n") ∷ [])
