-- Samples of names with a path, and of names that no entry of the scope has: which module is the root, and what is found there.
use Rattle.std.specs.Prelude.{ℕ, false, List, [], ◌∷◌, None, Result, Ok, Err, codes}
use Rattle.rhai_tree.specs.declared.expr.Expr.TheVariants as expr
use Rattle.rhai_tree.specs.declared.expr.Namespace.{Namespace}
use Rattle.rhai_tree.specs.declared.function.FnAccess.TheVariants.{Private}
use Rattle.rhai_machine.specs.Types.{Dynamic, EvalAltResult, Expr, Import, Module, ScopeEntry, ScriptFuncDef, Stmt}
use Rattle.rhai_values.specs.declared.base.value.Module.{roll-Module}
use Rattle.rhai_values.specs.declared.base.value.Union.TheVariants.{Array}
use Rattle.rhai_values.specs.Copy.{plain}
use Rattle.rhai_errors.specs.declared.error.EvalAltResult.TheVariants.{ErrorAssignmentToConstant, ErrorFunctionNotFound}
use Rattle.rhai_errors.specs.declared.error.EvalAltResult.TheVariants.{ErrorModuleNotFound, ErrorVariableNotFound}
use Rattle.rhai_state.specs.State.{import_as}
use Rattle.rhai_machine.specs.language.Setting.{Setting}
use Rattle.rhai_machine.specs.language.State.{Local}
use Rattle.rhai_machine_samples.specs.Trees.{column, int, var, value, assign}
use Rattle.rhai_machine_samples.specs.Runs.{Table, Ends, usual, nothing_but, entry, integer, fixed}
use Rattle.rhai_machine_samples.specs.Calls.{named}
use Rattle.rhai_machine_samples.specs.Functions.{function, gives_nine, increments, library}
use Rattle.rhai_machine_samples.specs.Items.{index}

-- a path of one name, from a column on
abbrev pub path_from : (at : ℕ) → List ℕ → Namespace
path_from c root = record { path = root ∷ []; index = None; position = column c }

-- a variable behind a path of one name
abbrev pub name_in : (at : ℕ) → (root : List ℕ) → (name_at : ℕ) → (name : List ℕ) → Expr
name_in c root name_at name = expr.Variable None name (path_from c root) (column name_at)

-- a call behind a path of one name
abbrev pub call_in : (at : ℕ) → (root : List ℕ) → (name_at : ℕ) → (name : List ℕ) → List Expr → Expr
call_in c root name_at name args =
    expr.FnCall (record (named false name args) { namespace = path_from c root }) (column name_at)

-- `z::K`
abbrev pub constant_read : List Stmt
constant_read = value (name_in 1 (codes "z") 4 (codes "K")) ∷ []

-- `z::K = 5`
abbrev pub constant_set : List Stmt
constant_set = assign 6 None (name_in 1 (codes "z") 4 (codes "K")) (int 8 5) ∷ []

-- `z::A[0] = 5`
abbrev pub item_set : List Stmt
item_set = assign 9 None (index 5 (name_in 1 (codes "z") 4 (codes "A")) (int 6 0)) (int 11 5) ∷ []

-- `global::K`
abbrev pub global_read : List Stmt
global_read = value (name_in 1 (codes "global") 9 (codes "K")) ∷ []

-- `z::f(1)`
abbrev pub called : List Stmt
called = value (call_in 1 (codes "z") 4 (codes "f") (int 6 1 ∷ [])) ∷ []

-- `z::f(y)`
abbrev pub called_on_y : List Stmt
called_on_y = value (call_in 1 (codes "z") 4 (codes "f") (var 6 (codes "y") ∷ [])) ∷ []

-- `global::f()`
abbrev pub called_in_global : List Stmt
called_in_global = value (call_in 1 (codes "global") 9 (codes "f") []) ∷ []

-- `K`
abbrev pub name_read : List Stmt
name_read = value (var 1 (codes "K")) ∷ []

-- `K = 5`
abbrev pub name_set : List Stmt
name_set = assign 3 None (var 1 (codes "K")) (int 5 5) ∷ []

-- a private function of the key of `increments`
abbrev pub increments_privately : ScriptFuncDef
increments_privately = record increments { access = Private }

-- `fn K() {}`
abbrev pub named_k : ScriptFuncDef
named_k = function (codes "K") [] []

module _ {H : Type 0} where
  -- a module with one constant
  abbrev pub module_of : List ℕ → Dynamic H → Module H
  module_of name v = roll-Module H (record { id = None; constants = (name ∷ [], v ∷ []); functions = []; sub_modules = ([], []) })

  -- a module with the constant `K`
  abbrev pub with_k : ℕ → Module H
  with_k n = module_of (codes "K") (fixed n)

  -- a module with the constant `A`, which is `[1]`
  abbrev pub with_array : Module H
  with_array = module_of (codes "A") (plain (Array (integer 1 ∷ [])))

  -- a local state with these imports and these variables
  abbrev pub importing : List (Import H) → List (ScopeEntry H) → Local H
  importing imports scope =
      let l = nothing_but scope in
      record l { around = record l.around { imports = imports } }

  -- a module that is imported as `z`
  abbrev pub as_z : Module H → Import H
  as_z m = import_as (codes "z") m

  -- a local state with these imports, and with a constant `K` of the run's own, which is 7
  abbrev pub with_own : List (Import H) → Local H
  with_own imports =
      let l = importing imports [] in
      record l { around = record l.around { constant_tables = (codes "K" ∷ [], integer 7 ∷ []) ∷ [] } }

module _ {S H : Type 0} (table : Table S H) (host : H → List ℕ) where
  -- over this local state the script comes to this result, and leaves the state as it is
  abbrev pub Gives : Setting H → Local H → List Stmt → Result (Dynamic H) (EvalAltResult H) → (count : ℕ) → Type 0
  Gives s l script result count = Ends table s l script result count l

  -- constants behind a path
  pub record Paths : Type 0 where
    -- a constant of the module, read-only, whatever variable has the name; of two imports of a name the newer is the root
    pub beside : Gives (usual host) (importing (as_z (with_k 2) ∷ []) (entry (codes "K") (integer 1) ∷ [])) constant_read (Ok (fixed 2)) 2
    pub newest : Gives (usual host) (importing (as_z (with_k 2) ∷ as_z (with_k 3) ∷ []) []) constant_read (Ok (fixed 3)) 2
    -- it is not assigned to, by the name where it stands, and nor is a part, by the name where the path starts
    pub refused : Gives (usual host) (importing (as_z (with_k 2) ∷ []) (entry (codes "K") (integer 1) ∷ [])) constant_set
        (Err (ErrorAssignmentToConstant (codes "K") (column 4))) 3
    pub part_refused : Gives (usual host) (importing (as_z with_array ∷ []) []) item_set
        (Err (ErrorAssignmentToConstant (codes "A") (column 1))) 4
    -- no such module: the error stands at the path
    pub no_module : Gives (usual host) (nothing_but (entry (codes "K") (integer 1) ∷ [])) constant_read
        (Err (ErrorModuleNotFound (codes "z") (column 1))) 2
    -- `global` is the run's own constants where no module has the name
    pub own : Gives (usual host) (with_own []) global_read (Ok (fixed 7)) 2
    pub module_first : Gives (usual host) (with_own (import_as (codes "global") (with_k 2) ∷ [])) global_read (Ok (fixed 2)) 2
    pub no_constant : Gives (usual host) (nothing_but (entry (codes "K") (integer 1) ∷ [])) global_read
        (Err (ErrorVariableNotFound (codes "global::K") (column 1))) 2

  -- calls behind a path
  pub record PathCalls : Type 0 where
    -- the function of the module; the arguments come before the module is looked for
    pub entered : Gives (usual host) (importing (as_z (library (gives_nine ∷ [])) ∷ []) []) called (Ok (integer 9)) 6
    pub arguments_first : Gives (usual host) (nothing_but []) called_on_y (Err (ErrorVariableNotFound (codes "y") (column 6))) 3
    -- a private function is not found, and hides an older one of its key
    pub hidden : Gives (usual host) (importing (as_z (library (gives_nine ∷ increments_privately ∷ [])) ∷ []) []) called
        (Err (ErrorFunctionNotFound (codes "z::f (i64)") (column 4))) 3
    -- the run's own constants are no module
    pub no_module : Gives (usual host) (with_own []) called_in_global (Err (ErrorModuleNotFound (codes "global") (column 1))) 2

  -- the usual setting with a global module that has the constant `K`
  abbrev pub with_global : Setting H
  with_global = record (usual host) { offer = record (usual host).offer { global_modules = with_k 4 ∷ [] } }

  -- a local state with a library that has a function of that name
  abbrev pub under_library : Local H
  under_library =
      let l = nothing_but [] in
      record l { around = record l.around { lib = library (named_k ∷ []) ∷ [] } }

  -- constants of an engine's global modules
  pub record GlobalConstants : Type 0 where
    -- a constant of a global module is read as a copy, before the library's function, and is not assigned to
    pub read : Gives with_global under_library name_read (Ok (integer 4)) 2
    pub refused : Gives with_global (nothing_but []) name_set (Err (ErrorAssignmentToConstant (codes "K") (column 1))) 3
