-- What a scope and a state reach: handles of cells, script functions, and the numbers of tables of constants. A value of the host's own
-- type has none of them in it.
use Rattle.std.specs.Prelude.{ℕ, List, [], ◌∷◌, ◌++◌, flat_map, Option, Some, None, Contains}
use Rattle.rhai_values.specs.declared.base.value.Dynamic.{Dynamic}
use Rattle.rhai_values.specs.declared.base.value.EncapsulatedEnviron.{EncapsulatedEnviron}
use Rattle.rhai_values.specs.declared.base.value.FnPtr.{FnPtr}
use Rattle.rhai_values.specs.declared.base.value.FnPtrKind.{FnPtrKind}
use Rattle.rhai_values.specs.declared.base.value.Import.{Import}
use Rattle.rhai_values.specs.declared.base.value.Module.{Module}
use Rattle.rhai_values.specs.declared.base.value.ModuleFn.{ModuleFn}
use Rattle.rhai_values.specs.declared.base.value.FnPtrKind.TheOpen as layer
use Rattle.rhai_values.specs.declared.base.value.FnPtrKind.TheFolds.{fold-EncapsulatedEnviron, fold-FnPtr, fold-FnPtrKind, fold-Import}
use Rattle.rhai_values.specs.declared.base.value.FnPtrKind.TheFolds.{fold-Module, fold-ModuleFn}
use Rattle.rhai_values.specs.Cells.{cells_of}
use Rattle.rhai_state.specs.declared.scope.Scope.{Scope}
use Rattle.rhai_state.specs.declared.scope.ScopeEntry.{ScopeEntry}
use Rattle.rhai_state.specs.declared.state.GlobalRuntimeState.{GlobalRuntimeState}
use Rattle.rhai_values.specs.ValueContents.{Reached, Function, Constants, each, maybe, in_kind, in_union, contents_of}
use Rattle.rhai_state.specs.Scope.{entries_of}

-- what stands in something, as a list of cells, script functions and tables of constants
abbrev pub ReachedList : Type 0
ReachedList = List Reached

module _ {H : Type 0} where
  -- nothing stands in a value of the host's own type
  abbrev pub nothing : H → ReachedList
  nothing value = []

  -- ---- what stands in each of them, from what stands in its parts

  -- in a value stands what stands in its content, whatever its mode
  abbrev pub in_value : layer.Dynamic-F H ReachedList ReachedList ReachedList ReachedList ReachedList ReachedList ReachedList ReachedList →
      ReachedList
  in_value d = d.value

  -- an environment has a table of constants, libraries and imports
  abbrev pub in_environ : layer.EncapsulatedEnviron-F H ReachedList ReachedList ReachedList ReachedList ReachedList ReachedList ReachedList
      ReachedList → ReachedList
  in_environ e = Constants e.constants ∷ (each e.lib ++ each e.imports)

  -- a pointer has arguments, and what it leads to
  abbrev pub in_pointer : layer.FnPtr-F H ReachedList ReachedList ReachedList ReachedList ReachedList ReachedList ReachedList ReachedList →
      ReachedList
  in_pointer p = each p.curry ++ p.kind

  -- an import has a module
  abbrev pub in_import : layer.Import-F H ReachedList ReachedList ReachedList ReachedList ReachedList ReachedList ReachedList ReachedList →
      ReachedList
  in_import i = i.module

  -- a module has constants, functions and modules
  abbrev pub in_module : layer.Module-F H ReachedList ReachedList ReachedList ReachedList ReachedList ReachedList ReachedList ReachedList →
      ReachedList
  in_module m = each m.constants.1 ++ (each m.functions ++ each m.sub_modules.1)

  -- a function of a module has its script function, and an environment, if there is one
  abbrev pub in_function : layer.ModuleFn-F H ReachedList ReachedList ReachedList ReachedList ReachedList ReachedList ReachedList
      ReachedList → ReachedList
  in_function f = Function f.def ∷ maybe f.environ

  -- ---- what stands in each of them

  -- all that stands in a value
  abbrev pub value_holds : Dynamic H → ReachedList
  value_holds = contents_of nothing

  -- all that stands in a pointer
  abbrev pub pointer_holds : FnPtr H → ReachedList
  pointer_holds = fold-FnPtr H ReachedList ReachedList ReachedList ReachedList ReachedList ReachedList ReachedList ReachedList
      (in_kind nothing) (in_union nothing) in_value in_environ in_pointer
      in_import in_module in_function

  -- all that stands in what a pointer leads to
  abbrev pub kind_holds : FnPtrKind H → ReachedList
  kind_holds = fold-FnPtrKind H ReachedList ReachedList ReachedList ReachedList ReachedList ReachedList ReachedList ReachedList
      (in_kind nothing) (in_union nothing) in_value in_environ
      in_pointer in_import in_module in_function

  -- all that stands in an environment
  abbrev pub environ_holds : EncapsulatedEnviron H → ReachedList
  environ_holds = fold-EncapsulatedEnviron H ReachedList ReachedList ReachedList ReachedList ReachedList ReachedList ReachedList ReachedList
      (in_kind nothing) (in_union nothing) in_value
      in_environ in_pointer in_import in_module in_function

  -- all that stands in an import
  abbrev pub import_holds : Import H → ReachedList
  import_holds = fold-Import H ReachedList ReachedList ReachedList ReachedList ReachedList ReachedList ReachedList ReachedList
      (in_kind nothing) (in_union nothing) in_value in_environ in_pointer
      in_import in_module in_function

  -- all that stands in a module
  abbrev pub module_holds : Module H → ReachedList
  module_holds = fold-Module H ReachedList ReachedList ReachedList ReachedList ReachedList ReachedList ReachedList ReachedList
      (in_kind nothing) (in_union nothing) in_value in_environ in_pointer
      in_import in_module in_function

  -- all that stands in a function of a module
  abbrev pub function_holds : ModuleFn H → ReachedList
  function_holds = fold-ModuleFn H ReachedList ReachedList ReachedList ReachedList ReachedList ReachedList ReachedList ReachedList
      (in_kind nothing) (in_union nothing) in_value in_environ
      in_pointer in_import in_module in_function

  -- all that stands in a variable: in its value
  abbrev pub entry_holds : ScopeEntry H → ReachedList
  entry_holds entry = value_holds entry.value

  -- all that stands in a table of constants: in its values
  abbrev pub table_holds : List (List ℕ) × List (Dynamic H) → ReachedList
  table_holds table = flat_map value_holds table.1

  -- all that stands in a cell: in its value, and nothing where the cell is held
  abbrev pub cell_holds : Option (Dynamic H) → ReachedList
  cell_holds None = []
  cell_holds (Some v) = value_holds v

  -- ---- the whole

  -- all that a state and a scope reach, by the variables, libraries, imports, all tables of constants and all cells of the store
  abbrev pub reached_from : GlobalRuntimeState H → Scope H → List Reached
  reached_from global scope =
      flat_map entry_holds (entries_of scope) ++ (flat_map module_holds global.lib ++ (flat_map import_holds global.imports
      ++ (flat_map table_holds global.constant_tables ++ flat_map cell_holds (cells_of global.cells))))

  -- a state and a scope reach something
  abbrev pub Reaches : GlobalRuntimeState H → Scope H → Reached → Type 0
  Reaches global scope r = Contains (reached_from global scope) r
