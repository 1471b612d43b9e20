-- The functions of a tree as a library.
use Rattle.std.specs.Prelude.{ℕ, Bool, List, [], None, false, length, map, ◌==◌, ◌&&◌}
use Rattle.std.specs.Str.{bytes_eq}
use Rattle.rhai_tree.specs.declared.function.ScriptFuncDef.{ScriptFuncDef}
use Rattle.rhai_values.specs.declared.base.value.Module.{Module, roll-Module}
use Rattle.rhai_values.specs.declared.base.value.ModuleFn.{ModuleFn, roll-ModuleFn}

-- a function has this name and so many parameters
abbrev pub is_called : (name : List ℕ) → (count : ℕ) → ScriptFuncDef → Bool
is_called name count def = bytes_eq def.name name && (length def.params == count)

module _ {H : Type 0} where
  -- a function without an environment, which is no global one
  abbrev pub plain_function : ScriptFuncDef → ModuleFn H
  plain_function def = roll-ModuleFn H (record { def = def; environ = None; is_global = false })

  -- a library with these functions alone
  abbrev pub library_with : List ScriptFuncDef → Module H
  library_with defs =
      roll-Module H (record { id = None; constants = ([], []); functions = map plain_function defs; sub_modules = ([], []) })
