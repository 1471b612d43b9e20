-- The rule of `import`: the engine's module under a path is imported under a name, and counted.
use Rattle.std.specs.Prelude.{ℕ, ◌+◌, ◌-◌, ◌^◌, min, Bool, true, false, List, [], ◌∷◌, ◌++◌, Option, Some, None, Result, Ok, Err}
use Rattle.rhai_machine.specs.Types.{Dynamic, EvalAltResult, Expr, Ident, Module, Position}
pub use Rattle.rhai_tree.specs.Forms.{name_asked}
use Rattle.rhai_tree.specs.Lookup.{value_of}
use Rattle.rhai_tree.specs.Positions.{position_of, start_of}
use Rattle.rhai_errors.specs.declared.error.EvalAltResult.TheVariants as error
use Rattle.rhai_state.specs.State.{import_as}
use Rattle.rhai_machine.specs.language.State.{Local}
use Rattle.rhai_machine.specs.language.Values.{Cells}
use Rattle.rhai_machine.specs.language.Arguments.{text_wanted}
use Rattle.rhai_machine.specs.language.Frames.{Frame, Core, core, Eval, Fail, ImportPath}

-- the number of loaded modules with one more, up to the greatest count; a greater one stays
abbrev pub one_more : ℕ → ℕ
one_more loaded = loaded + min 1 (2 ^ 64 - 1 - loaded)

module _ {H : Type 0} where
  -- the module that was found under a path, or the error that there is none
  abbrev pub found_under : List ℕ → Position → Option (Module H) → Result (Module H) (EvalAltResult H)
  found_under path at (Some m) = Ok m
  found_under path at None = Err (error.ErrorModuleNotFound path at)

  -- the engine's module under a path; an error stays
  abbrev pub module_under : (modules : List (List ℕ) × List (Module H)) → (starts_at : Position) → Result (List ℕ) (EvalAltResult H) →
      Result (Module H) (EvalAltResult H)
  module_under modules starts_at (Ok path) = found_under path starts_at (value_of path modules)
  module_under modules starts_at (Err e) = Err e

  -- the engine's module that a path's value means, which has to be a text
  abbrev pub module_meant : (H → List ℕ) → Cells H → (modules : List (List ℕ) × List (Module H)) → Dynamic H → (path_at : Position) →
      (starts_at : Position) → Result (Module H) (EvalAltResult H)
  module_meant host cells modules path path_at starts_at = module_under modules starts_at (text_wanted host cells path path_at)

  -- a module is imported under a name, behind the other imports, and counted
  abbrev pub importing : List ℕ → Module H → Local H → Local H
  importing name m l = record l {
    around = record l.around {
      imports = l.around.imports ++ import_as name m ∷ [];
      num_modules_loaded = one_more l.around.num_modules_loaded;
    };
  }

  -- an `import`: where as many modules are loaded as may be it fails, and else its path is evaluated
  abbrev pub import_core : (full : Bool) → (path : Expr) → (alias : Option Ident) → Position → List (Frame H) → Local H → Core H
  import_core true path alias pos k l = core (Fail (error.ErrorTooManyModules pos)) k l
  import_core false path alias pos k l = core (Eval path) (ImportPath alias (position_of path) (start_of path) ∷ k) l
