-- What an `import` leaves once its path is there, and when it may begin.
use Rattle.std.specs.Prelude.{◌≡◌, Bool, true, false, Option, Result, Ok, Err}
use Rattle.rhai_tree.specs.declared.expr.Ident.{Ident}
use Rattle.rhai_tree.specs.declared.position.Position.{Position}
use Rattle.rhai_values.specs.declared.base.value.Module.{Module}
use Rattle.rhai_errors.specs.declared.error.EvalAltResult.{EvalAltResult}
use Rattle.rhai_errors.specs.declared.error.EvalAltResult.TheVariants as error
use Rattle.rhai_machine.specs.language.Imports.{importing, name_asked}
use Rattle.rhai_machine.specs.language.State.{Local}

module _ {H : Type 0} where
  -- whether a module may be imported, or the error that too many are loaded
  abbrev pub importable : Position → (full : Bool) → Result (Unit {0}) (EvalAltResult H)
  importable at true = Err (error.ErrorTooManyModules at)
  importable at false = Ok tt

  -- the module that is meant is there, and its import leads from one state to another
  abbrev pub Imports : Result (Module H) (EvalAltResult H) → (alias : Option Ident) → (old new : Local H) → Type 0
  Imports (Ok m) alias old new = new ≡ importing (name_asked alias) m old
  Imports (Err e) alias old new = ⊥
