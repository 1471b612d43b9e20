-- What a variable means by the entry that it was found at, or by none.
use Rattle.std.proofs.Common.{◌≡◌, refl}
use Rattle.std.specs.Prelude.{ℕ, List, [], ◌∷◌, Option, Some, None, Result, Ok, Err}
use Rattle.rhai_tree.specs.declared.position.Position.{Position}
use Rattle.rhai_values.specs.declared.base.value.Dynamic.{Dynamic}
use Rattle.rhai_errors.specs.declared.error.EvalAltResult.{EvalAltResult}
use Rattle.rhai_machine.specs.language.Values.{copied}
use Rattle.rhai_machine.specs.language.Names.{of_entry, read_of, temporary}

module _ {H : Type 0} where
  pub read_entry : (index : ℕ) (r : Result (Dynamic H) (EvalAltResult H)) → copied r ≡ read_of (of_entry index r)
  read_entry index (Ok v) = refl
  read_entry index (Err e) = refl

  pub read_temporary : (r : Result (Dynamic H) (EvalAltResult H)) → r ≡ read_of (temporary r)
  read_temporary (Ok v) = refl
  read_temporary (Err e) = refl
