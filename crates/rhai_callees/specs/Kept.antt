-- An argument that is kept for its call.
use Rattle.std.specs.Prelude.{◌≡◌, List, [], ◌∷◌, ◌++◌, Result, Ok, Err}
use Rattle.rhai_values.specs.declared.base.value.Dynamic.{Dynamic}
use Rattle.rhai_errors.specs.declared.error.EvalAltResult.{EvalAltResult}

-- a list has an argument more, where one could be taken
abbrev pub HasKept : {H : Type 0} → Result (Dynamic H) (EvalAltResult H) → (before after : List (Dynamic H)) → Type 0
HasKept (Ok v) before after = after ≡ before ++ v ∷ []
HasKept (Err e) before after = ⊥
