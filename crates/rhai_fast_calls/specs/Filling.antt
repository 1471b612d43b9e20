-- Parameters that are filled one after the other.
use Rattle.std.specs.Prelude.{◌≡◌, ℕ, List, [], ◌∷◌, ◌++◌, get_or, length, Result, Ok, Err}
use Rattle.rhai_machine.specs.Types.{Dynamic, EvalAltResult, ScopeEntry}
use Rattle.rhai_values.specs.declared.base.value.AccessMode.TheVariants.{ReadWrite}
use Rattle.rhai_state.specs.Scope.{new_entry}

module _ {H : Type 0} where
  -- the variables of the first parameters, as many as there are values for them
  abbrev pub filled : List (List ℕ) → List (Dynamic H) → List (ScopeEntry H)
  filled (name ∷ names) (v ∷ values) = new_entry name ReadWrite v ∷ filled names values
  filled _ _ = []

  -- there is a value, and it is that of the next parameter's variable
  abbrev pub HasFilled : List (List ℕ) → Result (Dynamic H) (EvalAltResult H) → (before after : List (ScopeEntry H)) → Type 0
  HasFilled names (Ok v) before after = after ≡ before ++ new_entry (get_or names (length before) []) ReadWrite v ∷ []
  HasFilled names (Err e) before after = ⊥
