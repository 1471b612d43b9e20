-- The variables that a function starts with.
use Rattle.std.specs.Prelude.{◌≡◌, ℕ, List, [], ◌∷◌, ◌++◌, drop, map, take}
use Rattle.rhai_values.specs.declared.base.value.AccessMode.TheVariants.{ReadWrite}
use Rattle.rhai_values.specs.declared.base.value.Dynamic.{Dynamic}
use Rattle.rhai_values.specs.declared.base.value.Union.TheVariants as value
use Rattle.rhai_values.specs.Copy.{plain}
use Rattle.rhai_state.specs.declared.scope.ScopeEntry.{ScopeEntry}
use Rattle.rhai_state.specs.Scope.{new_entry}

module _ {H : Type 0} where
  -- what is left of an argument that was taken
  abbrev pub unit : Dynamic H
  unit = plain value.Unit

  -- what is left of arguments that so many parameters took: `()` of each that there was a parameter for
  abbrev pub left_of : (parameters : ℕ) → List (Dynamic H) → List (Dynamic H)
  left_of count args = map (λ v. unit) (take count args) ++ drop count args

  -- of some of the first arguments, or of none, `()` is left, and the others stay
  abbrev pub TakesSome : (old new : List (Dynamic H)) → Type 0
  TakesSome old new = (count : ℕ) × (new ≡ left_of count old)

  -- the parameters are variables that may be written; one without an argument is `()`
  abbrev pub parameters : List (List ℕ) → List (Dynamic H) → List (ScopeEntry H)
  parameters [] args = []
  parameters (name ∷ names) [] = new_entry name ReadWrite unit ∷ parameters names []
  parameters (name ∷ names) (v ∷ args) = new_entry name ReadWrite v ∷ parameters names args
