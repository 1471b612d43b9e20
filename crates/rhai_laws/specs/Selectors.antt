-- Paths as a script writes them: from a value to an item of it or to the value of one of its keys, and on from there.
use Rattle.std.specs.Prelude.{◌≡◌, ◌⊎◌, ℕ, List, [], ◌∷◌, Option, Some, None, slice_get}
use Rattle.rhai_tree.specs.Lookup.{value_of}
use Rattle.rhai_values.specs.declared.base.value.Dynamic.{Dynamic}
use Rattle.rhai_values.specs.declared.base.value.FnPtrKind.TheOpen as layer
use Rattle.rhai_values.specs.Layers.{UnionLayer, layer_of}

-- one step of a path: to an item of an array, counted from the start, or to the value of a key of a map
pub data Selector : Type 0 where
  ToItem : (at : ℕ) → Selector
  ToKey : (name : List ℕ) → Selector

-- two paths part at one value, where they go on to different items or keys
abbrev pub Part : List Selector → List Selector → Type 0
Part (s ∷ path) (t ∷ other) = (s ≡ t → ⊥) ⊎ ((s ≡ t) × Part path other)
Part _ _ = ⊥

module _ {H : Type 0} where
  -- what a step leads to, where it leads somewhere
  abbrev pub selected_in : UnionLayer H → Selector → Option (Dynamic H)
  selected_in (layer.Array items) (ToItem at) = slice_get items at
  selected_in (layer.Map entries) (ToKey name) = value_of name entries
  selected_in _ _ = None

  -- what a step leads to from a value: an item of an array, or the value of a key of a map
  abbrev pub selected : Dynamic H → Selector → Option (Dynamic H)
  selected v s = selected_in (layer_of v) s

  -- the value that a path leads to
  abbrev pub read : Option (Dynamic H) → List Selector → Option (Dynamic H)
  read v [] = v
  read None (s ∷ path) = None
  read (Some v) (s ∷ path) = read (selected v s) path
