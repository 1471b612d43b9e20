-- Which values a `switch` looks up among its cases.
use Rattle.std.specs.Prelude.{Bool, true, false, ◌&&◌, List, [], ◌∷◌}
use Rattle.rhai_values.specs.declared.base.value.Dynamic.{Dynamic}
use Rattle.rhai_values.specs.declared.base.value.FnPtrKind.TheOpen as layer
use Rattle.rhai_values.specs.declared.base.value.FnPtrKind.TheFolds.{fold-Dynamic}

-- every answer of a list is true
abbrev pub all_of : List Bool → Bool
all_of [] = true
all_of (b ∷ rest) = b && all_of rest

-- a value can be a case, from whether its items can
abbrev pub is_hashable_kind : {H : Type 0} → layer.Union-F H Unit Bool Bool Unit Unit Unit Unit Unit → Bool
is_hashable_kind (layer.Array items) = all_of items
is_hashable_kind (layer.Map entries) = all_of entries.1
is_hashable_kind (layer.FnPtr pointer) = false
is_hashable_kind (layer.Host value) = false
is_hashable_kind (layer.Cell id) = false
is_hashable_kind _ = true

-- `()`, truth values, integers, characters, texts, ranges, blobs, and arrays and maps of such values
abbrev pub is_hashable : {H : Type 0} → Dynamic H → Bool
is_hashable {H} = fold-Dynamic H Unit Bool Bool Unit Unit Unit Unit Unit (λ _. tt) is_hashable_kind (λ d. d.value) (λ _. tt) (λ _. tt)
    (λ _. tt) (λ _. tt) (λ _. tt)
