-- How much data a value contains, and the limits on it.
use Rattle.std.specs.Prelude.{ℕ, ◌+◌, ◌-◌, ◌^◌, min, nat_lt, Bool, true, false, ◌&&◌, if◌then◌else◌, List, [], ◌∷◌, length, Option, Some}
use Rattle.std.specs.Prelude.{None, option_map, codes}
use Rattle.rhai_values.specs.declared.base.size.DataSizes.{DataSizes}
use Rattle.rhai_values.specs.declared.base.size.SizeFault.{SizeFault}
use Rattle.rhai_values.specs.declared.base.size.SizeFault.TheVariants as fault
use Rattle.rhai_values.specs.declared.base.value.Dynamic.{Dynamic}
use Rattle.rhai_values.specs.declared.base.value.FnPtrKind.TheOpen as layer
use Rattle.rhai_values.specs.declared.base.value.FnPtrKind.TheFolds.{fold-Dynamic}
use Rattle.rhai_values.specs.Layers.{UnionLayer, layer_of}

-- the sizes of so many elements of arrays and bytes of blobs, entries of maps, and bytes of texts
abbrev pub sizes : (arrays maps strings : ℕ) → DataSizes
sizes arrays maps strings = record { arrays = arrays; maps = maps; strings = strings }

-- the exact sums of two values
abbrev pub plus : DataSizes → DataSizes → DataSizes
plus a b = sizes (a.arrays + b.arrays) (a.maps + b.maps) (a.strings + b.strings)

-- the exact sums of several values
abbrev pub total_of : List DataSizes → DataSizes
total_of [] = sizes 0 0 0
total_of (a ∷ rest) = plus a (total_of rest)

-- what a value contains, from what its items contain: each element, byte of a blob, entry and byte of a text counts one
abbrev pub union_total : {H : Type 0} → layer.Union-F H Unit DataSizes DataSizes Unit Unit Unit Unit Unit → DataSizes
union_total (layer.Str text) = sizes 0 0 (length text)
union_total (layer.Array items) = plus (sizes (length items) 0 0) (total_of items)
union_total (layer.Blob bytes) = sizes (length bytes) 0 0
union_total (layer.Map entries) = plus (sizes 0 (length entries.1) 0) (total_of entries.1)
union_total _ = sizes 0 0 0

-- the exact sums of a value
abbrev pub total : {H : Type 0} → Dynamic H → DataSizes
total {H} = fold-Dynamic H Unit DataSizes DataSizes Unit Unit Unit Unit Unit (λ _. tt) union_total (λ d. d.value) (λ _. tt) (λ _. tt)
    (λ _. tt) (λ _. tt) (λ _. tt)

-- a sum that stops at the greatest machine number
abbrev pub saturated_number : ℕ → ℕ
saturated_number n = min n (2 ^ 64 - 1)

-- sizes of which each stops at the greatest machine number
abbrev pub saturated : DataSizes → DataSizes
saturated a = sizes (saturated_number a.arrays) (saturated_number a.maps) (saturated_number a.strings)

-- the sums of two values together
abbrev pub joined : DataSizes → DataSizes → DataSizes
joined a b = saturated (plus a b)

-- how much data a value contains: its elements of arrays and bytes of blobs, its entries of maps, its bytes of texts
abbrev pub data_sizes : {H : Type 0} → Dynamic H → DataSizes
data_sizes d = saturated (total d)

-- the kinds of values that contain data
abbrev pub is_data : {H : Type 0} → UnionLayer H → Bool
is_data (layer.Str text) = true
is_data (layer.Array items) = true
is_data (layer.Blob bytes) = true
is_data (layer.Map entries) = true
is_data _ = false

-- a value is of a kind that contains data
abbrev pub holds_data : {H : Type 0} → Dynamic H → Bool
holds_data d = is_data (layer_of d)

-- above a limit, where zero is none
abbrev pub is_above : (limit size : ℕ) → Bool
is_above limit size = nat_lt 0 limit && nat_lt limit size

-- the first kind that is above its limit: texts, arrays, maps
abbrev pub exceeded : (max_string_size max_array_size max_map_size : ℕ) → DataSizes → Option SizeFault
exceeded max_string_size max_array_size max_map_size a =
    if is_above max_string_size a.strings then Some fault.Strings
    else (if is_above max_array_size a.arrays then Some fault.Arrays
    else (if is_above max_map_size a.maps then Some fault.Maps else None))

-- the text of the error for a kind of data above its limit
abbrev pub fault_text : SizeFault → List ℕ
fault_text fault.Strings = codes "Length of string"
fault_text fault.Arrays = codes "Size of array/BLOB"
fault_text fault.Maps = codes "Size of object map"

-- the text of the error of a value above a limit
abbrev pub too_large : {H : Type 0} → (max_string_size max_array_size max_map_size : ℕ) → Dynamic H → Option (List ℕ)
too_large max_string_size max_array_size max_map_size d =
    option_map fault_text (exceeded max_string_size max_array_size max_map_size (data_sizes d))
