-- An array that is being made.
use Rattle.std.specs.Prelude.{◌≡◌}
use Rattle.rhai_values.specs.DataSize.{data_sizes}
use Rattle.rhai_machine.specs.language.Data.{array_of}
use Rattle.rhai_data.specs.declared.array.ArrayItems.{ArrayItems}

-- what is counted is how much data the array of these items has
abbrev pub IsMeasured : {H : Type 0} → ArrayItems H → Type 0
IsMeasured making = making.sizes ≡ data_sizes (array_of making.items)
