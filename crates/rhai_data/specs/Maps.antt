-- A map that is being made.
use Rattle.std.specs.Prelude.{◌≡◌}
use Rattle.rhai_machine.specs.language.Data.{entry_sizes}
use Rattle.rhai_data.specs.declared.map.EntryValues.{EntryValues}

-- what is counted is how much data entries with these values have
abbrev pub IsCounted : {H : Type 0} → EntryValues H → Type 0
IsCounted making = making.sizes ≡ entry_sizes making.values
