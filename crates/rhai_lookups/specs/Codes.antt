-- How a module and an import are stored as data, whatever a host's values are.
use base.Fml.{ftrue}
use base.Stored.{Coded}
use denote.Builtin.{unit}
use denote.Exit.{unchanged}
use denote.RattleType.{RattleType}
use Rattle.rhai_values.specs.declared.base.value.Import.{Import}
use Rattle.rhai_values.specs.declared.base.value.Module.{Module}
use Rattle.rhai_values.specs.contracts.base.value.Import as imported
use Rattle.rhai_values.specs.contracts.base.value.Module as modules

-- a type of which only the data is asked, and how that is stored
abbrev data_of : (H : Type 0) → Coded H → RattleType
data_of H code = record {
  Denot = H;
  mir = unit.mir;
  written = unit.written;
  reaches = unit.reaches;
  lives = unit.lives;
  own_val = λ _ _. ftrue;
  exit = λ _. unchanged;
  coded = code;
  shr_at = λ _ _ _ _. ftrue;
}

abbrev pub code_of_module : {H : Type 0} → Coded H → Coded (Module H)
code_of_module {H} code = (modules.the_row (data_of H code)).coded

abbrev pub code_of_import : {H : Type 0} → Coded H → Coded (Import H)
code_of_import {H} code = (imported.the_row (data_of H code)).coded
