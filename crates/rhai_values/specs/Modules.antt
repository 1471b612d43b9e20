-- Modules, and what a function finds around it.
use Rattle.std.specs.Prelude.{ℕ, List, [], None}
use Rattle.rhai_values.specs.declared.base.value.EncapsulatedEnviron.{EncapsulatedEnviron, roll-EncapsulatedEnviron}
use Rattle.rhai_values.specs.declared.base.value.Import.{Import}
use Rattle.rhai_values.specs.declared.base.value.Module.{Module, roll-Module}

-- a module with nothing in it
abbrev pub empty_module : {H : Type 0} → Module H
empty_module {H} = roll-Module H (record { id = None; constants = ([], []); functions = []; sub_modules = ([], []) })

-- libraries, imports, and the number of a table of constants
abbrev pub environ_with : {H : Type 0} → List (Module H) → List (Import H) → ℕ → EncapsulatedEnviron H
environ_with {H} lib imports constants =
    roll-EncapsulatedEnviron H (record { lib = lib; imports = imports; constants = constants })
