use Rattle.std.proofs.Common.{◌≡◌, true, flat_map, take}
use Rattle.rhai_state.specs.Deciding.{are_there}
use Rattle.rhai_state.specs.Reached.{value_holds, import_holds, module_holds, function_holds}
use Rattle.rhai_state.proofs.contents.+reach.Given as goal

abbrev pub invariant-values_fit-loop-value : goal.invariant-values_fit-loop-value
invariant-values_fit-loop-value g l = are_there l.global (flat_map value_holds (take l.value-index l.values)) ≡ true

abbrev pub invariant-modules_fit-loop-module : goal.invariant-modules_fit-loop-module
invariant-modules_fit-loop-module g l = are_there l.global (flat_map module_holds (take l.module-index l.modules)) ≡ true

abbrev pub invariant-imports_fit-loop-import : goal.invariant-imports_fit-loop-import
invariant-imports_fit-loop-import g l = are_there l.global (flat_map import_holds (take l.import-index l.imports)) ≡ true

abbrev pub invariant-functions_fit-loop-function : goal.invariant-functions_fit-loop-function
invariant-functions_fit-loop-function g l = are_there l.global (flat_map function_holds (take l.function-index l.functions)) ≡ true
