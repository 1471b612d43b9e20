use Rattle.std.proofs.Common.{refl, rules, arith}
use Rattle.std.proofs.lemmas.List.Folds.{list_all-append}
use Rattle.rhai_state.specs.Deciding.{is_there}
use Rattle.rhai_state.specs.Reached.{value_holds, import_holds, module_holds, function_holds}
use Rattle.rhai_state.proofs.Lists.{given_more, given_not}
use Rattle.rhai_state.proofs.Layers.{value-Array, value-Map, pointer-out, environ-out, import-out, module-out, function-None, function-Some}
use Rattle.rhai_state.proofs.contents.+reach.Goals as goal

pub value_fits-returns-in-Array : goal.value_fits-returns-in-Array
value_fits-returns-in-Array g t c = rw (value-Array c.args.value.now c.in-Array.items c.in-Array.is) (search rules)

pub value_fits-returns-in-Map : goal.value_fits-returns-in-Map
value_fits-returns-in-Map g t c = rw (value-Map c.args.value.now c.in-Map.entries c.in-Map.is) (search rules)

pub values_fit-returns-then-not-value_fits : goal.values_fit-returns-then-not-value_fits
values_fit-returns-then-not-value_fits g t c =
    given_not (is_there c.args.global.now) value_holds c.args.values.now c.loop-value.value-index _ c.loop-value-test.true c.value-item.is
    c.if-not-value_fits.ensures

pub values_fit-loop-value-preserved : goal.values_fit-loop-value-preserved
values_fit-loop-value-preserved g t c =
    given_more (is_there c.args.global.now) value_holds c.args.values.now c.loop-value.value-index _ c.loop-value-test.true c.value-item.is
    c.loop-value.invariant c.if-not-value_fits.ensures

pub modules_fit-returns-then-not-module_fits : goal.modules_fit-returns-then-not-module_fits
modules_fit-returns-then-not-module_fits g t c =
    given_not (is_there c.args.global.now) module_holds c.args.modules.now c.loop-module.module-index _ c.loop-module-test.true
    c.module-item.is (rw c.get.ensures at c.if-not-module_fits.ensures)

pub modules_fit-loop-module-preserved : goal.modules_fit-loop-module-preserved
modules_fit-loop-module-preserved g t c =
    given_more (is_there c.args.global.now) module_holds c.args.modules.now c.loop-module.module-index _ c.loop-module-test.true
    c.module-item.is c.loop-module.invariant (rw c.get.ensures at c.if-not-module_fits.ensures)

pub imports_fit-returns-then-not-module_fits : goal.imports_fit-returns-then-not-module_fits
imports_fit-returns-then-not-module_fits g t c =
    given_not (is_there c.args.global.now) import_holds c.args.imports.now c.loop-import.import-index _ c.loop-import-test.true
    c.import-item.is (rw (import-out, ← c.get.ensures) c.if-not-module_fits.ensures)

pub imports_fit-loop-import-preserved : goal.imports_fit-loop-import-preserved
imports_fit-loop-import-preserved g t c =
    given_more (is_there c.args.global.now) import_holds c.args.imports.now c.loop-import.import-index _ c.loop-import-test.true
    c.import-item.is c.loop-import.invariant (rw (import-out, ← c.get.ensures) c.if-not-module_fits.ensures)

pub functions_fit-returns-then-not-function_fits : goal.functions_fit-returns-then-not-function_fits
functions_fit-returns-then-not-function_fits g t c =
    given_not (is_there c.args.global.now) function_holds c.args.functions.now c.loop-function.function-index _ c.loop-function-test.true
    c.function-item.is c.if-not-function_fits.ensures

pub functions_fit-loop-function-preserved : goal.functions_fit-loop-function-preserved
functions_fit-loop-function-preserved g t c =
    given_more (is_there c.args.global.now) function_holds c.args.functions.now c.loop-function.function-index _ c.loop-function-test.true
    c.function-item.is c.loop-function.invariant c.if-not-function_fits.ensures

pub pointer_fits-returns-then-values_fit : goal.pointer_fits-returns-then-values_fit
pointer_fits-returns-then-values_fit g t c = rw pointer-out (grind (arith, list_all-append))

pub pointer_fits-returns-else-values_fit : goal.pointer_fits-returns-else-values_fit
pointer_fits-returns-else-values_fit g t c = rw pointer-out (grind (arith, list_all-append))

pub environ_fits-returns-then-modules_fit : goal.environ_fits-returns-then-modules_fit
environ_fits-returns-then-modules_fit g t c = rw environ-out (grind (arith, list_all-append))

pub environ_fits-returns-else-modules_fit : goal.environ_fits-returns-else-modules_fit
environ_fits-returns-else-modules_fit g t c = rw environ-out (grind (arith, list_all-append))

pub module_fits-returns-then-functions_fit : goal.module_fits-returns-then-functions_fit
module_fits-returns-then-functions_fit g t c = rw module-out (grind (arith, list_all-append))

pub module_fits-returns-else-functions_fit : goal.module_fits-returns-else-functions_fit
module_fits-returns-else-functions_fit g t c = rw module-out (grind (arith, list_all-append))

pub function_fits-returns-in-Some : goal.function_fits-returns-in-Some
function_fits-returns-in-Some g t c = rw (function-Some _ _ c.in-Some.is) (search rules)

pub function_fits-returns-in-None : goal.function_fits-returns-in-None
function_fits-returns-in-None g t c = rw (function-None _ c.in-None.is) refl
