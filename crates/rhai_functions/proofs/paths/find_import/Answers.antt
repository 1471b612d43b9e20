use Rattle.std.proofs.Common.{◌≡◌, true, suc, ◌-◌, Some, sym, ap, ◌∙◌, arith}
use Rattle.std.specs.Str.{bytes_eq}
use Rattle.rhai_values.specs.declared.base.value.Import.{out-Import}
use Rattle.rhai_functions.proofs.Searches.{ends_here}
use Rattle.rhai_functions.specs.Namespaces.{module_if_named}
use Rattle.rhai_functions.proofs.paths.find_import.Goals as goal

pub returns-then-eq : goal.returns-then-eq
returns-then-eq g c =
    let place : suc (c.imports.at - 1) ≡ c.imports.at = omega arith in
    let gives : module_if_named c.args.name.now c.index-imports-at.result ≡ Some c.get-then-eq.result.now =
    let is : bytes_eq (out-Import _ c.index-imports-at.result).name c.args.name.now ≡ true =
    sym (rw (c.as_str.ensures, c.get.ensures) at c.eq.ensures) ∙ c.if-eq.true in
    rw is (ap Some (sym c.get-then-eq.ensures)) in
    sym (ends_here (module_if_named c.args.name.now) c.args.imports.now
    (c.imports.at - 1) c.index-imports-at.result c.get-then-eq.result.now
    (omega arith) (rw place c.imports.invariant.0)
    (ap (module_if_named c.args.name.now) (sym c.index-imports-at.is) ∙ gives))
