use Rattle.std.proofs.Common.{◌≡◌, suc, ◌-◌, sym, ap, ◌∙◌, arith}
use Rattle.rhai_values.specs.declared.base.value.Import.{out-Import}
use Rattle.rhai_functions.specs.Functions.{if_shown, in_module, shown_in}
use Rattle.rhai_functions.specs.Keys.{function_key_of}
use Rattle.rhai_functions.proofs.Searches.{ends_here}
use Rattle.rhai_functions.proofs.lookup.find_in_imports.Goals as goal

pub returns-in-Some : goal.returns-in-Some
returns-in-Some g c =
    let place : suc (c.imports.at - 1) ≡ c.imports.at = omega arith in
    sym (ends_here (λ i. shown_in (function_key_of c.args.key) (out-Import _ i).«module») c.args.imports.now (c.imports.at - 1)
    c.index-imports-at.result c.in-Some.function.now (omega arith) (rw place c.imports.invariant.0)
    (sym (c.in-Some.ensures ∙ ap if_shown (c.find_in_module.ensures ∙ ap (in_module (function_key_of c.args.key)) c.get.ensures))))
