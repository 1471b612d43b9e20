use Rattle.std.proofs.Common.{◌≡◌, suc, ◌-◌, sym, arith}
use Rattle.rhai_functions.specs.Functions.{def_of, has_key}
use Rattle.rhai_functions.specs.Keys.{function_key_of}
use Rattle.rhai_functions.proofs.Searches.{is_last}
use Rattle.rhai_functions.proofs.lookup.last_with_key.Goals as goal

pub returns-then-fits : goal.returns-then-fits
returns-then-fits g c =
    let place : suc (c.functions.at - 1) ≡ c.functions.at = omega arith in
    sym (is_last (λ f. has_key (function_key_of c.args.key) (def_of f)) c.args.functions.now (c.functions.at - 1)
    c.index-functions-at.result (omega arith) (rw place c.functions.invariant.0) c.index-functions-at.is (cc))
