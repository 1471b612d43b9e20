use Rattle.std.specs.Prelude.{◌≡◌, [], take}
use Rattle.rhai_check.proofs.check.function.check_def.Given as goal

abbrev pub invariant-each : goal.invariant-each
invariant-each l = l.declared ≡ record { names = take l.param-index l.fn.def.params; imports = [] }
