use Rattle.std.specs.Prelude.{◌≡◌, drop}
use Rattle.std.specs.List.{list_any}
use Rattle.rhai_machine.specs.language.Statements.{has_some as has_some_in}
use Rattle.rhai_names.proofs.constants.any_has_some.Given as goal

abbrev pub invariant-modules : goal.invariant-modules
invariant-modules g l = list_any has_some_in (drop l.library-index l.lib) ≡ list_any has_some_in l.fn.lib
