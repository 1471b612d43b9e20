use Rattle.std.specs.Prelude.{◌≡◌, ◌++◌, drop}
use Rattle.std.specs.String.{string_bytes}
use Rattle.rhai_machine.specs.Qualified.{text_behind}
use Rattle.rhai_names.proofs.qualified.push_behind.Given as goal

abbrev pub invariant-names : goal.invariant-names
invariant-names l = string_bytes l.text ++ text_behind (drop l.name-index l.names) ≡ string_bytes l.fn.text ++ text_behind l.names
