use Rattle.std.specs.Prelude.{◌≡◌, ◌≤◌, take}
use Rattle.rhai_tree.specs.Names.{offset_of}
use Rattle.rhai_check.proofs.check.names.offset_of.Given as goal

abbrev pub invariant-each : goal.invariant-each
invariant-each l = record { offset : l.offset ≡ offset_of l.name (take l.other-index l.names); within : l.offset ≤ l.other-index }
