use Rattle.std.proofs.Common.{◌≡◌, drop}
use Rattle.rhai_machine.specs.language.Arguments.{is_identifier}
use Rattle.rhai_call_forms.proofs.names.is_identifier.Given as goal

abbrev pub invariant-loop-i : goal.invariant-loop-i
invariant-loop-i l = is_identifier l.bytes ≡ is_identifier (drop l.i l.bytes)
