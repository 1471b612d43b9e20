-- What an operator does once its operands are there.
use Rattle.std.specs.Prelude.{List}
use Rattle.rhai_machine.specs.language.Setting.{Setting}
use Rattle.rhai_machine.specs.language.State.{Local}
use Rattle.rhai_machine.specs.language.Frames.{Call, Frame, Core}
use Rattle.rhai_machine.specs.language.Calls.{builtin_of, operator_core}

-- its built-in is tried
abbrev pub operator_there : {H : Type 0} → Setting H → Call H → List (Frame H) → Local H → Core H
operator_there s call k l = operator_core s (builtin_of call.operation.token call.args) call k l
