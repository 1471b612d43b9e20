-- A call's name, operator and position, as the rules of the machine have them.
use Rattle.rhai_machine.specs.language.Frames.{Operation}
use Rattle.rhai_steps.specs.declared.operation.Operation.{Operation as CodeOperation}

-- an operation of the code
abbrev pub operation_of : CodeOperation → Operation
operation_of operation = record { name = operation.name.now; token = operation.token; at = operation.at }
