-- The faults of a tree.
use Rattle.rhai_tree.specs.Types.{CheckFault, Position}
use Rattle.rhai_tree.specs.declared.fault.CheckFault.TheVariants.{BadOffset, BadImportOffset, BadChain, BadAssignment, BadSwitch}
use Rattle.rhai_tree.specs.declared.fault.CheckFault.TheVariants.{BadMapKey, BadCatch, LoopControlOutside, ExportNotGlobal, EvalCall}
use Rattle.rhai_tree.specs.declared.fault.CheckFault.TheVariants.{NotAnExpression, QualifiedMethod, NoMemory}
use Rattle.rhai_tree.specs.Position.{none}

-- where a fault stands, which is nowhere where memory ran out
abbrev pub place_of : CheckFault → Position
place_of (BadOffset pos) = pos
place_of (BadImportOffset pos) = pos
place_of (BadChain pos) = pos
place_of (BadAssignment pos) = pos
place_of (BadSwitch pos) = pos
place_of (BadMapKey pos) = pos
place_of (BadCatch pos) = pos
place_of (LoopControlOutside pos) = pos
place_of (ExportNotGlobal pos) = pos
place_of (EvalCall pos) = pos
place_of (NotAnExpression pos) = pos
place_of (QualifiedMethod pos) = pos
place_of NoMemory = none
