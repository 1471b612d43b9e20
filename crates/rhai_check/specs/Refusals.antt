-- What the checker may answer where it does not pass a part.
use Rattle.std.specs.Prelude.{◌≡◌, Bool, IsTrue, List, [], ◌∷◌}
use Rattle.rhai_check.specs.Types.{CheckFault}
use Rattle.rhai_tree.specs.declared.fault.CheckFault.TheVariants.{BadOffset, BadImportOffset, BadChain, BadAssignment, BadSwitch}
use Rattle.rhai_tree.specs.declared.fault.CheckFault.TheVariants.{BadMapKey, BadCatch, LoopControlOutside, ExportNotGlobal, EvalCall}
use Rattle.rhai_tree.specs.declared.fault.CheckFault.TheVariants.{NotAnExpression, QualifiedMethod, NoMemory}

-- a fault is the first of some
abbrev pub IsFirst : List CheckFault → CheckFault → Type 0
IsFirst [] fault = ⊥
IsFirst (first ∷ rest) fault = first ≡ fault

-- the checker may answer a fault: the first of a part, or that memory ran out, where the part may need some
abbrev pub Refuses : List CheckFault → Bool → CheckFault → Type 0
Refuses faults declares (BadOffset pos) = IsFirst faults (BadOffset pos)
Refuses faults declares (BadImportOffset pos) = IsFirst faults (BadImportOffset pos)
Refuses faults declares (BadChain pos) = IsFirst faults (BadChain pos)
Refuses faults declares (BadAssignment pos) = IsFirst faults (BadAssignment pos)
Refuses faults declares (BadSwitch pos) = IsFirst faults (BadSwitch pos)
Refuses faults declares (BadMapKey pos) = IsFirst faults (BadMapKey pos)
Refuses faults declares (BadCatch pos) = IsFirst faults (BadCatch pos)
Refuses faults declares (LoopControlOutside pos) = IsFirst faults (LoopControlOutside pos)
Refuses faults declares (ExportNotGlobal pos) = IsFirst faults (ExportNotGlobal pos)
Refuses faults declares (EvalCall pos) = IsFirst faults (EvalCall pos)
Refuses faults declares (NotAnExpression pos) = IsFirst faults (NotAnExpression pos)
Refuses faults declares (QualifiedMethod pos) = IsFirst faults (QualifiedMethod pos)
Refuses faults declares NoMemory = IsTrue declares
