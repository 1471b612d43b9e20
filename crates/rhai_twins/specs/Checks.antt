-- Two answers of the checker.
use Rattle.std.specs.Prelude.{Bool, true, false, Result, Ok, Err}
use Rattle.rhai_tree.specs.declared.fault.CheckFault.{CheckFault}
use Rattle.rhai_tree.specs.declared.fault.CheckFault.TheVariants as fault

-- memory ran out while the checker ran
abbrev pub check_ran_out : {A : Type 0} → Result A CheckFault → Bool
check_ran_out (Ok value) = false
check_ran_out (Err fault.NoMemory) = true
check_ran_out (Err e) = false
