-- A script's ending: its exit status, and what is said of a refusal.
use Rattle.std.specs.Prelude.{⊤, ℕ}
use Rattle.rhai_tree.specs.declared.fault.CheckFault.{CheckFault}
use Rattle.rhai_rows.specs.declared.outcome.Ending.{Ending}
use Rattle.rhai_rows.specs.declared.outcome.Ending.TheVariants.{Refused, Value, Error}

-- the exit status of an ending: 0 for a value, 1 for an error, 2 for a refusal
abbrev pub status_of : Ending → ℕ
status_of (Value v) = 0
status_of (Error e) = 1
status_of (Refused f) = 2

-- a fact of the fault for which the checker refused a script
abbrev pub IfRefused : Ending → (CheckFault → Type 0) → Type 0
IfRefused (Refused f) p = p f
IfRefused _ p = ⊤
