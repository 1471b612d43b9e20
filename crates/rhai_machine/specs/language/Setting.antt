-- What is fixed while a script runs: the limits, what the engine offers, and the table of natives.
use Rattle.std.specs.Prelude.{ℕ, Bool, List}
use Rattle.rhai_machine.specs.Types.{Limits, Module}
use Rattle.rhai_errors.specs.Native.{Natives}
use Rattle.rhai_machine.specs.machine.Machine.{below}

-- the switches and the modules of an engine
pub record Offer (H : Type 0) : Type 0 where
  pub fast_operators : Bool
  pub allow_shadowing : Bool
  pub fail_on_invalid_map_property : Bool
  pub global_modules : List (Module H)
  pub global_sub_modules : List (List ℕ) × List (Module H)
  pub modules : List (List ℕ) × List (Module H)

-- the modules of an engine that names lead to: those whose constants and functions are found without a path, and those that have names
pub record Globals (H : Type 0) : Type 0 where
  pub modules : List (Module H)
  pub named : List (List ℕ) × List (Module H)

-- what is fixed for the rules of the language: the limits, what the engine offers, and the type names of host values
pub record Setting (H : Type 0) : Type 0 where
  pub limits : Limits
  pub offer : Offer H
  -- the type name of a host value
  pub host_type : H → List ℕ

-- what a run is under: a setting, and a table of natives
pub record Rules (S H : Type 0) : Type 0 where
  pub setting : Setting H
  pub natives : Natives S H

-- the modules that names lead to, of an engine's offer
abbrev pub globals_of : {H : Type 0} → Offer H → Globals H
globals_of offer = record { modules = offer.global_modules; named = offer.global_sub_modules }

module _ {S H : Type 0} where
  -- the rules of a setting over a table of natives
  abbrev pub over : Setting H → Natives S H → Rules S H
  over setting natives = record { setting = setting; natives = natives }

  -- the rules of these limits, these type names of host values, this offer and these natives
  abbrev pub rules_of : Limits → (H → List ℕ) → Offer H → Natives S H → Rules S H
  rules_of limits host offer natives = over (record { limits = limits; offer = offer; host_type = host }) natives

  -- the limit of operations
  abbrev pub limit_under : Rules S H → ℕ
  limit_under rules = rules.setting.limits.max_operations

  -- the limit of operations as a test of the count: a charge is let through while the count is below it
  abbrev pub cut : Rules S H → ℕ → Bool
  cut rules = below (limit_under rules)
