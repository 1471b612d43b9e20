-- What a run of the code is to the machine: the engine and the table as its rules.
use Rattle.std.specs.Prelude.{ℕ, ◌-◌, ◌^◌, List}
use Rattle.rhai_state.specs.Limits.{limit_of}
use Rattle.rhai_state.specs.declared.limits.Limits.{Limits}
use Rattle.rhai_errors.specs.Native.{Natives}
use Rattle.rhai_machine.specs.language.Setting.{Offer, Rules, rules_of}
use Rattle.rhai_eval.specs.declared.engine.Engine.{Engine}

-- no limit of operations, of variables, of modules or of data, and calls up to 64 deep
abbrev pub unlimited : Limits
unlimited = record {
  max_operations = 2 ^ 64 - 1;
  max_variables = 2 ^ 64 - 1;
  max_modules = 2 ^ 64 - 1;
  max_call_levels = 64;
  max_array_size = 0;
  max_map_size = 0;
  max_string_size = 0;
}

module _ {H : Type 0} where
  -- what a run reads of an engine's limits, where no limit of operations is the greatest count
  abbrev pub limits_of : Engine H → Limits
  limits_of engine = record {
    max_operations = limit_of engine.max_operations;
    max_variables = engine.max_variables;
    max_modules = engine.max_modules;
    max_call_levels = engine.max_call_levels;
    max_array_size = engine.max_array_size;
    max_map_size = engine.max_map_size;
    max_string_size = engine.max_string_size;
  }

  -- what a run reads of an engine but its limits: its switches and its modules
  abbrev pub offer_of : Engine H → Offer H
  offer_of engine = record {
    fast_operators = engine.fast_operators;
    allow_shadowing = engine.allow_shadowing;
    fail_on_invalid_map_property = engine.fail_on_invalid_map_property;
    global_modules = engine.global_modules;
    global_sub_modules = engine.global_sub_modules;
    modules = engine.modules.modules;
  }

  -- under a host's type names, an engine and a table
  abbrev pub under : {S : Type 0} → (H → List ℕ) → Engine H → Natives S H → Rules S H
  under host engine natives = rules_of (limits_of engine) host (offer_of engine) natives
