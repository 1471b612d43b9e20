-- What a script runs with.
use Rattle.std.specs.Prelude.{ℕ, Bool, true, false}
use Rattle.rhai_state.specs.declared.limits.Limits.{Limits}
use Rattle.rhai_rows.specs.declared.settings.Settings.{Settings}
use Rattle.rhai_rows.specs.declared.settings.Setting.{Setting}
use Rattle.rhai_rows.specs.declared.settings.Setting.TheVariants.{Usual, MaxOperations, MaxVariables, MaxArraySize, MaxCallLevels}
use Rattle.rhai_rows.specs.declared.settings.Setting.TheVariants.{WithoutFastOperators, WithoutShadowing, FailingOnMissingKeys}
use Rattle.rhai_rows.specs.declared.settings.Setting.TheVariants.{WithModules, MaxModules, MaxOperationsWithModules}
use Rattle.rhai_rows.specs.declared.settings.Setting.TheVariants.{MaxCallLevelsWithModules, WithGlobalModules, MaxMapSize, MaxStringSize}
use Rattle.rhai_rows.specs.declared.settings.Setting.TheVariants.{WithOddNatives, WithOddNativesAndExits, WithOddOperators}
use Rattle.rhai_rows.specs.declared.settings.Setting.TheVariants.{Starting, StartingWithModules}
use Rattle.rhai_rows.specs.declared.start.Start.{Start}

-- no limits of operations and of data, and at most 1000 variables, 100 modules and 64 levels of calls
abbrev pub usual_limits : Limits
usual_limits = record {
  max_operations = 0;
  max_variables = 1000;
  max_modules = 100;
  max_call_levels = 64;
  max_array_size = 0;
  max_map_size = 0;
  max_string_size = 0;
}

-- nothing is counted before a run, and no cell is held
abbrev pub nothing : Start
nothing = record { num_operations = 0; num_modules_loaded = 0; level = 0; scope_level = 0; has_held_cell = false }

-- the usual limits, with fast operators and variables that may hide others, and with no other switch on
abbrev pub usual : Settings
usual = record {
  limits = usual_limits;
  fast_operators = true;
  allow_shadowing = true;
  fail_on_invalid_map_property = false;
  map_exit_to_return_value = false;
  has_modules = false;
  has_global_modules = false;
  has_odd_natives = false;
  start = nothing;
}

-- the usual settings, but for the limit of operations
abbrev pub under_operations : (count : ℕ) → Settings
under_operations count = record usual { limits = record usual_limits { max_operations = count } }

-- the usual settings, but for the limit of variables
abbrev pub under_variables : (count : ℕ) → Settings
under_variables count = record usual { limits = record usual_limits { max_variables = count } }

-- the usual settings, but for the limit of an array's items
abbrev pub under_array_size : (size : ℕ) → Settings
under_array_size size = record usual { limits = record usual_limits { max_array_size = size } }

-- the usual settings, but for the limit of a map's entries
abbrev pub under_map_size : (size : ℕ) → Settings
under_map_size size = record usual { limits = record usual_limits { max_map_size = size } }

-- the usual settings, but for the limit of a text's bytes
abbrev pub under_string_size : (size : ℕ) → Settings
under_string_size size = record usual { limits = record usual_limits { max_string_size = size } }

-- the usual settings, but for the limit of how deep calls are
abbrev pub under_call_levels : (levels : ℕ) → Settings
under_call_levels levels = record usual { limits = record usual_limits { max_call_levels = levels } }

-- the usual settings, but for modules to import and these limits
abbrev pub with_modules : Limits → Settings
with_modules limits = record usual { limits = limits; has_modules = true }

-- the usual settings, but with the natives of `Odd`, and with these two switches
abbrev pub with_odd_natives : (fast exits : Bool) → Settings
with_odd_natives fast exits = record usual { fast_operators = fast; map_exit_to_return_value = exits; has_odd_natives = true }

-- the settings in which this is set, and all else is as usual
abbrev pub settings_of : Setting → Settings
settings_of Usual = usual
settings_of (MaxOperations count) = under_operations count
settings_of (MaxVariables count) = under_variables count
settings_of (MaxArraySize size) = under_array_size size
settings_of (MaxMapSize size) = under_map_size size
settings_of (MaxStringSize size) = under_string_size size
settings_of (MaxCallLevels levels) = under_call_levels levels
settings_of WithoutFastOperators = record usual { fast_operators = false }
settings_of WithoutShadowing = record usual { allow_shadowing = false }
settings_of FailingOnMissingKeys = record usual { fail_on_invalid_map_property = true }
settings_of WithModules = with_modules usual_limits
settings_of (MaxModules count) = with_modules (record usual_limits { max_modules = count })
settings_of (MaxOperationsWithModules count) = with_modules (record usual_limits { max_operations = count })
settings_of (MaxCallLevelsWithModules levels) = with_modules (record usual_limits { max_call_levels = levels })
settings_of WithGlobalModules = record usual { has_modules = true; has_global_modules = true }
settings_of WithOddNatives = with_odd_natives true false
settings_of WithOddNativesAndExits = with_odd_natives true true
settings_of WithOddOperators = with_odd_natives false false
settings_of (Starting start) = record usual { start = start }
settings_of (StartingWithModules start) = record usual { start = start; has_modules = true }
