-- Whether a body may be entered, and what the end of its call will take back.
use Rattle.std.specs.Prelude.{⊤, ℕ, ◌+◌, Bool, true, false, ◌++◌, Option, Some, None, Result, Ok, Err, length, nat_lt}
use Rattle.rhai_tree.specs.declared.position.Position.{Position}
use Rattle.rhai_errors.specs.declared.error.EvalAltResult.{EvalAltResult}
use Rattle.rhai_errors.specs.declared.error.EvalAltResult.TheVariants as error
use Rattle.rhai_state.specs.declared.limits.Limits.{Limits}
use Rattle.rhai_state.specs.declared.scope.Scope.{Scope}
use Rattle.rhai_lookups.specs.declared.run.RunState.{RunState}
use Rattle.rhai_state.specs.Scope.{entries_of}
use Rattle.rhai_values.specs.declared.base.value.EncapsulatedEnviron.{EncapsulatedEnviron, out-EncapsulatedEnviron}
use Rattle.rhai_bodies.specs.declared.opening.CallExit.{CallExit}

-- a level is deeper than calls may be
abbrev pub is_deep : Limits → (level : ℕ) → Bool
is_deep limits level = nat_lt limits.max_call_levels level

-- a scope of so many variables has no room for so many parameters
abbrev pub is_full : Limits → (variables parameters : ℕ) → Bool
is_full limits variables parameters = nat_lt limits.max_variables (variables + parameters)

module _ {H : Type 0} where
  -- whether a body may be entered, or why not
  abbrev pub enterable : (deep full : Bool) → Position → Result (Unit {0}) (EvalAltResult H)
  enterable true full at = Err (error.ErrorStackOverflow at)
  enterable false true at = Err (error.ErrorTooManyVariables at)
  enterable false false at = Ok tt

  -- whether a body may be entered at a level, under so many variables, with so many parameters, or why not
  abbrev pub entry : Limits → (level variables parameters : ℕ) → Position → Result (Unit {0}) (EvalAltResult H)
  entry limits level variables parameters at = enterable (is_deep limits level) (is_full limits variables parameters) at

  -- what the end of a call takes back of a state and a scope
  abbrev pub exit_seen : RunState H → Scope H → CallExit
  exit_seen global scope = record {
    scope_length = length (entries_of scope);
    lib_length = length global.lists.0;
    imports_length = length global.lists.1;
    constants = global.constants;
    level = global.level;
  }

  -- a state with what an environment brings: its libraries and imports behind those that are there, and its constants
  abbrev pub brought : Option (EncapsulatedEnviron H) → RunState H → RunState H
  brought None global = global
  brought (Some environ) global =
      let e = out-EncapsulatedEnviron H environ in
      record global { lists = (global.lists.0 ++ e.lib, global.lists.1 ++ e.imports); constants = e.constants }

  -- the state that a body runs in, at a level
  abbrev pub entered_global : Option (EncapsulatedEnviron H) → (level : ℕ) → RunState H → RunState H
  entered_global environ level global = record (brought environ global) { level = level }

-- a claim that is made only where a body was entered
abbrev pub OnEntered : {E : Type 0} → Result (Option CallExit) E → Type 0 → Type 0
OnEntered (Ok (Some exit)) P = P
OnEntered _ P = ⊤

-- a claim that is made only where a body without statements was passed over
abbrev pub OnPassed : {E : Type 0} → Result (Option CallExit) E → Type 0 → Type 0
OnPassed (Ok None) P = P
OnPassed _ P = ⊤

-- a claim that is made only where no body was entered
abbrev pub UnlessEntered : {E : Type 0} → Result (Option CallExit) E → Type 0 → Type 0
UnlessEntered (Ok (Some exit)) P = ⊤
UnlessEntered _ P = P
