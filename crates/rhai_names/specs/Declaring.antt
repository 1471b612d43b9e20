-- When a variable may be declared.
use Rattle.std.specs.Prelude.{ℕ, Bool, true, false, not, ◌&&◌, List, Result, Ok, Err, is_some, length, nat_le}
use Rattle.rhai_tree.specs.declared.position.Position.{Position}
use Rattle.rhai_state.specs.declared.scope.ScopeEntry.{ScopeEntry}
use Rattle.rhai_errors.specs.declared.error.EvalAltResult.{EvalAltResult}
use Rattle.rhai_errors.specs.declared.error.EvalAltResult.TheVariants as error
use Rattle.rhai_state.specs.declared.limits.Limits.{Limits}
use Rattle.rhai_state.specs.Scope.{index_of}

module _ {H : Type 0} where
  -- a new variable may not have the name: shadowing is off, and the scope has it
  abbrev pub is_taken : (allow_shadowing : Bool) → List ℕ → List (ScopeEntry H) → Bool
  is_taken allow_shadowing name entries = not allow_shadowing && is_some (index_of name entries)

  -- the scope has no room for a new variable
  abbrev pub is_full : Limits → List (ScopeEntry H) → Bool
  is_full limits entries = nat_le limits.max_variables (length entries)

  -- that a variable may be declared, or why it may not
  abbrev pub declarable : List ℕ → Position → (taken full : Bool) → Result (Unit {0}) (EvalAltResult H)
  declarable name at true full = Err (error.ErrorVariableExists name at)
  declarable name at false true = Err (error.ErrorTooManyVariables at)
  declarable name at false false = Ok tt
