-- Calls behind a path: which argument is charged first and read last, and what comes of the call once the others are there.
use Rattle.std.specs.Prelude.{◌≡◌, ◌<◌, ◌≤◌, ◌+◌, ℕ, Bool, true, ◌&&◌, ◌||◌, List, [], ◌∷◌, length, Option, Some, None, Result, Ok, Err}
use Rattle.std.specs.Prelude.{is_some, if◌then◌else◌}
use Rattle.rhai_tree.specs.declared.expr.Expr.{Expr, out-Expr}
use Rattle.rhai_tree.specs.declared.expr.Expr.TheOpen as layer
use Rattle.rhai_tree.specs.declared.expr.Namespace.{Namespace}
use Rattle.rhai_tree.specs.declared.position.Position.{Position}
use Rattle.rhai_tree.specs.Layers.{ExprLayer}
use Rattle.rhai_tree.specs.Positions.{position_of}
use Rattle.rhai_values.specs.declared.base.value.Dynamic.{Dynamic}
use Rattle.rhai_values.specs.declared.base.value.Module.{Module}
use Rattle.rhai_errors.specs.declared.error.EvalAltResult.{EvalAltResult}
use Rattle.rhai_errors.specs.declared.error.EvalAltResult.TheVariants as error
use Rattle.rhai_state.specs.declared.scope.ScopeEntry.{ScopeEntry}
use Rattle.rhai_lookups.specs.declared.run.RunState.{RunState}
use Rattle.rhai_functions.specs.declared.function.Function.{Function}
use Rattle.rhai_functions.specs.Functions.{FunctionKey}
use Rattle.rhai_machine.specs.language.Setting.{Globals}
use Rattle.rhai_machine.specs.language.State.{Surroundings}
use Rattle.rhai_machine.specs.language.Values.{copied}
use Rattle.rhai_machine.specs.language.Functions.{key_by}
use Rattle.rhai_machine.specs.language.Variables.{Path, variable_in, variable_named}
use Rattle.rhai_machine.specs.language.Names.{bound_this, meant}
use Rattle.rhai_machine.specs.language.Frames.{Dispatch, Operation, Purpose, ToCall, ToCallOn, ToCallOnThis}
use Rattle.rhai_machine.specs.language.Calls.{public_behind, public_from, types_of}
use Rattle.rhai_machine.specs.language.Arguments.{this_in}
use Rattle.rhai_steps.specs.Agreement.{Test, root_is_good, variable_leads}
use Rattle.rhai_calls.specs.declared.dispatch.Called.TheVariants.{Ended, Enters}
use Rattle.rhai_calls.specs.Called.{Outcome}
use Rattle.rhai_names.specs.Passed.{meaning_passed}

-- the offset of a variable leads to the newest of its name, and the index of its path to the newest import of its root's
abbrev pub form_is_good : ExprLayer → Test
form_is_good (layer.Variable offset name namespace pos) frame = variable_leads offset name namespace frame
form_is_good _ frame = true

-- so is it with what is read last, if anything is
abbrev pub last_is_good : (last : Option Expr) → Test
last_is_good (Some arg) frame = form_is_good (out-Expr arg) frame
last_is_good None frame = true

-- and with a call behind a path, whose index leads to the newest import of its root's name
abbrev pub behind_is_good : (last : Option Expr) → Namespace → Test
behind_is_good last namespace frame = last_is_good last frame && root_is_good namespace frame

module _ {H : Type 0} where
  -- an argument that is charged first and read last: `this` that is bound and no handle, or a variable
  abbrev pub is_read_last : ExprLayer → (this : Option (Dynamic H)) → Bool
  is_read_last arg this = is_some (this_in arg this) || is_some (variable_in arg)

  -- the first argument, where it is one
  abbrev pub last_of : List Expr → (this : Option (Dynamic H)) → Option Expr
  last_of [] this = None
  last_of (arg ∷ args) this = if is_read_last (out-Expr arg) this then Some arg else None

  -- and the arguments that are evaluated before it
  abbrev pub before_last : List Expr → (this : Option (Dynamic H)) → List Expr
  before_last [] this = []
  before_last (arg ∷ args) this = if is_read_last (out-Expr arg) this then args else arg ∷ args

  -- what the other arguments are for
  abbrev pub purpose_on : ExprLayer → Operation → Dispatch → Purpose H
  purpose_on (layer.Variable offset name namespace pos) operation how = ToCallOn operation (variable_named name namespace pos) how
  purpose_on (layer.ThisPtr pos) operation how = ToCallOnThis operation pos how
  purpose_on _ operation how = ToCall operation [] how

  -- what the other arguments are for, by the argument that is read last, if there is one
  abbrev pub purpose_of : (last : Option Expr) → Operation → Dispatch → Purpose H
  purpose_of (Some arg) operation how = purpose_on (out-Expr arg) operation how
  purpose_of None operation how = ToCall operation [] how

  -- what is read last is charged, if anything is
  abbrev pub IsCharged : (limit : ℕ) → (last : Option Expr) → (old new : RunState H) → Type 0
  IsCharged limit (Some arg) old new =
      (old.num_operations < limit) × (new ≡ record old { num_operations = old.num_operations + 1 })
  IsCharged limit None old new = new ≡ old

  -- the limit has no room for the charge of what is read last
  abbrev pub IsSpent : (limit : ℕ) → (last : Option Expr) → RunState H → EvalAltResult H → Type 0
  IsSpent limit (Some arg) global e = (limit ≤ global.num_operations) × (e ≡ error.ErrorTooManyOperations (position_of arg))
  IsSpent limit None global e = ⊥

  -- the arguments with what is read last before the others
  abbrev pub led_by : (first : Option (Result (Dynamic H) (EvalAltResult H))) → (args : List (Dynamic H)) →
      Result (List (Dynamic H)) (EvalAltResult H)
  led_by None args = Ok args
  led_by (Some (Ok v)) args = Ok (v ∷ args)
  led_by (Some (Err e)) args = Err e

  -- a function is entered with all arguments, or there is none
  abbrev pub enters : Result (Function H) (EvalAltResult H) → List (Dynamic H) → Outcome H
  enters (Ok f) args = Enters (f, args)
  enters (Err e) args = Ended (Err e)

  -- the public function of a key in the module that a path leads to, which begins at a root, if there is one; an empty path has none
  abbrev pub public_from_root : Option (Module H) → (path : List (List ℕ)) → (path_at : Position) → FunctionKey →
      (types : List (List ℕ)) → Position → Result (Function H) (EvalAltResult H)
  public_from_root root [] path_at key types at = Err (error.ErrorModuleNotFound [] path_at)
  public_from_root root (first ∷ rest) path_at key types at = public_from root (first ∷ rest) rest path_at key types at

  module _ (globals : Globals H) (around : Surroundings H) where
    -- the public function of a key in the module that a path leads to, or why there is none
    abbrev pub public_at : (path : List (List ℕ)) → (path_at : Position) → FunctionKey → (types : List (List ℕ)) → Position →
        Result (Function H) (EvalAltResult H)
    public_at [] path_at key types at = Err (error.ErrorModuleNotFound [] path_at)
    public_at (root ∷ path) path_at key types at = public_behind around.imports globals.named root path path_at key types at

    module _ (host : H → List ℕ) (path : Path) (name : List ℕ) (at : Position) where
      -- the function of a name for these arguments
      abbrev pub public_for : List (Dynamic H) → Result (Function H) (EvalAltResult H)
      public_for all = public_at path.names path.at (key_by name (length all) None) (types_of host around.cells all) at

      -- the function of a name is entered with all its arguments, or there is none, or an argument failed
      abbrev pub public_call : Result (List (Dynamic H)) (EvalAltResult H) → Outcome H
      public_call (Ok all) = enters (public_for all) all
      public_call (Err e) = Ended (Err e)

    module _ (scope : List (ScopeEntry H)) (this : Option (Dynamic H)) where
      -- what is read last, as a function gets it: of a variable a copy without its handle, and of `this` a copy
      abbrev pub value_at : ExprLayer → Option (Result (Dynamic H) (EvalAltResult H))
      value_at (layer.Variable offset name namespace pos) =
          Some (meaning_passed around.cells pos (meant globals around scope (variable_named name namespace pos)))
      value_at (layer.ThisPtr pos) = Some (copied (bound_this pos this))
      value_at _ = None

      -- the value of the argument that is read last, None where there is no such argument
      abbrev pub last_value : (last : Option Expr) → Option (Result (Dynamic H) (EvalAltResult H))
      last_value (Some arg) = value_at (out-Expr arg)
      last_value None = None

      -- what a call behind a path comes to
      abbrev pub behind_call : (H → List ℕ) → (last : Option Expr) → Path → (name : List ℕ) → (args : List (Dynamic H)) → Position →
          Outcome H
      behind_call host last path name args at = public_call host path name at (led_by (last_value last) args)
