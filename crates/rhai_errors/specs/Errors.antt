-- What an error says of itself: its name, its position, and whether a script may catch it.
use Rattle.std.specs.Prelude.{ℕ, Bool, true, false, not, ◌||◌, List, ◌++◌, [], codes}
use Rattle.rhai_tree.specs.declared.expr.Expr.TheOpen as layer
use Rattle.rhai_tree.specs.declared.position.Position.{Position}
use Rattle.rhai_tree.specs.Layers.{ExprLayer}
use Rattle.rhai_errors.specs.declared.error.EvalAltResult.{EvalAltResult, ErrorInFunctionCall'}
use Rattle.rhai_errors.specs.declared.error.EvalAltResult.TheVariants as error
use Rattle.rhai_errors.specs.declared.error.WayOut.{WayOut}
use Rattle.rhai_errors.specs.declared.error.WayOut.TheVariants as way

-- the text of two types that do not go together: that of a value, and that of an index into it
abbrev pub indexing_text : (object index : List ℕ) → List ℕ
indexing_text object index = object ++ codes " [" ++ index ++ codes "]"

-- the name of a variable, the empty text of anything else
abbrev pub root_name : ExprLayer → List ℕ
root_name (layer.Variable offset name namespace pos) = name
root_name _ = []

module _ {H : Type 0} where
  -- the error of a value of another type than the one that is wanted
  abbrev pub mismatch : (wanted found : List ℕ) → Position → EvalAltResult H
  mismatch wanted found at = error.ErrorMismatchDataType (record { wanted = wanted; found = found }) at

  -- the position of an error
  abbrev pub position_of : EvalAltResult H → Position
  position_of (error.ErrorVariableExists text at) = at
  position_of (error.ErrorVariableNotFound text at) = at
  position_of (error.ErrorModuleNotFound text at) = at
  position_of (error.ErrorFunctionNotFound text at) = at
  position_of (ErrorInFunctionCall' shape call at) = at
  position_of (error.ErrorUnboundThis at) = at
  position_of (error.ErrorMismatchDataType types at) = at
  position_of (error.ErrorArrayBounds bounds at) = at
  position_of (error.ErrorStringBounds bounds at) = at
  position_of (error.ErrorBitFieldBounds bounds at) = at
  position_of (error.ErrorIndexingType text at) = at
  position_of (error.ErrorPropertyNotFound text at) = at
  position_of (error.ErrorFor at) = at
  position_of (error.ErrorDataRace text at) = at
  position_of (error.ErrorAssignmentToConstant text at) = at
  position_of (error.ErrorDotExpr text at) = at
  position_of (error.ErrorArithmetic text at) = at
  position_of (error.ErrorRuntime value at) = at
  position_of (error.ErrorNonPureMethodCallOnConstant text at) = at
  position_of (error.ErrorTooManyOperations at) = at
  position_of (error.ErrorTooManyVariables at) = at
  position_of (error.ErrorTooManyModules at) = at
  position_of (error.ErrorStackOverflow at) = at
  position_of (error.ErrorDataTooLarge text at) = at
  position_of (error.ErrorOutOfMemory at) = at
  position_of (error.Exit value at) = at
  position_of (error.Return value at) = at
  position_of (error.LoopBreak value is_break at) = at

  -- an error moved to another position
  abbrev pub at_position : Position → EvalAltResult H → EvalAltResult H
  at_position position (error.ErrorVariableExists text at) = error.ErrorVariableExists text position
  at_position position (error.ErrorVariableNotFound text at) = error.ErrorVariableNotFound text position
  at_position position (error.ErrorModuleNotFound text at) = error.ErrorModuleNotFound text position
  at_position position (error.ErrorFunctionNotFound text at) = error.ErrorFunctionNotFound text position
  at_position position (ErrorInFunctionCall' shape call at) = ErrorInFunctionCall' shape call position
  at_position position (error.ErrorUnboundThis at) = error.ErrorUnboundThis position
  at_position position (error.ErrorMismatchDataType types at) = error.ErrorMismatchDataType types position
  at_position position (error.ErrorArrayBounds bounds at) = error.ErrorArrayBounds bounds position
  at_position position (error.ErrorStringBounds bounds at) = error.ErrorStringBounds bounds position
  at_position position (error.ErrorBitFieldBounds bounds at) = error.ErrorBitFieldBounds bounds position
  at_position position (error.ErrorIndexingType text at) = error.ErrorIndexingType text position
  at_position position (error.ErrorPropertyNotFound text at) = error.ErrorPropertyNotFound text position
  at_position position (error.ErrorFor at) = error.ErrorFor position
  at_position position (error.ErrorDataRace text at) = error.ErrorDataRace text position
  at_position position (error.ErrorAssignmentToConstant text at) = error.ErrorAssignmentToConstant text position
  at_position position (error.ErrorDotExpr text at) = error.ErrorDotExpr text position
  at_position position (error.ErrorArithmetic text at) = error.ErrorArithmetic text position
  at_position position (error.ErrorRuntime value at) = error.ErrorRuntime value position
  at_position position (error.ErrorNonPureMethodCallOnConstant text at) = error.ErrorNonPureMethodCallOnConstant text position
  at_position position (error.ErrorTooManyOperations at) = error.ErrorTooManyOperations position
  at_position position (error.ErrorTooManyVariables at) = error.ErrorTooManyVariables position
  at_position position (error.ErrorTooManyModules at) = error.ErrorTooManyModules position
  at_position position (error.ErrorStackOverflow at) = error.ErrorStackOverflow position
  at_position position (error.ErrorDataTooLarge text at) = error.ErrorDataTooLarge text position
  at_position position (error.ErrorOutOfMemory at) = error.ErrorOutOfMemory position
  at_position position (error.Exit value at) = error.Exit value position
  at_position position (error.Return value at) = error.Return value position
  at_position position (error.LoopBreak value is_break at) = error.LoopBreak value is_break position

  -- the name of an error
  abbrev pub error_name : EvalAltResult H → List ℕ
  error_name (error.ErrorVariableExists text at) = codes "ErrorVariableExists"
  error_name (error.ErrorVariableNotFound text at) = codes "ErrorVariableNotFound"
  error_name (error.ErrorModuleNotFound text at) = codes "ErrorModuleNotFound"
  error_name (error.ErrorFunctionNotFound text at) = codes "ErrorFunctionNotFound"
  error_name (ErrorInFunctionCall' shape call at) = codes "ErrorInFunctionCall"
  error_name (error.ErrorUnboundThis at) = codes "ErrorUnboundThis"
  error_name (error.ErrorMismatchDataType types at) = codes "ErrorMismatchDataType"
  error_name (error.ErrorArrayBounds bounds at) = codes "ErrorArrayBounds"
  error_name (error.ErrorStringBounds bounds at) = codes "ErrorStringBounds"
  error_name (error.ErrorBitFieldBounds bounds at) = codes "ErrorBitFieldBounds"
  error_name (error.ErrorIndexingType text at) = codes "ErrorIndexingType"
  error_name (error.ErrorPropertyNotFound text at) = codes "ErrorPropertyNotFound"
  error_name (error.ErrorFor at) = codes "ErrorFor"
  error_name (error.ErrorDataRace text at) = codes "ErrorDataRace"
  error_name (error.ErrorAssignmentToConstant text at) = codes "ErrorAssignmentToConstant"
  error_name (error.ErrorDotExpr text at) = codes "ErrorDotExpr"
  error_name (error.ErrorArithmetic text at) = codes "ErrorArithmetic"
  error_name (error.ErrorRuntime value at) = codes "ErrorRuntime"
  error_name (error.ErrorNonPureMethodCallOnConstant text at) = codes "ErrorNonPureMethodCallOnConstant"
  error_name (error.ErrorTooManyOperations at) = codes "ErrorTooManyOperations"
  error_name (error.ErrorTooManyVariables at) = codes "ErrorTooManyVariables"
  error_name (error.ErrorTooManyModules at) = codes "ErrorTooManyModules"
  error_name (error.ErrorStackOverflow at) = codes "ErrorStackOverflow"
  error_name (error.ErrorDataTooLarge text at) = codes "ErrorDataTooLarge"
  error_name (error.ErrorOutOfMemory at) = codes "ErrorOutOfMemory"
  error_name (error.Exit value at) = codes "Exit"
  error_name (error.Return value at) = codes "Return"
  error_name (error.LoopBreak value is_break at) = codes "LoopBreak"

  -- a limit was met
  abbrev pub is_limit : EvalAltResult H → Bool
  is_limit (error.ErrorTooManyOperations at) = true
  is_limit (error.ErrorTooManyVariables at) = true
  is_limit (error.ErrorTooManyModules at) = true
  is_limit (error.ErrorStackOverflow at) = true
  is_limit (error.ErrorDataTooLarge text at) = true
  is_limit _ = false

  -- memory ran out
  abbrev pub is_out_of_memory : EvalAltResult H → Bool
  is_out_of_memory (error.ErrorOutOfMemory at) = true
  is_out_of_memory _ = false

  -- an error of the system: a limit was met, or memory ran out
  abbrev pub is_system : EvalAltResult H → Bool
  is_system e = is_limit e || is_out_of_memory e

  -- no error, but the way in which a script, a function or a loop is left
  abbrev pub is_pseudo : EvalAltResult H → Bool
  is_pseudo (error.Exit value at) = true
  is_pseudo (error.Return value at) = true
  is_pseudo (error.LoopBreak value is_break at) = true
  is_pseudo _ = false

  -- the way out that a run takes by an error
  abbrev pub way_out_of : EvalAltResult H → WayOut H
  way_out_of (error.Return value at) = way.Return value at
  way_out_of (error.Exit value at) = way.Exit value at
  way_out_of (error.LoopBreak value is_break at) = way.LoopBreak value is_break at
  way_out_of e = way.Error e

  -- the error of a way out
  abbrev pub error_of : WayOut H → EvalAltResult H
  error_of (way.Return value at) = error.Return value at
  error_of (way.Exit value at) = error.Exit value at
  error_of (way.LoopBreak value is_break at) = error.LoopBreak value is_break at
  error_of (way.Error e) = e

  -- a script may catch the error: it is neither of the system nor a way to leave a script, a function or a loop
  abbrev pub is_catchable : EvalAltResult H → Bool
  is_catchable e = not (is_system e || is_pseudo e)
