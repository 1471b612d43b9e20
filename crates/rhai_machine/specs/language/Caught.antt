-- What a `catch` makes of an error: the value of its variable, and the error that its branch raises again.
use Rattle.std.specs.Prelude.{ℕ, pos, Bool, true, false, List, [], ◌++◌, Option, Some, None, option_map, Result, Ok, Err, codes}
use Rattle.rhai_machine.specs.Types.{Dynamic, EvalAltResult}
use Rattle.rhai_tree.specs.Position.{number_of}
use Rattle.rhai_tree.specs.Lookup.{with_entry}
use Rattle.rhai_values.specs.declared.base.value.Union.TheVariants as value
use Rattle.rhai_values.specs.Copy.{copy_of, plain}
use Rattle.rhai_errors.specs.declared.error.EvalAltResult.TheOpen as layer
use Rattle.rhai_errors.specs.declared.error.EvalAltResult.TheFolds.{fold-EvalAltResult}
use Rattle.rhai_errors.specs.declared.error.EvalAltResult.TheVariants as error
use Rattle.rhai_errors.specs.Errors.{at_position, error_name, position_of}
use Rattle.rhai_machine.specs.language.Values.{Cells, through}
use Rattle.rhai_machine.specs.language.Located.{is_unit}

-- a name, with a text after it where there is one
abbrev pub with_text : List ℕ → Option (List ℕ) → List ℕ
with_text name None = name
with_text name (Some text) = name ++ codes ": " ++ text

module _ {H : Type 0} where
  -- ---- a thrown value

  -- the value that one level of an error throws, itself or in a function's call
  abbrev pub thrown_by : layer.EvalAltResult-F H (Option (Dynamic H)) (Option (Dynamic H)) → Option (Dynamic H)
  thrown_by (layer.ErrorInFunctionCall call at) = call
  thrown_by (layer.ErrorRuntime v at) = Some v
  thrown_by _ = None

  -- the value that an error throws, itself or inside of function calls
  abbrev pub thrown : EvalAltResult H → Option (Dynamic H)
  thrown = fold-EvalAltResult H (Option (Dynamic H)) (Option (Dynamic H)) thrown_by (λ call. call.error)

  -- ---- a map of an error that throws none

  -- the first text of one level of an error: of a call the function's name, of two types the one that is wanted
  abbrev pub text_by : layer.EvalAltResult-F H (Option (List ℕ)) (List ℕ) → Option (List ℕ)
  text_by (layer.ErrorVariableExists text at) = Some text
  text_by (layer.ErrorVariableNotFound text at) = Some text
  text_by (layer.ErrorModuleNotFound text at) = Some text
  text_by (layer.ErrorFunctionNotFound text at) = Some text
  text_by (layer.ErrorInFunctionCall call at) = Some call
  text_by (layer.ErrorMismatchDataType types at) = Some types.wanted
  text_by (layer.ErrorIndexingType text at) = Some text
  text_by (layer.ErrorPropertyNotFound text at) = Some text
  text_by (layer.ErrorDataRace text at) = Some text
  text_by (layer.ErrorAssignmentToConstant text at) = Some text
  text_by (layer.ErrorDotExpr text at) = Some text
  text_by (layer.ErrorArithmetic text at) = Some text
  text_by (layer.ErrorNonPureMethodCallOnConstant text at) = Some text
  text_by (layer.ErrorDataTooLarge text at) = Some text
  text_by _ = None

  -- the first text of an error, if it has one
  abbrev pub text_of_error : EvalAltResult H → Option (List ℕ)
  text_of_error = fold-EvalAltResult H (Option (List ℕ)) (List ℕ) text_by (λ call. call.name)

  -- the message of an error: its name, and its first text where it has one
  abbrev pub message_of : EvalAltResult H → List ℕ
  message_of e = with_text (error_name e) (text_of_error e)

  -- a text, read-write
  abbrev pub text_value : List ℕ → Dynamic H
  text_value text = plain (value.Str text)

  -- a number as an integer, read-write
  abbrev pub number_value : ℕ → Dynamic H
  number_value n = plain (value.Int (pos n))

  -- a map's entries with one more, where its value is known
  abbrev pub with_known : List ℕ → Option (Dynamic H) → List (List ℕ) × List (Dynamic H) → List (List ℕ) × List (Dynamic H)
  with_known key (Some v) entries = with_entry key v entries
  with_known key None entries = entries

  -- the entries of an error's map: its name and its message, and where they are known its line, its position there, and the source
  abbrev pub error_entries : (source : Option (List ℕ)) → EvalAltResult H → List (List ℕ) × List (Dynamic H)
  error_entries source e = with_known (codes "source") (option_map text_value source)
      (with_known (codes "position") (option_map number_value (number_of (position_of e).pos))
      (with_known (codes "line") (option_map number_value (number_of (position_of e).line))
      (with_entry (codes "message") (text_value (message_of e)) (with_entry (codes "error") (text_value (error_name e)) ([], [])))))

  -- the map of an error, read-write
  abbrev pub error_map : (source : Option (List ℕ)) → EvalAltResult H → Dynamic H
  error_map source e = plain (value.Map {X1 = H} (error_entries source e))

  -- ---- the catch variable, and the branch's own errors

  -- the value of a catch variable: a copy of the value that was thrown, or a map of the error
  abbrev pub caught_value : (thrown : Option (Dynamic H)) → (source : Option (List ℕ)) → EvalAltResult H → Dynamic H
  caught_value (Some v) source e = copy_of v
  caught_value None source e = error_map source e

  -- whether a value is `()` as it was seen through a handle; in a held cell it counts as none
  abbrev pub is_unit_seen : Result (Dynamic H) (EvalAltResult H) → Bool
  is_unit_seen (Ok v) = is_unit v.value
  is_unit_seen (Err e) = false

  -- the caught error, at the position of the branch's error, where it is raised again; and else the branch's error
  abbrev pub raised_if : (again : Bool) → (caught e : EvalAltResult H) → EvalAltResult H
  raised_if true caught e = at_position (position_of e) caught
  raised_if false caught e = e

  -- the error that comes out of a branch: a thrown `()` raises the caught error again, at its own position, and any other stays
  abbrev pub raised : Cells H → (caught e : EvalAltResult H) → EvalAltResult H
  raised cells caught (error.ErrorRuntime v at) = raised_if (is_unit_seen (through cells v at)) caught (error.ErrorRuntime v at)
  raised cells caught e = e
