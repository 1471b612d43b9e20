-- The rules of arrays, maps and interpolated texts, which are made of the values of their parts from left to right.
use Rattle.std.specs.Prelude.{ℕ, Bool, true, false, List, [], ◌∷◌, ◌++◌, length, map, None, Result, Ok, Err, codes}
use Rattle.rhai_machine.specs.Types.{Dynamic, EvalAltResult, Expr, Limits, Position, Union}
use Rattle.rhai_tree.specs.declared.expr.MapEntry.{MapEntry}
use Rattle.rhai_tree.specs.Positions.{position_of}
use Rattle.rhai_tree.specs.Lookup.{with_entry}
use Rattle.rhai_values.specs.declared.base.size.DataSizes.{DataSizes}
use Rattle.rhai_values.specs.DataSize.{plus, saturated, sizes, total, total_of}
use Rattle.rhai_values.specs.declared.base.value.Union.TheVariants as value
use Rattle.rhai_values.specs.Copy.{copy_of, plain}
use Rattle.rhai_values.specs.TypeNames.{type_name_of}
use Rattle.rhai_machine.specs.language.Setting.{Setting}
use Rattle.rhai_machine.specs.language.State.{Local}
use Rattle.rhai_machine.specs.language.Frames.{Call, Frame, Core, core, on_value, Ask, Eval, Back, Fail, ArrayItem, EntryValue, TextPart}
use Rattle.rhai_machine.specs.language.Frames.{PrintedPart}
use Rattle.rhai_machine.specs.language.Calls.{call_of, within, within_sizes}

-- the name of the native that prints a value
abbrev pub printer : List ℕ
printer = codes "to_string"

module _ {H : Type 0} where
  -- an array of these items, read-write
  abbrev pub array_of : List (Dynamic H) → Dynamic H
  array_of items = plain (value.Array items)

  -- a text, read-write
  abbrev pub text_of : List ℕ → Dynamic H
  text_of text = plain (value.Str text)

  -- a map's entries with more of them, each where its key belongs
  abbrev pub filled : (keys : List (List ℕ)) → List (Dynamic H) → List (List ℕ) × List (Dynamic H) → List (List ℕ) × List (Dynamic H)
  filled (key ∷ keys) (v ∷ values) entries = filled keys values (with_entry key v entries)
  filled _ _ entries = entries

  -- the map of these keys with their values, read-write
  abbrev pub map_of : (keys : List (List ℕ)) → List (Dynamic H) → Dynamic H
  map_of keys values = plain (value.Map (filled keys values ([], [])))

  -- how much data a map's entries with these values have: one for each entry, and that of its value
  abbrev pub entry_sizes : List (Dynamic H) → DataSizes
  entry_sizes values = saturated (plus (sizes 0 (length values) 0) (total_of (map total values)))

  module _ (limits : Limits) where
    -- the items of an array with one more, unless the array is too large then; an error stays
    abbrev pub with_item : (made : List (Dynamic H)) → Result (Dynamic H) (EvalAltResult H) → Position →
        Result (List (Dynamic H)) (EvalAltResult H)
    with_item made (Ok x) at = within limits (array_of (made ++ x ∷ [])) (made ++ x ∷ []) at
    with_item made (Err e) at = Err e

    -- the values of a map's entries with one more, unless the map is too large then; an error stays
    abbrev pub with_value : (made : List (Dynamic H)) → Result (Dynamic H) (EvalAltResult H) → Position →
        Result (List (Dynamic H)) (EvalAltResult H)
    with_value made (Ok x) at = within_sizes limits (entry_sizes (made ++ x ∷ [])) (made ++ x ∷ []) at
    with_value made (Err e) at = Err e

    -- a text with one part more, unless it is too large then
    abbrev pub with_part : (text part : List ℕ) → Position → Result (List ℕ) (EvalAltResult H)
    with_part text part at = within limits (text_of (text ++ part)) (text ++ part) at

  -- the items of an array after those that are there, from left to right
  abbrev pub items_core : (made : List (Dynamic H)) → List Expr → List (Frame H) → Local H → Core H
  items_core made [] k l = core (Back (array_of made)) k l
  items_core made (item ∷ items) k l = core (Eval item) (ArrayItem made (position_of item) items ∷ k) l

  -- the entries of a map after those that are there, as they are written; the keys of all are known
  abbrev pub entries_core : (keys : List (List ℕ)) → (made : List (Dynamic H)) → List MapEntry → List (Frame H) → Local H → Core H
  entries_core keys made [] k l = core (Back (map_of keys made)) k l
  entries_core keys made (entry ∷ entries) k l = core (Eval entry.value) (EntryValue keys made (position_of entry.value) entries ∷ k) l

  -- the parts of a text after what is there, from left to right
  abbrev pub parts_core : (text : List ℕ) → List Expr → List (Frame H) → Local H → Core H
  parts_core text [] k l = core (Back (text_of text)) k l
  parts_core text (part ∷ parts) k l = core (Eval part) (TextPart text (position_of part) parts ∷ k) l

  -- the call that prints a copy of a value, at the value's position
  abbrev pub printing : Dynamic H → Position → Call H
  printing v at = call_of (record { name = printer; token = None; at = at }) (copy_of v ∷ [])

  -- the text that a native printed, or the name of the value's type where it gave no text
  abbrev pub printed : Union H → (type : List ℕ) → List ℕ
  printed (value.Str text) type = text
  printed _ type = type

module _ {H : Type 0} (s : Setting H) where
  -- a text grows by a part, and is measured where the part stands
  abbrev pub part_core : (text part : List ℕ) → Position → List Expr → List (Frame H) → Local H → Core H
  part_core text part at rest k l = on_value (with_part s.limits text part at) (λ more. parts_core more rest k l) k l

  -- a part that is a text is joined as it is, and any other is printed first
  abbrev pub joined_core : Union H → Dynamic H → (text : List ℕ) → Position → List Expr → List (Frame H) → Local H → Core H
  joined_core (value.Str part) v text at rest k l = part_core text part at rest k l
  joined_core _ v text at rest k l =
      core (Ask (printing v at)) (PrintedPart text (type_name_of s.host_type l.around.cells v) at rest ∷ k) l

  -- where a native fails to print a part: an error of the system comes down, and after any other the name of the type is joined
  abbrev pub unprinted_core : (passes : Bool) → EvalAltResult H → (text type : List ℕ) → Position → List Expr → List (Frame H) → Local H →
      Core H
  unprinted_core true e text type at rest k l = core (Fail e) k l
  unprinted_core false e text type at rest k l = part_core text type at rest k l
