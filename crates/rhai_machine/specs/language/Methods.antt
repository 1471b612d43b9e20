-- The rules of methods: what a name means on the focus, which a method is called on.
use Rattle.std.specs.Prelude.{ℕ, Bool, true, false, ◌&&◌, List, [], ◌∷◌, ◌++◌, map, Option, Some, None, Result, Ok, Err}
use Rattle.std.specs.Prelude.{codes, length, nat_eq, unwrap_or, if◌then◌else◌}
use Rattle.std.specs.Str.{bytes_eq}
use Rattle.rhai_tree.specs.Lookup.{value_of}
use Rattle.rhai_machine.specs.Types.{Dynamic, EvalAltResult, FnPtr, Position}
use Rattle.rhai_values.specs.declared.base.value.FnPtr.{out-FnPtr, roll-FnPtr}
use Rattle.rhai_values.specs.declared.base.value.FnPtrKind.{FnPtrKind}
use Rattle.rhai_values.specs.declared.base.value.FnPtrKind.TheOpen as union
use Rattle.rhai_values.specs.declared.base.value.FnPtrKind.TheVariants as kind
use Rattle.rhai_values.specs.declared.base.value.Union.TheVariants as value
use Rattle.rhai_values.specs.Copy.{copy_of, plain}
use Rattle.rhai_values.specs.Layers.{UnionLayer, layer_of}
use Rattle.rhai_values.specs.TypeNames.{type_name_of}
use Rattle.rhai_errors.specs.declared.error.EvalAltResult.TheVariants as error
use Rattle.rhai_errors.specs.Errors.{mismatch}
use Rattle.rhai_machine.specs.language.Setting.{Setting}
use Rattle.rhai_machine.specs.language.State.{Local}
use Rattle.rhai_machine.specs.language.Values.{Cells, bool_value, through}
use Rattle.rhai_machine.specs.language.Functions.{Function}
use Rattle.rhai_machine.specs.language.Variables.{no_path}
use Rattle.rhai_machine.specs.language.Activations.{NoThis, TheFocus}
use Rattle.rhai_machine.specs.language.Frames.{Operation, FromFocus, Dispatch, Call, Frame, Core, core, on_value, Back, Fail}
use Rattle.rhai_machine.specs.language.Calls.{call_of, dispatch_core, plainly}
use Rattle.rhai_machine.specs.language.Arguments.{linked_core, linked_to, natives_alone, numbered_core, operation_named, pointer_wanted}

-- a method as it is called: its name, where it and its first argument stand, and whether the focus was a handle before it was entered
pub record Method : Type 0 where
  pub name : List ℕ
  pub at : Position
  pub first_at : Option Position
  pub was_handle : Bool

-- the words by which a method is no function's, and any other name
pub data MethodWord : Type 0 where
  CallWord : MethodWord
  CurryWord : MethodWord
  SharedWord : MethodWord
  PlainWord : MethodWord

-- the word that a method's name is with so many arguments
abbrev pub word_of : List ℕ → (count : ℕ) → MethodWord
word_of name count =
    if bytes_eq name (codes "call") then CallWord
    else if bytes_eq name (codes "curry") then CurryWord
    else if bytes_eq name (codes "is_shared") && nat_eq count 0 then SharedWord
    else PlainWord

-- how a method is dispatched; natives alone may be asked
abbrev pub as_method : (natives_alone : Bool) → Dispatch
as_method alone = record { of_method = true; natives_alone = alone; on_scope = false; path = no_path }

-- where a method's first argument stands, or the method itself where it has none
abbrev pub argument_at : Method → Position
argument_at method = unwrap_or method.first_at method.at

module _ {H : Type 0} where
  -- a call by name with the focus before its arguments: it is lent and guarded, and the answer says whether it may have changed
  abbrev pub on_focus : Operation → (args : List (Dynamic H)) → (focus : Dynamic H) → Call H
  on_focus operation args focus = record {
    operation = operation;
    number = None;
    args = focus ∷ args;
    lender = Some FromFocus;
    guarded = true;
    marks = true;
  }

  -- a call of a native's number with the focus before its arguments; the answer tells of no change
  abbrev pub number_on_focus : (number : ℕ) → Operation → (args : List (Dynamic H)) → (focus : Dynamic H) → Call H
  number_on_focus number operation args focus =
      record (on_focus operation args focus) { number = Some number; marks = false }

  -- the arguments, behind copies of those that a pointer has already
  abbrev pub copied_before : FnPtr H → List (Dynamic H) → List (Dynamic H)
  copied_before pointer args = map copy_of (out-FnPtr H pointer).curry ++ args

  -- a copy of a pointer, with more arguments behind those that it has
  abbrev pub pointer_with : FnPtr H → List (Dynamic H) → Dynamic H
  pointer_with pointer args = plain (value.FnPtr {X1 = H} (roll-FnPtr H (record (out-FnPtr H pointer) {
    curry = copied_before pointer args;
  })))

  -- ---- a map's own pointer

  -- the value that a map has under a name; anything else has none
  abbrev pub entry_in : List ℕ → UnionLayer H → Option (Dynamic H)
  entry_in name (union.Map entries) = value_of name entries
  entry_in name _ = None

  -- the value that a map has under a name, as the map was seen through a handle; in a held cell there is none
  abbrev pub entry_seen : List ℕ → Result (Dynamic H) (EvalAltResult H) → Option (Dynamic H)
  entry_seen name (Ok v) = entry_in name (layer_of v)
  entry_seen name (Err e) = None

  -- the pointer that a value is; any other value is none
  abbrev pub pointer_there : UnionLayer H → Option (FnPtr H)
  pointer_there (union.FnPtr pointer) = Some pointer
  pointer_there _ = None

  -- the pointer that a map's entry is, as it was seen through a handle; an error stays
  abbrev pub own_seen : Result (Dynamic H) (EvalAltResult H) → Result (Option (FnPtr H)) (EvalAltResult H)
  own_seen (Ok v) = Ok (pointer_there (layer_of v))
  own_seen (Err e) = Err e

  -- the pointer that a map's entry is, if it is one; in a held cell it is a data race
  abbrev pub own_in : Cells H → Option (Dynamic H) → Position → Result (Option (FnPtr H)) (EvalAltResult H)
  own_in cells (Some v) at = own_seen (through cells v at)
  own_in cells None at = Ok None

  -- the pointer that the focus has under a method's name, if it is a map; both are seen through their handles
  abbrev pub own_entry : Cells H → Method → (focus : Dynamic H) → Result (Option (FnPtr H)) (EvalAltResult H)
  own_entry cells method focus = own_in cells (entry_seen method.name (through cells focus method.at)) method.at

  -- ---- pointers

  -- the native of a number is asked about the focus
  abbrev pub numbered_on : (number : ℕ) → Operation → (args : List (Dynamic H)) → (focus : Dynamic H) → List (Frame H) → Local H → Core H
  numbered_on number operation args focus k l = numbered_core (number_on_focus number operation args focus) k l

  module _ (s : Setting H) where
    -- a pointer that is linked to no function is called on the focus: a native's number under this name, and any other by its own name
    abbrev pub unlinked_on : FnPtrKind H → FnPtr H → Method → (called : List ℕ) → (args : List (Dynamic H)) → (focus : Dynamic H) →
        List (Frame H) → Local H → Core H
    unlinked_on (kind.Native id) pointer method called args focus k l =
        numbered_on id.number (operation_named called method.at) args focus k l
    unlinked_on _ pointer method called args focus k l = dispatch_core s (as_method (natives_alone (out-FnPtr H pointer).name))
        (on_focus (operation_named (out-FnPtr H pointer).name method.at) args focus) k l

    -- a pointer is called on the focus: the function that it is linked to, if there is one, or else its native or its name
    abbrev pub pointer_on : Option (Function H) → FnPtr H → Method → (called : List ℕ) → (args : List (Dynamic H)) →
        (focus : Dynamic H) → List (Frame H) → Local H → Core H
    pointer_on (Some function) pointer method called args focus k l = linked_core function TheFocus method.at args k l
    pointer_on None pointer method called args focus k l = unlinked_on (out-FnPtr H pointer).kind pointer method called args focus k l

    -- the focus is a pointer that is linked to no function, and is called with these arguments: nothing is lent
    abbrev pub unlinked_alone : FnPtrKind H → FnPtr H → Position → (args : List (Dynamic H)) → List (Frame H) → Local H → Core H
    unlinked_alone (kind.Native id) pointer at args k l =
        numbered_core (record (call_of (operation_named (codes "call") at) args) { number = Some id.number }) k l
    unlinked_alone _ pointer at args k l = dispatch_core s (plainly (natives_alone (out-FnPtr H pointer).name) false)
        (record (call_of (operation_named (out-FnPtr H pointer).name at) args) { marks = true }) k l

    -- the focus is a pointer, and is called with these arguments
    abbrev pub pointer_alone : Option (Function H) → FnPtr H → Position → (args : List (Dynamic H)) → List (Frame H) → Local H → Core H
    pointer_alone (Some function) pointer at args k l = linked_core function NoThis at args k l
    pointer_alone None pointer at args k l = unlinked_alone (out-FnPtr H pointer).kind pointer at args k l

    -- ---- words

    -- `call` on what is no pointer calls its first argument on the focus, with what that pointer has already before the other arguments
    abbrev pub call_argument : Method → (args : List (Dynamic H)) → (seen focus : Dynamic H) → List (Frame H) → Local H → Core H
    call_argument method [] seen focus k l =
        core (Fail (mismatch (codes "Fn") (type_name_of s.host_type l.around.cells seen) method.at)) k l
    call_argument method (first ∷ rest) seen focus k l =
        on_value (pointer_wanted s.host_type l.around.cells first (argument_at method))
        (λ pointer. pointer_on (linked_to pointer (length ((out-FnPtr H pointer).curry ++ rest)) l.around.lib) pointer method (codes "call")
        ((out-FnPtr H pointer).curry ++ rest) focus k l) k l

    -- `call` on a pointer calls that pointer, with copies of what it has already; on anything else it calls its first argument
    abbrev pub call_core : UnionLayer H → Method → (args : List (Dynamic H)) → (seen focus : Dynamic H) → List (Frame H) → Local H →
        Core H
    call_core (union.FnPtr pointer) method args seen focus k l = pointer_alone
        (linked_to pointer (length (copied_before pointer args)) l.around.lib) pointer method.at (copied_before pointer args) k l
    call_core _ method args seen focus k l = call_argument method args seen focus k l

    -- `curry` on a pointer gives a copy of it with more arguments; on anything else it is a mismatch
    abbrev pub curry_core : UnionLayer H → Position → (args : List (Dynamic H)) → (seen : Dynamic H) → List (Frame H) → Local H → Core H
    curry_core (union.FnPtr pointer) at args seen k l = core (Back (pointer_with pointer args)) k l
    curry_core _ at args seen k l =
        core (Fail (mismatch (codes "Fn") (type_name_of s.host_type l.around.cells seen) at)) k l

    -- a map's own pointer is called on the map; where there is none, the method is a call by its name
    abbrev pub entry_core : Option (FnPtr H) → Method → (args : List (Dynamic H)) → (focus : Dynamic H) → List (Frame H) → Local H → Core H
    entry_core (Some pointer) method args focus k l = pointer_on
        (linked_to pointer (length (copied_before pointer args)) l.around.lib) pointer method (out-FnPtr H pointer).name
        (copied_before pointer args) focus k l
    entry_core None method args focus k l =
        dispatch_core s (as_method false) (on_focus (operation_named method.name method.at) args focus) k l

    -- a method that is no word: the pointer that the focus has under its name, or a call by its name
    abbrev pub own_core : Method → (args : List (Dynamic H)) → (focus : Dynamic H) → List (Frame H) → Local H → Core H
    own_core method args focus k l =
        on_value (own_entry l.around.cells method focus) (λ own. entry_core own method args focus k l) k l

    -- what a method does by its word; `call` and `curry` see the focus through its handle, and `is_shared` uses no cell
    abbrev pub word_core : MethodWord → Method → (args : List (Dynamic H)) → (focus : Dynamic H) → List (Frame H) → Local H → Core H
    word_core CallWord method args focus k l = on_value (through l.around.cells focus method.at)
        (λ seen. call_core (layer_of seen) method args seen focus k l) k l
    word_core CurryWord method args focus k l = on_value (through l.around.cells focus method.at)
        (λ seen. curry_core (layer_of seen) method.at args seen k l) k l
    word_core SharedWord method args focus k l = core (Back (bool_value method.was_handle)) k l
    word_core PlainWord method args focus k l = own_core method args focus k l

    -- a method is called on the focus, once its arguments are there
    abbrev pub method_core : Method → (args : List (Dynamic H)) → (focus : Dynamic H) → List (Frame H) → Local H → Core H
    method_core method args focus k l = word_core (word_of method.name (length args)) method args focus k l
