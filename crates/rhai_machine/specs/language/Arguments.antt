-- The rules of a call's arguments, and of the keywords.
use Rattle.std.specs.Prelude.{ℕ, ◌+◌, Bool, true, false, not, ◌&&◌, ◌||◌, List, [], ◌∷◌, ◌++◌, Option, Some, None, Result, Ok, Err}
use Rattle.std.specs.Prelude.{codes, is_some, length, nat_eq, nat_le, if◌then◌else◌}
use Rattle.std.specs.List.{list_all, list_any, starts_with}
use Rattle.std.specs.Str.{bytes_eq}
use Rattle.rhai_machine.specs.Types.{Dynamic, EncapsulatedEnviron, EvalAltResult, Expr, out-Expr, FnPtr, Import, Module, ModuleFn, Position}
use Rattle.rhai_machine.specs.Types.{ScopeEntry, Token, Union}
use Rattle.rhai_tree.specs.declared.expr.FnCallExpr.{FnCallExpr}
use Rattle.rhai_tree.specs.declared.expr.Expr.TheOpen as layer
use Rattle.rhai_tree.specs.Layers.{ExprLayer}
use Rattle.rhai_tree.specs.Positions.{position_of, start_of}
use Rattle.rhai_values.specs.declared.base.value.FnPtr.{out-FnPtr, roll-FnPtr}
use Rattle.rhai_values.specs.declared.base.value.FnPtrKind.{FnPtrKind, out-FnPtrKind}
use Rattle.rhai_values.specs.declared.base.value.FnPtrKind.TheOpen as union
use Rattle.rhai_values.specs.declared.base.value.FnPtrKind.TheVariants as kind
use Rattle.rhai_values.specs.declared.base.value.Union.TheVariants as value
use Rattle.rhai_values.specs.Copy.{copy_of, plain}
use Rattle.rhai_values.specs.Layers.{UnionLayer, layer_of}
use Rattle.rhai_values.specs.TypeNames.{type_name_of}
use Rattle.rhai_errors.specs.declared.error.EvalAltResult.TheVariants as error
use Rattle.rhai_state.specs.Scope.{index_of}
use Rattle.rhai_errors.specs.Errors.{mismatch}
use Rattle.rhai_machine.specs.machine.Machine.{Move, Go, Charge}
use Rattle.rhai_machine.specs.language.Setting.{Globals, Setting, globals_of}
use Rattle.rhai_machine.specs.language.State.{Local, Surroundings}
use Rattle.rhai_machine.specs.language.Values.{Cells, bool_value, flat, is_handle, through}
use Rattle.rhai_machine.specs.language.Functions.{Function, in_libraries, key_by}
use Rattle.rhai_machine.specs.language.Activations.{ThisFrom, NoThis}
use Rattle.rhai_machine.specs.language.Variables.{Path, Variable, path_of, variable_in}
use Rattle.rhai_machine.specs.language.Names.{Meaning, AtEntry, AsTemporary, bound_this, meant}
use Rattle.rhai_machine.specs.language.Places.{is_constant}
use Rattle.rhai_machine.specs.language.Frames.{Operation, FromEntry, FromThis, Dispatch, Call, Keyword, CallPointer, MakePointer, Curry}
use Rattle.rhai_machine.specs.language.Frames.{IsShared, IsDefinedVariable, Purpose, ToCall, ToCallOn, ToCallOnThis, ToCallNumber}
use Rattle.rhai_machine.specs.language.Frames.{ToCallFunction, ToCurry, ToChain, ChainArguments, ChainRoot}
use Rattle.rhai_machine.specs.language.Frames.{Frame, Core, core, on_value, ended, Argument, CallNamed, EnterFunction, Question, Back, Fail}
use Rattle.rhai_machine.specs.language.Frames.{CallArgument, KeywordArgument}
use Rattle.rhai_machine.specs.language.Calls.{behind_path, call_of, dispatch_core, entry_of, plainly, races, signature}

-- one level of what a pointer leads to
abbrev pub KindLayer : Type 0 → Type 0
KindLayer H = union.FnPtrKind-F H (FnPtrKind H) (Union H) (Dynamic H) (EncapsulatedEnviron H) (FnPtr H) (Import H) (Module H) (ModuleFn H)

-- what a call is of that was not written as an operator: a name, at a position
abbrev pub operation_named : List ℕ → Position → Operation
operation_named name at = record { name = name; token = None; at = at }

-- ---- keywords

-- a keyword by its name and the number of arguments
abbrev pub keyword_named : List ℕ → (count : ℕ) → Option Keyword
keyword_named name count =
    if bytes_eq name (codes "call") && nat_le 1 count then Some CallPointer
    else if bytes_eq name (codes "Fn") && nat_eq count 1 then Some MakePointer
    else if bytes_eq name (codes "curry") && nat_le 2 count then Some Curry
    else if bytes_eq name (codes "is_shared") && nat_eq count 1 then Some IsShared
    else if bytes_eq name (codes "is_def_var") && nat_eq count 1 then Some IsDefinedVariable
    else None

-- a keyword, of a call that was not written as an operator; one that was has none
abbrev pub keyword_of : Option Token → List ℕ → (count : ℕ) → Option Keyword
keyword_of None name count = keyword_named name count
keyword_of (Some token) name count = None

-- an ASCII letter
abbrev pub is_letter : ℕ → Bool
is_letter c = (nat_le 65 c && nat_le c 90) || (nat_le 97 c && nat_le c 122)

-- an ASCII letter, a digit or an underscore
abbrev pub is_identifier_char : ℕ → Bool
is_identifier_char c = is_letter c || (nat_eq c 95 || (nat_le 48 c && nat_le c 57))

-- the text of an identifier: underscores, a letter, and then letters, digits and underscores
abbrev pub is_identifier : List ℕ → Bool
is_identifier [] = false
is_identifier (c ∷ rest) = if nat_eq c 95 then is_identifier rest else is_letter c && list_all is_identifier_char rest

-- the texts of the operators
abbrev pub operators : List (List ℕ)
operators = codes "+" ∷ codes "-" ∷ codes "*" ∷ codes "/" ∷ codes "%" ∷ codes "**" ∷ codes "<<" ∷ codes ">>" ∷ codes "&" ∷ codes "|"
    ∷ codes "^" ∷ codes "!" ∷ codes "==" ∷ codes "!=" ∷ codes "<" ∷ codes "<=" ∷ codes ">" ∷ codes ">=" ∷ codes ".." ∷ codes "..=" ∷ []

-- the text of an operator
abbrev pub is_operator : List ℕ → Bool
is_operator name = list_any (bytes_eq name) operators

-- the text of an identifier or of an operator, of which a pointer can be made
abbrev pub is_pointer_name : List ℕ → Bool
is_pointer_name name = is_identifier name || is_operator name

-- a pointer's name that no function of a script can have, so that natives alone are asked for it
abbrev pub natives_alone : List ℕ → Bool
natives_alone name = not (is_identifier name) && not (starts_with nat_eq name (codes "anon$"))

module _ {H : Type 0} where
  -- a pointer by this name alone
  abbrev pub pointer_named : List ℕ → Dynamic H
  pointer_named name = plain (value.FnPtr {X1 = H} (roll-FnPtr H (record { name = name; curry = []; kind = kind.Name })))

  -- the text that a value is, by its kind; any other kind is a mismatch
  abbrev pub text_in : (H → List ℕ) → Cells H → Union H → Dynamic H → Position → Result (List ℕ) (EvalAltResult H)
  text_in host cells (value.Str text) v at = Ok text
  text_in host cells _ v at = Err (mismatch (codes "string") (type_name_of host cells v) at)

  -- the text that a value is as it was seen through a handle; an error stays
  abbrev pub text_seen : (H → List ℕ) → Cells H → Result (Dynamic H) (EvalAltResult H) → Position → Result (List ℕ) (EvalAltResult H)
  text_seen host cells (Ok v) at = text_in host cells v.value v at
  text_seen host cells (Err e) at = Err e

  -- the text that a value is, seen through a handle, or the mismatch
  abbrev pub text_wanted : (H → List ℕ) → Cells H → Dynamic H → Position → Result (List ℕ) (EvalAltResult H)
  text_wanted host cells v at = text_seen host cells (through cells v at) at

  -- the pointer that a value is, by its kind; any other kind is a mismatch
  abbrev pub pointer_in : (H → List ℕ) → Cells H → UnionLayer H → Dynamic H → Position → Result (FnPtr H) (EvalAltResult H)
  pointer_in host cells (union.FnPtr pointer) v at = Ok pointer
  pointer_in host cells _ v at = Err (mismatch (codes "Fn") (type_name_of host cells v) at)

  -- the pointer that a value is as it was taken off its handle; an error stays
  abbrev pub pointer_seen : (H → List ℕ) → Cells H → Result (Dynamic H) (EvalAltResult H) → Position → Result (FnPtr H) (EvalAltResult H)
  pointer_seen host cells (Ok v) at = pointer_in host cells (layer_of v) v at
  pointer_seen host cells (Err e) at = Err e

  -- the pointer that a value is, out of a cell a copy, or the mismatch
  abbrev pub pointer_wanted : (H → List ℕ) → Cells H → Dynamic H → Position → Result (FnPtr H) (EvalAltResult H)
  pointer_wanted host cells v at = pointer_seen host cells (flat cells v at) at

  -- the pointer that is made of a name, or the error that no function can have the name
  abbrev pub pointer_of : List ℕ → Position → Result (Dynamic H) (EvalAltResult H)
  pointer_of name at = if is_pointer_name name then Ok (pointer_named name) else Err (error.ErrorFunctionNotFound (signature name []) at)

  -- a pointer with more arguments behind those that it has
  abbrev pub with_curried : FnPtr H → List (Dynamic H) → Dynamic H
  with_curried pointer args = plain (value.FnPtr {X1 = H} (roll-FnPtr H (record (out-FnPtr H pointer) {
    curry = (out-FnPtr H pointer).curry ++ args;
  })))

  -- ---- the variable that is read last

  -- a call with this value before its other arguments, by value; an error stays
  abbrev pub passed_flat : Operation → List (Dynamic H) → Result (Dynamic H) (EvalAltResult H) → Result (Call H) (EvalAltResult H)
  passed_flat operation args (Ok v) = Ok (call_of operation (v ∷ args))
  passed_flat operation args (Err e) = Err e

  -- a call with a variable before its other arguments: of a constant a copy, and anything else is lent from its entry
  abbrev pub passed_as : (constant : Bool) → Operation → List (Dynamic H) → (entry : ℕ) → Dynamic H → Call H
  passed_as true operation args entry v = call_of operation (copy_of v ∷ args)
  passed_as false operation args entry v =
      record (call_of operation (v ∷ args)) { lender = Some (FromEntry entry); guarded = true }

  -- a call with a variable before its other arguments, by the kind of its value: of a handle a copy of the cell's value is passed
  abbrev pub passed : Cells H → Position → Operation → List (Dynamic H) → (entry : ℕ) → Union H → Dynamic H →
      Result (Call H) (EvalAltResult H)
  passed cells at operation args entry (value.Cell id) v = passed_flat operation args (flat cells v at)
  passed cells at operation args entry _ v = Ok (passed_as (is_constant v.mode) operation args entry v)

  -- a call with what a variable means before its other arguments: of a temporary a copy is passed
  abbrev pub passed_seen : Cells H → Position → Operation → List (Dynamic H) → Result (Meaning H) (EvalAltResult H) →
      Result (Call H) (EvalAltResult H)
  passed_seen cells at operation args (Ok (AtEntry index v)) = passed cells at operation args index v.value v
  passed_seen cells at operation args (Ok (AsTemporary v)) = passed_flat operation args (flat cells (copy_of v) at)
  passed_seen cells at operation args (Err e) = Err e

  -- a call with a variable before its other arguments, or why the variable means nothing
  abbrev pub call_on : Globals H → Surroundings H → List (ScopeEntry H) → Operation → Variable → List (Dynamic H) →
      Result (Call H) (EvalAltResult H)
  call_on globals around scope operation variable args =
      passed_seen around.cells variable.at operation args (meant globals around scope variable)

  -- a call with `this` before its other arguments, which is lent, a constant too
  abbrev pub lent_this : Operation → List (Dynamic H) → Dynamic H → Call H
  lent_this operation args v = record (call_of operation (v ∷ args)) { lender = Some FromThis; guarded = true }

  -- whether a call captures a scope that is not empty
  abbrev pub is_captured : (captures : Bool) → List (ScopeEntry H) → Bool
  is_captured captures scope = captures && not (nat_eq (length scope) 0)

  -- the position of a `this` as the first argument, where it is bound and no handle
  abbrev pub this_in : ExprLayer → Option (Dynamic H) → Option Position
  this_in (layer.ThisPtr pos) (Some v) = if is_handle v.value then None else Some pos
  this_in _ _ = None

  -- ---- arguments

  -- whether arguments are flattened: those of a call by name or of a chain are, and those that a pointer keeps or hands on are not
  abbrev pub flattens : Purpose H → Bool
  flattens (ToCall operation curried how) = true
  flattens (ToCallOn operation variable how) = true
  flattens (ToCallOnThis operation this_at how) = true
  flattens (ToChain chain behind) = true
  flattens _ = false

  -- an argument as it is taken, flattened or as it is
  abbrev pub taken : (flattened : Bool) → Cells H → Dynamic H → Position → Result (Dynamic H) (EvalAltResult H)
  taken true cells v at = flat cells v at
  taken false cells v at = Ok v

  -- the function that a pointer has itself, where it takes so many arguments
  abbrev pub own_function : KindLayer H → (count : ℕ) → Option (Function H)
  own_function (union.Script def environ) count =
      if nat_eq (length def.params) count then Some (record { def = def; environ = environ }) else None
  own_function _ count = None

  -- the function that a pointer of this kind is linked to, where it takes so many arguments: a library's of the name, or its own
  abbrev pub linked : FnPtrKind H → (name : List ℕ) → (count : ℕ) → List (Module H) → Option (Function H)
  linked kind.Name name count lib = None
  linked (kind.Arity arity) name count lib = if nat_eq arity count then in_libraries (key_by name arity None) lib else None
  linked (kind.Native id) name count lib = None
  linked own name count lib = own_function (out-FnPtrKind H own) count

  -- the function that a pointer is linked to, where it takes so many arguments
  abbrev pub linked_to : FnPtr H → (count : ℕ) → List (Module H) → Option (Function H)
  linked_to pointer count lib = linked (out-FnPtr H pointer).kind (out-FnPtr H pointer).name count lib

  -- a linked function is entered with all its arguments, and the `this` that it has; an argument that is the handle of a held cell is a
  -- data race under the function's name
  abbrev pub linked_core : Function H → ThisFrom → Position → List (Dynamic H) → List (Frame H) → Local H → Core H
  linked_core function object at args k l =
      if races l.around.cells args then core (Fail (error.ErrorDataRace function.def.name at)) k l
      else core (EnterFunction (entry_of function object true args at l)) k l

  -- the native of a number is asked without a charge; an argument that is the handle of a held cell is a data race
  abbrev pub numbered_core : Call H → List (Frame H) → Local H → Core H
  numbered_core call k l =
      if races l.around.cells call.args then core (Fail (error.ErrorDataRace call.operation.name call.operation.at)) k l
      else core (Question call) k l

  module _ (s : Setting H) where
    -- what is done once all arguments are there
    abbrev pub arguments_there : Purpose H → List (Dynamic H) → List (Frame H) → Local H → Core H
    arguments_there (ToCall operation curried how) args k l = dispatch_core s how (call_of operation (curried ++ args)) k l
    arguments_there (ToCallOn operation variable how) args k l =
        on_value (call_on (globals_of s.offer) l.around l.scope operation variable args)
        (λ call. dispatch_core s how call k l) k l
    arguments_there (ToCallOnThis operation this_at how) args k l =
        on_value (bound_this this_at l.this) (λ v. dispatch_core s how (lent_this operation args v) k l) k l
    arguments_there (ToCallFunction function at curried) args k l = linked_core function NoThis at (curried ++ args) k l
    arguments_there (ToCallNumber number operation curried) args k l =
        numbered_core (record (call_of operation (curried ++ args)) { number = Some number }) k l
    arguments_there (ToCurry pointer) args k l = core (Back (with_curried pointer args)) k l
    arguments_there (ToChain chain (Some rest)) args k l = core (ChainArguments chain rest args) k l
    arguments_there (ToChain chain None) args k l = core (ChainRoot (record chain { args = args })) k l

    -- the arguments after those that are there, from left to right
    abbrev pub arguments_core : Purpose H → (made : List (Dynamic H)) → List Expr → List (Frame H) → Local H → Core H
    arguments_core purpose made [] k l = arguments_there purpose made k l
    arguments_core purpose made (arg ∷ args) k l = core (Argument arg) (CallArgument purpose made (position_of arg) args ∷ k) l

    -- ---- calls by name

    -- a call by name with a first argument: a variable is charged now and read after the others, and any other is an argument like them
    abbrev pub on_variable : Option Variable → Operation → (how : Dispatch) → Expr → List Expr → List (Frame H) → Local H → Move H (Core H)
    on_variable (Some variable) operation how arg args k l =
        Charge variable.at (arguments_core (ToCallOn operation variable how) [] args k l)
    on_variable None operation how arg args k l = Go (arguments_core (ToCall operation [] how) [] (arg ∷ args) k l)

    -- a call by name with a first argument: a `this` that is bound and no handle is charged now and lent after the others
    abbrev pub on_this : Option Position → Operation → (how : Dispatch) → Expr → List Expr → List (Frame H) → Local H → Move H (Core H)
    on_this (Some at) operation how arg args k l = Charge at (arguments_core (ToCallOnThis operation at how) [] args k l)
    on_this None operation how arg args k l = on_variable (variable_in (out-Expr arg)) operation how arg args k l

    -- a call by name with a first argument: where it captures the scope, each argument comes by value and a function runs on that scope
    abbrev pub captured_move : (captured natives_alone : Bool) → Operation → Expr → List Expr → List (Frame H) → Local H → Move H (Core H)
    captured_move true alone operation arg args k l =
        Go (arguments_core (ToCall operation [] (plainly alone true)) [] (arg ∷ args) k l)
    captured_move false alone operation arg args k l =
        on_this (this_in (out-Expr arg) l.this) operation (plainly alone false) arg args k l

    -- a call by name, before its arguments: with values that a pointer has already nothing is lent
    abbrev pub named_move : Operation → (curried : List (Dynamic H)) → List Expr → (captures natives_alone : Bool) → List (Frame H) →
        Local H → Move H (Core H)
    named_move operation [] (arg ∷ args) captures alone k l = captured_move (is_captured captures l.scope) alone operation arg args k l
    named_move operation curried args captures alone k l =
        Go (arguments_core (ToCall operation curried (plainly alone (is_captured captures l.scope))) [] args k l)

    -- ---- the first argument of a keyword

    -- a pointer is called that is linked to no function: a native's number under the name `call`, and any other by its own name
    abbrev pub unlinked_core : FnPtrKind H → FnPtr H → Position → List Expr → (captures : Bool) → List (Frame H) → Local H → Core H
    unlinked_core (kind.Native id) pointer at args captures k l =
        arguments_core (ToCallNumber id.number (operation_named (codes "call") at) (out-FnPtr H pointer).curry) [] args k l
    unlinked_core _ pointer at args captures k l = core (CallNamed (operation_named (out-FnPtr H pointer).name at)
        (out-FnPtr H pointer).curry args captures (natives_alone (out-FnPtr H pointer).name)) k l

    -- a pointer is called: the function that it is linked to, if there is one, or else its native or its name
    abbrev pub pointer_core : Option (Function H) → FnPtr H → Position → List Expr → (captures : Bool) → List (Frame H) → Local H → Core H
    pointer_core (Some function) pointer at args captures k l =
        arguments_core (ToCallFunction function at (out-FnPtr H pointer).curry) [] args k l
    pointer_core None pointer at args captures k l = unlinked_core (out-FnPtr H pointer).kind pointer at args captures k l

    -- a keyword, once its first argument is there
    abbrev pub keyword_core : Keyword → Position → (start : Position) → List Expr → (captures : Bool) → Dynamic H → List (Frame H) →
        Local H → Core H
    keyword_core CallPointer at start args captures v k l =
        on_value (pointer_wanted s.host_type l.around.cells v start)
        (λ pointer. pointer_core (linked_to pointer (length (out-FnPtr H pointer).curry + length args) l.around.lib) pointer at args
        captures k l) k l
    keyword_core MakePointer at start args captures v k l =
        on_value (text_wanted s.host_type l.around.cells v start) (λ name. core (ended (pointer_of name start)) k l) k l
    keyword_core Curry at start args captures v k l =
        on_value (pointer_wanted s.host_type l.around.cells v start)
        (λ pointer. arguments_core (ToCurry pointer) [] args k l) k l
    keyword_core IsShared at start args captures v k l = core (Back (bool_value (is_handle v.value))) k l
    keyword_core IsDefinedVariable at start args captures v k l =
        on_value (text_wanted s.host_type l.around.cells v start)
        (λ name. core (Back (bool_value (is_some (index_of name l.scope)))) k l) k l

-- ---- the call

-- what a call is of as it is written
abbrev pub operation_in : FnCallExpr → Position → Operation
operation_in call at = record { name = call.name; token = call.op_token; at = at }

module _ {H : Type 0} where
  -- a call without a path: of a keyword its first argument comes first, and any other is a call by name
  abbrev pub function_core : Option Keyword → Operation → List Expr → (captures : Bool) → List (Frame H) → Local H → Core H
  function_core (Some keyword) operation (arg ∷ args) captures k l =
      core (Argument arg) (KeywordArgument keyword operation.at (start_of arg) args captures ∷ k) l
  function_core _ operation args captures k l = core (CallNamed operation [] args captures false) k l

  -- a call without a path, as it is written
  abbrev pub function_of : FnCallExpr → Position → List (Frame H) → Local H → Core H
  function_of call at k l = function_core (keyword_of call.op_token call.name (length call.args)) (operation_in call at) call.args
      call.capture_parent_scope k l

  module _ (s : Setting H) where
    -- a call behind a path takes its arguments as any other does, and captures no variables
    abbrev pub behind_move : Path → Operation → List Expr → List (Frame H) → Local H → Move H (Core H)
    behind_move path operation [] k l = Go (arguments_core s (ToCall operation [] (behind_path path)) [] [] k l)
    behind_move path operation (arg ∷ args) k l = on_this s (this_in (out-Expr arg) l.this) operation (behind_path path) arg args k l

    -- a call, without a path or behind one
    abbrev pub function_move : (is_unqualified : Bool) → FnCallExpr → Position → List (Frame H) → Local H → Move H (Core H)
    function_move true call at k l = Go (function_of call at k l)
    function_move false call at k l = behind_move (path_of call.namespace) (operation_in call at) call.args k l
