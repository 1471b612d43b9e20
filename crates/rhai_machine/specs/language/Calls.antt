-- The rules of calls: built-in operators, functions of scripts, and natives.
use Rattle.std.specs.Prelude.{ℕ, ◌+◌, ◌-◌, pos, Bool, true, false, not, ◌&&◌, ◌||◌, List, [], ◌∷◌, ◌++◌, Option, Some, None}
use Rattle.std.specs.Prelude.{Result, Ok, Err, codes, drop, is_some, length, nat_eq, if◌then◌else◌}
use Rattle.std.specs.List.{starts_with}
use Rattle.std.specs.Option.{option_and_then, option_map, option_or}
use Rattle.std.specs.Str.{bytes_eq}
use Rattle.rhai_machine.specs.Types.{Dynamic, EvalAltResult, Import, Limits, Module, ModuleFn, Position, Token, Union}
use Rattle.rhai_values.specs.declared.base.value.Union.TheVariants as value
use Rattle.rhai_errors.specs.declared.error.EvalAltResult.TheVariants as error
use Rattle.rhai_errors.specs.Native.{Key, Named, Numbered, Reply, Missing, Gives, Faults, purity_of, request}
use Rattle.rhai_errors.specs.Errors.{indexing_text, position_of, at_position}
use Rattle.rhai_values.specs.Cells.{value_of_cell}
use Rattle.rhai_values.specs.Copy.{copy_of, plain}
use Rattle.rhai_values.specs.TypeNames.{type_name_of}
use Rattle.rhai_values.specs.declared.base.size.DataSizes.{DataSizes}
use Rattle.rhai_values.specs.DataSize.{data_sizes, exceeded, fault_text}
use Rattle.rhai_operators.specs.Answers.{unary_of, binary_of}
use Rattle.rhai_functions.specs.Called.{function_of as function_in}
use Rattle.rhai_functions.specs.Functions.{FunctionKey}
use Rattle.rhai_functions.specs.Namespaces.{down, public_in, root_in}
use Rattle.rhai_machine.specs.Qualified.{text_behind, path_text}
use Rattle.rhai_machine.specs.machine.Machine.{Move, Go, Native, AskPure}
use Rattle.rhai_machine.specs.language.Setting.{Setting}
use Rattle.rhai_machine.specs.language.State.{Local, Surroundings, deeper}
use Rattle.rhai_machine.specs.language.Values.{Cells, bool_value, through}
use Rattle.rhai_machine.specs.language.Places.{Place, InEntry, InCell, InThis, InFocus, is_barred, put, while_lent}
use Rattle.rhai_machine.specs.language.Functions.{Function, found_function, key_by as function_key}
use Rattle.rhai_machine.specs.language.Variables.{Path, no_path}
use Rattle.rhai_machine.specs.language.Activations.{ThisFrom, NoThis, TheFocus, Entered}
use Rattle.rhai_machine.specs.language.Frames.{Operation, Lender, FromEntry, FromThis, FromFocus, Dispatch, Call, Control, Frame, Core}
use Rattle.rhai_machine.specs.language.Frames.{core, on_value, ended, changed, Ask, EnterFunction, Fire, Back, Fail}

-- further texts of a row, each after a comma and a blank
abbrev pub more : List (List ℕ) → List ℕ
more [] = []
more (text ∷ texts) = codes ", " ++ (text ++ more texts)

-- texts in a row, with commas between
abbrev pub listed : List (List ℕ) → List ℕ
listed [] = []
listed (text ∷ texts) = text ++ more texts

-- a function's name with the types of its arguments in brackets
abbrev pub signature : List ℕ → List (List ℕ) → List ℕ
signature name types = name ++ (codes " (" ++ (listed types ++ codes ")"))

-- what stands behind a prefix, where a text begins with it
abbrev pub after_prefix : (prefix text : List ℕ) → Option (List ℕ)
after_prefix prefix text = if starts_with nat_eq text prefix then Some (drop (length prefix) text) else None

-- the property that a getter or a setter is of, by its name; any other name has none
abbrev pub property_named : List ℕ → Option (List ℕ)
property_named name = option_or (after_prefix (codes "get$") name) (after_prefix (codes "set$") name)

-- whether a name is that of an indexer
abbrev pub names_indexer : List ℕ → Bool
names_indexer name = bytes_eq name (codes "index$get$") || bytes_eq name (codes "index$set$")

-- the second of some types, the empty text where there is none
abbrev pub second : List (List ℕ) → List ℕ
second (x ∷ y ∷ types) = y
second _ = []

-- the native of a number, or else of a name
abbrev pub key_by : List ℕ → Option ℕ → Key
key_by name None = Named name
key_by name (Some number) = Numbered number

-- a first argument as a native gets it, with the place that it goes back to, if it has one
pub record First (H : Type 0) : Type 0 where
  pub from : Option Place
  pub value : Dynamic H

-- the place of a first argument that is lent
abbrev pub place_of : Lender → Place
place_of (FromEntry index) = InEntry index
place_of FromThis = InThis
place_of FromFocus = InFocus

-- an operator under this name, at a position
abbrev pub operation_at : List ℕ → Token → Position → Operation
operation_at name token at = record { name = name; token = Some token; at = at }

-- how a call by name is dispatched that is no method's
abbrev pub plainly : (natives_alone on_scope : Bool) → Dispatch
plainly natives_alone on_scope = record { of_method = false; natives_alone = natives_alone; on_scope = on_scope; path = no_path }

-- how a call behind a path is dispatched
abbrev pub behind_path : Path → Dispatch
behind_path path = record { of_method = false; natives_alone = false; on_scope = false; path = path }

module _ {H : Type 0} where
  -- the names of the arguments' types
  abbrev pub types_of : (H → List ℕ) → Cells H → List (Dynamic H) → List (List ℕ)
  types_of host cells [] = []
  types_of host cells (v ∷ vs) = type_name_of host cells v ∷ types_of host cells vs

  -- the error of a native that is not there: a property, two types that do not go together, or a function with its arguments' types
  abbrev pub missing_error : Option (List ℕ) → (indexes : Bool) → (name first : List ℕ) → List (List ℕ) → Position → EvalAltResult H
  missing_error (Some property) indexes name first types at = error.ErrorDotExpr property at
  missing_error None true name first types at = error.ErrorIndexingType (indexing_text first (second types)) at
  missing_error None false name first types at = error.ErrorFunctionNotFound (signature name types) at

  -- the name of the first argument's type, the empty text where there is none
  abbrev pub first_type : (H → List ℕ) → Cells H → List (Dynamic H) → List ℕ
  first_type host cells [] = []
  first_type host cells (v ∷ vs) = type_name_of host cells v

  -- the error of a native that is not there: a name may be a getter's, a setter's or an indexer's; of a number it is a function's
  abbrev pub not_found : (H → List ℕ) → Cells H → (name : List ℕ) → (numbered : Bool) → List (Dynamic H) → Position → EvalAltResult H
  not_found host cells name false args at =
      missing_error (property_named name) (names_indexer name) name (first_type host cells args) (types_of host cells args) at
  not_found host cells name true args at = error.ErrorFunctionNotFound (signature name (types_of host cells args)) at

  -- an error at its own position, or at this one where it has none
  abbrev pub with_position : Position → EvalAltResult H → EvalAltResult H
  with_position at e = if nat_eq (position_of e).line 0 then at_position at e else e

  -- the answer of an operator's built-in for one argument or two; none where there is no built-in
  abbrev pub builtin_of : Option Token → List (Dynamic H) → Option (Result (Dynamic H) (EvalAltResult H))
  builtin_of (Some token) (x ∷ []) = unary_of token x
  builtin_of (Some token) (x ∷ y ∷ []) = binary_of token x y
  builtin_of _ _ = None

  -- a call by name, of values: nothing is lent
  abbrev pub call_of : Operation → List (Dynamic H) → Call H
  call_of operation args =
      record { operation = operation; number = None; args = args; lender = None; guarded = false; marks = false }

  -- a call of values by an operator's name, at a position
  abbrev pub call_at : List ℕ → Token → Position → List (Dynamic H) → Call H
  call_at name token at args = call_of (operation_at name token at) args

  -- the native of a call, by its name or its number
  abbrev pub key_of : Call H → Key
  key_of call = key_by call.operation.name call.number

  -- a first argument that a native may get; what is a handle still is a data race
  abbrev pub lendable : Operation → (from : Option Place) → Union H → Dynamic H → Result (First H) (EvalAltResult H)
  lendable operation from (value.Cell id) v = Err (error.ErrorDataRace operation.name operation.at)
  lendable operation from _ v = Ok (record { from = from; value = v })

  -- a first argument that is a handle, by its cell: the cell's value, or a data race where the cell is held
  abbrev pub in_cell : Operation → (number : ℕ) → Option (Dynamic H) → Result (First H) (EvalAltResult H)
  in_cell operation number (Some v) = lendable operation (Some (InCell number)) v.value v
  in_cell operation number None = Err (error.ErrorDataRace operation.name operation.at)

  -- a first argument as a native gets it, by its kind: of a handle the cell's value, which goes back to the cell
  abbrev pub first_in : Cells H → Operation → Option Lender → Union H → Dynamic H → Result (First H) (EvalAltResult H)
  first_in cells operation lender (value.Cell id) v = in_cell operation id.number (value_of_cell cells id.number)
  first_in cells operation lender _ v = Ok (record { from = option_map place_of lender; value = v })

  -- the first argument of a call as its native gets it
  abbrev pub first_of : Cells H → Call H → Dynamic H → Result (First H) (EvalAltResult H)
  first_of cells call x = first_in cells call.operation call.lender x.value x

  -- the cells while a native has a first argument from a place: where the place is a cell, that is held
  abbrev pub while_from : Option Place → Cells H → Cells H
  while_from None cells = cells
  while_from (Some place) cells = while_lent place cells

  -- what a native leaves of its first argument goes back to its place, if it has one
  abbrev pub put_left : Option Place → Option (Dynamic H) → Local H → Local H
  put_left (Some place) (Some v) l = put place v l
  put_left _ _ l = l

  -- a call, once the table was asked: its answer says that the first argument may have changed only where the native is not pure
  abbrev pub noted : (marks pure : Bool) → Call H → Call H
  noted false pure call = call
  noted true pure call = record call { marks = not pure }

  -- a native's answer as a control: where the call tells of a change, a value that the native itself gave counts as one
  abbrev pub answered : (marks : Bool) → Reply H → Result (Dynamic H) (EvalAltResult H) → Control H
  answered false reply r = ended r
  answered true (Gives v) r = changed r
  answered true reply r = ended r

  module _ (limits : Limits) where
    -- what is there, unless this text says which size is too large
    abbrev pub sized_by : {A : Type 0} → Option (List ℕ) → A → Position → Result A (EvalAltResult H)
    sized_by None x at = Ok x
    sized_by (Some text) x at = Err (error.ErrorDataTooLarge text at)

    -- what is there, unless so much data is more than a limit allows
    abbrev pub within_sizes : {A : Type 0} → DataSizes → A → Position → Result A (EvalAltResult H)
    within_sizes a x at =
        sized_by (option_map fault_text (exceeded limits.max_string_size limits.max_array_size limits.max_map_size a)) x at

    -- what is there with a value, unless the value's data is too large
    abbrev pub within : {A : Type 0} → Dynamic H → A → Position → Result A (EvalAltResult H)
    within v x at = within_sizes (data_sizes v) x at

    -- a value, unless its data is too large
    abbrev pub sized : Dynamic H → Position → Result (Dynamic H) (EvalAltResult H)
    sized v at = within v v at

    -- what a built-in operator gave, measured; its error stands at the operator
    abbrev pub applied : Result (Dynamic H) (EvalAltResult H) → Position → Result (Dynamic H) (EvalAltResult H)
    applied (Ok v) at = sized v at
    applied (Err e) at = Err (at_position at e)

    module _ (host : H → List ℕ) where
      -- where there is no such native: what the built-in gave, or the error that there is no such function
      abbrev pub missing : Option (Result (Dynamic H) (EvalAltResult H)) → Operation → (numbered : Bool) → List (Dynamic H) → Cells H →
          Result (Dynamic H) (EvalAltResult H)
      missing (Some r) operation numbered args cells = applied r operation.at
      missing None operation numbered args cells = Err (not_found host cells operation.name numbered args operation.at)

      -- the arguments, the first as the native left it
      abbrev pub args_left : Option (Dynamic H) → List (Dynamic H) → List (Dynamic H)
      args_left (Some x) rest = x ∷ rest
      args_left None rest = rest

      -- what comes of a native's reply at its call: the built-in where it is missing, its value measured, or its fault
      abbrev pub replied : Reply H → Option (Dynamic H) → List (Dynamic H) → Operation → (numbered : Bool) → Cells H →
          Result (Dynamic H) (EvalAltResult H)
      replied Missing first rest operation numbered cells = missing (builtin_of operation.token (args_left first rest)) operation numbered
          (args_left first rest) cells
      replied (Gives v) first rest operation numbered cells = sized v operation.at
      replied (Faults e) first rest operation numbered cells = Err (with_position operation.at e)

  -- whether a value is the handle of a held cell
  abbrev pub is_held : Cells H → Union H → Bool
  is_held cells (value.Cell id) = not (is_some (value_of_cell cells id.number))
  is_held cells _ = false

  -- whether an argument is the handle of a held cell
  abbrev pub races : Cells H → List (Dynamic H) → Bool
  races cells [] = false
  races cells (v ∷ args) = is_held cells v.value || races cells args

  -- whether two values are a function's name and a number of parameters
  abbrev pub names_function : Union H → Union H → Bool
  names_function (value.Str name) (value.Int count) = true
  names_function _ _ = false

  -- whether two arguments, seen through their handles, are a function's name and a number of parameters
  abbrev pub asks_function : Result (Dynamic H) (EvalAltResult H) → Result (Dynamic H) (EvalAltResult H) → Bool
  asks_function (Ok name) (Ok count) = names_function name.value count.value
  asks_function _ _ = false

  -- ---- functions of scripts

  -- a public function that was found behind a path, or the error that there is none
  abbrev pub public_or_unknown : Option (ModuleFn H) → (path : List (List ℕ)) → (name : List ℕ) → List (List ℕ) → Position →
      Result (Function H) (EvalAltResult H)
  public_or_unknown (Some f) path name types at = Ok (function_in f)
  public_or_unknown None path name types at =
      Err (error.ErrorFunctionNotFound (signature (path_text path ++ text_behind (name ∷ [])) types) at)

  -- the public function of a key, down the rest of a path from its root, or why there is none
  abbrev pub public_from : Option (Module H) → (path rest : List (List ℕ)) → (path_at : Position) → FunctionKey → List (List ℕ) →
      Position → Result (Function H) (EvalAltResult H)
  public_from (Some root) path rest path_at key types at =
      public_or_unknown (option_and_then (public_in key) (down rest (Some root))) path key.name types at
  public_from None path rest path_at key types at = Err (error.ErrorModuleNotFound (path_text path) path_at)

  -- the public function of a key behind a path, which begins at a root, or why there is none
  abbrev pub public_behind : List (Import H) → (named : List (List ℕ) × List (Module H)) → (root : List ℕ) → (path : List (List ℕ)) →
      (path_at : Position) → FunctionKey → List (List ℕ) → Position → Result (Function H) (EvalAltResult H)
  public_behind imports named root path path_at key types at =
      public_from (root_in root imports named) (root ∷ path) path path_at key types at

  -- the arguments that a function gets: of a first one that is lent a copy
  abbrev pub args_given : Option Lender → List (Dynamic H) → List (Dynamic H)
  args_given (Some lender) (v ∷ args) = copy_of v ∷ args
  args_given lender args = args

  -- a function as it is entered one level deeper
  abbrev pub entry_of : Function H → ThisFrom → (is_fresh : Bool) → List (Dynamic H) → Position → Local H → Entered H
  entry_of function object is_fresh args at l = record {
    def = function.def;
    environ = function.environ;
    args = args;
    object = object;
    is_fresh = is_fresh;
    restores = true;
    level = deeper l.around.level;
    at = at;
  }

  -- The function that a call found is entered: a method has the focus as its `this`, a handle too, and any other gets all its arguments.
  abbrev pub enter_core : (of_method : Bool) → Function H → Dispatch → Call H → List (Frame H) → Local H → Core H
  enter_core true function how call k l = core (EnterFunction (entry_of function TheFocus (not how.on_scope) (drop 1 call.args)
      call.operation.at l)) k l
  enter_core false function how call k l = core (EnterFunction (entry_of function NoThis (not how.on_scope)
      (args_given call.lender call.args) call.operation.at l)) k l

  module _ (s : Setting H) where
    -- ---- dispatch

    -- whether a function of a script has this name and so many parameters
    abbrev pub knows_function : Surroundings H → Union H → Union H → Bool
    knows_function around (value.Str name) (value.Int (pos count)) =
        is_some (found_function (function_key name count None) s.offer around)
    knows_function around _ _ = false

    -- whether a function of a script has the name and the number of parameters that two arguments are
    abbrev pub knows_asked : Surroundings H → Result (Dynamic H) (EvalAltResult H) → Result (Dynamic H) (EvalAltResult H) → Bool
    knows_asked around (Ok name) (Ok count) = knows_function around name.value count.value
    knows_asked around _ _ = false

    -- the function of a method: one for the type of its focus, or else one for any type
    abbrev pub found_method : List ℕ → (type : List ℕ) → (count : ℕ) → Surroundings H → Option (Function H)
    found_method name type count around = option_or
        (found_function (function_key name count (Some type)) s.offer around)
        (found_function (function_key name count None) s.offer around)

    -- the function of a script of a call's name, as a method or in function style
    abbrev pub found_by : (of_method : Bool) → Call H → Local H → Option (Function H)
    found_by true call l =
        found_method call.operation.name (first_type s.host_type l.around.cells call.args) (length call.args - 1) l.around
    found_by false call l = found_function (function_key call.operation.name (length call.args) None) s.offer l.around

    -- the function of a script that a call means, unless natives alone are asked
    abbrev pub called_function : Dispatch → Call H → Local H → Option (Function H)
    called_function how call l = if how.natives_alone then None else found_by how.of_method call l

    -- the function that was found is entered; where there is none the native is asked
    abbrev pub found_core : Option (Function H) → Dispatch → Call H → List (Frame H) → Local H → Core H
    found_core (Some function) how call k l = enter_core how.of_method function how call k l
    found_core None how call k l = core (Ask call) k l

    -- a call by name goes to the function of a script that it means, or else to a native
    abbrev pub called_core : Dispatch → Call H → List (Frame H) → Local H → Core H
    called_core how call k l = found_core (called_function how call l) how call k l

    -- A call by name with one argument or two may mean no function: `type_of` gives the name of a type, `eval` is not found, and
    -- `is_def_fn` says whether a function of a script has this name and so many parameters.
    abbrev pub named_core : Dispatch → List (Dynamic H) → Call H → List (Frame H) → Local H → Core H
    named_core how (v ∷ []) call k l =
        if bytes_eq call.operation.name (codes "type_of")
        then core (Back (plain (value.Str (type_name_of s.host_type l.around.cells v)))) k l
        else if bytes_eq call.operation.name (codes "eval")
        then core (Fail (error.ErrorFunctionNotFound (signature call.operation.name (types_of s.host_type l.around.cells (v ∷ [])))
        call.operation.at)) k l
        else called_core how call k l
    named_core how (v ∷ w ∷ []) call k l =
        if bytes_eq call.operation.name (codes "is_def_fn")
        && asks_function (through l.around.cells v call.operation.at) (through l.around.cells w call.operation.at)
        then core (Back (bool_value (knows_asked l.around (through l.around.cells v call.operation.at)
        (through l.around.cells w call.operation.at)))) k l
        else called_core how call k l
    named_core how args call k l = called_core how call k l

    -- a call by a name without a path fails where an argument is a handle of a held cell, and else goes on by the name
    abbrev pub by_name_core : Dispatch → Call H → List (Frame H) → Local H → Core H
    by_name_core how call k l =
        if races l.around.cells call.args then core (Fail (error.ErrorDataRace call.operation.name call.operation.at)) k l
        else named_core how call.args call k l

    -- the function of a script that a call behind a path means, or why there is none
    abbrev pub function_behind : (root : List ℕ) → (path : List (List ℕ)) → Dispatch → Call H → Local H →
        Result (Function H) (EvalAltResult H)
    function_behind root path how call l = public_behind l.around.imports s.offer.global_sub_modules root path how.path.at
        (function_key call.operation.name (length call.args) None) (types_of s.host_type l.around.cells call.args) call.operation.at

    -- a call whose arguments are there, by its path: by a name alone, or behind a path, where the function is entered
    abbrev pub dispatch_behind : (path : List (List ℕ)) → Dispatch → Call H → List (Frame H) → Local H → Core H
    dispatch_behind [] how call k l = by_name_core how call k l
    dispatch_behind (root ∷ path) how call k l =
        on_value (function_behind root path how call l) (λ function. enter_core false function how call k l) k l

    -- a call whose arguments are there goes to a function of a script or to a native
    abbrev pub dispatch_core : Dispatch → Call H → List (Frame H) → Local H → Core H
    dispatch_core how call k l = dispatch_behind how.path.names how call k l

    -- an operator whose operands are there: what its built-in gave, or else a call of its name
    abbrev pub operator_core : Option (Result (Dynamic H) (EvalAltResult H)) → Call H → List (Frame H) → Local H → Core H
    operator_core (Some r) call k l = core (ended (applied s.limits r call.operation.at)) k l
    operator_core None call k l = dispatch_core (plainly false false) call k l

    -- ---- natives

    -- a call that is kept from its first argument fails, and any other is made
    abbrev pub barred_call : (barred pure : Bool) → Call H → List (Frame H) → Local H → Core H
    barred_call true pure call k l = core (Fail (error.ErrorNonPureMethodCallOnConstant call.operation.name call.operation.at)) k l
    barred_call false pure call k l = core (Fire (noted call.marks pure call)) k l

    -- the table is asked whether the native is pure; where the call is guarded, a constant is kept from one that is not
    abbrev pub question_first : Call H → (rest : List (Dynamic H)) → Result (First H) (EvalAltResult H) → List (Frame H) → Local H →
        Move H (Core H)
    question_first call rest (Ok first) k l =
        AskPure (purity_of (key_of call) (type_name_of s.host_type l.around.cells first.value) (1 + length rest))
        (λ pure. barred_call (call.guarded && is_barred pure first.value) pure call k l)
    question_first call rest (Err e) k l = Go (core (Fail e) k l)

    -- the table is asked whether the native of a call is pure, by the type of its first argument and the number of all
    abbrev pub question_move : Call H → List (Dynamic H) → List (Frame H) → Local H → Move H (Core H)
    question_move call [] k l = AskPure (purity_of (key_of call) [] 0) (λ pure. core (Fire (noted call.marks pure call)) k l)
    question_move call (x ∷ rest) k l = question_first call rest (first_of l.around.cells call x) k l

    -- The native is called. What it leaves of its first argument goes back to its place, whatever the answer; what is told of the arguments
    -- is told after that.
    abbrev pub call_native : Call H → (from : Option Place) → Option (Dynamic H) → List (Dynamic H) → List (Frame H) → Local H →
        Move H (Core H)
    call_native call from first rest k l =
        Native (request (while_from from l.around.cells) (key_of call) first rest call.operation.at)
        (λ reply left. core (answered call.marks reply
        (replied s.limits s.host_type reply left rest call.operation (is_some call.number) (put_left from left l).around.cells)) k
        (put_left from left l))

    -- the native is called with its first argument, which may be a data race
    abbrev pub fire_first : Call H → (rest : List (Dynamic H)) → Result (First H) (EvalAltResult H) → List (Frame H) → Local H →
        Move H (Core H)
    fire_first call rest (Ok first) k l = call_native call first.from (Some first.value) rest k l
    fire_first call rest (Err e) k l = Go (core (Fail e) k l)

    -- the native of a call is called
    abbrev pub fire_move : Call H → List (Dynamic H) → List (Frame H) → Local H → Move H (Core H)
    fire_move call [] k l = call_native call None None [] k l
    fire_move call (x ∷ rest) k l = fire_first call rest (first_of l.around.cells call x) k l
