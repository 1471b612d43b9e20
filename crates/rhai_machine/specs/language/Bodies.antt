-- The rules of functions: a body is entered over the frame of its end, and left.
use Rattle.std.specs.Prelude.{ℕ, ◌+◌, Bool, true, false, List, [], ◌∷◌, ◌++◌, Option, Some, None, Result, Ok, Err}
use Rattle.std.specs.Prelude.{drop, length, nat_lt, take, if◌then◌else◌}
use Rattle.std.specs.Option.{unwrap_or}
use Rattle.rhai_machine.specs.Types.{Dynamic, EncapsulatedEnviron, EvalAltResult, Limits, Module, ScopeEntry, ScriptFuncPayload, Stmt}
use Rattle.rhai_machine.specs.Types.{out-EncapsulatedEnviron, out-Module}
use Rattle.rhai_tree.specs.declared.function.ScriptFuncPayload.TheVariants.{Statements}
use Rattle.rhai_errors.specs.declared.error.EvalAltResult.TheVariants as error
use Rattle.rhai_errors.specs.declared.error.FunctionCallError.{roll-FunctionCallError}
use Rattle.rhai_errors.specs.Errors.{at_position, is_system}
use Rattle.rhai_functions.specs.Entering.{parameters}
use Rattle.rhai_machine.specs.language.State.{Local, Surroundings}
use Rattle.rhai_machine.specs.language.Values.{unit_value}
use Rattle.rhai_machine.specs.language.Activations.{ThisFrom, NoThis, OwnThis, TheFocus, Entered, Variables, Caller, UpTo, Without}
use Rattle.rhai_machine.specs.language.Activations.{CallExit}
use Rattle.rhai_machine.specs.language.Frames.{Frame, Core, core, Enter, Back, Fail, CallEnd}

-- the statements of a function's body
abbrev pub statements_of : ScriptFuncPayload → List Stmt
statements_of (Statements block) = block.statements

-- the caller's `this` after a call: as the function leaves it where it ran on that one, and otherwise as it was
abbrev pub this_back : {A : Type 0} → ThisFrom → (before now : A) → A
this_back NoThis before now = before
this_back OwnThis before now = now
this_back TheFocus before now = before

-- the source that an error is wrapped under: the library's name, else the name of the state's source, else the empty text
abbrev pub source_of : (library source : Option (List ℕ)) → List ℕ
source_of (Some library) source = library
source_of None source = unwrap_or source []

module _ {H : Type 0} where
  -- ---- what a function is entered with

  -- the variables that a function starts with, before its parameters
  abbrev pub variables_before : (is_fresh : Bool) → List (ScopeEntry H) → List (ScopeEntry H)
  variables_before true scope = []
  variables_before false scope = scope

  -- the `this` that a function starts with: none, the caller's own, or the focus
  abbrev pub this_by : ThisFrom → Local H → Option (Dynamic H)
  this_by NoThis l = None
  this_by OwnThis l = l.this
  this_by TheFocus l = l.focus

  -- what surrounds a function: its environment's libraries and imports behind those there, and its table of constants as the current one
  abbrev pub with_environ : Option (EncapsulatedEnviron H) → Surroundings H → Surroundings H
  with_environ None around = around
  with_environ (Some environ) around =
      let e = out-EncapsulatedEnviron H environ in
      record around { lib = around.lib ++ e.lib; imports = around.imports ++ e.imports; constants = e.constants }

  -- the local state that a body starts with: its parameters are the newest variables, and there is no focus
  abbrev pub entered_local : Entered H → Local H → Local H
  entered_local e l = record l {
    scope = variables_before e.is_fresh l.scope ++ parameters e.def.params e.args;
    this = this_by e.object l;
    focus = None;
    around = record (with_environ e.environ l.around) { level = e.level };
  }

  -- ---- what its end takes back

  -- what becomes of the variables at the end of a call, told as the function is entered
  abbrev pub variables_after : (is_fresh restores : Bool) → (scope : List (ScopeEntry H)) → (parameters : ℕ) → Variables H
  variables_after true restores scope parameters = Caller scope
  variables_after false true scope parameters = UpTo (length scope)
  variables_after false false scope parameters = Without (length scope) parameters

  -- the name of the last of these libraries, which may have none; of no libraries this one
  abbrev pub last_name : List (Module H) → Option (List ℕ) → Option (List ℕ)
  last_name [] name = name
  last_name (m ∷ ms) name = last_name ms (out-Module H m).id

  -- the name of the last library of an environment, if it has one
  abbrev pub library_name : Option (EncapsulatedEnviron H) → Option (List ℕ)
  library_name None = None
  library_name (Some environ) = last_name (out-EncapsulatedEnviron H environ).lib None

  -- what the end of a call takes back, kept as the function is entered
  abbrev pub exit_of : Entered H → Local H → CallExit H
  exit_of e l = record {
    variables = variables_after e.is_fresh e.restores l.scope (length e.def.params);
    this = l.this;
    object = e.object;
    focus = l.focus;
    lib_length = length l.around.lib;
    imports_length = length l.around.imports;
    constants = l.around.constants;
    level = l.around.level;
    name = e.def.name;
    source = source_of (library_name e.environ) l.around.source;
    at = e.at;
  }

  -- ---- the body

  -- an empty body gives `()` at once; any other is entered over the frame of its end
  abbrev pub body_core : List Stmt → Entered H → List (Frame H) → Local H → Core H
  body_core [] e k l = core (Back unit_value) k l
  body_core (stmt ∷ stmts) e k l = core (Enter (stmt ∷ stmts) e.restores) (CallEnd (exit_of e l) ∷ k) (entered_local e l)

  -- a body is entered unless the scope would have more variables than it may
  abbrev pub unless_full : (full : Bool) → Entered H → List (Frame H) → Local H → Core H
  unless_full true e k l = core (Fail (error.ErrorTooManyVariables e.at)) k l
  unless_full false e k l = body_core (statements_of e.def.body) e k l

  -- a body is entered unless the call is too deep, or the scope would have more variables than it may
  abbrev pub unless_deep : (deep full : Bool) → Entered H → List (Frame H) → Local H → Core H
  unless_deep true full e k l = core (Fail (error.ErrorStackOverflow e.at)) k l
  unless_deep false full e k l = unless_full full e k l

  -- a function, once its call is charged: it is refused, or its body is entered
  abbrev pub opened_function : Limits → Entered H → List (Frame H) → Local H → Core H
  opened_function limits e k l = unless_deep (nat_lt limits.max_call_levels e.level)
      (nat_lt limits.max_variables (length (variables_before e.is_fresh l.scope) + length e.def.params)) e k l

  -- ---- the end

  -- the variables after a call: the caller's, the oldest ones, or all but the parameters
  abbrev pub variables_back : Variables H → List (ScopeEntry H) → List (ScopeEntry H)
  variables_back (Caller scope) entries = scope
  variables_back (UpTo n) entries = take n entries
  variables_back (Without n slots) entries = take n entries ++ drop (n + slots) entries

  -- the focus after a call: of a function on the focus what it leaves of its `this`, and otherwise what it was
  abbrev pub focus_back : ThisFrom → (before this : Option (Dynamic H)) → Option (Dynamic H)
  focus_back NoThis before this = before
  focus_back OwnThis before this = before
  focus_back TheFocus before this = this

  -- the local state as it is taken back after a call, on every way out
  abbrev pub called_back : CallExit H → Local H → Local H
  called_back exit l = record l {
    scope = variables_back exit.variables l.scope;
    this = this_back exit.object exit.this l.this;
    focus = focus_back exit.object exit.focus l.this;
    around = record l.around {
      lib = take exit.lib_length l.around.lib;
      imports = take exit.imports_length l.around.imports;
      constants = exit.constants;
      level = exit.level;
    };
  }

  -- an error as it is wrapped: under the function's name and its source, at the call
  abbrev pub wrapped_error : CallExit H → EvalAltResult H → EvalAltResult H
  wrapped_error exit e = error.ErrorInFunctionCall {X1 = H} (roll-FunctionCallError H (record {
    name = exit.name;
    source = exit.source;
    error = e;
  })) exit.at

  -- an error as it leaves a call: one of the system is moved to the call, and any other is wrapped
  abbrev pub left_by_error : (system : Bool) → CallExit H → EvalAltResult H → EvalAltResult H
  left_by_error true exit e = at_position exit.at e
  left_by_error false exit e = wrapped_error exit e

  -- what comes of an error at a call's end: a `return` gives its value, an exit is moved to the call, and any other is moved or wrapped
  abbrev pub returned : CallExit H → EvalAltResult H → Result (Dynamic H) (EvalAltResult H)
  returned exit (error.Return v at) = Ok v
  returned exit (error.Exit v at) = Err (error.Exit v exit.at)
  returned exit e = Err (left_by_error (is_system e) exit e)
