-- The rules of calls lead to cores that fit: built-in operators, functions of scripts, and natives.
use Rattle.std.proofs.Common.{◌+◌, ◌-◌, ℕ, List, [], ◌∷◌, ◌++◌, length, drop, take}
use Rattle.std.specs.Prelude.{Bool, true, false, ◌&&◌, nat_lt, if◌then◌else◌, Option, Some, None, Result, Ok, Err, codes}
use Rattle.std.specs.Option.{option_and_then}
use Rattle.std.specs.Str.{bytes_eq}
use Rattle.rhai_machine.specs.Types.{Dynamic, EncapsulatedEnviron, out-EncapsulatedEnviron, EvalAltResult, Limits, Module, ModuleFn}
use Rattle.rhai_machine.specs.Types.{Position, ScopeEntry, Stmt, Token, Union}
use Rattle.rhai_values.specs.declared.base.value.AccessMode.TheVariants.{ReadWrite}
use Rattle.rhai_values.specs.declared.base.value.Union.TheVariants as value
use Rattle.rhai_values.specs.DataSize.{data_sizes}
use Rattle.rhai_errors.specs.declared.error.EvalAltResult.TheVariants as error
use Rattle.rhai_errors.specs.Errors.{is_system}
use Rattle.rhai_values.specs.ValueContents.{Reached}
use Rattle.rhai_functions.specs.Entering.{parameters}
use Rattle.rhai_functions.specs.Functions.{FunctionKey}
use Rattle.rhai_functions.specs.Namespaces.{down, public_in, root_in}
use Rattle.rhai_machine.specs.language.Setting.{Setting}
use Rattle.rhai_machine.specs.language.State.{Local}
use Rattle.rhai_machine.specs.language.Values.{through, unit_value}
use Rattle.rhai_machine.specs.language.Functions.{Function, key_by}
use Rattle.rhai_machine.specs.language.Activations.{ThisFrom, NoThis, OwnThis, TheFocus, Entered, CallExit, Variables, Caller, UpTo}
use Rattle.rhai_machine.specs.language.Activations.{Without}
use Rattle.rhai_machine.specs.language.Handles.{focus_of, entered_by, entered}
use Rattle.rhai_machine.specs.language.Bodies.{this_back, focus_back, variables_before, this_by, with_environ, variables_after}
use Rattle.rhai_machine.specs.language.Bodies.{statements_of}
use Rattle.rhai_machine.specs.language.Bodies.{body_core, unless_full, unless_deep, opened_function, variables_back, called_back}
use Rattle.rhai_machine.specs.language.Bodies.{left_by_error, returned}
use Rattle.rhai_machine.specs.language.Frames.{Lender, Dispatch, Call, Frame, Core, CallEnd}
use Rattle.rhai_machine.specs.language.Calls.{builtin_of, sized, applied, args_given, enter_core, races}
use Rattle.rhai_machine.specs.language.Calls.{asks_function, called_function, found_core, called_core, named_core}
use Rattle.rhai_machine.specs.language.Calls.{dispatch_core, dispatch_behind, by_name_core, operator_core, plainly, first_type, types_of}
use Rattle.rhai_machine.specs.language.Calls.{found_by, found_method, function_behind, public_from, public_or_unknown}
use Rattle.rhai_fits.specs.Contents.{of_values, of_maybe, of_result, of_scope, of_environ, of_variables}
use Rattle.rhai_fits.specs.Sealed.{GoesBack}
use Rattle.rhai_fits.proofs.Values.{fit_unit, fit_bool, fit_text}
use Rattle.rhai_fits.proofs.Copies.{fit_copy, fit_mode}
use Rattle.rhai_fits.proofs.Errors.{FitError, fit_error, fit_at, fit_in_call, error_fits}
use Rattle.rhai_fits.proofs.Modules.{FitModule, FitFunction}
use Rattle.rhai_fits.proofs.Fitting.{AllFit, FitLocal, FitBelow, FitCore, FitOffer, Gives, Flat, to, back, fail, unit, on, ended_fits}
use Rattle.rhai_fits.proofs.Fitting.{goes_back, focus_there, values_dropped, scope_joined, scope_taken, scope_dropped, modules_joined}
use Rattle.rhai_fits.proofs.Fitting.{modules_taken, imports_joined, imports_taken, with_cell_set, with_focus, focus_of_fits}
use Rattle.rhai_fits.proofs.Seeing.{flat_fits, within_sizes_gives}
use Rattle.rhai_fits.proofs.Lookups.{There, FitFound, found_fits, function_found, or_there, public_fits, root_found}
use Rattle.rhai_fits.proofs.Operators.{Answers as BuiltIn, unary_answers, binary_answers}

module _ {H : Type 0} (own : H → List Reached) (P : Reached → Type 0) (least : ℕ) where
  abbrev Good : Core H → Type 0
  Good c = FitCore own P least c

  abbrev Below : List (Frame H) → Local H → Type 0
  Below k l = FitBelow own P least k l

  abbrev All : List (Dynamic H) → Type 0
  All vs = AllFit own P least (of_values vs)

  pub if_good : (b : Bool) (c d : Core H) → Good c → Good d → Good (if b then c else d)
  if_good true c d h g = h
  if_good false c d h g = g

  -- ---- a focus that is a handle is entered

  entered_by_good : (u : Union H) (inner : Dynamic H) (go : List (Frame H) → Local H → Core H) (k : List (Frame H)) (l : Local H) →
      Below k l → Flat own P least inner → ((k : List (Frame H)) (l : Local H) → Below k l → Good (go k l)) →
      Good (entered_by u inner go k l)
  entered_by_good (value.Cell id) inner go k l b f g = g _ _ (record {
    stack = (focus_of_fits own P least l b.local, b.stack);
    sealed = (tt, b.sealed);
    back = (f.1, goes_back k l.focus (Some (focus_of l)) l.this l.this (focus_there l.focus) (λ h. h) b.back);
    local = with_focus own P least _ (Some inner) (with_cell_set own P least l id.number None b.local tt tt) f.0;
  })
  entered_by_good _ inner go k l b f g = g k l b

  pub entered_good : (inner : Dynamic H) (go : List (Frame H) → Local H → Core H) (k : List (Frame H)) (l : Local H) →
      Below k l → Flat own P least inner → ((k : List (Frame H)) (l : Local H) → Below k l → Good (go k l)) →
      Good (entered inner go k l)
  entered_good inner go k l b f g = entered_by_good (focus_of l).value inner go k l b f g

  -- ---- functions of scripts

  parameters_fit : (names : List (List ℕ)) (args : List (Dynamic H)) → All args → AllFit own P least (of_scope (parameters names args))
  parameters_fit [] args h = tt
  parameters_fit (name ∷ names) [] h = (fit_mode own P ReadWrite unit_value (fit_unit own P), parameters_fit names [] tt)
  parameters_fit (name ∷ names) (v ∷ args) h = (fit_mode own P ReadWrite v h.0, parameters_fit names args h.1)

  before_fits : (is_fresh : Bool) (scope : List (ScopeEntry H)) → AllFit own P least (of_scope scope) →
      AllFit own P least (of_scope (variables_before is_fresh scope))
  before_fits true scope h = tt
  before_fits false scope h = h

  this_fits : (object : ThisFrom) (l : Local H) → FitLocal own P least l → AllFit own P least (of_maybe (this_by object l))
  this_fits NoThis l h = tt
  this_fits OwnThis l h = h.this
  this_fits TheFocus l h = h.focus

  -- an environment brings its libraries and its imports
  in_environ : (environ : Option (EncapsulatedEnviron H)) (scope : List (ScopeEntry H)) (this : Option (Dynamic H)) (level : ℕ)
      (l : Local H) → AllFit own P least (of_environ environ) → FitLocal own P least l → AllFit own P least (of_scope scope) →
      AllFit own P least (of_maybe this) → FitLocal own P least
      (record l { scope = scope; this = this; focus = None; around = record (with_environ environ l.around) { level = level } })
  in_environ None scope this level l e h s t = record {
    scope = s;
    this = t;
    focus = tt;
    cells = h.cells;
    around = h.around;
    sealed = h.sealed;
    enough = h.enough;
  }
  in_environ (Some environ) scope this level l e h s t = record {
    scope = s;
    this = t;
    focus = tt;
    cells = h.cells;
    around = (
      modules_joined own P least l.around.lib (out-EncapsulatedEnviron H environ).lib h.around.0 e.0,
      (imports_joined own P least l.around.imports (out-EncapsulatedEnviron H environ).imports h.around.1.0 e.1, h.around.1.1),
    );
    sealed = h.sealed;
    enough = h.enough;
  }

  after_fits : (is_fresh restores : Bool) (scope : List (ScopeEntry H)) (count : ℕ) → AllFit own P least (of_scope scope) →
      AllFit own P least (of_variables (variables_after is_fresh restores scope count))
  after_fits true restores scope count h = h
  after_fits false true scope count h = tt
  after_fits false false scope count h = tt

  -- what goes back at the end of a function is what was there
  call_goes_back : (object : ThisFrom) (k : List (Frame H)) (l : Local H) → GoesBack k l.focus l.this →
      GoesBack k (focus_back object l.focus (this_by object l)) (this_back object l.this (this_by object l))
  call_goes_back NoThis k l h = h
  call_goes_back OwnThis k l h = h
  call_goes_back TheFocus k l h = h

  -- the arguments of a function, and the environment that it may have
  abbrev pub FitEntered : Entered H → Type 0
  FitEntered e = All e.args × AllFit own P least (of_environ e.environ)

  body_good : (stmts : List Stmt) (e : Entered H) (k : List (Frame H)) (l : Local H) → FitEntered e → Below k l →
      Good (body_core stmts e k l)
  body_good [] e k l h b = unit own P least k l b
  body_good (stmt ∷ stmts) e k l h b = to own P least _ _ _ tt tt (record {
    stack = (
      (after_fits e.is_fresh e.restores l.scope (length e.def.params) b.local.scope, (b.local.this, b.local.focus)),
      b.stack,
    );
    sealed = (tt, b.sealed);
    back = call_goes_back e.object k l b.back;
    local = in_environ e.environ (variables_before e.is_fresh l.scope ++ parameters e.def.params e.args) (this_by e.object l) e.level l
        h.1 b.local (scope_joined own P least (variables_before e.is_fresh l.scope) (parameters e.def.params e.args)
        (before_fits e.is_fresh l.scope b.local.scope) (parameters_fit e.def.params e.args h.0)) (this_fits e.object l b.local);
  })

  full_good : (full : Bool) (e : Entered H) (k : List (Frame H)) (l : Local H) → FitEntered e → Below k l → Good (unless_full full e k l)
  full_good true e k l h b = fail own P least _ k l (fit_error own P _ tt) b
  full_good false e k l h b = body_good (statements_of e.def.body) e k l h b

  deep_good : (deep full : Bool) (e : Entered H) (k : List (Frame H)) (l : Local H) → FitEntered e → Below k l →
      Good (unless_deep deep full e k l)
  deep_good true full e k l h b = fail own P least _ k l (fit_error own P _ tt) b
  deep_good false full e k l h b = full_good full e k l h b

  pub function_good : (limits : Limits) (e : Entered H) (k : List (Frame H)) (l : Local H) → FitEntered e → Below k l →
      Good (opened_function limits e k l)
  function_good limits e k l h b = deep_good (nat_lt limits.max_call_levels e.level)
      (nat_lt limits.max_variables (length (variables_before e.is_fresh l.scope) + length e.def.params)) e k l h b

  -- ---- the end of a function

  variables_fit : (variables : Variables H) (entries : List (ScopeEntry H)) → AllFit own P least (of_variables variables) →
      AllFit own P least (of_scope entries) → AllFit own P least (of_scope (variables_back variables entries))
  variables_fit (Caller scope) entries h g = h
  variables_fit (UpTo n) entries h g = scope_taken own P least n entries g
  variables_fit (Without n slots) entries h g = scope_joined own P least (take n entries) (drop (n + slots) entries)
      (scope_taken own P least n entries g) (scope_dropped own P least (n + slots) entries g)

  back_fits : (object : ThisFrom) (before now : Option (Dynamic H)) → AllFit own P least (of_maybe before) →
      AllFit own P least (of_maybe now) →
      AllFit own P least (of_maybe (this_back object before now))
  back_fits NoThis before now h g = h
  back_fits OwnThis before now h g = g
  back_fits TheFocus before now h g = h

  focus_back_fits : (object : ThisFrom) (before this : Option (Dynamic H)) → AllFit own P least (of_maybe before) →
      AllFit own P least (of_maybe this) → AllFit own P least (of_maybe (focus_back object before this))
  focus_back_fits NoThis before this h g = h
  focus_back_fits OwnThis before this h g = h
  focus_back_fits TheFocus before this h g = g

  pub call_left : (exit : CallExit H) (k : List (Frame H)) (l : Local H) → Below (CallEnd exit ∷ k) l → Below k (called_back exit l)
  call_left exit k l b = record {
    stack = b.stack.1;
    sealed = b.sealed.1;
    back = b.back;
    local = record {
      scope = variables_fit exit.variables l.scope b.stack.0.0 b.local.scope;
      this = back_fits exit.object exit.this l.this b.stack.0.1.0 b.local.this;
      focus = focus_back_fits exit.object exit.focus l.this b.stack.0.1.1 b.local.this;
      cells = b.local.cells;
      around = (
        modules_taken own P least exit.lib_length l.around.lib b.local.around.0,
        (imports_taken own P least exit.imports_length l.around.imports b.local.around.1.0, b.local.around.1.1),
      );
      sealed = b.local.sealed;
      enough = b.local.enough;
    };
  }

  error_left : (system : Bool) (exit : CallExit H) (e : EvalAltResult H) → FitError own P e → FitError own P (left_by_error system exit e)
  error_left true exit e h = fit_at own P exit.at e h
  error_left false exit e h = fit_in_call own P exit.name exit.source e exit.at h

  pub returned_fits : (exit : CallExit H) (e : EvalAltResult H) → FitError own P e → AllFit own P least (of_result (returned exit e))
  returned_fits exit (error.Return v at) h = error_fits own P (error.Return v at) h
  returned_fits exit (error.Exit v at) h = fit_error own P (error.Exit v exit.at) (error_fits own P (error.Exit v at) h)
  returned_fits exit e h = error_left (is_system e) exit e h

  -- ---- dispatch

  given_fit : (lender : Option Lender) (args : List (Dynamic H)) → All args → All (args_given lender args)
  given_fit None args h = h
  given_fit (Some lender) [] h = tt
  given_fit (Some lender) (v ∷ args) h = (fit_copy own P v h.0, h.1)

  enter_good : (of_method : Bool) (function : Function H) (how : Dispatch) (call : Call H) (k : List (Frame H)) (l : Local H) →
      FitFound own P least function → All call.args → Below k l → Good (enter_core of_method function how call k l)
  enter_good true function how call k l f h b = to own P least _ k l (values_dropped own P least 1 call.args h, f) tt b
  enter_good false function how call k l f h b = to own P least _ k l (given_fit call.lender call.args h, f) tt b

  -- ---- functions behind a path

  public_gives : (found : Option (ModuleFn H)) (path : List (List ℕ)) (name : List ℕ) (types : List (List ℕ)) (at : Position) →
      There own P least (FitFunction own P) found →
      Gives own P least (FitFound own P least) (public_or_unknown found path name types at)
  public_gives (Some f) path name types at h = found_fits own P least f h
  public_gives None path name types at h = fit_error own P _ tt

  public_from_gives : (root : Option (Module H)) (path rest : List (List ℕ)) (path_at : Position) (key : FunctionKey)
      (types : List (List ℕ)) (at : Position) → There own P least (FitModule own P) root →
      Gives own P least (FitFound own P least) (public_from root path rest path_at key types at)
  public_from_gives (Some root) path rest path_at key types at h =
      public_gives (option_and_then (public_in key) (down rest (Some root))) path key.name types at
      (public_fits own P least root rest key h)
  public_from_gives None path rest path_at key types at h = fit_error own P _ tt

  -- where the engine's modules fit
  module _ (s : Setting H) (o : FitOffer own P least s.offer) where
    method_found : (name type : List ℕ) (count : ℕ) (l : Local H) → FitLocal own P least l →
        There own P least (FitFound own P least) (found_method s name type count l.around)
    method_found name type count l h = or_there own P least (FitFound own P least) _ _
        (function_found own P least (key_by name count (Some type)) s.offer l.around o h.around)
        (function_found own P least (key_by name count None) s.offer l.around o h.around)

    by_found : (of_method : Bool) (call : Call H) (l : Local H) → FitLocal own P least l →
        There own P least (FitFound own P least) (found_by s of_method call l)
    by_found true call l h =
        method_found call.operation.name (first_type s.host_type l.around.cells call.args) (length call.args - 1) l h
    by_found false call l h =
        function_found own P least (key_by call.operation.name (length call.args) None) s.offer l.around o h.around

    unless_there : (alone : Bool) (found : Option (Function H)) → There own P least (FitFound own P least) found →
        There own P least (FitFound own P least) (if alone then None else found)
    unless_there true found h = tt
    unless_there false found h = h

    found_good : (function : Option (Function H)) (how : Dispatch) (call : Call H) (k : List (Frame H)) (l : Local H) →
        There own P least (FitFound own P least) function → All call.args → Below k l → Good (found_core s function how call k l)
    found_good (Some function) how call k l f h b = enter_good how.of_method function how call k l f h b
    found_good None how call k l f h b = to own P least _ k l h tt b

    called_good : (how : Dispatch) (call : Call H) (k : List (Frame H)) (l : Local H) → All call.args → Below k l →
        Good (called_core s how call k l)
    called_good how call k l h b = found_good (called_function s how call l) how call k l
        (unless_there how.natives_alone (found_by s how.of_method call l) (by_found how.of_method call l b.local)) h b

    named_good : (how : Dispatch) (args : List (Dynamic H)) (call : Call H) (k : List (Frame H)) (l : Local H) → All call.args →
        Below k l → Good (named_core s how args call k l)
    named_good how [] call k l h b = called_good how call k l h b
    named_good how (v ∷ []) call k l h b =
        if_good (bytes_eq call.operation.name (codes "type_of")) _ _ (back own P least _ k l (fit_text own P _) b)
        (if_good (bytes_eq call.operation.name (codes "eval")) _ _ (fail own P least _ k l (fit_error own P _ tt) b)
        (called_good how call k l h b))
    named_good how (v ∷ w ∷ []) call k l h b = if_good
        (bytes_eq call.operation.name (codes "is_def_fn")
        && asks_function (through l.around.cells v call.operation.at) (through l.around.cells w call.operation.at)) _ _
        (back own P least _ k l (fit_bool own P _) b) (called_good how call k l h b)
    named_good how (v ∷ w ∷ x ∷ args) call k l h b = called_good how call k l h b

    by_name_good : (how : Dispatch) (call : Call H) (k : List (Frame H)) (l : Local H) → All call.args → Below k l →
        Good (by_name_core s how call k l)
    by_name_good how call k l h b = if_good (races l.around.cells call.args) _ _
        (fail own P least _ k l (fit_error own P _ tt) b) (named_good how call.args call k l h b)

    behind_good : (path : List (List ℕ)) (how : Dispatch) (call : Call H) (k : List (Frame H)) (l : Local H) → All call.args → Below k l →
        Good (dispatch_behind s path how call k l)
    behind_good [] how call k l h b = by_name_good how call k l h b
    behind_good (root ∷ path) how call k l h b = on own P least (FitFound own P least) (function_behind s root path how call l) _ k l
        (public_from_gives (root_in root l.around.imports s.offer.global_sub_modules) (root ∷ path) path how.path.at
        (key_by call.operation.name (length call.args) None) (types_of s.host_type l.around.cells call.args) call.operation.at
        (root_found own P least root s.offer l.around o b.local.around)) b
        (λ function f. enter_good false function how call k l f h b)

    pub dispatch_good : (how : Dispatch) (call : Call H) (k : List (Frame H)) (l : Local H) → All call.args → Below k l →
        Good (dispatch_core s how call k l)
    dispatch_good how call k l h b = behind_good how.path.names how call k l h b

  -- ---- built-in operators

  pub builtin_fits : (token : Option Token) (args : List (Dynamic H)) → BuiltIn own P least (builtin_of token args)
  builtin_fits None args = tt
  builtin_fits (Some token) [] = tt
  builtin_fits (Some token) (x ∷ []) = unary_answers own P least token x
  builtin_fits (Some token) (x ∷ y ∷ []) = binary_answers own P least token x y
  builtin_fits (Some token) (x ∷ y ∷ z ∷ args) = tt

  module _ (limits : Limits) where
    pub sized_gives : (v : Dynamic H) (at : Position) → Flat own P least v → Gives own P least (Flat own P least) (sized limits v at)
    sized_gives v at h = within_sizes_gives own P least (Flat own P least) limits (data_sizes v) v at h

    pub applied_gives : (r : Result (Dynamic H) (EvalAltResult H)) (at : Position) → Gives own P least (Flat own P least) r →
        Gives own P least (Flat own P least) (applied limits r at)
    applied_gives (Ok v) at h = sized_gives v at h
    applied_gives (Err e) at h = fit_at own P at e h

  pub operator_good : (s : Setting H) (r : Option (Result (Dynamic H) (EvalAltResult H))) (call : Call H) (k : List (Frame H))
      (l : Local H) → FitOffer own P least s.offer → BuiltIn own P least r → All call.args → Below k l → Good (operator_core s r call k l)
  operator_good s (Some r) call k l o a h b = ended_fits own P least (applied s.limits r call.operation.at) k l
      (flat_fits own P least _ (applied_gives s.limits r call.operation.at a)) b
  operator_good s None call k l o a h b = dispatch_good s o (plainly false false) call k l h b
