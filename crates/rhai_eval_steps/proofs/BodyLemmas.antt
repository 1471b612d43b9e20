-- A function of a script that is entered and left.
use Rattle.std.proofs.Common.{◌≡◌, ◌≢◌, ◌<◌, ◌≤◌, ◌+◌, ℕ, zero, suc, Bool, true, false, List, [], ◌∷◌, ◌++◌, Option, Some, None, Result, Ok}
use Rattle.std.proofs.Common.{Err}
use Rattle.std.proofs.Common.{refl, sym, ap, subst, ◌∙◌, arith, inl, inr, length, map, take, drop, IsTrue}
use Rattle.std.proofs.Math.Seq.{take-append_seam, take-length}
use Rattle.std.proofs.lemmas.Bool.{cases_lt, true≢false}
use Rattle.std.proofs.lemmas.List.{append-nil, length-append, map-append}
use Rattle.rhai_tree.specs.Frame.{all_resolve, resolves_body, resolves_stmt, ResolvesFunction}
use Rattle.rhai_tree.specs.Names.{Frame as NamesFrame, Name}
use Rattle.rhai_tree.specs.declared.function.ScriptFuncDef.{ScriptFuncDef}
use Rattle.rhai_tree.specs.declared.function.ScriptFuncPayload.{ScriptFuncPayload}
use Rattle.rhai_tree.specs.declared.function.ScriptFuncPayload.TheVariants.{Statements}
use Rattle.rhai_tree.specs.declared.expr.Stmt.{Stmt}
use Rattle.rhai_tree.specs.declared.position.Position.{Position}
use Rattle.rhai_values.specs.declared.base.value.Dynamic.{Dynamic}
use Rattle.rhai_values.specs.declared.base.value.EncapsulatedEnviron.{EncapsulatedEnviron, out-EncapsulatedEnviron}
use Rattle.rhai_errors.specs.declared.error.EvalAltResult.{EvalAltResult}
use Rattle.rhai_errors.specs.declared.error.EvalAltResult.TheVariants as error
use Rattle.rhai_state.specs.declared.scope.Scope.{Scope}
use Rattle.rhai_state.specs.declared.scope.ScopeEntry.{ScopeEntry}
use Rattle.rhai_lookups.specs.declared.run.RunState.{RunState}
use Rattle.rhai_errors.specs.Errors.{is_out_of_memory}
use Rattle.rhai_state.specs.Scope.{entries_of, name_of}
use Rattle.rhai_functions.specs.Entering.{parameters}
use Rattle.rhai_functions.proofs.Pushing.{parameter_names}
use Rattle.rhai_machine.specs.machine.Machine.{Go}
use Rattle.rhai_machine.specs.machine.Memory.{here, out_before_step, ◌⨾◌, Leads}
use Rattle.rhai_machine.specs.language.Setting.{Rules, limit_under, cut}
use Rattle.rhai_machine.specs.language.State.{Held, Local, State, Answers, deeper}
use Rattle.rhai_machine.specs.language.Values.{unit_value}
use Rattle.rhai_machine.specs.language.Activations.{ThisFrom, NoThis, OwnThis, TheFocus, Entered, CallExit}
use Rattle.rhai_machine.specs.language.Bodies.{this_back, called_back, entered_local, exit_of, focus_back, library_name, opened_function}
use Rattle.rhai_machine.specs.language.Bodies.{returned}
use Rattle.rhai_machine.specs.language.Bodies.{source_of, statements_of}
use Rattle.rhai_machine.specs.language.Bodies.{this_by, variables_after, variables_back, variables_before, with_environ}
use Rattle.rhai_machine.specs.language.Frames.{Frame, core, ended, Enter, EnterFunction, Back, Fail, CallEnd}
use Rattle.rhai_machine.specs.language.Runs.{at, with_core, Runs, Steps, Goes}
use Rattle.rhai_steps.specs.States.{local_of, state_of, surroundings_of}
use Rattle.rhai_steps.proofs.Pieces.{step_by, told}
use Rattle.rhai_bodies.specs.Closing.{outcome_of, taken_back, Ends}
use Rattle.rhai_laws.proofs.KeptLaws.{grown}
use Rattle.rhai_bodies.specs.Opening.{enterable, entered_global, entry, exit_seen, is_deep, is_full}
use Rattle.rhai_bodies.proofs.Calls.{enters, passes, refuses}
use Rattle.rhai_context.specs.declared.Context.{Context}
use Rattle.rhai_context.specs.Ends.{came, error_in}
use Rattle.rhai_laws.proofs.Keeping.{few_parameters}
use Rattle.rhai_eval_steps.specs.Bodies.{behind_call, entered, this_and_focus_again}
use Rattle.rhai_functions.specs.declared.function.Function.{Function}
use Rattle.rhai_machine.specs.language.Calls.{entry_of}
use Rattle.rhai_machine.specs.language.Language.{machine}
use Rattle.rhai_eval_steps.specs.States.{state_in}
use Rattle.rhai_eval_steps.proofs.CallSteps.{charged_on, refused_on}
use Rattle.rhai_eval_steps.proofs.FormNames.{block_value}

-- where a body may be entered neither calls are too deep nor is the scope too full
pub not_deep : {H : Type 0} (deep full : Bool) (pos : Position) → enterable {H = H} deep full pos ≡ Ok tt → deep ≡ false
not_deep true full pos is = cc
not_deep false full pos is = refl

pub not_full : {H : Type 0} (deep full : Bool) (pos : Position) → enterable {H = H} deep full pos ≡ Ok tt → full ≡ false
not_full true full pos is = cc
not_full false true pos is = cc
not_full false false pos is = refl

-- what stands behind all items of a list
dropped_all : {A : Type 0} (xs : List A) (n : ℕ) → length xs ≤ n → drop n xs ≡ []
dropped_all [] zero few = refl
dropped_all [] (suc n) few = refl
dropped_all (x ∷ xs) zero few = absurd (omega (arith, few))
dropped_all (x ∷ xs) (suc n) few = dropped_all xs n (omega (arith, few))

nothing_behind : {A : Type 0} (xs : List A) (n : ℕ) → drop (length xs + n) xs ≡ []
nothing_behind xs n = dropped_all xs (length xs + n) (omega arith)

dropped : {A : Type 0} (xs ys : List A) (n : ℕ) → length ys ≤ n → drop (length xs + n) (xs ++ ys) ≡ []
dropped xs ys n few = dropped_all (xs ++ ys) (length xs + n) (omega (arith, few, length-append xs ys))

body_value : (body : ScriptFuncPayload) (frame : NamesFrame) → IsTrue (resolves_body body frame) →
    IsTrue (all_resolve (map resolves_stmt (statements_of body)) frame).0
body_value (Statements block) frame h = subst IsTrue (block_value block frame) h

module _ {H : Type 0} where
  -- the names above which a body runs end with its parameters
  names_entered : (params : List (List ℕ)) (args : List (Dynamic H)) (old new : List (ScopeEntry H)) → new ≡ old ++ parameters params args →
      map name_of new ≡ map name_of old ++ params
  names_entered params args old new is =
      ap (map name_of) is ∙ map-append name_of old (parameters params args)
      ∙ ap (λ (names : List Name). map name_of old ++ names) (parameter_names params args)

  -- so that its statements may run
  pub body_resolves : (def : ScriptFuncDef) (args : List (Dynamic H)) (old new : List (ScopeEntry H)) (imports : List Name) →
      ResolvesFunction def → new ≡ old ++ parameters def.params args →
      IsTrue (all_resolve (map resolves_stmt (statements_of def.body)) (record { names = map name_of new; imports = imports })).0
  body_resolves def args old new imports resolves is = body_value def.body (record { names = map name_of new; imports = imports })
      (subst (λ (names : List Name). IsTrue (resolves_body def.body (record { names = names; imports = imports })))
      (sym (names_entered def.params args old new is)) (resolves (record { names = map name_of old; imports = imports })))

  -- what is brought does not change where errors come from
  brings_no_source : (environ : Option (EncapsulatedEnviron H)) (level : ℕ) (old new : RunState H) →
      new ≡ entered_global environ level old → new.source ≡ old.source
  brings_no_source None level old new is = ap (λ (global : RunState H). global.source) is
  brings_no_source (Some environ) level old new is = ap (λ (global : RunState H). global.source) is

  -- what is brought counts nothing
  pub brings_no_charge : (environ : Option (EncapsulatedEnviron H)) (level : ℕ) (old new : RunState H) →
      new ≡ entered_global environ level old → new.num_operations ≡ old.num_operations
  brings_no_charge None level old new is = ap (λ (global : RunState H). global.num_operations) is
  brings_no_charge (Some environ) level old new is = ap (λ (global : RunState H). global.num_operations) is

  -- ---- a caller that has all again

  -- its variables, where they stayed
  variables_again : (is_fresh restores : Bool) (scope : List (ScopeEntry H)) (slots : ℕ) →
      variables_back (variables_after is_fresh restores scope slots) (variables_before is_fresh scope) ≡ scope
  variables_again true restores scope slots = refl
  variables_again false true scope slots = take-length scope
  variables_again false false scope slots = rw (take-length scope, nothing_behind scope slots) (append-nil scope)

  -- and where the parameters came
  variables_freed : (is_fresh restores : Bool) (scope : List (ScopeEntry H)) (names : List (List ℕ)) (args : List (Dynamic H)) →
      variables_back (variables_after is_fresh restores scope (length names)) (variables_before is_fresh scope ++ parameters names args)
      ≡ scope
  variables_freed true restores scope names args = refl
  variables_freed false true scope names args = take-append_seam scope (parameters names args)
  variables_freed false false scope names args =
      rw (take-append_seam scope (parameters names args), dropped scope (parameters names args) (length names) (few_parameters names args))
      (append-nil scope)

  this_again : (object : ThisFrom) (l : Local H) → this_back object l.this (this_by object l) ≡ l.this
  this_again NoThis l = refl
  this_again OwnThis l = refl
  this_again TheFocus l = refl

  focus_again : (object : ThisFrom) (l : Local H) → focus_back object l.focus (this_by object l) ≡ l.focus
  focus_again NoThis l = refl
  focus_again OwnThis l = refl
  focus_again TheFocus l = refl

  -- what an environment has brought goes again
  environ_goes : (environ : Option (EncapsulatedEnviron H)) (l : Local H) (level : ℕ) →
      record (record (with_environ environ l.around) { level = level }) {
        lib = take (length l.around.lib) (with_environ environ l.around).lib;
        imports = take (length l.around.imports) (with_environ environ l.around).imports;
        constants = l.around.constants;
        level = l.around.level;
      } ≡ l.around
  environ_goes None l level = rw (take-length l.around.lib, take-length l.around.imports) refl
  environ_goes (Some environ) l level = rw (
    take-append_seam l.around.lib (out-EncapsulatedEnviron H environ).lib,
    take-append_seam l.around.imports (out-EncapsulatedEnviron H environ).imports,
  ) refl

  -- the end of a call that has just begun
  pub taken_back_at_once : (e : Entered H) (l : Local H) → called_back (exit_of e l) (entered_local e l) ≡ l
  taken_back_at_once e l = rw (
    variables_freed e.is_fresh e.restores l.scope e.def.params e.args,
    this_again e.object l,
    focus_again e.object l,
    environ_goes e.environ l e.level,
  ) refl

  -- ---- the state of the code

  module _ {S : Type 0} (t : S) (e : Entered H) (mid : RunState H) (scope : Scope H) (held : Held H) where
    abbrev caller : Local H
    caller = local_of mid scope held

    -- a state in which nothing was entered is the caller's
    pub untouched : (run : Context H) → run.global ≡ mid → entries_of run.scope ≡ variables_before e.is_fresh caller.scope →
        run.this ≡ this_by e.object caller → behind_call e caller (state_in t run) ≡ state_of t mid scope held
    untouched run global_is scope_is this_is = rw (
      global_is,
      scope_is,
      this_is,
      variables_again e.is_fresh e.restores caller.scope (length e.def.params),
      this_again e.object caller,
      focus_again e.object caller,
    ) refl

    entered_by : (environ : Option (EncapsulatedEnviron H)) (level : ℕ) (entries : List (ScopeEntry H)) (this : Option (Dynamic H))
        (global : RunState H) → global ≡ entered_global environ level mid →
        record {
          table = t;
          count = global.num_operations;
          local = record {
            scope = entries;
            this = this;
            focus = None;
            scope_level = global.scope_level;
            around = surroundings_of global;
          };
        } ≡ record (state_of t mid scope held) {
          local = record caller {
            scope = entries;
            this = this;
            focus = None;
            around = record (with_environ environ (surroundings_of mid)) { level = level };
          };
        }
    entered_by None level entries this global is = rw is refl
    entered_by (Some environ) level entries this global is = rw is refl

    -- a state in which a body was entered
    pub entered_state : (run : Context H) → run.global ≡ entered_global e.environ e.level mid →
        entries_of run.scope ≡ variables_before e.is_fresh caller.scope ++ parameters e.def.params e.args →
        run.this ≡ this_by e.object caller → state_in t run ≡ record (state_of t mid scope held) { local = entered_local e caller }
    entered_state run global_is scope_is this_is =
        entered_by e.environ e.level (entries_of run.scope) run.this run.global global_is
        ∙ ap (λ (entries : List (ScopeEntry H)). record (state_of t mid scope held) {
          local = record (entered_local e caller) { scope = entries; this = run.this };
        }) scope_is
        ∙ ap (λ (this : Option (Dynamic H)). record (state_of t mid scope held) {
          local = record (entered_local e caller) { this = this };
        }) this_is

    -- and one in which its end took back what it has to
    pub left_state : (run : Context H) (closed : RunState H) (before : Scope H) →
        closed ≡ taken_back (exit_seen mid before) run.global →
        record (state_in t run) { local = called_back (exit_of e caller) (state_in t run).local }
        ≡ behind_call e caller (state_in t (record run { global = closed }))
    left_state run closed before is = rw is refl

module _ {S H : Type 0} (rules : Rules S H) where
  -- the end of a call takes back what it has to, and makes of the body's outcome what it has to
  closes : (exit : CallExit H) (outcome result : Result (Dynamic H) (EvalAltResult H)) → Answers result (outcome_of exit outcome) →
      (k : List (Frame H)) (s : State S H) →
      Leads (machine rules) (cut rules) (at (ended outcome) (CallEnd exit ∷ k) s)
      (at (ended result) k (record s { local = called_back exit s.local }))
  closes exit (Ok v) result is k s =
      step_by rules _ _ (Go (core (Back v) k (called_back exit s.local))) refl
      (told rules result (Ok v) is k (record s { local = called_back exit s.local }))
  closes exit (Err e) result is k s =
      step_by rules _ _ (Go (core (ended (returned exit e)) k (called_back exit s.local))) refl
      (told rules result (returned exit e) is k (record s { local = called_back exit s.local }))

  module _ (e : Entered H) (t : S) (old mid : RunState H) (scope : Scope H) (held : Held H)
      (room : old.num_operations < limit_under rules) (charged : mid ≡ record old { num_operations = old.num_operations + 1 }) where
    abbrev called : Local H
    called = local_of mid scope held

    abbrev entry_at : Result (Unit {0}) (EvalAltResult H)
    entry_at = entry rules.setting.limits e.level (length (variables_before e.is_fresh called.scope)) (length e.def.params) e.at

    abbrev deep : Bool
    deep = is_deep rules.setting.limits e.level

    abbrev full : Bool
    full = is_full rules.setting.limits (length (variables_before e.is_fresh called.scope)) (length e.def.params)

    -- once its call is charged a function is opened
    opens : (k : List (Frame H)) → Leads (machine rules) (cut rules) (at (EnterFunction e) k (state_of t old scope held))
        (with_core (opened_function rules.setting.limits e k called) (state_of t mid scope held))
    opens k = charged_on rules t old mid scope held (EnterFunction e) e.at k (λ l. opened_function rules.setting.limits e k l) refl room
        charged

    -- one that may not be entered
    pub body_refused : (x : EvalAltResult H) → entry_at ≡ Err x →
        Steps rules (EnterFunction e) (state_of t old scope held) (Fail x) (state_of t mid scope held)
    unfolding Goes
    body_refused x is k = opens k ⨾ rw (refuses e k called deep full x is) here

    -- one without statements is passed over
    pub body_passed : deep ≡ false → full ≡ false → statements_of e.def.body ≡ [] →
        Steps rules (EnterFunction e) (state_of t old scope held) (Back unit_value) (state_of t mid scope held)
    unfolding Goes
    body_passed deep_is full_is none k = opens k ⨾ rw (passes e k called rules.setting.limits deep_is full_is none) here

    module _ (deep_is : deep ≡ false) (full_is : full ≡ false) where
      unwound : (k : List (Frame H)) →
          Leads (machine rules) (cut rules) (at (Fail (error.ErrorOutOfMemory e.at)) (CallEnd (exit_of e called) ∷ k)
          (record (state_of t mid scope held) { local = entered_local e called }))
          (at (Fail (error.ErrorOutOfMemory e.at)) k (state_of t mid scope held))
      unwound k = step_by rules _ _
          (Go (core (Fail (error.ErrorOutOfMemory e.at)) k (called_back (exit_of e called) (entered_local e called)))) refl
          (subst (λ (l : Local H).
          Leads (machine rules) (cut rules) (with_core (core (Fail (error.ErrorOutOfMemory e.at)) k l) (state_of t mid scope held))
          (at (Fail (error.ErrorOutOfMemory e.at)) k (state_of t mid scope held))) (sym (taken_back_at_once e called)) here)

      body_runs_out_in : (stmts : List Stmt) → statements_of e.def.body ≡ stmts → (k : List (Frame H)) →
          Leads (machine rules) (cut rules) (with_core (opened_function rules.setting.limits e k called) (state_of t mid scope held))
          (at (Fail (error.ErrorOutOfMemory e.at)) k (state_of t mid scope held))
      body_runs_out_in [] none k = rw (passes e k called rules.setting.limits deep_is full_is none) (out_before_step {at = e.at} here)
      body_runs_out_in (stmt ∷ stmts) is k =
          let some : statements_of e.def.body ≢ [] = λ none. cc in
          rw (enters e k called rules.setting.limits deep_is full_is some) (out_before_step {at = e.at} (unwound k))

      -- memory runs out while it is opened
      pub body_runs_out : Steps rules (EnterFunction e) (state_of t old scope held) (Fail (error.ErrorOutOfMemory e.at))
          (state_of t mid scope held)
      unfolding Goes
      body_runs_out k = opens k ⨾ body_runs_out_in (statements_of e.def.body) refl k

      -- its statements run, and its end takes back what it has to
      pub body_runs : (outcome result : Result (Dynamic H) (EvalAltResult H)) (new : State S H) → statements_of e.def.body ≢ [] →
          Runs rules (Enter (statements_of e.def.body) e.restores) (record (state_of t mid scope held) { local = entered_local e called })
          outcome new → Answers result (outcome_of (exit_of e called) outcome) →
          Runs rules (EnterFunction e) (state_of t old scope held) result
          (record new { local = called_back (exit_of e called) new.local })
      unfolding Goes
      body_runs outcome result new some runs is k =
          opens k ⨾ rw (enters e k called rules.setting.limits deep_is full_is some)
          (runs (CallEnd (exit_of e called) ∷ k) ⨾ closes (exit_of e called) outcome result is k new)

module _ {S H : Type 0} (rules : Rules S H) (e : Entered H) (t : S) (old mid : RunState H) (scope : Scope H) (held : Held H)
    (start : Context H) (scope_is : entries_of start.scope ≡ variables_before e.is_fresh (local_of old scope held).scope)
    (this_is : start.this ≡ this_by e.object (local_of old scope held)) where
  abbrev begun : State S H
  begun = state_of t old scope held

  abbrev ends_as : Result (Dynamic H) (EvalAltResult H) → S → Context H → Type 0
  ends_as result left run = Runs rules (EnterFunction e) begun result (behind_call e (local_of old scope held) (state_in left run))

  abbrev entered_with : ℕ → Result (Unit {0}) (EvalAltResult H)
  entered_with count = entry rules.setting.limits e.level count (length e.def.params) e.at

  -- its charge is refused
  pub refused_ends : (x : EvalAltResult H) → limit_under rules ≤ old.num_operations → x ≡ error.ErrorTooManyOperations e.at → mid ≡ old →
      (run : Context H) → run ≡ record start { global = mid } → ends_as (Err x) t run
  unfolding Goes
  refused_ends x spent is same run alike k =
      subst (λ (s : State S H). Leads (machine rules) (cut rules) (at (EnterFunction e) k begun) (at (Fail x) k s))
      (ap (λ (global : RunState H). state_of t global scope held) same
      ∙ sym (untouched t e old scope held run (ap (λ (r : Context H). r.global) alike ∙ same)
      (ap (λ (r : Context H). entries_of r.scope) alike ∙ scope_is) (ap (λ (r : Context H). r.this) alike ∙ this_is)))
      (refused_on rules t old mid scope held (EnterFunction e) e.at k (λ l. opened_function rules.setting.limits e k l) refl
      x spent is same)

  module _ (room : old.num_operations < limit_under rules) (charged : mid ≡ record old { num_operations = old.num_operations + 1 }) where
    abbrev counted : ℕ
    counted = length (variables_before e.is_fresh (local_of mid scope held).scope)

    same_local : local_of mid scope held ≡ local_of old scope held
    same_local = ap (λ (global : RunState H). local_of global scope held) charged

    same_count : length (entries_of start.scope) ≡ length (variables_before e.is_fresh (local_of mid scope held).scope)
    same_count = ap length scope_is ∙ ap (λ (l : Local H). length (variables_before e.is_fresh l.scope)) (sym same_local)

    -- a run in which nothing was entered leaves what its caller has
    alone : (r : Result (Dynamic H) (EvalAltResult H)) → Runs rules (EnterFunction e) begun r (state_of t mid scope held) →
        (run : Context H) → run.global ≡ mid → entries_of run.scope ≡ entries_of start.scope → run.this ≡ start.this → ends_as r t run
    alone r runs run global_is entries_is same_this =
        subst (λ (l : Local H). Runs rules (EnterFunction e) begun r (behind_call e l (state_in t run))) same_local
        (subst (λ (s : State S H). Runs rules (EnterFunction e) begun r s)
        (sym (untouched t e mid scope held run global_is
        (entries_is ∙ scope_is ∙ ap (λ (l : Local H). variables_before e.is_fresh l.scope) (sym same_local))
        (same_this ∙ this_is ∙ ap (λ (l : Local H). this_by e.object l) (sym same_local)))) runs)

    -- it is not entered
    pub failed_ends : (x : EvalAltResult H) →
        (is_out_of_memory x ≡ false → entered_with (length (entries_of start.scope)) ≡ Err x) →
        (is_out_of_memory x ≡ true → (x ≡ error.ErrorOutOfMemory e.at)
        × (entered_with (length (entries_of start.scope)) ≡ Ok tt)) →
        (run : Context H) → run.global ≡ mid → entries_of run.scope ≡ entries_of start.scope → run.this ≡ start.this →
        ends_as (Err x) t run
    failed_ends (error.ErrorOutOfMemory p) refusal is_out =
        let (is, may) = is_out refl in
        let enters = ap entered_with (sym same_count) ∙ may in
        rw is (alone (Err (error.ErrorOutOfMemory e.at)) (body_runs_out rules e t old mid scope held room charged
        (not_deep (is_deep rules.setting.limits e.level) (is_full rules.setting.limits counted (length e.def.params)) e.at enters)
        (not_full (is_deep rules.setting.limits e.level) (is_full rules.setting.limits counted (length e.def.params)) e.at enters)))
    failed_ends x refusal is_out =
        alone (Err x) (body_refused rules e t old mid scope held room charged x (ap entered_with (sym same_count) ∙ refusal refl))

    module _ (deep_is : is_deep rules.setting.limits e.level ≡ false)
        (full_is : is_full rules.setting.limits (length (entries_of start.scope)) (length e.def.params) ≡ false) where
      full_there : is_full rules.setting.limits (length (variables_before e.is_fresh (local_of mid scope held).scope)) (length e.def.params)
          ≡ false
      full_there = ap (λ (count : ℕ). is_full rules.setting.limits count (length e.def.params)) (sym same_count) ∙ full_is

      -- it has no statements
      pub passed_ends : statements_of e.def.body ≡ [] → (run : Context H) → run.global ≡ mid →
          entries_of run.scope ≡ entries_of start.scope → run.this ≡ start.this → ends_as (Ok unit_value) t run
      passed_ends none = alone (Ok unit_value) (body_passed rules e t old mid scope held room charged deep_is full_there none)

      -- its statements run, and it is left
      module _ (some : statements_of e.def.body ≢ []) (opened : Context H) (opens_as : opened.global ≡ entered_global e.environ e.level mid)
          (entries_are : entries_of opened.scope ≡ entries_of start.scope ++ parameters e.def.params e.args)
          (this_stays : opened.this ≡ start.this) (outcome : Result (Dynamic H) (EvalAltResult H)) (left : S) (run : Context H)
          (runs : Runs rules (Enter (statements_of e.def.body) e.restores) (state_in t opened) outcome (state_in left run)) where
        here_entered : state_in t opened ≡ record (state_of t mid scope held) { local = entered_local e (local_of mid scope held) }
        here_entered = entered_state t e mid scope held opened opens_as
            (entries_are ∙ ap (λ (entries : List (ScopeEntry H)). entries ++ parameters e.def.params e.args)
            (scope_is ∙ ap (λ (l : Local H). variables_before e.is_fresh l.scope) (sym same_local)))
            (this_stays ∙ this_is ∙ ap (λ (l : Local H). this_by e.object l) (sym same_local))

        -- a body does not change where its errors come from
        same_source : run.global.source ≡ mid.source
        same_source =
            (grown rules (Enter (statements_of e.def.body) e.restores) (ended outcome) (state_in t opened) (state_in left run) tt
            runs).around.source
            ∙ brings_no_source e.environ e.level mid opened.global opens_as

        pub whole_ends : (result : Result (Dynamic H) (EvalAltResult H)) (closed : RunState H) →
            closed ≡ taken_back (exit_seen mid start.scope) run.global →
            ((exit : CallExit H) → Ends e.def.name e.environ run.global.source e.at exit → Answers result (outcome_of exit outcome)) →
            ends_as result left (record run { global = closed })
        whole_ends result closed closes told =
            let exit = exit_of e (local_of mid scope held) in
            let ends : Ends e.def.name e.environ run.global.source e.at exit = record {
              is_name = refl;
              is_source = ap (source_of (library_name e.environ)) (sym same_source);
              is_at = refl;
            } in
            subst (λ (l : Local H). Runs rules (EnterFunction e) begun result (behind_call e l
            (state_in left (record run { global = closed }))))
            same_local
            (subst (λ (s : State S H). Runs rules (EnterFunction e) begun result s) (left_state left e mid scope held run closed
            start.scope closes)
            (body_runs rules e t old mid scope held room charged deep_is full_there outcome result (state_in left run) some
            (subst (λ (s : State S H). Runs rules (Enter (statements_of e.def.body) e.restores) s outcome (state_in left run))
            here_entered runs)
            (told exit ends)))

-- a call that ended before its body did not end in two ways, and one that is to enter it has not ended
ended_once : {P : Type 0} (result : Option Bool) → result ≡ Some true → result ≡ Some false → P
ended_once result passed failed = absurd cc

not_ended : {P : Type 0} (result : Option Bool) → result ≡ None → result ≡ Some false → P
not_ended result enters failed = absurd cc

-- a call that is to enter its body was charged
pub was_charged : (count limit : ℕ) (result : Option Bool) → result ≡ None → (limit ≤ count → result ≡ Some false) → count < limit
was_charged count limit result enters spent = elim (cases_lt count limit) as (λ _. count < limit) [
  | inl room ↦ room
  | inr full ↦ not_ended result enters (spent full)
]

-- and so was one that passed its body over
pub passed_charged : (count limit : ℕ) (done : Bool) (result : Option Bool) → result ≡ Some done → IsTrue done →
    (limit ≤ count → result ≡ Some false) → count < limit
passed_charged count limit false result is well spent = absurd cc
passed_charged count limit true result is well spent = elim (cases_lt count limit) as (λ _. count < limit) [
  | inl room ↦ room
  | inr full ↦ ended_once result is (spent full)
]

module _ {S H : Type 0} (rules : Rules S H) (e : Entered H) (t : S) (old mid : RunState H) (scope : Scope H) (held : Held H)
    (start : Context H) (scope_is : entries_of start.scope ≡ variables_before e.is_fresh (local_of old scope held).scope)
    (this_is : start.this ≡ this_by e.object (local_of old scope held)) (run : Context H) (alike : run ≡ record start { global = mid })
    (out : Dynamic H) (place : Option (EvalAltResult H)) (result : Option Bool) where
  abbrev ends_early : Bool → Type 0
  ends_early done = Runs rules (EnterFunction e) (state_of t old scope held) (came done out place)
      (behind_call e (local_of old scope held) (state_in t run))

  abbrev variables : ℕ
  variables = length (entries_of start.scope)

  module _ (spent : limit_under rules ≤ old.num_operations →
      (result ≡ Some false) × (error_in place ≡ error.ErrorTooManyOperations e.at) × (mid ≡ old))
      (charged : old.num_operations < limit_under rules → mid ≡ record old { num_operations = old.num_operations + 1 })
      (refused : old.num_operations < limit_under rules → result ≡ Some false →
      (entry rules.setting.limits e.level variables (length e.def.params) e.at ≡ Err (error_in place))
      × (is_out_of_memory (error_in place) ≡ false))
      (passed : result ≡ Some true → (is_deep rules.setting.limits e.level ≡ false)
      × (is_full rules.setting.limits variables (length e.def.params) ≡ false) × (statements_of e.def.body ≡ []) × (out ≡ unit_value)) where
    fails_early : result ≡ Some false → ends_early false
    fails_early is = elim (cases_lt old.num_operations (limit_under rules)) as (λ _. ends_early false) [
      | inl room ↦ failed_ends rules e t old mid scope held start scope_is this_is room (charged room) (error_in place)
          (λ memory. (refused room is).0) (λ is_out. absurd (true≢false (sym is_out ∙ (refused room is).1))) run
          (ap (λ (r : Context H). r.global) alike) (ap (λ (r : Context H). entries_of r.scope) alike)
          (ap (λ (r : Context H). r.this) alike)
      | inr full ↦ refused_ends rules e t old mid scope held start scope_is this_is (error_in place) full (spent full).1 (spent full).2 run
          alike
    ]

    passes_early : result ≡ Some true → ends_early true
    passes_early is = elim (cases_lt old.num_operations (limit_under rules)) as (λ _. ends_early true) [
      | inl room ↦ rw (passed is).3 (passed_ends rules e t old mid scope held start scope_is this_is room (charged room) (passed is).0
          (passed is).1 (passed is).2 run (ap (λ (r : Context H). r.global) alike) (ap (λ (r : Context H). entries_of r.scope) alike)
          (ap (λ (r : Context H). r.this) alike))
      | inr full ↦ ended_once result is (spent full).0
    ]

    -- it ends before its body
    pub early_ends : (done : Bool) → result ≡ Some done → ends_early done
    early_ends false is = fails_early is
    early_ends true is = passes_early is

module _ {S H : Type 0} (rules : Rules S H) (f : Function H) where
  -- a function with variables of its own
  pub fresh_ends : (object : ThisFrom) (args : List (Dynamic H)) (at : Position) (old : RunState H) (scope : Scope
      H) (held : Held H)
      (def : ScriptFuncDef) (environ : Option (EncapsulatedEnviron H)) (level : ℕ) (mid : RunState H) (t left : S)
      (run : Context H)
      (result : Result (Dynamic H) (EvalAltResult H)) → def ≡ f.def → environ ≡ f.environ → level ≡ deeper old.level → mid ≡ old →
      Runs rules (EnterFunction (entered def environ object true true args level at)) (state_of t mid scope held) result
      (behind_call (entered def environ object true true args level at) (local_of mid scope held) (state_in left run)) →
      (global : RunState H) (this : Option (Dynamic H)) → global ≡ run.global → this ≡ run.this →
      Runs rules (EnterFunction (entry_of f object true args at (local_of old scope held))) (state_of t old scope held) result
      (state_of left global scope (this_and_focus_again object held this))
  fresh_ends of args at old scope held def environ level mid t left run result def_is environ_is level_is mid_is runs global this
      global_is this_is = rw (global_is, this_is) (rw (def_is, environ_is, level_is, mid_is) at runs)

  -- and one on its caller's, which takes its own away
  pub captured_ends : (object : ThisFrom) (args : List (Dynamic H)) (at : Position) (old : RunState H) (scope : Scope H)
      (held : Held H) (def : ScriptFuncDef) (environ : Option (EncapsulatedEnviron H)) (level : ℕ) (t left : S) (run : Context H)
      (result : Result (Dynamic H) (EvalAltResult H)) → def ≡ f.def → environ ≡ f.environ → level ≡ deeper old.level →
      Runs rules (EnterFunction (entered def environ object false true args level at)) (state_of t old scope held) result
      (behind_call (entered def environ object false true args level at) (local_of old scope held) (state_in left run)) →
      (after : Scope H) (n : ℕ) → n ≡ length (entries_of scope) → entries_of after ≡ take n (entries_of run.scope) →
      (this : Option (Dynamic H)) → this ≡ run.this →
      Runs rules (EnterFunction (entry_of f object false args at (local_of old scope held))) (state_of t old scope held) result
      (state_of left run.global after (this_and_focus_again object held this))
  captured_ends of args at old scope held def environ level t left run result def_is environ_is level_is runs after n n_is after_is
      this this_is = rw (after_is, n_is, this_is) (rw (def_is, environ_is, level_is) at runs)
