-- Calls whose function is known before their arguments are evaluated, and operators on two integers that are there.
use Rattle.std.proofs.Common.{◌≡◌, ◌<◌, ◌+◌, ℕ, ℤ, Bool, true, false, List, [], ◌∷◌, ◌++◌, Option, Some, None, Result, Ok, Err}
use Rattle.std.proofs.Common.{refl, sym, ap, ◌∙◌, arith, length, map, IsTrue}
use Rattle.std.proofs.lemmas.List.{length-append}
use Rattle.rhai_tree.specs.declared.position.Position.{Position}
use Rattle.rhai_tree.specs.declared.token.Token.{Token}
use Rattle.rhai_tree.specs.declared.expr.Expr.{Expr}
use Rattle.rhai_tree.specs.declared.expr.FnCallExpr.{FnCallExpr}
use Rattle.rhai_tree.specs.declared.expr.Expr.TheOpen as layer
use Rattle.rhai_tree.specs.declared.function.ScriptFuncDef.{ScriptFuncDef}
use Rattle.rhai_tree.specs.Frame.{all_resolve, resolves_stmt, ResolvesFunction}
use Rattle.rhai_tree.specs.Positions.{position_of}
use Rattle.rhai_values.specs.declared.base.value.Dynamic.{Dynamic}
use Rattle.rhai_values.specs.declared.base.value.Module.{Module}
use Rattle.rhai_values.specs.declared.base.value.Union.TheVariants as value
use Rattle.rhai_values.specs.Copy.{plain}
use Rattle.rhai_errors.specs.declared.error.EvalAltResult.{EvalAltResult}
use Rattle.rhai_errors.specs.declared.error.EvalAltResult.TheVariants as variant
use Rattle.rhai_state.specs.declared.scope.ScopeEntry.{ScopeEntry}
use Rattle.rhai_errors.specs.Errors.{is_out_of_memory}
use Rattle.rhai_state.specs.Scope.{name_of, value_of}
use Rattle.rhai_functions.specs.Entering.{parameters}
use Rattle.rhai_operators.specs.Answers.{binary_of}
use Rattle.rhai_operators.specs.Direct.{integer_in}
use Rattle.rhai_machine.specs.machine.Machine.{Go}
use Rattle.rhai_machine.specs.machine.Memory.{here, ◌⨾◌, Leads}
use Rattle.rhai_machine.specs.language.Setting.{Rules, cut}
use Rattle.rhai_machine.specs.language.State.{Local, State, deeper}
use Rattle.rhai_machine.specs.language.Values.{flat}
use Rattle.rhai_machine.specs.language.Activations.{NoThis}
use Rattle.rhai_machine.specs.language.Bodies.{statements_of}
use Rattle.rhai_machine.specs.language.Arguments.{arguments_core, flattens}
use Rattle.rhai_machine.specs.language.Calls.{applied, call_at, entry_of, operator_core, plainly, races}
use Rattle.rhai_machine.specs.language.Frames.{Argument, Back, CallArgument, Core, EnterFunction, Frame, OpenExpr, Operation, Purpose}
use Rattle.rhai_machine.specs.language.Frames.{core}
use Rattle.rhai_machine.specs.language.Frames.{ToCall, ended}
use Rattle.rhai_machine.specs.language.Functions.{Function}
use Rattle.rhai_machine.specs.language.Runs.{at, with_core, Runs, Goes}
use Rattle.rhai_machine.specs.language.Language.{machine}
use Rattle.rhai_steps.specs.States.{holding, state_of}
use Rattle.rhai_steps.proofs.Pieces.{faulted, step_by}
use Rattle.rhai_operands.specs.Standing.{assigned_known}
use Rattle.rhai_operands.proofs.InPlace.{integer_sized}
use Rattle.rhai_operands.proofs.Integers.{operated_stands}
use Rattle.rhai_call_forms.specs.Forms.{is_operator_form}
use Rattle.rhai_callees.specs.Kept.{HasKept}
use Rattle.rhai_context.specs.declared.Context.{Context}
use Rattle.rhai_context.specs.Ends.{came, error_in}
use Rattle.rhai_laws.proofs.KeptLaws.{kept}
use Rattle.rhai_fast_calls.specs.Callees.{IsPlain}
use Rattle.rhai_fast_calls.specs.Filling.{HasFilled, filled}
use Rattle.rhai_fast_calls.proofs.PlainSteps.{filled_by_none, filled_count, filled_whole, has_filled, parameters_race}
use Rattle.rhai_fast_calls.proofs.PlainSteps.{plain_enters, plain_moves, plain_named, plain_races}
use Rattle.rhai_eval_steps.specs.Bodies.{behind_call, entered}
use Rattle.rhai_eval_steps.specs.Calls.{Collects}
use Rattle.rhai_eval_steps.specs.States.{state_in}
use Rattle.rhai_eval_steps.proofs.BodyLemmas.{body_resolves, fresh_ends}
use Rattle.rhai_eval_steps.proofs.CallSteps.{begins_call, taken_fails, taken_on}
use Rattle.rhai_tree.specs.Names.{Name}

module _ {S H : Type 0} (rules : Rules S H) where
  -- from the arguments of a call by name to where all of them are the variables of its function, and the libraries are what they were;
  -- or to an error
  abbrev pub Fills : (params : List (List ℕ)) → List Expr → (well : Bool) → List (ScopeEntry H) → State S H →
      Option (EvalAltResult H) → State S H → Type 0
  Fills params args well entries old error new = (values : List (Dynamic H))
      × (Collects rules true [] args old (came well values error) new)
      × (IsTrue well → entries ≡ parameters params values)
      × (IsTrue well → length values ≡ length args)
      × (IsTrue well → new.local.around.lib ≡ old.local.around.lib)

-- ---- an operator on two integers

module _ {H : Type 0} where
  -- an answer for what two values are is that for the values
  given_so : (token : Token) (x y a b v : Dynamic H) → Some x ≡ Some a → Some y ≡ Some b → binary_of token a b ≡ Some (Ok v) →
      binary_of token x y ≡ Some (Ok v)
  given_so token x y a b v left right says =
      let first : x ≡ a = cc in
      let second : y ≡ b = cc in
      rw (first, second) says

  -- what it gives of them is its answer for the values that they are in
  known_answer : (token : Token) (x y v : Dynamic H) → Some v ≡ assigned_known token (integer_in x.value) (integer_in y.value) →
      (z : ℤ) × (v ≡ plain (value.Int z)) × (binary_of token x y ≡ Some (Ok v))
  known_answer token x y v is =
      let given = operated_stands token (Some x) (Some y) v (sym is) in
      (given.4, given.5, given_so token x y given.0 given.1 v given.2 given.3 given.6)

module _ {H : Type 0} where
  -- a value that was taken is kept behind those before it
  kept_so : (r : Result (Dynamic H) (EvalAltResult H)) (made : List (Dynamic H)) (v : Dynamic H) → r ≡ Ok v →
      HasKept r made (made ++ v ∷ [])
  kept_so r made v is = rw is refl

module _ {S H : Type 0} (rules : Rules S H) where
  -- so an operator gives it at once
  pub known_goes : (name : List ℕ) (token : Token) (pos : Position) (x y v : Dynamic H) (k : List (Frame H)) (s : State S H) →
      Some v ≡ assigned_known token (integer_in x.value) (integer_in y.value) →
      Leads (machine rules) (cut rules)
      (with_core (operator_core rules.setting (binary_of token x y) (call_at name token pos (x ∷ y ∷ [])) k s.local) s)
      (at (Back v) k s)
  known_goes name token pos x y v k s is =
      let given = known_answer token x y v is in
      let sized : applied rules.setting.limits (Ok v) pos ≡ Ok v = rw given.1 (integer_sized H rules.setting.limits given.0 pos) in
      rw (given.2, sized) here

  -- ---- arguments that become parameters

  -- the first of some arguments are variables, the others follow, and the libraries are what they were
  pub record Filling (names : List (List ℕ)) (args left : List Expr) (entries : List (ScopeEntry H)) (old new : State S H) : Type 0 where
    pub made : List (Dynamic H)
    pub are : entries ≡ filled names made
    pub count : length made + length left ≡ length args
    pub lib : new.local.around.lib ≡ old.local.around.lib
    pub steps : (purpose : Purpose H) → flattens purpose ≡ true → (k : List (Frame H)) →
        Leads (machine rules) (cut rules) (with_core (arguments_core rules.setting purpose [] args k old.local) old)
        (with_core (arguments_core rules.setting purpose made left k new.local) new)

  module _ (names : List (List ℕ)) (args : List Expr) where
    pub filling_begins : (entries : List (ScopeEntry H)) (s : State S H) → entries ≡ [] → Filling names args args entries s s
    filling_begins entries s none = record {
      made = [];
      are = none ∙ sym (filled_by_none names);
      count = omega arith;
      lib = refl;
      steps = λ purpose is k. here;
    }

    module _ (entries : List (ScopeEntry H)) (old mid : State S H) where
      -- where one follows there is a parameter for it
      few : (arg : Expr) (left : List Expr) → length names ≡ length args → (f : Filling names args (arg ∷ left) entries old mid) →
          length f.made < length names
      few arg left takes f = omega (arith, f.count, takes)

      pub has_room : (arg : Expr) (left : List Expr) → length names ≡ length args → Filling names args (arg ∷ left) entries old mid →
          length entries < length names
      has_room arg left takes f =
          let fits = few arg left takes f in
          omega (arith, fits, ap length f.are, filled_count names f.made (omega (arith, fits)))

      module _ (arg : Expr) (left : List Expr) (takes : length names ≡ length args) (f : Filling names args (arg ∷ left) entries old mid)
          (new : State S H) where
        -- it becomes a variable
        pub filling_grows : (v : Dynamic H) (after : List (ScopeEntry H)) → Runs rules (Argument arg) mid (Ok v) new →
            HasFilled names (flat new.local.around.cells v (position_of arg)) entries after → Filling names args left after old new
        unfolding Goes
        filling_grows v after runs pushed =
            let next = has_filled names f.made (flat new.local.around.cells v (position_of arg)) entries after (few arg left takes f) f.are
            pushed in
            record {
              made = f.made ++ next.0 ∷ [];
              are = next.2;
              count = omega (arith, f.count, length-append f.made (next.0 ∷ []));
              lib = (kept rules (Argument arg) (ended (Ok v)) mid new tt runs).around.lib ∙ f.lib;
              steps = λ purpose is k. f.steps purpose is k ⨾ runs (CallArgument purpose f.made (position_of arg) left ∷ k)
                  ⨾ taken_on rules purpose f.made v (position_of arg) left k new true (f.made ++ next.0 ∷ []) is
                  (kept_so (flat new.local.around.cells v (position_of arg)) f.made next.0 next.1);
            }

        -- or it fails
        pub filling_stops : (after : List (ScopeEntry H)) (error : Option (EvalAltResult H)) →
            Runs rules (Argument arg) mid (Err (error_in error)) new → Fills rules names args false after old error new
        unfolding Collects Goes
        filling_stops after error runs = (
          [],
          λ purpose is k. f.steps purpose is k ⨾ runs (CallArgument purpose f.made (position_of arg) left ∷ k)
              ⨾ step_by rules _ _ _ refl here,
          λ well. absurd cc,
          λ well. absurd cc,
          λ well. absurd cc,
        )

        -- or it is a handle of a cell that is held, or memory runs out
        pub filling_fails : (v : Dynamic H) (after : List (ScopeEntry H)) (error : Option (EvalAltResult H)) →
            Runs rules (Argument arg) mid (Ok v) new →
            (is_out_of_memory (error_in error) ≡ false → flat new.local.around.cells v (position_of arg) ≡ Err (error_in error)) →
            Fills rules names args false after old error new
        unfolding Collects Goes
        filling_fails v after error runs told = (
          [],
          λ purpose is k. f.steps purpose is k ⨾ runs (CallArgument purpose f.made (position_of arg) left ∷ k)
              ⨾ taken_fails rules purpose f.made v (position_of arg) left k new true (error_in error) is told,
          λ well. absurd cc,
          λ well. absurd cc,
          λ well. absurd cc,
        )

      -- all of them are variables
      pub filling_ends : (error : Option (EvalAltResult H)) → length names ≡ length args → Filling names args [] entries old mid →
          Fills rules names args true entries old error mid
      unfolding Collects Goes
      filling_ends error takes f =
          let count : length f.made ≡ length args = omega (arith, f.count) in (
            f.made,
            λ purpose is k. f.steps purpose is k,
            λ well. f.are ∙ filled_whole names f.made (count ∙ sym takes),
            λ well. count,
            λ well. f.lib,
          )

  -- above the variables that they are a body's statements resolve
  pub entered_resolves : (args : List Expr) (entries : List (ScopeEntry H)) (old new : State S H) (error : Option (EvalAltResult H))
      (own : ScriptFuncDef) (imports : List Name) → ResolvesFunction own → Fills rules own.params args true entries old error new →
      IsTrue (all_resolve (map resolves_stmt (statements_of own.body)) (record { names = map name_of entries; imports = imports })).0
  unfolding Goes
  entered_resolves args entries old new error own imports resolves fills =
      body_resolves own fills.0 [] entries imports resolves (fills.2 refl)

  -- ---- a call of a function that is known

  module _ (call : FnCallExpr) (lib : List (Module H)) (def : ScriptFuncDef) (plain : IsPlain call lib def) (pos : Position) where
    -- the call by its name, and what begins it
    abbrev operation : Operation
    operation = record { name = call.name; token = None; at = pos }

    abbrev purpose : Purpose H
    purpose = ToCall operation [] (plainly false false)

    abbrev starts : List (Frame H) → Local H → Core H
    starts k l = arguments_core rules.setting purpose [] call.args k l

    -- it begins with its arguments
    pub plain_begins : (k : List (Frame H)) (s : State S H) →
        is_operator_form rules.setting.offer.fast_operators call.op_token call.args ≡ false →
        Leads (machine rules) (cut rules) (at (OpenExpr (layer.Expr::FnCall call pos)) k s) (with_core (starts k s.local) s)
    plain_begins k s form =
        let written : Operation = record { name = call.name; token = call.op_token; at = pos } in
        begins_call rules call pos k s plain.path form
        ⨾ rw (plain_named call.op_token call.name written call.args call.capture_parent_scope k s.local plain.token plain.meaning)
        (step_by rules _ _ (Go (arguments_core rules.setting (ToCall written [] (plainly false false)) [] call.args k s.local))
        (plain_moves rules.setting written call.args call.capture_parent_scope k s.local plain.captures plain.by_value)
        (rw plain.token here))

    module _ (entries : List (ScopeEntry H)) (old : State S H) (error : Option (EvalAltResult H)) where
      -- an argument fails
      pub plain_stops : (new : State S H) → Fills rules def.params call.args false entries old error new →
          Goes rules starts old (core (ended (Err (error_in error)))) new
      unfolding Collects Goes
      plain_stops new fills k = fills.1 purpose refl k

      module _ (t : S) (run : Context H) (fills : Fills rules def.params call.args true entries old error (state_in t run))
          (lib_is : old.local.around.lib ≡ lib) where
        abbrev mid : State S H
        mid = state_in t run

        abbrev function : Function H
        function = record { def = def; environ = None }

        -- an argument's cell is held
        pub plain_fails : (e : EvalAltResult H) → true ≡ races mid.local.around.cells (map value_of entries) →
            (is_out_of_memory e ≡ false → e ≡ variant.ErrorDataRace call.name pos) → Goes rules starts old (core (ended (Err e))) mid
        unfolding Collects Goes
        plain_fails e held told k =
            let values = fills.0 in
            let raced : races mid.local.around.cells values ≡ true =
            sym (parameters_race mid.local.around.cells def.params values (fills.3 refl ∙ sym plain.takes))
            ∙ ap (λ (entries : List (ScopeEntry H)). races mid.local.around.cells (map value_of entries)) (sym (fills.2 refl)) ∙ sym held in
            fills.1 purpose refl k
            ⨾ rw (plain_races rules.setting call lib def plain pos values k mid.local raced) (faulted rules e _ told k mid)

        -- the function is entered
        pub plain_runs : (result : Result (Dynamic H) (EvalAltResult H)) (new : State S H) →
            false ≡ races mid.local.around.cells (map value_of entries) →
            ((values : List (Dynamic H)) → entries ≡ parameters def.params values →
            Runs rules (EnterFunction (entry_of function NoThis true values pos mid.local)) mid result new) →
            Goes rules starts old (core (ended result)) new
        unfolding Collects Goes
        plain_runs result new free runs k =
            let values = fills.0 in
            let unraced : races mid.local.around.cells values ≡ false =
            sym (parameters_race mid.local.around.cells def.params values (fills.3 refl ∙ sym plain.takes))
            ∙ ap (λ (entries : List (ScopeEntry H)). races mid.local.around.cells (map value_of entries)) (sym (fills.2 refl)) ∙ sym free in
            fills.1 purpose refl k
            ⨾ rw (plain_enters rules.setting call lib def plain pos values k mid.local (fills.4 refl ∙ lib_is) (fills.3 refl) unraced)
            (runs values (fills.2 refl) k)

        -- the same of what is known of the function in the code
        pub plain_ends : (own : ScriptFuncDef) (level : ℕ) (result : Result (Dynamic H) (EvalAltResult H)) (left : S) (after : Context H) →
            false ≡ races mid.local.around.cells (map value_of entries) → own ≡ def → level ≡ deeper run.global.level →
            ((values : List (Dynamic H)) → entries ≡ parameters own.params values →
            Runs rules (EnterFunction (entered own None NoThis true true values level pos)) mid result
            (behind_call (entered own None NoThis true true values level pos) mid.local (state_in left after))) →
            Goes rules starts old (core (ended result)) (state_of left after.global run.scope (holding run.this))
        plain_ends own level result left after free own_is level_is runs =
            plain_runs result (state_of left after.global run.scope (holding run.this)) free
            (λ values are. fresh_ends rules function NoThis values pos run.global run.scope (holding run.this) own None level run.global
            t left after result own_is refl level_is refl (runs values (rw own_is are)) after.global after.this refl refl)
