-- What the machine does with a call by name whose one argument is a variable that is lent, where the name is a native's.
use Rattle.std.proofs.Common.{◌≡◌, ◌<◌, ◌+◌, ℕ, Bool, true, false, not, ◌&&◌, IsTrue, List, [], ◌∷◌, Option, Some, None, Result, Ok, Err}
use Rattle.std.proofs.Common.{refl, sym, ap, subst, ◌∙◌, slice_get, is_some, map, ◌||◌, IfSome, ℤ}
use Rattle.std.proofs.lemmas.Bool.{lt-ltb}
use Rattle.std.proofs.lemmas.Option.{get_or_from_slice_get}
use Rattle.std.proofs.Math.Seq.{map-set_same}
use Rattle.std.specs.Prelude.{IfOk}
use Rattle.std.specs.declared.num.NonZeroUsize.{NonZeroUsize}
use Rattle.rhai_tree.specs.declared.expr.Expr.{Expr, out-Expr}
use Rattle.rhai_tree.specs.declared.expr.Expr.TheOpen as layer
use Rattle.rhai_tree.specs.declared.expr.FnCallExpr.{FnCallExpr}
use Rattle.rhai_tree.specs.declared.expr.Namespace.{Namespace}
use Rattle.rhai_tree.specs.declared.position.Position.{Position}
use Rattle.rhai_tree.specs.declared.token.Token.{Token}
use Rattle.rhai_tree.specs.Frame.{all_resolve_exprs, resolves_call, resolves_expr, tests_of}
use Rattle.rhai_values.specs.declared.base.value.Dynamic.{Dynamic}
use Rattle.rhai_values.specs.declared.base.value.Union.{Union}
use Rattle.rhai_values.specs.declared.base.value.Union.TheVariants as value
use Rattle.rhai_values.specs.Cells.{cells_of}
use Rattle.rhai_values.specs.Copy.{plain}
use Rattle.rhai_errors.specs.declared.error.EvalAltResult.{EvalAltResult}
use Rattle.rhai_state.specs.declared.scope.Scope.{Scope}
use Rattle.rhai_state.specs.declared.scope.ScopeEntry.{ScopeEntry}
use Rattle.rhai_lookups.specs.declared.run.RunState.{RunState}
use Rattle.rhai_state.specs.declared.limits.Limits.{Limits}
use Rattle.rhai_errors.specs.Native.{Gives, MayLeave, Named, Obeys, Reply, request}
use Rattle.rhai_state.specs.Scope.{entries_of, name_of, revalued, value_in}
use Rattle.rhai_machine.specs.machine.Machine.{Charge, Go}
use Rattle.rhai_machine.specs.machine.Memory.{here, ◌⨾◌, Leads}
use Rattle.rhai_machine.specs.language.Setting.{Rules, globals_of, limit_under, cut}
use Rattle.rhai_machine.specs.language.State.{Answers, HasMemory, Held, State}
use Rattle.rhai_machine.specs.language.Values.{Cells, is_handle}
use Rattle.rhai_machine.specs.language.Places.{is_constant}
use Rattle.rhai_machine.specs.language.Calls.{is_held, plainly, races, replied, dispatch_core}
use Rattle.rhai_machine.specs.language.Variables.{Variable, variable_named}
use Rattle.rhai_machine.specs.language.Names.{entry_named}
use Rattle.rhai_machine.specs.language.Arguments.{arguments_core, function_move, function_of}
use Rattle.rhai_machine.specs.language.Frames.{Ask, Call, Control, Frame, FromEntry, OpenExpr, Operation, ToCallOn}
use Rattle.rhai_machine.specs.language.Frames.{ended, ended_or_changed}
use Rattle.rhai_machine.specs.language.Runs.{Runs, Steps, at, with_core, Goes}
use Rattle.rhai_machine.specs.language.Language.{machine}
use Rattle.rhai_steps.specs.States.{local_of, state_of, surroundings_of}
use Rattle.rhai_steps.proofs.Pieces.{step_by}
use Rattle.rhai_operands.proofs.InPlace.{integer_sized}
use Rattle.rhai_operands.proofs.Names.{both, operands_of_call}
use Rattle.rhai_calls.specs.declared.dispatch.Called.TheVariants.{Ended}
use Rattle.rhai_calls.specs.declared.dispatch.Seeks.{Seeks}
use Rattle.rhai_calls.specs.Called.{came_out}
use Rattle.rhai_calls.specs.Dispatch.{IfEnded, ended_early, meant, plain_found, came_to}
use Rattle.rhai_steps.specs.Lending.{back_in, lent_call, passed_call}
use Rattle.rhai_calls.specs.ToldChanges.{with_changed, without_changed}
use Rattle.rhai_calls.proofs.Dispatching.{calls_ended, resolved_asks}
use Rattle.rhai_calls.specs.Natives.{is_pure_on}
use Rattle.rhai_calls.proofs.NativeCalls.{calls_on, charges_call, first_by_itself, plain_ends, plain_changed}
use Rattle.rhai_call_forms.specs.Forms.{is_operator_form}
use Rattle.rhai_call_forms.specs.Leading.{Leading, takes_by_value, lent_first}
use Rattle.rhai_call_forms.proofs.FormLemmas.{function_goes}
use Rattle.rhai_call_forms.proofs.LeadingLemmas.{variable_goes}
use Rattle.rhai_fast_calls.proofs.PlainSteps.{Means as MeansNothing, means_nothing, plain_named}
use Rattle.rhai_names.specs.Passed.{is_lendable}
use Rattle.rhai_calls.proofs.OnVariable.{on_called}
use Rattle.rhai_names.proofs.Passing.{on_lent}
use Rattle.rhai_fast_calls.specs.AtOnce.{IsLone}
use Rattle.rhai_tree.specs.Names.{Frame as NamesFrame}

-- ---- the native

module _ {S H : Type 0} (rules : Rules S H) where
  -- an answer that changed nothing is the call's
  pub ended_plain : (c : Control H) (old new : State S H) (r : Result (Dynamic H × Bool) (EvalAltResult H))
      (q : Result (Dynamic H) (EvalAltResult H)) → IfOk r (λ answer. false ≡ false → answer.1 ≡ false) → q ≡ without_changed r →
      Steps rules c old (ended_or_changed r) new → Runs rules c old q new
  unfolding Goes
  ended_plain c old new r q plain is runs k = rw (is, ← plain_ends r plain) (runs k)

-- a value that goes back to its entry
pub back_there : {S H : Type 0} (t : S) (global : RunState H) (old new : Scope H) (held : Held H) (i : ℕ) (v : Dynamic H) →
    entries_of new ≡ revalued (entries_of old) i (slice_get (entries_of old) i) v →
    back_in (Some (FromEntry i)) v (state_of t global old held) ≡ state_of t global new held
back_there t global old new held i v is =
    ap (λ (entries : List (ScopeEntry _)). record (state_of t global old held) {
      local = record (local_of global old held) { scope = entries };
    }) (sym is)

-- so a native is called on the value of an entry
pub asks_entry : {S H : Type 0} (rules : Rules S H) (operation : Operation) (i : ℕ) (v : Dynamic H) (t : S) (old : RunState H)
    (t' : S) (last : RunState H) (scope later : Scope H) (held : Held H) (left : Dynamic H) →
    entries_of later ≡ revalued (entries_of scope) i (slice_get (entries_of scope) i) left →
    (r : Result (Dynamic H × Bool) (EvalAltResult H)) (q : Result (Dynamic H) (EvalAltResult H)) →
    IfOk r (λ answer. false ≡ false → answer.1 ≡ false) → q ≡ without_changed r →
    Steps rules (Ask (passed_call operation (Some (FromEntry i)) true false (v ∷ []))) (state_of t old scope held) (ended_or_changed r)
    (back_in (Some (FromEntry i)) left (state_of t' last scope held)) →
    Runs rules (Ask (lent_call operation (Some (FromEntry i)) true (v ∷ []))) (state_of t old scope held) q (state_of t' last later held)
asks_entry rules operation i v t old t' last scope later held left put_there r q plain is runs =
    ended_plain rules (Ask (lent_call operation (Some (FromEntry i)) true (v ∷ []))) (state_of t old scope held)
    (state_of t' last later held) r q plain is
    (subst (λ (s : State _ _).
    Steps rules (Ask (lent_call operation (Some (FromEntry i)) true (v ∷ []))) (state_of t old scope held) (ended_or_changed r) s)
    (back_there t' last scope later held i left put_there) runs)

module _ {H : Type 0} where
  -- a result that changed nothing is itself, without that word
  unchanged_answer_is : (q : Result (Dynamic H) (EvalAltResult H)) → q ≡ without_changed (with_changed false q)
  unchanged_answer_is (Ok v) = refl
  unchanged_answer_is (Err e) = refl

  names_by : (entries : List (ScopeEntry H)) (i : ℕ) (there : Option (ScopeEntry H)) (v : Dynamic H) → slice_get entries i ≡ there →
      map name_of (revalued entries i there v) ≡ map name_of entries
  names_by entries i None v is = refl
  names_by entries i (Some entry) v is =
      map-set_same name_of entries i (record entry { value = v }) entry (sym (ap name_of (get_or_from_slice_get entries i entry entry is)))

  -- and the names stay
  pub names_kept : (entries : List (ScopeEntry H)) (i : ℕ) (v : Dynamic H) →
      map name_of (revalued entries i (slice_get entries i) v) ≡ map name_of entries
  names_kept entries i v = names_by entries i (slice_get entries i) v refl

-- what may be lent is no constant and no handle
lent_freely : (constant handle : Bool) → (not constant && not handle) ≡ true → (constant ≡ false) × (handle ≡ false)
lent_freely false false is = (refl, refl)
lent_freely false true is = cc
lent_freely true handle is = cc

free_of_bar : (constant pure : Bool) → constant ≡ false → (true && (constant && not pure)) ≡ false
free_of_bar false pure is = refl
free_of_bar true pure is = cc

-- it is charged, and the native of its name is asked with the value, which goes back to its entry
pub asks_native : {S H : Type 0} (rules : Rules S H) (operation : Operation) (i : ℕ) (v : Dynamic H) → is_lendable v ≡ true → (t : S)
    (old mid : RunState H) (t' : S) (scope later : Scope H) (held : Held H) (left : Dynamic H) →
    value_in (entries_of scope) (Some i) ≡ Some v →
    entries_of later ≡ revalued (entries_of scope) i (slice_get (entries_of scope) i) left →
    old.num_operations < limit_under rules → mid ≡ record old { num_operations = old.num_operations + 1 } →
    (answer : Option (Reply H)) →
    Obeys (rules.natives.gives t (request (cells_of mid.cells) (Named operation.name) (Some v) [] operation.at)) answer (Some left) t' →
    MayLeave rules.setting.host_type rules.natives t (request (cells_of mid.cells) (Named operation.name) (Some v) [] operation.at)
    (Some left) t' → (q : Result (Dynamic H) (EvalAltResult H)) →
    IfSome answer (λ r. Answers q (replied rules.setting.limits rules.setting.host_type r (Some left) [] operation false
    (cells_of mid.cells))) →
    (HasMemory q → is_some answer ≡ true) →
    Runs rules (Ask (lent_call operation (Some (FromEntry i)) true (v ∷ []))) (state_of t old scope held) q (state_of t' mid later held)
unfolding Goes
asks_native rules operation i v lends t old mid t' scope later held left stands put_there room charged answer obeys may q told memory =
    let free = lent_freely (is_constant v.mode) (is_handle v.value) lends in
    let cells = cells_of mid.cells in
    let on = calls_on rules cells cells operation None true false v [] t free.1 answer left t' false false q (with_changed false q) (
      free_of_bar (is_constant v.mode) (is_pure_on rules.natives rules.setting.host_type t (Named operation.name) v []) free.0,
      (obeys, may),
      refl,
    ) refl told memory refl in
    asks_entry rules operation i v t old t' mid scope later held left put_there (with_changed false q) q
    (plain_changed false false q (λ h. refl))
    (unchanged_answer_is q)
    (λ k. charges_call rules t old mid scope held (passed_call operation (Some (FromEntry i)) true false (v ∷ [])) room charged k
    ⨾ first_by_itself rules operation None (Some (FromEntry i)) true false v [] t t' mid scope held stands (with_changed false q)
    left free.1 on k)

-- what a native answers that is an integer is the call's value
pub number_told : (H : Type 0) (limits : Limits) (host : H → List ℕ) (z : ℤ) (left : Option (Dynamic H)) (rest : List (Dynamic H))
    (operation : Operation) (cells : Cells H) →
    replied limits host (Gives (plain (value.Int z))) left rest operation false cells ≡ Ok (plain (value.Int z))
number_told H limits host z left rest operation cells = integer_sized H limits z operation.at

-- ---- the call

-- the argument resolves
pub argument_resolves : (call : FnCallExpr) (arg : Expr) (pos : Position) (frame : NamesFrame) → IsLone call arg →
    IsTrue (resolves_call call pos frame) → IsTrue (resolves_expr arg frame)
argument_resolves call arg pos frame lone h =
    (both (resolves_expr arg frame) true
    (subst (λ (args : List Expr). IsTrue (all_resolve_exprs (map tests_of args) frame)) lone.alone (operands_of_call call pos frame h))).0

-- it is no operator's
no_operator : (fast : Bool) (op : Option Token) (args : List Expr) → op ≡ None → is_operator_form fast op args ≡ false
no_operator fast (Some token) args is = cc
no_operator true None args is = refl
no_operator false None args is = refl

not_raced : (held : Bool) → held ≡ false → (held || false) ≡ false
not_raced held is = rw is refl

none_there : {A : Type 0} (o : Option A) → is_some o ≡ false → None ≡ o
none_there None is = refl
none_there (Some x) is = cc

module _ {H : Type 0} where
  -- what is lent is no handle, and so none of a held cell
  free_by : (cells : Cells H) (u : Union H) (constant : Bool) → (not constant && not (is_handle u)) ≡ true → is_held cells u ≡ false
  free_by cells (value.Cell id) true is = cc
  free_by cells (value.Cell id) false is = cc
  free_by cells _ constant is = refl

  -- a call that is not raced and whose name means nothing does not end early
  no_early_end : (raced : Bool) (meaning : Option (Result (Dynamic H) (EvalAltResult H))) (operation : Operation) → raced ≡ false →
      meaning ≡ None → ended_early raced meaning operation ≡ None
  no_early_end true meaning operation free nothing = cc
  no_early_end false meaning operation free nothing = nothing

  -- how a result ends that changed nothing
  unchanged_answer_ends : (q : Result (Dynamic H) (EvalAltResult H)) → ended_or_changed (with_changed false q) ≡ ended q
  unchanged_answer_ends (Ok v) = refl
  unchanged_answer_ends (Err e) = refl

  plain_end : (q : Result (Dynamic H) (EvalAltResult H)) →
      IfEnded (Ended (with_changed false q)) (λ answer. false ≡ false → answer.1 ≡ false)
  plain_end (Ok v) = λ m. refl
  plain_end (Err e) = tt

module _ {S H : Type 0} (rules : Rules S H) (call : FnCallExpr) (arg : Expr) (lone : IsLone call arg) (pos : Position)
    (offset : Option NonZeroUsize) (name : List ℕ) (namespace : Namespace) (where_ : Position)
    (form : out-Expr arg ≡ layer.Variable offset name namespace where_) (t : S) (old mid : RunState H) (scope : Scope
    H) (held : Held H)
    (room : old.num_operations < limit_under rules) (charged : mid ≡ record old { num_operations = old.num_operations + 1 }) where
  abbrev operation : Operation
  operation = record { name = call.name; token = None; at = pos }

  abbrev variable : Variable
  variable = variable_named name namespace where_

  abbrev leads : Leading
  leads = record { offset = offset; name = name; namespace = namespace; at = where_; rest = [] }

  -- it comes first
  first_leads : lent_first (takes_by_value {H = H} [] call.capture_parent_scope (entries_of scope)) call.args ≡ Some leads
  first_leads = rw (lone.captures, lone.alone, form) refl

  -- the call begins, and its variable is charged
  begins : (k : List (Frame H)) →
      Leads (machine rules) (cut rules) (at (OpenExpr (layer.Expr::FnCall call pos)) k (state_of t old scope held))
      (with_core (arguments_core rules.setting (ToCallOn operation variable (plainly false false)) [] [] k (local_of mid scope held))
      (state_of t mid scope held))
  begins k =
      let written : Operation = record { name = call.name; token = call.op_token; at = pos } in
      let same : written ≡ operation = ap (λ (token : Option Token). record operation { token = token }) lone.token in
      step_by rules _ _ (Go (function_of call pos k (local_of old scope held)))
      (function_goes rules.setting rules.setting.offer.fast_operators call.op_token call call.args pos k (local_of old scope held)
      (no_operator rules.setting.offer.fast_operators call.op_token call.args lone.token)
      ∙ ap (λ (unqualified : Bool). function_move rules.setting unqualified call pos k (local_of old scope held)) lone.path)
      (rw (
        plain_named call.op_token call.name written call.args call.capture_parent_scope k (local_of old scope held) lone.token
            lone.meaning,
        same,
      )
      (step_by rules _ _ (Charge where_ (arguments_core rules.setting (ToCallOn operation variable (plainly false false)) [] [] k
      (local_of old scope held)))
      (variable_goes rules.setting operation [] call.args call.capture_parent_scope false k (local_of old scope held) leads first_leads)
      (rw (lt-ltb _ _ room, charged) here)))

  module _ (index : ℕ) (v : Dynamic H) (there : entry_named namespace.path name (entries_of scope) ≡ Some index)
      (stands : value_in (entries_of scope) (Some index) ≡ Some v) (lends : is_lendable v ≡ true)
      (native : is_some (plain_found rules.setting.offer (surroundings_of old) call.name 1) ≡ false) where
    abbrev lent : Call H
    lent = lent_call operation (Some (FromEntry index)) true (v ∷ [])

    abbrev cells : Cells H
    cells = cells_of mid.cells

    free : is_held cells v.value ≡ false
    free = free_by cells v.value (is_constant v.mode) lends

    -- its name means nothing else
    means : meant rules.setting.offer (surroundings_of mid) operation rules.setting.host_type (v ∷ []) ≡ None
    means = let m : MeansNothing call.name = means_nothing call.name lone.meaning in rw (m.no_type, m.no_compiler) refl

    no_end : ended_early (races cells (v ∷ []))
        (meant rules.setting.offer (surroundings_of mid) operation rules.setting.host_type (v ∷ [])) operation ≡ None
    no_end = no_early_end (races cells (v ∷ []))
        (meant rules.setting.offer (surroundings_of mid) operation rules.setting.host_type (v ∷ [])) operation
        (not_raced (is_held cells v.value) free) means

    unfound : None ≡ plain_found rules.setting.offer (surroundings_of mid) call.name 1
    unfound = rw charged (none_there _ native)

    -- so that the native is asked
    pub at_once : (q : Result (Dynamic H) (EvalAltResult H)) (new : State S H) → Runs rules (Ask lent) (state_of t mid scope held) q new →
        Runs rules (OpenExpr (layer.Expr::FnCall call pos)) (state_of t old scope held) q new
    unfolding Goes
    at_once q new runs k =
        let seeks : Seeks = record { of_method = false; natives_alone = false } in
        let asks : Goes rules (dispatch_core rules.setting (plainly false false) lent) (state_of t mid scope held)
        (came_to (plainly false false) lent (Ended (with_changed false q))) new =
        resolved_asks rules seeks false lent (state_of t mid scope held) (no_end, unfound)
        (with_changed false q) new (λ r. rw (unchanged_answer_ends q) (runs r)) in
        let ends : Goes rules (dispatch_core rules.setting (plainly false false) lent) (state_of t mid scope held)
        (came_out true lent.operation.at (Ended q)) new =
        calls_ended rules (state_of t mid scope held) new (plainly false false) lent (with_changed false q) q (plain_end q)
        (unchanged_answer_is q)
        asks in
        begins k
        ⨾ on_called rules operation variable (plainly false false) [] (state_of t mid scope held) lent
        (on_lent (globals_of rules.setting.offer) (surroundings_of mid) (entries_of scope) variable operation [] index v there stands free
        lends) (Ended q) new ends k
