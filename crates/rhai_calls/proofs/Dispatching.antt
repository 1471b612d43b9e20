-- A call by name whose arguments are there.
use Rattle.std.proofs.Common.{arith, sym, ◌≡◌, ◌+◌, ◌-◌, suc, ℕ, Bool, true, false, List, [], ◌∷◌, Option, Some, None, Result, Err, refl}
use Rattle.std.proofs.Common.{not}
use Rattle.std.proofs.Common.{ap, ◌∙◌}
use Rattle.std.specs.Prelude.{ℤ, pos, ◌&&◌, codes, if◌then◌else◌, IfOk, Ok}
use Rattle.std.specs.Str.{bytes_eq}
use Rattle.rhai_tree.specs.declared.position.Position.{Position}
use Rattle.rhai_values.specs.declared.base.value.Dynamic.{Dynamic}
use Rattle.rhai_values.specs.declared.base.value.Union.{Union}
use Rattle.rhai_values.specs.declared.base.value.Union.TheVariants as value
use Rattle.rhai_errors.specs.declared.error.EvalAltResult.{EvalAltResult}
use Rattle.rhai_errors.specs.declared.error.EvalAltResult.TheVariants as error
use Rattle.rhai_errors.specs.Errors.{is_out_of_memory}
use Rattle.rhai_functions.specs.declared.function.Function.{Function}
use Rattle.rhai_machine.specs.machine.Memory.{here, out_before_step, Leads}
use Rattle.rhai_machine.specs.language.Setting.{Setting, Rules, cut}
use Rattle.rhai_machine.specs.language.State.{State, Local, HasMemory}
use Rattle.rhai_machine.specs.language.Values.{bool_value, through}
use Rattle.rhai_machine.specs.language.Variables.{no_path}
use Rattle.rhai_machine.specs.language.Frames.{Operation, Dispatch, Call, Frame, Core, core, ended, ended_or_changed, Ask, Back, Fail}
use Rattle.rhai_machine.specs.language.Calls.{asks_function, by_name_core, call_of, called_core, called_function, dispatch_core, found_core}
use Rattle.rhai_machine.specs.language.Calls.{knows_asked, knows_function, named_core, names_function, plainly, races}
use Rattle.rhai_machine.specs.language.Runs.{at, with_core, Steps, Goes}
use Rattle.rhai_machine.specs.language.Language.{machine}
use Rattle.rhai_steps.proofs.Operating.{dispatch_runs_out}
use Rattle.rhai_steps.proofs.Pieces.{faulted, told}
use Rattle.rhai_calls.specs.declared.dispatch.Called.TheVariants.{Ended, Enters}
use Rattle.rhai_calls.specs.declared.dispatch.Seeks.{Seeks}
use Rattle.rhai_calls.specs.Called.{came_out}
use Rattle.rhai_calls.specs.Dispatch.{came_to, ended_early, how_of, knows, meant, number_of, script_function, seen_number, seen_text}
use Rattle.rhai_calls.specs.Dispatch.{text_of, told_of, IfEnded, Means}
use Rattle.rhai_calls.specs.ToldChanges.{with_changed, without_changed}
use Rattle.rhai_calls.proofs.NativeCalls.{plain_ends, plain_changed}

-- a method's arguments without its focus, and a call's with its first
pub less_one : (n : ℕ) → suc n - 1 ≡ n
less_one n = omega arith

pub one_more : (n : ℕ) → suc n ≡ 1 + n
one_more n = omega arith

module _ {H : Type 0} (k : List (Frame H)) (l : Local H) where
  -- where a name leads: to what it means, or on
  abbrev leads_to : Option (Result (Dynamic H) (EvalAltResult H)) → Core H → Core H
  leads_to (Some r) c = core (ended r) k l
  leads_to None c = c

  chosen : (first second : Bool) (r q : Result (Dynamic H) (EvalAltResult H)) (c : Core H) →
      (if first then core (ended r) k l else if second then core (ended q) k l else c)
      ≡ leads_to (if first then Some r else if second then Some q else None) c
  chosen true second r q c = refl
  chosen false true r q c = refl
  chosen false false r q c = refl

  module _ (s : Setting H) (c : Core H) where
    knows_same : (name : List ℕ) (count : ℤ) →
        knows_function s l.around (value.Str name) (value.Int count) ≡ knows s.offer l.around name count
    knows_same name (pos count) = refl
    knows_same name _ = refl

    -- whether two values ask about a function
    asked_values : (u w : Union H) →
        (if names_function u w then core (Back (bool_value (knows_function s l.around u w))) k l else c)
        ≡ leads_to (told_of s.offer l.around (text_of u) (number_of w)) c
    asked_values (value.Str name) (value.Int count) = ap (λ (b : Bool). core (Back (bool_value b)) k l) (knows_same name count)
    asked_values (value.Str name) _ = refl
    asked_values _ w = refl

    told_no_number : (text : Option (List ℕ)) → c ≡ leads_to (told_of s.offer l.around text None) c
    told_no_number (Some name) = refl
    told_no_number None = refl

    asked_seen : (r q : Result (Dynamic H) (EvalAltResult H)) →
        (if asks_function r q then core (Back (bool_value (knows_asked s l.around r q))) k l else c)
        ≡ leads_to (told_of s.offer l.around (seen_text r) (seen_number q)) c
    asked_seen (Ok v) (Ok w) = asked_values v.value w.value
    asked_seen (Ok v) (Err e) = told_no_number (text_of v.value)
    asked_seen (Err e) q = refl

    asked : (b : Bool) (r q : Result (Dynamic H) (EvalAltResult H)) →
        (if b && asks_function r q then core (Back (bool_value (knows_asked s l.around r q))) k l else c)
        ≡ leads_to (if b then told_of s.offer l.around (seen_text r) (seen_number q) else None) c
    asked true r q = asked_seen r q
    asked false r q = refl

module _ {H : Type 0} where
  function_by : (s : Setting H) (alone of_method on_scope : Bool) (call : Call H) (l : Local H) →
      script_function s.offer l.around s.host_type (record { of_method = of_method; natives_alone = alone }) call.operation.name call.args
      ≡ called_function s (record { of_method = of_method; natives_alone = alone; on_scope = on_scope; path = no_path }) call l
  function_by s true of_method on_scope call l = refl
  function_by s false true on_scope call l = refl
  function_by s false false on_scope call l = refl

  -- the function of a script that a call means
  pub function_is : (s : Setting H) (seeks : Seeks) (on_scope : Bool) (call : Call H) (l : Local H) →
      script_function s.offer l.around s.host_type seeks call.operation.name call.args ≡ called_function s (how_of seeks on_scope) call l
  function_is s seeks on_scope call l = function_by s seeks.natives_alone seeks.of_method on_scope call l

  named_is : (s : Setting H) (how : Dispatch) (args : List (Dynamic H)) (call : Call H) (k : List (Frame H)) (l : Local H) →
      named_core s how args call k l
      ≡ leads_to k l (meant s.offer l.around call.operation s.host_type args) (called_core s how call k l)
  named_is s how [] call k l = refl
  named_is s how (v ∷ []) call k l =
      chosen k l (bytes_eq call.operation.name (codes "type_of")) (bytes_eq call.operation.name (codes "eval")) _ _ _
  named_is s how (v ∷ w ∷ []) call k l = asked k l s (called_core s how call k l) (bytes_eq call.operation.name (codes "is_def_fn"))
      (through l.around.cells v call.operation.at) (through l.around.cells w call.operation.at)
  named_is s how (v ∷ w ∷ u ∷ args) call k l = refl

  -- what a name means changes no argument
  pub untold_meant : (marks : Bool) (r : Result (Dynamic H) (EvalAltResult H)) (q : Result (Dynamic H × Bool) (EvalAltResult H)) →
      q ≡ with_changed false r → IfOk q (λ answer. marks ≡ false → answer.1 ≡ false)
  untold_meant marks r q is = rw is (plain_changed marks false r (λ _. refl))

  -- what holds of an answer holds of a call that ended with it
  pub ended_untold : (marks : Bool) (q : Result (Dynamic H × Bool) (EvalAltResult H)) →
      IfOk q (λ answer. marks ≡ false → answer.1 ≡ false) → IfEnded (Ended q) (λ answer. marks ≡ false → answer.1 ≡ false)
  ended_untold marks (Ok v) h = h
  ended_untold marks (Err e) h = tt

  of_ended : (r : Result (Dynamic H × Bool) (EvalAltResult H)) → IfEnded (Ended r) (λ answer. false ≡ false → answer.1 ≡ false) →
      IfOk r (λ answer. false ≡ false → answer.1 ≡ false)
  of_ended (Ok v) h = h
  of_ended (Err e) h = tt

  -- what a name means, unless memory ran out
  pub means_this : (o : Option (Result (Dynamic H) (EvalAltResult H))) (r : Result (Dynamic H) (EvalAltResult H)) → Means (Some r) o →
      HasMemory r → Some r ≡ o
  means_this None r means m = absurd means
  means_this (Some x) r means m = ap (λ (y : Result (Dynamic H) (EvalAltResult H)). Some y) (means m)

  -- it means nothing but a function
  pub means_none : (o : Option (Result (Dynamic H) (EvalAltResult H))) → Means None o → o ≡ None
  means_none None means = refl
  means_none (Some x) means = absurd means

  module _ (s : Setting H) (how : Dispatch) (call : Call H) (k : List (Frame H)) (l : Local H) where
    abbrev race : Core H
    race = core (Fail (error.ErrorDataRace call.operation.name call.operation.at)) k l

    abbrev told_meaning : Option (Result (Dynamic H) (EvalAltResult H))
    told_meaning = meant s.offer l.around call.operation s.host_type call.args

    early_or_called : (raced : Bool) →
        (if raced then race else named_core s how call.args call k l)
        ≡ leads_to k l (ended_early raced told_meaning call.operation) (called_core s how call k l)
    early_or_called true = refl
    early_or_called false = named_is s how call.args call k l

    -- a call that is no function's is at its end
    name_leads : by_name_core s how call k l
        ≡ leads_to k l (ended_early (races l.around.cells call.args) told_meaning call.operation)
        (called_core s how call k l)
    name_leads = early_or_called (races l.around.cells call.args)

module _ {S H : Type 0} (rules : Rules S H) (how : Dispatch) (call : Call H) (s : State S H) where
  -- memory runs out before a call is dispatched
  pub calls_run_out : (at : Position) →
      Goes rules (dispatch_core rules.setting how call) s
      (came_out (not how.on_scope) call.operation.at (Ended (Err (error.ErrorOutOfMemory at)))) s
  unfolding Goes
  calls_run_out at k =
      out_before_step {at = at} (rw (dispatch_runs_out rules.setting how call k s.local at) here)

  -- what a name means changes no argument
  meant_changes_none : (r : Result (Dynamic H) (EvalAltResult H)) → ended_or_changed (with_changed false r) ≡ ended r
  meant_changes_none (Ok v) = refl
  meant_changes_none (Err e) = refl

module _ {S H : Type 0} (rules : Rules S H) (seeks : Seeks) (on_scope : Bool) (call : Call H) (s : State S H) where
  abbrev meaning : Option (Result (Dynamic H) (EvalAltResult H))
  meaning = meant rules.setting.offer s.local.around call.operation rules.setting.host_type call.args

  abbrev wanted : Option (Function H)
  wanted = script_function rules.setting.offer s.local.around rules.setting.host_type seeks call.operation.name call.args

  -- how it ends for which no function is looked for
  abbrev early : Option (Result (Dynamic H) (EvalAltResult H))
  early = ended_early (races s.local.around.cells call.args) meaning call.operation

  early_ends : (r : Result (Dynamic H) (EvalAltResult H)) → Some r ≡ early → (k : List (Frame H)) →
      Leads (machine rules) (cut rules) (with_core (dispatch_core rules.setting (how_of seeks on_scope) call k s.local) s)
      (at (ended r) k s)
  early_ends r is k = rw (name_leads rules.setting (how_of seeks on_scope) call k s.local, ← is) here

  early_or_out : (r : Result (Dynamic H) (EvalAltResult H)) → (HasMemory r → Some r ≡ early) → (k : List (Frame H)) →
      Leads (machine rules) (cut rules) (with_core (dispatch_core rules.setting (how_of seeks on_scope) call k s.local) s)
      (at (ended r) k s)
  early_or_out (Ok v) h k = early_ends (Ok v) (h tt) k
  early_or_out (Err (error.ErrorOutOfMemory at)) h k = out_before_step {at = at}
      (rw (dispatch_runs_out rules.setting (how_of seeks on_scope) call k s.local at) here)
  early_or_out (Err e) h k = early_ends (Err e) (h refl) k

  -- one that has ended, or that has no memory
  pub resolved_ends : (r : Result (Dynamic H) (EvalAltResult H)) (q : Result (Dynamic H × Bool) (EvalAltResult H)) →
      q ≡ with_changed false r → (HasMemory r → Some r ≡ early) →
      Goes rules (dispatch_core rules.setting (how_of seeks on_scope) call) s (came_to (how_of seeks on_scope) call (Ended q)) s
  unfolding Goes
  resolved_ends r q is h k = rw (is, meant_changes_none rules (how_of seeks on_scope) call s r) (early_or_out r h k)

  -- one that is a function's leads to where that is found, or is not
  looked_for : (found : Option (Function H)) → early ≡ None → found ≡ wanted →
      (k : List (Frame H)) → dispatch_core rules.setting (how_of seeks on_scope) call k s.local
      ≡ found_core rules.setting found (how_of seeks on_scope) call k s.local
  looked_for found none is k =
      name_leads rules.setting (how_of seeks on_scope) call k s.local
      ∙ ap (λ o. leads_to k s.local o (called_core rules.setting (how_of seeks on_scope) call k s.local)) none
      ∙ ap (λ o. found_core rules.setting o (how_of seeks on_scope) call k s.local)
      (sym (is ∙ function_is rules.setting seeks on_scope call s.local))

  pub resolved_found : (f : Function H) → (early ≡ None) × (Some f ≡ wanted) →
      Goes rules (dispatch_core rules.setting (how_of seeks on_scope) call) s (came_to (how_of seeks on_scope) call (Enters f)) s
  unfolding Goes
  resolved_found f h k = rw (looked_for (Some f) h.0 h.1 k) here

  pub resolved_asks : (early ≡ None) × (None ≡ wanted) →
      (r : Result (Dynamic H × Bool) (EvalAltResult H)) (new : State S H) → Steps rules (Ask call) s (ended_or_changed r) new →
      Goes rules (dispatch_core rules.setting (how_of seeks on_scope) call) s (came_to (how_of seeks on_scope) call (Ended r)) new
  unfolding Goes
  resolved_asks h r new runs k = rw (looked_for None h.0 h.1 k) (runs k)

module _ {S H : Type 0} (rules : Rules S H) (s new : State S H) where
  -- a call that lends nothing and does not tell what it changed ends as it would by itself
  pub calls_ended : (how : Dispatch) (call : Call H) (r : Result (Dynamic H × Bool) (EvalAltResult H))
      (q : Result (Dynamic H) (EvalAltResult H)) → IfEnded (Ended r) (λ answer. false ≡ false → answer.1 ≡ false) → q ≡ without_changed r →
      Goes rules (dispatch_core rules.setting how call) s (came_to how call (Ended r)) new →
      Goes rules (dispatch_core rules.setting how call) s (came_out (not how.on_scope) call.operation.at (Ended q)) new
  unfolding Goes
  calls_ended how call r q plain is runs k = rw (is, ← plain_ends r (of_ended r plain)) (runs k)

  -- or it enters the function that was found
  pub calls_entered : (alone on_scope : Bool) (operation : Operation) (args : List (Dynamic H)) (f : Function H) →
      Goes rules (dispatch_core rules.setting (plainly alone on_scope) (call_of operation args)) s
      (came_to (plainly alone on_scope) (call_of operation args) (Enters f)) new →
      Goes rules (dispatch_core rules.setting (plainly alone on_scope) (call_of operation args)) s
      (came_out (not on_scope) (call_of operation args).operation.at (Enters (f, args))) new
  unfolding Goes
  calls_entered alone on_scope operation args f runs k = runs k
