-- What a host is told of a part's run.
use Rattle.std.proofs.Common.{◌≡◌, ◌∙◌, ℕ, Bool, List, [], Option, Some, None, Result, sym, ap}
use Rattle.std.specs.Prelude.{IfSome, is_some}
use Rattle.rhai_state.specs.declared.scope.Scope.{Scope}
use Rattle.rhai_values.specs.declared.base.value.Dynamic.{Dynamic}
use Rattle.rhai_errors.specs.declared.error.EvalAltResult.{EvalAltResult}
use Rattle.rhai_state.specs.declared.limits.Limits.{Limits}
use Rattle.rhai_state.specs.declared.state.GlobalRuntimeState.{GlobalRuntimeState}
use Rattle.rhai_errors.specs.Native.{Natives}
use Rattle.rhai_machine.specs.language.Setting.{Offer, Rules, rules_of}
use Rattle.rhai_machine.specs.language.State.{Held, State}
use Rattle.rhai_machine.specs.language.Frames.{Control}
use Rattle.rhai_machine.specs.language.Runs.{Runs, Goes}
use Rattle.rhai_machine.proofs.LanguageLaws.{script_limits_agree}
use Rattle.rhai_laws.proofs.ScriptMemory.{runs_up_to_memory, steps_with_memory}
use Rattle.rhai_state.specs.declared.session.Session.{Session}
use Rattle.rhai_steps.specs.Sessions as sessions
use Rattle.rhai_lookups.specs.Runs.{given_back, run_of}
use Rattle.rhai_steps.specs.Callers.{state_of}
use Rattle.rhai_steps.specs.States.{holding, state_of as run_state}
use Rattle.rhai_context.specs.declared.Context.{Context}
use Rattle.rhai_context.specs.Ends.{unit}
use Rattle.rhai_eval_core.specs.declared.evaluator.Evaluator.{Evaluator}
use Rattle.rhai_eval_steps.specs.States.{state_in}
use Rattle.rhai_eval_core.specs.States.{offer_of as offered, under as under_what_is_read}
use Rattle.rhai_eval_steps.proofs.Chain.{still_none}
use Rattle.rhai_eval.specs.declared.engine.Engine.{Engine}
use Rattle.rhai_eval.specs.Ends.{AgreesAbove, EndsAs}
use Rattle.rhai_eval.specs.States.{limits_of, offer_of, under}

-- a session of an engine has the engine's rules
pub session_rules : {S H : Type 0} (host : H → List ℕ) (natives : Natives S H) (engine : Engine H) (session : Session H) →
    session.limits ≡ limits_of engine → sessions.offer_of session ≡ offer_of engine →
    sessions.under host session natives ≡ under host engine natives
session_rules host natives engine session limits offer = ap (λ (l : Limits). rules_of l host (sessions.offer_of session) natives) limits
    ∙ ap (λ (o : Offer _). rules_of (limits_of engine) host o natives) offer

-- what a run reads of an engine has the engine's rules
pub same_rules : {S H : Type 0} (host : H → List ℕ) (natives : Natives S H) (engine : Engine H) (read : Evaluator H) →
    read.session.limits ≡ limits_of engine → offered read ≡ offer_of engine →
    under_what_is_read host read natives ≡ under host engine natives
same_rules host natives engine read limits offer = session_rules host natives engine read.session limits offer

-- of so many places nothing is told
abbrev pub five : {X : Type 0} → X → Unit {0} × (Unit {0} × (Unit {0} × (Unit {0} × (Unit {0} × X))))
five x = (tt, (tt, (tt, (tt, (tt, x)))))

-- what stands in a place is what was left, where something was
left_there : {A : Type 0} (left : Option A) (w : A) → is_some left ≡ is_some (Some w) → IfSome left (λ v. w ≡ v) → left ≡ Some w
left_there (Some v) w bound there = ap (λ (x : _). Some x) (sym there)
left_there None w bound there = cc

-- What holds of a run over values that were taken from a caller and given back holds over the caller's own, by what is read of the engine.
module _ {S H : Type 0} {read rules : Rules S H} (reads : read ≡ rules) (P : Rules S H → State S H → State S H → Type 0) (t u : S)
    (taken left : Context H) (global after : GlobalRuntimeState H) {search : Bool}
    (gives : after ≡ given_back search left.global) where
  -- where its variables are none of his
  pub handed_apart : (scope names : Scope H) (held still : Held H) → taken.global ≡ run_of global →
      P read (run_state t taken.global scope held) (run_state u left.global names still) →
      P rules (state_of t global scope held) (state_of u after names still)
  handed_apart scope names held still is holds = rw gives (rw (reads, is) at holds)

  module _ (scope names : Scope H) (variables : names ≡ left.scope) where
    -- whatever it has in hand
    pub handed_held : (this : Option (Dynamic H)) (held still : Held H) →
        taken ≡ record { global = run_of global; scope = scope; this = this; value = unit; error = None; spare = tt } →
        P read (run_state t taken.global taken.scope held) (run_state u left.global left.scope still) →
        P rules (state_of t global scope held) (state_of u after names still)
    handed_held this held still is holds = rw (gives, variables) (rw (reads, is) at holds)

    module _ (bound : is_some left.this ≡ is_some taken.this) where
      handed : (this ends : Option (Dynamic H)) → taken ≡ record {
        global = run_of global;
        scope = scope;
        this = this;
        value = unit;
        error = None;
        spare = tt;
      } →
          left.this ≡ ends → P read (state_in t taken) (state_in u left) →
          P rules (state_of t global scope (holding this)) (state_of u after names (holding ends))
      handed this ends is there holds = rw (gives, variables) (rw (reads, is, there) at holds)

      -- where he has no `this`
      pub handed_free : (this ends : Option (Dynamic H)) → this ≡ None → ends ≡ None →
          taken ≡ record { global = run_of global; scope = scope; this = None; value = unit; error = None; spare = tt } →
          P read (state_in t taken) (state_in u left) →
          P rules (state_of t global scope (holding this)) (state_of u after names (holding ends))
      handed_free this ends none still is holds =
          let there = still_none left.this (bound ∙ ap (λ (run : Context H). is_some run.this) is) in
          rw (none, still) (handed None None is there holds)

      -- and where he has one in a place of his
      pub handed_on : (this ends : Option (Dynamic H)) (v w : Dynamic H) → this ≡ Some v → ends ≡ Some w →
          taken ≡ record { global = run_of global; scope = scope; this = Some v; value = unit; error = None; spare = tt } →
          IfSome left.this (λ x. w ≡ x) →
          P read (state_in t taken) (state_in u left) →
          P rules (state_of t global scope (holding this)) (state_of u after names (holding ends))
      handed_on this ends v w some stands is back holds =
          let there = left_there left.this w (bound ∙ ap (λ (run : Context H). is_some run.this) is) back in
          rw (some, stands) (handed (Some v) (Some w) is there holds)

module _ {S H : Type 0} (rules : Rules S H) where
  -- a run from a control is the end of its part
  pub ends_as : (c : Control H) (old new : State S H) (r : Result (Dynamic H) (EvalAltResult H)) → Runs rules c old r new →
      EndsAs rules c old r new
  unfolding Goes
  ends_as c old new r runs = record {
    runs = λ memory k. steps_with_memory rules r k new memory (runs k);
    up_to = λ k. runs_up_to_memory rules (runs k);
  }

  pub ends_as_told : (c : Control H) (old new : State S H) (r told : Result (Dynamic H) (EvalAltResult H)) → told ≡ r →
      Runs rules c old r new → EndsAs rules c old told new
  ends_as_told c old new r told is runs = rw is (ends_as c old new r runs)

  -- and agrees with those under higher limits
  pub agrees_above : (c : Control H) (old new : State S H) (r : Result (Dynamic H) (EvalAltResult H)) → Runs rules c old r new →
      AgreesAbove rules c old r new
  unfolding Goes
  agrees_above c old new r runs memory = script_limits_agree rules c old new r (steps_with_memory rules r [] new memory (runs []))
