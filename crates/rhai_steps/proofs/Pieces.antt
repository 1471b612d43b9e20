-- Pieces of runs, as the functions of an evaluator put them together.
use Rattle.std.proofs.Common.{◌≡◌, ◌<◌, ◌≤◌, ◌+◌, false, List, Result, Ok, Err, refl, sym, ap, subst, ◌∙◌}
use Rattle.std.proofs.lemmas.Bool.{lt-ltb, le-ltb}
use Rattle.std.proofs.lemmas.Result.{err_from_is_err_and}
use Rattle.std.specs.Result.{IsErr, IsErrAnd}
use Rattle.rhai_tree.specs.declared.position.Position.{Position}
use Rattle.rhai_values.specs.declared.base.value.Dynamic.{Dynamic}
use Rattle.rhai_state.specs.declared.scope.Scope.{Scope}
use Rattle.rhai_lookups.specs.declared.run.RunState.{RunState}
use Rattle.rhai_errors.specs.declared.error.EvalAltResult.{EvalAltResult}
use Rattle.rhai_errors.specs.declared.error.EvalAltResult.TheVariants as error
use Rattle.rhai_errors.specs.Errors.{is_out_of_memory}
use Rattle.rhai_machine.specs.machine.Machine.{Move, Charge}
use Rattle.rhai_machine.specs.machine.Point.{Point, moved, after}
use Rattle.rhai_machine.specs.machine.Memory.{here, next, out_before_step, Leads}
use Rattle.rhai_machine.specs.language.Setting.{Rules, cut, limit_under}
use Rattle.rhai_machine.specs.language.State.{Held, State, Answers}
use Rattle.rhai_machine.specs.language.Frames.{Control, Frame, Core, core, ended, Fail}
use Rattle.rhai_machine.specs.language.Language.{machine, move}
use Rattle.rhai_machine.specs.language.Runs.{at, Steps, Runs}
use Rattle.rhai_steps.specs.States.{state_of}

-- what a `?` passes on
pub passed : {A H : Type 0} (r : Result A (EvalAltResult H)) {e : EvalAltResult H} → IsErr r × IsErrAnd r (λ y. y ≡ e) → r ≡ Err e
passed r h = let out = err_from_is_err_and r h.1 in out.1 ∙ ap Err out.2

module _ {S H : Type 0} (rules : Rules S H) where
  -- a step whose move is known
  pub step_by : (p q : Point S (Core H)) (m : Move H (Core H)) → move rules.setting p.core ≡ m →
      Leads (machine rules) (cut rules) (moved (machine rules) (cut rules) m p) q → Leads (machine rules) (cut rules) p q
  unfolding after
  step_by p q m e r = next
      (subst (λ (x : Move H (Core H)). Leads (machine rules) (cut rules) (moved (machine rules) (cut rules) x p) q) (sym e) r)

  -- a way out by `?`
  pub exits : (c : Control H) (old new : State S H) (r : Result (Dynamic H) (EvalAltResult H)) (e : EvalAltResult H) →
      IsErr r × IsErrAnd r (λ y. y ≡ e) → Steps rules c old (Fail e) new → Runs rules c old r new
  exits c old new r e is go = rw (passed r is) go

  -- an error, or instead of it that memory ran out
  pub or_runs_out : (c : Control H) (k : List (Frame H)) (s : State S H) (e : EvalAltResult H) →
      (is_out_of_memory e ≡ false → Leads (machine rules) (cut rules) (at c k s) (at (Fail e) k s)) →
      Leads (machine rules) (cut rules) (at c k s) (at (Fail e) k s)
  or_runs_out c k s (error.ErrorOutOfMemory pos) go = out_before_step {at = pos} here
  or_runs_out c k s e go = go refl

  -- an answer, or instead of it that memory ran out
  pub told : (r x : Result (Dynamic H) (EvalAltResult H)) → Answers r x → (k : List (Frame H)) (s : State S H) →
      Leads (machine rules) (cut rules) (at (ended x) k s) (at (ended r) k s)
  told (Ok v) x a k s = rw (← a tt) here
  told (Err e) x a k s = or_runs_out (ended x) k s e (λ m. rw (← a m) here)

  -- an error that is told
  pub faulted : (e x : EvalAltResult H) → (is_out_of_memory e ≡ false → e ≡ x) → (k : List (Frame H)) (s : State S H) →
      Leads (machine rules) (cut rules) (at (Fail x) k s) (at (Fail e) k s)
  faulted e x a k s = or_runs_out (Fail x) k s e (λ m. rw (a m) here)

  module _ (t : S) (old new : RunState H) (scope : Scope H) (held : Held H) (c d : Control H) (pos : Position)
      (charges : (k : List (Frame H)) → move rules.setting (at {S = S} c k (state_of t old scope held)).core ≡ Charge pos
      (core d k (state_of t old scope held).local)) where
    -- a charge that is let through
    pub charged : old.num_operations < limit_under rules → new ≡ record old { num_operations = old.num_operations + 1 } →
        (k : List (Frame H)) → Leads (machine rules) (cut rules) (at c k (state_of t old scope held)) (at d k (state_of t new scope held))
    charged room is k = step_by _ _ _ (charges k) (rw (lt-ltb _ _ room, is) here)

    -- and one that is refused
    pub refused : (x : EvalAltResult H) → limit_under rules ≤ old.num_operations → x ≡ error.ErrorTooManyOperations pos → new ≡ old →
        (k : List (Frame H)) →
        Leads (machine rules) (cut rules) (at c k (state_of t old scope held)) (at (Fail x) k (state_of t new scope held))
    refused x full is same k = step_by _ _ _ (charges k) (rw (le-ltb _ _ full, is, same) here)
