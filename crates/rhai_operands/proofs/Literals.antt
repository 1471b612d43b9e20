-- An argument that is a literal is charged at its start, and is there.
use Rattle.std.proofs.Common.{◌≡◌, ◌<◌, ◌≤◌, ◌+◌, true, Option, Some, None, Result, Ok, Err, refl, is_some, IfSome}
use Rattle.rhai_tree.specs.declared.expr.Expr.{Expr, out-Expr}
use Rattle.rhai_tree.specs.Positions.{start_of}
use Rattle.rhai_values.specs.declared.base.value.Dynamic.{Dynamic}
use Rattle.rhai_state.specs.declared.scope.Scope.{Scope}
use Rattle.rhai_lookups.specs.declared.run.RunState.{RunState}
use Rattle.rhai_errors.specs.declared.error.EvalAltResult.{EvalAltResult}
use Rattle.rhai_errors.specs.declared.error.EvalAltResult.TheVariants as error
use Rattle.rhai_machine.specs.machine.Memory.{◌⨾◌}
use Rattle.rhai_machine.specs.language.Setting.{Rules, limit_under}
use Rattle.rhai_machine.specs.language.State.{Held, Answers}
use Rattle.rhai_machine.specs.language.Expressions.{literal_of}
use Rattle.rhai_machine.specs.language.Frames.{Argument, Back}
use Rattle.rhai_machine.specs.language.Runs.{Runs, Goes}
use Rattle.rhai_steps.specs.States.{state_of}
use Rattle.rhai_steps.proofs.Pieces.{charged, refused, told}

module _ {S H : Type 0} (rules : Rules S H) (t : S) (old new : RunState H) (scope : Scope H) (held : Held H)
    (e : Expr) where
  literal_goes : (v : Dynamic H) → literal_of (out-Expr e) ≡ Some v → old.num_operations < limit_under rules →
      new ≡ record old { num_operations = old.num_operations + 1 } → (r : Result (Dynamic H) (EvalAltResult H)) → Answers r (Ok v) →
      Runs rules (Argument e) (state_of t old scope held) r (state_of t new scope held)
  unfolding Goes
  literal_goes v literal room is r answers k =
      charged rules t old new scope held (Argument e) (Back v) (start_of e) (λ k. rw literal refl) room is k
      ⨾ told rules r (Ok v) answers k _

  -- what its value comes to
  pub literal_told : (o : Option (Dynamic H)) → literal_of (out-Expr e) ≡ o → is_some o ≡ true → old.num_operations < limit_under rules →
      new ≡ record old { num_operations = old.num_operations + 1 } → (answer : Option (Result (Dynamic H) (EvalAltResult H))) →
      IfSome answer (λ r. (v : Dynamic H) → literal_of (out-Expr e) ≡ Some v → Answers r (Ok v)) →
      IfSome answer (λ r. Runs rules (Argument e) (state_of t old scope held) r (state_of t new scope held))
  literal_told None is some room charged answer exact = cc
  literal_told (Some v) is some room charged None exact = tt
  literal_told (Some v) is some room charged (Some r) exact = literal_goes v is room charged r (exact v is)

  -- or its charge is refused
  pub literal_refused : (o : Option (Dynamic H)) → literal_of (out-Expr e) ≡ o → is_some o ≡ true → (x : EvalAltResult H) →
      limit_under rules ≤ old.num_operations → x ≡ error.ErrorTooManyOperations (start_of e) → new ≡ old →
      Runs rules (Argument e) (state_of t old scope held) (Err x) (state_of t new scope held)
  unfolding Goes
  literal_refused None is some x full refusal same k = cc
  literal_refused (Some v) is some x full refusal same k =
      refused rules t old new scope held (Argument e) (Back v) (start_of e) (λ k. rw is refl) x full refusal same k
