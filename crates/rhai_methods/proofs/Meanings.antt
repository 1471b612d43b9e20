-- What a method's name means: how each of its parts runs.
use Rattle.std.proofs.Common.{◌≡◌, false, List, [], ◌∷◌, Some, None, Result, Ok, Err, length, refl, ap, subst}
use Rattle.std.specs.Prelude.{Bool, codes}
use Rattle.rhai_values.specs.declared.base.value.Dynamic.{Dynamic}
use Rattle.rhai_values.specs.declared.base.value.FnPtr.{FnPtr}
use Rattle.rhai_values.specs.TypeNames.{type_name_of}
use Rattle.rhai_errors.specs.declared.error.EvalAltResult.{EvalAltResult}
use Rattle.rhai_errors.specs.Errors.{is_out_of_memory, mismatch}
use Rattle.rhai_machine.specs.language.Setting.{Rules}
use Rattle.rhai_machine.specs.language.State.{Answers, State}
use Rattle.rhai_machine.specs.language.Values.{bool_value, through}
use Rattle.rhai_machine.specs.language.Arguments.{pointer_wanted}
use Rattle.rhai_machine.specs.language.Methods.{Method, MethodWord, CallWord, CurryWord, SharedWord, argument_at, call_argument}
use Rattle.rhai_machine.specs.language.Methods.{method_core}
use Rattle.rhai_machine.specs.language.Methods.{own_core, own_entry, word_core, word_of}
use Rattle.rhai_machine.specs.language.Runs.{Goes}
use Rattle.rhai_calls.specs.ToldChanges.{with_changed}
use Rattle.rhai_methods.specs.Calls.{named_on}
use Rattle.rhai_methods.specs.Copies.{copy_seen, curried_seen, own_copy}
use Rattle.rhai_methods.specs.Methods.{came_from, MethodCall}
use Rattle.rhai_methods.specs.Parts.{alone_with, name_called, on_with}
use Rattle.rhai_calls.specs.declared.dispatch.Called.TheVariants.{Ended}
use Rattle.rhai_methods.proofs.Cores.{argument_fails, argument_is, call_alone_is, call_argument_is, curry_is, named_is, own_fails}
use Rattle.rhai_methods.proofs.Cores.{own_is, seen_fails}
use Rattle.rhai_methods.proofs.Going.{begins_alike, ends_from, errs_from, fails_from}
use Rattle.rhai_methods.proofs.Levels.{argument_level, call_word_level, own_level}

module _ {S H : Type 0} (rules : Rules S H) (method : Method) (args : List (Dynamic H)) (focus : Dynamic H) (old : State S H) where
  -- ---- an argument that is called

  module _ (seen : Dynamic H) where
    abbrev argument_runs : MethodCall H → State S H → Type 0
    argument_runs call new = Goes rules (call_argument rules.setting method args seen focus) old (came_from method.at call) new

    -- there is none
    pub argument_misses : args ≡ [] → (e : EvalAltResult H) →
        (is_out_of_memory e ≡ false →
        e ≡ mismatch (codes "Fn") (type_name_of rules.setting.host_type old.local.around.cells seen) method.at) →
        argument_runs (Ended (Err e)) old
    argument_misses none e is =
        rw none (fails_from rules method.at (call_argument rules.setting method [] seen focus) old e _ (λ k. refl) is)

    module _ (first : Dynamic H) (rest : List (Dynamic H)) (parted : args ≡ first ∷ rest) where
      -- it is a pointer
      pub argument_goes : (p : FnPtr H) → Ok p ≡ pointer_wanted rules.setting.host_type old.local.around.cells first (argument_at method) →
          (call : MethodCall H) (new : State S H) →
          Goes rules (on_with rules.setting p (codes "call") method.at rest focus) old (came_from method.at call) new →
          argument_runs call new
      argument_goes p is call new runs = rw parted
          (begins_alike rules method.at (on_with rules.setting p (codes "call") method.at rest focus)
          (call_argument rules.setting method (first ∷ rest) seen focus) old new call
          (λ k. argument_is rules.setting k old.local _ p method rest focus is) runs)

      -- or none
      pub argument_errs : (e : EvalAltResult H) → (is_out_of_memory e ≡ false →
          Err e ≡ pointer_wanted rules.setting.host_type old.local.around.cells first (argument_at method)) →
          argument_runs (Ended (Err e)) old
      argument_errs e is = rw parted
          (errs_from rules method.at (call_argument rules.setting method (first ∷ rest) seen focus) old e
          (λ k. argument_level k old.local rules.setting method (first ∷ rest) seen focus)
          (λ m k. argument_fails rules.setting k old.local _ e (is m) _))

  -- ---- `call`

  abbrev call_runs : MethodCall H → State S H → Type 0
  call_runs call new = Goes rules (word_core rules.setting CallWord method args focus) old (came_from method.at call) new

  pub call_alone_goes : (p : FnPtr H) → Ok (Some p) ≡ copy_seen old.local.around.cells focus method.at →
      (call : MethodCall H) (new : State S H) →
      Goes rules (alone_with rules.setting p method.at args) old (came_from method.at call) new → call_runs call new
  call_alone_goes p is call new runs =
      begins_alike rules method.at (alone_with rules.setting p method.at args) (word_core rules.setting CallWord method args focus) old new
      call (λ k. call_alone_is rules.setting k old.local (through old.local.around.cells focus method.at) p method args focus is) runs

  call_argument_on : (seen : Result (Dynamic H) (EvalAltResult H)) → through old.local.around.cells focus method.at ≡ seen →
      Ok None ≡ copy_seen old.local.around.cells focus method.at →
      (call : MethodCall H) (new : State S H) →
      ((v : Dynamic H) → through old.local.around.cells focus method.at ≡ Ok v →
      Goes rules (call_argument rules.setting method args v focus) old (came_from method.at call) new) → call_runs call new
  call_argument_on (Ok v) at none call new runs =
      begins_alike rules method.at (call_argument rules.setting method args v focus) (word_core rules.setting CallWord method args focus)
      old new call (λ k. rw at (call_argument_is rules.setting k old.local v method args focus (rw at at none))) (runs v at)
  call_argument_on (Err e) at none call new runs = let never = rw at at none in cc

  pub call_argument_goes : Ok None ≡ copy_seen old.local.around.cells focus method.at →
      (call : MethodCall H) (new : State S H) →
      ((v : Dynamic H) → through old.local.around.cells focus method.at ≡ Ok v →
      Goes rules (call_argument rules.setting method args v focus) old (came_from method.at call) new) → call_runs call new
  call_argument_goes none call new runs = call_argument_on (through old.local.around.cells focus method.at) refl none call new runs

  pub call_errs : (e : EvalAltResult H) → (is_out_of_memory e ≡ false → Err e ≡ copy_seen old.local.around.cells focus method.at) →
      call_runs (Ended (Err e)) old
  call_errs e is = errs_from rules method.at (word_core rules.setting CallWord method args focus) old e
      (λ k. call_word_level k old.local rules.setting method args focus)
      (λ m k. seen_fails rules.setting k old.local (through old.local.around.cells focus method.at) e (is m) _)

  -- ---- `curry`

  pub curry_goes : (answer : Result (Dynamic H) (EvalAltResult H)) (r : Result (Dynamic H × Bool) (EvalAltResult H)) →
      r ≡ with_changed false answer → Answers answer (curried_seen rules.setting.host_type old.local.around.cells args method.at
      (through old.local.around.cells focus method.at)) →
      Goes rules (word_core rules.setting CurryWord method args focus) old (came_from method.at (Ended r)) old
  curry_goes answer r is answers = ends_from rules method.at (word_core rules.setting CurryWord method args focus) old
      (curried_seen rules.setting.host_type old.local.around.cells args method.at (through old.local.around.cells focus method.at))
      answer r
      (λ k. curry_is rules.setting k old.local (through old.local.around.cells focus method.at) method.at args) answers is

  -- ---- `is_shared`

  pub shared_goes : (v : Dynamic H) → v ≡ bool_value method.was_handle →
      Goes rules (word_core rules.setting SharedWord method args focus) old (came_from method.at (Ended (Ok (v, false)))) old
  shared_goes v is = ends_from rules method.at (word_core rules.setting SharedWord method args focus) old
      (Ok (bool_value method.was_handle)) (Ok v) (Ok (v, false)) (λ k. refl) (λ m. ap Ok is) refl

  -- ---- any other name

  abbrev plain_runs : MethodCall H → State S H → Type 0
  plain_runs call new = Goes rules (own_core rules.setting method args focus) old (came_from method.at call) new

  pub own_goes : (p : FnPtr H) → Ok (Some p) ≡ own_copy old.local.around.cells method.name focus method.at →
      (call : MethodCall H) (new : State S H) →
      Goes rules (on_with rules.setting p (name_called p None) method.at args focus) old (came_from method.at call) new →
      plain_runs call new
  own_goes p is call new runs =
      begins_alike rules method.at (on_with rules.setting p (name_called p None) method.at args focus)
      (own_core rules.setting method args focus) old new call
      (λ k. own_is rules.setting k old.local (own_entry old.local.around.cells method focus) p method args focus is) runs

  pub named_goes : Ok None ≡ own_copy old.local.around.cells method.name focus method.at →
      (call : MethodCall H) (new : State S H) →
      Goes rules (named_on rules.setting false method.name method.at args focus) old (came_from method.at call) new → plain_runs call new
  named_goes is call new runs =
      begins_alike rules method.at (named_on rules.setting false method.name method.at args focus)
      (own_core rules.setting method args focus) old new call
      (λ k. named_is rules.setting k old.local (own_entry old.local.around.cells method focus) method args focus is) runs

  pub own_errs : (e : EvalAltResult H) → (is_out_of_memory e ≡ false →
      Err e ≡ own_copy old.local.around.cells method.name focus method.at) → plain_runs (Ended (Err e)) old
  own_errs e is = errs_from rules method.at (own_core rules.setting method args focus) old e
      (λ k. own_level k old.local rules.setting method args focus)
      (λ m k. own_fails rules.setting k old.local (own_entry old.local.around.cells method focus) e (is m) _)

  -- ---- a method by its word

  pub by_word : (word : MethodWord) → word ≡ word_of method.name (length args) → (call : MethodCall H) (new : State S H) →
      Goes rules (word_core rules.setting word method args focus) old (came_from method.at call) new →
      Goes rules (method_core rules.setting method args focus) old (came_from method.at call) new
  by_word word is call new runs =
      subst (λ (w : MethodWord). Goes rules (word_core rules.setting w method args focus) old (came_from method.at call) new) is runs
