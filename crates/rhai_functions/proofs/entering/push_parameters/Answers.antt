use Rattle.std.proofs.Common.{◌≡◌, ◌+◌, ◌++◌, ◌∷◌, [], slice_set, length, suc, ap, ◌∙◌, arith}
use Rattle.rhai_values.specs.declared.base.value.AccessMode.TheVariants.{ReadWrite}
use Rattle.rhai_state.specs.Scope.{entries_of, new_entry}
use Rattle.rhai_functions.specs.Entering.{left_of, unit}
use Rattle.rhai_functions.proofs.Pushing.{begins_on, pushed_on, set_next}
use Rattle.rhai_functions.proofs.entering.push_parameters.Goals as goal

pub params-preserved : goal.params-preserved
params-preserved g c =
    let pushed = c.in_ok-push_shared.ensures.ok ∙ ap (λ name. entries_of c.params.scope ++ new_entry name ReadWrite
    c.take_argument-value.result ∷ [])
    c.in_ok-share.ensures in
    let step : c.params.at + 1 ≡ suc c.params.at = omega arith in
    record {
      pushed = rw (pushed, step)
          (pushed_on (entries_of c.params.scope) _ c.args.params.now c.params.args c.take_argument-value.new.args c.params.at
          c.index-params-at.result c.take_argument-value.result (omega arith) c.index-params-at.is c.take_argument-value.ensures.taken
          c.take_argument-value.ensures.others
          c.params.invariant.pushed);
      begins = rw pushed (begins_on (entries_of c.args.scope.now) (entries_of c.params.scope) _ c.params.invariant.begins);
      within = omega arith;
      left = rw step (c.take_argument-value.ensures.left ∙ ap (λ xs. slice_set xs c.params.at unit) c.params.invariant.left
          ∙ set_next unit c.args.args.now c.params.at);
      args = c.take_argument-value.ensures.length ∙ c.params.invariant.args;
    }

pub returns-clause-left : goal.returns-clause-left
returns-clause-left g c =
    let all : c.params.at ≡ length c.args.params.now = omega (arith, c.params.invariant.within) in
    c.params.invariant.left ∙ ap (λ n. left_of n c.args.args.now) all

pub returns-in_err-share-clause-taken : goal.returns-in_err-share-clause-taken
returns-in_err-share-clause-taken g c = (
  suc c.params.at,
  c.take_argument-value.ensures.left ∙ ap (λ xs. slice_set xs c.params.at unit) c.params.invariant.left
      ∙ set_next unit c.args.args.now c.params.at,
)

pub returns-in_err-push_shared-clause-taken : goal.returns-in_err-push_shared-clause-taken
returns-in_err-push_shared-clause-taken g c = (
  suc c.params.at,
  c.take_argument-value.ensures.left ∙ ap (λ xs. slice_set xs c.params.at unit) c.params.invariant.left
      ∙ set_next unit c.args.args.now c.params.at,
)
