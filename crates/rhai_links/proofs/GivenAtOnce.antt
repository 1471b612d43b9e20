-- What a chain is given at once is what the machine gives.
use Rattle.std.proofs.Common.{◌≡◌, true, List, [], ◌∷◌, Option, Some, None, Ok, Err, is_some, refl, sym, ap, ◌∙◌}
use Rattle.rhai_values.specs.declared.base.value.Dynamic.{Dynamic}
use Rattle.rhai_errors.specs.declared.error.EvalAltResult.{EvalAltResult}
use Rattle.rhai_errors.specs.declared.error.EvalAltResult.TheVariants as error
use Rattle.rhai_errors.specs.Errors.{is_out_of_memory}
use Rattle.rhai_machine.specs.language.State.{Answers}
use Rattle.rhai_links.specs.declared.arguments.Ready.{Ready}
use Rattle.rhai_links.specs.declared.arguments.Ready.TheVariants as code
use Rattle.rhai_links.specs.Ready.{IsReady}
use Rattle.rhai_links.specs.Given.{IsGiven}

module _ {H : Type 0} where
  -- an answer that is no value where there is one
  value_runs_out : (v : Dynamic H) (e : EvalAltResult H) → Answers (Err e) (Ok v) → is_out_of_memory e ≡ true
  value_runs_out v (error.ErrorOutOfMemory pos) a = refl
  value_runs_out v e a = let no = a refl in cc

  -- where a literal has a value, nothing but that memory ran out keeps it away
  pub literal_runs_out : (o : Option (Dynamic H)) → is_some o ≡ true → (e : EvalAltResult H) →
      ((v : Dynamic H) → o ≡ Some v → Answers (Err e) (Ok v)) → is_out_of_memory e ≡ true
  literal_runs_out None there e answers = cc
  literal_runs_out (Some v) there e answers = value_runs_out v e (answers v refl)

  -- and the value that is had is given alone
  pub literal_given : (o : Option (Dynamic H)) → is_some o ≡ true → (x : Dynamic H) →
      ((v : Dynamic H) → o ≡ Some v → Answers {A = Dynamic H} {H = H} (Ok x) (Ok v)) → (args : List (Dynamic H)) → args ≡ x ∷ [] →
      (v : Dynamic H) × (o ≡ Some v) × (Some args ≡ Some (v ∷ []))
  literal_given None there x answers args is = cc
  literal_given (Some v) there x answers args is =
      let same = answers v refl tt in
      let alone : args ≡ v ∷ [] = cc in
      (v, refl, ap Some alone)

  -- what is given at once is a literal that has a value
  pub is_given : (given : Ready) (o : Option (List (Dynamic H))) → IsReady (Some given) o → IsGiven H given
  is_given code.Nothing o is = tt
  is_given (code.Literal expr) o is = rw is.1 refl

  -- and it is what the machine gives
  pub given_same : (given : Ready) (o : Option (List (Dynamic H))) (args : List (Dynamic H)) → IsReady (Some given) o →
      IsReady (Some given) (Some args) → o ≡ Some args
  given_same code.Nothing o args is same = is ∙ sym same
  given_same (code.Literal expr) o args is same = let alike : is.0 ≡ same.0 = cc (is.1, same.1) in
      is.2 ∙ ap (λ (x : Dynamic H). Some (x ∷ [])) alike ∙ sym same.2
