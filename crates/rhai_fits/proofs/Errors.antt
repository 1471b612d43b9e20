-- Errors that contain only what has a property.
use Rattle.std.proofs.Common.{◌≡◌, ℕ, List, refl, sym, ◌∙◌, subst, rules}
use Rattle.std.specs.Prelude.{⊤, Option, Some, None}
use Rattle.rhai_tree.specs.declared.position.Position.{Position}
use Rattle.rhai_values.specs.declared.base.value.Dynamic.{Dynamic}
use Rattle.rhai_errors.specs.declared.error.EvalAltResult.{EvalAltResult, ErrorInFunctionCall', out-EvalAltResult, roll-EvalAltResult}
use Rattle.rhai_errors.specs.declared.error.EvalAltResult.{roll-out-EvalAltResult}
use Rattle.rhai_errors.specs.declared.error.EvalAltResult.TheOpen as layer
use Rattle.rhai_errors.specs.declared.error.EvalAltResult.TheVariants as error
use Rattle.rhai_errors.specs.declared.error.EvalAltResult.TheVariants.{outs-ErrorInFunctionCall, outs-ErrorRuntime, outs-Exit, outs-Return}
use Rattle.rhai_errors.specs.declared.error.EvalAltResult.TheVariants.{outs-LoopBreak, rolls-ErrorInFunctionCall, rolls-ErrorVariableExists}
use Rattle.rhai_errors.specs.declared.error.EvalAltResult.TheVariants.{rolls-ErrorVariableNotFound, rolls-ErrorModuleNotFound}
use Rattle.rhai_errors.specs.declared.error.EvalAltResult.TheVariants.{rolls-ErrorFunctionNotFound, rolls-ErrorUnboundThis}
use Rattle.rhai_errors.specs.declared.error.EvalAltResult.TheVariants.{rolls-ErrorMismatchDataType, rolls-ErrorArrayBounds}
use Rattle.rhai_errors.specs.declared.error.EvalAltResult.TheVariants.{rolls-ErrorStringBounds, rolls-ErrorBitFieldBounds}
use Rattle.rhai_errors.specs.declared.error.EvalAltResult.TheVariants.{rolls-ErrorIndexingType, rolls-ErrorPropertyNotFound, rolls-ErrorFor}
use Rattle.rhai_errors.specs.declared.error.EvalAltResult.TheVariants.{rolls-ErrorDataRace, rolls-ErrorAssignmentToConstant}
use Rattle.rhai_errors.specs.declared.error.EvalAltResult.TheVariants.{rolls-ErrorDotExpr, rolls-ErrorArithmetic}
use Rattle.rhai_errors.specs.declared.error.EvalAltResult.TheVariants.{rolls-ErrorNonPureMethodCallOnConstant, rolls-ErrorTooManyOperations}
use Rattle.rhai_errors.specs.declared.error.EvalAltResult.TheVariants.{rolls-ErrorTooManyVariables, rolls-ErrorTooManyModules}
use Rattle.rhai_errors.specs.declared.error.EvalAltResult.TheVariants.{rolls-ErrorStackOverflow, rolls-ErrorDataTooLarge}
use Rattle.rhai_errors.specs.declared.error.EvalAltResult.TheVariants.{rolls-ErrorOutOfMemory, rolls-ErrorRuntime, rolls-Exit, rolls-Return}
use Rattle.rhai_errors.specs.declared.error.EvalAltResult.TheVariants.{rolls-LoopBreak}
use Rattle.rhai_errors.specs.declared.error.EvalAltResult.TheFolds.{fold_out-EvalAltResult, fold-FunctionCallError, map-EvalAltResult}
use Rattle.rhai_errors.specs.declared.error.EvalAltResult.TheFolds.{fold-roll-EvalAltResult, fold-roll-FunctionCallError, ind-EvalAltResult}
use Rattle.rhai_errors.specs.declared.error.EvalAltResult.TheFolds.{map-FunctionCallError}
use Rattle.rhai_machine.specs.language.Caught.{thrown, thrown_by}
use Rattle.rhai_errors.specs.declared.error.EvalAltResult.TheViews.{the_lemmas}
use Rattle.rhai_errors.specs.declared.error.FunctionCallError.{FunctionCallError, roll-FunctionCallError}
use Rattle.rhai_errors.specs.Errors.{at_position}
use Rattle.rhai_values.specs.ValueContents.{Reached}
use Rattle.rhai_errors.specs.ErrorContents.{error_contents, in_error}
use Rattle.rhai_fits.proofs.Properties.{AllHave}
use Rattle.rhai_fits.proofs.Values.{Fit, fit_reached, reached_is_fit}

-- each kind of error but that of a call, as it is rolled
ruleset kinds = (
  rolls-ErrorVariableExists,
  rolls-ErrorVariableNotFound,
  rolls-ErrorModuleNotFound,
  rolls-ErrorFunctionNotFound,
  rolls-ErrorUnboundThis,
  rolls-ErrorMismatchDataType,
  rolls-ErrorArrayBounds,
  rolls-ErrorStringBounds,
  rolls-ErrorBitFieldBounds,
  rolls-ErrorIndexingType,
  rolls-ErrorPropertyNotFound,
  rolls-ErrorFor,
  rolls-ErrorDataRace,
  rolls-ErrorAssignmentToConstant,
  rolls-ErrorDotExpr,
  rolls-ErrorArithmetic,
  rolls-ErrorNonPureMethodCallOnConstant,
  rolls-ErrorTooManyOperations,
  rolls-ErrorTooManyVariables,
  rolls-ErrorTooManyModules,
  rolls-ErrorStackOverflow,
  rolls-ErrorDataTooLarge,
  rolls-ErrorOutOfMemory,
  rolls-ErrorRuntime,
  rolls-Exit,
  rolls-Return,
  rolls-LoopBreak,
)

module _ {H : Type 0} (own : H → List Reached) (P : Reached → Type 0) where
  unfoldable pub FitError : EvalAltResult H → Type 0
  FitError e = AllHave P (error_contents own e)

  pub error_reached : (e : EvalAltResult H) → FitError e → AllHave P (error_contents own e)
  unfolding FitError
  error_reached e h = h

  pub reached_error : (e : EvalAltResult H) → AllHave P (error_contents own e) → FitError e
  unfolding FitError
  reached_error e h = h

  -- an error with a value
  abbrev HasValue : EvalAltResult H → Type 0
  HasValue (error.ErrorRuntime v at) = Fit own P v
  HasValue (error.Exit v at) = Fit own P v
  HasValue (error.Return v at) = Fit own P v
  HasValue (error.LoopBreak v is_break at) = Fit own P v
  HasValue (ErrorInFunctionCall' shape call at) = ⊥
  HasValue _ = ⊤

  pub fit_error : (e : EvalAltResult H) → HasValue e → FitError e
  unfolding FitError
  fit_error (error.ErrorRuntime v at) h = rw (fold_out-EvalAltResult, outs-ErrorRuntime) (fit_reached own P v h)
  fit_error (error.Exit v at) h = rw (fold_out-EvalAltResult, outs-Exit) (fit_reached own P v h)
  fit_error (error.Return v at) h = rw (fold_out-EvalAltResult, outs-Return) (fit_reached own P v h)
  fit_error (error.LoopBreak v is_break at) h = rw (fold_out-EvalAltResult, outs-LoopBreak) (fit_reached own P v h)
  fit_error (ErrorInFunctionCall' shape call at) h = absurd h
  fit_error _ h = simp (fold_out-EvalAltResult, the_lemmas) tt

  abbrev ValueFits : EvalAltResult H → Type 0
  ValueFits (error.ErrorRuntime v at) = Fit own P v
  ValueFits (error.Exit v at) = Fit own P v
  ValueFits (error.Return v at) = Fit own P v
  ValueFits (error.LoopBreak v is_break at) = Fit own P v
  ValueFits _ = ⊤

  pub error_fits : (e : EvalAltResult H) → FitError e → ValueFits e
  unfolding FitError
  error_fits (error.ErrorRuntime v at) h = reached_is_fit own P v (rw (fold_out-EvalAltResult, outs-ErrorRuntime) at h)
  error_fits (error.Exit v at) h = reached_is_fit own P v (rw (fold_out-EvalAltResult, outs-Exit) at h)
  error_fits (error.Return v at) h = reached_is_fit own P v (rw (fold_out-EvalAltResult, outs-Return) at h)
  error_fits (error.LoopBreak v is_break at) h = reached_is_fit own P v (rw (fold_out-EvalAltResult, outs-LoopBreak) at h)
  error_fits _ h = tt

  moved : (pos at : Position) (call : FunctionCallError H) →
      at_position pos (error.ErrorInFunctionCall call at) ≡ error.ErrorInFunctionCall {X1 = H} call pos
  moved pos at call = search (rules, the_lemmas)

  abbrev reached_call : FunctionCallError H → List Reached
  reached_call = fold-FunctionCallError H (List Reached) (List Reached) (in_error own) (λ call. call.error)

  reached_in_call : (call : FunctionCallError H) (at : Position) →
      error_contents own (error.ErrorInFunctionCall call at) ≡ reached_call call
  reached_in_call call at = rw (fold_out-EvalAltResult, outs-ErrorInFunctionCall) refl

  same_layer : (pos : Position) (l : layer.EvalAltResult-F H (EvalAltResult H) (FunctionCallError H)) →
      error_contents own (at_position pos (roll-EvalAltResult H l)) ≡ error_contents own (roll-EvalAltResult H l)
  same_layer pos (layer.ErrorInFunctionCall call at) =
      rw (rolls-ErrorInFunctionCall, moved pos at call) (reached_in_call call pos ∙ sym (reached_in_call call at))
  same_layer pos _ = simp (kinds, fold_out-EvalAltResult, the_lemmas)

  pub fit_at : (pos : Position) (e : EvalAltResult H) → FitError e → FitError (at_position pos e)
  unfolding FitError
  fit_at pos e h =
      let same = subst (λ e. error_contents own (at_position pos e) ≡ error_contents own e) (roll-out-EvalAltResult H e)
      (same_layer pos (out-EvalAltResult H e)) in
      subst (AllHave P) (sym same) h

  -- an error in a call
  pub fit_in_call : (name source : List ℕ) (e : EvalAltResult H) (at : Position) → FitError e →
      FitError (error.ErrorInFunctionCall {X1 = H} (roll-FunctionCallError H (record { name = name; source = source; error = e })) at)
  unfolding FitError
  fit_in_call name source e at h = rw (reached_in_call, fold-roll-FunctionCallError) h

  -- ---- the value that an error throws

  abbrev pub FitsMaybe : Option (Dynamic H) → Type 0
  FitsMaybe None = ⊤
  FitsMaybe (Some v) = Fit own P v

  abbrev thrown_call : FunctionCallError H → Option (Dynamic H)
  thrown_call = fold-FunctionCallError H (Option (Dynamic H)) (Option (Dynamic H)) thrown_by (λ call. call.error)

  abbrev Throws : EvalAltResult H → Type 0
  Throws e = AllHave P (error_contents own e) → FitsMaybe (thrown e)

  abbrev CallThrows : FunctionCallError H → Type 0
  CallThrows call = AllHave P (reached_call call) → FitsMaybe (thrown_call call)

  abbrev E : Type 0
  E = (e : EvalAltResult H) × Throws e

  abbrev C : Type 0
  C = (call : FunctionCallError H) × CallThrows call

  abbrev bare : layer.EvalAltResult-F H E C → layer.EvalAltResult-F H (EvalAltResult H) (FunctionCallError H)
  bare = map-EvalAltResult H E C (EvalAltResult H) (FunctionCallError H) (λ e. e.0) (λ e. e.0)

  abbrev reached_level : layer.EvalAltResult-F H (EvalAltResult H) (FunctionCallError H) → layer.EvalAltResult-F H (List Reached) (List
      Reached)
  reached_level = map-EvalAltResult H (EvalAltResult H) (FunctionCallError H) (List Reached) (List Reached)
      (error_contents own) reached_call

  abbrev thrown_level : layer.EvalAltResult-F H (EvalAltResult H) (FunctionCallError H) → layer.EvalAltResult-F H (Option (Dynamic H))
      (Option (Dynamic H))
  thrown_level = map-EvalAltResult H (EvalAltResult H) (FunctionCallError H) (Option (Dynamic H)) (Option (Dynamic H)) thrown thrown_call

  level_throws : (y : layer.EvalAltResult-F H E C) → AllHave P (in_error own (reached_level (bare y))) →
      FitsMaybe (thrown_by (thrown_level (bare y)))
  level_throws (layer.ErrorInFunctionCall e at) h = e.1 h
  level_throws (layer.ErrorRuntime v at) h = reached_is_fit own P v h
  level_throws _ h = tt

  throws_step : (y : layer.EvalAltResult-F H E C) → Throws (roll-EvalAltResult H (bare y))
  throws_step y h = rw fold-roll-EvalAltResult (level_throws y (rw fold-roll-EvalAltResult at h))

  call_step : (y : layer.FunctionCallError-F H E C) → CallThrows (roll-FunctionCallError H (map-FunctionCallError H E C (EvalAltResult H)
      (FunctionCallError H) (λ e. e.0) (λ e. e.0) y))
  call_step y h = rw fold-roll-FunctionCallError (y.error.1 (rw fold-roll-FunctionCallError at h))

  throws : (e : EvalAltResult H) → Throws e
  throws = ind-EvalAltResult H Throws CallThrows (λ x y is. subst (λ z. Throws (roll-EvalAltResult H z)) is (throws_step y))
      (λ x y is. subst (λ z. CallThrows (roll-FunctionCallError H z)) is (call_step y))

  pub thrown_fits : (e : EvalAltResult H) → FitError e → FitsMaybe (thrown e)
  unfolding FitError
  thrown_fits e h = throws e h
