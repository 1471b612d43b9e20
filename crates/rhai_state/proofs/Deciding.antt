-- The tests of a state and a scope say whether they fit together.
use Rattle.std.proofs.Common.{◌≡◌, ℕ, zero, suc, Bool, true, false, ◌&&◌, List, [], ◌∷◌, Option, Some, None, refl, sym, ap, ◌∙◌}
use Rattle.std.proofs.Common.{get_or}
use Rattle.std.specs.Bool.{IsTrue}
use Rattle.std.specs.List.{list_all, slice_get}
use Rattle.std.specs.Option.{option_flatten}
use Rattle.std.proofs.lemmas.Bool.{ltb-true, lt-ltb, false≢true}
use Rattle.std.proofs.lemmas.List.{get_or_default}
use Rattle.std.proofs.lemmas.List.Sums.{AllPass-from_list_all, list_all-from_AllPass}
use Rattle.std.proofs.lemmas.Option.{slice_get-get_or}
use Rattle.rhai_values.specs.declared.base.value.Dynamic.{Dynamic}
use Rattle.rhai_values.specs.declared.base.value.Union.{Union}
use Rattle.rhai_values.specs.declared.base.value.Union.TheVariants as value
use Rattle.rhai_values.specs.Cells.{cells_of, IsNoHandle}
use Rattle.rhai_state.specs.declared.scope.Scope.{Scope}
use Rattle.rhai_state.specs.declared.state.GlobalRuntimeState.{GlobalRuntimeState}
use Rattle.rhai_values.specs.ValueContents.{Reached, Cell, Function, Constants}
use Rattle.rhai_state.specs.Reached.{Reaches, reached_from}
use Rattle.rhai_state.specs.Fitting.{FitsTogether}
use Rattle.rhai_state.specs.Deciding.{has_table, is_there, are_there, is_no_handle, is_sealed}

first : (a b : Bool) → (a && b) ≡ true → a ≡ true
first true b e = refl
first false b e = e

second : (a b : Bool) → (a && b) ≡ true → b ≡ true
second true b e = e
second false b e = absurd (false≢true e)

both : (a b : Bool) → a ≡ true → b ≡ true → (a && b) ≡ true
both a b p q = rw (p, q) refl

module _ {A : Type 0} where
  -- what stands in a list that passes does
  passes : (p : A → Bool) (xs : List A) (i : ℕ) (x : A) → slice_get xs i ≡ Some x → list_all p xs ≡ true → p x ≡ true
  passes p [] i x is all = cc
  passes p (y ∷ xs) zero x is all = let here = first (p y) _ all in cc
  passes p (y ∷ xs) (suc i) x is all = passes p xs i x is (second (p y) _ all)

  found : (o : Option (Option A)) (x : A) → option_flatten o ≡ Some x → o ≡ Some (Some x)
  found None x e = cc
  found (Some o) x e = ap Some e

module _ {H : Type 0} where
  no_handle : (u : Union H) → is_no_handle u ≡ true → IsNoHandle u
  no_handle (value.Cell id) e = false≢true e
  no_handle _ e = tt

  tests_as_none : (u : Union H) → IsNoHandle u → is_no_handle u ≡ true
  tests_as_none (value.Cell id) e = absurd e
  tests_as_none _ e = refl

module _ {H : Type 0} (global : GlobalRuntimeState H) (scope : Scope H) where
  abbrev cells : List (Option (Dynamic H))
  cells = cells_of global.cells

  abbrev pub tests : Bool
  tests = has_table global global.constants && (list_all is_sealed cells && are_there global (reached_from global scope))

  reached_is_there : are_there global (reached_from global scope) ≡ true → (r : Reached) → Reaches global scope r →
      is_there global r ≡ true
  reached_is_there all r (k, lt, is) =
      sym (ap (is_there global) is) ∙ AllPass-from_list_all (is_there global) (reached_from global scope) all k r lt

  fits_together : tests ≡ true → FitsTogether global scope
  fits_together e =
      let rest = second (has_table global global.constants) _ e in
      let sealed = first (list_all is_sealed cells) _ rest in
      let all = second (list_all is_sealed cells) _ rest in
      record {
        cells = λ number held. reached_is_there all (Cell number) held;
        tables = λ number held. ltb-true _ _ (reached_is_there all (Constants number) held);
        current = ltb-true _ _ (first (has_table global global.constants) _ e);
        none_held = λ number held. false≢true (passes is_sealed cells number None held sealed);
        no_handles = λ number v is. no_handle v.value (passes is_sealed cells number (Some v) (found _ v is) sealed);
      }

  is_there_then : FitsTogether global scope → (r : Reached) → Reaches global scope r → is_there global r ≡ true
  is_there_then fits (Cell number) held = fits.cells number held
  is_there_then fits (Function def) held = refl
  is_there_then fits (Constants number) held = lt-ltb _ _ (fits.tables number held)

  is_sealed_then : FitsTogether global scope → (cell : Option (Dynamic H)) (number : ℕ) → slice_get cells number ≡ Some cell →
      is_sealed cell ≡ true
  is_sealed_then fits None number is = absurd (fits.none_held number is)
  is_sealed_then fits (Some v) number is = tests_as_none v.value (fits.no_handles number v (ap option_flatten is))

  tests_hold : FitsTogether global scope → tests ≡ true
  tests_hold fits =
      both _ _ (lt-ltb _ _ fits.current) (both _ _
      (list_all-from_AllPass is_sealed cells (λ k d lt. is_sealed_then fits (get_or cells k d) k (slice_get-get_or cells k d lt)))
      (list_all-from_AllPass (is_there global) (reached_from global scope)
      (λ k d lt. is_there_then fits (get_or (reached_from global scope) k d) (k, lt, get_or_default (reached_from global scope) k _ d lt))))

  pub decides : (answer : Bool) → answer ≡ tests → (IsTrue answer → FitsTogether global scope) × (FitsTogether global scope → IsTrue answer)
  decides answer is = (λ e. fits_together (sym is ∙ e), λ fits. is ∙ tests_hold fits)
