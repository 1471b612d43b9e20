-- What fits together before a call does so behind it, in the words of `GlobalRuntimeState::fits`.
use Rattle.std.proofs.Common.{◌≡◌, ◌<◌, ◌⊎◌, inl, inr, ℕ, zero, suc, true, List, [], ◌∷◌, ◌++◌, length, map, flat_map, replicate, refl}
use Rattle.std.proofs.Common.{sym, subst, ap, arith}
use Rattle.std.specs.Prelude.{⊤, Option, Some, None, Contains, slice_get}
use Rattle.rhai_machine.specs.Types.{Dynamic, Import, Module, ScopeEntry}
use Rattle.rhai_values.specs.declared.base.value.Import.{out-Import}
use Rattle.rhai_values.specs.declared.base.value.FnPtrKind.TheFolds.{fold_out-Import}
use Rattle.rhai_values.specs.Cells.{cells_of, value_of_cell, IsHeld, IsNoHandle}
use Rattle.rhai_state.specs.declared.scope.Scope.{Scope}
use Rattle.rhai_state.specs.declared.state.GlobalRuntimeState.{GlobalRuntimeState}
use Rattle.rhai_state.specs.Fitting.{FitsTogether, IsFree}
use Rattle.rhai_state.specs.Reached.{nothing, value_holds, import_holds, module_holds, entry_holds, table_holds, cell_holds}
use Rattle.rhai_state.specs.Reached.{reached_from, Reaches}
use Rattle.rhai_state.specs.Scope.{entries_of}
use Rattle.rhai_values.specs.ValueContents.{Reached, Cell, Function, Constants, contents_of}
use Rattle.rhai_machine.specs.language.Setting.{Rules}
use Rattle.rhai_machine.specs.language.State.{State}
use Rattle.rhai_machine.specs.language.Values.{Cells, unit_value}
use Rattle.rhai_fits.specs.Contents.{Contents, Both, of_values, of_maybe, of_scope, of_cells, of_modules, of_imports, of_tables, of_offer}
use Rattle.rhai_fits.specs.Contents.{Has}
use Rattle.rhai_fits.specs.Sealed.{AreSealed}
use Rattle.rhai_fits.proofs.Properties.{AllHave, all_at, all_joined, all_left, all_of, all_right}
use Rattle.rhai_fits.proofs.Values.{Fit, fit_reached, reached_is_fit}
use Rattle.rhai_fits.proofs.Modules.{FitModule, module_reached, reached_module}
use Rattle.rhai_fits.proofs.Fitting.{AllFit}
use Rattle.rhai_laws.specs.Kept.{Around, CellsAdded, forgotten_cell}
use Rattle.rhai_steps.specs.Callers.{state_of, surroundings_of}
use Rattle.rhai_steps.specs.States.{holding}
use Rattle.rhai_fits_eval.specs.InHand.{of_state, IsInHand, IsThere, IsWithin, FitsAgain}
use Rattle.rhai_fits_eval.specs.Together.{AreOthersThere, FitsTogetherAgain, FitsIsSealed}
use Rattle.rhai_fits_eval.proofs.Ends.{fit_holds, holds_fit}
use Rattle.rhai_fits_eval.proofs.Holding.{module_less, value_less}

-- ---- cells

module _ {H : Type 0} where
  sealed_cells : (cells : Cells H) → ((n : ℕ) (v : Dynamic H) → value_of_cell cells n ≡ Some v → IsNoHandle v.value) → AreSealed cells
  sealed_cells [] h = tt
  sealed_cells (None ∷ cells) h = (tt, sealed_cells cells (λ n. h (suc n)))
  sealed_cells (Some v ∷ cells) h = (h zero v refl, sealed_cells cells (λ n. h (suc n)))

  some_same : (v w : Dynamic H) → Some v ≡ Some w → v ≡ w
  some_same v w is = cc

  no_handles : (cells : Cells H) → AreSealed cells → (n : ℕ) (v : Dynamic H) → value_of_cell cells n ≡ Some v → IsNoHandle v.value
  no_handles [] s n v is = absurd cc
  no_handles (None ∷ cells) s zero v is = absurd cc
  no_handles (Some w ∷ cells) s zero v is = subst (λ (u : Dynamic H). IsNoHandle u.value) (some_same w v is) s.0
  no_handles (cell ∷ cells) s (suc n) v is = no_handles cells s.1 n v is

  -- no cell is held
  abbrev AllFree : Cells H → Type 0
  AllFree [] = ⊤
  AllFree (None ∷ cells) = ⊥
  AllFree (Some v ∷ cells) = AllFree cells

  all_free : (cells : Cells H) → ((n : ℕ) → IsHeld cells n → ⊥) → AllFree cells
  all_free [] h = tt
  all_free (None ∷ cells) h = h zero refl
  all_free (Some v ∷ cells) h = all_free cells (λ n. h (suc n))

  none_held : (cells : Cells H) → AllFree cells → (n : ℕ) → IsHeld cells n → ⊥
  none_held [] f n is = cc
  none_held (None ∷ cells) f n is = f
  none_held (Some v ∷ cells) f zero is = cc
  none_held (Some v ∷ cells) f (suc n) is = none_held cells f n is

  is_free : (cells : Cells H) → AllFree cells → (n : ℕ) → n < length cells → IsFree cells n
  is_free [] f n below = absurd (omega (arith, below))
  is_free (None ∷ cells) f n below = absurd f
  is_free (Some v ∷ cells) f zero below = refl
  is_free (Some v ∷ cells) f (suc n) below = is_free cells f n (omega (arith, below))

  is_below : (cells : Cells H) (n : ℕ) → IsFree cells n → n < length cells
  is_below [] n free = absurd cc
  is_below (cell ∷ cells) zero free = omega arith
  is_below (cell ∷ cells) (suc n) free = omega (arith, is_below cells n free)

  forgotten_free : (cells : Cells H) → AllFree cells → AllFree (map forgotten_cell cells)
  forgotten_free [] f = tt
  forgotten_free (None ∷ cells) f = f
  forgotten_free (Some v ∷ cells) f = forgotten_free cells f

  free_forgotten : (cells : Cells H) → AllFree (map forgotten_cell cells) → AllFree cells
  free_forgotten [] f = tt
  free_forgotten (None ∷ cells) f = f
  free_forgotten (Some v ∷ cells) f = free_forgotten cells f

  more_free : (cells : Cells H) (count : ℕ) → AllFree cells → AllFree (cells ++ replicate count (Some unit_value))
  more_free [] zero f = tt
  more_free [] (suc count) f = more_free [] count tt
  more_free (None ∷ cells) count f = f
  more_free (Some v ∷ cells) count f = more_free cells count f

  added_free : (old new : Cells H) → CellsAdded old new → AllFree old → AllFree new
  added_free old new added f =
      free_forgotten new (subst AllFree (sym added.1) (more_free (map forgotten_cell old) added.0 (forgotten_free old f)))

-- ---- what a state and a scope reach, by what they have

import_out : {H : Type 0} (i : Import H) → import_holds i ≡ module_holds (out-Import H i).module
import_out i = rw fold_out-Import refl

module _ {H : Type 0} (own : H → List Reached) (P : Reached → Type 0) (least : ℕ) where
  value_reaches : (v : Dynamic H) → Fit own P v → AllHave P (value_holds v)
  value_reaches v h = value_less own nothing P (λ x had. tt) v (fit_reached own P v h)

  module_reaches : (m : Module H) → FitModule own P m → AllHave P (module_holds m)
  module_reaches m h = module_less own nothing P (λ x had. tt) m (module_reached own P m h)

  entries_reach : (entries : List (ScopeEntry H)) → AllFit own P least (of_scope entries) → AllHave P (flat_map entry_holds entries)
  entries_reach [] h = tt
  entries_reach (e ∷ es) h = all_joined P (entry_holds e) (flat_map entry_holds es) (value_reaches e.value h.0) (entries_reach es h.1)

  values_reach : (vs : List (Dynamic H)) → AllFit own P least (of_values vs) → AllHave P (flat_map value_holds vs)
  values_reach [] h = tt
  values_reach (v ∷ vs) h = all_joined P (value_holds v) (flat_map value_holds vs) (value_reaches v h.0) (values_reach vs h.1)

  modules_reach : (ms : List (Module H)) → AllFit own P least (of_modules ms) → AllHave P (flat_map module_holds ms)
  modules_reach [] h = tt
  modules_reach (m ∷ ms) h = all_joined P (module_holds m) (flat_map module_holds ms) (module_reaches m h.0) (modules_reach ms h.1)

  imports_reach : (is : List (Import H)) → AllFit own P least (of_imports is) → AllHave P (flat_map import_holds is)
  imports_reach [] h = tt
  imports_reach (i ∷ is) h = all_joined P (import_holds i) (flat_map import_holds is)
      (subst (AllHave P) (sym (import_out i)) (module_reaches (out-Import H i).module h.0)) (imports_reach is h.1)

  tables_reach : (ts : List (List (List ℕ) × List (Dynamic H))) → AllFit own P least (of_tables ts) → AllHave P (flat_map table_holds ts)
  tables_reach [] h = tt
  tables_reach (t ∷ ts) h = all_joined P (table_holds t) (flat_map table_holds ts) (values_reach t.1 h.0) (tables_reach ts h.1)

  cells_reach : (cells : Cells H) → AllFit own P least (of_cells cells) → AllHave P (flat_map cell_holds cells)
  cells_reach [] h = tt
  cells_reach (None ∷ cells) h = cells_reach cells h.1
  cells_reach (Some v ∷ cells) h = all_joined P (value_holds v) (flat_map cell_holds cells) (value_reaches v h.0) (cells_reach cells h.1)

  state_reaches : {S : Type 0} (t : S) (g : GlobalRuntimeState H) (scope : Scope H) (this : Option (Dynamic H)) →
      AllFit own P least (of_state (state_of t g scope (holding this))) → AllHave P (reached_from g scope)
  state_reaches t g scope this h = all_joined P _ _ (entries_reach (entries_of scope) h.0) (all_joined P _ _ (modules_reach g.lib h.1.1.1.0)
      (all_joined P _ _ (imports_reach g.imports h.1.1.1.1.0)
      (all_joined P _ _ (tables_reach g.constant_tables h.1.1.1.1.1) (cells_reach (cells_of g.cells) h.1.1.0))))

-- five lists, one after the other
module _ (P : Reached → Type 0) (a b c d e : List Reached) (h : AllHave P (a ++ (b ++ (c ++ (d ++ e))))) where
  second : AllHave P (b ++ (c ++ (d ++ e)))
  second = all_right P a (b ++ (c ++ (d ++ e))) h

  third : AllHave P (c ++ (d ++ e))
  third = all_right P b (c ++ (d ++ e)) second

  fourth : AllHave P (d ++ e)
  fourth = all_right P c (d ++ e) third

  parts : AllHave P a × (AllHave P b × (AllHave P c × (AllHave P d × AllHave P e)))
  parts = (
    all_left P a (b ++ (c ++ (d ++ e))) h,
    (
      all_left P b (c ++ (d ++ e)) second,
      (all_left P c (d ++ e) third, (all_left P d e fourth, all_right P d e fourth)),
    ),
  )

-- ---- and what they have, by what they reach, where nothing stands in a host's value

module _ {H : Type 0} (P : Reached → Type 0) (least : ℕ) where
  value_has : (v : Dynamic H) → AllHave P (value_holds v) → Fit nothing P v
  value_has v h = reached_is_fit nothing P v h

  entries_have : (entries : List (ScopeEntry H)) → AllHave P (flat_map entry_holds entries) → AllFit nothing P least (of_scope entries)
  entries_have [] h = tt
  entries_have (e ∷ es) h = (
    value_has e.value (all_left P (entry_holds e) (flat_map entry_holds es) h),
    entries_have es (all_right P (entry_holds e) (flat_map entry_holds es) h),
  )

  values_have : (vs : List (Dynamic H)) → AllHave P (flat_map value_holds vs) → AllFit nothing P least (of_values vs)
  values_have [] h = tt
  values_have (v ∷ vs) h = (
    value_has v (all_left P (value_holds v) (flat_map value_holds vs) h),
    values_have vs (all_right P (value_holds v) (flat_map value_holds vs) h),
  )

  modules_have : (ms : List (Module H)) → AllHave P (flat_map module_holds ms) → AllFit nothing P least (of_modules ms)
  modules_have [] h = tt
  modules_have (m ∷ ms) h = (
    reached_module nothing P m (all_left P (module_holds m) (flat_map module_holds ms) h),
    modules_have ms (all_right P (module_holds m) (flat_map module_holds ms) h),
  )

  imports_have : (is : List (Import H)) → AllHave P (flat_map import_holds is) → AllFit nothing P least (of_imports is)
  imports_have [] h = tt
  imports_have (i ∷ is) h = (
    reached_module nothing P (out-Import H i).module
        (subst (AllHave P) (import_out i) (all_left P (import_holds i) (flat_map import_holds is) h)),
    imports_have is (all_right P (import_holds i) (flat_map import_holds is) h),
  )

  tables_have : (ts : List (List (List ℕ) × List (Dynamic H))) → AllHave P (flat_map table_holds ts) →
      AllFit nothing P least (of_tables ts)
  tables_have [] h = tt
  tables_have (t ∷ ts) h = (
    values_have t.1 (all_left P (table_holds t) (flat_map table_holds ts) h),
    tables_have ts (all_right P (table_holds t) (flat_map table_holds ts) h),
  )

  cells_have : (cells : Cells H) → AllHave P (flat_map cell_holds cells) → AllFit nothing P least (of_cells cells)
  cells_have [] h = tt
  cells_have (None ∷ cells) h = (tt, cells_have cells h)
  cells_have (Some v ∷ cells) h = (
    value_has v (all_left P (value_holds v) (flat_map cell_holds cells) h),
    cells_have cells (all_right P (value_holds v) (flat_map cell_holds cells) h),
  )

  state_has : {S : Type 0} (t : S) (g : GlobalRuntimeState H) (scope : Scope H) → AllHave P (reached_from g scope) →
      AllFit nothing P least (of_state (state_of t g scope (holding None)))
  state_has t g scope h =
      let each = parts P (flat_map entry_holds (entries_of scope)) (flat_map module_holds g.lib) (flat_map import_holds g.imports)
      (flat_map table_holds g.constant_tables) (flat_map cell_holds (cells_of g.cells)) h in (
        entries_have (entries_of scope) each.0,
        (
          tt,
          (
            cells_have (cells_of g.cells) each.1.1.1.1,
            (modules_have g.lib each.1.0, (imports_have g.imports each.1.1.0, tables_have g.constant_tables each.1.1.1.0)),
          ),
        ),
      )

-- ---- the laws

pub fits_is_sealed : {H : Type 0} → FitsIsSealed H
fits_is_sealed global scope fits = sealed_cells (cells_of global.cells) fits.no_handles

module _ {S H : Type 0} (rules : Rules S H) where
  abbrev own : H → List Reached
  own = rules.natives.holds.of_host

  module _ (given : Contents H) (t : S) (g : GlobalRuntimeState H) (scope : Scope H) (this : Option (Dynamic H))
      (fits : FitsTogether g scope) (others : AreOthersThere rules given t g scope this) where
    abbrev before : State S H
    before = state_of t g scope (holding this)

    abbrev alone : State S H
    alone = state_of t g scope (holding None)

    reached_there : (r : Reached) → Reaches g scope r → IsThere before r
    reached_there (Cell n) c = is_below (cells_of g.cells) n (fits.cells n c)
    reached_there (Function def) c = tt
    reached_there (Constants n) c = fits.tables n c

    had_there : (r : Reached) → Has nothing (of_state alone) r → IsThere before r
    had_there r h = reached_there r (fit_holds nothing (Reaches g scope) zero (of_state alone)
        (state_has (Reaches g scope) zero t g scope (all_of (Reaches g scope) (reached_from g scope) (λ s c. c))) r h)

    either_there : (r : Reached) → Has nothing (of_state alone) r ⊎ IsThere before r → IsThere before r
    either_there r (inl h) = had_there r h
    either_there r (inr h) = h

    state_there : (r : Reached) → Has own (of_state before) r → IsThere before r
    state_there r (inl h) = either_there r (others.hosts_there r (inl h))
    state_there r (inr (inl h)) = others.given_there r (inr (inl h))
    state_there r (inr (inr h)) = either_there r (others.hosts_there r (inr (inr h)))

    within : IsWithin rules given before
    within r (inl (inl (inl h))) = others.given_there r (inl h)
    within r (inl (inl (inr h))) = state_there r h
    within r (inl (inr h)) = others.given_there r (inr (inr h))
    within r (inr h) = others.table_there r h

  module _ (left : Contents H) (t : S) (g : GlobalRuntimeState H) (scope : Scope H) (this : Option (Dynamic H)) where
    abbrev behind : State S H
    behind = state_of t g scope (holding this)

    module _ (all : IsWithin rules left behind) where
      has_given : (r : Reached) → Has own (Both left (Both (of_maybe this) (of_offer rules.setting.offer))) r → IsThere behind r
      has_given r (inl h) = all r (inl (inl (inl h)))
      has_given r (inr (inl h)) = all r (inl (inl (inr (inr (inl h)))))
      has_given r (inr (inr h)) = all r (inl (inr h))

      has_hosts : (r : Reached) → Has own (of_state (state_of t g scope (holding None))) r → IsThere behind r
      has_hosts r (inl h) = all r (inl (inl (inr (inl h))))
      has_hosts r (inr (inl h)) = absurd h
      has_hosts r (inr (inr h)) = all r (inl (inl (inr (inr (inr h)))))

      others_there : AreOthersThere rules left t g scope this
      others_there = record {
        given_there = has_given;
        table_there = λ r h. all r (inr h);
        hosts_there = λ r h. inr (has_hosts r h);
      }

      reaches_there : AllHave (IsThere behind) (reached_from g scope)
      reaches_there = state_reaches own (IsThere behind) zero t g scope this
          (holds_fit own (IsThere behind) zero (of_state behind) (λ r h. all r (inl (inl (inr h)))))

      together : (old : GlobalRuntimeState H) (variables : Scope H) → FitsTogether old variables → AreSealed (cells_of g.cells) →
          Around (surroundings_of old) (surroundings_of g) → FitsTogether g scope
      together old variables fits sealed around =
          let there : (r : Reached) → Reaches g scope r → IsThere behind r = λ r c. all_at (IsThere behind) (reached_from g scope) r
          reaches_there c in
          let free : AllFree (cells_of g.cells) = added_free (cells_of old.cells) (cells_of g.cells) around.cells
          (all_free (cells_of old.cells) fits.none_held) in
          record {
            cells = λ n c. is_free (cells_of g.cells) free n (there (Cell n) c);
            tables = λ n c. there (Constants n) c;
            current = omega (arith, fits.current, around.constants, around.constant_tables);
            none_held = none_held (cells_of g.cells) free;
            no_handles = no_handles (cells_of g.cells) sealed;
          }

  pub fits_together_again : FitsTogetherAgain rules
  fits_together_again given left t t' g g' scope scope' this this' again fits others =
      let all : IsWithin rules left (state_of t' g' scope' (holding this')) = again.fits (within given t g scope this fits others) in (
        together left t' g' scope' this' all g scope fits again.sealed again.around,
        others_there left t' g' scope' this' all,
      )
