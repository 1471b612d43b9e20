-- Parameters that are pushed one after the other.
use Rattle.std.proofs.Common.{◌≡◌, ◌<◌, ◌++◌, ℕ, zero, suc, List, [], ◌∷◌, length, drop, map, take, slice_get, slice_set, refl, sym, ap}
use Rattle.std.proofs.Common.{◌∙◌, arith, get_or}
use Rattle.std.proofs.lemmas.List.{append_assoc}
use Rattle.rhai_values.specs.declared.base.value.AccessMode.TheVariants.{ReadWrite}
use Rattle.rhai_values.specs.declared.base.value.Dynamic.{Dynamic}
use Rattle.rhai_state.specs.declared.scope.ScopeEntry.{ScopeEntry}
use Rattle.std.specs.Option.{unwrap_or}
use Rattle.rhai_state.specs.Scope.{name_of, new_entry}
use Rattle.rhai_functions.specs.Entering.{parameters, unit}

-- what a list begins with it begins with when more is put behind it
pub begins_on : {A : Type 0} (zs xs ys : List A) → take (length zs) xs ≡ zs → take (length zs) (xs ++ ys) ≡ zs
begins_on [] xs ys is = refl
begins_on (z ∷ zs) [] ys is = cc
begins_on (z ∷ zs) (x ∷ xs) ys is =
    let first : x ≡ z = cc in
    let rest : take (length zs) xs ≡ zs = cc in rw (first, begins_on zs xs ys rest) refl

-- one more item is set
pub set_next : {A : Type 0} (u : A) (xs : List A) (at : ℕ) →
    slice_set (map (λ x. u) (take at xs) ++ drop at xs) at u ≡ map (λ x. u) (take (suc at) xs) ++ drop (suc at) xs
set_next u [] zero = refl
set_next u [] (suc at) = refl
set_next u (x ∷ xs) zero = refl
set_next u (x ∷ xs) (suc at) = ap (λ ys. u ∷ ys) (set_next u xs at)

module _ {H : Type 0} where
  abbrev none_of : List (Dynamic H)
  none_of = []

  none_left : (at : ℕ) → drop at (none_of) ≡ []
  none_left zero = refl
  none_left (suc at) = refl

  none_there : (at : ℕ) → unwrap_or (slice_get none_of at) unit ≡ unit
  none_there zero = refl
  none_there (suc at) = refl

  -- the next parameter stands before those that are left
  next_parameter : (names : List (List ℕ)) (args : List (Dynamic H)) (at : ℕ) (d : List ℕ) (v : Dynamic H) → at < length names →
      v ≡ unwrap_or (slice_get args at) unit →
      parameters (drop at names) (drop at args)
      ≡ new_entry (get_or names at d) ReadWrite v ∷ parameters (drop (suc at) names) (drop (suc at) args)
  next_parameter [] args at d v within is = absurd (omega arith)
  next_parameter (name ∷ names) [] zero d v within is = ap (λ x. new_entry name ReadWrite x ∷ parameters names []) (sym is)
  next_parameter (name ∷ names) [] (suc at) d v within is =
      ap (parameters (drop at names)) (sym (none_left at))
      ∙ next_parameter names [] at d v (omega arith) (is ∙ sym (none_there at))
  next_parameter (name ∷ names) (arg ∷ args) zero d v within is = ap (λ x. new_entry name ReadWrite x ∷ parameters names args) (sym is)
  next_parameter (name ∷ names) (arg ∷ args) (suc at) d v within is = next_parameter names args at d v (omega arith) is

  -- and once it is pushed those behind it are left
  pub pushed_on : (entries whole : List (ScopeEntry H)) (names : List (List ℕ)) (args left : List (Dynamic H)) (at : ℕ) (name : List ℕ)
      (v : Dynamic H) → at < length names → name ≡ get_or names at name → v ≡ unwrap_or (slice_get args at) unit →
      drop (suc at) left ≡ drop (suc at) args → entries ++ parameters (drop at names) (drop at args) ≡ whole →
      (entries ++ new_entry name ReadWrite v ∷ []) ++ parameters (drop (suc at) names) (drop (suc at) left) ≡ whole
  pushed_on entries whole names args left at name v within is there same before =
      append_assoc entries (new_entry name ReadWrite v ∷ []) (parameters (drop (suc at) names) (drop (suc at) left))
      ∙ ap (λ rest. entries ++ (new_entry name ReadWrite v ∷ parameters (drop (suc at) names) rest)) same
      ∙ ap (λ x. entries ++ (new_entry x ReadWrite v ∷ parameters (drop (suc at) names) (drop (suc at) args))) is
      ∙ ap (λ rest. entries ++ rest) (sym (next_parameter names args at name v within there))
      ∙ before

  -- the variables of the parameters have their names
  pub parameter_names : (names : List (List ℕ)) (args : List (Dynamic H)) → map name_of (parameters names args) ≡ names
  parameter_names [] args = refl
  parameter_names (name ∷ names) [] = ap (λ rest. name ∷ rest) (parameter_names names [])
  parameter_names (name ∷ names) (v ∷ args) = ap (λ rest. name ∷ rest) (parameter_names names args)
