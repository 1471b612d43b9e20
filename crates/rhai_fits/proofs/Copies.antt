-- A copy of a value that fits fits, and so does the value under another mode.
use Rattle.std.proofs.Common.{List, [], ◌∷◌, map, sym, subst}
use Rattle.rhai_values.specs.declared.base.value.AccessMode.{AccessMode}
use Rattle.rhai_values.specs.declared.base.value.Dynamic.{Dynamic}
use Rattle.rhai_values.specs.Copy.{copy_of}
use Rattle.rhai_values.specs.Modes.{with_mode}
use Rattle.rhai_values.specs.ValueContents.{Reached}
use Rattle.rhai_values.proofs.CopyContents.{contents-copy, contents-with_mode}
use Rattle.rhai_fits.proofs.Properties.{AllHave}
use Rattle.rhai_fits.proofs.Values.{Fit, Fits, fit_reached, reached_is_fit}

module _ {H : Type 0} (own : H → List Reached) (P : Reached → Type 0) where
  pub fit_copy : (v : Dynamic H) → Fit own P v → Fit own P (copy_of v)
  fit_copy v h = reached_is_fit own P (copy_of v) (subst (AllHave P) (sym (contents-copy own v)) (fit_reached own P v h))

  pub fit_mode : (mode : AccessMode) (v : Dynamic H) → Fit own P v → Fit own P (with_mode mode v)
  fit_mode mode v h =
      reached_is_fit own P (with_mode mode v) (subst (AllHave P) (sym (contents-with_mode own mode v)) (fit_reached own P v h))

  pub fits_copy : (vs : List (Dynamic H)) → Fits own P vs → Fits own P (map copy_of vs)
  fits_copy [] h = tt
  fits_copy (v ∷ vs) h = (fit_copy v h.0, fits_copy vs h.1)
