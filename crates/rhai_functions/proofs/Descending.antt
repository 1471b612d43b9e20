-- Steps along a path.
use Rattle.std.proofs.Common.{◌≡◌, ◌<◌, ℕ, zero, suc, List, [], ◌∷◌, Some, None, ap, arith, get_or, length, drop, refl, sym, ◌∙◌}
use Rattle.rhai_values.specs.declared.base.value.Module.{Module}
use Rattle.rhai_functions.specs.Namespaces.{down, module_in}

module _ {H : Type 0} where
  -- from nowhere a path leads nowhere
  down_nowhere : (path : List (List ℕ)) → down {H = H} path None ≡ None
  down_nowhere [] = refl
  down_nowhere (name ∷ path) = down_nowhere path

  stops_at : (path : List (List ℕ)) (i : ℕ) (d : List ℕ) (m : Module H) → i < length path → module_in (get_or path i d) m ≡ None →
      down (drop i path) (Some m) ≡ None
  stops_at [] i d m within none = absurd (omega (arith, within))
  stops_at (name ∷ path) zero d m within none = ap (down path) none ∙ down_nowhere path
  stops_at (name ∷ path) (suc i) d m within none = stops_at path i d m (omega (arith, within)) none

  -- nor does one from its first name on that is not there
  pub stops_here : (path : List (List ℕ)) (i : ℕ) (name : List ℕ) (m : Module H) → i < length path → name ≡ get_or path i name →
      module_in name m ≡ None → down (drop i path) (Some m) ≡ None
  stops_here path i name m within is none = stops_at path i name m within (ap (λ n. module_in n m) (sym is) ∙ none)
