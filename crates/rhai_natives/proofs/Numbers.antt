-- What arrays of integers show.
use Rattle.std.proofs.Common.{◌≡◌, ℤ, List, [], ◌∷◌, refl, sym, ap, ◌∙◌}
use Rattle.rhai_values.specs.declared.base.value.Dynamic.{Dynamic}
use Rattle.rhai_natives.specs.Numbers.{items_of, numbers_of}

numbers_of-items_of : (H : Type 0) (numbers : List ℤ) → numbers_of (items_of {H = H} numbers) ≡ numbers
numbers_of-items_of H [] = refl
numbers_of-items_of H (n ∷ numbers) = ap (λ rest. n ∷ rest) (numbers_of-items_of H numbers)

module _ {H : Type 0} {items : List (Dynamic H)} (numbers : List ℤ) (are : items ≡ items_of numbers) where
  -- an array that was made of integers shows these
  pub made_shows : numbers_of items ≡ numbers
  made_shows = ap numbers_of are ∙ numbers_of-items_of H numbers

  -- and has the items of what it shows
  pub made_has : items ≡ items_of (numbers_of items)
  made_has = are ∙ ap items_of (sym made_shows)
