-- Lists of arguments, and a result that is none as memory ran out.
use Rattle.std.proofs.Common.{◌≡◌, List, [], ◌∷◌, Some, slice_get, sym, ap, ◌∙◌}
use Rattle.std.specs.List.{remove}

-- the first of some values, and the others
pub first_and_rest : {A : Type 0} (xs : List A) (x : A) (rest : List A) → slice_get xs 0 ≡ Some x → rest ≡ remove xs 0 → xs ≡ x ∷ rest
first_and_rest [] x rest is rests = cc
first_and_rest (y ∷ ys) x rest is rests = let same : y ≡ x = cc in ap (λ z. z ∷ ys) same ∙ ap (λ zs. x ∷ zs) (sym rests)
