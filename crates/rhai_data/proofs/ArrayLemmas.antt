-- How much data an array or a map has with one value more.
use Rattle.std.proofs.Common.{◌≡◌, ℕ, ◌+◌, List, [], ◌∷◌, ◌++◌, map, refl, sym, ap, ◌∙◌, length, length-append, arith}
use Rattle.std.proofs.lemmas.List.{map-append}
use Rattle.rhai_values.specs.declared.base.size.DataSizes.{DataSizes}
use Rattle.rhai_values.specs.declared.base.value.Dynamic.{Dynamic}
use Rattle.rhai_values.specs.DataSize.{sizes, plus, joined, saturated, total, total_of, data_sizes}
use Rattle.rhai_values.proofs.SizeLemmas.{joined-saturated, joined_with, total-of-Array}
use Rattle.rhai_machine.specs.language.Data.{array_of, entry_sizes}

same_sizes : (a b : DataSizes) → a.arrays ≡ b.arrays → a.maps ≡ b.maps → a.strings ≡ b.strings → a ≡ b
same_sizes a b p q r = λ i. sizes (p i) (q i) (r i)

total-more : (xs : List DataSizes) (y : DataSizes) → total_of (xs ++ y ∷ []) ≡ plus (total_of xs) y
total-more [] y = same_sizes _ _ (omega arith) (omega arith) (omega arith)
total-more (x ∷ xs) y = ap (plus x) (total-more xs y) ∙ same_sizes _ _ (omega arith) (omega arith) (omega arith)

counted_entry : (n m : ℕ) (a b : DataSizes) → m ≡ n + 1 →
    plus (sizes 0 1 0) (plus (plus (sizes 0 n 0) a) b) ≡ plus (sizes 0 m 0) (plus a b)
counted_entry n m a b is = same_sizes _ _ (omega arith) (omega (arith, is)) (omega arith)

counted : (n m : ℕ) (a b : DataSizes) → m ≡ n + 1 → plus (sizes 1 0 0) (plus (plus (sizes n 0 0) a) b) ≡ plus (sizes m 0 0) (plus a b)
counted n m a b is = same_sizes _ _ (omega (arith, is)) (omega arith) (omega arith)

module _ {H : Type 0} where
  data_in : (items : List (Dynamic H)) →
      data_sizes (array_of items) ≡ saturated (plus (sizes (length items) 0 0) (total_of (map total items)))
  data_in items = ap saturated (total-of-Array (array_of items) items refl)

  total-items : (items : List (Dynamic H)) (x : Dynamic H) →
      total_of (map total (items ++ x ∷ [])) ≡ plus (total_of (map total items)) (total x)
  total-items items x = rw (map-append total items (x ∷ [])) (total-more (map total items) (total x))

  pub measures : (items : List (Dynamic H)) (x : Dynamic H) (s : DataSizes) → s ≡ data_sizes (array_of items) →
      joined (joined s (data_sizes x)) (sizes 1 0 0) ≡ data_sizes (array_of (items ++ x ∷ []))
  measures items x s is =
      ap (λ a. joined (joined a (data_sizes x)) (sizes 1 0 0)) (is ∙ data_in items)
      ∙ ap (λ a. joined a (sizes 1 0 0)) (joined-saturated (plus (sizes (length items) 0 0) (total_of (map total items))) (total x))
      ∙ joined_with (plus (plus (sizes (length items) 0 0) (total_of (map total items))) (total x)) (sizes 1 0 0)
      ∙ ap saturated (counted (length items) (length (items ++ x ∷ [])) (total_of (map total items)) (total x)
      (length-append items (x ∷ []))
      ∙ ap (plus (sizes (length (items ++ x ∷ [])) 0 0)) (sym (total-items items x)))
      ∙ sym (data_in (items ++ x ∷ []))

  pub counts : (values : List (Dynamic H)) (x : Dynamic H) (s : DataSizes) → s ≡ entry_sizes values →
      joined (joined s (data_sizes x)) (sizes 0 1 0) ≡ entry_sizes (values ++ x ∷ [])
  counts values x s is =
      ap (λ a. joined (joined a (data_sizes x)) (sizes 0 1 0)) is
      ∙ ap (λ a. joined a (sizes 0 1 0)) (joined-saturated (plus (sizes 0 (length values) 0) (total_of (map total values))) (total x))
      ∙ joined_with (plus (plus (sizes 0 (length values) 0) (total_of (map total values))) (total x)) (sizes 0 1 0)
      ∙ ap saturated (counted_entry (length values) (length (values ++ x ∷ [])) (total_of (map total values)) (total x)
      (length-append values (x ∷ []))
      ∙ ap (plus (sizes 0 (length (values ++ x ∷ [])) 0)) (sym (total-items values x)))
