-- Sums that stop at the greatest machine number, and a list of values one value further.
use Rattle.std.proofs.Common.{◌≡◌, ℕ, zero, suc, ◌+◌, ◌<◌, min, List, [], ◌∷◌, map, sym, ap, ◌∙◌, length, take, get_or, arith, add-one}
use Rattle.std.proofs.lemmas.List.{length-map}
use Rattle.rhai_values.specs.declared.base.size.DataSizes.{DataSizes}
use Rattle.rhai_values.specs.declared.base.value.Dynamic.{Dynamic}
use Rattle.rhai_values.specs.declared.base.value.Union.{Union}
use Rattle.rhai_values.specs.declared.base.value.Union.TheVariants as value
use Rattle.rhai_values.specs.declared.base.value.Union.TheVariants.{rolls-Array, rolls-Map}
use Rattle.rhai_values.specs.declared.base.value.FnPtrKind.TheFolds.{fold-Union, fold-roll-Union, fold_out-Dynamic}
use Rattle.rhai_values.specs.DataSize.{sizes, plus, joined, saturated, total_of, total, union_total}

same_sizes : (a b : DataSizes) → a.arrays ≡ b.arrays → a.maps ≡ b.maps → a.strings ≡ b.strings → a ≡ b
same_sizes a b p q r = λ i. sizes (p i) (q i) (r i)

plus-assoc : (a b c : DataSizes) → plus (plus a b) c ≡ plus a (plus b c)
plus-assoc a b c = same_sizes _ _ (omega arith) (omega arith) (omega arith)

plus-none : (a : DataSizes) → plus (sizes 0 0 0) a ≡ plus a (sizes 0 0 0)
plus-none a = same_sizes _ _ (omega arith) (omega arith) (omega arith)

stops : (top m n : ℕ) → min (min m top + min n top) top ≡ min (m + n) top
stops top m n = omega arith

stops_left : (top m n : ℕ) → min (min m top + n) top ≡ min (n + m) top
stops_left top m n = omega arith

-- stopping on the way gives what stopping at the end gives
pub joined-saturated : (a b : DataSizes) → joined (saturated a) (saturated b) ≡ saturated (plus a b)
joined-saturated a b = same_sizes _ _ (stops _ _ _) (stops _ _ _) (stops _ _ _)

module _ {A : Type 0} (f : A → DataSizes) where
  total-take : (xs : List A) (i : ℕ) (d : A) → i < length xs →
      plus (total_of (map f (take i xs))) (f (get_or xs i d)) ≡ total_of (map f (take (suc i) xs))
  total-take [] i d lt = absurd (omega arith)
  total-take (x ∷ xs) zero d lt = plus-none (f x)
  total-take (x ∷ xs) (suc i) d lt = plus-assoc (f x) _ _ ∙ ap (plus (f x)) (total-take xs i d (omega arith))

  -- the sums of the first values, one value further
  pub joined_more : (xs : List A) (i : ℕ) (x : A) (held : DataSizes) → i < length xs → x ≡ get_or xs i x →
      held ≡ saturated (total_of (map f (take i xs))) → joined held (saturated (f x)) ≡ saturated (total_of (map f (take (i + 1) xs)))
  joined_more xs i x held lt is e =
      rw add-one (ap (λ h. joined h (saturated (f x))) e ∙ joined-saturated _ (f x)
      ∙ ap (λ y. saturated (plus (total_of (map f (take i xs))) (f y))) is ∙ ap saturated (total-take xs i x lt))

-- what is counted of a list and what its items contain, stopping on the way
pub joined_with : (a b : DataSizes) → joined (saturated a) b ≡ saturated (plus b a)
joined_with a b = same_sizes _ _ (stops_left _ _ _) (stops_left _ _ _) (stops_left _ _ _)

module _ {H : Type 0} where
  -- what a value contains, by its kind
  abbrev total_union : Union H → DataSizes
  total_union = fold-Union H Unit DataSizes DataSizes Unit Unit Unit Unit Unit (λ _. tt) union_total (λ d. d.value) (λ _. tt) (λ _. tt)
      (λ _. tt) (λ _. tt) (λ _. tt)

  total-value : (d : Dynamic H) → total d ≡ total_union d.value
  total-value d = fold_out-Dynamic H Unit DataSizes DataSizes Unit Unit Unit Unit Unit (λ _. tt) union_total (λ x. x.value) (λ _. tt)
      (λ _. tt) (λ _. tt) (λ _. tt) (λ _. tt) d

  total-Array : (items : List (Dynamic H)) → total_union (value.Array items) ≡ plus (sizes (length items) 0 0) (total_of (map total items))
  total-Array items = ap total_union (sym (rolls-Array items)) ∙ rw fold-roll-Union (simp length-map)

  total-Map : (entries : List (List ℕ) × List (Dynamic H)) →
      total_union (value.Map entries) ≡ plus (sizes 0 (length entries.1) 0) (total_of (map total entries.1))
  total-Map entries = ap total_union (sym (rolls-Map entries)) ∙ rw fold-roll-Union (simp length-map)

  pub total-of-Array : (d : Dynamic H) (items : List (Dynamic H)) → d.value ≡ value.Array items →
      total d ≡ plus (sizes (length items) 0 0) (total_of (map total items))
  total-of-Array d items e = total-value d ∙ ap total_union e ∙ total-Array items

  pub total-of-Map : (d : Dynamic H) (entries : List (List ℕ) × List (Dynamic H)) → d.value ≡ value.Map entries →
      total d ≡ plus (sizes 0 (length entries.1) 0) (total_of (map total entries.1))
  total-of-Map d entries e = total-value d ∙ ap total_union e ∙ total-Map entries
