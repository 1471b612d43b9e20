-- Setting a mode, read at the lists of items.
use Rattle.std.proofs.Common.{◌≡◌, ℕ, zero, suc, ◌+◌, ◌<◌, List, [], ◌∷◌, ◌++◌, map, refl, ap, length, take, drop, get_or, arith, add-one}
use Rattle.std.proofs.Common.{◌∙◌}
use Rattle.std.proofs.lemmas.List.{length-map}
use Rattle.std.proofs.Math.ListN.{set}
use Rattle.std.proofs.Math.Seq.{take-append_seam}
use denote.Hole.Carrier.{hidden}
use Rattle.rhai_values.specs.declared.base.value.AccessMode.{AccessMode}
use Rattle.rhai_values.specs.declared.base.value.Dynamic.{Dynamic}
use Rattle.rhai_values.specs.declared.base.value.FnPtrKind.TheBlock as block
use Rattle.rhai_values.specs.declared.base.value.Union.{Array, Array', Map, Map'}
use Rattle.rhai_values.specs.Modes.{with_mode, union_with_mode, row_with_mode}
use Rattle.rhai_values.proofs.CopyLemmas.{ShapedRow, ShapedEntries}

module _ {H : Type 0} (mode : AccessMode) where
  moded_row : (xs : List (Dynamic H)) →
      ◌≡◌ {A = ShapedRow H} (block.shape-the_row-Dynamic-1 H xs, row_with_mode mode (block.hidden-the_row-Dynamic-1 H xs))
      (block.shape-the_row-Dynamic-1 H (map (with_mode mode) xs), block.hidden-the_row-Dynamic-1 H (map (with_mode mode) xs))
  unfolding block.shape-the_row-Dynamic-1 block.hidden-the_row-Dynamic-1 hidden
  moded_row [] = refl
  moded_row (x ∷ xs) = λ i. (tt ∷ (moded_row xs i).0, block.more_of-Dynamic (union_with_mode mode x.value) mode (moded_row xs i).1)

  pub mode-Array : (xs : List (Dynamic H)) → union_with_mode mode (Array xs) ≡ Array (map (with_mode mode) xs)
  unfolding block.shape-the_row-Union-Array-0-1-2 block.hidden-the_row-Union-Array-0-1-2 hidden
  mode-Array xs = λ i. Array' tt (block.more_of-Union-Array-0-1 (moded_row xs i).0 (moded_row xs i).1 block.end_of-Union-Array-0-1)

  moded_entries : (keys : List (List ℕ)) (xs : List (Dynamic H)) →
      ◌≡◌ {A = ShapedEntries H} (
        block.shape-the_row-Dynamic-3 H (keys, xs),
        row_with_mode mode (block.hidden-the_row-Dynamic-3 H (keys, xs)),
      )
      (block.shape-the_row-Dynamic-3 H (keys, map (with_mode mode) xs), block.hidden-the_row-Dynamic-3 H (keys, map (with_mode mode) xs))
  unfolding block.shape-the_row-Dynamic-3 block.hidden-the_row-Dynamic-3 hidden
  moded_entries keys [] = refl
  moded_entries keys (x ∷ xs) =
      λ i. (
        (keys, tt ∷ (moded_entries keys xs i).0.1),
        block.more_of-Dynamic (union_with_mode mode x.value) mode
            (moded_entries keys xs i).1,
      )

  pub mode-Map : (entries : List (List ℕ) × List (Dynamic H)) →
      union_with_mode mode (Map entries) ≡ Map {X1 = H} (entries.0, map (with_mode mode) entries.1)
  unfolding block.shape-the_row-Union-Map-0-1-4 block.hidden-the_row-Union-Map-0-1-4 hidden
  mode-Map entries =
      λ i. Map' tt (block.more_of-Union-Map-0-1 (moded_entries entries.0 entries.1 i).0 (moded_entries entries.0 entries.1 i).1
      block.end_of-Union-Map-0-1)

-- what a list that was lent, borrowed and changed leaves in its owner
pub lent_map : {A : Type 0} (f : A → A) (xs lent borrowed now : List A) → lent ≡ xs → borrowed ≡ lent → now ≡ map f borrowed →
    take (length lent) (now ++ drop (length now) lent) ≡ map f xs
lent_map f xs lent borrowed now e b h =
    let whole : now ≡ map f lent = h ∙ ap (map f) b in
    let long : length now ≡ length lent = ap length whole ∙ length-map lent f in
    rw (← long) (take-append_seam now (drop (length now) lent)) ∙ whole ∙ ap (map f) e

changed_at : {A : Type 0} (f : A → A) (xs : List A) (i : ℕ) (d y : A) → i < length xs →
    y ≡ f (get_or (map f (take i xs) ++ drop i xs) i d) →
    set (map f (take i xs) ++ drop i xs) i y ≡ map f (take (suc i) xs) ++ drop (suc i) xs
changed_at f [] i d y within e = absurd (omega arith)
changed_at f (x ∷ xs) zero d y within e = ap (λ z. z ∷ xs) e
changed_at f (x ∷ xs) (suc i) d y within e = ap (λ rest. f x ∷ rest) (changed_at f xs i d y (omega arith) e)

-- one more item of a list is changed
pub one_more_changed : {A : Type 0} (f : A → A) (xs now : List A) (i : ℕ) (d y : A) → now ≡ map f (take i xs) ++ drop i xs → i < length xs →
    y ≡ f (get_or now i d) → set now i y ≡ map f (take (i + 1) xs) ++ drop (i + 1) xs
one_more_changed f xs now i d y so_far within e =
    rw add-one (ap (λ l. set l i y) so_far ∙ changed_at f xs i d y within (e ∙ ap (λ l. f (get_or l i d)) so_far))
