-- A copy, read at the lists of items.
use Rattle.std.proofs.Common.{◌≡◌, ℕ, List, [], ◌∷◌, map, refl, sym, ap, ◌∙◌}
use mathlib.Core.Former.{this, arity}
use denote.Hole.Carrier.{hidden, roll}
use Rattle.rhai_tree.specs.formers.items.Items as items
use Rattle.rhai_tree.specs.formers.table.Table as table
use Rattle.rhai_values.specs.declared.base.value.AccessMode.TheVariants.{ReadWrite}
use Rattle.rhai_values.specs.declared.base.value.Dynamic.{Dynamic}
use Rattle.rhai_values.specs.declared.base.value.FnPtr.{FnPtr, FnPtr' as Pointer', out-FnPtr, roll-FnPtr, roll-out-FnPtr}
use Rattle.rhai_values.specs.declared.base.value.FnPtrKind.{FnPtrKind}
use Rattle.rhai_values.specs.declared.base.value.FnPtrKind.TheBlock as block
use Rattle.rhai_values.specs.declared.base.value.Union.{Array, Array', Map, Map'}
use Rattle.rhai_values.specs.declared.base.value.Union.TheVariants as value
use Rattle.rhai_values.specs.Copy.{copy_of, copy_union, copy_row, copy_pointer}

module _ (H : Type 0) where
  -- the shape of a list, and what stands in it
  abbrev pub ShapedRow : Type 0
  ShapedRow = (s : (items.the_former this).Shape) × block.Row_of-Dynamic H (arity (items.the_former this) s)

  -- the keys and the shape of a map, and what stands in it
  abbrev pub ShapedEntries : Type 0
  ShapedEntries = (s : (table.the_former this).Shape) × block.Row_of-Dynamic H (arity (table.the_former this) s)

module _ {H : Type 0} where
  copied_row : (xs : List (Dynamic H)) →
      ◌≡◌ {A = ShapedRow H} (block.shape-the_row-Dynamic-1 H xs, copy_row (block.hidden-the_row-Dynamic-1 H xs))
      (block.shape-the_row-Dynamic-1 H (map copy_of xs), block.hidden-the_row-Dynamic-1 H (map copy_of xs))
  unfolding block.shape-the_row-Dynamic-1 block.hidden-the_row-Dynamic-1 hidden
  copied_row [] = refl
  copied_row (x ∷ xs) = λ i. (tt ∷ (copied_row xs i).0, block.more_of-Dynamic (copy_union x.value) ReadWrite (copied_row xs i).1)

  pub copy-Array : (xs : List (Dynamic H)) → copy_union (Array xs) ≡ Array (map copy_of xs)
  unfolding block.shape-the_row-Union-Array-0-1-2 block.hidden-the_row-Union-Array-0-1-2 hidden
  copy-Array xs = λ i. Array' tt (block.more_of-Union-Array-0-1 (copied_row xs i).0 (copied_row xs i).1 block.end_of-Union-Array-0-1)

  copied_entries : (keys : List (List ℕ)) (xs : List (Dynamic H)) →
      ◌≡◌ {A = ShapedEntries H} (block.shape-the_row-Dynamic-3 H (keys, xs), copy_row (block.hidden-the_row-Dynamic-3 H (keys, xs)))
      (block.shape-the_row-Dynamic-3 H (keys, map copy_of xs), block.hidden-the_row-Dynamic-3 H (keys, map copy_of xs))
  unfolding block.shape-the_row-Dynamic-3 block.hidden-the_row-Dynamic-3 hidden
  copied_entries keys [] = refl
  copied_entries keys (x ∷ xs) =
      λ i. ((keys, tt ∷ (copied_entries keys xs i).0.1), block.more_of-Dynamic (copy_union x.value) ReadWrite (copied_entries keys xs i).1)

  pub copy-Map : (entries : List (List ℕ) × List (Dynamic H)) → copy_union (Map entries) ≡ Map {X1 = H} (entries.0, map copy_of entries.1)
  unfolding block.shape-the_row-Union-Map-0-1-4 block.hidden-the_row-Union-Map-0-1-4 hidden
  copy-Map entries =
      λ i. Map' tt (block.more_of-Union-Map-0-1 (copied_entries entries.0 entries.1 i).0 (copied_entries entries.0 entries.1 i).1
      block.end_of-Union-Map-0-1)

  pub copied_rolled : (name : List ℕ) (xs : List (Dynamic H)) (kind : FnPtrKind H) →
      copy_pointer (roll-FnPtr H (record { name = name; curry = xs; kind = kind })) ≡ roll-FnPtr H
      (record { name = name; curry = map copy_of xs; kind = kind })
  unfolding roll-FnPtr roll
  copied_rolled name xs kind = λ i. Pointer' name (copied_row xs i).0 (copied_row xs i).1 kind

  pub copy-pointer : (p : FnPtr H) →
      copy_pointer p ≡ roll-FnPtr H (record {
        name = (out-FnPtr H p).name;
        curry = map copy_of (out-FnPtr H p).curry;
        kind = (out-FnPtr H p).kind;
      })
  copy-pointer p =
      ap copy_pointer (sym (roll-out-FnPtr H p)) ∙ copied_rolled (out-FnPtr H p).name (out-FnPtr H p).curry (out-FnPtr H p).kind

  pub copy-FnPtr : (p : FnPtr H) → copy_union (value.FnPtr p) ≡ value.FnPtr (copy_pointer p)
  unfolding block.shape-the_row-FnPtr-5 block.hidden-the_row-FnPtr-5 hidden
  copy-FnPtr p = refl
