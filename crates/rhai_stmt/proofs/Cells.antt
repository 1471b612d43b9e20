-- A new cell that is given its value, and what of a value it makes.
use Rattle.std.proofs.Common.{◌≡◌, ◌++◌, ◌∷◌, ℕ, [], false, List, Option, Some, ap, length, refl, slice_set}
use Rattle.std.specs.Prelude.{slice_get}
use Rattle.rhai_values.specs.Cells.{with_value}
use Rattle.rhai_values.specs.declared.base.value.AccessMode.{AccessMode}
use Rattle.rhai_state.specs.Scope.{revalued}
use Rattle.rhai_values.specs.declared.base.value.Dynamic.{Dynamic}
use Rattle.rhai_values.specs.declared.base.value.Union.{Union}
use Rattle.rhai_values.specs.declared.base.value.Union.TheVariants as value
use Rattle.rhai_machine.specs.language.Places.{InEntry, put}
use Rattle.rhai_machine.specs.language.Sharing.{handle_of, shared, with_cell}
use Rattle.rhai_machine.specs.language.State.{Local}
use Rattle.rhai_machine.specs.language.Values.{is_handle}

-- the last of a list, set
pub last_set : {A : Type 0} (xs : List A) (x y : A) → slice_set (xs ++ x ∷ []) (length xs) y ≡ xs ++ y ∷ []
last_set [] x y = refl
last_set (z ∷ xs) x y = ap (λ (rest : List _). z ∷ rest) (last_set xs x y)

module _ {H : Type 0} (index : ℕ) (v : Dynamic H) (l : Local H) where
  -- a value that is no handle goes into a cell
  pub into_cell : (u : Union H) → is_handle u ≡ false →
      shared index u v l ≡ put (InEntry index) (handle_of (length l.around.cells) v.mode) (with_cell v l)
  into_cell (value.Cell id) is = cc
  into_cell _ is = refl

  -- a cell that is added, its value, and the handle where the value stood
  pub stands_shared : (number : ℕ) (mode : AccessMode) (handle u : Dynamic H) (added : List (Option (Dynamic H))) →
      is_handle v.value ≡ false → number ≡ length l.around.cells → handle ≡ handle_of number mode → mode ≡ v.mode →
      added ≡ l.around.cells ++ Some u ∷ [] →
      record l {
        scope = revalued l.scope index (slice_get l.scope index) handle;
        around = record l.around { cells = with_value added number v };
      } ≡ shared index v.value v l
  stands_shared number mode handle u added plain count is has more =
      rw (into_cell v.value plain, is, has, count, more, last_set l.around.cells (Some u) (Some v)) refl

pub the_same : {A : Type 0} (x y : A) → Some x ≡ Some y → x ≡ y
the_same x y is = cc
