-- An item that is no handle, which stays as it is.
use Rattle.std.proofs.Common.{◌≡◌, Ok, false, refl}
use Rattle.rhai_tree.specs.declared.position.Position.{Position}
use Rattle.rhai_values.specs.declared.base.value.Dynamic.{Dynamic}
use Rattle.rhai_values.specs.declared.base.value.Union.{Union}
use Rattle.rhai_values.specs.declared.base.value.Union.TheVariants as value
use Rattle.rhai_machine.specs.language.Values.{Cells, flat, flat_union, is_handle}

module _ {H : Type 0} where
  union_stays : (cells : Cells H) (u : Union H) (v : Dynamic H) (pos : Position) → is_handle u ≡ false → Ok v ≡ flat_union cells u v pos
  union_stays cells (value.Cell id) v pos plain = cc
  union_stays cells _ v pos plain = refl

  pub stays : (cells : Cells H) (v : Dynamic H) (pos : Position) → is_handle v.value ≡ false → Ok v ≡ flat cells v pos
  stays cells v pos plain = union_stays cells v.value v pos plain
