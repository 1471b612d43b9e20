-- How a value is indexed under an engine.
use Rattle.std.specs.Prelude.{Bool}
use Rattle.rhai_tree.specs.declared.position.Position.{Position}
use Rattle.rhai_values.specs.declared.base.value.Dynamic.{Dynamic}
use Rattle.rhai_spots.specs.declared.spot.Access.{Access}
use Rattle.rhai_machine.specs.language.Frames.{Item, MemberAccess}
use Rattle.rhai_eval.specs.declared.engine.Engine.{Engine}

-- how an engine has a value indexed: at these positions, and with its own switch for properties that a map has not
abbrev pub access : {H : Type 0} → Engine H → (idx_pos op_pos : Position) → (add_if_not_found : Bool) → Access
access engine idx_pos op_pos add = record {
  idx_pos = idx_pos;
  op_pos = op_pos;
  add_if_not_found = add;
  fail_on_invalid_map_property = engine.fail_on_invalid_map_property;
}

-- an item as an indexer gets and sets it, with whether a constant is kept from one that is not pure
abbrev pub item_by : {H : Type 0} → (index : Dynamic H) → (op_pos : Position) → (guarded : Bool) → MemberAccess H
item_by index op_pos guarded = record { member = Item index; at = op_pos; guarded = guarded }
