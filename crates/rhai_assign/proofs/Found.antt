-- What the focus of a chain is found to be.
use Rattle.std.proofs.Common.{◌≡◌, ℕ, Bool, true, false, ◌||◌, List, Some, ap, ◌∙◌}
use Rattle.rhai_tree.specs.declared.position.Position.{Position}
use Rattle.rhai_values.specs.declared.base.value.AccessMode.{AccessMode}
use Rattle.rhai_values.specs.declared.base.value.CellId.{CellId}
use Rattle.rhai_values.specs.declared.base.value.Dynamic.{Dynamic}
use Rattle.rhai_values.specs.Cells.{value_of_cell}
use Rattle.rhai_machine.specs.language.Values.{Cells}
use Rattle.rhai_machine.specs.language.Places.{InCell, focus_in_cell, is_constant, target}
use Rattle.rhai_machine.specs.language.Places.{unless_constant}
use Rattle.rhai_assign.specs.FocusTargets.{InOwnCell}

or_false : (a b : Bool) → (a || b) ≡ false → b ≡ false
or_false true b is = cc
or_false false b is = is

-- the target of a handle may be changed, and is in its cell
pub in_own_cell : {H : Type 0} (id : CellId) (cells : Cells H) (name : List ℕ) (at : Position) (mode : AccessMode) (v : Dynamic H) →
    value_of_cell cells id.number ≡ Some v → (is_constant mode || is_constant v.mode) ≡ false →
    InOwnCell id cells (focus_in_cell name at mode id.number (value_of_cell cells id.number))
in_own_cell id cells name at mode v there free = record {
  value = v;
  there = there;
  is = ap (focus_in_cell name at mode id.number) there
      ∙ ap (λ (b : Bool). unless_constant b name at (target (InCell id.number) v)) free;
  writable = or_false (is_constant mode) (is_constant v.mode) free;
}
