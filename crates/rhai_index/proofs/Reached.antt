-- What stays as it was is what a call may leave.
use Rattle.std.proofs.Common.{refl}
use Rattle.std.specs.Prelude.{ℕ, List, Option, Some}
use Rattle.rhai_tree.specs.declared.position.Position.{Position}
use Rattle.rhai_values.specs.declared.base.value.Dynamic.{Dynamic}
use Rattle.rhai_values.specs.Cells.{IsNoHandle}
use Rattle.rhai_errors.specs.Native.{ByFirst, ByState, MayLeave, Natives}
use Rattle.rhai_index.specs.Indexers.{indexer_request}

pub may_stay : {S H : Type 0} (host : H → List ℕ) (natives : Natives S H) (t : S) (cells : List (Option (Dynamic H))) (name : List ℕ)
    (object : Dynamic H) (others : List (Dynamic H)) (at : Position) → IsNoHandle object.value →
    MayLeave host natives t (indexer_request cells name object others at) (Some object) t
may_stay host natives t cells name object others at flat = record {
  no_handle = flat;
  leaves = record {
    pure_keeps = λ pure. refl;
    first_reached = λ r held. ByFirst held;
    state_reached = λ r held. ByState held;
  };
}
