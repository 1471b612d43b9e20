-- An index that is refused twice leaves one value of what is indexed.
use Rattle.std.proofs.Common.{◌≡◌, Bool, true, false, List, ℕ, Option, Result, sym, subst, ◌∙◌}
use Rattle.rhai_values.specs.declared.base.value.Dynamic.{Dynamic}
use Rattle.rhai_values.specs.Cells.{cells_of}
use Rattle.rhai_values.specs.Layers.{layer_of}
use Rattle.rhai_errors.specs.declared.error.EvalAltResult.{EvalAltResult}
use Rattle.rhai_state.specs.declared.limits.Limits.{Limits}
use Rattle.rhai_state.specs.declared.state.GlobalRuntimeState.{GlobalRuntimeState}
use Rattle.rhai_errors.specs.Native.{Natives}
use Rattle.rhai_machine.specs.language.State.{HasMemory}
use Rattle.rhai_spots.specs.declared.spot.Access.{Access}
use Rattle.rhai_places.specs.declared.target.Target.{Target}
use Rattle.rhai_index.specs.Indexers.{effect_of, is_called, read_call, request_of}
use Rattle.rhai_index.specs.Lends.{EndsRefused, MayEndAs}

one_left : {H : Type 0} (called : Bool) (left : Option (Dynamic H)) (MayEnd : Dynamic H → Type 0) (x end also : Dynamic H)
    (r s : Result (Target H) (EvalAltResult H)) →
    EndsRefused called left MayEnd r x end → EndsRefused called left MayEnd s x also → HasMemory r → HasMemory s → end ≡ also
one_left true left MayEnd x end also r s one other r_has s_has = let a = one.0 r_has in let b = other.0 s_has in cc
one_left false left MayEnd x end also r s one other r_has s_has = one ∙ sym other

module _ {S H T : Type 0} (limits : Limits) (host : H → List ℕ) (natives : Natives S H) (state_of : T → S) (how : Access)
    (use_indexers : Bool) where
  -- what an index that is refused leaves of the value that is indexed
  abbrev LeftBy : GlobalRuntimeState H → S → (x i end : Dynamic H) → Result (Target H) (EvalAltResult H) → Type 0
  LeftBy g state x i end r = EndsRefused (is_called limits g use_indexers (layer_of x))
      (effect_of natives host (cells_of g.cells) state (read_call i how.op_pos) x).first
      (MayEndAs natives state (request_of (cells_of g.cells) (read_call i how.op_pos) x)) r x end

  pub refused_once : (g h : GlobalRuntimeState H) (t u : T) (x y i j end also : Dynamic H) (r s : Result (Target H) (EvalAltResult H)) →
      g ≡ h → state_of t ≡ state_of u → x ≡ y → i ≡ j → LeftBy g (state_of t) x i end r → LeftBy h (state_of u) y j also s →
      HasMemory r → HasMemory s → end ≡ also
  refused_once g h t u x y i j end also r s globals tables objects indices one other =
      let A : GlobalRuntimeState H → Type 0 = λ z. LeftBy z (state_of u) y j also s in
      let B : S → Type 0 = λ z. LeftBy g z y j also s in
      let C : Dynamic H → Type 0 = λ z. LeftBy g (state_of t) z j also s in
      let D : Dynamic H → Type 0 = λ z. LeftBy g (state_of t) x z also s in
      one_left _ _ _ x end also r s one
      (subst D (sym indices) (subst C (sym objects) (subst B (sym tables) (subst A (sym globals) other))))
