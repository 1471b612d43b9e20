-- Under other limits the links of a chain are the same, or one of the two fails.
use Rattle.std.proofs.Common.{refl, inl, subst}
use Rattle.std.specs.Prelude.{◌≡◌}
use Rattle.std.specs.Prelude.{ℕ, Bool, true, false, ◌&&◌, ◌||◌, List, ◌∷◌, length, take}
use Rattle.std.specs.Prelude.{Option, Some, None, Result, Ok, Err, is_some, is_none}
use Rattle.rhai_tree.specs.Layers.{ExprLayer}
use Rattle.rhai_tree.specs.Positions.{start_of}
use Rattle.rhai_values.specs.declared.base.value.Union.TheVariants as value
use Rattle.rhai_values.specs.Layers.{layer_of}
use Rattle.rhai_spots.specs.declared.spot.Spot.{Spot}
use Rattle.rhai_spots.specs.declared.spot.Spot.TheVariants as spot
use Rattle.rhai_spots.specs.Parts.{part_of, value_at}
use Rattle.rhai_errors.specs.Errors.{root_name}
use Rattle.rhai_machine.specs.language.Setting.{Setting}
use Rattle.rhai_machine.specs.language.State.{Local}
use Rattle.rhai_machine.specs.language.Values.{is_handle, through}
use Rattle.rhai_machine.specs.language.Places.{focus_target}
use Rattle.rhai_machine.specs.language.Links.{Link, LinkForm, AtIndex, AtProperty, AtMethod, asked_by, first_position, link_of}
use Rattle.rhai_machine.specs.language.Frames.{NewValue, Chain, Member, Property, Item, MemberAccess, ToChain, Frame, Core}
use Rattle.rhai_machine.specs.language.Frames.{PartMethod, PartAssigned}
use Rattle.rhai_machine.specs.language.Handles.{entered, entered_by}
use Rattle.rhai_machine.specs.language.Members.{focus_of, focused_on}
use Rattle.rhai_machine.specs.language.Located.{index_by, is_indexed, is_map, is_place_spot, is_unit, spot_of}
use Rattle.rhai_machine.specs.language.Chains.{asked_move}
use Rattle.rhai_machine.specs.language.Chains.{behind_link, after_method, unless_barred}
use Rattle.rhai_machine.specs.language.Chains.{method_of, assign_member, member_core, assign_focus, measured_place, assign_spot}
use Rattle.rhai_machine.specs.language.Chains.{part_form}
use Rattle.rhai_machine.specs.language.Chains.{part_core, descend, spot_core, indexed_core, locate_core, property_move, form_move}
use Rattle.rhai_machine.specs.language.Chains.{stop_move, seen_move, walk_move}
use Rattle.rhai_machine.specs.language.Unwinding.{measured_part, part_assigned, part_changed, operated_core, got_none}
use Rattle.rhai_machine.specs.language.Unwinding.{temporary_changed}
use Rattle.rhai_machine.specs.Types.{Dynamic, EvalAltResult, Expr, Limits, out-Expr, Position, Token, Union}
use Rattle.rhai_limits.specs.OtherLimits.{SameMove, SameOrLimited}
use Rattle.rhai_limits.proofs.OtherSizes.{as_same, on_one, on_same, sized_same, there_same}
use Rattle.rhai_limits.proofs.OtherCalls.{arguments_same, method_same, store_same}

module _ {H : Type 0} (s : Setting H) (limits : Limits) where
  abbrev other : Setting H
  other = record s { limits = limits }

  entered_by_same : (u : Union H) (inner : Dynamic H) (go to : List (Frame H) → Local H → Core H) →
      ((k : List (Frame H)) (l : Local H) → SameOrLimited (go k l) (to k l)) → (k : List (Frame H)) (l : Local H) →
      SameOrLimited (entered_by u inner go k l) (entered_by u inner to k l)
  entered_by_same (value.Cell id) inner go to each k l = each _ _
  entered_by_same _ inner go to each k l = each k l

  entered_same : (inner : Dynamic H) (go to : List (Frame H) → Local H → Core H) →
      ((k : List (Frame H)) (l : Local H) → SameOrLimited (go k l) (to k l)) → (k : List (Frame H)) (l : Local H) →
      SameOrLimited (entered inner go k l) (entered inner to k l)
  entered_same inner go to each k l = entered_by_same (focus_of l).value inner go to each k l

  pub asked_same : (link : Option Link) (chain : Chain H) (made : List (Dynamic H)) (k : List (Frame H)) (l : Local H) →
      SameMove (asked_move s link chain made k l) (asked_move other link chain made k l)
  asked_same (Some link) chain made k l = (refl, arguments_same s limits (ToChain chain link.behind) made (asked_by link.form) k l)
  asked_same None chain made k l = tt

  -- ---- what frames do

  pub got_none_same : (lacks : Bool) (member : Member H) (e : EvalAltResult H) (access : MemberAccess H) (new : NewValue H)
      (k : List (Frame H)) (l : Local H) →
      SameOrLimited (got_none s lacks member e access new k l) (got_none other lacks member e access new k l)
  got_none_same true (Item index) e access new k l = inl refl
  got_none_same _ member e access new k l = inl refl

  pub temporary_same : (back : Option (MemberAccess H)) (temporary v : Dynamic H) (k : List (Frame H)) (l : Local H) →
      SameOrLimited (temporary_changed s back temporary v k l) (temporary_changed other back temporary v k l)
  temporary_same None temporary v k l = inl refl
  temporary_same (Some access) temporary v k l = inl refl

  pub part_assigned_same : (whole : Option (Dynamic H)) (above : Dynamic H) (at : Spot) (op_at : Position) (k : List (Frame H))
      (l : Local H) → SameOrLimited (part_assigned s whole above at op_at k l) (part_assigned other whole above at op_at k l)
  part_assigned_same (Some whole) above at op_at k l =
      as_same measured_part (λ e. refl) _ _ (sized_same s.limits limits (focus_of l) op_at) k (focused_on (Some whole) l)
  part_assigned_same None above at op_at k l = inl refl

  pub part_changed_same : (whole : Option (Dynamic H)) (above : Dynamic H) (at : Spot) (pos : Position) (v : Dynamic H)
      (k : List (Frame H)) (l : Local H) →
      SameOrLimited (part_changed s whole above at pos v k l) (part_changed other whole above at pos v k l)
  part_changed_same (Some whole) above at pos v k l = inl refl
  part_changed_same None above at pos v k l = inl refl

  pub operated_same : (member : Member H) (access : MemberAccess H) (v : Dynamic H) (op_at : Position) (k : List (Frame H))
      (l : Local H) → SameOrLimited (operated_core s member access v op_at k l) (operated_core other member access v op_at k l)
  operated_same (Property name at) access v op_at k l = inl refl
  operated_same (Item index) access v op_at k l = on_same _ _ (sized_same s.limits limits v op_at) _ _ (λ x. inl refl) k l

  -- ---- what a link does

  method_of_same : (name : List ℕ) (args : List Expr) (at : Position) (was_handle : Bool) (chain : Chain H) (k : List (Frame H))
      (l : Local H) → SameOrLimited (method_of s name args at was_handle chain k l) (method_of other name args at was_handle chain k l)
  method_of_same name args at was_handle chain k l = method_same s limits
      (record { name = name; at = at; first_at = first_position args; was_handle = was_handle })
      (take (length args) chain.args) (focus_of l) k l

  pub assign_focus_same : (root : Expr) (new : NewValue H) (k : List (Frame H)) (l : Local H) →
      SameOrLimited (assign_focus s root new k l) (assign_focus other root new k l)
  assign_focus_same root new k l =
      store_same s limits (focus_target l.around.cells (root_name (out-Expr root)) (start_of root) (focus_of l)) _ new.value k l

  assign_member_same : (token : Option Token) (access : MemberAccess H) (root : Expr) (new : NewValue H) (k : List (Frame H))
      (l : Local H) → SameOrLimited (assign_member s token access root new k l) (assign_member other token access root new k l)
  assign_member_same None access root new k l = inl refl
  assign_member_same (Some token) access root new k l = inl refl

  member_same : (behind : Option ExprLayer) (new : Option (NewValue H)) (link : Link) (access : MemberAccess H) (chain : Chain H)
      (k : List (Frame H)) (l : Local H) →
      SameOrLimited (member_core s behind new link access chain k l) (member_core other behind new link access chain k l)
  member_same (Some rest) new link access chain k l = inl refl
  member_same None None link access chain k l = inl refl
  member_same None (Some new) link access chain k l = assign_member_same new.op.op access chain.root new k l

  place_same : (form : LinkForm) (source : Dynamic H) (at : Spot) (op_at : Position) (k : List (Frame H)) →
      measured_place s form source at op_at k ≡ measured_place other form source at op_at k
  place_same (AtProperty name pos) source at op_at k = refl
  place_same (AtIndex index) source at op_at k = refl
  place_same (AtMethod name args pos) source at op_at k = refl

  assign_spot_same : (is_place : Bool) (at : Spot) (link : Link) (root : Expr) (new : NewValue H) (source : Dynamic H)
      (k : List (Frame H)) (l : Local H) →
      SameOrLimited (assign_spot s is_place at link root new source k l) (assign_spot other is_place at link root new source k l)
  assign_spot_same true at link root new source k l =
      let m : Local H = focused_on (value_at source at) l in
      let under : List (Frame H) = measured_place s link.form source at new.op.position k in
      subst (λ j. SameOrLimited (assign_focus s root new under m) (assign_focus other root new j m))
      (place_same link.form source at new.op.position k) (assign_focus_same root new under m)
  assign_spot_same false at link root new source k l =
      assign_focus_same root new (PartAssigned source at new.op.position ∷ k) (focused_on (Some (part_of source at)) l)

  part_form_same : (form : LinkForm) (link : Link) (at : Spot) (chain : Chain H) (source : Dynamic H) (k : List (Frame H))
      (l : Local H) → SameOrLimited (part_form s form link at chain source k l) (part_form other form link at chain source k l)
  part_form_same (AtMethod name args pos) link at chain source k l = method_of_same name args pos false chain
      (PartMethod source at pos ∷ after_method link.behind link chain k) (focused_on (Some (part_of source at)) l)
  part_form_same _ link at chain source k l = inl refl

  part_same : (link : Option Link) (at : Spot) (chain : Chain H) (source : Dynamic H) (k : List (Frame H)) (l : Local H) →
      SameOrLimited (part_core s link at chain source k l) (part_core other link at chain source k l)
  part_same (Some link) at chain source k l = part_form_same link.form link at chain source k l
  part_same None at chain source k l = inl refl

  descend_same : (is_place : Bool) (at : Spot) (link : Link) (rest : ExprLayer) (index : Dynamic H) (chain : Chain H)
      (source : Dynamic H) (k : List (Frame H)) (l : Local H) →
      SameOrLimited (descend s is_place at link rest index chain source k l) (descend other is_place at link rest index chain source k l)
  descend_same true at link rest index chain source k l = inl refl
  descend_same false spot.Missing link rest index chain source k l = inl refl
  descend_same false at link rest index chain source k l =
      part_same (link_of rest) at (behind_link link rest false chain) source k l

  spot_same : (behind : Option ExprLayer) (new : Option (NewValue H)) (link : Link) (index : Dynamic H) (chain : Chain H)
      (source : Dynamic H) (k : List (Frame H)) (l : Local H) →
      SameOrLimited (spot_core s behind new link index chain source k l) (spot_core other behind new link index chain source k l)
  spot_same (Some rest) new link index chain source k l = on_one (spot_of s false link l.around.cells source index) _ _
      (λ spot. descend_same (is_place_spot spot.1) spot.1 link rest index chain spot.0 k l) k l
  spot_same None None link index chain source k l = inl refl
  spot_same None (Some new) link index chain source k l =
      on_one (unless_barred chain.root source index (spot_of s true link l.around.cells source index)) _ _
      (λ spot. assign_spot_same (is_place_spot spot.1) spot.1 link chain.root new spot.0 k l) k l

  -- ---- the walk

  indexed_same : (indexed : Bool) (link : Link) (index : Dynamic H) (chain : Chain H) (source : Dynamic H) (k : List (Frame H))
      (l : Local H) → SameOrLimited (indexed_core s indexed link index chain source k l)
      (indexed_core other indexed link index chain source k l)
  indexed_same true link index chain source k l = spot_same link.behind chain.new link index chain source k l
  indexed_same false link index chain source k l = member_same link.behind chain.new link _ chain k l

  pub locate_same : (link : Link) (chain : Chain H) (k : List (Frame H)) (l : Local H) →
      SameOrLimited (locate_core s link chain k l) (locate_core other link chain k l)
  locate_same link chain k l = on_one (through l.around.cells (focus_of l) link.at) _ _
      (λ inner. entered_same inner _ _
      (λ k l. indexed_same (is_indexed (layer_of inner)) link (index_by link.form chain.args) chain inner k l) k l) k l

  property_same : (of_map : Bool) (name : List ℕ) (at : Position) (link : Link) (inner : Dynamic H) (chain : Chain H)
      (k : List (Frame H)) (l : Local H) →
      SameMove (property_move s of_map name at link inner chain k l) (property_move other of_map name at link inner chain k l)
  property_same true name at link inner chain k l = (refl, inl refl)
  property_same false name at link inner chain k l =
      entered_same inner _ _ (λ k l. member_same link.behind chain.new link _ chain k l) k l

  form_same : (form : LinkForm) (link : Link) (inner : Dynamic H) (chain : Chain H) (k : List (Frame H)) (l : Local H) →
      SameMove (form_move s form link inner chain k l) (form_move other form link inner chain k l)
  form_same (AtIndex index) link inner chain k l = (refl, inl refl)
  form_same (AtProperty name at) link inner chain k l = property_same (is_map (layer_of inner)) name at link inner chain k l
  form_same (AtMethod name args at) link inner chain k l = there_same (is_some link.behind || is_none chain.new) _ _
      (entered_same inner _ _ (λ above below. method_of_same name args at (is_handle (focus_of l).value) chain
      (after_method link.behind link chain above) below) k l)

  stop_same : (stopped : Bool) (link : Link) (inner : Dynamic H) (chain : Chain H) (k : List (Frame H)) (l : Local H) →
      SameMove (stop_move s stopped link inner chain k l) (stop_move other stopped link inner chain k l)
  stop_same true link inner chain k l = inl refl
  stop_same false link inner chain k l = form_same link.form link inner chain k l

  seen_same : (link : Link) (r : Result (Dynamic H) (EvalAltResult H)) (chain : Chain H) (k : List (Frame H)) (l : Local H) →
      SameMove (seen_move s link r chain k l) (seen_move other link r chain k l)
  seen_same link (Ok inner) chain k l = stop_same (link.stops_at_unit && is_unit inner.value) link inner chain k l
  seen_same link (Err e) chain k l = inl refl

  pub walk_same : (link : Option Link) (chain : Chain H) (k : List (Frame H)) (l : Local H) →
      SameMove (walk_move s link chain k l) (walk_move other link chain k l)
  walk_same (Some link) chain k l = seen_same link (through l.around.cells (focus_of l) link.at) chain k l
  walk_same None chain k l = tt
