-- What the rules of chains keep: the frames of a chain take back the focus, and no variables.
use Rattle.std.specs.Prelude.{ℕ, Bool, true, false, ◌&&◌, ◌||◌, List, ◌∷◌, length, take}
use Rattle.std.specs.Prelude.{Option, Some, None, Result, Ok, Err, is_some, is_none}
use Rattle.rhai_machine.specs.Types.{Dynamic, EvalAltResult, Expr, out-Expr, Position, Token, Union}
use Rattle.rhai_tree.specs.declared.expr.Expr.TheOpen as layer
use Rattle.rhai_tree.specs.Layers.{ExprLayer}
use Rattle.rhai_tree.specs.Positions.{start_of}
use Rattle.rhai_values.specs.declared.base.value.Union.TheVariants as value
use Rattle.rhai_values.specs.Layers.{layer_of}
use Rattle.rhai_spots.specs.declared.spot.Spot.{Spot}
use Rattle.rhai_spots.specs.declared.spot.Spot.TheVariants as spot
use Rattle.rhai_spots.specs.Parts.{part_of, value_at}
use Rattle.rhai_errors.specs.Errors.{root_name}
use Rattle.rhai_machine.specs.language.Setting.{Globals, Setting}
use Rattle.rhai_machine.specs.language.State.{Local}
use Rattle.rhai_machine.specs.language.Values.{is_handle, through, unit_value}
use Rattle.rhai_machine.specs.language.Variables.{Variable}
use Rattle.rhai_machine.specs.language.Names.{Meaning, AtEntry, AsTemporary, bound_this, meant}
use Rattle.rhai_machine.specs.language.Places.{focus_target}
use Rattle.rhai_machine.specs.language.Links.{Link, LinkForm, AtIndex, AtProperty, AtMethod, asked_by, first_position, link_of}
use Rattle.rhai_machine.specs.language.Frames.{Lender, NewValue, Chain, Member, Property, Item, MemberAccess, ToChain, Frame, Core, core}
use Rattle.rhai_machine.specs.language.Frames.{ChainEnd, PartMethod, PartAssigned, MemberLink, MemberGot, MemberSet}
use Rattle.rhai_machine.specs.language.Calls.{place_of, sized}
use Rattle.rhai_machine.specs.language.Handles.{entered, entered_by}
use Rattle.rhai_machine.specs.language.Members.{focus_of, focused_on, got_by, set_core, set_by, unless_ignored, getter_missing}
use Rattle.rhai_machine.specs.language.Members.{setter_missing, indexer_missing}
use Rattle.rhai_machine.specs.language.Located.{index_by, is_indexed, is_map, is_place_spot, is_unit, spot_of}
use Rattle.rhai_machine.specs.language.Chains.{ready, opened_core, open_move, asked_move, root_move, meant_core, read_root_core}
use Rattle.rhai_machine.specs.language.Chains.{behind_link, after_method, kept_access, is_property, after_set, unless_barred}
use Rattle.rhai_machine.specs.language.Chains.{method_of, assign_member, member_core, assign_focus, measured_place, assign_spot, part_form}
use Rattle.rhai_machine.specs.language.Chains.{part_core, descend, spot_core, indexed_core, locate_core, property_move, form_move}
use Rattle.rhai_machine.specs.language.Chains.{stop_move, seen_move, walk_move}
use Rattle.rhai_machine.specs.language.Unwinding.{restored, measured_part, part_assigned, part_changed, operated_core, got_none}
use Rattle.rhai_machine.specs.language.Unwinding.{temporary_changed}
use Rattle.rhai_limits.proofs.Keeping.{Asked, Calm, Good, Moves, put_keeps, on_keeps, ended_keeps, there_keeps}
use Rattle.rhai_limits.proofs.Calls.{arguments_keep, method_keeps, store_keeps}

module _ {H : Type 0} (a : Asked) where
  -- ---- the arguments and the root

  opened_keeps : (behind : Option ExprLayer) (args : Option (List (Dynamic H))) (chain : Chain H) (k : List (Frame H)) (l : Local H) →
      Calm a k l → Good a (opened_core behind args chain k l)
  opened_keeps None (Some args) chain k l h = h
  opened_keeps _ _ chain k l h = h

  pub open_keeps : (link : Option Link) (chain : Chain H) (k : List (Frame H)) (l : Local H) → Calm a k l →
      Moves a (open_move link chain k l)
  open_keeps (Some link) chain k l h = opened_keeps link.behind (ready link.form) chain k l h
  open_keeps None chain k l h = tt

  pub root_keeps : (form : ExprLayer) (chain : Chain H) (k : List (Frame H)) (l : Local H) → Calm a k l → Moves a (root_move form chain k l)
  root_keeps (layer.Variable offset name namespace at) chain k l h = h
  root_keeps (layer.ThisPtr at) chain k l h =
      on_keeps a (bound_this at l.this) _ k l h (λ v. on_keeps a (through l.around.cells v at) _ k l h (λ inner. h))
  root_keeps _ chain k l h = there_keeps a (is_none chain.new) _ h

  meant_keeps : (meaning : Meaning H) (chain : Chain H) (k : List (Frame H)) (l : Local H) → Calm a k l →
      Good a (meant_core meaning chain k l)
  meant_keeps (AtEntry index v) chain k l h = h
  meant_keeps (AsTemporary v) chain k l h = h

  pub read_root_keeps : (globals : Globals H) (variable : Variable) (chain : Chain H) (k : List (Frame H)) (l : Local H) → Calm a k l →
      Good a (read_root_core globals variable chain k l)
  read_root_keeps globals variable chain k l h =
      on_keeps a (meant globals l.around l.scope variable) _ k l h (λ meaning. meant_keeps meaning chain k l h)

  -- the focus of a chain goes back to who lent its root
  pub chain_left : (lender : Option Lender) (outer : Option (Dynamic H)) (k : List (Frame H)) (l : Local H) → Calm a k l →
      Calm a k (restored (ChainEnd lender outer) l)
  chain_left None outer k l h = h
  chain_left (Some lender) outer k l h = put_keeps a (place_of lender) (focus_of l) k l h

  -- ---- handles

  entered_by_keeps : (u : Union H) (inner : Dynamic H) (go : List (Frame H) → Local H → Core H) (k : List (Frame H)) (l : Local H) →
      Calm a k l → ((k : List (Frame H)) (l : Local H) → Calm a k l → Good a (go k l)) → Good a (entered_by u inner go k l)
  entered_by_keeps (value.Cell id) inner go k l h goes = goes _ _ h
  entered_by_keeps _ inner go k l h goes = goes k l h

  entered_keeps : (inner : Dynamic H) (go : List (Frame H) → Local H → Core H) (k : List (Frame H)) (l : Local H) → Calm a k l →
      ((k : List (Frame H)) (l : Local H) → Calm a k l → Good a (go k l)) → Good a (entered inner go k l)
  entered_keeps inner go k l h goes = entered_by_keeps (focus_of l).value inner go k l h goes

  -- ---- members by natives

  got_keeps : (member : Member H) (access : MemberAccess H) (k : List (Frame H)) (l : Local H) → Calm a k l →
      Good a (got_by member access k l)
  got_keeps (Property name at) access k l h = h
  got_keeps (Item index) access k l h = h

  ignored_keeps : (ignores : Bool) (k : List (Frame H)) (l : Local H) → Calm a k l → Calm a (unless_ignored ignores k) l
  ignored_keeps true k l h = h
  ignored_keeps false k l h = h

  set_keeps : (member : Member H) (ignores : Bool) (access : MemberAccess H) (v : Dynamic H) (k : List (Frame H)) (l : Local H) →
      Calm a k l → Good a (set_by member ignores access v k l)
  set_keeps (Property name at) ignores access v k l h = h
  set_keeps (Item index) ignores access v k l h = ignored_keeps ignores k l h

  -- a member is set, and a value comes back after that
  then_set_keeps : (ignores : Bool) (access : MemberAccess H) (v next : Dynamic H) (k : List (Frame H)) (l : Local H) → Calm a k l →
      Good a (set_core ignores access v (MemberSet next ∷ k) l)
  then_set_keeps ignores access v next k l h = set_keeps access.member ignores access v (MemberSet next ∷ k) l h

  after_set_keeps : (member : Member H) (k : List (Frame H)) (l : Local H) → Calm a k l → Calm a (after_set member k) l
  after_set_keeps (Property name at) k l h = h
  after_set_keeps (Item index) k l h = h

  pub getter_missing_keeps : (lacks : Bool) (e : EvalAltResult H) (access : MemberAccess H) (name : List ℕ) (k : List (Frame H))
      (l : Local H) → Calm a k l → Good a (getter_missing lacks e access name k l)
  getter_missing_keeps true e access name k l h = h
  getter_missing_keeps false e access name k l h = h

  pub setter_missing_keeps : (lacks : Bool) (e : EvalAltResult H) (access : MemberAccess H) (name : List ℕ) (v : Dynamic H)
      (ignores : Bool) (k : List (Frame H)) (l : Local H) → Calm a k l → Good a (setter_missing lacks e access name v ignores k l)
  setter_missing_keeps true e access name v ignores k l h = h
  setter_missing_keeps false e access name v ignores k l h = h

  pub indexer_missing_keeps : (lacks : Bool) (e : EvalAltResult H) (otherwise : Result (Dynamic H) (EvalAltResult H))
      (k : List (Frame H)) (l : Local H) → Calm a k l → Good a (indexer_missing lacks e otherwise k l)
  indexer_missing_keeps true e otherwise k l h = ended_keeps a otherwise k l h
  indexer_missing_keeps false e otherwise k l h = h

  -- ---- parts

  measured_keeps : (r : Result (Dynamic H) (EvalAltResult H)) (k : List (Frame H)) (l : Local H) → Calm a k l →
      Good a (core (measured_part r) k l)
  measured_keeps (Ok v) k l h = h
  measured_keeps (Err e) k l h = h

  after_method_keeps : (behind : Option ExprLayer) (link : Link) (chain : Chain H) (k : List (Frame H)) (l : Local H) → Calm a k l →
      Calm a (after_method behind link chain k) l
  after_method_keeps None link chain k l h = h
  after_method_keeps (Some rest) link chain k l h = h

  module _ (s : Setting H) where
    pub asked_keeps : (link : Option Link) (chain : Chain H) (made : List (Dynamic H)) (k : List (Frame H)) (l : Local H) → Calm a k l →
        Moves a (asked_move s link chain made k l)
    asked_keeps (Some link) chain made k l h = arguments_keep a s (ToChain chain link.behind) made (asked_by link.form) k l h
    asked_keeps None chain made k l h = tt

    -- where there is no indexer an item is set to the right side
    pub got_none_keeps : (lacks : Bool) (member : Member H) (e : EvalAltResult H) (access : MemberAccess H) (new : NewValue H)
        (k : List (Frame H)) (l : Local H) → Calm a k l → Good a (got_none s lacks member e access new k l)
    got_none_keeps true (Item index) e access new k l h = then_set_keeps false access new.value unit_value k l h
    got_none_keeps _ member e access new k l h = h

    -- a temporary that may have changed is set, where it has a way back
    pub temporary_keeps : (back : Option (MemberAccess H)) (temporary v : Dynamic H) (k : List (Frame H)) (l : Local H) → Calm a k l →
        Good a (temporary_changed s back temporary v k l)
    temporary_keeps None temporary v k l h = h
    temporary_keeps (Some access) temporary v k l h = then_set_keeps true access temporary v k l h

    -- a part goes back into the value above
    pub part_assigned_keeps : (whole : Option (Dynamic H)) (above : Dynamic H) (at : Spot) (op_at : Position) (k : List (Frame H))
        (l : Local H) → Calm a k l → Good a (part_assigned s whole above at op_at k l)
    part_assigned_keeps (Some whole) above at op_at k l h =
        measured_keeps (sized s.limits (focus_of l) op_at) k (focused_on (Some whole) l) h
    part_assigned_keeps None above at op_at k l h = h

    pub part_changed_keeps : (whole : Option (Dynamic H)) (above : Dynamic H) (at : Spot) (pos : Position) (v : Dynamic H)
        (k : List (Frame H)) (l : Local H) → Calm a k l → Good a (part_changed s whole above at pos v k l)
    part_changed_keeps (Some whole) above at pos v k l h = h
    part_changed_keeps None above at pos v k l h = h

    -- a member that was operated on is set
    pub operated_on_keeps : (member : Member H) (access : MemberAccess H) (v : Dynamic H) (op_at : Position) (k : List (Frame H))
        (l : Local H) → Calm a k l → Good a (operated_core s member access v op_at k l)
    operated_on_keeps (Property name at) access v op_at k l h = set_keeps access.member false access v k l h
    operated_on_keeps (Item index) access v op_at k l h =
        on_keeps a (sized s.limits v op_at) _ k l h (λ x. then_set_keeps false access x unit_value k l h)

    -- ---- what a link does

    method_of_keeps : (name : List ℕ) (args : List Expr) (pos : Position) (was_handle : Bool) (chain : Chain H) (k : List (Frame H))
        (l : Local H) → Calm a k l → Good a (method_of s name args pos was_handle chain k l)
    method_of_keeps name args pos was_handle chain k l h = method_keeps a s
        (record { name = name; at = pos; first_at = first_position args; was_handle = was_handle })
        (take (length args) chain.args) (focus_of l) k l h

    pub assign_focus_keeps : (root : Expr) (new : NewValue H) (k : List (Frame H)) (l : Local H) → Calm a k l →
        Good a (assign_focus s root new k l)
    assign_focus_keeps root new k l h =
        store_keeps a s (focus_target l.around.cells (root_name (out-Expr root)) (start_of root) (focus_of l)) _ new.value k l h

    assign_member_keeps : (token : Option Token) (access : MemberAccess H) (root : Expr) (new : NewValue H) (k : List (Frame H))
        (l : Local H) → Calm a k l → Good a (assign_member s token access root new k l)
    assign_member_keeps None access root new k l h =
        set_keeps access.member false access new.value (after_set access.member k) l (after_set_keeps access.member k l h)
    assign_member_keeps (Some token) access root new k l h = got_keeps access.member access (MemberGot access root new ∷ k) l h

    member_keeps : (behind : Option ExprLayer) (new : Option (NewValue H)) (link : Link) (access : MemberAccess H) (chain : Chain H)
        (k : List (Frame H)) (l : Local H) → Calm a k l → Good a (member_core s behind new link access chain k l)
    member_keeps (Some rest) new link access chain k l h = got_keeps access.member access
        (MemberLink (kept_access access) (behind_link link rest (is_property access.member) chain) ∷ k) l h
    member_keeps None None link access chain k l h = got_keeps access.member access k l h
    member_keeps None (Some new) link access chain k l h = assign_member_keeps new.op.op access chain.root new k l h

    -- a place or a part is assigned to
    measured_place_keeps : (form : LinkForm) (source : Dynamic H) (at : Spot) (op_at : Position) (k : List (Frame H)) (l : Local H) →
        Calm a k l → Calm a (measured_place s form source at op_at k) l
    measured_place_keeps (AtProperty name pos) source at op_at k l h = h
    measured_place_keeps (AtIndex index) source at op_at k l h = h
    measured_place_keeps (AtMethod name args pos) source at op_at k l h = h

    assign_spot_keeps : (is_place : Bool) (at : Spot) (link : Link) (root : Expr) (new : NewValue H) (source : Dynamic H)
        (k : List (Frame H)) (l : Local H) → Calm a k l → Good a (assign_spot s is_place at link root new source k l)
    assign_spot_keeps true at link root new source k l h = assign_focus_keeps root new _ (focused_on (value_at source at) l)
        (measured_place_keeps link.form source at new.op.position k (focused_on (value_at source at) l) h)
    assign_spot_keeps false at link root new source k l h =
        assign_focus_keeps root new (PartAssigned source at new.op.position ∷ k) (focused_on (Some (part_of source at)) l) h

    -- the chain goes on in a part
    part_form_keeps : (form : LinkForm) (link : Link) (at : Spot) (chain : Chain H) (source : Dynamic H) (k : List (Frame H))
        (l : Local H) → Calm a k l → Good a (part_form s form link at chain source k l)
    part_form_keeps (AtMethod name args pos) link at chain source k l h = method_of_keeps name args pos false chain
        (PartMethod source at pos ∷ after_method link.behind link chain k) (focused_on (Some (part_of source at)) l)
        (after_method_keeps link.behind link chain k l h)
    part_form_keeps _ link at chain source k l h = h

    part_keeps : (link : Option Link) (at : Spot) (chain : Chain H) (source : Dynamic H) (k : List (Frame H)) (l : Local H) → Calm a k l →
        Good a (part_core s link at chain source k l)
    part_keeps (Some link) at chain source k l h = part_form_keeps link.form link at chain source k l h
    part_keeps None at chain source k l h = h

    -- the chain goes on below
    descend_keeps : (is_place : Bool) (at : Spot) (link : Link) (rest : ExprLayer) (index : Dynamic H) (chain : Chain H)
        (source : Dynamic H) (k : List (Frame H)) (l : Local H) → Calm a k l →
        Good a (descend s is_place at link rest index chain source k l)
    descend_keeps true at link rest index chain source k l h = h
    descend_keeps false spot.Missing link rest index chain source k l h = h
    descend_keeps false at link rest index chain source k l h =
        part_keeps (link_of rest) at (behind_link link rest false chain) source k l h

    spot_keeps : (behind : Option ExprLayer) (new : Option (NewValue H)) (link : Link) (index : Dynamic H) (chain : Chain H)
        (source : Dynamic H) (k : List (Frame H)) (l : Local H) → Calm a k l →
        Good a (spot_core s behind new link index chain source k l)
    spot_keeps (Some rest) new link index chain source k l h = on_keeps a (spot_of s false link l.around.cells source index) _ k l h
        (λ spot. descend_keeps (is_place_spot spot.1) spot.1 link rest index chain spot.0 k l h)
    spot_keeps None None link index chain source k l h = on_keeps a (spot_of s false link l.around.cells source index) _ k l h (λ spot. h)
    spot_keeps None (Some new) link index chain source k l h =
        on_keeps a (unless_barred chain.root source index (spot_of s true link l.around.cells source index)) _ k l h
        (λ spot. assign_spot_keeps (is_place_spot spot.1) spot.1 link chain.root new spot.0 k l h)

    -- ---- the walk

    indexed_keeps : (indexed : Bool) (link : Link) (index : Dynamic H) (chain : Chain H) (source : Dynamic H) (k : List (Frame H))
        (l : Local H) → Calm a k l → Good a (indexed_core s indexed link index chain source k l)
    indexed_keeps true link index chain source k l h = spot_keeps link.behind chain.new link index chain source k l h
    indexed_keeps false link index chain source k l h = member_keeps link.behind chain.new link _ chain k l h

    pub locate_keeps : (link : Link) (chain : Chain H) (k : List (Frame H)) (l : Local H) → Calm a k l →
        Good a (locate_core s link chain k l)
    locate_keeps link chain k l h = on_keeps a (through l.around.cells (focus_of l) link.at) _ k l h
        (λ inner. entered_keeps inner _ k l h
        (λ k l h. indexed_keeps (is_indexed (layer_of inner)) link (index_by link.form chain.args) chain inner k l h))

    property_keeps : (of_map : Bool) (name : List ℕ) (at : Position) (link : Link) (inner : Dynamic H) (chain : Chain H)
        (k : List (Frame H)) (l : Local H) → Calm a k l → Moves a (property_move s of_map name at link inner chain k l)
    property_keeps true name at link inner chain k l h = h
    property_keeps false name at link inner chain k l h =
        entered_keeps inner _ k l h (λ k l h. member_keeps link.behind chain.new link _ chain k l h)

    form_keeps : (form : LinkForm) (link : Link) (inner : Dynamic H) (chain : Chain H) (k : List (Frame H)) (l : Local H) → Calm a k l →
        Moves a (form_move s form link inner chain k l)
    form_keeps (AtIndex index) link inner chain k l h = h
    form_keeps (AtProperty name at) link inner chain k l h = property_keeps (is_map (layer_of inner)) name at link inner chain k l h
    form_keeps (AtMethod name args at) link inner chain k l h = there_keeps a (is_some link.behind || is_none chain.new) _
        (entered_keeps inner _ k l h (λ above below i. method_of_keeps name args at (is_handle (focus_of l).value) chain
        (after_method link.behind link chain above) below (after_method_keeps link.behind link chain above below i)))

    stop_keeps : (stopped : Bool) (link : Link) (inner : Dynamic H) (chain : Chain H) (k : List (Frame H)) (l : Local H) → Calm a k l →
        Moves a (stop_move s stopped link inner chain k l)
    stop_keeps true link inner chain k l h = h
    stop_keeps false link inner chain k l h = form_keeps link.form link inner chain k l h

    seen_keeps : (link : Link) (r : Result (Dynamic H) (EvalAltResult H)) (chain : Chain H) (k : List (Frame H)) (l : Local H) →
        Calm a k l → Moves a (seen_move s link r chain k l)
    seen_keeps link (Ok inner) chain k l h = stop_keeps (link.stops_at_unit && is_unit inner.value) link inner chain k l h
    seen_keeps link (Err e) chain k l h = h

    pub walk_keeps : (link : Option Link) (chain : Chain H) (k : List (Frame H)) (l : Local H) → Calm a k l →
        Moves a (walk_move s link chain k l)
    walk_keeps (Some link) chain k l h = seen_keeps link (through l.around.cells (focus_of l) link.at) chain k l h
    walk_keeps None chain k l h = tt
