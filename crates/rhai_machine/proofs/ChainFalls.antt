-- The moves of chains make a core smaller.
use Rattle.std.proofs.Common.{arith}
use Rattle.std.specs.Prelude.{◌<◌, ◌≤◌, ℕ, ◌+◌, ◌*◌, Bool, true, false, List, ◌∷◌, Option, Some, None, Result, Ok, Err, is_some, is_none}
use Rattle.std.specs.Prelude.{take, length, ◌&&◌, ◌||◌, if◌then◌else◌}
use Rattle.rhai_tree.specs.declared.position.Position.{Position}
use Rattle.rhai_tree.specs.declared.token.Token.{Token}
use Rattle.rhai_tree.specs.declared.expr.Expr.{Expr, out-Expr}
use Rattle.rhai_tree.specs.declared.expr.Expr.TheOpen as layer
use Rattle.rhai_tree.specs.Layers.{ExprLayer}
use Rattle.rhai_tree.specs.Positions.{start_of}
use Rattle.rhai_values.specs.declared.base.value.Dynamic.{Dynamic}
use Rattle.rhai_values.specs.declared.base.value.Union.{Union}
use Rattle.rhai_values.specs.declared.base.value.Union.TheVariants as value
use Rattle.rhai_values.specs.Cells.{with_held}
use Rattle.rhai_values.specs.Layers.{layer_of}
use Rattle.rhai_errors.specs.declared.error.EvalAltResult.{EvalAltResult}
use Rattle.rhai_errors.specs.Errors.{root_name}
use Rattle.rhai_spots.specs.declared.spot.Spot.{Spot}
use Rattle.rhai_spots.specs.declared.spot.Spot.TheVariants as spot
use Rattle.rhai_spots.specs.Parts.{part_of, value_at}
use Rattle.rhai_spots.specs.Paths.{ToCell}
use Rattle.rhai_machine.specs.machine.Settling.{Falls}
use Rattle.rhai_machine.specs.language.Setting.{Globals, Setting}
use Rattle.rhai_machine.specs.language.State.{Local}
use Rattle.rhai_machine.specs.language.Values.{unit_value, is_handle, through}
use Rattle.rhai_machine.specs.language.Frames.{Frame, Core, core, Eval, NewValue, Chain, Member, Property, Item, MemberAccess, OpenChain}
use Rattle.rhai_machine.specs.language.Frames.{ChainArguments, ChainRoot, Walk, RootValue, StepDown, PartMethod, PartAssigned}
use Rattle.rhai_machine.specs.language.Frames.{MemberLink, MemberGot, MemberSet}
use Rattle.rhai_machine.specs.language.Calls.{sized}
use Rattle.rhai_machine.specs.language.Variables.{Variable}
use Rattle.rhai_machine.specs.language.Names.{Meaning, AtEntry, AsTemporary, meant}
use Rattle.rhai_machine.specs.language.Places.{focus_target}
use Rattle.rhai_machine.specs.language.Links.{Link, LinkForm, AtIndex, AtProperty, AtMethod, first_position, link_of}
use Rattle.rhai_machine.specs.language.Members.{focus_of, focused_on, got_by, unless_ignored, set_by, getter_missing, setter_missing}
use Rattle.rhai_machine.specs.language.Members.{indexer_missing}
use Rattle.rhai_machine.specs.language.Located.{index_by, is_indexed, is_map, is_place_spot, is_unit, spot_of}
use Rattle.rhai_machine.specs.language.Handles.{entered_by}
use Rattle.rhai_machine.specs.language.Chains.{ready, opened_core, open_move, asked_move, root_move, meant_core, read_root_core}
use Rattle.rhai_machine.specs.language.Chains.{behind_link, after_method, kept_access, is_property, after_set, unless_barred, method_of}
use Rattle.rhai_machine.specs.language.Chains.{method_entered}
use Rattle.rhai_machine.specs.language.Chains.{assign_member, member_core, assign_focus, measured_place, assign_spot, part_form}
use Rattle.rhai_machine.specs.language.Chains.{part_core as chain_part, descend, spot_core, indexed_core, locate_core, property_move}
use Rattle.rhai_machine.specs.language.Chains.{form_move, stop_move, seen_move, walk_move}
use Rattle.rhai_machine.specs.language.Unwinding.{measured_part, part_assigned, part_changed, operated_core, got_none, temporary_changed}
use Rattle.rhai_machine.proofs.ChainLinks.{links, left_by, Within, within}
use Rattle.rhai_machine.proofs.Sizes.{control_size, stack_size, size, on_falls, on_below, there_falls}
use Rattle.rhai_machine.proofs.CallFalls.{method_falls}
use Rattle.rhai_machine.proofs.AssignmentFalls.{assign_falls}

module _ {H : Type 0} where
  -- ---- members

  -- a member is got and set by a charge, with one frame more at most
  got_falls : (member : Member H) (access : MemberAccess H) (k : List (Frame H)) (l : Local H) →
      size (got_by member access k l) ≤ 1 + stack_size k
  got_falls (Property name at) access k l = omega arith
  got_falls (Item index) access k l = omega arith

  ignored_size : (ignores : Bool) (k : List (Frame H)) → stack_size (unless_ignored ignores k) ≤ 1 + stack_size k
  ignored_size true k = omega arith
  ignored_size false k = omega arith

  set_falls : (member : Member H) (ignores : Bool) (access : MemberAccess H) (v : Dynamic H) (k : List (Frame H)) (l : Local H) →
      size (set_by member ignores access v k l) ≤ 1 + stack_size k
  set_falls (Property name at) ignores access v k l = omega arith
  set_falls (Item index) ignores access v k l = omega (arith, ignored_size ignores k)

  after_set_size : (member : Member H) (k : List (Frame H)) → stack_size (after_set member k) ≤ 2 + stack_size k
  after_set_size (Property name at) k = omega arith
  after_set_size (Item index) k = omega arith

  -- a native that was tried leads to the indexer, or fails
  pub getter_falls : (lacks : Bool) (e : EvalAltResult H) (access : MemberAccess H) (name : List ℕ) (k : List (Frame H)) (l : Local H) →
      size (getter_missing lacks e access name k l) ≤ 11 + stack_size k
  getter_falls true e access name k l = omega arith
  getter_falls false e access name k l = omega arith

  pub setter_falls : (lacks : Bool) (e : EvalAltResult H) (access : MemberAccess H) (name : List ℕ) (v : Dynamic H) (ignores : Bool)
      (k : List (Frame H)) (l : Local H) → size (setter_missing lacks e access name v ignores k l) ≤ 11 + stack_size k
  setter_falls true e access name v ignores k l = omega arith
  setter_falls false e access name v ignores k l = omega arith

  pub indexer_falls : (lacks : Bool) (e : EvalAltResult H) (otherwise : Result (Dynamic H) (EvalAltResult H)) (k : List (Frame H))
      (l : Local H) → size (indexer_missing lacks e otherwise k l) ≤ 11 + stack_size k
  indexer_falls true e (Ok v) k l = omega arith
  indexer_falls true e (Err fault) k l = omega arith
  indexer_falls false e otherwise k l = omega arith

  -- ---- the start of a chain

  -- a chain comes to its root, or to its arguments
  opened_falls : (behind : Option ExprLayer) (args : Option (List (Dynamic H))) (chain : Chain H) (k : List (Frame H)) (l : Local H) →
      size (opened_core behind args chain k l) < 35 + (20 * links chain.rest + stack_size k)
  opened_falls None (Some args) chain k l = omega arith
  opened_falls None None chain k l = omega arith
  opened_falls (Some rest) args chain k l = omega arith

  pub open_falls : (link : Option Link) (chain : Chain H) (k : List (Frame H)) (l : Local H) →
      Falls size (core (OpenChain chain) k l) (open_move link chain k l)
  open_falls (Some link) chain k l = omega (arith, opened_falls link.behind (ready link.form) chain k l)
  open_falls None chain k l = tt

  pub root_falls : (form : ExprLayer) (chain : Chain H) (k : List (Frame H)) (l : Local H) →
      Falls size (core (ChainRoot chain) k l) (root_move form chain k l)
  root_falls (layer.Variable offset name namespace pos) chain k l = tt
  root_falls (layer.ThisPtr pos) chain k l = tt
  root_falls _ chain k l = there_falls (is_none chain.new) (core (ChainRoot chain) k l)
      (core (Eval chain.root) (RootValue chain ∷ k) l) (omega arith)

  meant_falls : (meaning : Meaning H) (chain : Chain H) (k : List (Frame H)) (l : Local H) →
      size (meant_core meaning chain k l) < 30 + (20 * links chain.rest + stack_size k)
  meant_falls (AtEntry index v) chain k l = omega arith
  meant_falls (AsTemporary v) chain k l = omega arith

  pub read_root_falls : (globals : Globals H) (variable : Variable) (chain : Chain H) (k : List (Frame H)) (l : Local H) →
      size (read_root_core globals variable chain k l) < 30 + (20 * links chain.rest + stack_size k)
  read_root_falls globals variable chain k l = on_below (meant globals l.around l.scope variable) _ k l
      (30 + (20 * links chain.rest + stack_size k)) (omega arith) (λ meaning. meant_falls meaning chain k l)

  -- ---- a link

  -- a handle that is entered is one frame more
  entered_falls : (u : Union H) (inner : Dynamic H) (go : List (Frame H) → Local H → Core H) (n : ℕ) (k : List (Frame H)) (l : Local H) →
      ((j : List (Frame H)) (m : Local H) → size (go j m) < n + stack_size j) → size (entered_by u inner go k l) < 1 + (n + stack_size k)
  entered_falls (value.Cell id) inner go n k l h = omega (
    arith,
    h (StepDown (focus_of l) (ToCell id.number) ∷ k)
        (record l { focus = Some inner; around = record l.around { cells = with_held l.around.cells id.number } }),
  )
  entered_falls _ inner go n k l h = omega (arith, h k l)

  -- what waits for a method weighs less than the link
  method_link_size : (behind : Option ExprLayer) (link : Link) (chain : Chain H) (k : List (Frame H)) →
      stack_size (after_method behind link chain k) ≤ 20 * left_by behind + stack_size k
  method_link_size None link chain k = omega arith
  method_link_size (Some rest) link chain k = omega arith

  measured_part_size : (r : Result (Dynamic H) (EvalAltResult H)) → control_size (measured_part r) ≤ 11
  measured_part_size (Ok v) = omega arith
  measured_part_size (Err e) = omega arith

  module _ (s : Setting H) where
    pub asked_falls : (link : Option Link) (chain : Chain H) (rest : ExprLayer) (made : List (Dynamic H)) (k : List (Frame H))
        (l : Local H) → Falls size (core (ChainArguments chain rest made) k l) (asked_move s link chain made k l)
    asked_falls (Some link) chain rest made k l = tt
    asked_falls None chain rest made k l = tt

    -- what a link does with a member
    assign_member_falls : (op : Option Token) (access : MemberAccess H) (root : Expr) (new : NewValue H) (k : List (Frame H))
        (l : Local H) → size (assign_member s op access root new k l) ≤ 9 + stack_size k
    assign_member_falls None access root new k l = omega (
      arith,
      set_falls access.member false access new.value (after_set access.member k) l,
      after_set_size access.member k,
    )
    assign_member_falls (Some token) access root new k l =
        omega (arith, got_falls access.member access (MemberGot access root new ∷ k) l)

    member_falls : (behind : Option ExprLayer) (new : Option (NewValue H)) (link : Link) (access : MemberAccess H) (chain : Chain H)
        (k : List (Frame H)) (l : Local H) →
        size (member_core s behind new link access chain k l) < 17 + 20 * left_by behind + stack_size k
    member_falls (Some rest) new link access chain k l = omega (
      arith,
      got_falls access.member access
          (MemberLink (kept_access access) (behind_link link rest (is_property access.member) chain) ∷ k) l,
    )
    member_falls None None link access chain k l = omega (arith, got_falls access.member access k l)
    member_falls None (Some new) link access chain k l = omega (arith, assign_member_falls new.op.op access chain.root new k l)

    pub assign_focus_falls : (root : Expr) (new : NewValue H) (k : List (Frame H)) (l : Local H) →
        size (assign_focus s root new k l) < 12 + stack_size k
    assign_focus_falls root new k l = on_falls (focus_target l.around.cells (root_name (out-Expr root)) (start_of root) (focus_of l)) _ k l
        (λ target. assign_falls s new.op.op _ target new.value k l)

    -- what a link does with a place or a part
    measured_size : (form : LinkForm) (source : Dynamic H) (at : Spot) (op_at : Position) (k : List (Frame H)) →
        stack_size (measured_place s form source at op_at k) ≤ 5 + stack_size k
    measured_size (AtIndex index) source at op_at k = omega arith
    measured_size (AtProperty name pos) source at op_at k = omega arith
    measured_size (AtMethod name args pos) source at op_at k = omega arith

    assign_spot_falls : (is_place : Bool) (at : Spot) (link : Link) (root : Expr) (new : NewValue H) (source : Dynamic H)
        (k : List (Frame H)) (l : Local H) → size (assign_spot s is_place at link root new source k l) < 17 + stack_size k
    assign_spot_falls true at link root new source k l = omega (
      arith,
      assign_focus_falls root new (measured_place s link.form source at new.op.position k) (focused_on (value_at source at) l),
      measured_size link.form source at new.op.position k,
    )
    assign_spot_falls false at link root new source k l = omega (
      arith,
      assign_focus_falls root new (PartAssigned source at new.op.position ∷ k) (focused_on (Some (part_of source at)) l),
    )

    -- a method of a part is called at once, so the part weighs as the chain from there on does
    part_form_falls : (form : LinkForm) (link : Link) (at : Spot) (chain : Chain H) (source : Dynamic H) (k : List (Frame H))
        (l : Local H) → left_by link.behind ≤ links chain.rest →
        size (part_form s form link at chain source k l) < 22 + (20 * links chain.rest + stack_size k)
    part_form_falls (AtMethod name args pos) link at chain source k l less = omega (
      arith,
      method_falls s (record { name = name; at = pos; first_at = first_position args; was_handle = false })
          (take (length args) chain.args)
          (part_of source at) (PartMethod source at pos ∷ after_method link.behind link chain k)
          (focused_on (Some (part_of source at)) l),
      method_link_size link.behind link chain k,
      less,
    )
    part_form_falls (AtIndex index) link at chain source k l less = omega arith
    part_form_falls (AtProperty name pos) link at chain source k l less = omega arith

    part_core_falls : (link : Option Link) (at : Spot) (chain : Chain H) (source : Dynamic H) (k : List (Frame H)) (l : Local H) →
        Within link (links chain.rest) → size (chain_part s link at chain source k l) < 22 + (20 * links chain.rest + stack_size k)
    part_core_falls (Some link) at chain source k l less = part_form_falls link.form link at chain source k l less
    part_core_falls None at chain source k l less = omega arith

    descend_falls : (is_place : Bool) (at : Spot) (link : Link) (rest : ExprLayer) (index : Dynamic H) (chain : Chain H)
        (source : Dynamic H) (k : List (Frame H)) (l : Local H) →
        size (descend s is_place at link rest index chain source k l) < 22 + (20 * links rest + stack_size k)
    descend_falls true at link rest index chain source k l = omega arith
    descend_falls false spot.Missing link rest index chain source k l = omega arith
    descend_falls false at link rest index chain source k l =
        part_core_falls (link_of rest) at (behind_link link rest false chain) source k l (within rest)

    spot_falls : (behind : Option ExprLayer) (new : Option (NewValue H)) (link : Link) (index : Dynamic H) (chain : Chain H)
        (source : Dynamic H) (k : List (Frame H)) (l : Local H) →
        size (spot_core s behind new link index chain source k l) < 17 + 20 * left_by behind + stack_size k
    spot_falls (Some rest) new link index chain source k l = on_below (spot_of s false link l.around.cells source index) _ k l
        (17 + 20 * (1 + links rest) + stack_size k) (omega arith)
        (λ spot. omega (arith, descend_falls (is_place_spot spot.1) spot.1 link rest index chain spot.0 k l))
    spot_falls None None link index chain source k l = on_below (spot_of s false link l.around.cells source index) _ k l
        (17 + stack_size k) (omega arith) (λ spot. omega arith)
    spot_falls None (Some new) link index chain source k l =
        on_below (unless_barred chain.root source index (spot_of s true link l.around.cells source index)) _ k l
        (17 + stack_size k) (omega arith)
        (λ spot. assign_spot_falls (is_place_spot spot.1) spot.1 link chain.root new spot.0 k l)

    indexed_falls : (indexed : Bool) (link : Link) (index : Dynamic H) (chain : Chain H) (source : Dynamic H) (k : List (Frame H))
        (l : Local H) → size (indexed_core s indexed link index chain source k l) < 17 + 20 * left_by link.behind + stack_size k
    indexed_falls true link index chain source k l = spot_falls link.behind chain.new link index chain source k l
    indexed_falls false link index chain source k l = member_falls link.behind chain.new link
        (record { member = Item index; at = link.at; guarded = chain.in_place }) chain k l

    -- a link is located after a charge, and weighs by what is behind it
    pub locate_falls : (link : Link) (chain : Chain H) (k : List (Frame H)) (l : Local H) →
        size (locate_core s link chain k l) < 20 + (20 * left_by link.behind + stack_size k)
    locate_falls link chain k l = on_below (through l.around.cells (focus_of l) link.at) _ k l
        (20 + (20 * left_by link.behind + stack_size k)) (omega arith)
        (λ inner. omega (
          arith,
          entered_falls (focus_of l).value inner
              (λ j m. indexed_core s (is_indexed (layer_of inner)) link (index_by link.form chain.args) chain inner j m)
              (17 + 20 * left_by link.behind) k l
              (λ j m. indexed_falls (is_indexed (layer_of inner)) link (index_by link.form chain.args) chain inner j m),
        ))

    -- ---- the walk

    property_falls : (of_map : Bool) (name : List ℕ) (at : Position) (link : Link) (inner : Dynamic H) (chain : Chain H)
        (k : List (Frame H)) (l : Local H) → left_by link.behind ≤ links chain.rest →
        Falls size (core (Walk chain) k l) (property_move s of_map name at link inner chain k l)
    property_falls true name at link inner chain k l less = tt
    property_falls false name at link inner chain k l less = omega (
      arith,
      entered_falls (focus_of l).value inner (member_core s link.behind chain.new link
          (record { member = Property name at; at = link.at; guarded = chain.in_place }) chain) (17 + 20 * left_by link.behind) k l
          (λ j m. member_falls link.behind chain.new link
          (record { member = Property name at; at = link.at; guarded = chain.in_place }) chain j m),
      less,
    )

    -- a method enters the focus, over what waits for its value
    method_of_falls : (name : List ℕ) (args : List Expr) (at : Position) (was_handle : Bool) (link : Link) (chain : Chain H)
        (k : List (Frame H)) (l : Local H) →
        size (method_of s name args at was_handle chain (after_method link.behind link chain k) l) < 14 + 20 * left_by
        link.behind + stack_size k
    method_of_falls name args at was_handle link chain k l = omega (
      arith,
      method_falls s (record { name = name; at = at; first_at = first_position args; was_handle = was_handle })
          (take (length args) chain.args) (focus_of l) (after_method link.behind link chain k) l,
      method_link_size link.behind link chain k,
    )

    form_falls : (form : LinkForm) (link : Link) (inner : Dynamic H) (chain : Chain H) (k : List (Frame H)) (l : Local H) →
        left_by link.behind ≤ links chain.rest → Falls size (core (Walk chain) k l) (form_move s form link inner chain k l)
    form_falls (AtIndex index) link inner chain k l less = tt
    form_falls (AtProperty name at) link inner chain k l less =
        property_falls (is_map (layer_of inner)) name at link inner chain k l less
    form_falls (AtMethod name args at) link inner chain k l less = there_falls (is_some link.behind || is_none chain.new)
        (core (Walk chain) k l) (method_entered s name args at link inner chain k l) (omega (
          arith,
          entered_falls (focus_of l).value inner
              (λ above below. method_of s name args at (is_handle (focus_of l).value) chain (after_method link.behind link
              chain above) below)
              (14 + 20 * left_by link.behind) k l
              (λ j m. method_of_falls name args at (is_handle (focus_of l).value) link chain j m),
          less,
        ))

    stop_falls : (stopped : Bool) (link : Link) (inner : Dynamic H) (chain : Chain H) (k : List (Frame H)) (l : Local H) →
        left_by link.behind ≤ links chain.rest → Falls size (core (Walk chain) k l) (stop_move s stopped link inner chain k l)
    stop_falls true link inner chain k l less = omega arith
    stop_falls false link inner chain k l less = form_falls link.form link inner chain k l less

    seen_falls : (link : Link) (r : Result (Dynamic H) (EvalAltResult H)) (chain : Chain H) (k : List (Frame H)) (l : Local H) →
        left_by link.behind ≤ links chain.rest → Falls size (core (Walk chain) k l) (seen_move s link r chain k l)
    seen_falls link (Ok inner) chain k l less = stop_falls (link.stops_at_unit && is_unit inner.value) link inner chain k l less
    seen_falls link (Err e) chain k l less = omega arith

    pub walk_falls : (link : Option Link) (chain : Chain H) (k : List (Frame H)) (l : Local H) → Within link (links chain.rest) →
        Falls size (core (Walk chain) k l) (walk_move s link chain k l)
    walk_falls (Some link) chain k l less = seen_falls link (through l.around.cells (focus_of l) link.at) chain k l less
    walk_falls None chain k l less = tt

    -- ---- what a link leaves behind

    pub part_assigned_falls : (whole : Option (Dynamic H)) (above : Dynamic H) (at : Spot) (op_at : Position) (k : List (Frame H))
        (l : Local H) → size (part_assigned s whole above at op_at k l) ≤ 11 + stack_size k
    part_assigned_falls (Some whole) above at op_at k l =
        omega (arith, measured_part_size (sized s.limits (focus_of l) op_at))
    part_assigned_falls None above at op_at k l = omega arith

    pub part_changed_falls : (whole : Option (Dynamic H)) (above : Dynamic H) (at : Spot) (pos : Position) (v : Dynamic H)
        (k : List (Frame H)) (l : Local H) → size (part_changed s whole above at pos v k l) ≤ 11 + stack_size k
    part_changed_falls (Some whole) above at pos v k l = omega arith
    part_changed_falls None above at pos v k l = omega arith

    -- a temporary that may have changed
    pub temporary_falls : (back : Option (MemberAccess H)) (temporary v : Dynamic H) (k : List (Frame H)) (l : Local H) →
        size (temporary_changed s back temporary v k l) < 10 + stack_size k
    temporary_falls None temporary v k l = omega arith
    temporary_falls (Some access) temporary v k l = omega (arith, set_falls access.member true access temporary (MemberSet v ∷ k) l)

    pub member_operated_falls : (member : Member H) (access : MemberAccess H) (v : Dynamic H) (op_at : Position) (k : List (Frame H))
        (l : Local H) → size (operated_core s member access v op_at k l) < 12 + stack_size k
    member_operated_falls (Property name at) access v op_at k l = omega (arith, set_falls access.member false access v k l)
    member_operated_falls (Item index) access v op_at k l = on_falls (sized s.limits v op_at) _ k l
        (λ x. omega (arith, set_falls access.member false access x (MemberSet unit_value ∷ k) l))

    pub got_none_falls : (lacks : Bool) (member : Member H) (e : EvalAltResult H) (access : MemberAccess H) (new : NewValue H)
        (k : List (Frame H)) (l : Local H) → size (got_none s lacks member e access new k l) ≤ 11 + stack_size k
    got_none_falls true (Item index) e access new k l =
        omega (arith, set_falls access.member false access new.value (MemberSet unit_value ∷ k) l)
    got_none_falls true (Property name at) e access new k l = omega arith
    got_none_falls false member e access new k l = omega arith
