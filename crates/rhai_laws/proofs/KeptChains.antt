-- What the rules of chains keep: the focus is none of the surroundings, and the cell whose value it is is held till the step is left.
use Rattle.std.proofs.Common.{refl, ap}
use Rattle.std.specs.Prelude.{◌≡◌, ℕ, Bool, true, false, ◌&&◌, ◌||◌, List, [], ◌∷◌, length, take, Option, Some, None, Result, Ok, Err}
use Rattle.std.specs.Prelude.{is_some, is_none}
use Rattle.rhai_tree.specs.declared.position.Position.{Position}
use Rattle.rhai_tree.specs.declared.token.Token.{Token}
use Rattle.rhai_tree.specs.declared.expr.Expr.{Expr, out-Expr}
use Rattle.rhai_tree.specs.declared.expr.Expr.TheOpen as layer
use Rattle.rhai_tree.specs.Layers.{ExprLayer}
use Rattle.rhai_tree.specs.Positions.{position_of, start_of}
use Rattle.rhai_values.specs.declared.base.value.Dynamic.{Dynamic}
use Rattle.rhai_values.specs.declared.base.value.Union.{Union}
use Rattle.rhai_values.specs.declared.base.value.Union.TheVariants as value
use Rattle.rhai_values.specs.Cells.{value_of_cell}
use Rattle.rhai_values.specs.Layers.{layer_of}
use Rattle.rhai_errors.specs.declared.error.EvalAltResult.{EvalAltResult}
use Rattle.rhai_errors.specs.Errors.{root_name}
use Rattle.rhai_spots.specs.declared.spot.Spot.{Spot}
use Rattle.rhai_spots.specs.declared.spot.Spot.TheVariants as spot
use Rattle.rhai_spots.specs.Parts.{part_of, value_at}
use Rattle.rhai_machine.specs.language.Setting.{Globals, Setting}
use Rattle.rhai_machine.specs.language.State.{Local}
use Rattle.rhai_machine.specs.language.Values.{is_handle, through_union, through as seen_through, unit_value, used}
use Rattle.rhai_machine.specs.language.Variables.{Variable, no_path}
use Rattle.rhai_machine.specs.language.Names.{Meaning, AtEntry, AsTemporary, bound_this, meant}
use Rattle.rhai_machine.specs.language.Places.{focus_target}
use Rattle.rhai_machine.specs.language.Links.{Link, LinkForm, AtIndex, AtProperty, AtMethod, asked_by, first_position, link_of}
use Rattle.rhai_machine.specs.language.Frames.{Lender, NewValue, Chain, Member, Property, Item, MemberAccess, ToChain, Frame, Core, core}
use Rattle.rhai_machine.specs.language.Frames.{on_value}
use Rattle.rhai_machine.specs.language.Frames.{OpenChain, ChainArguments, ChainRoot, ReadRoot, Walk, Locate}
use Rattle.rhai_machine.specs.language.Frames.{ChainEnd, PartMethod, PartAssigned, MemberLink, MemberGot}
use Rattle.rhai_machine.specs.language.Frames.{MemberSet}
use Rattle.rhai_machine.specs.language.Calls.{place_of, sized}
use Rattle.rhai_machine.specs.language.Handles.{entered, entered_by}
use Rattle.rhai_machine.specs.language.Members.{focus_of, focused_on, got_by, set_core, set_by, unless_ignored, getter_missing}
use Rattle.rhai_machine.specs.language.Members.{setter_missing, indexer_missing}
use Rattle.rhai_machine.specs.language.Located.{index_by, is_indexed, is_map, is_place_spot, is_unit, spot_of}
use Rattle.rhai_machine.specs.language.Chains.{ready, opened_core, open_move, asked_move, root_move, meant_core, read_root_core}
use Rattle.rhai_machine.specs.language.Chains.{behind_link, after_method, kept_access, is_property, after_set, unless_barred}
use Rattle.rhai_machine.specs.language.Chains.{method_of, assign_member, member_core, assign_focus, measured_place, assign_spot, part_form}
use Rattle.rhai_machine.specs.language.Chains.{part_core, descend, spot_core, indexed_core, locate_core, property_move, form_move}
use Rattle.rhai_machine.specs.language.Chains.{stop_move, seen_move, walk_move}
use Rattle.rhai_machine.specs.language.Unwinding.{restored, measured_part, part_assigned, part_changed, operated_core, got_none}
use Rattle.rhai_machine.specs.language.Unwinding.{temporary_changed}
use Rattle.rhai_laws.specs.Steady.{Moves}
use Rattle.rhai_laws.proofs.Keeping.{Asked, unwound, Keeps, quiet, through, after, calm, ended_keeps, put_keeps, entered_cell}
use Rattle.rhai_laws.proofs.KeptAssignments.{there_keeps, stored_keeps, focus_stands}
use Rattle.rhai_laws.proofs.KeptCalls.{on_keeps, arguments_keep, lent_stands}
use Rattle.rhai_laws.proofs.KeptMethods.{method_keeps}

module _ {H : Type 0} where
  -- the cell of a handle that was looked through is free
  used_free : (name : List ℕ) (at : Position) (there : Option (Dynamic H)) (inner : Dynamic H) → used name at there ≡ Ok inner →
      is_some there ≡ true
  used_free name at (Some v) inner is = refl
  used_free name at None inner is = cc

  -- the focus, looked at through a handle
  abbrev Seen : Link → Dynamic H → Local H → Type 0
  Seen link inner l = seen_through l.around.cells (focus_of l) link.at ≡ Ok inner

module _ {H : Type 0} (a : Asked) where
  -- what a value leads to keeps it, where it is known what gave the value
  known_keeps : {A : Type 0} (r : Result A (EvalAltResult H)) (go : A → Core H) (k : List (Frame H)) (l : Local H) →
      ((x : A) → r ≡ Ok x → Keeps a (calm k l) (go x)) → Keeps a (calm k l) (on_value r go k l)
  known_keeps (Ok x) go k l h = h x refl
  known_keeps (Err e) go k l h = quiet a tt refl (λ t. t)

  -- ---- the arguments and the root

  opened_keeps : (behind : Option ExprLayer) (args : Option (List (Dynamic H))) (chain : Chain H) (k : List (Frame H)) (l : Local H) →
      Keeps a (calm k l) (opened_core behind args chain k l)
  opened_keeps None (Some args) chain k l = quiet a tt refl (λ t. t)
  opened_keeps _ _ chain k l = quiet a tt refl (λ t. t)

  pub open_keeps : (link : Option Link) (chain : Chain H) (k : List (Frame H)) (l : Local H) →
      Moves (Keeps a) (core (OpenChain chain) k l) (open_move link chain k l)
  open_keeps (Some link) chain k l = after a (calm k l) refl (λ t. t) (opened_keeps link.behind (ready link.form) chain k l)
  open_keeps None chain k l = tt

  pub root_keeps : (form : ExprLayer) (chain : Chain H) (k : List (Frame H)) (l : Local H) →
      Moves (Keeps a) (core (ChainRoot chain) k l) (root_move form chain k l)
  root_keeps (layer.Variable offset name namespace pos) chain k l = quiet a tt refl (λ t. t)
  root_keeps (layer.ThisPtr pos) chain k l = after a (calm k l) refl (λ t. t)
      (on_keeps a (bound_this pos l.this) _ k l (λ v. on_keeps a (seen_through l.around.cells v pos) _ k l (λ inner. quiet a tt
      refl (λ t. t))))
  root_keeps _ chain k l = there_keeps a (is_none chain.new) (core (ChainRoot chain) k l) _ (quiet a tt refl (λ t. t))

  meant_keeps : (meaning : Meaning H) (chain : Chain H) (k : List (Frame H)) (l : Local H) →
      Keeps a (calm k l) (meant_core meaning chain k l)
  meant_keeps (AtEntry index v) chain k l = quiet a tt refl (λ t. t)
  meant_keeps (AsTemporary v) chain k l = quiet a tt refl (λ t. t)

  pub read_root_keeps : (globals : Globals H) (variable : Variable) (chain : Chain H) (k : List (Frame H)) (l : Local H) →
      Keeps a (core (ReadRoot variable chain) k l) (read_root_core globals variable chain k l)
  read_root_keeps globals variable chain k l = after a (calm k l) refl (λ t. t)
      (on_keeps a (meant globals l.around l.scope variable) _ k l (λ meaning. meant_keeps meaning chain k l))

  -- the focus of a chain goes back to who lent its root
  pub chain_left : (lender : Option Lender) (outer : Option (Dynamic H)) (k : List (Frame H)) (l : Local H) →
      Keeps a (calm (ChainEnd lender outer ∷ k) l) (calm k (restored (ChainEnd lender outer) l))
  chain_left None outer k l = quiet a tt refl (λ t. t)
  chain_left (Some lender) outer k l = after a (calm k l) refl (λ t. t)
      (through a (put_keeps a (place_of lender) (focus_of l) k l (lent_stands lender l)) (quiet a tt refl (λ t. t)))

  -- ---- handles

  entered_by_keeps : (link : Link) (u : Union H) (inner : Dynamic H) (go : List (Frame H) → Local H → Core H) (k : List (Frame H))
      (l : Local H) → through_union l.around.cells u (focus_of l) link.at ≡ Ok inner →
      ((k : List (Frame H)) (l : Local H) → Keeps a (calm k l) (go k l)) → Keeps a (calm k l) (entered_by u inner go k l)
  entered_by_keeps link (value.Cell id) inner go k l is goes =
      let free = used_free [] link.at (value_of_cell l.around.cells id.number) inner is in
      after a _ (ap (unwound k) (entered_cell id.number inner l free)) (λ t. t) (goes _ _)
  entered_by_keeps link _ inner go k l is goes = goes k l

  entered_keeps : (link : Link) (inner : Dynamic H) (go : List (Frame H) → Local H → Core H) (k : List (Frame H)) (l : Local H) →
      Seen link inner l → ((k : List (Frame H)) (l : Local H) → Keeps a (calm k l) (go k l)) → Keeps a (calm k l) (entered inner go k l)
  entered_keeps link inner go k l is goes = entered_by_keeps link (focus_of l).value inner go k l is goes

  -- ---- members by natives

  got_keeps : (member : Member H) (access : MemberAccess H) (k : List (Frame H)) (l : Local H) →
      Keeps a (calm k l) (got_by member access k l)
  got_keeps (Property name pos) access k l = quiet a tt refl (λ t. t)
  got_keeps (Item index) access k l = quiet a tt refl (λ t. t)

  ignored_keeps : (ignores : Bool) (k : List (Frame H)) (l : Local H) → Keeps a (calm k l) (calm (unless_ignored ignores k) l)
  ignored_keeps true k l = quiet a tt refl (λ t. t)
  ignored_keeps false k l = quiet a tt refl (λ t. t)

  set_keeps : (member : Member H) (ignores : Bool) (access : MemberAccess H) (v : Dynamic H) (k : List (Frame H)) (l : Local H) →
      Keeps a (calm k l) (set_by member ignores access v k l)
  set_keeps (Property name pos) ignores access v k l = quiet a tt refl (λ t. t)
  set_keeps (Item index) ignores access v k l = through a (ignored_keeps ignores k l) (quiet a tt refl (λ t. t))

  -- a member is set, and a value comes back after that
  then_set_keeps : (ignores : Bool) (access : MemberAccess H) (v next : Dynamic H) (k : List (Frame H)) (l : Local H) →
      Keeps a (calm k l) (set_core ignores access v (MemberSet next ∷ k) l)
  then_set_keeps ignores access v next k l =
      after a (calm (MemberSet next ∷ k) l) refl (λ t. t) (set_keeps access.member ignores access v (MemberSet next ∷ k) l)

  after_set_keeps : (member : Member H) (k : List (Frame H)) (l : Local H) → Keeps a (calm k l) (calm (after_set member k) l)
  after_set_keeps (Property name pos) k l = quiet a tt refl (λ t. t)
  after_set_keeps (Item index) k l = quiet a tt refl (λ t. t)

  pub getter_missing_keeps : (lacks : Bool) (e : EvalAltResult H) (access : MemberAccess H) (name : List ℕ) (k : List (Frame H))
      (l : Local H) →
      Keeps a (calm k l) (getter_missing lacks e access name k l)
  getter_missing_keeps true e access name k l = quiet a tt refl (λ t. t)
  getter_missing_keeps false e access name k l = quiet a tt refl (λ t. t)

  pub setter_missing_keeps : (lacks : Bool) (e : EvalAltResult H) (access : MemberAccess H) (name : List ℕ) (v : Dynamic H)
      (ignores : Bool) (k : List (Frame H)) (l : Local H) →
      Keeps a (calm k l) (setter_missing lacks e access name v ignores k l)
  setter_missing_keeps true e access name v ignores k l = quiet a tt refl (λ t. t)
  setter_missing_keeps false e access name v ignores k l = quiet a tt refl (λ t. t)

  pub indexer_missing_keeps : (lacks : Bool) (e : EvalAltResult H) (otherwise : Result (Dynamic H) (EvalAltResult H))
      (k : List (Frame H)) (l : Local H) →
      Keeps a (calm k l) (indexer_missing lacks e otherwise k l)
  indexer_missing_keeps true e otherwise k l = ended_keeps a otherwise k l
  indexer_missing_keeps false e otherwise k l = quiet a tt refl (λ t. t)

  -- ---- parts

  measured_keeps : (r : Result (Dynamic H) (EvalAltResult H)) (k : List (Frame H)) (l : Local H) →
      Keeps a (calm k l) (core (measured_part r) k l)
  measured_keeps (Ok v) k l = quiet a tt refl (λ t. t)
  measured_keeps (Err e) k l = quiet a tt refl (λ t. t)

  module _ (s : Setting H) where
    pub asked_keeps : (link : Option Link) (chain : Chain H) (rest : ExprLayer) (made : List (Dynamic H)) (k : List (Frame H))
        (l : Local H) →
        Moves (Keeps a) (core (ChainArguments chain rest made) k l) (asked_move s link chain made k l)
    asked_keeps (Some link) chain rest made k l =
        after a (calm k l) refl (λ t. t) (arguments_keep a s (ToChain chain link.behind) made (asked_by link.form) k l)
    asked_keeps None chain rest made k l = tt

    -- where there is no indexer an item is set to the right side
    pub got_none_keeps : (lacks : Bool) (member : Member H) (e : EvalAltResult H) (access : MemberAccess H) (new : NewValue H)
        (k : List (Frame H)) (l : Local H) →
        Keeps a (calm k l) (got_none s lacks member e access new k l)
    got_none_keeps true (Item index) e access new k l = then_set_keeps false access new.value unit_value k l
    got_none_keeps _ member e access new k l = quiet a tt refl (λ t. t)

    -- a temporary that may have changed is set, where it has a way back
    pub temporary_keeps : (back : Option (MemberAccess H)) (temporary v : Dynamic H) (k : List (Frame H)) (l : Local H) →
        Keeps a (calm k l) (temporary_changed s back temporary v k l)
    temporary_keeps None temporary v k l = quiet a tt refl (λ t. t)
    temporary_keeps (Some access) temporary v k l = then_set_keeps true access temporary v k l

    -- a part goes back into the value above
    pub part_assigned_keeps : (whole : Option (Dynamic H)) (above : Dynamic H) (at : Spot) (op_at : Position) (k : List (Frame H))
        (l : Local H) →
        Keeps a (calm k l) (part_assigned s whole above at op_at k l)
    part_assigned_keeps (Some whole) above at op_at k l = after a (calm k (focused_on (Some whole) l)) refl (λ t. t)
        (measured_keeps (sized s.limits (focus_of l) op_at) k (focused_on (Some whole) l))
    part_assigned_keeps None above at op_at k l = quiet a tt refl (λ t. t)

    pub part_changed_keeps : (whole : Option (Dynamic H)) (above : Dynamic H) (at : Spot) (pos : Position) (v : Dynamic H)
        (k : List (Frame H)) (l : Local H) →
        Keeps a (calm k l) (part_changed s whole above at pos v k l)
    part_changed_keeps (Some whole) above at pos v k l = quiet a tt refl (λ t. t)
    part_changed_keeps None above at pos v k l = quiet a tt refl (λ t. t)

    -- a member that was operated on is set
    pub operated_on_keeps : (member : Member H) (access : MemberAccess H) (v : Dynamic H) (op_at : Position) (k : List (Frame H))
        (l : Local H) →
        Keeps a (calm k l) (operated_core s member access v op_at k l)
    operated_on_keeps (Property name pos) access v op_at k l = set_keeps access.member false access v k l
    operated_on_keeps (Item index) access v op_at k l =
        on_keeps a (sized s.limits v op_at) _ k l (λ x. then_set_keeps false access x unit_value k l)

    -- ---- what a link does

    -- a method of the focus, over what waits for its value
    method_of_keeps : (name : List ℕ) (args : List Expr) (pos : Position) (was_handle : Bool) (chain : Chain H) (k : List (Frame H))
        (l : Local H) → Keeps a (calm k l) (method_of s name args pos was_handle chain k l)
    method_of_keeps name args pos was_handle chain k l = method_keeps a s
        (record { name = name; at = pos; first_at = first_position args; was_handle = was_handle })
        (take (length args) chain.args) (focus_of l) k l

    after_method_keeps : (behind : Option ExprLayer) (link : Link) (chain : Chain H) (k : List (Frame H)) (l : Local H) →
        Keeps a (calm k l) (calm (after_method behind link chain k) l)
    after_method_keeps None link chain k l = quiet a tt refl (λ t. t)
    after_method_keeps (Some rest) link chain k l = quiet a tt refl (λ t. t)

    -- what is assigned to is in the focus, and stands
    pub assign_focus_keeps : (root : Expr) (new : NewValue H) (k : List (Frame H)) (l : Local H) →
        Keeps a (calm k l) (assign_focus s root new k l)
    assign_focus_keeps root new k l =
        stored_keeps a s (focus_target l.around.cells (root_name (out-Expr root)) (start_of root) (focus_of l))
        (record { path = no_path; name = root_name (out-Expr root); at = position_of root; op = new.op }) new.value k l
        (λ t is. focus_stands (root_name (out-Expr root)) (start_of root) (focus_of l) t l is)

    assign_member_keeps : (token : Option Token) (access : MemberAccess H) (root : Expr) (new : NewValue H) (k : List (Frame H))
        (l : Local H) →
        Keeps a (calm k l) (assign_member s token access root new k l)
    assign_member_keeps None access root new k l = through a (after_set_keeps access.member k l)
        (set_keeps access.member false access new.value (after_set access.member k) l)
    assign_member_keeps (Some token) access root new k l = after a (calm (MemberGot access root new ∷ k) l) refl (λ t. t)
        (got_keeps access.member access (MemberGot access root new ∷ k) l)

    member_keeps : (behind : Option ExprLayer) (new : Option (NewValue H)) (link : Link) (access : MemberAccess H) (chain : Chain H)
        (k : List (Frame H)) (l : Local H) →
        Keeps a (calm k l) (member_core s behind new link access chain k l)
    member_keeps (Some rest) new link access chain k l =
        after a (calm (MemberLink (kept_access access) (behind_link link rest (is_property access.member) chain) ∷ k) l) refl (λ t. t)
        (got_keeps access.member access _ l)
    member_keeps None None link access chain k l = got_keeps access.member access k l
    member_keeps None (Some new) link access chain k l = assign_member_keeps new.op.op access chain.root new k l

    -- a place or a part is assigned to
    measured_place_keeps : (form : LinkForm) (source : Dynamic H) (at : Spot) (op_at : Position) (k : List (Frame H)) (l : Local H) →
        Keeps a (calm k l) (calm (measured_place s form source at op_at k) l)
    measured_place_keeps (AtProperty name pos) source at op_at k l = quiet a tt refl (λ t. t)
    measured_place_keeps (AtIndex index) source at op_at k l = quiet a tt refl (λ t. t)
    measured_place_keeps (AtMethod name args pos) source at op_at k l = quiet a tt refl (λ t. t)

    assign_spot_keeps : (is_place : Bool) (at : Spot) (link : Link) (root : Expr) (new : NewValue H) (source : Dynamic H)
        (k : List (Frame H)) (l : Local H) →
        Keeps a (calm k l) (assign_spot s is_place at link root new source k l)
    assign_spot_keeps true at link root new source k l =
        through a (measured_place_keeps link.form source at new.op.position k l)
        (after a (calm (measured_place s link.form source at new.op.position k) (focused_on (value_at source at) l)) refl (λ t. t)
        (assign_focus_keeps root new _ (focused_on (value_at source at) l)))
    assign_spot_keeps false at link root new source k l =
        after a (calm (PartAssigned source at new.op.position ∷ k) (focused_on (Some (part_of source at)) l)) refl (λ t. t)
        (assign_focus_keeps root new _ (focused_on (Some (part_of source at)) l))

    -- the chain goes on in a part
    part_form_keeps : (form : LinkForm) (link : Link) (at : Spot) (chain : Chain H) (source : Dynamic H) (k : List (Frame H))
        (l : Local H) →
        Keeps a (calm k l) (part_form s form link at chain source k l)
    part_form_keeps (AtMethod name args pos) link at chain source k l =
        through a (after_method_keeps link.behind link chain k l)
        (after a (calm (PartMethod source at pos ∷ after_method link.behind link chain k) (focused_on (Some (part_of source at)) l))
        refl (λ t. t)
        (method_of_keeps name args pos false chain _ (focused_on (Some (part_of source at)) l)))
    part_form_keeps _ link at chain source k l = quiet a tt refl (λ t. t)

    part_keeps : (link : Option Link) (at : Spot) (chain : Chain H) (source : Dynamic H) (k : List (Frame H)) (l : Local H) →
        Keeps a (calm k l) (part_core s link at chain source k l)
    part_keeps (Some link) at chain source k l = part_form_keeps link.form link at chain source k l
    part_keeps None at chain source k l = quiet a tt refl (λ t. t)

    -- the chain goes on below
    descend_keeps : (is_place : Bool) (at : Spot) (link : Link) (rest : ExprLayer) (index : Dynamic H) (chain : Chain H)
        (source : Dynamic H) (k : List (Frame H)) (l : Local H) →
        Keeps a (calm k l) (descend s is_place at link rest index chain source k l)
    descend_keeps true at link rest index chain source k l = quiet a tt refl (λ t. t)
    descend_keeps false spot.Missing link rest index chain source k l = quiet a tt refl (λ t. t)
    descend_keeps false at link rest index chain source k l =
        part_keeps (link_of rest) at (behind_link link rest false chain) source k l

    spot_keeps : (behind : Option ExprLayer) (new : Option (NewValue H)) (link : Link) (index : Dynamic H) (chain : Chain H)
        (source : Dynamic H) (k : List (Frame H)) (l : Local H) →
        Keeps a (calm k l) (spot_core s behind new link index chain source k l)
    spot_keeps (Some rest) new link index chain source k l = on_keeps a (spot_of s false link l.around.cells source index) _ k l
        (λ spot. descend_keeps (is_place_spot spot.1) spot.1 link rest index chain spot.0 k l)
    spot_keeps None None link index chain source k l = on_keeps a (spot_of s false link l.around.cells source index) _ k l
        (λ spot. quiet a tt refl (λ t. t))
    spot_keeps None (Some new) link index chain source k l =
        on_keeps a (unless_barred chain.root source index (spot_of s true link l.around.cells source index)) _ k l
        (λ spot. assign_spot_keeps (is_place_spot spot.1) spot.1 link chain.root new spot.0 k l)

    -- ---- the walk

    indexed_keeps : (indexed : Bool) (link : Link) (index : Dynamic H) (chain : Chain H) (source : Dynamic H) (k : List (Frame H))
        (l : Local H) →
        Keeps a (calm k l) (indexed_core s indexed link index chain source k l)
    indexed_keeps true link index chain source k l = spot_keeps link.behind chain.new link index chain source k l
    indexed_keeps false link index chain source k l = member_keeps link.behind chain.new link _ chain k l

    pub locate_keeps : (link : Link) (chain : Chain H) (k : List (Frame H)) (l : Local H) →
        Keeps a (core (Locate link chain) k l) (locate_core s link chain k l)
    locate_keeps link chain k l = after a (calm k l) refl (λ t. t)
        (known_keeps (seen_through l.around.cells (focus_of l) link.at) _ k l
        (λ inner is. entered_keeps link inner _ k l is
        (λ k l. indexed_keeps (is_indexed (layer_of inner)) link (index_by link.form chain.args) chain inner k l)))

    property_keeps : (of_map : Bool) (name : List ℕ) (pos : Position) (link : Link) (inner : Dynamic H) (chain : Chain H)
        (k : List (Frame H)) (l : Local H) → Seen link inner l →
        Moves (Keeps a) (core (Walk chain) k l) (property_move s of_map name pos link inner chain k l)
    property_keeps true name pos link inner chain k l is = quiet a tt refl (λ t. t)
    property_keeps false name pos link inner chain k l is = after a (calm k l) refl (λ t. t)
        (entered_keeps link inner _ k l is (λ k l. member_keeps link.behind chain.new link _ chain k l))

    form_keeps : (form : LinkForm) (link : Link) (inner : Dynamic H) (chain : Chain H) (k : List (Frame H)) (l : Local H) →
        Seen link inner l →
        Moves (Keeps a) (core (Walk chain) k l) (form_move s form link inner chain k l)
    form_keeps (AtIndex index) link inner chain k l is = quiet a tt refl (λ t. t)
    form_keeps (AtProperty name pos) link inner chain k l is =
        property_keeps (is_map (layer_of inner)) name pos link inner chain k l is
    form_keeps (AtMethod name args pos) link inner chain k l is =
        there_keeps a (is_some link.behind || is_none chain.new) (core (Walk chain) k l) _
        (after a (calm k l) refl (λ t. t) (entered_keeps link inner _ k l is (λ above below.
        through a (after_method_keeps link.behind link chain above below)
        (method_of_keeps name args pos (is_handle (focus_of l).value) chain (after_method link.behind link chain above) below))))

    stop_keeps : (stopped : Bool) (link : Link) (inner : Dynamic H) (chain : Chain H) (k : List (Frame H)) (l : Local H) →
        Seen link inner l →
        Moves (Keeps a) (core (Walk chain) k l) (stop_move s stopped link inner chain k l)
    stop_keeps true link inner chain k l is = quiet a tt refl (λ t. t)
    stop_keeps false link inner chain k l is = form_keeps link.form link inner chain k l is

    seen_keeps : (link : Link) (r : Result (Dynamic H) (EvalAltResult H)) (chain : Chain H) (k : List (Frame H)) (l : Local H) →
        seen_through l.around.cells (focus_of l) link.at ≡ r →
        Moves (Keeps a) (core (Walk chain) k l) (seen_move s link r chain k l)
    seen_keeps link (Ok inner) chain k l is = stop_keeps (link.stops_at_unit && is_unit inner.value) link inner chain k l is
    seen_keeps link (Err e) chain k l is = quiet a tt refl (λ t. t)

    pub walk_keeps : (link : Option Link) (chain : Chain H) (k : List (Frame H)) (l : Local H) →
        Moves (Keeps a) (core (Walk chain) k l) (walk_move s link chain k l)
    walk_keeps (Some link) chain k l = seen_keeps link (seen_through l.around.cells (focus_of l) link.at) chain k l refl
    walk_keeps None chain k l = tt
