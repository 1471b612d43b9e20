-- The rules of chains: first the arguments of all links, then the root, and then the walk from link to link.
use Rattle.std.specs.Prelude.{ℕ, Bool, true, false, ◌&&◌, ◌||◌, List, [], ◌∷◌, length, take, Option, Some, None, option_map, is_some}
use Rattle.std.specs.Prelude.{is_none}
use Rattle.std.specs.Prelude.{Result, Ok, Err, if◌then◌else◌}
use Rattle.rhai_machine.specs.Types.{Dynamic, EvalAltResult, Expr, out-Expr, Position, Token}
use Rattle.rhai_tree.specs.declared.expr.Expr.TheOpen as layer
use Rattle.rhai_tree.specs.Layers.{ExprLayer}
use Rattle.rhai_tree.specs.Position.{none}
use Rattle.rhai_tree.specs.Positions.{position_of, start_of}
use Rattle.rhai_values.specs.declared.base.value.Union.TheVariants as value
use Rattle.rhai_values.specs.Copy.{copy_of}
use Rattle.rhai_values.specs.Layers.{layer_of}
use Rattle.rhai_errors.specs.declared.error.EvalAltResult.TheVariants as error
use Rattle.rhai_errors.specs.Errors.{root_name}
use Rattle.rhai_spots.specs.declared.spot.Spot.{Spot}
use Rattle.rhai_spots.specs.declared.spot.Spot.TheVariants as spot
use Rattle.rhai_spots.specs.Parts.{part_of, value_at}
use Rattle.rhai_spots.specs.Paths.{ToPlace}
use Rattle.rhai_machine.specs.machine.Machine.{Move, Halt, Go, Charge}
use Rattle.rhai_machine.specs.language.Setting.{Globals, Setting}
use Rattle.rhai_machine.specs.language.State.{Local}
use Rattle.rhai_machine.specs.language.Values.{unit_value, is_handle, through}
use Rattle.rhai_machine.specs.language.Names.{Meaning, AtEntry, AsTemporary, bound_this, meant}
use Rattle.rhai_machine.specs.language.Variables.{Variable, no_path, variable_named}
use Rattle.rhai_machine.specs.language.Places.{focus_target}
use Rattle.rhai_machine.specs.language.Links.{Link, LinkForm, AtIndex, AtProperty, AtMethod, asked_by, first_position, link_of}
use Rattle.rhai_machine.specs.language.Frames.{Lender, FromEntry, FromThis, NewValue, Chain, Member, Property, Item, MemberAccess, ToChain}
use Rattle.rhai_machine.specs.language.Frames.{Frame, Core, core, on_value, where_there}
use Rattle.rhai_machine.specs.language.Frames.{Eval, ChainArguments, ChainRoot, ReadRoot, Walk, Locate, Back, Fail, RootValue, ChainEnd}
use Rattle.rhai_machine.specs.language.Frames.{StepDown, Temporary, PartMethod, PartAssigned, Measured, MethodLink, MemberLink, MemberGot}
use Rattle.rhai_machine.specs.language.Frames.{MemberSet}
use Rattle.rhai_machine.specs.language.Arguments.{arguments_core}
use Rattle.rhai_machine.specs.language.Expressions.{literal_of}
use Rattle.rhai_machine.specs.language.Assignment.{assign_core}
use Rattle.rhai_machine.specs.language.Members.{focus_of, focused_on, get_core, set_core}
pub use Rattle.rhai_machine.specs.language.Handles.{entered, entered_by}
use Rattle.rhai_machine.specs.language.Methods.{method_core}
use Rattle.rhai_machine.specs.language.Located.{args_behind, bars_key, index_by, is_indexed, is_map, is_place_spot, is_unit}
use Rattle.rhai_machine.specs.language.Located.{spot_of, taken_at}

module _ {H : Type 0} where
  -- ---- the arguments

  -- the arguments of a link that needs no step: none of a property or of a method without any, and the value of a literal index
  abbrev pub ready : LinkForm → Option (List (Dynamic H))
  ready (AtIndex index) = option_map (λ v. v ∷ []) (literal_of (out-Expr index))
  ready (AtProperty name at) = Some []
  ready (AtMethod name [] at) = Some []
  ready (AtMethod name (arg ∷ args) at) = None

  -- a chain of one link that needs no step goes to its root at once, and any other to its arguments
  abbrev pub opened_core : (behind : Option ExprLayer) → Option (List (Dynamic H)) → Chain H → List (Frame H) → Local H → Core H
  opened_core None (Some args) chain k l = core (ChainRoot (record chain { args = args })) k l
  opened_core _ _ chain k l = core (ChainArguments chain chain.rest []) k l

  -- a chain is entered; what is no chain has no step
  abbrev pub open_move : Option Link → Chain H → List (Frame H) → Local H → Move H (Core H)
  open_move (Some link) chain k l = Go (opened_core link.behind (ready link.form) chain k l)
  open_move None chain k l = Halt

  -- the next link of those whose arguments are evaluated: what stands behind its operator is charged, and then come its arguments
  abbrev pub asked_move : Setting H → Option Link → Chain H → (made : List (Dynamic H)) → List (Frame H) → Local H → Move H (Core H)
  asked_move s (Some link) chain made k l =
      Charge link.rest_at (arguments_core s (ToChain chain link.behind) made (asked_by link.form) k l)
  asked_move s None chain made k l = Halt

  -- ---- the root

  -- the walk begins: the root's value is the focus, which at the end goes back to its lender, if it has one
  abbrev pub begun_core : (in_place : Bool) → (lender : Option Lender) → Dynamic H → Chain H → List (Frame H) → Local H → Core H
  begun_core in_place lender v chain k l =
      core (Walk (record chain { in_place = in_place })) (ChainEnd lender l.focus ∷ k) (focused_on (Some v) l)

  -- the walk begins on what a variable means: an entry's value is lent by the entry, and a temporary by nobody
  abbrev pub meant_core : Meaning H → Chain H → List (Frame H) → Local H → Core H
  meant_core (AtEntry index v) chain k l = begun_core true (Some (FromEntry index)) v chain k l
  meant_core (AsTemporary v) chain k l = begun_core false None v chain k l

  -- the walk begins on a variable, or it means nothing
  abbrev pub read_root_core : Globals H → Variable → Chain H → List (Frame H) → Local H → Core H
  read_root_core globals variable chain k l =
      on_value (meant globals l.around l.scope variable) (λ meaning. meant_core meaning chain k l) k l

  -- the walk begins on `this`; where that is the handle of a held cell it is a data race
  abbrev pub this_begun : (seen : Result (Dynamic H) (EvalAltResult H)) → Dynamic H → Chain H → List (Frame H) → Local H → Core H
  this_begun seen v chain k l = on_value seen (λ inner. begun_core true (Some FromThis) v chain k l) k l

  -- the walk begins on `this`, which has to be bound
  abbrev pub this_root_core : Position → Chain H → List (Frame H) → Local H → Core H
  this_root_core at chain k l =
      on_value (bound_this at l.this) (λ v. this_begun (through l.around.cells v at) v chain k l) k l

  -- the root of a chain: a variable or `this` is charged and then read, and any other is evaluated and can not be assigned to
  abbrev pub root_move : ExprLayer → Chain H → List (Frame H) → Local H → Move H (Core H)
  root_move (layer.Variable offset name namespace pos) chain k l =
      Charge pos (core (ReadRoot (variable_named name namespace pos) chain) k l)
  root_move (layer.ThisPtr pos) chain k l = Charge pos (this_root_core pos chain k l)
  root_move _ chain k l = where_there (is_none chain.new) (core (Eval chain.root) (RootValue chain ∷ k) l)

  -- ---- what is behind a link

  -- the chain behind a link, whose focus counts as a place or as a temporary
  abbrev pub behind_link : Link → (rest : ExprLayer) → (in_place : Bool) → Chain H → Chain H
  behind_link link rest in_place chain =
      record chain { rest = rest; args = args_behind link.form chain.args; in_place = in_place }

  -- what waits for a method's value: the chain behind it, if there is one
  abbrev pub after_method : (behind : Option ExprLayer) → Link → Chain H → List (Frame H) → List (Frame H)
  after_method None link chain k = k
  after_method (Some rest) link chain k = MethodLink (behind_link link rest false chain) ∷ k

  -- how the temporary of a missing key goes back: that of an index by the indexer, and that of a property not at all
  abbrev pub way_back : LinkForm → Link → (index : Dynamic H) → Chain H → Option (MemberAccess H)
  way_back (AtIndex expr) link index chain = Some (record { member = Item (copy_of index); at = link.at; guarded = chain.in_place })
  way_back _ link index chain = None

  -- a member as it is kept for its way back: an index as a copy
  abbrev pub kept_member : Member H → Member H
  kept_member (Item index) = Item (copy_of index)
  kept_member member = member

  -- how a member is got and set, as it is kept for its way back
  abbrev pub kept_access : MemberAccess H → MemberAccess H
  kept_access access = record access { member = kept_member access.member }

  -- whether a member is a property
  abbrev pub is_property : Member H → Bool
  is_property (Property name at) = true
  is_property (Item index) = false

  -- what waits for the answer of a set: a property's setter answers itself, and after an item `()` comes up as that of a change
  abbrev pub after_set : Member H → List (Frame H) → List (Frame H)
  after_set (Property name at) k = k
  after_set (Item index) k = MemberSet unit_value ∷ k

  -- a result, unless what is assigned to is a constant: that is refused under the root's name, where the root starts
  abbrev pub unless_barred_by : {A : Type 0} → (barred : Bool) → (root : Expr) → Result A (EvalAltResult H) → Result A (EvalAltResult H)
  unless_barred_by true root r = Err (error.ErrorAssignmentToConstant (root_name (out-Expr root)) (start_of root))
  unless_barred_by false root r = r

  -- a result, unless the focus is a constant map that would get a new key
  abbrev pub unless_barred : {A : Type 0} → (root : Expr) → (source index : Dynamic H) → Result A (EvalAltResult H) →
      Result A (EvalAltResult H)
  unless_barred root source index r = unless_barred_by (bars_key source index) root r

  module _ (s : Setting H) where
    -- ---- methods

    -- a method is called on the focus, with its arguments
    abbrev pub method_of : (name : List ℕ) → (args : List Expr) → Position → (was_handle : Bool) → Chain H → List (Frame H) → Local H →
        Core H
    method_of name args at was_handle chain k l = method_core s
        (record { name = name; at = at; first_at = first_position args; was_handle = was_handle })
        (take (length args) chain.args) (focus_of l) k l

    -- A method is called on the focus, which is entered as by every link. Its cell is held until the chain is left, so what waits for the
    -- method's value stands above the frame that frees it.
    abbrev pub method_entered : (name : List ℕ) → (args : List Expr) → Position → Link → (inner : Dynamic H) → Chain H → List (Frame H) →
        Local H → Core H
    method_entered name args at link inner chain k l = entered inner
        (λ above below. method_of name args at (is_handle (focus_of l).value) chain (after_method link.behind link chain above) below) k l

    -- ---- members by natives

    -- a member is assigned to: without an operator it is set, and with one it is got first
    abbrev pub assign_member : Option Token → MemberAccess H → (root : Expr) → NewValue H → List (Frame H) → Local H → Core H
    assign_member None access root new k l = set_core false access new.value (after_set access.member k) l
    assign_member (Some token) access root new k l = get_core access (MemberGot access root new ∷ k) l

    -- what a link does with a member: the chain goes on from its value, its value is read, or it is assigned to
    abbrev pub member_core : (behind : Option ExprLayer) → Option (NewValue H) → Link → MemberAccess H → Chain H → List (Frame H) →
        Local H → Core H
    member_core (Some rest) new link access chain k l =
        get_core access (MemberLink (kept_access access) (behind_link link rest (is_property access.member) chain) ∷ k) l
    member_core None None link access chain k l = get_core access k l
    member_core None (Some new) link access chain k l = assign_member new.op.op access chain.root new k l

    -- ---- places and parts

    -- the focus is assigned to, unless it is a constant or the handle of a held cell
    abbrev pub assign_focus : (root : Expr) → NewValue H → List (Frame H) → Local H → Core H
    assign_focus root new k l =
        on_value (focus_target l.around.cells (root_name (out-Expr root)) (start_of root) (focus_of l))
        (λ target. assign_core s new.op.op (record { path = no_path; name = root_name (out-Expr root); at = position_of root; op = new.op })
        target new.value k l)
        k l

    -- what waits for an assignment to a place: an item is measured before it goes back, and of a map's property the map after it
    abbrev pub measured_place : LinkForm → (source : Dynamic H) → Spot → (op_at : Position) → List (Frame H) → List (Frame H)
    measured_place (AtProperty name pos) source at op_at k = StepDown source (ToPlace at) ∷ Measured op_at ∷ k
    measured_place form source at op_at k = Measured op_at ∷ StepDown source (ToPlace at) ∷ k

    -- what stands at a spot is the focus and is assigned to: a place, or a part
    abbrev pub assign_spot : (is_place : Bool) → Spot → Link → (root : Expr) → NewValue H → (source : Dynamic H) → List (Frame H) →
        Local H → Core H
    assign_spot true at link root new source k l =
        assign_focus root new (measured_place link.form source at new.op.position k) (focused_on (value_at source at) l)
    assign_spot false at link root new source k l =
        assign_focus root new (PartAssigned source at new.op.position ∷ k) (focused_on (Some (part_of source at)) l)

    -- a part is the focus of a link, by its form: a method may change it, and for any other link it is a temporary
    abbrev pub part_form : LinkForm → Link → Spot → Chain H → (source : Dynamic H) → List (Frame H) → Local H → Core H
    part_form (AtMethod name args pos) link at chain source k l =
        method_of name args pos false chain (PartMethod source at pos ∷ after_method link.behind link chain k)
        (focused_on (Some (part_of source at)) l)
    part_form form link at chain source k l = core (Walk chain) (Temporary (Some source) None ∷ k) (focused_on (Some (part_of source at)) l)

    -- a part is the focus of the next link
    abbrev pub part_core : Option Link → Spot → Chain H → (source : Dynamic H) → List (Frame H) → Local H → Core H
    part_core (Some link) at chain source k l = part_form link.form link at chain source k l
    part_core None at chain source k l = core (Walk chain) (Temporary (Some source) None ∷ k) (focused_on (Some (part_of source at)) l)

    -- the chain goes on at a spot: at a place, at a temporary `()` for a missing key, or at a part
    abbrev pub descend : (is_place : Bool) → Spot → Link → (rest : ExprLayer) → (index : Dynamic H) → Chain H → (source : Dynamic H) →
        List (Frame H) → Local H → Core H
    descend true at link rest index chain source k l =
        core (Walk (behind_link link rest true chain)) (StepDown source (ToPlace at) ∷ k) (focused_on (value_at source at) l)
    descend false spot.Missing link rest index chain source k l =
        core (Walk (behind_link link rest false chain)) (Temporary (Some source) (way_back link.form link index chain) ∷ k)
        (focused_on (Some unit_value) l)
    descend false at link rest index chain source k l = part_core (link_of rest) at (behind_link link rest false chain) source k l

    -- What a link does with what its index or its key leads to: the chain goes on there, it is read, or it is assigned to, where a constant
    -- map gets no new key.
    abbrev pub spot_core : (behind : Option ExprLayer) → Option (NewValue H) → Link → (index : Dynamic H) → Chain H → (source : Dynamic H) →
        List (Frame H) → Local H → Core H
    spot_core (Some rest) new link index chain source k l = on_value (spot_of s false link l.around.cells source index)
        (λ spot. descend (is_place_spot spot.1) spot.1 link rest index chain spot.0 k l) k l
    spot_core None None link index chain source k l = on_value (spot_of s false link l.around.cells source index)
        (λ spot. core (Back (taken_at spot.0 spot.1)) k l) k l
    spot_core None (Some new) link index chain source k l = on_value (unless_barred chain.root source index
        (spot_of s true link l.around.cells source index))
        (λ spot. assign_spot (is_place_spot spot.1) spot.1 link chain.root new spot.0 k l) k l

    -- ---- the walk

    -- a link with an index or a key: a value of a kind that has items leads to a spot, and any other has members
    abbrev pub indexed_core : (indexed : Bool) → Link → (index : Dynamic H) → Chain H → (source : Dynamic H) → List (Frame H) → Local H →
        Core H
    indexed_core true link index chain source k l = spot_core link.behind chain.new link index chain source k l
    indexed_core false link index chain source k l =
        member_core link.behind chain.new link (record { member = Item index; at = link.at; guarded = chain.in_place }) chain k l

    -- a link with an index or a key, once it is charged: the focus is entered
    abbrev pub locate_core : Link → Chain H → List (Frame H) → Local H → Core H
    locate_core link chain k l = on_value (through l.around.cells (focus_of l) link.at)
        (λ inner. entered inner (λ k l. indexed_core (is_indexed (layer_of inner)) link (index_by link.form chain.args) chain inner k l) k
        l) k l

    -- a property: of a map it is an entry, which is charged, and of any other value a member
    abbrev pub property_move : (of_map : Bool) → (name : List ℕ) → Position → Link → (inner : Dynamic H) → Chain H → List (Frame H) →
        Local H → Move H (Core H)
    property_move true name at link inner chain k l = Charge none (core (Locate link chain) k l)
    property_move false name at link inner chain k l = Go (entered inner (member_core link.behind chain.new link
        (record { member = Property name at; at = link.at; guarded = chain.in_place }) chain) k l)

    -- a link by its form; where a chain is assigned to, it does not end in a method
    abbrev pub form_move : LinkForm → Link → (inner : Dynamic H) → Chain H → List (Frame H) → Local H → Move H (Core H)
    form_move (AtIndex index) link inner chain k l = Charge none (core (Locate link chain) k l)
    form_move (AtProperty name at) link inner chain k l = property_move (is_map (layer_of inner)) name at link inner chain k l
    form_move (AtMethod name args at) link inner chain k l = where_there (is_some link.behind || is_none chain.new)
        (method_entered name args at link inner chain k l)

    -- a link, unless it stops at `()`: the chain gives `()` then
    abbrev pub stop_move : (stopped : Bool) → Link → (inner : Dynamic H) → Chain H → List (Frame H) → Local H → Move H (Core H)
    stop_move true link inner chain k l = Go (core (Back unit_value) k l)
    stop_move false link inner chain k l = form_move link.form link inner chain k l

    -- a link on the focus as it was seen through a handle; an error comes down
    abbrev pub seen_move : Link → Result (Dynamic H) (EvalAltResult H) → Chain H → List (Frame H) → Local H → Move H (Core H)
    seen_move link (Ok inner) chain k l = stop_move (link.stops_at_unit && is_unit inner.value) link inner chain k l
    seen_move link (Err e) chain k l = Go (core (Fail e) k l)

    -- the next link works on the focus, which is seen through a handle; what is no chain has no step
    abbrev pub walk_move : Option Link → Chain H → List (Frame H) → Local H → Move H (Core H)
    walk_move (Some link) chain k l = seen_move link (through l.around.cells (focus_of l) link.at) chain k l
    walk_move None chain k l = Halt
