-- The rules of chains lead to cores that fit.
use Rattle.std.proofs.Common.{◌≡◌, ℕ, List, [], ◌∷◌, length, take, refl, subst}
use Rattle.std.specs.Prelude.{⊤, Bool, true, false, ◌&&◌, ◌||◌, Option, Some, None, Result, Ok, Err, option_map, is_some}
use Rattle.std.specs.Prelude.{is_none}
use Rattle.rhai_tree.specs.declared.expr.Expr.TheOpen as layer
use Rattle.rhai_tree.specs.Layers.{ExprLayer}
use Rattle.rhai_tree.specs.Positions.{start_of}
use Rattle.rhai_machine.specs.Types.{Dynamic, EvalAltResult, Expr, out-Expr, Position, Token}
use Rattle.rhai_values.specs.Cells.{IsNoHandle}
use Rattle.rhai_values.specs.Layers.{layer_of}
use Rattle.rhai_values.specs.ValueContents.{Reached}
use Rattle.rhai_errors.specs.Errors.{root_name}
use Rattle.rhai_spots.specs.declared.spot.Spot.{Spot}
use Rattle.rhai_spots.specs.declared.spot.Spot.TheVariants as spot
use Rattle.rhai_spots.specs.Parts.{part_of, value_at}
use Rattle.rhai_machine.specs.language.Setting.{Globals, Setting}
use Rattle.rhai_machine.specs.language.State.{Local}
use Rattle.rhai_machine.specs.language.Values.{unit_value, is_handle, through}
use Rattle.rhai_machine.specs.language.Variables.{Variable}
use Rattle.rhai_machine.specs.language.Names.{Meaning, AtEntry, AsTemporary, bound_this, meant}
use Rattle.rhai_machine.specs.language.Places.{focus_target}
use Rattle.rhai_machine.specs.language.Links.{Link, LinkForm, AtIndex, AtProperty, AtMethod, asked_by, first_position, link_of}
use Rattle.rhai_machine.specs.language.Frames.{Lender, FromEntry, FromThis, NewValue, Chain, Member, Property, Item, MemberAccess, ToChain}
use Rattle.rhai_machine.specs.language.Frames.{Frame, Core, ChainEnd}
use Rattle.rhai_machine.specs.language.Members.{focus_of, focused_on}
use Rattle.rhai_machine.specs.language.Located.{bars_key, index_by, is_indexed, is_map, is_place_spot, is_unit, spot_of, access_by}
use Rattle.rhai_machine.specs.language.Expressions.{literal_of}
use Rattle.rhai_machine.specs.language.Chains.{ready, opened_core, open_move, asked_move, begun_core, meant_core, read_root_core}
use Rattle.rhai_machine.specs.language.Chains.{this_begun, this_root_core, root_move, behind_link, after_method, way_back, kept_member}
use Rattle.rhai_machine.specs.language.Chains.{after_set, unless_barred_by, unless_barred, method_of, method_entered, assign_member}
use Rattle.rhai_machine.specs.language.Chains.{member_core, assign_focus, measured_place, assign_spot, part_form, part_core, descend}
use Rattle.rhai_machine.specs.language.Chains.{spot_core, indexed_core, locate_core, property_move, form_move, stop_move, seen_move}
use Rattle.rhai_machine.specs.language.Chains.{is_property, walk_move}
use Rattle.rhai_fits.specs.Contents.{of_values, of_maybe, of_new, of_chain, of_member, of_way_back, of_frame}
use Rattle.rhai_fits.specs.Sealed.{NewSealed, FrameSealed, this_after, GoesBack}
use Rattle.rhai_fits.proofs.Values.{Fit, fit_unit, fit_text}
use Rattle.rhai_fits.proofs.Copies.{fit_copy}
use Rattle.rhai_fits.proofs.Literals.{FitsMaybe, fit_literal_of}
use Rattle.rhai_fits.proofs.Errors.{fit_error}
use Rattle.rhai_fits.proofs.Fitting.{AllFit, FitBelow, FitCore, FitOffer, Gives, Flat, to, back, fail, unit, push, on, goes_back}
use Rattle.rhai_fits.proofs.Fitting.{values_taken, values_dropped, with_focus, focus_of_fits}
use Rattle.rhai_fits.proofs.Seeing.{FitTarget, through_gives, focus_gives}
use Rattle.rhai_fits.proofs.Names.{FitGlobals, FitMeaning, meant_gives}
use Rattle.rhai_fits.proofs.Spots.{value_at_fits, part_fits, FlatSource, found_gives, taken_fits}
use Rattle.rhai_fits.proofs.Natives.{Moves}
use Rattle.rhai_fits.proofs.Calls.{entered_good}
use Rattle.rhai_fits.proofs.Arguments.{arguments_good}
use Rattle.rhai_fits.proofs.Methods.{method_good, get_good, set_good}
use Rattle.rhai_fits.proofs.Assignments.{there_good, assign_good}

module _ {H : Type 0} (own : H → List Reached) (P : Reached → Type 0) (least : ℕ) where
  abbrev Good : Core H → Type 0
  Good c = FitCore own P least c

  abbrev Below : List (Frame H) → Local H → Type 0
  Below k l = FitBelow own P least k l

  abbrev All : List (Dynamic H) → Type 0
  All vs = AllFit own P least (of_values vs)

  abbrev New : Option (NewValue H) → Type 0
  New new = AllFit own P least (of_new new) × NewSealed new

  -- a chain fits, and what it assigns is no handle
  pub record FitChain (chain : Chain H) : Type 0 where
    pub new : AllFit own P least (of_new chain.new)
    pub args : All chain.args
    pub sealed : NewSealed chain.new

  pub a_chain : (chain : Chain H) → AllFit own P least (of_chain chain) → NewSealed chain.new → FitChain chain
  a_chain chain h s = record { new = h.0; args = h.1; sealed = s }

  -- a frame more, and another focus
  over : (frame : Frame H) (focus : Option (Dynamic H)) (k : List (Frame H)) (l : Local H) → AllFit own P least (of_frame frame) →
      FrameSealed frame → AllFit own P least (of_maybe focus) → GoesBack (frame ∷ k) focus l.this → Below k l →
      Below (frame ∷ k) (focused_on focus l)
  over frame focus k l h s f g b = record {
    stack = (h, b.stack);
    sealed = (s, b.sealed);
    back = g;
    local = with_focus own P least l focus b.local f;
  }

  -- a value above that is no handle may be the focus again
  source_back : (source : Dynamic H) (k : List (Frame H)) (l : Local H) → IsNoHandle source.value → Below k l →
      GoesBack k (Some source) l.this
  source_back source k l s b = goes_back k l.focus (Some source) l.this l.this (λ h. s) (λ h. h) b.back

  -- ---- the root

  begun_good : (in_place : Bool) (lender : Option Lender) (v : Dynamic H) (chain : Chain H) (k : List (Frame H)) (l : Local H) →
      Fit own P v → FitChain chain → GoesBack k l.focus (this_after lender (Some v) l.this) → Below k l →
      Good (begun_core in_place lender v chain k l)
  begun_good in_place lender v chain k l f h g b =
      to own P least _ _ _ (h.new, h.args) h.sealed (over (ChainEnd lender l.focus) (Some v) k l b.local.focus tt f g b)

  -- on a temporary nothing goes back
  pub begun_alone : (v : Dynamic H) (chain : Chain H) (k : List (Frame H)) (l : Local H) → Fit own P v → FitChain chain → Below k l →
      Good (begun_core false None v chain k l)
  begun_alone v chain k l f h b = begun_good false None v chain k l f h b.back b

  meant_good : (meaning : Meaning H) (chain : Chain H) (k : List (Frame H)) (l : Local H) → FitMeaning own P least meaning →
      FitChain chain → Below k l → Good (meant_core meaning chain k l)
  meant_good (AtEntry index v) chain k l f h b = begun_good true (Some (FromEntry index)) v chain k l f h b.back b
  meant_good (AsTemporary v) chain k l f h b = begun_alone v chain k l f h b

  pub read_root_good : (globals : Globals H) (variable : Variable) (chain : Chain H) (k : List (Frame H)) (l : Local H) →
      FitGlobals own P least globals → FitChain chain → Below k l → Good (read_root_core globals variable chain k l)
  read_root_good globals variable chain k l g h b = on own P least (FitMeaning own P least) (meant globals l.around l.scope variable) _ k l
      (meant_gives own P least globals g variable l b.local) b (λ meaning f. meant_good meaning chain k l f h b)

  -- `this` is that value
  abbrev IsThis : Option (Dynamic H) → Dynamic H → Type 0
  IsThis this v = Fit own P v × (this ≡ Some v)

  bound_is : (at : Position) (this : Option (Dynamic H)) → AllFit own P least (of_maybe this) →
      Gives own P least (IsThis this) (bound_this at this)
  bound_is at (Some v) h = (h, refl)
  bound_is at None h = fit_error own P _ tt

  this_begun_good : (seen : Result (Dynamic H) (EvalAltResult H)) (v : Dynamic H) (chain : Chain H) (k : List (Frame H)) (l : Local H) →
      Gives own P least (Flat own P least) seen → IsThis l.this v → FitChain chain → Below k l → Good (this_begun seen v chain k l)
  this_begun_good seen v chain k l g t h b = on own P least (Flat own P least) seen _ k l g b
      (λ inner f. begun_good true (Some FromThis) v chain k l t.0 h (subst (GoesBack k l.focus) t.1 b.back) b)

  this_root_good : (at : Position) (chain : Chain H) (k : List (Frame H)) (l : Local H) → FitChain chain → Below k l →
      Good (this_root_core at chain k l)
  this_root_good at chain k l h b = on own P least (IsThis l.this) (bound_this at l.this) _ k l (bound_is at l.this b.local.this) b
      (λ v t. this_begun_good (through l.around.cells v at) v chain k l (through_gives own P least l v at b.local t.0) t h b)

  pub root_good : (form : ExprLayer) (chain : Chain H) (k : List (Frame H)) (l : Local H) → FitChain chain → Below k l →
      Moves own P least (root_move form chain k l)
  root_good (layer.Variable offset name namespace pos) chain k l h b = to own P least _ k l (h.new, h.args) h.sealed b
  root_good (layer.ThisPtr pos) chain k l h b = this_root_good pos chain k l h b
  root_good _ chain k l h b = there_good own P least (is_none chain.new) _
      (to own P least _ _ l tt tt (push own P least _ k l (h.new, h.args) h.sealed b.back b))

  -- ---- the arguments

  abbrev Ready : Option (List (Dynamic H)) → Type 0
  Ready None = ⊤
  Ready (Some args) = All args

  literal_ready : (literal : Option (Dynamic H)) → FitsMaybe own P literal → Ready (option_map (λ v. v ∷ []) literal)
  literal_ready None h = tt
  literal_ready (Some v) h = (h, tt)

  ready_fits : (form : LinkForm) → Ready (ready form)
  ready_fits (AtIndex index) = literal_ready (literal_of (out-Expr index)) (fit_literal_of own P (out-Expr index))
  ready_fits (AtProperty name at) = tt
  ready_fits (AtMethod name [] at) = tt
  ready_fits (AtMethod name (arg ∷ args) at) = tt

  opened_good : (behind : Option ExprLayer) (args : Option (List (Dynamic H))) (chain : Chain H) (k : List (Frame H)) (l : Local H) →
      Ready args → FitChain chain → Below k l → Good (opened_core behind args chain k l)
  opened_good None (Some args) chain k l a h b = to own P least _ k l (h.new, a) h.sealed b
  opened_good None None chain k l a h b = to own P least _ k l ((h.new, h.args), tt) h.sealed b
  opened_good (Some rest) args chain k l a h b = to own P least _ k l ((h.new, h.args), tt) h.sealed b

  pub open_good : (link : Option Link) (chain : Chain H) (k : List (Frame H)) (l : Local H) → FitChain chain → Below k l →
      Moves own P least (open_move link chain k l)
  open_good (Some link) chain k l h b = opened_good link.behind (ready link.form) chain k l (ready_fits link.form) h b
  open_good None chain k l h b = tt

  pub asked_good : (s : Setting H) (link : Option Link) (chain : Chain H) (made : List (Dynamic H)) (k : List (Frame H)) (l : Local H) →
      FitOffer own P least s.offer → FitChain chain → All made → Below k l → Moves own P least (asked_move s link chain made k l)
  asked_good s (Some link) chain made k l o h m b =
      arguments_good own P least s o (ToChain chain link.behind) made (asked_by link.form) k l (h.new, h.args) h.sealed m b
  asked_good s None chain made k l o h m b = tt

  -- ---- what is behind a link

  behind_fits : (link : Link) (rest : ExprLayer) (in_place : Bool) (chain : Chain H) → FitChain chain →
      FitChain (behind_link link rest in_place chain)
  behind_fits link rest in_place chain h = record {
    new = h.new;
    args = values_dropped own P least (length (asked_by link.form)) chain.args h.args;
    sealed = h.sealed;
  }

  after_below : (behind : Option ExprLayer) (link : Link) (chain : Chain H) (k : List (Frame H)) (l : Local H) → FitChain chain →
      Below k l → Below (after_method behind link chain k) l
  after_below None link chain k l h b = b
  after_below (Some rest) link chain k l h b =
      let g = behind_fits link rest false chain h in
      push own P least _ k l (g.new, g.args) g.sealed b.back b

  kept_fits : (member : Member H) → AllFit own P least (of_member member) → AllFit own P least (of_member (kept_member member))
  kept_fits (Property name at) h = tt
  kept_fits (Item index) h = fit_copy own P index h

  set_below : (member : Member H) (k : List (Frame H)) (l : Local H) → Below k l → Below (after_set member k) l
  set_below (Property name at) k l b = b
  set_below (Item index) k l b = push own P least _ k l (fit_unit own P) tt b.back b

  -- the argument of an index, or the name of a property
  index_fits : (form : LinkForm) (args : List (Dynamic H)) → All args → Fit own P (index_by form args)
  index_fits (AtProperty name at) args h = fit_text own P name
  index_fits (AtIndex index) [] h = fit_unit own P
  index_fits (AtIndex index) (v ∷ args) h = h.0
  index_fits (AtMethod name args at) [] h = fit_unit own P
  index_fits (AtMethod name args at) (v ∷ vs) h = h.0

  way_fits : (form : LinkForm) (link : Link) (index : Dynamic H) (chain : Chain H) → Fit own P index →
      AllFit own P least (of_way_back (way_back form link index chain))
  way_fits (AtIndex expr) link index chain f = fit_copy own P index f
  way_fits (AtProperty name at) link index chain f = tt
  way_fits (AtMethod name args at) link index chain f = tt

  barred_by_gives : (barred : Bool) (root : Expr) (r : Result (Dynamic H × Spot) (EvalAltResult H)) →
      Gives own P least (FlatSource own P least) r → Gives own P least (FlatSource own P least) (unless_barred_by barred root r)
  barred_by_gives true root r h = fit_error own P _ tt
  barred_by_gives false root r h = h

  module _ (s : Setting H) (o : FitOffer own P least s.offer) where
    -- ---- methods

    method_of_good : (name : List ℕ) (args : List Expr) (at : Position) (was_handle : Bool) (chain : Chain H) (k : List (Frame H))
        (l : Local H) → FitChain chain → Below k l → Good (method_of s name args at was_handle chain k l)
    method_of_good name args at was_handle chain k l h b = method_good own P least s o
        (record { name = name; at = at; first_at = first_position args; was_handle = was_handle })
        (take (length args) chain.args) (focus_of l) k l (values_taken own P least (length args) chain.args h.args) (focus_of_fits own P
        least l b.local) b

    method_entered_good : (name : List ℕ) (args : List Expr) (at : Position) (link : Link) (inner : Dynamic H) (chain : Chain H)
        (k : List (Frame H)) (l : Local H) → Flat own P least inner → FitChain chain → Below k l →
        Good (method_entered s name args at link inner chain k l)
    method_entered_good name args at link inner chain k l f h b = entered_good own P least inner _ k l b f
        (λ above below g. method_of_good name args at (is_handle (focus_of l).value) chain (after_method link.behind link chain above)
        below h
        (after_below link.behind link chain above below h g))

    -- ---- members

    assign_member_good : (token : Option Token) (access : MemberAccess H) (root : Expr) (new : NewValue H) (k : List (Frame H))
        (l : Local H) → AllFit own P least (of_member access.member) → Flat own P least new.value → Below k l →
        Good (assign_member s token access root new k l)
    assign_member_good None access root new k l a f b =
        set_good own P least false access new.value (after_set access.member k) l a f.0 (set_below access.member k l b)
    assign_member_good (Some token) access root new k l a f b =
        get_good own P least access _ l a (push own P least _ k l (a, f.0) f.1 b.back b)

    member_good : (behind : Option ExprLayer) (new : Option (NewValue H)) (link : Link) (access : MemberAccess H) (chain : Chain H)
        (k : List (Frame H)) (l : Local H) → AllFit own P least (of_new new) → NewSealed new →
        AllFit own P least (of_member access.member) →
        FitChain chain → Below k l → Good (member_core s behind new link access chain k l)
    member_good (Some rest) new link access chain k l n e a h b =
        let g = behind_fits link rest (is_property access.member) chain h in
        get_good own P least access _ l a
        (push own P least _ k l (kept_fits access.member a, (g.new, g.args)) g.sealed b.back b)
    member_good None None link access chain k l n e a h b = get_good own P least access k l a b
    member_good None (Some new) link access chain k l n e a h b =
        assign_member_good new.op.op access chain.root new k l a (n, e) b

    -- ---- places and parts

    pub assign_focus_good : (root : Expr) (new : NewValue H) (k : List (Frame H)) (l : Local H) → Flat own P least new.value → Below k l →
        Good (assign_focus s root new k l)
    assign_focus_good root new k l f b = on own P least (FitTarget own P least)
        (focus_target l.around.cells (root_name (out-Expr root)) (start_of root) (focus_of l)) _ k l
        (focus_gives own P least l (root_name (out-Expr root)) (start_of root) (focus_of l) b.local (focus_of_fits own P least l b.local)) b
        (λ target t. assign_good own P least s new.op.op _ target new.value k l t f b)

    measured_below : (form : LinkForm) (source : Dynamic H) (at : Spot) (op_at : Position) (focus : Option (Dynamic H))
        (k : List (Frame H)) (l : Local H) → Flat own P least source → AllFit own P least (of_maybe focus) → Below k l →
        Below (measured_place s form source at op_at k) (focused_on focus l)
    measured_below (AtIndex index) source at op_at focus k l f g b =
        push own P least _ _ _ tt tt (source_back source k l f.1 b) (over _ focus k l f.0 tt g (source_back source k l f.1 b) b)
    measured_below (AtProperty name pos) source at op_at focus k l f g b =
        over _ focus _ l f.0 tt g (source_back source k l f.1 b) (push own P least _ k l tt tt b.back b)
    measured_below (AtMethod name args pos) source at op_at focus k l f g b =
        push own P least _ _ _ tt tt (source_back source k l f.1 b) (over _ focus k l f.0 tt g (source_back source k l f.1 b) b)

    assign_spot_good : (is_place : Bool) (at : Spot) (link : Link) (root : Expr) (new : NewValue H) (source : Dynamic H)
        (k : List (Frame H)) (l : Local H) → Flat own P least source → Flat own P least new.value → Below k l →
        Good (assign_spot s is_place at link root new source k l)
    assign_spot_good true at link root new source k l f n b = assign_focus_good root new _ _ n
        (measured_below link.form source at new.op.position (value_at source at) k l f (value_at_fits own P least source at f.0) b)
    assign_spot_good false at link root new source k l f n b = assign_focus_good root new _ _ n
        (over _ (Some (part_of source at)) k l f.0 tt (part_fits own P least source at) (source_back source k l f.1 b) b)

    part_over : (at : Spot) (frame : Frame H) (source : Dynamic H) (k : List (Frame H)) (l : Local H) →
        AllFit own P least (of_frame frame) → FrameSealed frame → GoesBack (frame ∷ k) (Some (part_of source at)) l.this → Below k l →
        Below (frame ∷ k) (focused_on (Some (part_of source at)) l)
    part_over at frame source k l h e g b = over frame (Some (part_of source at)) k l h e (part_fits own P least source at) g b

    part_form_good : (form : LinkForm) (link : Link) (at : Spot) (chain : Chain H) (source : Dynamic H) (k : List (Frame H)) (l : Local H) →
        Flat own P least source → FitChain chain → Below k l → Good (part_form s form link at chain source k l)
    part_form_good (AtMethod name args pos) link at chain source k l f h b =
        let below = after_below link.behind link chain k l h b in
        method_of_good name args pos false chain _ _ h
        (part_over at _ source _ l f.0 tt (source_back source (after_method link.behind link chain k) l f.1 below) below)
    part_form_good (AtIndex index) link at chain source k l f h b = to own P least _ _ _ (h.new, h.args) h.sealed
        (part_over at _ source k l (f.0, tt) tt (source_back source k l f.1 b) b)
    part_form_good (AtProperty name pos) link at chain source k l f h b = to own P least _ _ _ (h.new, h.args) h.sealed
        (part_over at _ source k l (f.0, tt) tt (source_back source k l f.1 b) b)

    part_good : (link : Option Link) (at : Spot) (chain : Chain H) (source : Dynamic H) (k : List (Frame H)) (l : Local H) →
        Flat own P least source → FitChain chain → Below k l → Good (part_core s link at chain source k l)
    part_good (Some link) at chain source k l f h b = part_form_good link.form link at chain source k l f h b
    part_good None at chain source k l f h b = to own P least _ _ _ (h.new, h.args) h.sealed
        (part_over at _ source k l (f.0, tt) tt (source_back source k l f.1 b) b)

    descend_good : (is_place : Bool) (at : Spot) (link : Link) (rest : ExprLayer) (index : Dynamic H) (chain : Chain H)
        (source : Dynamic H) (k : List (Frame H)) (l : Local H) → Flat own P least source → Fit own P index → FitChain chain → Below k l →
        Good (descend s is_place at link rest index chain source k l)
    descend_good true at link rest index chain source k l f i h b =
        let g = behind_fits link rest true chain h in
        to own P least _ _ _ (g.new, g.args) g.sealed
        (over _ (value_at source at) k l f.0 tt (value_at_fits own P least source at f.0) (source_back source k l f.1 b) b)
    descend_good false spot.Missing link rest index chain source k l f i h b =
        let g = behind_fits link rest false chain h in
        to own P least _ _ _ (g.new, g.args) g.sealed
        (over _ (Some unit_value) k l (f.0, way_fits link.form link index chain i) tt (fit_unit own P) (source_back source k l f.1 b) b)
    descend_good false at link rest index chain source k l f i h b =
        part_good (link_of rest) at (behind_link link rest false chain) source k l f (behind_fits link rest false chain h) b

    spot_of_gives : (adds : Bool) (link : Link) (l : Local H) (source index : Dynamic H) → Flat own P least source →
        Gives own P least (FlatSource own P least) (spot_of s adds link l.around.cells source index)
    spot_of_gives adds link l source index f =
        found_gives own P least (access_by s adds link) s.host_type l.around.cells source index f

    spot_good : (behind : Option ExprLayer) (new : Option (NewValue H)) (link : Link) (index : Dynamic H) (chain : Chain H)
        (source : Dynamic H) (k : List (Frame H)) (l : Local H) → AllFit own P least (of_new new) → NewSealed new →
        Flat own P least source → Fit own P index → FitChain chain → Below k l → Good (spot_core s behind new link index chain source k l)
    spot_good (Some rest) new link index chain source k l n e f i h b = on own P least (FlatSource own P least)
        (spot_of s false link l.around.cells source index) _ k l (spot_of_gives false link l source index f) b
        (λ found g. descend_good (is_place_spot found.1) found.1 link rest index chain found.0 k l g i h b)
    spot_good None None link index chain source k l n e f i h b = on own P least (FlatSource own P least)
        (spot_of s false link l.around.cells source index) _ k l (spot_of_gives false link l source index f) b
        (λ found g. back own P least _ k l (taken_fits own P least found.0 found.1 g.0) b)
    spot_good None (Some new) link index chain source k l n e f i h b = on own P least (FlatSource own P least)
        (unless_barred chain.root source index (spot_of s true link l.around.cells source index)) _ k l
        (barred_by_gives (bars_key source index) chain.root (spot_of s true link l.around.cells source index)
        (spot_of_gives true link l source index f)) b
        (λ found g. assign_spot_good (is_place_spot found.1) found.1 link chain.root new found.0 k l g (n, e) b)

    -- ---- the walk

    indexed_good : (indexed : Bool) (link : Link) (index : Dynamic H) (chain : Chain H) (source : Dynamic H) (k : List (Frame H))
        (l : Local H) → Flat own P least source → Fit own P index → FitChain chain → Below k l →
        Good (indexed_core s indexed link index chain source k l)
    indexed_good true link index chain source k l f i h b =
        spot_good link.behind chain.new link index chain source k l h.new h.sealed f i h b
    indexed_good false link index chain source k l f i h b = member_good link.behind chain.new link _ chain k l h.new h.sealed i h b

    pub locate_good : (link : Link) (chain : Chain H) (k : List (Frame H)) (l : Local H) → FitChain chain → Below k l →
        Good (locate_core s link chain k l)
    locate_good link chain k l h b = on own P least (Flat own P least) (through l.around.cells (focus_of l) link.at) _ k l
        (through_gives own P least l (focus_of l) link.at b.local (focus_of_fits own P least l b.local)) b
        (λ inner f. entered_good own P least inner _ k l b f (λ above below g.
        indexed_good (is_indexed (layer_of inner)) link (index_by link.form chain.args) chain inner above below f
        (index_fits link.form chain.args h.args) h g))

    property_good : (of_map : Bool) (name : List ℕ) (at : Position) (link : Link) (inner : Dynamic H) (chain : Chain H)
        (k : List (Frame H)) (l : Local H) → Flat own P least inner → FitChain chain → Below k l →
        Moves own P least (property_move s of_map name at link inner chain k l)
    property_good true name at link inner chain k l f h b = to own P least _ k l (h.new, h.args) h.sealed b
    property_good false name at link inner chain k l f h b = entered_good own P least inner _ k l b f
        (λ above below g. member_good link.behind chain.new link
        (record { member = Property name at; at = link.at; guarded = chain.in_place }) chain above below h.new h.sealed tt h g)

    form_good : (form : LinkForm) (link : Link) (inner : Dynamic H) (chain : Chain H) (k : List (Frame H)) (l : Local H) →
        Flat own P least inner → FitChain chain → Below k l → Moves own P least (form_move s form link inner chain k l)
    form_good (AtIndex index) link inner chain k l f h b = to own P least _ k l (h.new, h.args) h.sealed b
    form_good (AtProperty name at) link inner chain k l f h b =
        property_good (is_map (layer_of inner)) name at link inner chain k l f h b
    form_good (AtMethod name args at) link inner chain k l f h b = there_good own P least (is_some link.behind || is_none chain.new) _
        (method_entered_good name args at link inner chain k l f h b)

    stop_good : (stopped : Bool) (link : Link) (inner : Dynamic H) (chain : Chain H) (k : List (Frame H)) (l : Local H) →
        Flat own P least inner → FitChain chain → Below k l → Moves own P least (stop_move s stopped link inner chain k l)
    stop_good true link inner chain k l f h b = unit own P least k l b
    stop_good false link inner chain k l f h b = form_good link.form link inner chain k l f h b

    seen_good : (link : Link) (r : Result (Dynamic H) (EvalAltResult H)) (chain : Chain H) (k : List (Frame H)) (l : Local H) →
        Gives own P least (Flat own P least) r → FitChain chain → Below k l → Moves own P least (seen_move s link r chain k l)
    seen_good link (Ok inner) chain k l f h b = stop_good (link.stops_at_unit && is_unit inner.value) link inner chain k l f h b
    seen_good link (Err e) chain k l f h b = fail own P least e k l f b

    pub walk_good : (link : Option Link) (chain : Chain H) (k : List (Frame H)) (l : Local H) → FitChain chain → Below k l →
        Moves own P least (walk_move s link chain k l)
    walk_good (Some link) chain k l h b = seen_good link (through l.around.cells (focus_of l) link.at) chain k l
        (through_gives own P least l (focus_of l) link.at b.local (focus_of_fits own P least l b.local)) h b
    walk_good None chain k l h b = tt
