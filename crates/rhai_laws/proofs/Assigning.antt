-- A chain that assigns without an operator goes down its path, writes the value there and goes up again; or it fails.
use Rattle.std.proofs.Common.{◌≡◌, ◌⊎◌, inl, inr, ℕ, ◌+◌, Bool, true, false, ◌&&◌, List, [], ◌∷◌, Option, Some, None, Result, Ok, Err}
use Rattle.std.proofs.Common.{refl, sym, ap, subst, ◌∙◌}
use Rattle.rhai_tree.specs.Layers.{ExprLayer}
use Rattle.rhai_tree.specs.Position.{none}
use Rattle.rhai_tree.specs.Positions.{position_of, start_of}
use Rattle.rhai_values.specs.declared.base.value.AccessMode.TheVariants.{ReadWrite}
use Rattle.rhai_values.specs.declared.base.value.Union.{Union}
use Rattle.rhai_values.specs.declared.base.value.Union.TheVariants as value
use Rattle.rhai_values.specs.declared.base.value.FnPtrKind.TheOpen as layer
use Rattle.rhai_values.specs.Cells.{IsNoHandle}
use Rattle.rhai_values.specs.Layers.{UnionLayer, layer_of}
use Rattle.rhai_values.specs.Modes.{with_mode}
use Rattle.rhai_errors.specs.declared.error.EvalAltResult.TheVariants as error
use Rattle.rhai_errors.specs.Errors.{root_name}
use Rattle.rhai_spots.specs.declared.spot.Spot.{Spot}
use Rattle.rhai_spots.specs.Parts.{value_at, with_value}
use Rattle.rhai_spots.specs.Paths.{ToPlace}
use Rattle.rhai_machine.specs.Types.{Dynamic, EvalAltResult, Expr, out-Expr, Position}
use Rattle.rhai_machine.specs.machine.Machine.{Move, Go, Charge}
use Rattle.rhai_machine.specs.machine.Point.{Point, Reaches, here, next, ◌⨾◌, moved, after, paid}
use Rattle.rhai_machine.specs.language.Setting.{Rules}
use Rattle.rhai_machine.specs.language.State.{Local, State}
use Rattle.rhai_machine.specs.language.Variables.{no_path}
use Rattle.rhai_machine.specs.language.Values.{Cells, is_handle, through_union, unit_value}
use Rattle.rhai_machine.specs.language.Places.{InFocus, focus_at, is_constant, target, unless_constant}
use Rattle.rhai_machine.specs.language.Links.{Link, LinkForm, AtIndex, AtProperty, AtMethod, link_of}
use Rattle.rhai_machine.specs.language.Located.{access_by, bars_key, index_by, is_indexed, is_place_spot, spot_of}
use Rattle.rhai_machine.specs.language.Frames.{NewValue, Chain, Control, Frame, Core, core, on_value, Walk, Locate, Back, Changed, Fail}
use Rattle.rhai_machine.specs.language.Frames.{Assignment, StepDown, Measured}
use Rattle.rhai_machine.specs.language.Members.{focus_of, focused_on}
use Rattle.rhai_machine.specs.language.Calls.{sized}
use Rattle.rhai_machine.specs.language.Assignment.{assign_core}
use Rattle.rhai_machine.specs.language.Chains.{assign_focus, assign_spot, behind_link, descend, entered, entered_by, form_move}
use Rattle.rhai_machine.specs.language.Chains.{indexed_core}
use Rattle.rhai_machine.specs.language.Chains.{locate_core, measured_place, property_move, seen_move, spot_core, stop_move}
use Rattle.rhai_machine.specs.language.Chains.{unless_barred_by}
use Rattle.rhai_machine.specs.language.Chains.{walk_move}
use Rattle.rhai_machine.specs.language.Unwinding.{as_measured}
use Rattle.rhai_machine.specs.language.Language.{machine, move}
use Rattle.rhai_machine.specs.language.Runs.{at, with_core}
use Rattle.rhai_laws.specs.Assigned.{IsIndexing, LeadsDown, last, further, Means, meant}
use Rattle.rhai_laws.specs.Selectors.{Selector, selected}
use Rattle.rhai_laws.proofs.SelectorLemmas.{Leads, Opens, Writes, finds, further_writes, last_writes, leads, means_no_handle}
use Rattle.rhai_laws.proofs.SelectorLemmas.{means_no_unit, opens, property_in_map}

and_false : (a b : Bool) → b ≡ false → (a && b) ≡ false
and_false true b is = is
and_false false b is = refl

module _ {H : Type 0} where
  pub through_itself : (cells : Cells H) (u : Union H) (v : Dynamic H) (pos : Position) → is_handle u ≡ false →
      through_union cells u v pos ≡ Ok v
  through_itself cells (value.Cell id) v pos is = cc
  through_itself cells _ v pos is = refl

  not_entered : (u : Union H) (v : Dynamic H) (go : List (Frame H) → Local H → Core H) (k : List (Frame H)) (l : Local H) →
      is_handle u ≡ false → entered_by u v go k l ≡ go k l
  not_entered (value.Cell id) v go k l is = cc
  not_entered _ v go k l is = refl

  no_cell : (cells : Cells H) (name : List ℕ) (pos : Position) (u : Union H) (v : Dynamic H) → IsNoHandle u →
      focus_at cells name pos u v ≡ unless_constant (is_constant v.mode) name pos (target InFocus v)
  no_cell cells name pos (value.Cell id) v is = absurd is
  no_cell cells name pos _ v is = refl

  means_indexed : (kind ix : UnionLayer H) (s : Selector) → meant kind ix ≡ Some s → is_indexed kind ≡ true
  means_indexed (layer.Array items) ix s is = refl
  means_indexed (layer.Map entries) ix s is = refl
  means_indexed kind ix s is = cc

module _ {S H : Type 0} (rules : Rules S H) (allows : ℕ → Bool) where
  -- ---- steps

  abbrev Comes : Point S (Core H) → Point S (Core H) → Type 0
  Comes p q = Reaches (machine rules) allows p q

  -- a step whose move is known
  pub step_by : (p q : Point S (Core H)) (m : Move H (Core H)) → move rules.setting p.core ≡ m →
      Comes (moved (machine rules) allows m p) q → Comes p q
  unfolding after
  step_by p q m is steps = next (subst (λ (m : Move H (Core H)). Comes (moved (machine rules) allows m p) q) (sym is) steps)

  -- a state where this is worked on, after so many charges
  abbrev pub working : Dynamic H → ℕ → State S H → State S H
  working v n s = record s { count = n; local = focused_on (Some v) s.local }

  -- it comes to an error
  pub record Fails (p : Point S (Core H)) (k : List (Frame H)) : Type 0 where
    pub error : EvalAltResult H
    pub state : State S H
    pub steps : Comes p (at (Fail error) k state)

  -- or to an assignment's end, where the focus has the value at the end of the path
  pub record Assigns (p : Point S (Core H)) (k : List (Frame H)) (s : State S H) (path : List Selector) (w v : Dynamic H) : Type 0 where
    pub whole : Dynamic H
    pub count : ℕ
    pub writes : Writes path w v whole
    pub steps : Comes p (at (Changed unit_value) k (working whole count s))

  abbrev pub Ends : Point S (Core H) → List (Frame H) → State S H → List Selector → (w v : Dynamic H) → Type 0
  Ends p k s path w v = Fails p k ⊎ Assigns p k s path w v

  before_failing : (p q : Point S (Core H)) (k : List (Frame H)) → Comes p q → Fails q k → Fails p k
  before_failing p q k steps fails = record { error = fails.error; state = fails.state; steps = steps ⨾ fails.steps }

  before : (p q : Point S (Core H)) (k : List (Frame H)) (s : State S H) (path : List Selector) (w v : Dynamic H) → Comes p q →
      Ends q k s path w v → Ends p k s path w v
  before p q k s path w v steps (inl fails) = inl (before_failing p q k steps fails)
  before p q k s path w v steps (inr done) =
      inr (record { whole = done.whole; count = done.count; writes = done.writes; steps = steps ⨾ done.steps })

  -- ---- a charge

  charge : (c d : Control H) (pos : Position) (k : List (Frame H)) (s : State S H) →
      move rules.setting (core c k s.local) ≡ Charge pos (core d k s.local) → (b : Bool) → allows s.count ≡ b →
      Comes (at c k s) (paid (machine rules) b pos (core d k s.local) (at c k s))
  charge c d pos k s is b says = step_by _ _ (Charge pos (core d k s.local)) is
      (subst (λ (b : Bool). Comes (paid (machine rules) (allows s.count) pos (core d k s.local) (at c k s))
      (paid (machine rules) b pos (core d k s.local) (at c k s))) says here)

  charged : (c d : Control H) (pos : Position) (k : List (Frame H)) (s t : State S H) (path : List Selector) (w v : Dynamic H) →
      move rules.setting (core c k s.local) ≡ Charge pos (core d k s.local) →
      ((n : ℕ) → Ends (at d k (record s { count = n })) k t path w v) → (b : Bool) → allows s.count ≡ b → Ends (at c k s) k t path w v
  charged c d pos k s t path w v is rest true says =
      before (at c k s) (at d k (record s { count = s.count + 1 })) k t path w v (charge c d pos k s is true says) (rest (s.count + 1))
  charged c d pos k s t path w v is rest false says =
      inl (record { error = error.ErrorTooManyOperations pos; state = s; steps = charge c d pos k s is false says })

  -- ---- the way up

  -- an error leaves the frames of a place
  place_left : (form : LinkForm) (e : EvalAltResult H) (source : Dynamic H) (spot : Spot) (op_at : Position) (k : List (Frame H))
      (s : State S H) → Fails (at (Fail e) (measured_place rules.setting form source spot op_at k) s) k
  place_left (AtProperty name pos) e source spot op_at k s =
      let up : State S H = working (with_value source spot (focus_of s.local)) s.count s in
      record {
        error = e;
        state = up;
        steps = step_by _ _ (Go (core (Fail e) (Measured op_at ∷ k) up.local)) refl
            (step_by (at (Fail e) (Measured op_at ∷ k) up) _ (Go (core (Fail e) k up.local)) refl here);
      }
  place_left form e source spot op_at k s =
      let up : State S H = working (with_value source spot (focus_of s.local)) s.count s in
      record {
        error = e;
        state = up;
        steps = step_by _ _ (Go (core (Fail e) (StepDown source (ToPlace spot) ∷ k) s.local)) refl
            (step_by (at (Fail e) (StepDown source (ToPlace spot) ∷ k) s) _ (Go (core (Fail e) k up.local)) refl here);
      }

  -- an error goes up from a place
  fails_up : (source : Dynamic H) (spot : Spot) (p : Point S (Core H)) (k : List (Frame H)) →
      Fails p (StepDown source (ToPlace spot) ∷ k) → Fails p k
  fails_up source spot p k fails =
      let up : State S H = working (with_value source spot (focus_of fails.state.local)) fails.state.count fails.state in
      record {
        error = fails.error;
        state = up;
        steps = fails.steps ⨾ step_by (at (Fail fails.error) (StepDown source (ToPlace spot) ∷ k) fails.state) _
            (Go (core (Fail fails.error) k up.local)) refl here;
      }

  -- and a value that comes back as `Changed` does, with what stands at the place
  changed_up : (source w : Dynamic H) (spot : Spot) (n : ℕ) (k : List (Frame H)) (s : State S H) →
      Comes (at (Changed unit_value) (StepDown source (ToPlace spot) ∷ k) (working w n s))
      (at (Changed unit_value) k (working (with_value source spot w) n s))
  changed_up source w spot n k s =
      step_by _ _ (Go (core (Changed unit_value) k (working (with_value source spot w) n s).local)) refl here

  -- what was assigned to is measured
  measured : (v : Dynamic H) (n : ℕ) (op_at : Position) (k : List (Frame H)) (s : State S H) (r : Result (Dynamic H) (EvalAltResult H)) →
      sized rules.setting.limits (as_measured s.local.around.cells v) op_at ≡ r →
      Comes (at (Back unit_value) (Measured op_at ∷ k) (working v n s))
      (with_core (on_value r (λ x. core (Changed unit_value) k (working v n s).local) k (working v n s).local) (working v n s))
  measured v n op_at k s r is = step_by _ _
      (Go (on_value r (λ x. core (Changed unit_value) k (working v n s).local) k (working v n s).local))
      (ap (λ (r : Result (Dynamic H) (EvalAltResult H)).
      Go (on_value r (λ x. core (Changed unit_value) k (working v n s).local) k (working v n s).local)) is) here

  -- an assignment that was done goes up from the place, unless what it gives is too large
  abbrev GoesUp : Point S (Core H) → (source w : Dynamic H) (spot : Spot) (n : ℕ) (k : List (Frame H)) (s : State S H) → Type 0
  GoesUp p source w spot n k s = Fails p k ⊎ Comes p (at (Changed unit_value) k (working (with_value source spot w) n s))

  property_up : (source w : Dynamic H) (spot : Spot) (op_at : Position) (n : ℕ) (k : List (Frame H)) (s : State S H)
      (r : Result (Dynamic H) (EvalAltResult H)) →
      sized rules.setting.limits (as_measured s.local.around.cells (with_value source spot w)) op_at ≡ r →
      GoesUp (at (Back unit_value) (StepDown source (ToPlace spot) ∷ Measured op_at ∷ k) (working w n s)) source w spot n k s
  property_up source w spot op_at n k s (Ok x) is =
      let up : State S H = working (with_value source spot w) n s in
      inr (step_by _ _ (Go (core (Back unit_value) (Measured op_at ∷ k) up.local)) refl
      (measured (with_value source spot w) n op_at k s (Ok x) is))
  property_up source w spot op_at n k s (Err e) is =
      let up : State S H = working (with_value source spot w) n s in
      inl (record {
        error = e;
        state = up;
        steps = step_by _ _ (Go (core (Back unit_value) (Measured op_at ∷ k) up.local)) refl
            (measured (with_value source spot w) n op_at k s (Err e) is);
      })

  item_up : (source w : Dynamic H) (spot : Spot) (op_at : Position) (n : ℕ) (k : List (Frame H)) (s : State S H)
      (r : Result (Dynamic H) (EvalAltResult H)) → sized rules.setting.limits (as_measured s.local.around.cells w) op_at ≡ r →
      GoesUp (at (Back unit_value) (Measured op_at ∷ StepDown source (ToPlace spot) ∷ k) (working w n s)) source w spot n k s
  item_up source w spot op_at n k s (Ok x) is =
      inr (measured w n op_at (StepDown source (ToPlace spot) ∷ k) s (Ok x) is ⨾ changed_up source w spot n k s)
  item_up source w spot op_at n k s (Err e) is =
      let behind : List (Frame H) = StepDown source (ToPlace spot) ∷ k in
      inl (fails_up source spot (at (Back unit_value) (Measured op_at ∷ behind) (working w n s)) k
      (record { error = e; state = working w n s; steps = measured w n op_at behind s (Err e) is }))

  goes_up : (form : LinkForm) (source w : Dynamic H) (spot : Spot) (op_at : Position) (n : ℕ) (k : List (Frame H)) (s : State S H) →
      GoesUp (at (Back unit_value) (measured_place rules.setting form source spot op_at k) (working w n s)) source w spot n k s
  goes_up (AtProperty name pos) source w spot op_at n k s = property_up source w spot op_at n k s _ refl
  goes_up form source w spot op_at n k s = item_up source w spot op_at n k s _ refl

  -- ---- a link

  module _ (link : Link) (chain : Chain H) (v : Dynamic H) (s : Selector) (means : Means link chain.args v s) (k : List (Frame H))
      (state : State S H) where
    abbrev there : Local H
    there = focused_on (Some v) state.local

    abbrev index : Dynamic H
    index = index_by link.form chain.args

    no_handle : is_handle v.value ≡ false
    no_handle = means_no_handle v.value (layer_of index) s means.step

    form_is : (form : LinkForm) → IsIndexing form → meant (layer_of v) (layer_of (index_by form chain.args)) ≡ Some s →
        form_move rules.setting form link v chain k there ≡ Charge none (core (Locate link chain) k there)
    form_is (AtIndex expr) is step = refl
    form_is (AtProperty name pos) is step = ap (λ (b : Bool). property_move rules.setting b name pos link v chain k there)
        (property_in_map (layer_of v) name s step)
    form_is (AtMethod name args pos) is step = absurd is

    -- the link is charged, and then the walk finds where it leads
    walk_is : link_of chain.rest ≡ Some link →
        walk_move rules.setting (link_of chain.rest) chain k there ≡ Charge none (core (Locate link chain) k there)
    walk_is first = ap (λ (o : Option Link). walk_move rules.setting o chain k there) first
        ∙ ap (λ (r : Result (Dynamic H) (EvalAltResult H)). seen_move rules.setting link r chain k there)
        (through_itself state.local.around.cells v.value v link.at no_handle)
        ∙ ap (λ (b : Bool). stop_move rules.setting b link v chain k there)
        (and_false link.stops_at_unit _ (means_no_unit v.value (layer_of index) s means.step))
        ∙ form_is link.form means.form means.step

    locate_is : locate_core rules.setting link chain k there ≡ spot_core rules.setting link.behind chain.new link index chain v k there
    locate_is = ap (λ (r : Result (Dynamic H) (EvalAltResult H)). on_value r (λ inner. entered inner
        (λ k l. indexed_core rules.setting (is_indexed (layer_of inner)) link index chain inner k l) k there) k there)
        (through_itself state.local.around.cells v.value v link.at no_handle)
        ∙ not_entered v.value v (λ k l. indexed_core rules.setting (is_indexed (layer_of v)) link index chain v k l) k there no_handle
        ∙ ap (λ (b : Bool). indexed_core rules.setting b link index chain v k there)
        (means_indexed (layer_of v) (layer_of index) s means.step)

    -- where more links come the walk goes down
    down_is : (behind : ExprLayer) (u : Dynamic H) (spot : Spot) → link.behind ≡ Some behind →
        spot_of rules.setting false link state.local.around.cells v index ≡ Ok (v, spot) → is_place_spot spot ≡ true →
        value_at v spot ≡ Some u →
        locate_core rules.setting link chain k there
        ≡ core (Walk (behind_link link behind true chain)) (StepDown v (ToPlace spot) ∷ k) (focused_on (Some u) state.local)
    down_is behind u spot follows finds place holds = locate_is
        ∙ ap (λ (o : Option ExprLayer). spot_core rules.setting o chain.new link index chain v k there) follows
        ∙ ap (λ (r : Result (Dynamic H × Spot) (EvalAltResult H)). on_value r
        (λ found. descend rules.setting (is_place_spot found.1) found.1 link behind index chain found.0 k there) k there) finds
        ∙ ap (λ (b : Bool). descend rules.setting b spot link behind index chain v k there) place
        ∙ ap (λ (o : Option (Dynamic H)). core (Walk (behind_link link behind true chain)) (StepDown v (ToPlace spot) ∷ k)
        (focused_on o state.local)) holds

    -- ---- the last link

    module _ (new : NewValue H) (assigns : chain.new ≡ Some new) (plain : new.op.op ≡ None) (ends : link.behind ≡ None)
        (opens : Opens (access_by rules.setting true link) rules.setting.host_type state.local.around.cells v index s) where
      abbrev name : List ℕ
      name = root_name (out-Expr chain.root)

      abbrev frames : List (Frame H)
      frames = measured_place rules.setting link.form opens.source opens.at new.op.position k

      abbrev w : Dynamic H
      w = with_mode ReadWrite new.value

      -- what is known of the place is found there
      abbrev assigned_at : (barred : Bool) → Core H
      assigned_at barred = on_value {A = Dynamic H × Spot} (unless_barred_by barred chain.root (Ok (opens.source, opens.at)))
          (λ found. assign_spot rules.setting (is_place_spot found.1) found.1 link chain.root new found.0 k there) k there

      last_is : locate_core rules.setting link chain k there ≡ assigned_at (bars_key v index)
      last_is = locate_is
          ∙ ap (λ (o : Option ExprLayer). spot_core rules.setting o chain.new link index chain v k there) ends
          ∙ ap (λ (o : Option (NewValue H)). spot_core rules.setting None o link index chain v k there) assigns
          ∙ ap (λ (r : Result (Dynamic H × Spot) (EvalAltResult H)). on_value (unless_barred_by (bars_key v index) chain.root r)
          (λ found. assign_spot rules.setting (is_place_spot found.1) found.1 link chain.root new found.0 k there) k there) opens.finds

      abbrev assignment : Assignment
      assignment = record { path = no_path; name = name; at = position_of chain.root; op = new.op }

      -- and it is written there, unless it is a constant
      abbrev stored : (constant : Bool) → Core H
      stored constant = on_value (unless_constant constant name (start_of chain.root) (target InFocus opens.old))
          (λ target. assign_core rules.setting new.op.op assignment target new.value frames (focused_on (Some opens.old) state.local))
          frames (focused_on (Some opens.old) state.local)

      stored_is : assigned_at false ≡ stored (is_constant opens.old.mode)
      stored_is = ap (λ (b : Bool). assign_spot rules.setting b opens.at link chain.root new opens.source k there) opens.stands.place
          ∙ ap (λ (o : Option (Dynamic H)). assign_focus rules.setting chain.root new frames (focused_on o state.local)) opens.stands.holds
          ∙ ap (λ r. on_value r (λ target. assign_core rules.setting new.op.op assignment target new.value
          frames (focused_on (Some opens.old) state.local)) frames (focused_on (Some opens.old) state.local))
          (no_cell state.local.around.cells name (start_of chain.root) opens.old.value opens.old opens.unshared)

      put_is : stored false ≡ core (Back unit_value) frames (focused_on (Some w) state.local)
      put_is = ap (λ token. assign_core rules.setting token assignment (target InFocus opens.old) new.value frames
          (focused_on (Some opens.old) state.local)) plain

      abbrev located : ℕ → Point S (Core H)
      located n = at (Locate link chain) k (working v n state)

      went_up : (n : ℕ) → Comes (located n) (at (Back unit_value) frames (working w n state)) →
          GoesUp (at (Back unit_value) frames (working w n state)) opens.source w opens.at n k state →
          Ends (located n) k state (s ∷ []) w v
      went_up n steps (inl fails) = inl (before_failing (located n) (at (Back unit_value) frames (working w n state)) k steps fails)
      went_up n steps (inr up) = inr (record {
        whole = with_value opens.source opens.at w;
        count = n;
        writes = last_writes v opens.source opens.old w s opens.at opens.stands;
        steps = steps ⨾ up;
      })

      -- the last link writes what is assigned, or fails
      last_ends : (n : ℕ) (barred constant : Bool) → bars_key v index ≡ barred → is_constant opens.old.mode ≡ constant →
          Ends (located n) k state (s ∷ []) w v
      last_ends n true constant bars is = inl (record {
        error = error.ErrorAssignmentToConstant name (start_of chain.root);
        state = working v n state;
        steps = step_by _ _ (Go (assigned_at true)) (ap (λ (c : Core H). Go c) (last_is ∙ ap assigned_at bars)) here;
      })
      last_ends n false true bars is = inl (before_failing (located n)
          (at (Fail (error.ErrorAssignmentToConstant name (start_of chain.root))) frames (working opens.old n state)) k
          (step_by _ _ (Go (stored true)) (ap (λ (c : Core H). Go c) (last_is ∙ ap assigned_at bars ∙ stored_is ∙ ap stored is)) here)
          (place_left link.form (error.ErrorAssignmentToConstant name (start_of chain.root)) opens.source opens.at new.op.position k
          (working opens.old n state)))
      last_ends n false false bars is = went_up n
          (step_by _ _ (Go (core (Back unit_value) frames (focused_on (Some w) state.local)))
          (ap (λ (c : Core H). Go c) (last_is ∙ ap assigned_at bars ∙ stored_is ∙ ap stored is ∙ put_is)) here)
          (goes_up link.form opens.source w opens.at new.op.position n k state)

    -- ---- a link that leads on

    module _ (behind : ExprLayer) (u : Dynamic H) (follows : link.behind ≡ Some behind) (is : selected v s ≡ Some u) where
      abbrev leading : Leads v u (layer_of index) s
      leading = leads v u (layer_of index) s means.step is

      abbrev down : List (Frame H)
      down = StepDown v (ToPlace leading.at) ∷ k

      abbrev walking : ℕ → Point S (Core H)
      walking n = at (Walk (behind_link link behind true chain)) down (working u n state)

      goes_down : (n : ℕ) → Comes (at (Locate link chain) k (working v n state)) (walking n)
      goes_down n = step_by _ _ (Go (core (Walk (behind_link link behind true chain)) down (focused_on (Some u) state.local)))
          (ap (λ (c : Core H). Go c) (down_is behind u leading.at follows
          (finds (access_by rules.setting false link) rules.setting.host_type state.local.around.cells v index s means.step u leading)
          leading.stands.place leading.stands.holds)) here

      -- what the links behind it write, it puts back into its value
      further_ends : (path : List Selector) (w : Dynamic H) (n : ℕ) → Ends (walking n) down state path w u →
          Ends (at (Locate link chain) k (working v n state)) k state (s ∷ path) w v
      further_ends path w n (inl fails) = inl (before_failing (at (Locate link chain) k (working v n state)) (walking n) k (goes_down n)
          (fails_up v leading.at (walking n) k fails))
      further_ends path w n (inr done) = inr (record {
        whole = with_value v leading.at done.whole;
        count = done.count;
        writes = further_writes v u done.whole w s path leading.at leading.stands is done.writes;
        steps = goes_down n ⨾ done.steps ⨾ changed_up v done.whole leading.at done.count k state;
      })

  -- ---- all links

  module _ (root : Expr) (new : NewValue H) (plain : new.op.op ≡ None) where
    abbrev pub assigning : ExprLayer → List (Dynamic H) → (in_place : Bool) → Chain H
    assigning rest args in_place = record { root = root; new = Some new; rest = rest; args = args; in_place = in_place }

    pub walk_ends : {rest : ExprLayer} {args : List (Dynamic H)} {v : Dynamic H} {path : List Selector} → LeadsDown rest args v path →
        (in_place : Bool) (k : List (Frame H)) (state : State S H) (n : ℕ) →
        Ends (at (Walk (assigning rest args in_place)) k (working v n state)) k state path (with_mode ReadWrite new.value) v
    walk_ends (last {rest = rest} {args = args} {v = v} {s = s} link first ends means unshared) in_place k state n =
        let chain : Chain H = assigning rest args in_place in
        let index : Dynamic H = index_by link.form args in
        let opened : Opens (access_by rules.setting true link) rules.setting.host_type state.local.around.cells v index s =
        opens (access_by rules.setting true link) rules.setting.host_type state.local.around.cells v index s means.step refl unshared in
        charged (Walk chain) (Locate link chain) none k (working v n state) state (s ∷ []) (with_mode ReadWrite new.value) v
        (walk_is link chain v s means k state first)
        (λ m. last_ends link chain v s means k state new refl plain ends opened m (bars_key v index) (is_constant
        opened.old.mode) refl refl)
        (allows n) refl
    walk_ends (further {rest = rest} {args = args} {v = v} {s = s} {path = path} link behind below first follows means is lower) in_place k
        state n =
        let chain : Chain H = assigning rest args in_place in
        charged (Walk chain) (Locate link chain) none k (working v n state) state (s ∷ path) (with_mode ReadWrite new.value) v
        (walk_is link chain v s means k state first)
        (λ m. further_ends link chain v s means k state behind below follows is path (with_mode ReadWrite new.value) m
        (walk_ends lower true (down link chain v s means k state behind below follows is) state m))
        (allows n) refl
