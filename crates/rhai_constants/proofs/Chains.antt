-- What the rules of chains keep: what stands at a place of a constant is worked on as a constant, and its parts are not assigned to.
use Rattle.std.proofs.Common.{refl, ap}
use Rattle.std.specs.Prelude.{◌≡◌, ℕ, Bool, true, false, ◌&&◌, ◌||◌, List, [], ◌∷◌, length, take, Option, Some, None, Result, Ok, Err}
use Rattle.std.specs.Prelude.{is_some, is_none, if◌then◌else◌}
use Rattle.rhai_tree.specs.declared.position.Position.{Position}
use Rattle.rhai_tree.specs.declared.token.Token.{Token}
use Rattle.rhai_tree.specs.declared.expr.Expr.{Expr, out-Expr}
use Rattle.rhai_tree.specs.declared.expr.Expr.TheOpen as layer
use Rattle.rhai_tree.specs.Layers.{ExprLayer}
use Rattle.rhai_tree.specs.Positions.{position_of, start_of}
use Rattle.rhai_values.specs.declared.base.value.Dynamic.{Dynamic}
use Rattle.rhai_values.specs.declared.base.value.Union.{Union}
use Rattle.rhai_values.specs.declared.base.value.Union.TheVariants as value
use Rattle.rhai_values.specs.Layers.{layer_of}
use Rattle.rhai_errors.specs.declared.error.EvalAltResult.{EvalAltResult}
use Rattle.rhai_errors.specs.Errors.{root_name}
use Rattle.rhai_spots.specs.declared.spot.Spot.{Spot}
use Rattle.rhai_spots.specs.declared.spot.Spot.TheVariants as spot
use Rattle.rhai_spots.specs.Parts.{part_of, value_at}
use Rattle.rhai_machine.specs.language.Setting.{Globals, Setting}
use Rattle.rhai_machine.specs.language.State.{Local}
use Rattle.rhai_machine.specs.language.Values.{is_handle, through_union, through as seen_through, unit_value}
use Rattle.rhai_machine.specs.language.Variables.{Variable, no_path}
use Rattle.rhai_machine.specs.language.Names.{Meaning, AtEntry, AsTemporary, bound_this, meant}
use Rattle.rhai_machine.specs.language.Places.{focus_target}
use Rattle.rhai_machine.specs.language.Links.{Link, LinkForm, AtIndex, AtProperty, AtMethod, asked_by, first_position, link_of}
use Rattle.rhai_machine.specs.language.Frames.{Lender, NewValue, Chain, Member, Property, Item, MemberAccess, ToChain, Frame, Core, core}
use Rattle.rhai_machine.specs.language.Frames.{OpenChain, ChainArguments, ChainRoot, ReadRoot, Walk, Locate}
use Rattle.rhai_machine.specs.language.Frames.{PartMethod, PartAssigned, MemberLink, MemberGot}
use Rattle.rhai_machine.specs.language.Frames.{MemberSet}
use Rattle.rhai_machine.specs.language.Calls.{sized}
use Rattle.rhai_machine.specs.language.Handles.{entered, entered_by}
use Rattle.rhai_machine.specs.language.Members.{focus_of, focused_on, got_by, set_core, set_by, unless_ignored, getter_missing}
use Rattle.rhai_machine.specs.language.Members.{setter_missing, indexer_missing, named, set_item}
use Rattle.rhai_machine.specs.language.Located.{index_by, is_indexed, is_map, is_place_spot, is_unit, spot_of}
use Rattle.rhai_machine.specs.language.Chains.{ready, opened_core, open_move, asked_move, root_move, meant_core, read_root_core}
use Rattle.rhai_machine.specs.language.Chains.{behind_link, after_method, kept_access, is_property, after_set, unless_barred}
use Rattle.rhai_machine.specs.language.Chains.{method_of, assign_member, member_core, assign_focus, measured_place, assign_spot, part_form}
use Rattle.rhai_machine.specs.language.Chains.{part_core, descend, spot_core, indexed_core, locate_core, property_move, form_move}
use Rattle.rhai_machine.specs.language.Chains.{stop_move, seen_move, walk_move}
use Rattle.rhai_machine.specs.language.Unwinding.{measured_part, part_assigned, part_changed, operated_core, got_none}
use Rattle.rhai_machine.specs.language.Unwinding.{temporary_changed}
use Rattle.std.proofs.Common.{sym, subst, ◌∙◌, inl, inr, arith, zero, suc}
use Rattle.std.proofs.lemmas.Bool.Decides.{nat_tests}
use Rattle.std.specs.Prelude.{◌⊎◌, drop, nat_eq, option_map}
use Rattle.rhai_tree.specs.declared.literal.Literal.{Literal}
use Rattle.rhai_tree.specs.declared.literal.Literal.TheFolds.{fold_out-Literal}
use Rattle.rhai_tree.specs.declared.literal.Literal.TheOpen as literal
use Rattle.rhai_values.specs.declared.base.value.FnPtr.{FnPtr}
use Rattle.rhai_values.specs.declared.base.value.FnPtrKind.TheOpen as union
use Rattle.rhai_values.specs.declared.base.value.Union.{out-Union, roll-Union, roll-out-Union}
use Rattle.rhai_values.specs.declared.base.value.Union.TheVariants.{rolls-Cell, outs-Bool, outs-Int, outs-Char, outs-Str, outs-Unit}
use Rattle.rhai_values.specs.Cells.{IsNoHandle}
use Rattle.rhai_values.specs.Layers.{UnionLayer}
use Rattle.rhai_values.specs.Literals.{literal_step, value_of_literal}
use Rattle.rhai_spots.specs.declared.spot.Access.{Access}
use Rattle.rhai_spots.specs.declared.spot.Refusal.{Refusal}
use Rattle.rhai_spots.specs.Found.{through_layer, through as through_index, with_key, without_key, spot_or_error as settled_at, found_by}
use Rattle.rhai_spots.specs.Found.{found}
use Rattle.rhai_spots.specs.Found.{IsKeyless}
use Rattle.rhai_spots.specs.Indexing.{located}
use Rattle.rhai_spots.specs.Parts.{part_in}
use Rattle.rhai_spots.proofs.FoundLemmas.{keyless}
use Rattle.rhai_machine.specs.language.Values.{Cells}
use Rattle.rhai_machine.specs.language.Expressions.{literal_of}
use Rattle.rhai_machine.specs.language.Assignment.{store_core}
use Rattle.rhai_machine.specs.language.Places.{Target, is_constant, focus_at, unless_constant, target, InFocus}
use Rattle.rhai_machine.specs.language.Frames.{FromEntry, FromThis, Temporary, Changed, Ask}
use Rattle.rhai_machine.specs.language.Located.{bars_key, lacks_key, access_by}
use Rattle.rhai_machine.specs.language.Chains.{begun_core, this_root_core, way_back, unless_barred_by}
use Rattle.rhai_constants.specs.Constants.{is_bottom, AreFlat}
use Rattle.rhai_constants.proofs.ConstantLemmas.{constant_mode, part_no_handle}
use Rattle.rhai_constants.proofs.Keeping.{Told, IsDue, IsFree, IsConstantDue, Loan, Where, WayBack, due_root, due_at, due_part, calm, due}
use Rattle.rhai_constants.proofs.Keeping.{constant_due}
use Rattle.rhai_constants.proofs.Keeping.{Open, Settled, Walks, Keeps, quiet, after, knowing, Moves}
use Rattle.rhai_constants.proofs.Settling.{Below, same, given, ended_keeps, free_due}
use Rattle.rhai_constants.proofs.Assignments.{there_keeps, stored_keeps, focus_writable}
use Rattle.rhai_constants.proofs.Calls.{on_keeps, known_keeps, arguments_keep, meant_is}
use Rattle.rhai_constants.proofs.Methods.{IsNoPointer, IsLeaf, focus_loan, where_true, focus_due, frames_inside, inside}
use Rattle.rhai_constants.proofs.Methods.{entered_below, method_keeps}

module _ {H : Type 0} where
  literal_step_flat : (y : literal.Literal-F (Dynamic H) (FnPtr H)) → IsNoHandle (literal_step y).value
  literal_step_flat literal.Unit = tt
  literal_step_flat (literal.Bool truth) = tt
  literal_step_flat (literal.Int number) = tt
  literal_step_flat (literal.Char letter) = tt
  literal_step_flat (literal.Str text) = tt
  literal_step_flat (literal.ExclusiveRange start last) = tt
  literal_step_flat (literal.InclusiveRange start last) = tt
  literal_step_flat (literal.Array items) = tt
  literal_step_flat (literal.Blob bytes) = tt
  literal_step_flat (literal.Map entries) = tt
  literal_step_flat (literal.FnPtr pointer) = tt

literal_flat : (H : Type 0) (l : Literal) → IsNoHandle (value_of_literal {H = H} l).value
literal_flat H l = rw fold_out-Literal (literal_step_flat _)

module _ {H : Type 0} where
  -- ---- values without a bare handle

  flat_is : (w v : Dynamic H) → Some w ≡ Some v → IsNoHandle w.value → IsNoHandle v.value
  flat_is w v is f = let same : w ≡ v = cc in subst (λ (x : Dynamic H). IsNoHandle x.value) same f

  form_flat : (form : ExprLayer) (v : Dynamic H) → literal_of form ≡ Some v → IsNoHandle v.value
  form_flat (layer.DynamicConstant l pos) v is =
      let same : value_of_literal l ≡ v = cc in subst (λ (x : Dynamic H). IsNoHandle x.value) same (literal_flat H l)
  form_flat (layer.BoolConstant b pos) v is = flat_is _ v is tt
  form_flat (layer.IntegerConstant n pos) v is = flat_is _ v is tt
  form_flat (layer.CharConstant letter pos) v is = flat_is _ v is tt
  form_flat (layer.StringConstant text pos) v is = flat_is _ v is tt
  form_flat (layer.Unit pos) v is = flat_is _ v is tt
  form_flat _ v is = let never : None ≡ Some v = is in absurd (cc never)

  args_flat : (there : Option (Dynamic H)) (args : List (Dynamic H)) → ((v : Dynamic H) → there ≡ Some v → IsNoHandle v.value) →
      option_map (λ v. v ∷ []) there ≡ Some args → AreFlat args
  args_flat (Some v) args h is =
      let made : v ∷ [] ≡ args = cc in subst (λ (xs : List (Dynamic H)). AreFlat xs) made (h v refl, tt)
  args_flat None args h is = cc

  -- what a link asks for that needs no step
  ready_flat : (form : LinkForm) (args : List (Dynamic H)) → ready form ≡ Some args → AreFlat args
  ready_flat (AtIndex index) args is = args_flat (literal_of (out-Expr index)) args (form_flat (out-Expr index)) is
  ready_flat (AtProperty name at) args is = let made : [] ≡ args = cc in subst (λ (xs : List (Dynamic H)). AreFlat xs) made tt
  ready_flat (AtMethod name [] at) args is = let made : [] ≡ args = cc in subst (λ (xs : List (Dynamic H)). AreFlat xs) made tt
  ready_flat (AtMethod name (arg ∷ rest) at) args is = let never : None ≡ Some args = is in absurd (cc never)

  pub drop_flat : (n : ℕ) (args : List (Dynamic H)) → AreFlat args → AreFlat (drop n args)
  drop_flat zero args f = f
  drop_flat (suc n) [] f = f
  drop_flat (suc n) (v ∷ args) f = drop_flat n args f.1

  index_flat : (form : LinkForm) (args : List (Dynamic H)) → AreFlat args → IsNoHandle (index_by form args).value
  index_flat (AtProperty name at) args f = tt
  index_flat (AtIndex index) (v ∷ args) f = f.0
  index_flat (AtIndex index) [] f = tt
  index_flat (AtMethod name rest at) (v ∷ args) f = f.0
  index_flat (AtMethod name rest at) [] f = tt

  -- ---- what an index finds

  looked_itself : (cells : Cells H) (d : Dynamic H) (l : UnionLayer H) → layer_of d ≡ l → IsNoHandle d.value →
      through_layer cells d l ≡ Some d
  looked_itself cells d (union.Cell id) is no_handle =
      let handle : d.value ≡ value.Cell id = sym (roll-out-Union H d.value) ∙ ap (roll-Union H) is ∙ rolls-Cell id in
      absurd (subst (λ (u : Union H). IsNoHandle u) handle no_handle)
  looked_itself cells d _ is no_handle = refl

  source_is : (source later : Dynamic H) (at other : Spot) → ◌≡◌ {A = Result (Dynamic H × Spot) (EvalAltResult H)} (Ok (source, at)) (Ok
      (later, other)) → source ≡ later
  source_is source later at other is = let both : (source, at) ≡ (later, other) = cc in ap (λ (p : Dynamic H × Spot). p.0) both

  if_source : (fails : Bool) (source later : Dynamic H) (at : Spot) (e : EvalAltResult H) →
      if◌then◌else◌ {A = Result (Dynamic H × Spot) (EvalAltResult H)} fails (Err e) (Ok (source, spot.Missing)) ≡ Ok (later, at) →
      source ≡ later
  if_source true source later at e is = cc
  if_source false source later at e is = source_is source later spot.Missing at is

  with_key_same : (source : Dynamic H) (kind index : UnionLayer H) → lacks_key kind index ≡ false → IsKeyless kind index →
      with_key source kind index ≡ (source, spot.Missing)
  with_key_same source (union.Map entries) (union.Str key) lacks keyless_there =
      let never : true ≡ false = rw keyless_there at lacks in cc
  with_key_same source _ _ lacks keyless_there = refl

  -- a link that inserts nothing works on the value itself, and so does one that may, where no key is lacking
  module _ (how : Access) (source later : Dynamic H) (at : Spot) where
    missing_source : (adds : Bool) (index : Dynamic H) → how.add_if_not_found ≡ adds →
        adds ≡ false ⊎ (lacks_key (layer_of source) (layer_of index) ≡ false) → IsKeyless (layer_of source) (layer_of index) →
        without_key how source index ≡ Ok (later, at) → source ≡ later
    missing_source false index adds h keyless_there is = if_source how.fail_on_invalid_map_property source later at _ (rw adds at is)
    missing_source true index adds (inl h) keyless_there is = cc
    missing_source true index adds (inr h) keyless_there is =
        let made : Ok (with_key source (layer_of source) (layer_of index)) ≡ Ok (later, at) = rw adds at is in
        let same_key : Ok (source, spot.Missing) ≡ Ok (later, at)
        = ap (λ (p : Dynamic H × Spot). Ok p) (sym (with_key_same source (layer_of source) (layer_of index) h keyless_there)) ∙ made in
        source_is source later spot.Missing at same_key

  module _ (how : Access) (host : H → List ℕ) (cells : Cells H) (source later : Dynamic H) (at : Spot) (index : Dynamic H)
      (h : how.add_if_not_found ≡ false ⊎ (lacks_key (layer_of source) (layer_of index) ≡ false)) where
    settled_source : (r : Result Spot Refusal) → located (layer_of source) (layer_of index) ≡ r →
        settled_at how host cells source index r ≡ Ok (later, at) → source ≡ later
    settled_source (Ok spot.Missing) leads is = missing_source how source later at how.add_if_not_found index refl h
        (keyless (layer_of source) (layer_of index) leads) is
    settled_source (Ok (spot.Item i)) leads is = source_is source later (spot.Item i) at is
    settled_source (Ok (spot.Value i)) leads is = source_is source later (spot.Value i) at is
    settled_source (Ok (spot.Byte i)) leads is = source_is source later (spot.Byte i) at is
    settled_source (Ok (spot.Bit i)) leads is = source_is source later (spot.Bit i) at is
    settled_source (Ok (spot.BitField i j)) leads is = source_is source later (spot.BitField i j) at is
    settled_source (Ok (spot.Char i)) leads is = source_is source later (spot.Char i) at is
    settled_source (Ok (spot.Slice i j)) leads is = source_is source later (spot.Slice i j) at is
    settled_source (Err refusal) leads is = cc

  -- by an index that leads to no other one
  found_by_source : (how : Access) (host : H → List ℕ) (cells : Cells H) (source later : Dynamic H) (at : Spot) (o : Option (Dynamic H)) →
      ((index : Dynamic H) → o ≡ Some index → how.add_if_not_found ≡ false ⊎ (lacks_key (layer_of source) (layer_of index) ≡ false)) →
      found_by how host cells source o ≡ Ok (later, at) → source ≡ later
  found_by_source how host cells source later at (Some index) h is = settled_source how host cells source later at index (h index refl)
      (located (layer_of source) (layer_of index)) refl is
  found_by_source how host cells source later at None h is = cc

  module _ (s : Setting H) where
    -- a link that inserts nothing
    pub same_source : (link : Link) (cells : Cells H) (source index later : Dynamic H) (at : Spot) →
        spot_of s false link cells source index ≡ Ok (later, at) → source ≡ later
    same_source link cells source index later at is = found_by_source (access_by s false link) s.host_type cells source later at
        (through_index cells index) (λ other there. inl refl) is

    passed_bar : (barred : Bool) (root : Expr) (r : Result (Dynamic H × Spot) (EvalAltResult H)) (found : Dynamic H × Spot) →
        unless_barred_by barred root r ≡ Ok found → (barred ≡ false) × (r ≡ Ok found)
    passed_bar true root r found is = cc
    passed_bar false root r found is = (refl, is)

    -- a key is inserted into no constant
    pub constant_source : (link : Link) (cells : Cells H) (root : Expr) (source index later : Dynamic H) (at : Spot) →
        is_constant source.mode ≡ true → IsNoHandle index.value →
        unless_barred root source index (spot_of s true link cells source index) ≡ Ok (later, at) → source ≡ later
    constant_source link cells root source index later at c no_handle is =
        let both = passed_bar (bars_key source index) root (spot_of s true link cells source index) (later, at) is in
        let lacks : lacks_key (layer_of source) (layer_of index) ≡ false = rw c at both.0 in
        found_by_source (access_by s true link) s.host_type cells source later at (through_index cells index)
        (λ other there. inr (
        let same_index : other ≡ index
        = let both : Some other ≡ Some index = sym there ∙ looked_itself cells index (layer_of index) refl no_handle in cc in
        rw same_index lacks))
        both.1

  -- ---- a constant part is not assigned to

  refused_at : (cells : Cells H) (name : List ℕ) (pos : Position) (u : Union H) (v : Dynamic H) → IsNoHandle u → is_constant v.mode ≡ true →
      (e : EvalAltResult H) × (focus_at cells name pos u v ≡ Err e)
  refused_at cells name pos (value.Cell id) v no_handle c = absurd no_handle
  refused_at cells name pos _ v no_handle c = (_, ap (λ b. unless_constant b name pos (target InFocus v)) c)

  part_layer : (l : UnionLayer H) (at : Spot) → IsNoPointer (out-Union H (part_in l at))
  part_layer (union.Int n) (spot.Bit at) = rw outs-Bool tt
  part_layer (union.Int n) (spot.BitField start end) = rw outs-Int tt
  part_layer (union.Str text) (spot.Char at) = rw outs-Char tt
  part_layer (union.Str text) (spot.Slice start end) = rw outs-Str tt
  part_layer (union.Blob bytes) (spot.Byte at) = rw outs-Int tt
  part_layer _ _ = rw outs-Unit tt

  part_leaf : (w source : Dynamic H) (at : Spot) → is_constant w.mode ≡ true → source ≡ w → IsLeaf (part_of source at)
  part_leaf w source at c is = (rw is c, (part_no_handle source at, part_layer (layer_of source) at))

  part_due : (wanted : Option (Dynamic H)) (source : Dynamic H) (at : Spot) → IsDue wanted (Some source) →
      IsDue (due_part wanted at) (Some (part_of source at))
  part_due None source at d = tt
  part_due (Some w) source at d = let same : source ≡ w = cc in ap (λ v. Some (part_of v at)) same

  due_self : (o : Option (Dynamic H)) → IsDue o o
  due_self None = tt
  due_self (Some w) = refl

  place_due : (wanted : Option (Dynamic H)) (source : Dynamic H) (at : Spot) → IsDue wanted (Some source) →
      IsDue (due_at wanted at) (value_at source at)
  place_due None source at d = tt
  place_due (Some w) source at d = let same : source ≡ w = cc in rw same (due_self (value_at w at))

  bound_is : (pos : Position) (this : Option (Dynamic H)) (v : Dynamic H) → bound_this pos this ≡ Ok v → this ≡ Some v
  bound_is pos (Some w) v is = cc
  bound_is pos None v is = cc

  -- the focus is what is seen of it, where it is no handle
  seen_itself : (cells : Cells H) (u : Union H) (v inner : Dynamic H) (at : Position) (P : Type 0) → through_union cells u v at ≡ Ok inner →
      (IsNoHandle u → v ≡ inner → P) → ((id : ℕ) → P) → P
  seen_itself cells (value.Cell id) v inner at P is here there = there id.number
  seen_itself cells _ v inner at P is here there = here tt (let same : v ≡ inner = cc in same)

module _ {H : Type 0} (a : Told H) where
  -- ---- the arguments and the root

  opened_keeps : (behind : Option ExprLayer) (args : Option (List (Dynamic H))) (chain : Chain H) (k : List (Frame H)) (l : Local H) →
      ((made : List (Dynamic H)) → args ≡ Some made → AreFlat made) → Keeps a (calm k l) (opened_core behind args chain k l)
  opened_keeps None (Some args) chain k l f = same a (f args refl) (λ h. h.1)
  opened_keeps None None chain k l f = same a tt (λ h. h.1)
  opened_keeps (Some rest) args chain k l f = same a tt (λ h. h.1)

  pub open_keeps : (link : Option Link) (chain : Chain H) (k : List (Frame H)) (l : Local H) →
      Moves a (core (OpenChain chain) k l) (open_move link chain k l)
  open_keeps (Some link) chain k l = after a (calm k l) (λ t. t) (opened_keeps link.behind (ready link.form) chain k l
      (ready_flat link.form))
  open_keeps None chain k l = tt

  -- a chain begins on a value that its root's lender has
  begun_keeps : (in_place : Bool) (lender : Option Lender) (v : Dynamic H) (chain : Chain H) (k : List (Frame H)) (l : Local H) →
      AreFlat chain.args → Where (due_root a.of lender (is_bottom k) (due a.of k)) in_place →
      (Settled a.of k l → IsDue (due_root a.of lender (is_bottom k) (due a.of k)) (Some v)) →
      Keeps a (calm k l) (begun_core in_place lender v chain k l)
  begun_keeps in_place lender v chain k l f w d =
      same a (w, (tt, f)) (λ h. ((h.1.1.1.0, h.1.0), (h.1.1.0, (d h.1.1, h.1.1.1.1))))

  entry_due : (bottom is_here : Bool) (v : Dynamic H) → (bottom ≡ true → is_here ≡ true → v ≡ a.of.value) →
      IsDue (if bottom && is_here then Some a.of.value else None) (Some v)
  entry_due true true v h = ap Some (h refl refl)
  entry_due true false v h = tt
  entry_due false is_here v h = tt

  meaning_keeps : (globals : Globals H) (variable : Variable) (meaning : Meaning H) (chain : Chain H) (k : List (Frame H)) (l : Local H) →
      AreFlat chain.args → meant globals l.around l.scope variable ≡ Ok meaning → Keeps a (calm k l) (meant_core meaning chain k l)
  meaning_keeps globals variable (AtEntry at v) chain k l f ok = begun_keeps true (Some (FromEntry at)) v chain k l f
      (where_true (due_root a.of (Some (FromEntry at)) (is_bottom k) (due a.of k)))
      (λ s. entry_due (is_bottom k) (nat_eq a.of.index at) v
      (λ b e. meant_is a globals variable at v k l s b (grind (arith, e, nat_tests)) ok))
  meaning_keeps globals variable (AsTemporary v) chain k l f ok = begun_keeps false None v chain k l f tt (λ s. tt)

  pub read_root_keeps : (globals : Globals H) (variable : Variable) (chain : Chain H) (k : List (Frame H)) (l : Local H) →
      Keeps a (core (ReadRoot variable chain) k l) (read_root_core globals variable chain k l)
  read_root_keeps globals variable chain k l = knowing a (λ h. after a (calm k l) (λ t. (tt, t.1))
      (known_keeps a (meant globals l.around l.scope variable) _ k l
      (λ t meaning ok. meaning_keeps globals variable meaning chain k l h.0 ok)))

  this_keeps : (pos : Position) (chain : Chain H) (k : List (Frame H)) (l : Local H) → AreFlat chain.args →
      Keeps a (calm k l) (this_root_core pos chain k l)
  this_keeps pos chain k l f = known_keeps a (bound_this pos l.this) _ k l (λ t v ok.
      on_keeps a (seen_through l.around.cells v pos) _ k l (λ inner. begun_keeps true (Some FromThis) v chain k l f
      (where_true (due a.of k).this)
      (λ s. subst (λ (o : Option (Dynamic H)). IsDue (due a.of k).this o) (bound_is pos l.this v ok) s.1.1)))

  pub root_keeps : (form : ExprLayer) (chain : Chain H) (k : List (Frame H)) (l : Local H) → AreFlat chain.args →
      Moves a (core (ChainRoot chain) k l) (root_move form chain k l)
  root_keeps (layer.Variable offset name namespace pos) chain k l f = same a f (λ h. h.1)
  root_keeps (layer.ThisPtr pos) chain k l f = after a (calm k l) (λ t. (tt, t.1)) (this_keeps pos chain k l f)
  root_keeps _ chain k l f =
      there_keeps a (is_none chain.new) (core (ChainRoot chain) k l) _ (same a tt (λ h. ((f, h.1.0), h.1.1)))

  -- a root that is no variable
  pub temporary_root : (v : Dynamic H) (chain : Chain H) (k : List (Frame H)) (l : Local H) → AreFlat chain.args →
      Keeps a (calm k l) (begun_core false None v chain k l)
  temporary_root v chain k l f = begun_keeps false None v chain k l f tt (λ s. tt)

  -- ---- handles

  -- what is known where a link works on a value: the focus is that value
  abbrev Working : Chain H → List (Frame H) → (inner : Dynamic H) → Type 0
  Working chain k inner = Walks a.of chain k × IsDue (due a.of k).focus (Some inner)

  entered_by_keeps : (at : Position) (chain : Chain H) (u : Union H) (inner : Dynamic H) (go : List (Frame H) → Local H → Core H)
      (k : List (Frame H)) (l : Local H) → through_union l.around.cells u (focus_of l) at ≡ Ok inner → Walks a.of chain k →
      ((k : List (Frame H)) (l : Local H) → Working chain k inner → Keeps a (calm k l) (go k l)) →
      Keeps a (calm k l) (entered_by u inner go k l)
  entered_by_keeps at chain (value.Cell id) inner go k l is w goes =
      after a (calm (frames_inside id.number k l) (inside id.number inner l)) (λ h. (tt, entered_below a id.number inner k l h.1))
      (goes (frames_inside id.number k l) (inside id.number inner l) ((tt, (w.1.0, w.1.1)), tt))
  entered_by_keeps at chain _ inner go k l is w goes = knowing a (λ h.
      let same_value : focus_of l ≡ inner = cc in
      goes k l (
        w,
        subst (λ (v : Dynamic H). IsDue (due a.of k).focus (Some v)) same_value (focus_due (due a.of k).focus
            l.focus h.1.1.1.0),
      ))

  entered_keeps : (at : Position) (chain : Chain H) (inner : Dynamic H) (go : List (Frame H) → Local H → Core H) (k : List (Frame H))
      (l : Local H) → seen_through l.around.cells (focus_of l) at ≡ Ok inner → Walks a.of chain k →
      ((k : List (Frame H)) (l : Local H) → Working chain k inner → Keeps a (calm k l) (go k l)) → Keeps a (calm k l) (entered inner go k l)
  entered_keeps at chain inner go k l is w goes = entered_by_keeps at chain (focus_of l).value inner go k l is w goes

  -- ---- members by natives

  lends_focus : (wanted : Bool) (args : List (Dynamic H)) (k : List (Frame H)) (l : Local H) → Where (due a.of k).focus wanted →
      Settled a.of k l → Loan (due a.of k).focus wanted (focus_of l ∷ args)
  lends_focus wanted args k l w s = focus_loan (due a.of k).focus wanted l.focus args w s.1.0

  always : (args : List (Dynamic H)) (k : List (Frame H)) (l : Local H) → Settled a.of k l →
      Loan (due a.of k).focus true (focus_of l ∷ args)
  always args k l s = lends_focus true args k l (where_true (due a.of k).focus) s

  got_keeps : (member : Member H) (access : MemberAccess H) (k : List (Frame H)) (l : Local H) → Where (due a.of k).focus access.guarded →
      Keeps a (calm k l) (got_by member access k l)
  got_keeps (Property name pos) access k l w = given a (λ h. (lends_focus access.guarded [] k l w h.1.1, tt)) (λ h. h.1)
  got_keeps (Item index) access k l w = given a (λ h. (always (index ∷ []) k l h.1.1, tt)) (λ h. h.1)

  item_set_keeps : (ignores : Bool) (access : MemberAccess H) (index v : Dynamic H) (k : List (Frame H)) (l : Local H) →
      Where (due a.of k).focus access.guarded → Open a.of k →
      Keeps a (calm k l) (core (Ask (set_item access.at access.guarded (focus_of l) index v)) (unless_ignored ignores k) l)
  item_set_keeps true access index v k l w o =
      given a (λ h. (lends_focus access.guarded (index ∷ v ∷ []) k l w h.1.1, inl o)) (λ h. h.1)
  item_set_keeps false access index v k l w o =
      given a (λ h. (lends_focus access.guarded (index ∷ v ∷ []) k l w h.1.1, inl o)) (λ h. h.1)

  set_keeps : (member : Member H) (ignores : Bool) (access : MemberAccess H) (v : Dynamic H) (k : List (Frame H)) (l : Local H) →
      Where (due a.of k).focus access.guarded → Open a.of k → Keeps a (calm k l) (set_by member ignores access v k l)
  set_keeps (Property name pos) ignores access v k l w o = given a (λ h. (lends_focus access.guarded (v ∷ []) k l w h.1.1, inl o))
      (λ h. ((w, (o, h.1.0)), h.1.1))
  set_keeps (Item index) ignores access v k l w o = item_set_keeps ignores access index v k l w o

  -- a member is set, and a value comes back after that
  then_set_keeps : (ignores : Bool) (access : MemberAccess H) (v next : Dynamic H) (k : List (Frame H)) (l : Local H) →
      Where (due a.of k).focus access.guarded → Open a.of k → Keeps a (calm k l) (set_core ignores access v (MemberSet next ∷ k) l)
  then_set_keeps ignores access v next k l w o = after a (calm (MemberSet next ∷ k) l) (λ h. (tt, ((o, h.1.0), h.1.1)))
      (set_keeps access.member ignores access v (MemberSet next ∷ k) l w tt)

  pub getter_missing_keeps : (lacks : Bool) (e : EvalAltResult H) (access : MemberAccess H) (name : List ℕ) (k : List (Frame H))
      (l : Local H) → Keeps a (calm k l) (getter_missing lacks e access name k l)
  getter_missing_keeps true e access name k l = given a (λ h. (always (named name ∷ []) k l h.1.1, tt)) (λ h. h.1)
  getter_missing_keeps false e access name k l = same a tt (λ h. h.1)

  pub setter_missing_keeps : (lacks : Bool) (e : EvalAltResult H) (access : MemberAccess H) (name : List ℕ) (v : Dynamic H)
      (ignores : Bool) (k : List (Frame H)) (l : Local H) → Where (due a.of k).focus access.guarded → Open a.of k →
      Keeps a (calm k l) (setter_missing lacks e access name v ignores k l)
  setter_missing_keeps true e access name v ignores k l w o =
      given a (λ h. (lends_focus access.guarded (named name ∷ v ∷ []) k l w h.1.1, inl o)) (λ h. h.1)
  setter_missing_keeps false e access name v ignores k l w o = same a tt (λ h. h.1)

  pub indexer_missing_keeps : (lacks : Bool) (e : EvalAltResult H) (otherwise : Result (Dynamic H) (EvalAltResult H))
      (k : List (Frame H)) (l : Local H) → Keeps a (calm k l) (indexer_missing lacks e otherwise k l)
  indexer_missing_keeps true e otherwise k l = ended_keeps a otherwise k l
  indexer_missing_keeps false e otherwise k l = same a tt (λ h. h.1)

  -- ---- parts

  measured_keeps : (r : Result (Dynamic H) (EvalAltResult H)) (k : List (Frame H)) (l : Local H) → Open a.of k →
      Keeps a (calm k l) (core (measured_part r) k l)
  measured_keeps (Ok v) k l o = same a o (λ h. h.1)
  measured_keeps (Err e) k l o = same a tt (λ h. h.1)

  -- a value goes on to be worked on, once it is known to be what is wanted
  inserted_due : (s : Setting H) (wanted : Option (Dynamic H)) (link : Link) (cells : Cells H) (root : Expr)
      (source index later : Dynamic H) (at : Spot) → IsConstantDue wanted → IsNoHandle index.value → IsDue wanted (Some source) →
      unless_barred root source index (spot_of s true link cells source index) ≡ Ok (later, at) → IsDue wanted (Some later)
  inserted_due s None link cells root source index later at c no_handle d is = tt
  inserted_due s (Some w) link cells root source index later at c no_handle d is =
      let same_value : source ≡ w = cc in
      let constant : is_constant source.mode ≡ true = rw same_value (constant_mode w c) in
      ap Some (sym (constant_source s link cells root source index later at constant no_handle is) ∙ same_value)

  found_due : (s : Setting H) (wanted : Option (Dynamic H)) (link : Link) (cells : Cells H) (source index later : Dynamic H) (at : Spot) →
      IsDue wanted (Some source) → spot_of s false link cells source index ≡ Ok (later, at) → IsDue wanted (Some later)
  found_due s wanted link cells source index later at d is =
      subst (λ (v : Dynamic H). IsDue wanted (Some v)) (same_source s link cells source index later at is) d

  -- ---- what waits for a method's value

  after_below : (behind : Option ExprLayer) (link : Link) (chain : Chain H) (k : List (Frame H)) (l : Local H) → AreFlat chain.args →
      Open a.of k → Below a k l → Below a (after_method behind link chain k) l
  after_below None link chain k l f o h = h
  after_below (Some rest) link chain k l f o h = ((drop_flat (length (asked_by link.form)) chain.args f, (o, h.0)), h.1)

  after_open : (behind : Option ExprLayer) (link : Link) (chain : Chain H) (k : List (Frame H)) → Open a.of k →
      Open a.of (after_method behind link chain k)
  after_open None link chain k o = o
  after_open (Some rest) link chain k o = tt

  after_due : (behind : Option ExprLayer) (link : Link) (chain : Chain H) (k : List (Frame H)) (v : Dynamic H) →
      IsDue (due a.of k).focus (Some v) → IsDue (due a.of (after_method behind link chain k)).focus (Some v)
  after_due None link chain k v d = d
  after_due (Some rest) link chain k v d = d

  way_back_is : (form : LinkForm) (link : Link) (index : Dynamic H) (chain : Chain H) (k : List (Frame H)) →
      Where (due a.of k).focus chain.in_place → WayBack (due a.of k).focus (way_back form link index chain)
  way_back_is (AtIndex expr) link index chain k w = w
  way_back_is (AtProperty name at) link index chain k w = tt
  way_back_is (AtMethod name args at) link index chain k w = tt

  -- a part of a constant may be worked on by a method, as none says that it changed it
  part_unchanged : (wanted : Option (Dynamic H)) (source : Dynamic H) (at : Spot) (O : Type 0) → IsConstantDue wanted →
      IsDue wanted (Some source) → O → (IsFree wanted × O) ⊎ IsLeaf (part_of source at)
  part_unchanged None source at O c d o = inl (tt, o)
  part_unchanged (Some w) source at O c d o = let same_value : source ≡ w = cc in inr (part_leaf w source at (constant_mode w c) same_value)

  module _ (s : Setting H) where
    pub asked_keeps : (link : Option Link) (chain : Chain H) (rest : ExprLayer) (made : List (Dynamic H)) (k : List (Frame H))
        (l : Local H) → AreFlat made →
        Moves a (core (ChainArguments chain rest made) k l) (asked_move s link chain made k l)
    asked_keeps (Some link) chain rest made k l f =
        after a (calm k l) (λ t. (tt, t.1)) (arguments_keep a s (ToChain chain link.behind) made (asked_by link.form) k l f)
    asked_keeps None chain rest made k l f = tt

    -- where there is no indexer an item is set to the right side
    pub got_none_keeps : (lacks : Bool) (member : Member H) (e : EvalAltResult H) (access : MemberAccess H) (new : NewValue H)
        (k : List (Frame H)) (l : Local H) → Where (due a.of k).focus access.guarded → Open a.of k →
        Keeps a (calm k l) (got_none s lacks member e access new k l)
    got_none_keeps true (Item index) e access new k l w o = then_set_keeps false access new.value unit_value k l w o
    got_none_keeps _ member e access new k l w o = same a tt (λ h. h.1)

    -- a temporary that may have changed is set, where it has a way back
    pub temporary_keeps : (back : Option (MemberAccess H)) (temporary v : Dynamic H) (k : List (Frame H)) (l : Local H) →
        WayBack (due a.of k).focus back → Open a.of k → Keeps a (calm k l) (temporary_changed s back temporary v k l)
    temporary_keeps None temporary v k l w o = same a o (λ h. h.1)
    temporary_keeps (Some access) temporary v k l w o = then_set_keeps true access temporary v k l w o

    -- a part goes back into the value above
    pub part_assigned_keeps : (whole : Option (Dynamic H)) (above : Dynamic H) (at : Spot) (op_at : Position) (k : List (Frame H))
        (l : Local H) → Keeps a (calm (PartAssigned above at op_at ∷ k) l) (part_assigned s whole above at op_at k l)
    part_assigned_keeps (Some whole) above at op_at k l = knowing a (λ i. after a (calm k (focused_on (Some whole) l))
        (λ h. (tt, (h.1.0.1.1, (h.1.1.0, (free_due (due a.of k).focus (Some whole) h.1.0.0, h.1.1.1.1)))))
        (measured_keeps (sized s.limits (focus_of l) op_at) k (focused_on (Some whole) l) i.1.0.1.0))
    part_assigned_keeps None above at op_at k l = same a tt
        (λ h. (h.1.0.1.1, (h.1.1.0, (free_due (due a.of k).focus (Some above) h.1.0.0, h.1.1.1.1))))

    pub part_changed_keeps : (whole : Option (Dynamic H)) (above : Dynamic H) (at : Spot) (pos : Position) (v : Dynamic H)
        (k : List (Frame H)) (l : Local H) →
        Keeps a (core (Changed v) (PartMethod above at pos ∷ k) l) (part_changed s whole above at pos v k l)
    part_changed_keeps (Some whole) above at pos v k l = given a (λ h. h.0.1)
        (λ h. (h.1.0.1, (h.1.1.0, (free_due (due a.of k).focus (Some whole) h.0.0, h.1.1.1.1))))
    part_changed_keeps None above at pos v k l = same a tt (λ h. (h.1.0.1, (h.1.1.0, (h.1.0.0, h.1.1.1.1))))

    -- a member that was operated on is set
    pub operated_on_keeps : (member : Member H) (access : MemberAccess H) (v : Dynamic H) (op_at : Position) (k : List (Frame H))
        (l : Local H) → Where (due a.of k).focus access.guarded → Open a.of k →
        Keeps a (calm k l) (operated_core s member access v op_at k l)
    operated_on_keeps (Property name pos) access v op_at k l w o = set_keeps access.member false access v k l w o
    operated_on_keeps (Item index) access v op_at k l w o =
        on_keeps a (sized s.limits v op_at) _ k l (λ x. then_set_keeps false access x unit_value k l w o)

    -- ---- what a link does

    -- a method of the focus, over what waits for its value
    method_of_keeps : (name : List ℕ) (args : List Expr) (pos : Position) (was_handle : Bool) (chain : Chain H) (k : List (Frame H))
        (l : Local H) → Open a.of k ⊎ IsLeaf (focus_of l) → Keeps a (calm k l) (method_of s name args pos was_handle chain k l)
    method_of_keeps name args pos was_handle chain k l open_or_leaf = knowing a (λ h. method_keeps a s (focus_of l) k l
        (λ others. always others k l h.1.1) open_or_leaf
        (record { name = name; at = pos; first_at = first_position args; was_handle = was_handle })
        (take (length args) chain.args))

    -- what is assigned to is in the focus
    pub assign_focus_keeps : (root : Expr) (new : NewValue H) (k : List (Frame H)) (l : Local H) →
        Keeps a (calm k l) (assign_focus s root new k l)
    assign_focus_keeps root new k l = knowing a (λ h.
        stored_keeps a s (focus_target l.around.cells (root_name (out-Expr root)) (start_of root) (focus_of l))
        (record { path = no_path; name = root_name (out-Expr root); at = position_of root; op = new.op }) new.value k l
        (λ t is. focus_writable a k l h.1.1 (root_name (out-Expr root)) (start_of root) t is))

    set_after_keeps : (member : Member H) (access : MemberAccess H) (v : Dynamic H) (k : List (Frame H)) (l : Local H) →
        Where (due a.of k).focus access.guarded → Open a.of k → Keeps a (calm k l) (set_core false access v (after_set member k) l)
    set_after_keeps (Property name pos) access v k l w o = set_keeps access.member false access v k l w o
    set_after_keeps (Item index) access v k l w o = then_set_keeps false access v unit_value k l w o

    assign_member_keeps : (token : Option Token) (access : MemberAccess H) (root : Expr) (new : NewValue H) (k : List (Frame H))
        (l : Local H) → Where (due a.of k).focus access.guarded → Open a.of k →
        Keeps a (calm k l) (assign_member s token access root new k l)
    assign_member_keeps None access root new k l w o = set_after_keeps access.member access new.value k l w o
    assign_member_keeps (Some token) access root new k l w o = after a (calm (MemberGot access root new ∷ k) l)
        (λ h. (tt, ((w, (o, h.1.0)), h.1.1))) (got_keeps access.member access (MemberGot access root new ∷ k) l w)

    member_keeps : (behind : Option ExprLayer) (new : Option (NewValue H)) (link : Link) (access : MemberAccess H) (chain : Chain H)
        (k : List (Frame H)) (l : Local H) → Where (due a.of k).focus access.guarded → Open a.of k → AreFlat chain.args →
        Keeps a (calm k l) (member_core s behind new link access chain k l)
    member_keeps (Some rest) new link access chain k l w o f =
        after a (calm (MemberLink (kept_access access) (behind_link link rest (is_property access.member) chain) ∷ k) l)
        (λ h. (tt, ((drop_flat (length (asked_by link.form)) chain.args f, (w, (o, h.1.0))), h.1.1)))
        (got_keeps access.member access (MemberLink (kept_access access) (behind_link link rest (is_property access.member) chain) ∷ k) l w)
    member_keeps None None link access chain k l w o f = got_keeps access.member access k l w
    member_keeps None (Some new) link access chain k l w o f = assign_member_keeps new.op.op access chain.root new k l w o

    -- a place is assigned to
    placed_below : (form : LinkForm) (source : Dynamic H) (at : Spot) (op_at : Position) (k : List (Frame H)) (l : Local H) →
        IsDue (due a.of k).focus (Some source) → Open a.of k → Below a k l →
        Below a (measured_place s form source at op_at k) (focused_on (value_at source at) l)
    placed_below (AtProperty name pos) source at op_at k l d o h =
        ((d, (o, h.0)), (h.1.0, (place_due (due a.of k).focus source at d, h.1.1.1)))
    placed_below (AtIndex index) source at op_at k l d o h =
        ((o, (d, h.0)), (h.1.0, (place_due (due a.of k).focus source at d, h.1.1.1)))
    placed_below (AtMethod name args pos) source at op_at k l d o h =
        ((o, (d, h.0)), (h.1.0, (place_due (due a.of k).focus source at d, h.1.1.1)))

    -- and so is a part, unless it is a constant's
    part_written : (wanted : Option (Dynamic H)) (root : Expr) (new : NewValue H) (source : Dynamic H) (at : Spot) (op_at : Position)
        (k : List (Frame H)) (l : Local H) → (due a.of k).focus ≡ wanted → IsConstantDue wanted → IsDue wanted (Some source) →
        IsDue (due a.of k).focus (Some source) → Open a.of k →
        Keeps a (calm k l) (assign_focus s root new (PartAssigned source at op_at ∷ k) (focused_on (Some (part_of source at)) l))
    part_written None root new source at op_at k l is c known d o =
        after a (calm (PartAssigned source at op_at ∷ k) (focused_on (Some (part_of source at)) l))
        (λ h. (
          tt,
          (
            (subst (λ (w : Option (Dynamic H)). IsFree w) (sym is) tt, (o, h.1.0)),
            (h.1.1.0, (part_due (due a.of k).focus source at d, h.1.1.1.1)),
          ),
        ))
        (assign_focus_keeps root new (PartAssigned source at op_at ∷ k) (focused_on (Some (part_of source at)) l))
    part_written (Some w) root new source at op_at k l is c known d o =
        let same_value : source ≡ w = cc in
        let leaf = part_leaf w source at (constant_mode w c) same_value in
        let refusal = refused_at l.around.cells (root_name (out-Expr root)) (start_of root) (part_of source at).value (part_of source at)
        leaf.1.0 leaf.0 in
        subst (λ (r : Result (Target H) (EvalAltResult H)). Keeps a (calm k l) (store_core s r (record {
          path = no_path;
          name = root_name (out-Expr root);
          at = position_of root;
          op = new.op;
        }) new.value (PartAssigned source at op_at ∷ k) (focused_on (Some (part_of source at)) l))) (sym refusal.1)
        (quiet a (λ h. (tt, ((d, h.1.0), (h.1.1.0, (part_due (due a.of k).focus source at d, h.1.1.1.1))))))

    assign_spot_keeps : (is_place : Bool) (at : Spot) (link : Link) (root : Expr) (new : NewValue H) (source : Dynamic H)
        (k : List (Frame H)) (l : Local H) → IsDue (due a.of k).focus (Some source) → Open a.of k →
        Keeps a (calm k l) (assign_spot s is_place at link root new source k l)
    assign_spot_keeps true at link root new source k l d o =
        after a (calm (measured_place s link.form source at new.op.position k) (focused_on (value_at source at) l))
        (λ h. (tt, placed_below link.form source at new.op.position k l d o h.1))
        (assign_focus_keeps root new _ (focused_on (value_at source at) l))
    assign_spot_keeps false at link root new source k l d o =
        part_written (due a.of k).focus root new source at new.op.position k l refl (constant_due a.of k).0 d d o

    -- a method works on a part
    part_method : (name : List ℕ) (args : List Expr) (pos : Position) (at : Spot) (chain : Chain H) (source : Dynamic H)
        (k : List (Frame H)) (l : Local H) → IsDue (due a.of k).focus (Some source) → Open a.of k →
        Keeps a (calm k l)
        (method_of s name args pos false chain (PartMethod source at pos ∷ k) (focused_on (Some (part_of source at)) l))
    part_method name args pos at chain source k l d o =
        after a (calm (PartMethod source at pos ∷ k) (focused_on (Some (part_of source at)) l))
        (λ h. (tt, ((d, h.1.0), (h.1.1.0, (part_due (due a.of k).focus source at d, h.1.1.1.1)))))
        (method_of_keeps name args pos false chain (PartMethod source at pos ∷ k) (focused_on (Some (part_of source at)) l)
        (part_unchanged (due a.of k).focus source at (Open a.of k) (constant_due a.of k).0 d o))

    part_walked : (chain : Chain H) (at : Spot) (source : Dynamic H) (k : List (Frame H)) (l : Local H) →
        IsDue (due a.of k).focus (Some source) → Open a.of k → AreFlat chain.args →
        Keeps a (calm k l) (core (Walk chain) (Temporary (Some source) None ∷ k) (focused_on (Some (part_of source at)) l))
    part_walked chain at source k l d o f = same a (tt, (o, f)) (λ h. ((d, (tt, h.1.0)), (h.1.1.0, (tt, h.1.1.1.1))))

    part_form_keeps : (form : LinkForm) (link : Link) (at : Spot) (chain : Chain H) (source : Dynamic H) (k : List (Frame H))
        (l : Local H) → IsDue (due a.of k).focus (Some source) → Open a.of k → AreFlat chain.args →
        Keeps a (calm k l) (part_form s form link at chain source k l)
    part_form_keeps (AtMethod name args pos) link at chain source k l d o f =
        after a (calm (after_method link.behind link chain k) l) (λ h. (tt, after_below link.behind link chain k l f o h.1))
        (part_method name args pos at chain source (after_method link.behind link chain k) l
        (after_due link.behind link chain k source d) (after_open link.behind link chain k o))
    part_form_keeps (AtIndex index) link at chain source k l d o f = part_walked chain at source k l d o f
    part_form_keeps (AtProperty name pos) link at chain source k l d o f = part_walked chain at source k l d o f

    part_keeps : (link : Option Link) (at : Spot) (chain : Chain H) (source : Dynamic H) (k : List (Frame H)) (l : Local H) →
        IsDue (due a.of k).focus (Some source) → Open a.of k → AreFlat chain.args →
        Keeps a (calm k l) (part_core s link at chain source k l)
    part_keeps (Some link) at chain source k l d o f = part_form_keeps link.form link at chain source k l d o f
    part_keeps None at chain source k l d o f = part_walked chain at source k l d o f

    -- the chain goes on below
    descend_keeps : (is_place : Bool) (at : Spot) (link : Link) (rest : ExprLayer) (index : Dynamic H) (chain : Chain H)
        (source : Dynamic H) (k : List (Frame H)) (l : Local H) → Walks a.of chain k → IsDue (due a.of k).focus (Some source) →
        Keeps a (calm k l) (descend s is_place at link rest index chain source k l)
    descend_keeps true at link rest index chain source k l w d =
        same a (where_true (due_at (due a.of k).focus at), (w.1.0, drop_flat (length (asked_by link.form)) chain.args w.1.1))
        (λ h. ((d, h.1.0), (h.1.1.0, (place_due (due a.of k).focus source at d, h.1.1.1.1))))
    descend_keeps false spot.Missing link rest index chain source k l w d =
        same a (tt, (w.1.0, drop_flat (length (asked_by link.form)) chain.args w.1.1))
        (λ h. ((d, (way_back_is link.form link index chain k w.0, h.1.0)), (h.1.1.0, (tt, h.1.1.1.1))))
    descend_keeps false at link rest index chain source k l w d =
        part_keeps (link_of rest) at (behind_link link rest false chain) source k l d w.1.0
        (drop_flat (length (asked_by link.form)) chain.args w.1.1)

    spot_keeps : (behind : Option ExprLayer) (new : Option (NewValue H)) (link : Link) (index : Dynamic H) (chain : Chain H)
        (source : Dynamic H) (k : List (Frame H)) (l : Local H) → IsNoHandle index.value → Working chain k source →
        Keeps a (calm k l) (spot_core s behind new link index chain source k l)
    spot_keeps (Some rest) new link index chain source k l n w =
        known_keeps a (spot_of s false link l.around.cells source index) _ k l
        (λ h spot is. descend_keeps (is_place_spot spot.1) spot.1 link rest index chain spot.0 k l w.0
        (found_due s (due a.of k).focus link l.around.cells source index spot.0 spot.1 w.1 is))
    spot_keeps None None link index chain source k l n w = on_keeps a (spot_of s false link l.around.cells source index) _ k l
        (λ spot. same a tt (λ h. h.1))
    spot_keeps None (Some new) link index chain source k l n w =
        known_keeps a (unless_barred chain.root source index (spot_of s true link l.around.cells source index)) _ k l
        (λ h spot is. assign_spot_keeps (is_place_spot spot.1) spot.1 link chain.root new spot.0 k l
        (inserted_due s (due a.of k).focus link l.around.cells chain.root source index spot.0 spot.1 (constant_due a.of k).0 n w.1 is)
        w.0.1.0)

    -- ---- the walk

    indexed_keeps : (indexed : Bool) (link : Link) (index : Dynamic H) (chain : Chain H) (source : Dynamic H) (k : List (Frame H))
        (l : Local H) → IsNoHandle index.value → Working chain k source →
        Keeps a (calm k l) (indexed_core s indexed link index chain source k l)
    indexed_keeps true link index chain source k l n w = spot_keeps link.behind chain.new link index chain source k l n w
    indexed_keeps false link index chain source k l n w = member_keeps link.behind chain.new link _ chain k l w.0.0 w.0.1.0 w.0.1.1

    pub locate_keeps : (link : Link) (chain : Chain H) (k : List (Frame H)) (l : Local H) → Walks a.of chain k →
        Keeps a (core (Locate link chain) k l) (locate_core s link chain k l)
    locate_keeps link chain k l w = after a (calm k l) (λ t. (tt, t.1))
        (known_keeps a (seen_through l.around.cells (focus_of l) link.at) _ k l
        (λ h inner is. entered_keeps link.at chain inner _ k l is w
        (λ k l working. indexed_keeps (is_indexed (layer_of inner)) link (index_by link.form chain.args) chain inner k l
        (index_flat link.form chain.args w.1.1) working)))

    property_keeps : (of_map : Bool) (name : List ℕ) (pos : Position) (link : Link) (inner : Dynamic H) (chain : Chain H)
        (k : List (Frame H)) (l : Local H) → seen_through l.around.cells (focus_of l) link.at ≡ Ok inner → Walks a.of chain k →
        Moves a (core (Walk chain) k l) (property_move s of_map name pos link inner chain k l)
    property_keeps true name pos link inner chain k l is w = same a w (λ h. h.1)
    property_keeps false name pos link inner chain k l is w = after a (calm k l) (λ t. (tt, t.1))
        (entered_keeps link.at chain inner _ k l is w
        (λ k l working. member_keeps link.behind chain.new link _ chain k l working.0.0 working.0.1.0 working.0.1.1))

    form_keeps : (form : LinkForm) (link : Link) (inner : Dynamic H) (chain : Chain H) (k : List (Frame H)) (l : Local H) →
        seen_through l.around.cells (focus_of l) link.at ≡ Ok inner → Walks a.of chain k →
        Moves a (core (Walk chain) k l) (form_move s form link inner chain k l)
    form_keeps (AtIndex index) link inner chain k l is w = same a w (λ h. h.1)
    form_keeps (AtProperty name pos) link inner chain k l is w =
        property_keeps (is_map (layer_of inner)) name pos link inner chain k l is w
    form_keeps (AtMethod name args pos) link inner chain k l is w =
        there_keeps a (is_some link.behind || is_none chain.new) (core (Walk chain) k l) _
        (after a (calm k l) (λ t. (tt, t.1)) (entered_keeps link.at chain inner _ k l is w (λ above below working.
        after a (calm (after_method link.behind link chain above) below)
        (λ h. (tt, after_below link.behind link chain above below working.0.1.1 working.0.1.0 h.1))
        (method_of_keeps name args pos (is_handle (focus_of l).value) chain (after_method link.behind link chain above) below
        (inl (after_open link.behind link chain above working.0.1.0))))))

    stop_keeps : (stopped : Bool) (link : Link) (inner : Dynamic H) (chain : Chain H) (k : List (Frame H)) (l : Local H) →
        seen_through l.around.cells (focus_of l) link.at ≡ Ok inner → Walks a.of chain k →
        Moves a (core (Walk chain) k l) (stop_move s stopped link inner chain k l)
    stop_keeps true link inner chain k l is w = same a tt (λ h. h.1)
    stop_keeps false link inner chain k l is w = form_keeps link.form link inner chain k l is w

    seen_keeps : (link : Link) (r : Result (Dynamic H) (EvalAltResult H)) (chain : Chain H) (k : List (Frame H)) (l : Local H) →
        seen_through l.around.cells (focus_of l) link.at ≡ r → Walks a.of chain k →
        Moves a (core (Walk chain) k l) (seen_move s link r chain k l)
    seen_keeps link (Ok inner) chain k l is w = stop_keeps (link.stops_at_unit && is_unit inner.value) link inner chain k l is w
    seen_keeps link (Err e) chain k l is w = same a tt (λ h. h.1)

    pub walk_keeps : (link : Option Link) (chain : Chain H) (k : List (Frame H)) (l : Local H) → Walks a.of chain k →
        Moves a (core (Walk chain) k l) (walk_move s link chain k l)
    walk_keeps (Some link) chain k l w = seen_keeps link (seen_through l.around.cells (focus_of l) link.at) chain k l refl w
    walk_keeps None chain k l w = tt
