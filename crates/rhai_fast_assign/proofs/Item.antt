-- How a chain of one link assigns an integer to an item of an array that a variable has.
use Rattle.std.proofs.Common.{◌≡◌, ◌<◌, ◌+◌, ℕ, ℤ, Bool, true, false, ◌&&◌, List, ◌∷◌, length, slice_get, Option, Some, Result, Ok}
use Rattle.std.proofs.Common.{refl, sym, ap, ◌∙◌, ok_or, rules}
use Rattle.std.specs.Option.{option_map}
use Rattle.std.specs.declared.num.NonZeroUsize.{NonZeroUsize}
use Rattle.rhai_tree.specs.declared.expr.Expr.{Expr, out-Expr}
use Rattle.rhai_tree.specs.declared.expr.Expr.TheOpen as layer
use Rattle.rhai_tree.specs.declared.expr.Namespace.{Namespace}
use Rattle.rhai_tree.specs.declared.flags.ASTFlags.{ASTFlags}
use Rattle.rhai_tree.specs.declared.position.Position.{Position}
use Rattle.rhai_tree.specs.declared.token.Token.{Token}
use Rattle.rhai_tree.specs.Position.{none}
use Rattle.rhai_tree.specs.Positions.{position_of, start_of}
use Rattle.rhai_tree.specs.Names.{Name}
use Rattle.rhai_values.specs.declared.base.value.Dynamic.{Dynamic}
use Rattle.rhai_values.specs.declared.base.value.Union.{Union, out-Union}
use Rattle.rhai_values.specs.declared.base.value.Union.TheVariants as value
use Rattle.rhai_values.specs.declared.base.value.Union.TheVariants.{outs-Cell, outs-Int, outs-Unit}
use Rattle.rhai_values.specs.declared.base.value.FnPtrKind.TheOpen as union
use Rattle.rhai_values.specs.Copy.{plain}
use Rattle.rhai_values.specs.Layers.{UnionLayer, layer_of}
use Rattle.rhai_errors.specs.declared.error.EvalAltResult.{EvalAltResult}
use Rattle.rhai_state.specs.declared.scope.Scope.{Scope}
use Rattle.rhai_lookups.specs.declared.run.RunState.{RunState}
use Rattle.rhai_state.specs.Scope.{entries_of, revalued, value_in}
use Rattle.rhai_errors.specs.Errors.{root_name}
use Rattle.rhai_spots.specs.declared.spot.Spot.{Spot}
use Rattle.rhai_spots.specs.declared.spot.Spot.TheVariants as spot
use Rattle.rhai_spots.specs.declared.spot.Refusal.{Refusal}
use Rattle.rhai_spots.specs.declared.spot.Refusal.TheVariants as refusal
use Rattle.rhai_spots.specs.Indexing.{bounds, index_in, located}
use Rattle.rhai_spots.specs.Found.{found_by, spot_or_error, through_layer}
use Rattle.rhai_spots.specs.Parts.{value_at, with_value}
use Rattle.rhai_spots.specs.Paths.{ToPlace}
use Rattle.rhai_operators.specs.Answers.{Answer, op_assign_of}
use Rattle.rhai_machine.specs.machine.Machine.{Charge, Go}
use Rattle.rhai_machine.specs.machine.Memory.{here, next, ◌⨾◌, Leads}
use Rattle.rhai_machine.specs.machine.Point.{after}
use Rattle.rhai_machine.specs.language.Setting.{Rules, globals_of, limit_under, cut}
use Rattle.rhai_machine.specs.language.State.{Held, Local}
use Rattle.rhai_machine.specs.language.Values.{Cells, is_handle, through_union, unit_value}
use Rattle.rhai_machine.specs.language.Names.{Meaning, entry_named, looked_up, of_entry}
use Rattle.rhai_machine.specs.language.Variables.{Variable, no_path, variable_named}
use Rattle.rhai_machine.specs.language.Links.{Link}
use Rattle.rhai_machine.specs.language.Places.{InFocus, focus_at, is_constant, target, unless_constant}
use Rattle.rhai_machine.specs.language.Frames.{Assignment, AssignedChain, Back, Chain, ChainEnd, ChainRoot, Changed, Core, Frame, FromEntry}
use Rattle.rhai_machine.specs.language.Frames.{InPlace}
use Rattle.rhai_machine.specs.language.Frames.{Locate, Measured, NewValue, ReadRoot, StepDown, Update, Walk, core, on_value}
use Rattle.rhai_machine.specs.language.Assignment.{assign_core, if_fast, update_core, written_core}
use Rattle.rhai_machine.specs.language.Chains.{assign_focus, assign_spot, begun_core, entered, entered_by, indexed_core, locate_core}
use Rattle.rhai_machine.specs.language.Chains.{meant_core, seen_move, stop_move, unless_barred_by, walk_move}
use Rattle.rhai_machine.specs.language.Located.{access_by, bars_key, is_indexed, is_place_spot, is_unit, lacks_key, spot_of}
use Rattle.rhai_machine.specs.language.Members.{focused_on}
use Rattle.rhai_machine.specs.language.Language.{move, machine}
use Rattle.rhai_machine.specs.language.Runs.{at, with_core}
use Rattle.rhai_machine.proofs.MeantLaws.{meant_at}
use Rattle.rhai_steps.specs.States.{local_of, state_of}
use Rattle.rhai_steps.proofs.Pieces.{charged, step_by}
use Rattle.rhai_operands.proofs.InPlace.{integer_sized}
use Rattle.rhai_fast_assign.proofs.Index.{indexed_by, link, link_is}
use Rattle.rhai_fast_assign.specs.Items.{index_is_simple}

and_false : (a b : Bool) → b ≡ false → (a && b) ≡ false
and_false true b is = is
and_false false b is = refl

-- ---- what an array is not

module _ {H : Type 0} where
  pub no_handle : (u : Union H) (items : List (Dynamic H)) → out-Union H u ≡ union.Array items → is_handle u ≡ false
  no_handle (value.Cell id) items is = let no : union.Cell id ≡ union.Array items = sym (outs-Cell id) ∙ is in cc no
  no_handle _ items is = refl

  unit_is : out-Union H value.Unit ≡ union.Unit
  unit_is = search (rules, outs-Unit)

  integer_is : (m : ℤ) → out-Union H (value.Int m) ≡ union.Int m
  integer_is m = search (rules, outs-Int)

  no_unit : (u : Union H) (items : List (Dynamic H)) → out-Union H u ≡ union.Array items → is_unit u ≡ false
  no_unit value.Unit items is = let no : union.Unit ≡ union.Array items = sym unit_is ∙ is in cc no
  no_unit _ items is = refl

  looks : (cells : Cells H) (name : Name) (pos : Position) (u : Union H) (v : Dynamic H) → is_handle u ≡ false →
      looked_up cells name pos u v ≡ Ok v
  looks cells name pos (value.Cell id) v is = cc
  looks cells name pos _ v is = refl

  sees : (cells : Cells H) (u : Union H) (v : Dynamic H) (pos : Position) → is_handle u ≡ false → through_union cells u v pos ≡ Ok v
  sees cells (value.Cell id) v pos is = cc
  sees cells _ v pos is = refl

  enters : (u : Union H) (inner : Dynamic H) (go : List (Frame H) → Local H → Core H) (k : List (Frame H)) (l : Local H) →
      is_handle u ≡ false → entered_by u inner go k l ≡ go k l
  enters (value.Cell id) inner go k l is = cc
  enters _ inner go k l is = refl

  no_key : (source index : UnionLayer H) (items : List (Dynamic H)) → source ≡ union.Array items → lacks_key source index ≡ false
  no_key (union.Map entries) index items is = cc
  no_key _ index items is = refl

module _ {S H : Type 0} (rules : Rules S H) (root index : Expr) (options : ASTFlags) (pos : Position) (new : NewValue H)
    (alone : index_is_simple (out-Expr index) ≡ true) (z : ℤ) where
  abbrev asked : Chain H
  asked = indexed_by root index options pos new z

  abbrev walked : Chain H
  walked = record (indexed_by root index options pos new z) { in_place = true }

  abbrev the_link : Link
  the_link = link {H = H} root index options pos new

  module _ (v : Dynamic H) (items : List (Dynamic H)) (holds : layer_of v ≡ union.Array items) where
    -- ---- the root

    abbrev lent : Held H → Held H
    lent held = record held { focus = Some v }

    module _ (t : S) (old reached : RunState H) (scope : Scope H) (held : Held H) (offset : Option NonZeroUsize) (name : Name)
        (namespace : Namespace) (root_pos : Position) (form : out-Expr root ≡ layer.Variable offset name namespace root_pos)
        (i : ℕ) (found_at : entry_named namespace.path name (entries_of scope) ≡ Some i)
        (stands : value_in (entries_of scope) (Some i) ≡ Some v) (room : old.num_operations < limit_under rules)
        (is : reached ≡ record old { num_operations = old.num_operations + 1 }) (k : List (Frame H)) where
      abbrev variable : Variable
      variable = variable_named name namespace root_pos

      abbrev begin : Core H
      begin = begun_core true (Some (FromEntry i)) v asked k (local_of reached scope held)

      reads : move rules.setting (core (ReadRoot variable asked) k (local_of reached scope held)) ≡ Go begin
      reads = ap (λ (r : Result (Meaning H) (EvalAltResult H)). Go (on_value r
          (λ meaning. meant_core meaning asked k (local_of reached scope held)) k (local_of reached scope held)))
          (meant_at (globals_of rules.setting.offer) (local_of reached scope held).around (entries_of scope) variable i v found_at stands
          ∙ ap (of_entry i) (looks (local_of reached scope held).around.cells name root_pos v.value v (no_handle v.value items holds)))

      -- the variable is charged and lent
      pub root_comes : Leads (machine rules) (cut rules) (at (ChainRoot asked) k (state_of t old scope held))
          (at (Walk walked) (ChainEnd (Some (FromEntry i)) held.focus ∷ k) (state_of t reached scope (lent held)))
      root_comes = charged rules t old reached scope held (ChainRoot asked) (ReadRoot variable asked) root_pos
          (λ k. rw form refl) room is k
          ⨾ step_by rules _ _ (Go begin) reads here

    -- ---- the link

    abbrev in_focus : Local H → Local H
    in_focus l = focused_on (Some v) l

    abbrev number : Dynamic H
    number = plain (value.Int z)

    module _ (k : List (Frame H)) (l : Local H) where
      walks : move rules.setting (core (Walk walked) k (in_focus l)) ≡ Charge none (core (Locate the_link walked) k (in_focus l))
      walks = ap (λ (o : Option Link). walk_move rules.setting o walked k (in_focus l)) (link_is root index options pos new alone)
          ∙ ap (λ (r : Result (Dynamic H) (EvalAltResult H)). seen_move rules.setting the_link r walked k (in_focus l))
          (sees l.around.cells v.value v pos (no_handle v.value items holds))
          ∙ ap (λ (b : Bool). stop_move rules.setting b the_link v walked k (in_focus l))
          (and_false the_link.stops_at_unit (is_unit v.value) (no_unit v.value items holds))

      -- the value is no map
      bars : bars_key v number ≡ false
      bars = and_false (is_constant v.mode) (lacks_key (layer_of v) (layer_of number)) (no_key (layer_of v) (layer_of number) items holds)

      module _ (n : ℕ) (leads : index_in (length items) z ≡ Some n) (x : Dynamic H) (there : value_at v (spot.Item n) ≡ Some x) where
        abbrev below : List (Frame H)
        below = Measured new.op.position ∷ StepDown v (ToPlace (spot.Item n)) ∷ k

        -- where the index leads
        abbrev settles : Result Spot Refusal → Result (Dynamic H × Spot) (EvalAltResult H)
        settles r = spot_or_error (access_by rules.setting true the_link) rules.setting.host_type l.around.cells v number r

        finds : spot_of rules.setting true the_link l.around.cells v number ≡ Ok (v, spot.Item n)
        finds = ap (λ (kind : UnionLayer H). found_by (access_by rules.setting true the_link) rules.setting.host_type l.around.cells v
            (through_layer l.around.cells number kind)) (integer_is z)
            ∙ ap (λ (kind : UnionLayer H). settles (located kind (layer_of number))) holds
            ∙ ap (λ (kind : UnionLayer H). settles (located (union.Array items) kind)) (integer_is z)
            ∙ ap (λ (o : Option ℕ). settles (ok_or (option_map (λ (m : ℕ). spot.Item m) o)
            (refusal.ArrayBounds (bounds (length items) z)))) leads

        abbrev goes_on : Result (Dynamic H × Spot) (EvalAltResult H) → Core H
        goes_on r = on_value r (λ it. assign_spot rules.setting (is_place_spot it.1) it.1 the_link root new it.0 k
            (in_focus l)) k (in_focus l)

        abbrev index_core : Dynamic H → List (Frame H) → Local H → Core H
        index_core inner k m = indexed_core rules.setting (is_indexed (layer_of inner)) the_link number walked inner k m

        locates : locate_core rules.setting the_link walked k (in_focus l)
            ≡ assign_focus rules.setting root new below (focused_on (Some x) l)
        locates = ap (λ (r : Result (Dynamic H) (EvalAltResult H)). on_value r (λ inner. entered inner (index_core inner) k (in_focus l))
            k (in_focus l)) (sees l.around.cells v.value v pos (no_handle v.value items holds))
            ∙ enters v.value v (index_core v) k (in_focus l) (no_handle v.value items holds)
            ∙ ap (λ (kind : UnionLayer H). indexed_core rules.setting (is_indexed kind) the_link number walked v k (in_focus l)) holds
            ∙ ap (λ (b : Bool). goes_on (unless_barred_by b root (spot_of rules.setting true the_link l.around.cells v number))) bars
            ∙ ap (λ (r : Result (Dynamic H × Spot) (EvalAltResult H)). goes_on r) finds
            ∙ ap (λ (o : Option (Dynamic H)). assign_focus rules.setting root new below (focused_on o l)) there

    -- the link is charged, and what is assigned to is the item
    pub item_comes : (t : S) (old reached : RunState H) (scope : Scope H) (held : Held H) →
        old.num_operations < limit_under rules →
        reached ≡ record old { num_operations = old.num_operations + 1 } → (k : List (Frame H)) (n : ℕ) →
        index_in (length items) z ≡ Some n → (x : Dynamic H) → value_at v (spot.Item n) ≡ Some x →
        Leads (machine rules) (cut rules) (at (Walk walked) k (state_of t old scope (lent held)))
        (with_core (assign_focus rules.setting root new (Measured new.op.position ∷ StepDown v (ToPlace (spot.Item n)) ∷ k)
        (focused_on (Some x) (local_of reached scope held))) (state_of t reached scope (lent held)))
    item_comes t old reached scope held room is k n leads x there =
        charged rules t old reached scope (lent held) (Walk walked) (Locate the_link walked) none
        (λ k. walks k (local_of old scope held)) room is k
        ⨾ step_by rules _ _ (Go (assign_focus rules.setting root new (Measured new.op.position ∷ StepDown v (ToPlace (spot.Item n)) ∷ k)
        (focused_on (Some x) (local_of reached scope held))))
        (ap (λ (c : Core H). Go c) (locates k (local_of reached scope held) n leads x there)) here

-- ---- the assignment

module _ {S H : Type 0} (rules : Rules S H) (root : Expr) (new : NewValue H) (token : Token) (is_token : new.op.op ≡ Some token)
    (fast : rules.setting.offer.fast_operators ≡ true) (x : Dynamic H) (m r : ℤ) (holds : x.value ≡ value.Int m)
    (writable : is_constant x.mode ≡ false) (answers : op_assign_of token x new.value ≡ Some (Ok (plain (value.Int r))))
    (k : List (Frame H)) (l : Local H) where
  abbrev written : Dynamic H
  written = plain (value.Int r)

  abbrev on_item : Local H
  on_item = focused_on (Some x) l

  abbrev assignment : Assignment
  assignment = record { path = no_path; name = root_name (out-Expr root); at = position_of root; op = new.op }

  abbrev update : Update H
  update = record {
    attempt = InPlace;
    operator = token;
    at = new.op.position;
    place = InFocus;
    target = x;
    operand = new.value;
    target_at = position_of root;
  }

  -- the item is written where it stands
  pub assigns_item : assign_focus rules.setting root new k on_item ≡ core (Back unit_value) k (focused_on (Some written) l)
  assigns_item =
      ap (λ (u : Union H). on_value (focus_at l.around.cells (root_name (out-Expr root)) (start_of root) u x)
      (λ place. assign_core rules.setting new.op.op assignment place new.value k on_item) k on_item) holds
      ∙ ap (λ (b : Bool). on_value (unless_constant b (root_name (out-Expr root)) (start_of root) (target InFocus x))
      (λ place. assign_core rules.setting new.op.op assignment place new.value k on_item) k on_item) writable
      ∙ ap (λ (o : Option Token). assign_core rules.setting o assignment (target InFocus x) new.value k on_item) is_token
      ∙ ap (λ (b : Bool). update_core rules.setting (if_fast b (op_assign_of token x new.value)) update k on_item) fast
      ∙ ap (λ (o : Answer H). update_core rules.setting o update k on_item) answers
      ∙ ap (λ (w : Result (Dynamic H) (EvalAltResult H)). written_core w InFocus k on_item)
      (integer_sized H rules.setting.limits r new.op.position)

-- ---- the way up

module _ {S H : Type 0} (rules : Rules S H) (t : S) (g : RunState H) (scope later : Scope H) (held : Held H) (v : Dynamic H)
    (n : ℕ) (r : ℤ) (pos : Position) (i : ℕ)
    (put_there : entries_of later ≡ revalued (entries_of scope) i (slice_get (entries_of scope) i)
    (with_value v (spot.Item n) (plain (value.Int r)))) (k : List (Frame H)) where
  -- the item is measured, and goes back into the array, and that into its variable
  pub goes_up : Leads (machine rules) (cut rules) (at (Back unit_value) (Measured pos ∷ StepDown v (ToPlace (spot.Item n)) ∷ ChainEnd (Some
      (FromEntry i)) held.focus
      ∷ AssignedChain ∷ k) (state_of t g scope (record held { focus = Some (plain (value.Int r)) })))
      (at (Back unit_value) k (state_of t g later held))
  unfolding after
  goes_up = step_by rules _ _ (Go (core (Changed unit_value) (StepDown v (ToPlace (spot.Item n)) ∷ ChainEnd (Some (FromEntry i)) held.focus
      ∷ AssignedChain ∷ k) (local_of g scope (record held { focus = Some (plain (value.Int r)) }))))
      (ap (λ (w : Result (Dynamic H) (EvalAltResult H)). Go (on_value w
      (λ x. core (Changed unit_value) (StepDown v (ToPlace (spot.Item n)) ∷ ChainEnd (Some (FromEntry i)) held.focus ∷ AssignedChain ∷ k)
      (local_of g scope (record held { focus = Some (plain (value.Int r)) })))
      (StepDown v (ToPlace (spot.Item n)) ∷ ChainEnd (Some (FromEntry i)) held.focus ∷ AssignedChain ∷ k)
      (local_of g scope (record held { focus = Some (plain (value.Int r)) }))))
      (integer_sized H rules.setting.limits r pos))
      (next (next (next (next (rw put_there here)))))
