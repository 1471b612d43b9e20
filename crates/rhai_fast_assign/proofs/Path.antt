-- An assignment by an operator to an item, of two integers, charged at once.
use Rattle.std.proofs.Common.{◌≡◌, ◌≤◌, ◌<◌, ◌+◌, ℕ, ℤ, Bool, true, false, List, ◌∷◌, length, slice_get, Option, Some, None, Result, Ok}
use Rattle.std.proofs.Common.{refl, ap, map, ◌∙◌, arith, if◌then◌else◌}
use Rattle.std.specs.declared.num.NonZeroUsize.{NonZeroUsize}
use Rattle.rhai_tree.specs.declared.expr.Expr.{Expr, out-Expr}
use Rattle.rhai_tree.specs.declared.expr.Expr.TheOpen as layer
use Rattle.rhai_tree.specs.declared.expr.Namespace.{Namespace}
use Rattle.rhai_tree.specs.declared.expr.OpAssignment.{OpAssignment}
use Rattle.rhai_tree.specs.declared.flags.ASTFlags.{ASTFlags}
use Rattle.rhai_tree.specs.declared.position.Position.{Position}
use Rattle.rhai_tree.specs.declared.token.Token.{Token}
use Rattle.rhai_tree.specs.Layers.{ExprLayer}
use Rattle.rhai_tree.specs.Positions.{position_of}
use Rattle.rhai_tree.specs.Names.{Name}
use Rattle.rhai_values.specs.declared.base.value.Dynamic.{Dynamic}
use Rattle.rhai_values.specs.declared.base.value.Union.{Union}
use Rattle.rhai_values.specs.declared.base.value.Union.TheVariants as value
use Rattle.rhai_values.specs.declared.base.value.FnPtrKind.TheOpen as union
use Rattle.rhai_values.specs.Copy.{copy_of, plain}
use Rattle.rhai_values.specs.Layers.{UnionLayer, layer_of}
use Rattle.rhai_errors.specs.declared.error.EvalAltResult.{EvalAltResult}
use Rattle.rhai_state.specs.declared.scope.Scope.{Scope}
use Rattle.rhai_lookups.specs.declared.run.RunState.{RunState}
use Rattle.rhai_state.specs.Scope.{entries_of, name_of, revalued, value_in}
use Rattle.rhai_spots.specs.declared.spot.Spot.TheVariants as spot
use Rattle.rhai_spots.specs.Indexing.{index_in}
use Rattle.rhai_spots.specs.Parts.{value_at, with_value}
use Rattle.rhai_operators.specs.Answers.{answer, op_assign_of}
use Rattle.rhai_operators.specs.Direct.{integer_given, integer_in}
use Rattle.rhai_operators.specs.Operators.{Outcome, op_assign_at}
use Rattle.rhai_machine.specs.machine.Machine.{Go}
use Rattle.rhai_machine.specs.machine.Memory.{here, ◌⨾◌, Leads}
use Rattle.rhai_machine.specs.language.Setting.{Rules, limit_under, cut}
use Rattle.rhai_machine.specs.language.State.{Held}
use Rattle.rhai_machine.specs.language.Names.{entry_named}
use Rattle.rhai_machine.specs.language.Values.{unit_value}
use Rattle.rhai_machine.specs.language.Places.{InEntry, is_constant}
use Rattle.rhai_machine.specs.language.Frames.{AssignChain, AssignedChain, ChainEnd, Eval, Frame, FromEntry, NewValue, OpenChain, OpenStmt}
use Rattle.rhai_machine.specs.language.Frames.{chain_on, core, on_value}
use Rattle.rhai_machine.specs.language.Assignment.{assignment_move}
use Rattle.rhai_machine.specs.language.Runs.{Runs, at, Goes}
use Rattle.rhai_machine.specs.language.Language.{machine}
use Rattle.rhai_steps.specs.States.{local_of, state_of}
use Rattle.rhai_steps.proofs.Pieces.{step_by}
use Rattle.rhai_operands.specs.Standing.{assigned_known, integer_of, integer_valued, standing}
use Rattle.rhai_operands.proofs.InPlace.{assign_copied, flat_copy}
use Rattle.rhai_operands.proofs.Integers.{number_given}
use Rattle.rhai_operands.proofs.Standing.{standing_plain, value_goes}
use Rattle.rhai_assign.specs.Keeps.{Keeps}
use Rattle.rhai_assign.proofs.Places.{names_put}
use Rattle.rhai_fast_assign.proofs.Index.{begun, charges_are, extra_of, index_comes, integer_from, integer_stands}
use Rattle.rhai_fast_assign.proofs.Item.{assigns_item, goes_up, item_comes, root_comes}
use Rattle.rhai_fast_assign.specs.Items.{charges_of, index_is_simple, place_in_array, writable_at}
use Rattle.rhai_fast_assign.specs.InPlace.{writable_in}

module _ {H : Type 0} where
  writable_by : (constant : Bool) (u : Union H) (m : ℤ) → (if constant then None else integer_in u) ≡ Some m →
      (constant ≡ false) × (u ≡ value.Int m)
  writable_by true u m is = cc
  writable_by false u m is = (refl, integer_from u m is)

  -- what is known of an item and an operand whose operator gives an integer
  pub record Knows (token : Token) (there : Option (Dynamic H)) (o : Option (Dynamic H)) (w : Dynamic H) : Type 0 where
    pub item : Dynamic H
    pub m : ℤ
    pub r : ℤ
    pub y : Dynamic H
    pub stands : there ≡ Some item
    pub writable : is_constant item.mode ≡ false
    pub holds : item.value ≡ value.Int m
    pub given : o ≡ Some y
    pub answers : op_assign_of token item (copy_of y) ≡ Some (Ok (plain (value.Int r)))
    pub number : w ≡ plain (value.Int r)

  knows_two : (token : Token) (x : Dynamic H) (o : Option (Dynamic H)) (w : Dynamic H) (m n : ℤ) → writable_in x ≡ Some m →
      integer_of o ≡ Some n → integer_valued (integer_given {H = H} (op_assign_at token (value.Int m) (value.Int n))) ≡ Some w →
      Knows token (Some x) o w
  knows_two token x o w m n left right is =
      let writes = writable_by (is_constant x.mode) x.value m left in
      let stands = integer_stands o n right in
      let gives = number_given (op_assign_at token (value.Int m) (value.Int n)) w is in
      record {
        item = x;
        m = m;
        r = gives.0;
        y = stands.0;
        stands = refl;
        writable = writes.0;
        holds = writes.1;
        given = stands.1;
        answers = assign_copied token x stands.0
            ∙ ap (λ (u : Union H). answer (op_assign_at token u stands.0.value)) writes.1
            ∙ ap (λ (u : Union H). answer (op_assign_at token (value.Int m) u)) stands.2
            ∙ ap (λ (o : Outcome H). answer o) gives.1;
        number = gives.2;
      }

  knows_item : (token : Token) (x : Dynamic H) (o : Option (Dynamic H)) (w : Dynamic H) (a b : Option ℤ) → writable_in x ≡ a →
      integer_of o ≡ b → assigned_known token a b ≡ Some w → Knows token (Some x) o w
  knows_item token x o w None b left right is = cc
  knows_item token x o w (Some m) None left right is = cc
  knows_item token x o w (Some m) (Some n) left right is = knows_two token x o w m n left right is

  pub knows_by : (token : Token) (there o : Option (Dynamic H)) (w : Dynamic H) →
      assigned_known token (writable_at there) (integer_of o) ≡ Some w → Knows token there o w
  knows_by token None o w is = cc
  knows_by token (Some x) o w is = knows_item token x o w (writable_in x) (integer_of o) refl refl is

  -- what is known of an index that leads to an item
  pub record LeadsToItem (kind : UnionLayer H) (o : Option (Dynamic H)) (n : ℕ) : Type 0 where
    pub items : List (Dynamic H)
    pub holds : kind ≡ union.Array items
    pub x : Dynamic H
    pub z : ℤ
    pub given : o ≡ Some x
    pub number : x.value ≡ value.Int z
    pub leads : index_in (length items) z ≡ Some n

  leads_in : (kind : UnionLayer H) (o : Option (Dynamic H)) (a : Option ℤ) (n : ℕ) → integer_of o ≡ a →
      place_in_array kind a ≡ Some n → LeadsToItem kind o n
  leads_in (union.Array items) o (Some z) n number is =
      let stands = integer_stands o z number in
      record {
        items = items;
        holds = refl;
        x = stands.0;
        z = z;
        given = stands.1;
        number = stands.2;
        leads = is;
      }
  leads_in (union.Array items) o None n number is = cc
  leads_in kind o a n number is = cc

  pub leads_by : (kind : UnionLayer H) (o : Option (Dynamic H)) (n : ℕ) → place_in_array kind (integer_of o) ≡ Some n →
      LeadsToItem kind o n
  leads_by kind o n is = leads_in kind o (integer_of o) n refl is

module _ {S H : Type 0} (rules : Rules S H) (t : S) (scope : Scope H) (held : Held H) (op : OpAssignment) (lhs root index rhs : Expr)
    (options : ASTFlags) (pos : Position) (restoring : Bool) (form : out-Expr lhs ≡ layer.Index root index options pos)
    (alone : index_is_simple (out-Expr index) ≡ true) (offset : Option NonZeroUsize) (name : Name) (namespace : Namespace)
    (root_pos : Position) (root_form : out-Expr root ≡ layer.Variable offset name namespace root_pos)
    (token : Token) (is_token : op.op ≡ Some token) (fast : rules.setting.offer.fast_operators ≡ true) (i : ℕ) (v : Dynamic H)
    (found_at : entry_named namespace.path name (entries_of scope) ≡ Some i) (stands : value_in (entries_of scope) (Some i) ≡ Some v) where
  -- the value comes
  value_comes : (y : Dynamic H) → standing (out-Expr rhs) (entries_of scope) ≡ Some y → (old mid : RunState H) →
      old.num_operations < limit_under rules → mid ≡ record old { num_operations = old.num_operations + 1 } → (k : List (Frame H)) →
      Leads (machine rules) (cut rules) (at (OpenStmt (layer.Assignment op lhs rhs) restoring) k (state_of t old scope held))
      (at (OpenChain (begun root index options pos (record { op = op; value = copy_of y }))) (AssignedChain ∷ k) (state_of t
      mid scope held))
  value_comes y given old mid room is k =
      step_by rules _ _ (Go (core (Eval rhs) (AssignChain root (layer.Index root index options pos) op (position_of rhs) ∷ k)
      (local_of old scope held))) (ap (λ (l : ExprLayer). assignment_move l op rhs k (local_of old scope held)) form) here
      ⨾ value_goes rules rhs y t old mid scope held given room is
      (AssignChain root (layer.Index root index options pos) op (position_of rhs) ∷ k)
      ⨾ step_by rules _ _ (Go (core (OpenChain (begun root index options pos (record { op = op; value = copy_of y }))) (AssignedChain ∷ k)
      (local_of mid scope held)))
      (ap (λ (r : Result (Dynamic H) (EvalAltResult H)). Go (on_value r
      (λ x. core (OpenChain (chain_on root (layer.Index root index options pos) (Some (record { op = op; value = x })))) (AssignedChain ∷ k)
      (local_of mid scope held)) k (local_of mid scope held)))
      (flat_copy (local_of mid scope held).around.cells y.value (copy_of y) (position_of rhs)
      (standing_plain (out-Expr rhs) (entries_of scope) y given))) here

  module _ (old last : RunState H) (later : Scope H)
      (room : old.num_operations + charges_of (out-Expr index) ≤ limit_under rules)
      (is : last ≡ record old { num_operations = old.num_operations + charges_of (out-Expr index) }) (n : ℕ) (w : Dynamic H)
      (put_there : entries_of later ≡ revalued (entries_of scope) i (slice_get (entries_of scope) i) (with_value v (spot.Item n) w)) where
    abbrev counted : ℕ → RunState H
    counted n = record old { num_operations = old.num_operations + n }

    assigned_by : LeadsToItem (layer_of v) (standing (out-Expr index) (entries_of scope)) n →
        Knows token (value_at v (spot.Item n)) (standing (out-Expr rhs) (entries_of scope)) w →
        Runs rules (OpenStmt (layer.Assignment op lhs rhs) restoring) (state_of t old scope held) (Ok unit_value)
        (state_of t last later held)
    unfolding Goes
    assigned_by to knows k =
        let extra = extra_of (out-Expr index) in
        let all : charges_of (out-Expr index) ≡ 3 + extra = charges_are (out-Expr index) in
        let new : NewValue H = record { op = op; value = copy_of knows.y } in
        value_comes knows.y knows.given old (counted 1) (omega (arith, room, all)) refl k
        ⨾ index_comes root index options pos new rules alone t scope held to.x to.z to.number to.given (AssignedChain ∷ k)
        (counted 1) (counted (1 + extra)) (omega (arith, room, all)) (ap (λ (m : ℕ). record old { num_operations = m }) (omega arith))
        ⨾ root_comes rules root index options pos new alone to.z v to.items to.holds t (counted (1 + extra)) (counted
        (2 + extra)) scope held
        offset name namespace root_pos root_form i found_at stands (omega (arith, room, all))
        (ap (λ (m : ℕ). record old { num_operations = m }) (omega arith)) (AssignedChain ∷ k)
        ⨾ item_comes rules root index options pos new alone to.z v to.items to.holds t (counted (2 + extra)) last scope held
        (omega (arith, room, all)) (is ∙ ap (λ (m : ℕ). record old { num_operations = m }) (omega (arith, all)))
        (ChainEnd (Some (FromEntry i)) held.focus ∷ AssignedChain ∷ k) n to.leads knows.item knows.stands
        ⨾ rw (assigns_item rules root new token is_token fast knows.item knows.m knows.r knows.holds knows.writable knows.answers _ _)
        (goes_up rules t last scope later held v n knows.r op.position i (rw (← knows.number) put_there) k)

    pub item_assigned : place_in_array (layer_of v) (integer_of (standing (out-Expr index) (entries_of scope))) ≡ Some n →
        assigned_known token (writable_at (value_at v (spot.Item n))) (integer_of (standing (out-Expr rhs) (entries_of scope))) ≡ Some w →
        Runs rules (OpenStmt (layer.Assignment op lhs rhs) restoring) (state_of t old scope held) (Ok unit_value)
        (state_of t last later held)
    item_assigned leads known = assigned_by (leads_by (layer_of v) (standing (out-Expr index) (entries_of scope)) n leads)
        (knows_by token (value_at v (spot.Item n)) (standing (out-Expr rhs) (entries_of scope)) w known)

-- it keeps what each assignment does
pub item_keeps : {H : Type 0} (old new : RunState H) (scope later : Scope H) (i count : ℕ) (w : Dynamic H) →
    new ≡ record old { num_operations = old.num_operations + count } →
    entries_of later ≡ revalued (entries_of scope) i (slice_get (entries_of scope) i) w → Keeps old new scope later
item_keeps old new scope later i count w is put_there = record {
  counts = rw is (omega arith);
  names = ap (map name_of) put_there ∙ names_put (InEntry i) w (entries_of scope);
}
