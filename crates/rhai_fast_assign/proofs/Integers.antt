-- An assignment by an operator between two integers, charged at once.
use Rattle.std.proofs.Common.{◌≡◌, ◌≤◌, ◌+◌, ◌-◌, ℕ, ℤ, Bool, true, false, List, Option, Some, None, is_some, slice_get, Ok}
use Rattle.std.proofs.Common.{if◌then◌else◌, refl, sym, ap, ◌∙◌, arith}
use Rattle.std.specs.Option.{option_map}
use Rattle.std.specs.declared.num.NonZeroUsize.{NonZeroUsize}
use Rattle.rhai_tree.specs.declared.position.Position.{Position}
use Rattle.rhai_tree.specs.declared.token.Token.{Token}
use Rattle.rhai_tree.specs.declared.expr.Expr.{Expr, out-Expr}
use Rattle.rhai_tree.specs.declared.expr.Expr.TheOpen as layer
use Rattle.rhai_tree.specs.declared.expr.Namespace.{Namespace}
use Rattle.rhai_tree.specs.declared.expr.OpAssignment.{OpAssignment}
use Rattle.rhai_tree.specs.Names.{Name}
use Rattle.rhai_values.specs.declared.base.value.Dynamic.{Dynamic}
use Rattle.rhai_values.specs.declared.base.value.Union.{Union}
use Rattle.rhai_values.specs.declared.base.value.Union.TheVariants as value
use Rattle.rhai_values.specs.Cells.{cells_of}
use Rattle.rhai_values.specs.Copy as values
use Rattle.rhai_state.specs.declared.scope.Scope.{Scope}
use Rattle.rhai_state.specs.declared.scope.ScopeEntry.{ScopeEntry}
use Rattle.rhai_lookups.specs.declared.run.RunState.{RunState}
use Rattle.rhai_state.specs.declared.limits.Limits.{Limits}
use Rattle.rhai_state.specs.Scope.{entries_of, revalued, value_of}
use Rattle.rhai_operators.specs.Answers.{answer, op_assign_of}
use Rattle.rhai_operators.specs.Direct.{integer_given, integer_in}
use Rattle.rhai_operators.specs.Operators.{Outcome, op_assign_at}
use Rattle.rhai_machine.specs.language.State.{Held}
use Rattle.rhai_machine.specs.language.Setting.{Rules, limit_under}
use Rattle.rhai_machine.specs.language.Values.{Cells, unit_value}
use Rattle.rhai_machine.specs.language.Names.{entry_named}
use Rattle.rhai_machine.specs.language.Places.{InEntry, is_constant, target, target_at, unless_constant}
use Rattle.rhai_machine.specs.language.Calls.{applied}
use Rattle.rhai_machine.specs.language.Assignment.{written_core}
use Rattle.rhai_machine.specs.language.Frames.{OpenStmt, Back, core}
use Rattle.rhai_machine.specs.language.Runs.{Runs}
use Rattle.rhai_steps.specs.States.{local_of, state_of}
use Rattle.rhai_operands.specs.Standing.{assigned_known, integer_of, integer_valued, standing}
use Rattle.rhai_operands.proofs.InPlace.{integer_sized}
use Rattle.rhai_operands.proofs.Integers.{number_given}
use Rattle.rhai_assign.specs.declared.place.Place.TheVariants as place
use Rattle.rhai_fast_assign.specs.InPlace.{assigned, charged_at, writable_in}
use Rattle.rhai_assign.specs.Keeps.{Keeps}
use Rattle.rhai_assign.specs.Targets.{if_found, named_target}
use Rattle.rhai_assign.specs.Updates.{Becomes}
use Rattle.rhai_assign.proofs.Entries.{target_is}
use Rattle.rhai_assign.proofs.Places.{keeps_names, local_put, standing_is}
use Rattle.rhai_fast_assign.proofs.Prepared.{updates_in_place}

module _ {H : Type 0} where
  integer_from : (u : Union H) (m : ℤ) → integer_in u ≡ Some m → u ≡ value.Int m
  integer_from (value.Int z) m is = let same : z ≡ m = cc in ap (λ (n : ℤ). value.Int n) same
  integer_from _ m is = cc

  writable_by : (constant : Bool) (u : Union H) (m : ℤ) → (if constant then None else integer_in u) ≡ Some m →
      (constant ≡ false) × (u ≡ value.Int m)
  writable_by true u m is = cc
  writable_by false u m is = (refl, integer_from u m is)

  -- an operand that stands as an integer
  integer_stands : (o : Option (Dynamic H)) (n : ℤ) → integer_of o ≡ Some n → (y : Dynamic H) × (o ≡ Some y) × (y.value ≡ value.Int n)
  integer_stands None n is = cc
  integer_stands (Some y) n is = (y, refl, integer_from y.value n is)

  -- what is known of two integers whose operator gives one
  record Knows (token : Token) (v : Dynamic H) (o : Option (Dynamic H)) (w : Dynamic H) : Type 0 where
    m : ℤ
    z : ℤ
    y : Dynamic H
    writable : is_constant v.mode ≡ false
    holds : v.value ≡ value.Int m
    given : o ≡ Some y
    answers : Some (Ok w) ≡ op_assign_of token v y
    number : w ≡ values.plain (value.Int z)

  knows_two : (token : Token) (v : Dynamic H) (o : Option (Dynamic H)) (w : Dynamic H) (m n : ℤ) → writable_in v ≡ Some m →
      integer_of o ≡ Some n → integer_valued (integer_given {H = H} (op_assign_at token (value.Int m) (value.Int n))) ≡ Some w →
      Knows token v o w
  knows_two token v o w m n left right is =
      let writes = writable_by (is_constant v.mode) v.value m left in
      let stands = integer_stands o n right in
      let gives = number_given (op_assign_at token (value.Int m) (value.Int n)) w is in
      record {
        m = m;
        z = gives.0;
        y = stands.0;
        writable = writes.0;
        holds = writes.1;
        given = stands.1;
        answers = sym (ap (λ (u : Union H). answer (op_assign_at token u stands.0.value)) writes.1
            ∙ ap (λ (u : Union H). answer (op_assign_at token (value.Int m) u)) stands.2
            ∙ ap (λ (o : Outcome H). answer o) gives.1 ∙ ap (λ (x : Dynamic H). Some (Ok x)) (sym gives.2));
        number = gives.2;
      }

  knows_by : (token : Token) (v : Dynamic H) (o : Option (Dynamic H)) (w : Dynamic H) (x y : Option ℤ) → writable_in v ≡ x →
      integer_of o ≡ y → assigned_known token x y ≡ Some w → Knows token v o w
  knows_by token v o w None y left right is = cc
  knows_by token v o w (Some m) None left right is = cc
  knows_by token v o w (Some m) (Some n) left right is = knows_two token v o w m n left right is

  -- the target of a variable whose entry has an integer
  entry_found : (cells : Cells H) (path : List Name) (name : Name) (pos : Position) (entries : List (ScopeEntry H)) (i : ℕ) (v : Dynamic H)
      (m : ℤ) → entry_named path name entries ≡ Some i → option_map value_of (slice_get entries i) ≡ Some v → is_constant v.mode ≡ false →
      v.value ≡ value.Int m → named_target cells path name pos entries ≡ Some (target (InEntry i) v)
  entry_found cells path name pos entries i v m at stands writable holds =
      target_is cells path name pos entries i v at stands
      ∙ ap (λ (u : Union H). if_found (target_at cells name pos i u v)) holds
      ∙ ap (λ (b : Bool). if_found (unless_constant b name pos (target (InEntry i) v))) writable

  -- the integer is written to its entry
  integer_written : (limits : Limits) (scope later : Scope H) (held : Held H) (g : RunState H) (at : Position)
      (i : ℕ) (w : Dynamic H) (z : ℤ) → w ≡ values.plain (value.Int z) →
      entries_of later ≡ revalued (entries_of scope) i (slice_get (entries_of scope) i) w →
      Becomes (written_core (applied limits (Ok w) at) (InEntry i)) (local_of g scope held) (Ok unit_value) (local_of g later held)
  integer_written limits scope later held g at i w z is put_there m k =
      rw (is, integer_sized H limits z at, ← is)
      (ap (λ l. core (Back unit_value) k l) (sym (local_put (place.InEntry i) w g g.cells scope later held
      (record { entries = put_there; cells = refl }))))

module _ {S H : Type 0} (rules : Rules S H) (t : S) (scope : Scope H) (held : Held H) (op : OpAssignment) (lhs rhs : Expr)
    (offset : Option NonZeroUsize) (name : Name) (namespace : Namespace) (pos : Position) (restoring : Bool)
    (form : out-Expr lhs ≡ layer.Variable offset name namespace pos) (old new : RunState H) (later : Scope H)
    (room : old.num_operations + 2 ≤ limit_under rules) (charges : new ≡ record old { num_operations = old.num_operations + 2 })
    (token : Token) (is_token : op.op ≡ Some token) (fast : rules.setting.offer.fast_operators ≡ true) (i : ℕ) (v w : Dynamic H)
    (at : entry_named namespace.path name (entries_of scope) ≡ Some i)
    (stands : option_map value_of (slice_get (entries_of scope) i) ≡ Some v) where
  abbrev middle : RunState H
  middle = record old { num_operations = old.num_operations + 1 }

  assigned_by : Knows token v (standing (out-Expr rhs) (entries_of scope)) w →
      entries_of later ≡ revalued (entries_of scope) i (slice_get (entries_of scope) i) w →
      Runs rules (OpenStmt (layer.Assignment op lhs rhs) restoring) (state_of t old scope held) (Ok unit_value)
      (state_of t new later held)
  assigned_by knows put_there =
      let holder = standing_is (InEntry i) v (entries_of scope) (cells_of old.cells) stands in
      updates_in_place rules t scope held op lhs rhs offset name namespace pos restoring knows.y form knows.given
      old middle (omega arith) refl new (omega arith)
      (charges ∙ ap (λ (n : ℕ). record old { num_operations = n }) (omega arith)) token is_token fast
      (place.InEntry i) (Ok w) (Ok unit_value) new later
      (rw holder (entry_found (cells_of old.cells) namespace.path name pos (entries_of scope) i v knows.m at stands knows.writable
      knows.holds))
      (λ memory. rw holder knows.answers) refl
      (integer_written rules.setting.limits scope later held new op.position i w knows.z knows.number put_there) tt tt

  pub integer_assigned : assigned_known token (writable_in v) (integer_of (standing (out-Expr rhs) (entries_of scope))) ≡ Some w →
      entries_of later ≡ revalued (entries_of scope) i (slice_get (entries_of scope) i) w →
      Runs rules (OpenStmt (layer.Assignment op lhs rhs) restoring) (state_of t old scope held) (Ok unit_value)
      (state_of t new later held)
  integer_assigned known put_there = assigned_by (knows_by token v (standing (out-Expr rhs) (entries_of scope)) w
      (writable_in v) (integer_of (standing (out-Expr rhs) (entries_of scope))) refl refl known) put_there

-- it is an assignment by a built-in
module _ {H : Type 0} (scope : Scope H) (cells : Cells H) (op : OpAssignment) (lhs rhs : Expr) (offset : Option NonZeroUsize) (name : Name)
    (namespace : Namespace) (pos : Position) (form : out-Expr lhs ≡ layer.Variable offset name namespace pos) (token : Token)
    (is_token : op.op ≡ Some token) (i : ℕ) (v w : Dynamic H)
    (at : entry_named namespace.path name (entries_of scope) ≡ Some i)
    (stands : option_map value_of (slice_get (entries_of scope) i) ≡ Some v) where
  found_by : Knows token v (standing (out-Expr rhs) (entries_of scope)) w →
      is_some (assigned op.op (out-Expr lhs) (out-Expr rhs) (entries_of scope) cells) ≡ true
  found_by knows = rw (
    form,
    is_token,
    entry_found cells namespace.path name pos (entries_of scope) i v knows.m at stands knows.writable knows.holds,
    knows.given,
    ← knows.answers,
  ) refl

  pub integer_found : assigned_known token (writable_in v) (integer_of (standing (out-Expr rhs) (entries_of scope))) ≡ Some w →
      is_some (assigned op.op (out-Expr lhs) (out-Expr rhs) (entries_of scope) cells) ≡ true
  integer_found known = found_by (knows_by token v (standing (out-Expr rhs) (entries_of scope)) w
      (writable_in v) (integer_of (standing (out-Expr rhs) (entries_of scope))) refl refl known)

-- it keeps what each assignment does
pub integer_keeps : {H : Type 0} (old new : RunState H) (scope later : Scope H) (charges i : ℕ) (w : Dynamic H) →
    new ≡ record old { num_operations = old.num_operations + charges } →
    entries_of later ≡ revalued (entries_of scope) i (slice_get (entries_of scope) i) w → Keeps old new scope later
integer_keeps old new scope later charges i w is put_there = record {
  counts = rw is (omega arith);
  names = keeps_names (place.InEntry i) w scope later old.cells old.cells (record { entries = put_there; cells = refl });
}

-- both of its charges end so many charges later
pub both_charged : {H : Type 0} (old new : RunState H) (charges level : ℕ) → 2 ≤ charges →
    new ≡ record old { num_operations = old.num_operations + charges } →
    record new { scope_level = level }
    ≡ record (charged_at (charges - 2) level old) { num_operations = (charged_at (charges - 2) level old).num_operations + 2 }
both_charged old new charges level two is =
    rw is (ap (λ (n : ℕ). record old { num_operations = n; scope_level = level }) (omega (arith, two)))
