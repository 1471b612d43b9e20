-- What the rules of assignment keep: they write to no constant.
use Rattle.std.proofs.Common.{refl, sym, ap, subst, ◌∙◌}
use Rattle.std.specs.Prelude.{◌≡◌, Bool, true, false, ◌||◌, ℕ, List, [], ◌∷◌, Option, Some, None, Result, Ok, Err}
use Rattle.rhai_tree.specs.declared.position.Position.{Position}
use Rattle.rhai_tree.specs.declared.token.Token.{Token}
use Rattle.rhai_tree.specs.declared.expr.OpAssignment.{OpAssignment}
use Rattle.rhai_tree.specs.declared.expr.Expr.{Expr}
use Rattle.rhai_tree.specs.declared.expr.Expr.TheOpen as layer
use Rattle.rhai_tree.specs.Layers.{ExprLayer}
use Rattle.rhai_values.specs.declared.base.value.AccessMode.{AccessMode}
use Rattle.rhai_values.specs.declared.base.value.AccessMode.TheVariants.{ReadWrite, ReadOnly}
use Rattle.rhai_values.specs.declared.base.value.Dynamic.{Dynamic}
use Rattle.rhai_values.specs.declared.base.value.Union.{Union}
use Rattle.rhai_values.specs.declared.base.value.Union.TheVariants as value
use Rattle.rhai_errors.specs.declared.error.EvalAltResult.{EvalAltResult}
use Rattle.rhai_values.specs.Cells.{IsNoHandle, value_of_cell}
use Rattle.rhai_values.specs.Modes.{with_mode}
use Rattle.rhai_errors.specs.Native.{Reply, Missing, Gives, Faults}
use Rattle.rhai_operators.specs.Answers.{Answer, op_assign_of}
use Rattle.rhai_machine.specs.language.Setting.{Globals, Setting, globals_of}
use Rattle.rhai_machine.specs.language.State.{Local}
use Rattle.rhai_machine.specs.language.Variables.{Variable, no_path}
use Rattle.rhai_machine.specs.language.Names.{Meaning, AtEntry, AsTemporary, bound_this, meant}
use Rattle.rhai_machine.specs.language.Places.{Place, InEntry, InCell, InThis, InFocus, Target, target, is_constant, unless_constant}
use Rattle.rhai_machine.specs.language.Places.{target_in_cell, target_at, target_meant, target_of, focus_in_cell, focus_at}
use Rattle.rhai_machine.specs.language.Places.{focus_target, this_at, this_target, put}
use Rattle.rhai_machine.specs.language.Frames.{Attempt, InPlace, AsValue, Assignment, Update, Frame}
use Rattle.rhai_machine.specs.language.Frames.{Core, core, where_there, QuestionUpdate}
use Rattle.rhai_machine.specs.language.Frames.{FireUpdate}
use Rattle.rhai_machine.specs.language.Calls.{sized, applied, replied, with_position}
use Rattle.rhai_machine.specs.language.Assignment.{store_this, to_this, variable_of_assignment}
use Rattle.rhai_machine.specs.language.Assignment.{assignment_move, written_core, done, if_fast, says_missing, operation_of}
use Rattle.rhai_machine.specs.language.Assignment.{native_of, target_left, update_core, assign_core, store_core, changed_core, fault_core}
use Rattle.rhai_machine.specs.language.Assignment.{value_core, answered_core, lent_core, barred_core, fire_update}
use Rattle.std.specs.Option.{unwrap_or}
use Rattle.rhai_state.specs.Scope.{value_in}
use Rattle.rhai_machine.specs.language.Values.{unit_value}
use Rattle.rhai_machine.specs.language.Handles.{focus_of}
use Rattle.rhai_machine.proofs.MeantLaws.{meant_entry}
use Rattle.rhai_constants.specs.Constants.{is_bottom}
use Rattle.rhai_constants.proofs.ConstantLemmas.{constant_mode}
use Rattle.rhai_constants.proofs.Keeping.{Told, telling, IsDue, IsFree, IsConstantDue, calm, due, constant_due, Settled, Writable, Keeps}
use Rattle.rhai_constants.proofs.Keeping.{through, knowing, Moves}
use Rattle.rhai_constants.proofs.Settling.{same, put_keeps}

module _ {H : Type 0} where
  passed : (b : Bool) (name : List ℕ) (pos : Position) (there t : Target H) → unless_constant b name pos there ≡ Ok t → there ≡ t
  passed true name pos there t is = cc
  passed false name pos there t is = cc

module _ {H : Type 0} (a : Told H) (k : List (Frame H)) (l : Local H) (settled : Settled a.of k l) where
  -- the target of an assignment may be written to: a constant is refused
  refused : (b : Bool) (name : List ℕ) (pos : Position) (there t : Target H) → unless_constant b name pos there ≡ Ok t → b ≡ true → ⊥
  refused true name pos there t is b = cc
  refused false name pos there t is b = cc

  unless_writable : (b : Bool) (name : List ℕ) (pos : Position) (there t : Target H) → unless_constant b name pos there ≡ Ok t →
      ((b ≡ true → ⊥) → Writable a.of there.place k) → Writable a.of t.place k
  unless_writable b name pos there t is w =
      subst (λ (x : Target H). Writable a.of x.place k) (passed b name pos there t is) (w (refused b name pos there t is))

  in_cell_writable : (name : List ℕ) (pos : Position) (mode : AccessMode) (n : ℕ) (there : Option (Dynamic H)) (t : Target H) →
      target_in_cell name pos mode n there ≡ Ok t → Writable a.of t.place k
  in_cell_writable name pos mode n (Some v) t is =
      unless_writable (is_constant mode || is_constant v.mode) name pos (target (InCell n) v) t is (λ never. tt)
  in_cell_writable name pos mode n None t is = cc

  -- no value that is assigned to is the constant
  not_constant : (i : ℕ) (v : Dynamic H) → value_in l.scope (Some i) ≡ Some v → (is_constant v.mode ≡ true → ⊥) → is_bottom k ≡ true →
      a.of.index ≡ i → ⊥
  not_constant i v is never b e =
      let there : value_in l.scope (Some i) ≡ Some a.of.value = rw e at (settled.0 b) in
      let same : a.of.value ≡ v = cc in
      never (ap (λ (x : Dynamic H). is_constant x.mode) (sym same) ∙ constant_mode a.of.value a.of.constant)

  at_writable : (name : List ℕ) (pos : Position) (i : ℕ) (u : Union H) (v : Dynamic H) (t : Target H) → value_in l.scope (Some i) ≡ Some v →
      target_at l.around.cells name pos i u v ≡ Ok t → Writable a.of t.place k
  at_writable name pos i (value.Cell id) v t there is =
      in_cell_writable name pos v.mode id.number (value_of_cell l.around.cells id.number) t is
  at_writable name pos i _ v t there is =
      unless_writable (is_constant v.mode) name pos (target (InEntry i) v) t is (λ never. not_constant i v there never)

  meant_writable : (name : List ℕ) (pos : Position) (r : Result (Meaning H) (EvalAltResult H)) (t : Target H) →
      ((i : ℕ) (v : Dynamic H) → r ≡ Ok (AtEntry i v) → value_in l.scope (Some i) ≡ Some v) →
      target_meant l.around.cells name pos r ≡ Ok t → Writable a.of t.place k
  meant_writable name pos (Ok (AtEntry i v)) t there is = at_writable name pos i v.value v t (there i v refl) is
  meant_writable name pos (Ok (AsTemporary v)) t there is = cc
  meant_writable name pos (Err e) t there is = cc

  pub target_writable : (globals : Globals H) (variable : Variable) (t : Target H) →
      target_of globals l.around l.scope variable ≡ Ok t → Writable a.of t.place k
  target_writable globals variable t is = meant_writable variable.name variable.at (meant globals l.around l.scope variable) t
      (λ i v means.
      let entry = meant_entry globals l.around l.scope i v variable means in
      ap (value_in l.scope) (sym entry.0) ∙ entry.1) is

  -- ---- the focus of a chain, and `this`

  focus_cell_writable : (name : List ℕ) (pos : Position) (mode : AccessMode) (n : ℕ) (there : Option (Dynamic H)) (t : Target H) →
      focus_in_cell name pos mode n there ≡ Ok t → Writable a.of t.place k
  focus_cell_writable name pos mode n (Some v) t is =
      unless_writable (is_constant mode || is_constant v.mode) name pos (target (InCell n) v) t is (λ never. tt)
  focus_cell_writable name pos ReadOnly n None t is = cc
  focus_cell_writable name pos ReadWrite n None t is = cc

  free_by : (wanted there : Option (Dynamic H)) → IsConstantDue wanted → IsDue wanted there →
      (is_constant (unwrap_or there unit_value).mode ≡ true → ⊥) → IsFree wanted
  free_by None there c d never = tt
  free_by (Some w) there c d never = never (rw d (constant_mode w c))

  focus_at_writable : (name : List ℕ) (pos : Position) (u : Union H) (t : Target H) →
      focus_at l.around.cells name pos u (focus_of l) ≡ Ok t → Writable a.of t.place k
  focus_at_writable name pos (value.Cell id) t is =
      focus_cell_writable name pos (focus_of l).mode id.number (value_of_cell l.around.cells id.number) t is
  focus_at_writable name pos _ t is = unless_writable (is_constant (focus_of l).mode) name pos (target InFocus (focus_of l)) t is
      (λ never. free_by (due a.of k).focus l.focus (constant_due a.of k).0 settled.1.0 never)

  pub focus_writable : (name : List ℕ) (pos : Position) (t : Target H) → focus_target l.around.cells name pos (focus_of l) ≡ Ok t →
      Writable a.of t.place k
  focus_writable name pos t is = focus_at_writable name pos (focus_of l).value t is

  this_at_writable : (pos : Position) (u : Union H) (v : Dynamic H) (t : Target H) → l.this ≡ Some v →
      this_at l.around.cells pos u v ≡ Ok t →
      Writable a.of t.place k
  this_at_writable pos (value.Cell id) v t bound is =
      focus_cell_writable [] pos v.mode id.number (value_of_cell l.around.cells id.number) t is
  this_at_writable pos _ v t bound is = unless_writable (is_constant v.mode) [] pos (target InThis v) t is
      (λ never. free_by (due a.of k).this (Some v) (constant_due a.of k).1 (rw bound at (settled.1.1)) never)

  pub this_writable : (pos : Position) (this : Option (Dynamic H)) (t : Target H) → l.this ≡ this →
      this_target l.around.cells pos this ≡ Ok t →
      Writable a.of t.place k
  this_writable pos (Some v) t bound is = this_at_writable pos v.value v t bound is
  this_writable pos None t bound is = cc

module _ {H : Type 0} (a : Told H) where
  -- a form that may not be there
  pub there_keeps : (there : Bool) (c d : Core H) → Keeps a c d → Moves a c (where_there there d)
  there_keeps true c d h = h
  there_keeps false c d h = tt

  to_this_keeps : (r : Result (Dynamic H) (EvalAltResult H)) (op : OpAssignment) (pos : Position) (rhs : Expr) (k : List (Frame H))
      (l : Local H) → Keeps a (calm k l) (to_this r op pos rhs k l)
  to_this_keeps (Ok v) op pos rhs k l = same a tt (λ h. h.1)
  to_this_keeps (Err e) op pos rhs k l = same a tt (λ h. h.1)

  pub assignment_keeps : (form : ExprLayer) (op : OpAssignment) (rhs : Expr) (c : Core H) (k : List (Frame H)) (l : Local H) →
      Keeps a c (calm k l) → Moves a c (assignment_move form op rhs k l)
  assignment_keeps (layer.Variable offset name namespace pos) op rhs c k l h = through a h (same a tt (λ h. h.1))
  assignment_keeps (layer.ThisPtr pos) op rhs c k l h = through a h (to_this_keeps (bound_this pos l.this) op pos rhs k l)
  assignment_keeps (layer.Index lhs rest options pos) op rhs c k l h = through a h (same a tt (λ h. h.1))
  assignment_keeps (layer.Dot lhs rest options pos) op rhs c k l h = through a h (same a tt (λ h. h.1))
  assignment_keeps _ op rhs c k l h = tt

  written_keeps : (r : Result (Dynamic H) (EvalAltResult H)) (place : Place) (k : List (Frame H)) (l : Local H) → Writable a.of place k →
      Keeps a (calm k l) (written_core r place k l)
  written_keeps (Ok v) place k l stands = put_keeps a place v k l stands
  written_keeps (Err e) place k l stands = same a tt (λ h. h.1)

  done_keeps : {A : Type 0} (r : Result A (EvalAltResult H)) (k : List (Frame H)) (l : Local H) → Keeps a (calm k l) (core (done r) k l)
  done_keeps (Ok v) k l = same a tt (λ h. h.1)
  done_keeps (Err e) k l = same a tt (λ h. h.1)

  module _ (s : Setting H) where
    update_keeps : (answer : Answer H) (u : Update H) (k : List (Frame H)) (l : Local H) → Writable a.of u.place k →
        Keeps a (calm k l) (update_core s answer u k l)
    update_keeps (Some r) u k l stands = written_keeps (applied s.limits r u.at) u.place k l stands
    update_keeps None u k l stands = same a stands (λ h. h.1)

    assign_keeps : (op : Option Token) (assignment : Assignment) (there : Target H) (v : Dynamic H) (k : List (Frame H)) (l : Local H) →
        Writable a.of there.place k →
        Keeps a (calm k l) (assign_core s op assignment there v k l)
    assign_keeps None assignment there v k l stands = put_keeps a there.place (with_mode ReadWrite v) k l stands
    assign_keeps (Some token) assignment there v k l stands =
        update_keeps (if_fast s.offer.fast_operators (op_assign_of token there.value v))
        (record {
          attempt = InPlace;
          operator = token;
          at = assignment.op.position;
          place = there.place;
          target = there.value;
          operand = v;
          target_at = assignment.at;
        })
        k l stands

    -- a value is assigned to a target, where one is found and stands
    pub stored_keeps : (r : Result (Target H) (EvalAltResult H)) (assignment : Assignment) (v : Dynamic H)
        (k : List (Frame H)) (l : Local H) →
        ((t : Target H) → r ≡ Ok t → Writable a.of t.place k) → Keeps a (calm k l) (store_core s r assignment v k l)
    stored_keeps (Ok there) assignment v k l stands =
        assign_keeps assignment.op.op assignment there v k l (stands there refl)
    stored_keeps (Err e) assignment v k l stands = same a tt (λ h. h.1)

    pub store_keeps : (r : Result (Target H) (EvalAltResult H)) (assignment : Assignment) (v : Dynamic H)
        (k : List (Frame H)) (l : Local H) → target_of (globals_of s.offer) l.around l.scope (variable_of_assignment assignment) ≡ r →
        Keeps a (calm k l) (store_core s r assignment v k l)
    store_keeps r assignment v k l is = knowing a (λ h. stored_keeps r assignment v k l
        (λ t ok. target_writable a k l h.1.1 (globals_of s.offer) (variable_of_assignment assignment) t (is ∙ ok)))

    pub store_this_keeps : (op : OpAssignment) (pos : Position) (v : Dynamic H) (k : List (Frame H)) (l : Local H) →
        Keeps a (calm k l) (store_this s op pos v k l)
    store_this_keeps op pos v k l = knowing a (λ h.
        stored_keeps (this_target l.around.cells pos l.this) (record { path = no_path; name = []; at = pos; op = op }) v k l
        (λ t ok. this_writable a k l h.1.1 pos l.this t refl ok))

    changed_keeps : (r : Result (Dynamic H) (EvalAltResult H)) (u : Update H) (k : List (Frame H)) (l : Local H) →
        Keeps a (calm k l) (changed_core s r u k l)
    changed_keeps (Ok v) u k l = done_keeps (sized s.limits u.target u.target_at) k l
    changed_keeps (Err e) u k l = same a tt (λ h. h.1)

    fault_keeps : (missing : Bool) (e : EvalAltResult H) (u : Update H) (k : List (Frame H)) (l : Local H) → Writable a.of u.place k →
        Keeps a (calm k l) (fault_core s missing e u k l)
    fault_keeps true e u k l stands = same a stands (λ h. h.1)
    fault_keeps false e u k l stands = same a tt (λ h. h.1)

    value_keeps : (r : Result (Dynamic H) (EvalAltResult H)) (u : Update H) (k : List (Frame H)) (l : Local H) → Writable a.of u.place k →
        Keeps a (calm k l) (value_core s r u k l)
    value_keeps (Ok v) u k l stands = through a (put_keeps a u.place v k l stands)
        (done_keeps (sized s.limits v u.target_at) k (put u.place v l))
    value_keeps (Err e) u k l stands = same a tt (λ h. h.1)

    answered_keeps : (attempt : Attempt) (reply : Reply H) (u : Update H) (k : List (Frame H)) (l : Local H) → Writable a.of u.place k →
        Keeps a (calm k l) (answered_core s attempt reply u k l)
    answered_keeps InPlace Missing u k l stands =
        update_keeps (op_assign_of u.operator u.target u.operand) (record u { attempt = AsValue }) k l stands
    answered_keeps InPlace (Gives v) u k l stands = changed_keeps (sized s.limits v u.at) u k l
    answered_keeps InPlace (Faults e) u k l stands =
        fault_keeps (says_missing (native_of InPlace u.operator) e) (with_position u.at e) u k l stands
    answered_keeps AsValue reply u k l stands =
        value_keeps (replied s.limits s.host_type reply (Some u.target) (u.operand ∷ []) (operation_of u) false l.around.cells) u k l
        stands

    lent_keeps : (reply : Reply H) (v : Dynamic H) (u : Update H) (k : List (Frame H)) (l : Local H) → Writable a.of u.place k →
        Keeps a (calm k l) (lent_core s reply v u k l)
    lent_keeps reply v u k l stands =
        through a (put_keeps a u.place v k l stands)
        (answered_keeps u.attempt reply (record u { target = v }) k (put u.place v l) stands)

    pub barred_keeps : (barred : Bool) (u : Update H) (k : List (Frame H)) (l : Local H) → Writable a.of u.place k →
        Keeps a (core (QuestionUpdate u) k l) (barred_core s barred u k l)
    barred_keeps true u k l stands = same a tt (λ h. h.1)
    barred_keeps false u k l stands = same a stands (λ h. h.1)

module _ {H : Type 0} (a : Told H) (s : Setting H) where
  fire_there : (there : Union H) (u : Update H) (k : List (Frame H)) (l : Local H) → u.target.value ≡ there → Writable a.of u.place k →
      Moves a (core (FireUpdate u) k l) (fire_update s there u k l)
  fire_there (value.Cell id) u k l is stands = same a tt (λ h. h.1)
  fire_there _ u k l is stands = λ h. record {
    asks = subst (λ (x : Union H). IsNoHandle x) (sym is) tt;
    answered = λ reply left pure keeps. (lent_keeps (telling a pure) s reply (target_left u left) u k l stands).holds (tt, h.1);
  }

  pub fire_update_keeps : (u : Update H) (k : List (Frame H)) (l : Local H) → Writable a.of u.place k →
      Moves a (core (FireUpdate u) k l) (fire_update s u.target.value u k l)
  fire_update_keeps u k l stands = fire_there u.target.value u k l refl stands
