-- What the rules of assignment keep: they write to places that stand, and add no names.
use Rattle.std.proofs.Common.{refl, ap, subst, ◌∙◌}
use Rattle.std.specs.Prelude.{◌≡◌, Bool, true, false, ◌||◌, ℕ, List, [], ◌∷◌, Option, Some, None, Result, Ok, Err, is_some}
use Rattle.rhai_tree.specs.declared.position.Position.{Position}
use Rattle.rhai_tree.specs.declared.token.Token.{Token}
use Rattle.rhai_tree.specs.declared.expr.OpAssignment.{OpAssignment}
use Rattle.rhai_tree.specs.declared.expr.Expr.{Expr}
use Rattle.rhai_tree.specs.declared.expr.Expr.TheOpen as layer
use Rattle.rhai_tree.specs.Layers.{ExprLayer}
use Rattle.rhai_values.specs.declared.base.value.AccessMode.{AccessMode}
use Rattle.rhai_values.specs.declared.base.value.AccessMode.TheVariants.{ReadWrite, ReadOnly}
use Rattle.rhai_values.specs.declared.base.value.Dynamic.{Dynamic}
use Rattle.rhai_values.specs.declared.base.value.Union.{Union}
use Rattle.rhai_values.specs.declared.base.value.Union.TheVariants as value
use Rattle.rhai_errors.specs.declared.error.EvalAltResult.{EvalAltResult}
use Rattle.rhai_values.specs.Cells.{value_of_cell}
use Rattle.rhai_values.specs.Modes.{with_mode}
use Rattle.rhai_errors.specs.Native.{Reply, Missing, Gives, Faults}
use Rattle.rhai_operators.specs.Answers.{Answer, op_assign_of}
use Rattle.rhai_machine.specs.language.Setting.{Globals, Setting, globals_of}
use Rattle.rhai_machine.specs.language.State.{Local}
use Rattle.rhai_machine.specs.language.Variables.{Variable, no_path}
use Rattle.rhai_machine.specs.language.Names.{Meaning, AtEntry, AsTemporary, bound_this, meant}
use Rattle.rhai_machine.specs.language.Places.{Place, InEntry, InCell, InThis, InFocus, Target, target, is_constant, unless_constant}
use Rattle.rhai_machine.specs.language.Places.{target_in_cell, target_at, target_meant, target_of, focus_in_cell, focus_at}
use Rattle.rhai_machine.specs.language.Places.{focus_target, this_at, this_target, put}
use Rattle.rhai_machine.specs.language.Frames.{Attempt, InPlace, AsValue, Assignment, Update, Frame}
use Rattle.rhai_machine.specs.language.Frames.{Core, core, where_there, QuestionUpdate}
use Rattle.rhai_machine.specs.language.Frames.{FireUpdate}
use Rattle.rhai_machine.specs.language.Calls.{sized, applied, replied, with_position}
use Rattle.rhai_machine.specs.language.Assignment.{store_this, to_this, variable_of_assignment}
use Rattle.rhai_machine.specs.language.Assignment.{assignment_move, written_core, done, if_fast, says_missing, operation_of}
use Rattle.rhai_machine.specs.language.Assignment.{native_of, target_left, update_core, assign_core, store_core, changed_core, fault_core}
use Rattle.rhai_machine.specs.language.Assignment.{value_core, answered_core, lent_core, barred_core, fire_update}
use Rattle.rhai_laws.specs.Kept.{Stands}
use Rattle.rhai_laws.specs.Steady.{Moves}
use Rattle.rhai_laws.proofs.Keeping.{Asked, Keeps, quiet, through, after, calm, put_keeps, put_stands}

module _ {H : Type 0} where
  -- the target of an assignment stands
  constant_stands : (b : Bool) (name : List ℕ) (pos : Position) (there t : Target H) (l : Local H) → Stands there.place l →
      unless_constant b name pos there ≡ Ok t → Stands t.place l
  constant_stands true name pos there t l stands is = cc
  constant_stands false name pos there t l stands is = let same : there ≡ t = cc in subst (λ (x : Target H). Stands x.place l) same stands

  cell_stands : (name : List ℕ) (pos : Position) (mode : AccessMode) (n : ℕ) (there : Option (Dynamic H)) (t : Target H) (l : Local H) →
      value_of_cell l.around.cells n ≡ there → target_in_cell name pos mode n there ≡ Ok t → Stands t.place l
  cell_stands name pos mode n (Some v) t l there is =
      constant_stands (is_constant mode || is_constant v.mode) name pos (target (InCell n) v) t l (ap is_some there) is
  cell_stands name pos mode n None t l there is = cc

  at_stands : (name : List ℕ) (pos : Position) (i : ℕ) (u : Union H) (v : Dynamic H) (t : Target H) (l : Local H) →
      target_at l.around.cells name pos i u v ≡ Ok t → Stands t.place l
  at_stands name pos i (value.Cell id) v t l is = cell_stands name pos v.mode id.number (value_of_cell l.around.cells id.number) t l refl is
  at_stands name pos i _ v t l is = constant_stands (is_constant v.mode) name pos (target (InEntry i) v) t l tt is

  meant_stands : (name : List ℕ) (pos : Position) (r : Result (Meaning H) (EvalAltResult H)) (t : Target H) (l : Local H) →
      target_meant l.around.cells name pos r ≡ Ok t → Stands t.place l
  meant_stands name pos (Ok (AtEntry i v)) t l is = at_stands name pos i v.value v t l is
  meant_stands name pos (Ok (AsTemporary v)) t l is = cc
  meant_stands name pos (Err e) t l is = cc

  pub target_stands : (globals : Globals H) (variable : Variable) (t : Target H) (l : Local H) →
      target_of globals l.around l.scope variable ≡ Ok t → Stands t.place l
  target_stands globals variable t l is = meant_stands variable.name variable.at (meant globals l.around l.scope variable) t l is

  -- and so does the focus of a chain that is assigned to
  focus_cell_stands : (name : List ℕ) (pos : Position) (mode : AccessMode) (n : ℕ) (there : Option (Dynamic H)) (t : Target H)
      (l : Local H) →
      value_of_cell l.around.cells n ≡ there → focus_in_cell name pos mode n there ≡ Ok t → Stands t.place l
  focus_cell_stands name pos mode n (Some v) t l there is =
      constant_stands (is_constant mode || is_constant v.mode) name pos (target (InCell n) v) t l (ap is_some there) is
  focus_cell_stands name pos ReadOnly n None t l there is = cc
  focus_cell_stands name pos ReadWrite n None t l there is = cc

  focus_at_stands : (name : List ℕ) (pos : Position) (u : Union H) (v : Dynamic H) (t : Target H) (l : Local H) →
      focus_at l.around.cells name pos u v ≡ Ok t → Stands t.place l
  focus_at_stands name pos (value.Cell id) v t l is =
      focus_cell_stands name pos v.mode id.number (value_of_cell l.around.cells id.number) t l refl is
  focus_at_stands name pos _ v t l is = constant_stands (is_constant v.mode) name pos (target InFocus v) t l tt is

  pub focus_stands : (name : List ℕ) (pos : Position) (v : Dynamic H) (t : Target H) (l : Local H) →
      focus_target l.around.cells name pos v ≡ Ok t → Stands t.place l
  focus_stands name pos v t l is = focus_at_stands name pos v.value v t l is

  -- and so does `this`
  this_at_stands : (pos : Position) (u : Union H) (v : Dynamic H) (t : Target H) (l : Local H) → this_at l.around.cells pos u v ≡ Ok t →
      Stands t.place l
  this_at_stands pos (value.Cell id) v t l is =
      focus_cell_stands [] pos v.mode id.number (value_of_cell l.around.cells id.number) t l refl is
  this_at_stands pos _ v t l is = constant_stands (is_constant v.mode) [] pos (target InThis v) t l tt is

  pub this_stands : (pos : Position) (this : Option (Dynamic H)) (t : Target H) (l : Local H) → this_target l.around.cells pos this ≡ Ok t →
      Stands t.place l
  this_stands pos (Some v) t l is = this_at_stands pos v.value v t l is
  this_stands pos None t l is = cc

module _ {H : Type 0} (a : Asked) where
  -- a form that may not be there
  pub there_keeps : (there : Bool) (c d : Core H) → Keeps a c d → Moves (Keeps a) c (where_there there d)
  there_keeps true c d h = h
  there_keeps false c d h = tt

  to_this_keeps : (r : Result (Dynamic H) (EvalAltResult H)) (op : OpAssignment) (pos : Position) (rhs : Expr) (k : List (Frame H))
      (l : Local H) → Keeps a (calm k l) (to_this r op pos rhs k l)
  to_this_keeps (Ok v) op pos rhs k l = quiet a tt refl (λ t. t)
  to_this_keeps (Err e) op pos rhs k l = quiet a tt refl (λ t. t)

  pub assignment_keeps : (form : ExprLayer) (op : OpAssignment) (rhs : Expr) (c : Core H) (k : List (Frame H)) (l : Local H) →
      Keeps a c (calm k l) → Moves (Keeps a) c (assignment_move form op rhs k l)
  assignment_keeps (layer.Variable offset name namespace pos) op rhs c k l h = through a h (quiet a tt refl (λ t. t))
  assignment_keeps (layer.ThisPtr pos) op rhs c k l h = through a h (to_this_keeps (bound_this pos l.this) op pos rhs k l)
  assignment_keeps (layer.Index lhs rest options pos) op rhs c k l h = through a h (quiet a tt refl (λ t. t))
  assignment_keeps (layer.Dot lhs rest options pos) op rhs c k l h = through a h (quiet a tt refl (λ t. t))
  assignment_keeps _ op rhs c k l h = tt

  written_keeps : (r : Result (Dynamic H) (EvalAltResult H)) (place : Place) (k : List (Frame H)) (l : Local H) → Stands place l →
      Keeps a (calm k l) (written_core r place k l)
  written_keeps (Ok v) place k l stands = put_keeps a place v k l stands
  written_keeps (Err e) place k l stands = quiet a tt refl (λ t. t)

  done_keeps : {A : Type 0} (r : Result A (EvalAltResult H)) (k : List (Frame H)) (l : Local H) → Keeps a (calm k l) (core (done r) k l)
  done_keeps (Ok v) k l = quiet a tt refl (λ t. t)
  done_keeps (Err e) k l = quiet a tt refl (λ t. t)

  module _ (s : Setting H) where
    update_keeps : (answer : Answer H) (u : Update H) (k : List (Frame H)) (l : Local H) → Stands u.place l →
        Keeps a (calm k l) (update_core s answer u k l)
    update_keeps (Some r) u k l stands = written_keeps (applied s.limits r u.at) u.place k l stands
    update_keeps None u k l stands = quiet a stands refl (λ t. t)

    assign_keeps : (op : Option Token) (assignment : Assignment) (there : Target H) (v : Dynamic H) (k : List (Frame H)) (l : Local H) →
        Stands there.place l →
        Keeps a (calm k l) (assign_core s op assignment there v k l)
    assign_keeps None assignment there v k l stands = put_keeps a there.place (with_mode ReadWrite v) k l stands
    assign_keeps (Some token) assignment there v k l stands =
        update_keeps (if_fast s.offer.fast_operators (op_assign_of token there.value v))
        (record {
          attempt = InPlace;
          operator = token;
          at = assignment.op.position;
          place = there.place;
          target = there.value;
          operand = v;
          target_at = assignment.at;
        })
        k l stands

    -- a value is assigned to a target, where one is found and stands
    pub stored_keeps : (r : Result (Target H) (EvalAltResult H)) (assignment : Assignment) (v : Dynamic H)
        (k : List (Frame H)) (l : Local H) →
        ((t : Target H) → r ≡ Ok t → Stands t.place l) → Keeps a (calm k l) (store_core s r assignment v k l)
    stored_keeps (Ok there) assignment v k l stands =
        assign_keeps assignment.op.op assignment there v k l (stands there refl)
    stored_keeps (Err e) assignment v k l stands = quiet a tt refl (λ t. t)

    pub store_keeps : (r : Result (Target H) (EvalAltResult H)) (assignment : Assignment) (v : Dynamic H)
        (k : List (Frame H)) (l : Local H) →
        target_of (globals_of s.offer) l.around l.scope (variable_of_assignment assignment) ≡ r →
        Keeps a (calm k l) (store_core s r assignment v k l)
    store_keeps r assignment v k l is = stored_keeps r assignment v k l
        (λ t ok. target_stands (globals_of s.offer) (variable_of_assignment assignment) t l (is ∙ ok))

    pub store_this_keeps : (op : OpAssignment) (pos : Position) (v : Dynamic H) (k : List (Frame H)) (l : Local H) →
        Keeps a (calm k l) (store_this s op pos v k l)
    store_this_keeps op pos v k l = stored_keeps (this_target l.around.cells pos l.this)
        (record { path = no_path; name = []; at = pos; op = op }) v k l (λ t ok. this_stands pos l.this t l ok)

    changed_keeps : (r : Result (Dynamic H) (EvalAltResult H)) (u : Update H) (k : List (Frame H)) (l : Local H) →
        Keeps a (calm k l) (changed_core s r u k l)
    changed_keeps (Ok v) u k l = done_keeps (sized s.limits u.target u.target_at) k l
    changed_keeps (Err e) u k l = quiet a tt refl (λ t. t)

    fault_keeps : (missing : Bool) (e : EvalAltResult H) (u : Update H) (k : List (Frame H)) (l : Local H) → Stands u.place l →
        Keeps a (calm k l) (fault_core s missing e u k l)
    fault_keeps true e u k l stands = quiet a stands refl (λ t. t)
    fault_keeps false e u k l stands = quiet a tt refl (λ t. t)

    value_keeps : (r : Result (Dynamic H) (EvalAltResult H)) (u : Update H) (k : List (Frame H)) (l : Local H) → Stands u.place l →
        Keeps a (calm k l) (value_core s r u k l)
    value_keeps (Ok v) u k l stands = through a (put_keeps a u.place v k l stands)
        (done_keeps (sized s.limits v u.target_at) k (put u.place v l))
    value_keeps (Err e) u k l stands = quiet a tt refl (λ t. t)

    answered_keeps : (attempt : Attempt) (reply : Reply H) (u : Update H) (k : List (Frame H)) (l : Local H) → Stands u.place l →
        Keeps a (calm k l) (answered_core s attempt reply u k l)
    answered_keeps InPlace Missing u k l stands =
        update_keeps (op_assign_of u.operator u.target u.operand) (record u { attempt = AsValue }) k l stands
    answered_keeps InPlace (Gives v) u k l stands = changed_keeps (sized s.limits v u.at) u k l
    answered_keeps InPlace (Faults e) u k l stands =
        fault_keeps (says_missing (native_of InPlace u.operator) e) (with_position u.at e) u k l stands
    answered_keeps AsValue reply u k l stands =
        value_keeps (replied s.limits s.host_type reply (Some u.target) (u.operand ∷ []) (operation_of u) false l.around.cells) u k l
        stands

    lent_keeps : (reply : Reply H) (v : Dynamic H) (u : Update H) (k : List (Frame H)) (l : Local H) → Stands u.place l →
        Keeps a (calm k l) (lent_core s reply v u k l)
    lent_keeps reply v u k l stands =
        through a (put_keeps a u.place v k l stands)
        (answered_keeps u.attempt reply (record u { target = v }) k (put u.place v l) (put_stands u.place v l stands))

    pub barred_keeps : (barred : Bool) (u : Update H) (k : List (Frame H)) (l : Local H) → Stands u.place l →
        Keeps a (core (QuestionUpdate u) k l) (barred_core s barred u k l)
    barred_keeps true u k l stands = quiet a tt refl (λ t. t)
    barred_keeps false u k l stands = quiet a stands refl (λ t. t)

    pub fire_update_keeps : (there : Union H) (u : Update H) (k : List (Frame H)) (l : Local H) → Stands u.place l →
        Moves (Keeps a) (core (FireUpdate u) k l) (fire_update s there u k l)
    fire_update_keeps (value.Cell id) u k l stands = quiet a tt refl (λ t. t)
    fire_update_keeps _ u k l stands = λ reply left. after a (calm k l) refl (λ t. t) (lent_keeps reply (target_left u left) u k l stands)
