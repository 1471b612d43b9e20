-- The rules of assignment lead to cores that fit.
use Rattle.std.proofs.Common.{◌≡◌, ℕ, List, [], ◌∷◌, refl, sym, subst}
use Rattle.std.specs.Prelude.{Bool, true, false, Option, Some, None, Result, Ok, Err}
use Rattle.rhai_tree.specs.declared.expr.Expr.TheOpen as layer
use Rattle.rhai_tree.specs.Layers.{ExprLayer}
use Rattle.rhai_machine.specs.Types.{Dynamic, EvalAltResult, Expr, OpAssignment, Position, Token, Union}
use Rattle.rhai_values.specs.declared.base.value.AccessMode.TheVariants.{ReadWrite}
use Rattle.rhai_values.specs.declared.base.value.Union.TheVariants as value
use Rattle.rhai_values.specs.Cells.{IsNoHandle}
use Rattle.rhai_values.specs.Modes.{with_mode}
use Rattle.rhai_errors.specs.Native.{Reply, Missing, Gives as Answers, Faults}
use Rattle.rhai_values.specs.ValueContents.{Reached}
use Rattle.rhai_operators.specs.Answers.{Answer, op_assign_of}
use Rattle.rhai_machine.specs.language.Setting.{Setting}
use Rattle.rhai_machine.specs.language.State.{Local}
use Rattle.rhai_machine.specs.language.Names.{bound_this}
use Rattle.rhai_machine.specs.language.Places.{Place, Target, is_barred, put, this_target}
use Rattle.rhai_machine.specs.language.Frames.{Attempt, InPlace, AsValue, Assignment, Update, Frame, Core, core, where_there}
use Rattle.rhai_machine.specs.language.Calls.{with_position, sized, applied}
use Rattle.rhai_machine.specs.language.Assignment.{native_of, to_this, assignment_move, written_core, done, if_fast, says_missing}
use Rattle.rhai_machine.specs.language.Assignment.{operation_of, target_left, update_core, assign_core, store_core, store_this, barred_core}
use Rattle.rhai_machine.specs.language.Assignment.{question_update, changed_core, fault_core, value_core, answered_core, lent_core}
use Rattle.rhai_machine.specs.language.Assignment.{call_update, fire_update}
use Rattle.rhai_fits.specs.Contents.{of_update}
use Rattle.rhai_fits.proofs.Values.{Fit}
use Rattle.rhai_fits.proofs.Copies.{fit_mode}
use Rattle.rhai_fits.proofs.Errors.{FitError, fit_error}
use Rattle.rhai_fits.proofs.Fitting.{AllFit, FitBelow, FitCore, Gives, Flat, FlatMaybe, to, fail, unit, push, on}
use Rattle.rhai_fits.proofs.Seeing.{FitValue, FitTarget, bound_gives, this_gives, put_below, mode_no_handle}
use Rattle.rhai_fits.proofs.Operators.{Answers as BuiltIn, assign_answers}
use Rattle.rhai_fits.proofs.Natives.{FitReply, Moves}
use Rattle.rhai_fits.proofs.Calls.{sized_gives, applied_gives}
use Rattle.rhai_fits.proofs.Firing.{placed_fits, replied_gives, lent_fits}

module _ {H : Type 0} (own : H → List Reached) (P : Reached → Type 0) (least : ℕ) where
  abbrev Good : Core H → Type 0
  Good c = FitCore own P least c

  abbrev Below : List (Frame H) → Local H → Type 0
  Below k l = FitBelow own P least k l

  -- a form that is there only where this is so
  pub there_good : (there : Bool) (c : Core H) → Good c → Moves own P least (where_there there c)
  there_good true c h = h
  there_good false c h = tt

  -- ---- the right side comes first

  to_this_good : (r : Result (Dynamic H) (EvalAltResult H)) (op : OpAssignment) (at : Position) (rhs : Expr) (k : List (Frame H))
      (l : Local H) → Gives own P least (FitValue own P least) r → Below k l → Good (to_this r op at rhs k l)
  to_this_good r op at rhs k l h b = on own P least (FitValue own P least) r _ k l h b
      (λ this f. to own P least _ _ l tt tt (push own P least _ k l tt tt b.back b))

  pub assignment_good : (form : ExprLayer) (op : OpAssignment) (rhs : Expr) (k : List (Frame H)) (l : Local H) → Below k l →
      Moves own P least (assignment_move form op rhs k l)
  assignment_good (layer.Variable offset name namespace pos) op rhs k l b =
      to own P least _ _ l tt tt (push own P least _ k l tt tt b.back b)
  assignment_good (layer.ThisPtr pos) op rhs k l b =
      to_this_good (bound_this pos l.this) op pos rhs k l (bound_gives own P least pos l.this b.local.this) b
  assignment_good (layer.Index lhs rest options pos) op rhs k l b = to own P least _ _ l tt tt (push own P least _ k l tt tt b.back b)
  assignment_good (layer.Dot lhs rest options pos) op rhs k l b = to own P least _ _ l tt tt (push own P least _ k l tt tt b.back b)
  assignment_good _ op rhs k l b = tt

  -- ---- what is written

  written_good : (r : Result (Dynamic H) (EvalAltResult H)) (place : Place) (k : List (Frame H)) (l : Local H) →
      Gives own P least (Flat own P least) r → Below k l → Good (written_core r place k l)
  written_good r place k l h b = on own P least (Flat own P least) r _ k l h b
      (λ v f. unit own P least k (put place v l) (put_below own P least place v k l b f))

  done_good : (r : Result (Dynamic H) (EvalAltResult H)) (k : List (Frame H)) (l : Local H) → Gives own P least (Flat own P least) r →
      Below k l → Good (core (done r) k l)
  done_good (Ok v) k l h b = unit own P least k l b
  done_good (Err e) k l h b = fail own P least e k l h b

  fast_fits : (fast : Bool) (r : Answer H) → BuiltIn own P least r → BuiltIn own P least (if_fast fast r)
  fast_fits true r h = h
  fast_fits false r h = tt

  abbrev pub FitUpdate : Update H → Type 0
  FitUpdate u = AllFit own P least (of_update u)

  module _ (s : Setting H) where
    update_good : (r : Answer H) (u : Update H) (k : List (Frame H)) (l : Local H) → BuiltIn own P least r → FitUpdate u → Below k l →
        Good (update_core s r u k l)
    update_good (Some r) u k l a h b =
        written_good (applied s.limits r u.at) u.place k l (applied_gives own P least s.limits r u.at a) b
    update_good None u k l a h b = to own P least _ k l h tt b

    pub assign_good : (token : Option Token) (assignment : Assignment) (target : Target H) (v : Dynamic H) (k : List (Frame H))
        (l : Local H) → Fit own P target.value → Flat own P least v → Below k l → Good (assign_core s token assignment target v k l)
    assign_good None assignment target v k l t f b = unit own P least k _ (put_below own P least target.place (with_mode ReadWrite v) k l b
        (fit_mode own P ReadWrite v f.0, mode_no_handle ReadWrite v.value f.1))
    assign_good (Some token) assignment target v k l t f b =
        update_good (if_fast s.offer.fast_operators (op_assign_of token target.value v)) _ k l
        (fast_fits s.offer.fast_operators (op_assign_of token target.value v) (assign_answers own P least token target.value v))
        (t, f.0) b

    pub store_good : (r : Result (Target H) (EvalAltResult H)) (assignment : Assignment) (v : Dynamic H) (k : List (Frame H))
        (l : Local H) → Gives own P least (FitTarget own P least) r → Flat own P least v → Below k l →
        Good (store_core s r assignment v k l)
    store_good r assignment v k l h f b = on own P least (FitTarget own P least) r _ k l h b
        (λ target t. assign_good assignment.op.op assignment target v k l t f b)

    pub store_this_good : (op : OpAssignment) (at : Position) (v : Dynamic H) (k : List (Frame H)) (l : Local H) → Flat own P least v →
        Below k l → Good (store_this s op at v k l)
    store_this_good op at v k l f b =
        store_good (this_target l.around.cells at l.this) _ v k l (this_gives own P least l at l.this b.local b.local.this) f b

    -- ---- the native of an update

    barred_good : (barred : Bool) (u : Update H) (k : List (Frame H)) (l : Local H) → FitUpdate u → Below k l →
        Good (barred_core s barred u k l)
    barred_good true u k l h b = fail own P least _ k l (fit_error own P _ tt) b
    barred_good false u k l h b = to own P least _ k l h tt b

    pub question_update_good : (u : Update H) (k : List (Frame H)) (l : Local H) → FitUpdate u → Below k l →
        Moves own P least (question_update s u k l)
    question_update_good u k l h b = λ pure. barred_good (is_barred pure u.target) u k l h b

    changed_good : (r : Result (Dynamic H) (EvalAltResult H)) (u : Update H) (k : List (Frame H)) (l : Local H) →
        Gives own P least (Flat own P least) r → Flat own P least u.target → Below k l → Good (changed_core s r u k l)
    changed_good r u k l h t b = on own P least (Flat own P least) r _ k l h b
        (λ v f. done_good (sized s.limits u.target u.target_at) k l (sized_gives own P least s.limits u.target u.target_at t) b)

    fault_good : (missing : Bool) (e : EvalAltResult H) (u : Update H) (k : List (Frame H)) (l : Local H) → FitError own P e →
        FitUpdate u → Below k l → Good (fault_core s missing e u k l)
    fault_good true e u k l h f b = to own P least _ k l f tt b
    fault_good false e u k l h f b = fail own P least e k l h b

    value_good : (r : Result (Dynamic H) (EvalAltResult H)) (u : Update H) (k : List (Frame H)) (l : Local H) →
        Gives own P least (Flat own P least) r → Below k l → Good (value_core s r u k l)
    value_good r u k l h b = on own P least (Flat own P least) r _ k l h b
        (λ v f. done_good (sized s.limits v u.target_at) k (put u.place v l) (sized_gives own P least s.limits v u.target_at f)
        (put_below own P least u.place v k l b f))

    answered_good : (attempt : Attempt) (reply : Reply H) (u : Update H) (k : List (Frame H)) (l : Local H) → FitReply own P least reply →
        FitUpdate u → Flat own P least u.target → Below k l → Good (answered_core s attempt reply u k l)
    answered_good InPlace Missing u k l r h t b =
        update_good (op_assign_of u.operator u.target u.operand) _ k l (assign_answers own P least u.operator u.target u.operand) h b
    answered_good InPlace (Answers v) u k l r h t b =
        changed_good (sized s.limits v u.at) u k l (sized_gives own P least s.limits v u.at r) t b
    answered_good InPlace (Faults e) u k l r h t b = fault_good (says_missing (native_of InPlace u.operator) e) (with_position u.at e) u
        k l
        (placed_fits own P least u.at e r) h b
    answered_good AsValue reply u k l r h t b = value_good _ u k l
        (replied_gives own P least s.limits s.host_type reply (Some u.target) (u.operand ∷ []) (operation_of u) false l.around.cells r) b

    left_flat : (u : Update H) (left : Option (Dynamic H)) → Flat own P least u.target → FlatMaybe own P least left →
        Flat own P least (target_left u left)
    left_flat u (Some v) t h = h
    left_flat u None t h = t

    lent_good : (reply : Reply H) (v : Dynamic H) (u : Update H) (k : List (Frame H)) (l : Local H) → FitReply own P least reply →
        FitUpdate u → Flat own P least v → Below k l → Good (lent_core s reply v u k l)
    lent_good reply v u k l r h f b =
        answered_good u.attempt reply (record u { target = v }) k (put u.place v l) r (f.0, h.1) f (put_below own P least u.place v k l b f)

    -- whatever the error, what waits below fits
    fault_below : (missing : Bool) (e : EvalAltResult H) (u : Update H) (k : List (Frame H)) (l : Local H) → Below k l →
        Below (fault_core s missing e u k l).stack (fault_core s missing e u k l).local
    fault_below true e u k l b = b
    fault_below false e u k l b = b

    run_out_below : (attempt : Attempt) (e : EvalAltResult H) (u : Update H) (k : List (Frame H)) (l : Local H) → Below k l →
        Below (answered_core s attempt (Faults e) u k l).stack (answered_core s attempt (Faults e) u k l).local
    run_out_below InPlace e u k l b = fault_below (says_missing (native_of InPlace u.operator) e) (with_position u.at e) u k l b
    run_out_below AsValue e u k l b = b

    call_update_good : (u : Update H) (k : List (Frame H)) (l : Local H) → FitUpdate u → Flat own P least u.target → Below k l →
        Moves own P least (call_update s u k l)
    call_update_good u k l h t b = record {
      asks = record {
        cells = lent_fits own P least s u.place l.around.cells b.local.cells;
        first = t;
        rest = (h.1, tt);
      };
      answered = λ reply left r g. lent_good reply (target_left u left) u k l r h (left_flat u left t g) b;
      out_in_native = λ e left g.
          run_out_below u.attempt e (record u { target = target_left u left }) k (put u.place (target_left u left) l)
          (put_below own P least u.place (target_left u left) k l b (left_flat u left t g));
    }

    fire_by_good : (w : Union H) (u : Update H) (k : List (Frame H)) (l : Local H) → u.target.value ≡ w → FitUpdate u → Below k l →
        Moves own P least (fire_update s w u k l)
    fire_by_good (value.Cell id) u k l is h b = fail own P least _ k l (fit_error own P _ tt) b
    fire_by_good _ u k l is h b = call_update_good u k l h (h.0, subst IsNoHandle (sym is) tt) b

    pub fire_update_good : (u : Update H) (k : List (Frame H)) (l : Local H) → FitUpdate u → Below k l →
        Moves own P least (fire_update s u.target.value u k l)
    fire_update_good u k l h b = fire_by_good u.target.value u k l refl h b
