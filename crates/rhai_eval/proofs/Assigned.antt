-- An assignment to what a target shows: what comes of it, how it ends, and what it keeps.
use Rattle.std.proofs.Common.{◌≡◌, Bool, true, false, List, [], ◌∷◌, Option, Some, None, Result, Ok, Err, inl, inr, refl, sym, ap, subst}
use Rattle.std.proofs.Common.{◌∙◌, arith}
use Rattle.std.specs.Prelude.{ℕ, OnOk, OnErr, IfErr}
use Rattle.rhai_tree.specs.declared.expr.Expr.{Expr}
use Rattle.rhai_tree.specs.declared.position.Position.{Position}
use Rattle.rhai_values.specs.declared.base.value.Dynamic.{Dynamic}
use Rattle.rhai_errors.specs.declared.error.EvalAltResult.{EvalAltResult}
use Rattle.rhai_errors.specs.declared.error.EvalAltResult.TheVariants as error
use Rattle.rhai_spots.specs.declared.spot.Spot.{Spot}
use Rattle.rhai_spots.specs.declared.part.Part.{Part}
use Rattle.rhai_spots.specs.declared.part.Part.TheVariants as part
use Rattle.rhai_spots.specs.PutBack.{put_back, IsNotPut}
use Rattle.rhai_spots.specs.Targets.{propagated, IsNotPropagated}
use Rattle.rhai_machine.specs.machine.Machine.{Go}
use Rattle.rhai_machine.specs.machine.Memory.{here, out_before_step, ◌⨾◌, Leads}
use Rattle.rhai_machine.specs.language.Setting.{Rules, cut}
use Rattle.rhai_machine.specs.language.State.{HasMemory, Local, State}
use Rattle.rhai_machine.specs.language.Values.{unit_value}
use Rattle.rhai_machine.specs.language.Frames.{NewValue, Frame, Core, core, ended, ended_or_changed, Changed, Fail, MemberSet, PartMethod}
use Rattle.rhai_machine.specs.language.Chains.{assign_focus}
use Rattle.rhai_machine.specs.language.Members.{focused_on}
use Rattle.rhai_machine.specs.language.Runs.{at, Goes}
use Rattle.rhai_machine.specs.language.Unwinding.{put_back_error, part_changed}
use Rattle.rhai_machine.specs.language.Language.{machine}
use Rattle.rhai_laws.specs.Kept.{Kept}
use Rattle.rhai_laws.proofs.Keeping.{Asked, Keeps, after, calm}
use Rattle.rhai_laws.proofs.KeptChains.{assign_focus_keeps}
use Rattle.rhai_laws.proofs.KeptLaws.{around_same, kept_from}
use Rattle.rhai_steps.proofs.Pieces.{step_by}
use Rattle.rhai_steps.specs.Follows.{Follows, Does, FindsNoMemory}
use Rattle.rhai_calls.specs.Targets.{ComesBack}
use Rattle.rhai_eval.specs.Assigned.{assigned, target_assigned, value_assigned, without_value}
use Rattle.rhai_eval.specs.Ends.{EndsAlone, EndsAssigned}
use Rattle.rhai_eval.proofs.ChangedCalls.{ends_changed}

module _ {H : Type 0} where
  -- what comes of a part that is put back
  pub put_comes : (host : H → List ℕ) (what : Part H) (place left : Dynamic H) (pos : Position) (r : Result (Unit {0}) (EvalAltResult H)) →
      OnOk r (propagated what place ≡ Some left) → OnErr r (left ≡ place) → IfErr r (λ e. IsNotPropagated host what place pos e) →
      ComesBack host what place pos (Ok (unit_value, true)) (assigned r) left
  put_comes host what place left pos (Ok done) put stays refused = (refl, put)
  put_comes host what place left pos (Err e) put stays refused = (stays, refused)

  -- memory did not run out
  had_memory : (r : Result (Unit {0}) (EvalAltResult H)) → HasMemory r → (pos : Position) →
      assigned r ≡ Err (error.ErrorOutOfMemory pos) → ⊥
  had_memory (Ok done) has pos is = cc
  had_memory (Err e) has pos is =
      let same : e ≡ error.ErrorOutOfMemory pos = cc in let no : true ≡ false = rw same at has in cc

  pub assigned_memory : (r : Result (Unit {0}) (EvalAltResult H)) → HasMemory r → HasMemory (assigned r)
  assigned_memory (Ok done) has = tt
  assigned_memory (Err e) has = has

  -- the same out-of-memory error, once the value is left out
  same_run_out : (r : Result (Dynamic H) (EvalAltResult H)) (q : Result (Unit {0}) (EvalAltResult H)) (pos : Position) →
      q ≡ without_value r →
      r ≡ Err (error.ErrorOutOfMemory pos) → assigned q ≡ Err (error.ErrorOutOfMemory pos)
  same_run_out r q pos is is_out = ap (λ (x : Result (Unit {0}) (EvalAltResult H)). assigned x) is
      ∙ ap (λ (x : Result (Dynamic H) (EvalAltResult H)). assigned (without_value x)) is_out

module _ {S H : Type 0} (rules : Rules S H) where
  -- a state where this is worked on
  abbrev working : Dynamic H → State S H → State S H
  working v s = record s { local = focused_on (Some v) s.local }

  -- ---- a value

  -- what it answers is left out, and `()` comes back as `Changed`
  comes_changed : (r : Result (Dynamic H) (EvalAltResult H)) (k : List (Frame H)) (s : State S H) →
      Leads (machine rules) (cut rules) (at (ended r) (MemberSet unit_value ∷ k) s) (at (ended_or_changed (assigned (without_value r))) k s)
  comes_changed (Ok v) k s = step_by rules _ _ (Go (core (Changed unit_value) k s.local)) refl here
  comes_changed (Err e) k s = step_by rules _ _ (Go (core (Fail e) k s.local)) refl here

  pub value_follows : (root : Expr) (n : NewValue H) (s t : State S H) (r : Result (Dynamic H) (EvalAltResult H))
      (q : Result (Unit {0}) (EvalAltResult H)) → q ≡ without_value r → Follows rules ended (assign_focus rules.setting root n) s r t →
      Follows rules ended_or_changed (value_assigned rules.setting root n) s (assigned q) t
  unfolding Goes
  value_follows root n s t r q is (Does go) =
      Does (λ k. rw is (go (MemberSet unit_value ∷ k) ⨾ comes_changed r k t))
  value_follows root n s t r q is (FindsNoMemory pos is_out same) = FindsNoMemory pos (same_run_out r q pos is is_out) same

  -- ---- a part

  module _ (above x : Dynamic H) (spot : Spot) (pos : Position) (k : List (Frame H)) (s : State S H) where
    -- the stack while a part is assigned to
    abbrev over : List (Frame H)
    over = PartMethod above spot pos ∷ k

    -- it goes back
    goes_back : (left : Dynamic H) → put_back above spot x ≡ Some left →
        Leads (machine rules) (cut rules) (at (Changed unit_value) over (working x s)) (at (Changed unit_value) k (working left s))
    goes_back left is = step_by rules _ _ (Go (core (Changed unit_value) k (focused_on (Some left) s.local)))
        (ap (λ (whole : Option (Dynamic H)). Go (part_changed rules.setting whole above spot pos unit_value k (working x s).local)) is) here

    -- an error comes down, and the place is as it was
    comes_down : (e : EvalAltResult H) →
        Leads (machine rules) (cut rules) (at (Fail e) over (working x s)) (at (Fail e) k (working above s))
    comes_down e = step_by rules _ _ (Go (core (Fail e) k (focused_on (Some above) s.local))) refl here

    not_back : put_back above spot x ≡ None →
        Leads (machine rules) (cut rules) (at (Changed unit_value) over (working x s))
        (at (Fail (put_back_error rules.setting spot x pos)) k (working above s))
    not_back is = step_by rules _ _ (Go (core (Fail (put_back_error rules.setting spot x pos)) k (focused_on (Some above) s.local)))
        (ap (λ (whole : Option (Dynamic H)). Go (part_changed rules.setting whole above spot pos unit_value k (working x s).local)) is) here

    -- and so it is where the part is not taken back
    is_refused : (e : EvalAltResult H) → IsNotPut rules.setting.host_type above spot x pos e →
        Leads (machine rules) (cut rules) (at (Changed unit_value) over (working x s)) (at (Fail e) k (working above s))
    is_refused (error.ErrorOutOfMemory p) is = out_before_step {at = p} (comes_down (error.ErrorOutOfMemory p))
    is_refused e is = rw (is refl).1 (not_back (is refl).0)

    -- what comes of it
    answer_comes : (outcome result : Result (Unit {0}) (EvalAltResult H)) (left : Dynamic H) →
        ComesBack rules.setting.host_type (part.Of spot x) above pos (assigned outcome) (assigned result) left →
        Leads (machine rules) (cut rules) (at (ended_or_changed (assigned outcome)) over (working x s))
        (at (ended_or_changed (assigned result)) k (working left s))
    answer_comes (Ok done) (Ok back) left is = goes_back left is.1
    answer_comes (Ok done) (Err e) left is =
        subst (λ (y : Dynamic H).
        Leads (machine rules) (cut rules) (at (Changed unit_value) over (working x s)) (at (Fail e) k (working y s))) (sym is.0)
        (is_refused e is.1)
    answer_comes (Err e) (Ok back) left is = cc (is.0)
    answer_comes (Err e) (Err y) left is = let same : y ≡ e = cc (is.0) in rw (same, is.1) (comes_down e)

  module _ (root : Expr) (n : NewValue H) (spot : Spot) (above v w left : Dynamic H) (s t : State S H) where
    -- memory ran out before it, and nothing is done
    assigned_runs_out : (outcome result : Result (Unit {0}) (EvalAltResult H)) (pos : Position) →
        assigned outcome ≡ Err (error.ErrorOutOfMemory pos) → working w t ≡ working v s →
        ComesBack rules.setting.host_type (part.Of spot w) above n.op.position (assigned outcome) (assigned result) left →
        Follows rules ended_or_changed (target_assigned rules.setting root n (part.Of spot v) above) (working above s) (assigned result)
        (working left t)
    assigned_runs_out (Ok done) result pos is same comes = cc
    assigned_runs_out (Err e) result pos is same comes = FindsNoMemory pos (comes.0 ∙ is)
        (ap (λ (x : Dynamic H). working x t) comes.1 ∙ ap (λ (x : State S H). working above x) same)

    pub part_follows : (outcome result : Result (Unit {0}) (EvalAltResult H)) →
        Follows rules ended_or_changed (value_assigned rules.setting root n) (working v s) (assigned outcome) (working w t) →
        ComesBack rules.setting.host_type (part.Of spot w) above n.op.position (assigned outcome) (assigned result) left →
        Follows rules ended_or_changed (target_assigned rules.setting root n (part.Of spot v) above) (working above s) (assigned result)
        (working left t)
    unfolding Goes
    part_follows outcome result (Does runs) comes = Does (λ k.
        runs (PartMethod above spot n.op.position ∷ k) ⨾ answer_comes above w spot n.op.position k t outcome result left comes)
    part_follows outcome result (FindsNoMemory pos is same) comes = assigned_runs_out outcome result pos is same comes

  -- ---- how it ends

  pub assigned_ends : (begins : List (Frame H) → Local H → Core H) (old new : State S H) (r : Result (Unit {0}) (EvalAltResult H)) →
      Follows rules ended_or_changed begins old (assigned r) new → EndsAssigned rules begins old r new
  unfolding Goes
  assigned_ends begins old new r (Does runs) =
      let ends = ends_changed rules old new (assigned r) begins runs in
      record { runs = λ memory. ends.runs (assigned_memory r memory); up_to = inr ends.up_to }
  assigned_ends begins old new r (FindsNoMemory pos is same) =
      record { runs = λ memory k. absurd (had_memory r memory pos is); up_to = inl same }

  -- with nothing behind it, where it had memory
  pub assigned_alone : (begins : List (Frame H) → Local H → Core H) (old new : State S H) (r : Result (Dynamic H × Bool)
      (EvalAltResult H)) →
      Follows rules ended_or_changed begins old r new → HasMemory r → EndsAlone rules begins old new
  unfolding Goes
  assigned_alone begins old new r (Does runs) memory = (r, (ends_changed rules old new r begins runs).runs memory [])
  assigned_alone begins old new (Ok v) (FindsNoMemory pos is same) memory = cc
  assigned_alone begins old new (Err e) (FindsNoMemory pos is same) memory =
      let is_out : e ≡ error.ErrorOutOfMemory pos = cc in let no : true ≡ false = rw is_out at memory in cc

  -- ---- what it keeps

  -- nothing that was not done is changed
  same_kept : (s : State S H) → Kept rules s s
  same_kept s = record {
    counts = omega arith;
    within = λ le. le;
    around = around_same s.local.around;
    imports = refl;
    scope_level = refl;
    bound = refl;
  }

  -- it begins as an assignment to a focus does
  begin_keeps : (a : Asked) (root : Expr) (n : NewValue H) (what : Part H) (place : Dynamic H) (k : List (Frame H)) (l : Local H) →
      Keeps a (calm k l) (target_assigned rules.setting root n what place k l)
  begin_keeps a root n part.Whole place k l = after a (calm (MemberSet unit_value ∷ k) l) refl (λ t. t)
      (assign_focus_keeps a rules.setting root n (MemberSet unit_value ∷ k) l)
  begin_keeps a root n (part.Temporary v) place k l = after a (calm (MemberSet unit_value ∷ k) l) refl (λ t. t)
      (assign_focus_keeps a rules.setting root n (MemberSet unit_value ∷ k) l)
  begin_keeps a root n (part.Of at v) place k l =
      after a (calm (MemberSet unit_value ∷ PartMethod place at n.op.position ∷ k) (focused_on (Some v) l)) refl (λ t. t)
      (assign_focus_keeps a rules.setting root n (MemberSet unit_value ∷ PartMethod place at n.op.position ∷ k) (focused_on (Some v) l))

  pub assigned_kept : (root : Expr) (n : NewValue H) (what : Part H) (place : Dynamic H) (old new : State S H)
      (r : Result (Unit {0}) (EvalAltResult H)) →
      Follows rules ended_or_changed (target_assigned rules.setting root n what place) old (assigned r) new → Kept rules old new
  unfolding Goes
  assigned_kept root n what place old new r (Does runs) =
      kept_from rules (target_assigned rules.setting root n what place [] old.local) (ended_or_changed (assigned r)) old new
      (λ a. begin_keeps a root n what place [] old.local) (runs [])
  assigned_kept root n what place old new r (FindsNoMemory pos is same) =
      subst (λ (s : State S H). Kept rules old s) (sym same) (same_kept old)

-- ---- under what is read of an engine

module _ {S H : Type 0} {read rules : Rules S H} (reads : read ≡ rules) (root : Expr) (n : NewValue H) where
  -- an assignment is one under its rules
  pub assigned_under : (what : Part H) (place : Dynamic H) (old new : State S H) (r : Result (Unit {0}) (EvalAltResult H)) →
      Follows read ended_or_changed (target_assigned read.setting root n what place) old (assigned r) new →
      Follows rules ended_or_changed (target_assigned rules.setting root n what place) old (assigned r) new
  assigned_under what place old new r follows = rw reads at follows

  -- and so is one with nothing behind it
  pub alone_under : (old new : State S H) → EndsAlone read (value_assigned read.setting root n) old new →
      EndsAlone rules (value_assigned rules.setting root n) old new
  alone_under old new ends = rw reads at ends
