-- An error that comes down to the lowest frames leaves them.
use Rattle.std.proofs.Common.{refl, inl, inr, ◌∙◌, ap, arith, length-append}
use Rattle.std.specs.Prelude.{◌≡◌, ◌⊎◌, ◌+◌, ℕ, Bool, true, false, List, [], ◌∷◌, ◌++◌, length, Option, Some, None, Result, Ok, Err}
use Rattle.rhai_tree.specs.declared.expr.Expr.{out-Expr, Expr}
use Rattle.rhai_tree.specs.declared.expr.Ident.{Ident}
use Rattle.rhai_tree.specs.declared.expr.StmtBlock.{StmtBlock}
use Rattle.rhai_tree.specs.declared.position.Position.{Position}
use Rattle.rhai_values.specs.declared.base.value.Dynamic.{Dynamic}
use Rattle.rhai_errors.specs.declared.error.EvalAltResult.{EvalAltResult}
use Rattle.rhai_errors.specs.Errors.{is_catchable, is_system}
use Rattle.rhai_machine.specs.machine.Point.{Point, after}
use Rattle.rhai_machine.specs.machine.Memory.{Leads, here, next, out_before_step, out_in_native}
use Rattle.rhai_machine.specs.language.Setting.{Setting, Rules}
use Rattle.rhai_machine.specs.language.State.{Local, State}
use Rattle.rhai_machine.specs.language.Data.{parts_core, unprinted_core, with_part}
use Rattle.rhai_machine.specs.language.Frames.{Frame, Core, on_value, NewValue, Member, Property, Item, MemberAccess, Fail, TextPart}
use Rattle.rhai_machine.specs.language.Frames.{PrintedPart, RestoreScope, TryBody, CatchBranch, MemberGot, MemberSet, GetterTried}
use Rattle.rhai_machine.specs.language.Frames.{SetterTried, IndexerTried}
use Rattle.rhai_machine.specs.language.Members.{set_by, lacks_property, lacks_indexer, getter_missing, setter_missing, indexer_missing}
use Rattle.rhai_machine.specs.language.Tries.{catch_variable, branch_with, branch_core, tried_core}
use Rattle.rhai_machine.specs.language.Unwinding.{down_core, got_none}
use Rattle.rhai_machine.specs.language.Values.{unit_value}
use Rattle.rhai_machine.specs.language.Language.{machine}
use Rattle.rhai_machine.specs.language.Runs.{at}
use Rattle.rhai_limits.specs.Charging.{IsBeneath, IsStopped, StaysBeneath}
use Rattle.rhai_limits.proofs.Stopped.{stays_stopped}

module _ {A : Type 0} where
  -- what stands on a list is not the list, nor is it what another item on it makes
  pub no_more : (above k : List A) (x : A) → k ≡ above ++ x ∷ k → ⊥
  no_more above k x is =
      let lengths : length k ≡ length above + length (x ∷ k) = ap length is ∙ length-append above (x ∷ k) in
      omega (arith, lengths)

  one_more : (above k : List A) (new x : A) → (new ≡ x → ⊥) → new ∷ k ≡ above ++ x ∷ k → ⊥
  one_more [] k new x other is = other cc
  one_more (y ∷ above) k new x other is = no_more above k x cc

  two_more : (above k : List A) (newest new x : A) → (new ≡ x → ⊥) → newest ∷ new ∷ k ≡ above ++ x ∷ k → ⊥
  two_more [] k newest new x other is = let same : k ≡ new ∷ k = cc in no_more [] k new same
  two_more (y ∷ above) k newest new x other is = one_more above k new x other cc

module _ {H : Type 0} (s : Setting H) where
  with_gone : (full : Bool) (variable : Ident) (v : Dynamic H) (e : EvalAltResult H) (branch : StmtBlock) (k : List (Frame H)) (l : Local H)
      (name : Expr) (block : StmtBlock) →
      IsBeneath (TryBody name block ∷ k) (branch_with full variable v e branch k l).stack → ⊥
  with_gone true variable v e branch k l name block beneath = no_more beneath.0 k (TryBody name block) beneath.1
  with_gone false variable v e branch k l name block beneath =
      two_more beneath.0 k (CatchBranch e) (RestoreScope (length l.scope)) (TryBody name block) (λ same. cc) beneath.1

  branch_gone : (variable : Option Ident) (e : EvalAltResult H) (branch : StmtBlock) (k : List (Frame H)) (l : Local H)
      (name : Expr) (block : StmtBlock) → IsBeneath (TryBody name block ∷ k) (branch_core s variable e branch k l).stack → ⊥
  branch_gone None e branch k l name block beneath =
      one_more beneath.0 k (CatchBranch e) (TryBody name block) (λ same. cc) beneath.1
  branch_gone (Some variable) e branch k l name block beneath = with_gone _ variable _ e branch k l name block beneath

  tried_gone : (catches : Bool) (variable : Option Ident) (e : EvalAltResult H) (branch : StmtBlock) (k : List (Frame H)) (l : Local H)
      (name : Expr) (block : StmtBlock) → IsBeneath (TryBody name block ∷ k) (tried_core s catches variable e branch k l).stack → ⊥
  tried_gone true variable e branch k l name block beneath = branch_gone variable e branch k l name block beneath
  tried_gone false variable e branch k l name block beneath = no_more beneath.0 k (TryBody name block) beneath.1

  parts_gone : (text : List ℕ) (rest : List Expr) (k : List (Frame H)) (l : Local H)
      (old type : List ℕ) (at : Position) (others : List Expr) →
      IsBeneath (PrintedPart old type at others ∷ k) (parts_core text rest k l).stack → ⊥
  parts_gone text [] k l old type at others beneath = no_more beneath.0 k (PrintedPart old type at others) beneath.1
  parts_gone text (part ∷ rest) k l old type at others beneath =
      one_more beneath.0 k (TextPart text _ rest) (PrintedPart old type at others) (λ same. cc) beneath.1

  part_gone : (r : Result (List ℕ) (EvalAltResult H)) (rest : List Expr) (k : List (Frame H)) (l : Local H)
      (old type : List ℕ) (at : Position) (others : List Expr) →
      IsBeneath (PrintedPart old type at others ∷ k) (on_value r (λ more. parts_core more rest k l) k l).stack → ⊥
  part_gone (Ok more) rest k l old type at others beneath = parts_gone more rest k l old type at others beneath
  part_gone (Err e) rest k l old type at others beneath = no_more beneath.0 k (PrintedPart old type at others) beneath.1

  unprinted_gone : (passes : Bool) (e : EvalAltResult H) (text type : List ℕ) (at : Position) (rest : List Expr)
      (k : List (Frame H)) (l : Local H) →
      IsBeneath (PrintedPart text type at rest ∷ k) (unprinted_core s passes e text type at rest k l).stack → ⊥
  unprinted_gone true e text type at rest k l beneath = no_more beneath.0 k (PrintedPart text type at rest) beneath.1
  unprinted_gone false e text type at rest k l beneath =
      part_gone (with_part s.limits text type at) rest k l text type at rest beneath

  set_gone : (member : Member H) (access : MemberAccess H) (v : Dynamic H) (k : List (Frame H)) (l : Local H)
      (got : MemberAccess H) (root : Expr) (new : NewValue H) →
      IsBeneath (MemberGot got root new ∷ k) (set_by member false access v (MemberSet unit_value ∷ k) l).stack → ⊥
  set_gone (Property name at) access v k l got root new beneath =
      two_more beneath.0 k (SetterTried access name v false) (MemberSet unit_value) (MemberGot got root new) (λ same. cc) beneath.1
  set_gone (Item index) access v k l got root new beneath =
      one_more beneath.0 k (MemberSet unit_value) (MemberGot got root new) (λ same. cc) beneath.1

  got_gone : (lacks : Bool) (member : Member H) (e : EvalAltResult H) (access : MemberAccess H) (root : Expr) (new : NewValue H)
      (k : List (Frame H)) (l : Local H) →
      IsBeneath (MemberGot access root new ∷ k) (got_none s lacks member e access new k l).stack → ⊥
  got_gone true (Item index) e access root new k l beneath = set_gone access.member access new.value k l access root new beneath
  got_gone true (Property name at) e access root new k l beneath = no_more beneath.0 k (MemberGot access root new) beneath.1
  got_gone false (Item index) e access root new k l beneath = no_more beneath.0 k (MemberGot access root new) beneath.1
  got_gone false (Property name at) e access root new k l beneath = no_more beneath.0 k (MemberGot access root new) beneath.1

  getter_gone : (lacks : Bool) (e : EvalAltResult H) (access : MemberAccess H) (name : List ℕ) (k : List (Frame H)) (l : Local H) →
      IsBeneath (GetterTried access name ∷ k) (getter_missing lacks e access name k l).stack → ⊥
  getter_gone true e access name k l beneath =
      one_more beneath.0 k (IndexerTried (Err e)) (GetterTried access name) (λ same. cc) beneath.1
  getter_gone false e access name k l beneath = no_more beneath.0 k (GetterTried access name) beneath.1

  setter_gone : (lacks : Bool) (e : EvalAltResult H) (access : MemberAccess H) (name : List ℕ) (v : Dynamic H) (ignores : Bool)
      (k : List (Frame H)) (l : Local H) →
      IsBeneath (SetterTried access name v ignores ∷ k) (setter_missing lacks e access name v ignores k l).stack → ⊥
  setter_gone true e access name v ignores k l beneath =
      one_more beneath.0 k (IndexerTried _) (SetterTried access name v ignores) (λ same. cc) beneath.1
  setter_gone false e access name v ignores k l beneath = no_more beneath.0 k (SetterTried access name v ignores) beneath.1

  indexer_gone : (lacks : Bool) (e : EvalAltResult H) (otherwise : Result (Dynamic H) (EvalAltResult H)) (k : List (Frame H))
      (l : Local H) → IsBeneath (IndexerTried otherwise ∷ k) (indexer_missing lacks e otherwise k l).stack → ⊥
  indexer_gone true e otherwise k l beneath = no_more beneath.0 k (IndexerTried otherwise) beneath.1
  indexer_gone false e otherwise k l beneath = no_more beneath.0 k (IndexerTried otherwise) beneath.1

  -- a frame that an error comes down to is gone
  down_gone : (frame : Frame H) (e : EvalAltResult H) (k : List (Frame H)) (l : Local H) →
      IsBeneath (frame ∷ k) (down_core s frame e k l).stack → ⊥
  down_gone (TryBody name block) e k l beneath =
      tried_gone (is_catchable e) (catch_variable (out-Expr name)) e block k l name block beneath
  down_gone (PrintedPart text type at rest) e k l beneath = unprinted_gone (is_system e) e text type at rest k l beneath
  down_gone (MemberGot access root new) e k l beneath = got_gone (lacks_indexer e) access.member e access root new k l beneath
  down_gone (GetterTried access name) e k l beneath = getter_gone (lacks_property e) e access name k l beneath
  down_gone (SetterTried access name v ignores) e k l beneath = setter_gone (lacks_property e) e access name v ignores k l beneath
  down_gone (IndexerTried otherwise) e k l beneath = indexer_gone (lacks_indexer e) e otherwise k l beneath
  down_gone frame e k l beneath = no_more beneath.0 k frame beneath.1

module _ {S H : Type 0} (rules : Rules S H) (allows : ℕ → Bool) where
  begins_beneath : (k : List (Frame H)) {p q : Point S (Core H)} (run : Leads (machine rules) allows p q) →
      StaysBeneath rules allows k run → IsBeneath k p.core.stack
  begins_beneath k here beneath = beneath
  begins_beneath k (next run) beneath = beneath.0
  begins_beneath k (out_before_step run) beneath = beneath.0
  begins_beneath k (out_in_native is e first state left run) beneath = beneath.0

  -- where frames stay beneath, an error that has come down to them is not dealt with: it stays there, unless memory runs out
  pub stays_failed : {q : Point S (Core H)} (e : EvalAltResult H) (k : List (Frame H)) (s : State S H)
      (run : Leads (machine rules) allows (at (Fail e) k s) q) → StaysBeneath rules allows k run →
      (q ≡ at (Fail e) k s) ⊎ IsStopped q.core
  unfolding after
  stays_failed e k s here beneath = inl refl
  stays_failed e [] s (next run) beneath = stays_failed e [] s run beneath.1
  stays_failed e (frame ∷ k) s (next run) beneath =
      absurd (down_gone rules.setting frame e k s.local (begins_beneath (frame ∷ k) run beneath.1))
  stays_failed e k s (out_before_step {at = position} run) beneath = inr (stays_stopped rules allows run (inr (position, refl)))
  stays_failed e [] s (out_in_native is problem first state left run) beneath = cc
  stays_failed e (frame ∷ k) s (out_in_native is problem first state left run) beneath = cc
