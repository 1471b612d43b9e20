-- How a `try` leads on.
use Rattle.std.proofs.Common.{◌≡◌, ℕ, Bool, true, false, List, [], ◌∷◌, ◌++◌, Option, Some, None, Result, Ok, Err, length, refl}
use Rattle.std.proofs.Common.{append-nil, take}
use Rattle.std.specs.Prelude.{nat_le}
use Rattle.std.proofs.Math.Seq.{take-append_seam}
use Rattle.rhai_tree.specs.declared.expr.Expr.{Expr, out-Expr}
use Rattle.rhai_tree.specs.declared.expr.Ident.{Ident}
use Rattle.rhai_tree.specs.declared.expr.StmtBlock.{StmtBlock}
use Rattle.rhai_values.specs.declared.base.value.Dynamic.{Dynamic}
use Rattle.rhai_errors.specs.declared.error.EvalAltResult.{EvalAltResult}
use Rattle.rhai_errors.specs.declared.error.EvalAltResult.TheVariants as error
use Rattle.rhai_state.specs.declared.scope.Scope.{Scope}
use Rattle.rhai_lookups.specs.declared.run.RunState.{RunState}
use Rattle.rhai_state.specs.Scope.{entries_of, new_entry}
use Rattle.rhai_values.specs.declared.base.value.AccessMode.TheVariants.{ReadWrite}
use Rattle.rhai_errors.specs.Errors.{is_catchable, is_out_of_memory}
use Rattle.rhai_machine.specs.machine.Machine.{Go}
use Rattle.rhai_machine.specs.machine.Point.{after}
use Rattle.rhai_machine.specs.machine.Memory.{here, next, out_before_step, Leads}
use Rattle.rhai_machine.specs.language.Frames.{Back, CatchBranch, core, ended, Enter, Fail, Frame, RestoreScope, TryBody}
use Rattle.rhai_machine.specs.language.Runs.{at, with_core}
use Rattle.rhai_machine.specs.language.Setting.{Rules, cut}
use Rattle.rhai_machine.specs.language.State.{Held, State}
use Rattle.rhai_machine.specs.language.Tries.{branch_core, branch_with, catch_variable}
use Rattle.rhai_machine.specs.language.Language.{machine}
use Rattle.rhai_steps.specs.States.{local_of, state_of}
use Rattle.rhai_steps.proofs.Pieces.{faulted, step_by}
use Rattle.rhai_stmt.specs.Branches.{bound, left_by, room_for_caught}

err_same : {A E : Type 0} (r : Result A E) (x y : E) → r ≡ Err x → r ≡ Err y → x ≡ y
err_same r x y this that = cc

never : {A E : Type 0} {x : A} (e : E) → Err e ≡ Ok x → ⊥
never e is = cc

module _ {S H : Type 0} (rules : Rules S H) (k : List (Frame H)) where
  module _ (variable : Expr) (branch : StmtBlock) where
    -- the body went well, or ended by an error that passes
    pub try_done : (v : Dynamic H) (l : State S H) →
        Leads (machine rules) (cut rules) (at (Back v) (TryBody variable branch ∷ k) l) (at (Back v) k l)
    unfolding after
    try_done v l = next here

    pub try_passes : (e : EvalAltResult H) (l : State S H) → is_catchable e ≡ false →
        Leads (machine rules) (cut rules) (at (Fail e) (TryBody variable branch ∷ k) l) (at (Fail e) k l)
    try_passes e l is = step_by rules _ _ (Go (core (Fail e) k l.local)) (rw is refl) here

    -- or by one that is caught
    pub try_catches : (e : EvalAltResult H) (l : State S H) → is_catchable e ≡ true →
        Leads (machine rules) (cut rules) (at (Fail e) (TryBody variable branch ∷ k) l)
        (with_core (branch_core rules.setting (catch_variable (out-Expr variable)) e branch k l.local) l)
    try_catches e l is = step_by rules _ _ (Go (branch_core rules.setting (catch_variable (out-Expr variable)) e branch k l.local))
        (rw is refl) here

  -- what comes out of a branch, below which the scope goes back to its length
  pub branch_left : (caught : EvalAltResult H) (r : Result (Dynamic H) (EvalAltResult H)) (l : State S H) →
      Leads (machine rules) (cut rules) (at (ended r) (CatchBranch caught ∷ k) l) (at (ended (left_by l.local.around.cells caught r)) k l)
  unfolding after
  branch_left caught (Ok v) l = next here
  branch_left caught (Err e) l = next here

  -- ---- its variable

  -- what waits below a branch
  abbrev pub below : Option Ident → (length : ℕ) → List (Frame H)
  below None length = k
  below (Some variable) length = RestoreScope length ∷ k

  module _ (caught : EvalAltResult H) (branch : StmtBlock) (l : State S H) where
    with_not : (full : Bool) (variable : Ident) (v : Dynamic H) (e : EvalAltResult H) →
        (is_out_of_memory e ≡ false → Err e ≡ room_for_caught (Some variable) full) →
        Leads (machine rules) (cut rules) (with_core (branch_with full variable v caught branch k l.local) l) (at (Fail e) k l)
    unfolding after
    with_not true variable v e told = faulted rules e (error.ErrorTooManyVariables variable.pos) (λ m. err_same _ _ _ refl (told m)) k l
    with_not false variable v (error.ErrorOutOfMemory pos) told =
        out_before_step {at = pos} (next (next (rw (take-append_seam l.local.scope (new_entry variable.name ReadWrite v ∷ [])) here)))
    with_not false variable v e told = absurd (never e (told refl))

    -- it has no room, or memory runs out
    pub branch_not : (o : Option Ident) (e : EvalAltResult H) →
        (is_out_of_memory e ≡ false → Err e ≡ room_for_caught o (nat_le rules.setting.limits.max_variables (length l.local.scope))) →
        Leads (machine rules) (cut rules) (with_core (branch_core rules.setting o caught branch k l.local) l) (at (Fail e) k l)
    unfolding after
    branch_not (Some variable) e told = with_not _ variable _ e told
    branch_not None (error.ErrorOutOfMemory pos) told = out_before_step {at = pos} (next here)
    branch_not None e told = absurd (never e (told refl))

  -- it is there
  module _ (caught : EvalAltResult H) (branch : StmtBlock) (t : S) (global : RunState H) (old new : Scope H) (held : Held H)
      (base : ℕ) (there : base ≡ length (entries_of old)) where
    with_bound : (full : Bool) (variable : Ident) (v : Dynamic H) → Ok tt ≡ room_for_caught {H = H} (Some variable) full →
        entries_of new ≡ entries_of old ++ new_entry variable.name ReadWrite v ∷ [] →
        Leads (machine rules) (cut rules)
        (with_core (branch_with full variable v caught branch k (local_of global old held)) (state_of t global old held))
        (at (Enter branch.statements true) (CatchBranch caught ∷ RestoreScope base ∷ k) (state_of t global new held))
    with_bound true variable v told is = cc
    with_bound false variable v told is = rw (is, there) here

    pub branch_on : (o : Option Ident) →
        Ok tt ≡ room_for_caught {H = H} o (nat_le rules.setting.limits.max_variables (length (entries_of old))) →
        entries_of new ≡ entries_of old ++ bound o global.source caught →
        Leads (machine rules) (cut rules)
        (with_core (branch_core rules.setting o caught branch k (local_of global old held)) (state_of t global old held))
        (at (Enter branch.statements true) (CatchBranch caught ∷ below o base) (state_of t global new held))
    branch_on None told is = rw (is, append-nil (entries_of old)) here
    branch_on (Some variable) told is = with_bound _ variable _ told is

  -- and gone
  pub scope_back : (o : Option Ident) (r : Result (Dynamic H) (EvalAltResult H)) (n : ℕ) (t : S) (global : RunState H)
      (old new : Scope H) (held : Held H) → (o ≡ None → take n (entries_of old) ≡ entries_of old) →
      entries_of new ≡ take n (entries_of old) →
      Leads (machine rules) (cut rules) (at (ended r) (below o n) (state_of t global old held))
      (at (ended r) k (state_of t global new held))
  unfolding after
  scope_back None r n t global old new held whole is = rw (is, whole refl) here
  scope_back (Some variable) (Ok v) n t global old new held whole is = next (rw is here)
  scope_back (Some variable) (Err e) n t global old new held whole is = next (rw is here)
