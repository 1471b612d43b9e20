-- The tables of constants.
use Rattle.std.proofs.Common.{◌≡◌, ℕ, zero, suc, Bool, true, List, [], ◌∷◌, slice_get, slice_set, Some, Result, Ok, Err, OnOk, refl, ap}
use Rattle.rhai_values.specs.declared.base.value.Dynamic.{Dynamic}
use Rattle.rhai_values.specs.Copy.{copy_of}
use Rattle.rhai_state.specs.declared.scope.Scope.{Scope}
use Rattle.rhai_lookups.specs.declared.run.RunState.{RunState}
use Rattle.rhai_machine.specs.language.State.{Held}
use Rattle.rhai_machine.specs.language.Statements.{constant_core, with_entry_at}
use Rattle.rhai_steps.specs.States.{local_of}

-- what is set to what is there stays
pub set_again : {A : Type 0} (xs : List A) (at : ℕ) (x y : A) → y ≡ x → slice_get xs at ≡ Some x → slice_set xs at y ≡ xs
set_again [] at x y is there = refl
set_again (z ∷ zs) zero x y is there = let same : z ≡ x = cc in rw (is, same) refl
set_again (z ∷ zs) (suc at) x y is there = ap (λ rest. z ∷ rest) (set_again zs at x y is there)

module _ {H : Type 0} (old new : RunState H) (scope : Scope H) (held : Held H) (name : List ℕ) (v : Dynamic H) where
  -- a constant is entered into the current table
  pub enters_table : {E : Type 0} (r : Result (Unit {0}) E) (enters : Bool) → enters ≡ true →
      OnOk r (new ≡ record old {
        constant_tables = with_entry_at name (copy_of v) old.constant_tables old.constants
            (slice_get old.constant_tables old.constants);
      }) →
      OnOk r (local_of new scope held ≡ constant_core enters name v (local_of old scope held))
  enters_table (Ok x) enters is same = rw (is, same) refl
  enters_table (Err e) enters is same = tt
