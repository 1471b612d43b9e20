-- What each part of an assignment keeps, on every way out.
use Rattle.std.specs.Prelude.{◌≡◌, ◌≤◌, ℕ}
use Rattle.rhai_values.specs.Cells.{IsHeld, cells_of}
use Rattle.rhai_state.specs.declared.scope.Scope.{Scope}
use Rattle.rhai_lookups.specs.declared.run.RunState.{RunState}
use Rattle.rhai_state.specs.Scope.{names_in}

module _ {H : Type 0} (old new : RunState H) where
  -- the count never falls, and the scope keeps its names
  pub record Keeps (before after : Scope H) : Type 0 where
    pub counts : old.num_operations ≤ new.num_operations
    pub names : names_in after ≡ names_in before

  -- the count never falls, and nothing else of the state changes
  pub record Charges : Type 0 where
    pub counts : old.num_operations ≤ new.num_operations
    pub rest : new ≡ record old { num_operations = new.num_operations }

  -- the count never falls, and a cell that is held stays held
  pub record KeepsHeld : Type 0 where
    pub counts : old.num_operations ≤ new.num_operations
    pub held : (number : ℕ) → IsHeld (cells_of old.cells) number → IsHeld (cells_of new.cells) number
