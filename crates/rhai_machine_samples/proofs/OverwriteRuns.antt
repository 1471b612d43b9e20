-- The sample runs of a `let` that overwrites a variable.
use Rattle.std.proofs.Common.{refl}
use Rattle.std.specs.Prelude.{ℕ, List}
use Rattle.std.specs.declared.num.NonZeroUsize.{NonZeroUsize}
use Rattle.rhai_values.specs.declared.base.value.Module.{out-roll-Module}
use Rattle.rhai_values.specs.declared.base.value.ModuleFn.{out-roll-ModuleFn}
use Rattle.rhai_machine_samples.specs.Runs.{Table}
use Rattle.rhai_machine_samples.specs.Overwrites.{Overwrites}
use Rattle.rhai_machine_samples.proofs.SampleRuns.{opened, by_steps}

ruleset overwriting = (opened, out-roll-Module, out-roll-ModuleFn)

module _ {S H : Type 0} (table : Table S H) (host : H → List ℕ) (index : NonZeroUsize) where
  pub overwrites : Overwrites table host index
  overwrites = record {
    newest = by_steps _ _ 20 (simp overwriting) refl;
    constant = by_steps _ _ 20 (simp overwriting) refl;
    before = by_steps _ _ 20 (simp overwriting) refl;
    full = by_steps _ _ 20 (simp overwriting) refl;
    exported = by_steps _ _ 20 (simp overwriting) refl;
    once = by_steps _ _ 20 (simp overwriting) refl;
    fails = by_steps _ _ 20 (simp overwriting) refl;
    handle = by_steps _ _ 20 (simp overwriting) refl;
    entered = by_steps _ _ 30 (simp overwriting) refl;
    missing = by_steps _ _ 20 (simp overwriting) refl;
  }
