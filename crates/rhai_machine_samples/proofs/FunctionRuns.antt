-- The sample runs of functions of scripts.
use Rattle.std.proofs.Common.{refl}
use Rattle.std.specs.Prelude.{ℕ, List}
use Rattle.rhai_tree.specs.declared.expr.Expr.TheVariants as expr
use Rattle.rhai_values.specs.declared.base.value.FnPtr.{out-roll-FnPtr}
use Rattle.rhai_values.specs.declared.base.value.Module.{out-roll-Module}
use Rattle.rhai_values.specs.declared.base.value.ModuleFn.{out-roll-ModuleFn}
use Rattle.rhai_values.specs.declared.base.value.Union.TheVariants as kind
use Rattle.rhai_values.proofs.CopyLemmas.{copy-pointer, copy-FnPtr}
use Rattle.rhai_machine_samples.specs.Runs.{Table}
use Rattle.rhai_machine_samples.specs.Functions.{ThisSamples, Constants}
use Rattle.rhai_machine_samples.proofs.SampleRuns.{opened, placed, measured, by_steps}

-- what a library has
ruleset libraries = (out-roll-Module, out-roll-ModuleFn)

ruleset running = (
  libraries,
  opened,
  expr.outs-StringConstant,
  expr.outs-ThisPtr,
  expr.outs-Dot,
  expr.outs-MethodCall,
)

ruleset pointing = (running, kind.outs-FnPtr, out-roll-FnPtr, copy-FnPtr, copy-pointer)

ruleset changing = (running, placed, measured, kind.outs-Int)

module _ {S H : Type 0} (table : Table S H) (host : H → List ℕ) where
  pub objects : ThisSamples table host
  objects = record {
    read = by_steps _ _ 20 (simp running) refl;
    assigned = by_steps _ _ 20 (simp running) refl;
    constant_this = by_steps _ _ 20 (simp (running, placed)) refl;
    unbound = by_steps _ _ 20 (simp running) refl;
    unassigned = by_steps _ _ 20 (simp (running, placed)) refl;
  }

  pub constants : Constants table host
  constants = record {
    entered = by_steps _ _ 30 (simp running) refl;
    without_library = by_steps _ _ 30 (simp running) refl;
  }
