-- The sample runs of `import`.
use Rattle.std.proofs.Common.{refl}
use Rattle.std.specs.Prelude.{ℕ, List}
use Rattle.rhai_tree.specs.declared.expr.Expr.TheVariants as expr
use Rattle.rhai_tree.specs.declared.expr.Stmt.TheVariants as stmt
use Rattle.rhai_machine.specs.Types.{Import, Module}
use Rattle.rhai_machine_samples.specs.Runs.{Table}
use Rattle.rhai_machine_samples.specs.Imports.{Imports}
use Rattle.rhai_machine_samples.proofs.SampleRuns.{placed, measured, by_steps}

ruleset importing = (placed, measured, stmt.outs-Import, stmt.outs-Noop, expr.outs-StringConstant)

module _ {S H : Type 0} (table : Table S H) (host : H → List ℕ) (m other : Module H) (older : Import H) where
  pub imports : Imports table host m other older
  imports = record {
    aliased = by_steps _ _ 20 (simp importing) refl;
    without = by_steps _ _ 20 (simp importing) refl;
    last = by_steps _ _ 20 (simp importing) refl;
    full = by_steps _ _ 20 (simp importing) refl;
    unknown = by_steps _ _ 20 (simp importing) refl;
    missing = by_steps _ _ 20 (simp importing) refl;
    no_text = by_steps _ _ 20 (simp importing) refl;
    handle = by_steps _ _ 20 (simp importing) refl;
    refused = by_steps _ _ 20 (simp importing) refl;
    inside = by_steps _ _ 20 (simp importing) refl;
    path = by_steps _ _ 50 (simp importing) refl;
    greatest = by_steps _ _ 50 (simp importing) refl;
  }
