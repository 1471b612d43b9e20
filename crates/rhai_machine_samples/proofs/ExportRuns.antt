-- The sample runs of `export`.
use Rattle.std.proofs.Common.{refl}
use Rattle.std.specs.Prelude.{ℕ, List}
use Rattle.rhai_tree.specs.declared.expr.Stmt.TheVariants as stmt
use Rattle.rhai_machine_samples.specs.Runs.{Table}
use Rattle.rhai_machine_samples.specs.Exports.{Exports}
use Rattle.rhai_machine_samples.proofs.SampleRuns.{opened, by_steps}

ruleset exporting = (opened, stmt.outs-Export, stmt.outs-Noop)

module _ {S H : Type 0} (table : Table S H) (host : H → List ℕ) where
  pub exports : Exports table host
  exports = record {
    newest = by_steps _ _ 20 (simp exporting) refl;
    once = by_steps _ _ 20 (simp exporting) refl;
    unknown = by_steps _ _ 20 (simp exporting) refl;
    refused = by_steps _ _ 20 (simp exporting) refl;
    declared = by_steps _ _ 20 (simp exporting) refl;
    constant = by_steps _ _ 20 (simp exporting) refl;
  }
