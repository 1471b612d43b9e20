-- The sample runs of shared variables.
use Rattle.std.proofs.Common.{refl}
use Rattle.std.specs.Prelude.{ℕ, List}
use Rattle.rhai_tree.specs.declared.expr.Stmt.TheVariants as stmt
use Rattle.rhai_machine_samples.specs.Runs.{Table}
use Rattle.rhai_machine_samples.specs.Shares.{Shares}
use Rattle.rhai_machine_samples.proofs.SampleRuns.{opened, by_steps}

ruleset sharing = (opened, stmt.outs-Share, stmt.outs-Noop)

module _ {S H : Type 0} (table : Table S H) (host : H → List ℕ) where
  pub shares : Shares table host
  shares = record {
    one_by_one = by_steps _ _ 20 (simp sharing) refl;
    innermost = by_steps _ _ 20 (simp sharing) refl;
    handles = by_steps _ _ 20 (simp sharing) refl;
    nothing = by_steps _ _ 20 (simp sharing) refl;
    refused = by_steps _ _ 20 (simp sharing) refl;
  }
