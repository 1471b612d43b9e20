use Rattle.std.specs.Prelude.{◌≡◌, ◌++◌, drop, List}
use Rattle.rhai_tree.specs.Frame.{shared_among}
use Rattle.rhai_tree.specs.Names.{Name}
use Rattle.rhai_tree.specs.WellFormed.{shared_faults}
use Rattle.rhai_check.proofs.check.names.check_shared.Given as goal

abbrev pub invariant-each : goal.invariant-each
invariant-each l = record {
  faults : shared_faults l.variables l.names ≡ shared_faults (drop l.variable-index l.variables) l.names;
  resolved : (base : List Name) → shared_among l.variables (base ++ l.names) ≡ shared_among (drop l.variable-index l.variables)
      (base ++ l.names);
}
