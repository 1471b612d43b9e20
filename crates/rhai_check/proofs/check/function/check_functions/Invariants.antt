use Rattle.std.specs.Prelude.{◌≡◌, ◌++◌, IsTrue}
use Rattle.std.specs.Vec.Iter.{into_iter_items}
use Rattle.rhai_check.specs.MemoryNeeds.{has_functions}
use Rattle.rhai_tree.specs.WellFormed.{faults_in_functions}
use Rattle.rhai_check.proofs.check.function.check_functions.Given as goal

abbrev pub invariant-each : goal.invariant-each
invariant-each l = record {
  passed : l.fn.defs ≡ l.functions ++ into_iter_items l.def-iterator;
  faults : faults_in_functions l.fn.defs ≡ faults_in_functions (into_iter_items l.def-iterator);
  some : IsTrue (has_functions (into_iter_items l.def-iterator)) → IsTrue (has_functions l.fn.defs);
}
