use Rattle.std.specs.Prelude.{◌≡◌, map, drop, IsTrue}
use Rattle.rhai_check.specs.Around.{Continues, above, around}
use Rattle.rhai_tree.specs.Forms.{any_of}
use Rattle.rhai_check.specs.MemoryNeeds.{any_need, needs_of, stmt_needs_memory, conditional_needs_memory}
use Rattle.rhai_tree.specs.Frame.{tests_of, resolves_stmt, all_resolve_exprs, all_resolve, entries_resolve, tests_of_entry}
use Rattle.rhai_tree.specs.Frame.{resolves_conditional, conditionals_resolve}
use Rattle.rhai_tree.specs.Names.{Frame}
use Rattle.rhai_tree.specs.WellFormed.{seen_expr, seen_stmt, seen_entry, faults_in_all, faults_in_entries, faults_in_list}
use Rattle.rhai_tree.specs.WellFormed.{seen_conditional, faults_in_conditionals}
use Rattle.rhai_check.proofs.check.+check.Given as goal

abbrev pub invariant-expr::check_exprs-each : goal.invariant-expr::check_exprs-each
invariant-expr::check_exprs-each l = record {
  same : l.declared ≡ l.fn.declared;
  faults : faults_in_all (map seen_expr l.exprs) (around l.fn.declared l.place) ≡ faults_in_all (map seen_expr (drop l.expr-index l.exprs))
      (around l.fn.declared l.place);
  resolved : (base : Frame) → all_resolve_exprs (map tests_of l.exprs) (above base l.fn.declared) ≡ all_resolve_exprs
      (map tests_of (drop l.expr-index l.exprs)) (above base l.fn.declared);
  declares : IsTrue (any_need (map needs_of (drop l.expr-index l.exprs))) → IsTrue (any_need (map needs_of l.exprs));
}

abbrev pub invariant-stmt::check_statements-each : goal.invariant-stmt::check_statements-each
invariant-stmt::check_statements-each l = record {
  begins : Continues l.fn.declared l.declared;
  faults : faults_in_list (map seen_stmt l.statements) (around l.fn.declared l.place) ≡ faults_in_list
      (map seen_stmt (drop l.statement-index l.statements)) (around l.declared l.place);
  resolved : (base : Frame) → all_resolve (map resolves_stmt l.statements) (above base l.fn.declared) ≡ all_resolve
      (map resolves_stmt (drop l.statement-index l.statements)) (above base l.declared);
  declares : IsTrue (any_of (map stmt_needs_memory (drop l.statement-index l.statements))) →
      IsTrue (any_of (map stmt_needs_memory l.statements));
}

abbrev pub invariant-expr::check_entries-each : goal.invariant-expr::check_entries-each
invariant-expr::check_entries-each l = record {
  same : l.declared ≡ l.fn.declared;
  faults : faults_in_entries (map seen_entry l.entries) (around l.fn.declared l.place) ≡ faults_in_entries
      (map seen_entry (drop l.entry-index l.entries)) (around l.fn.declared l.place);
  resolved : (base : Frame) → entries_resolve (map tests_of_entry l.entries) (above base l.fn.declared) ≡ entries_resolve
      (map tests_of_entry (drop l.entry-index l.entries)) (above base l.fn.declared);
}

abbrev pub invariant-stmt::check_conditionals-each : goal.invariant-stmt::check_conditionals-each
invariant-stmt::check_conditionals-each l = record {
  same : l.declared ≡ l.fn.declared;
  faults : faults_in_conditionals (map seen_conditional l.conditionals) (around l.fn.declared l.place) ≡ faults_in_conditionals
      (map seen_conditional (drop l.conditional-index l.conditionals)) (around l.fn.declared l.place);
  resolved : (base : Frame) → conditionals_resolve (map resolves_conditional l.conditionals) (above base l.fn.declared)
      ≡ conditionals_resolve (map resolves_conditional (drop l.conditional-index l.conditionals)) (above base l.fn.declared);
  declares : IsTrue (any_of (map conditional_needs_memory (drop l.conditional-index l.conditionals)))
      → IsTrue (any_of (map conditional_needs_memory l.conditionals));
}
