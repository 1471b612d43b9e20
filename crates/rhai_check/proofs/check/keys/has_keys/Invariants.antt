use Rattle.std.specs.Prelude.{◌≡◌, [], drop, map}
use Rattle.rhai_tree.specs.Keys.{all_stand, filled, key_of}
use Rattle.rhai_check.proofs.check.keys.has_keys.Given as goal

abbrev pub invariant-each : goal.invariant-each
invariant-each l = record {
  stand : all_stand (map key_of l.entries) l.template.0 ≡ all_stand (map key_of (drop l.entry-index l.entries)) l.template.0;
  filled : filled (map key_of l.entries) ([], []) ≡ filled (map key_of (drop l.entry-index l.entries)) l.keys;
}
