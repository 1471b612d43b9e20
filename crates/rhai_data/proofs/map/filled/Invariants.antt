use Rattle.std.specs.Prelude.{◌≡◌, [], drop, map}
use Rattle.std.specs.Vec.Iter.{into_iter_items}
use Rattle.rhai_tree.specs.Keys.{key_of}
use Rattle.rhai_machine.specs.language.Data.{filled}
use Rattle.rhai_data.proofs.map.filled.Given as goal

abbrev pub invariant-each : goal.invariant-each
invariant-each g l = filled (map key_of l.entries) l.fn.values ([], []) ≡ filled (map key_of (drop l.entry-index l.entries))
    (into_iter_items l.rest) l.table
