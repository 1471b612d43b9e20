use Rattle.std.proofs.Common.{◌+◌, ◌*◌}
use Rattle.rhai_vectors.proofs.reader.Reader.+nested.Given as goal

abbrev pub decreases-array : goal.decreases-array
decreases-array l = 3 * l.depth + 2

abbrev pub decreases-map : goal.decreases-map
decreases-map l = 3 * l.depth + 2

abbrev pub decreases-content : goal.decreases-content
decreases-content l = 3 * l.depth

abbrev pub decreases-nested : goal.decreases-nested
decreases-nested l = 3 * l.depth + 1
