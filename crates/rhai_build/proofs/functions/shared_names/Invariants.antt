use Rattle.std.specs.Prelude.{◌≡◌, map, take}
use Rattle.rhai_build.proofs.functions.shared_names.Given as goal

-- so far the names that were gone over
abbrev pub invariant-names : goal.invariant-names
invariant-names l = l.made ≡ map (λ n. n.now) (take l.name-index l.names)
