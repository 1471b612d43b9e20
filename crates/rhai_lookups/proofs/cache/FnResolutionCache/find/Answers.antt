use Rattle.std.proofs.Common.{subst, ◌∙◌, ◌≡◌}
use Rattle.std.specs.List.{Contains}
use Rattle.rhai_functions.specs.Keys.{function_key_of}
use Rattle.rhai_lookups.specs.Keys.{key_kept}
use Rattle.rhai_lookups.specs.Lists.{kept_of}
use Rattle.rhai_lookups.proofs.Fitting.{right_of, some_by}
use Rattle.rhai_lookups.proofs.cache.FnResolutionCache.find.Goals as goal

pub returns-then-is : goal.returns-then-is
returns-then-is g c = λ lists extent fits.
    some_by (λ hit. Contains c.as_slice.result.now hit.found.now) (λ hit. key_kept hit.found.now.key ≡ function_key_of c.args.key.now)
    (λ hit. hit.found.now.kept ≡ kept_of lists (function_key_of c.args.key.now))
    (λ hit here is. right_of (kept_of lists) c.args.self.now hit.found.now (function_key_of c.args.key.now)
    (fits (c.is.ensures c.if-is.true ∙ extent))
    (subst (λ entries. Contains entries hit.found.now) c.as_slice.ensures here) is)
    c.find.result c.find.ensures.here c.find.ensures.key
