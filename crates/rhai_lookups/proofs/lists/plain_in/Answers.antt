use Rattle.std.proofs.Common.{ap, sym, ◌≡◌, ◌∙◌, true, false, Some, None}
use Rattle.std.specs.Option.{option_map}
use Rattle.rhai_functions.specs.Called.{function_of}
use Rattle.rhai_functions.specs.Functions.{in_modules}
use Rattle.rhai_functions.specs.Keys.{function_key_of}
use Rattle.rhai_functions.specs.Words.{has_own_meaning}
use Rattle.rhai_lookups.proofs.Fitting.{plain_of, some_by}
use Rattle.rhai_lookups.proofs.Stacks.{newest_fits}
use Rattle.rhai_lookups.proofs.lists.plain_in.Goals as goal

pub returns-in-Some-clause-found : goal.returns-in-Some-clause-found
returns-in-Some-clause-found g c = λ all.
    some_by (λ def. c.in-Some.hit.found.now.kept.in_libraries ≡ true)
    (λ def. c.in-Some.hit.found.now.kept.found ≡ Some (record { def = def; environ = None }))
    (λ def. option_map function_of (in_modules (function_key_of c.args.key.now) c.args.lib.now) ≡ Some
    (record { def = def; environ = None }))
    (λ def library found. plain_of (c.args.lib.now, c.args.imports.now) (function_key_of c.args.key.now) c.in-Some.hit.found.now.kept _
    (c.in-Some.ensures (c.args.lib.now, c.args.imports.now) c.count-extent.ensures (newest_fits (c.args.lib.now, c.args.imports.now)
    c.args.caches.now.levels all))
    library found) c.plain-def.result c.plain-def.ensures.libraries c.plain-def.ensures.found

pub returns-in-Some-clause-meaning : goal.returns-in-Some-clause-meaning
returns-in-Some-clause-meaning g c = λ all.
    some_by (λ def. c.in-Some.hit.found.now.kept.is_word ≡ false) (λ def. c.in-Some.hit.found.now.kept.is_word ≡ false)
    (λ def. has_own_meaning c.args.key.now.name.now ≡ false)
    (λ def plain also. sym (ap (λ kept. kept.is_word)
    (c.in-Some.ensures (c.args.lib.now, c.args.imports.now) c.count-extent.ensures (newest_fits (c.args.lib.now, c.args.imports.now)
    c.args.caches.now.levels all))) ∙ plain)
    c.plain-def.result c.plain-def.ensures.meaning c.plain-def.ensures.meaning
