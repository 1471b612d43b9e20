use Rattle.std.proofs.Common.{ap, ◌∙◌, is_some}
use Rattle.rhai_functions.specs.Called.{function_of}
use Rattle.rhai_functions.specs.Keys.{function_key_of}
use Rattle.rhai_lookups.specs.Lists.{among, kept_of}
use Rattle.rhai_lookups.proofs.Stacks.{all_current, newest_fits}
use Rattle.rhai_lookups.proofs.Choices.{some_map}
use Rattle.rhai_lookups.proofs.lists.is_there.Goals as goal

pub returns-in-Some-clause-found : goal.returns-in-Some-clause-found
returns-in-Some-clause-found g c = λ fits.
    c.is_some-is_found.ensures ∙ ap (λ kept. is_some kept.found)
    (c.in-Some.ensures (c.args.lib.now, c.args.imports.now) c.count-extent.ensures fits)
    ∙ some_map function_of (among (function_key_of c.args.key.now) (c.args.lib.now, c.args.imports.now))

pub returns-in-Ok-clause-all : goal.returns-in-Ok-clause-all
returns-in-Ok-clause-all g c = λ all.
    all_current (c.args.lib.now, c.args.imports.now) c.args.caches.now.levels c.keep.new.self.levels c.keep.ensures.below
    (c.keep.ensures.current (c.args.lib.now, c.args.imports.now) c.count-extent.ensures (c.in-Ok.ensures
    ∙ ap (λ lib. kept_of (lib, c.as_slice-4.result.now) (function_key_of c.args.key.now)) c.as_slice-3.ensures
    ∙ ap (λ imports. kept_of (c.args.lib.now, imports) (function_key_of c.args.key.now)) c.as_slice-4.ensures)
    (newest_fits (c.args.lib.now, c.args.imports.now) c.args.caches.now.levels all)) all
