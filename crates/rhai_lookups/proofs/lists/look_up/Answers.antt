use Rattle.std.proofs.Common.{ap, ◌∙◌, subst, ◌≡◌}
use Rattle.std.specs.Prelude.{IfOk}
use Rattle.rhai_functions.specs.Keys.{function_key_of}
use Rattle.rhai_lookups.specs.Lists.{kept_of}
use Rattle.rhai_lookups.proofs.Stacks.{all_current, newest_fits}
use Rattle.rhai_lookups.proofs.lists.look_up.Goals as goal

pub returns-in-Some-clause-kept : goal.returns-in-Some-clause-kept
returns-in-Some-clause-kept g c = λ all.
    subst (λ kept. IfOk c.share-kept.result (λ shared. shared ≡ kept))
    (c.in-Some.ensures (c.args.lib.now, c.args.imports.now) c.count-extent.ensures (newest_fits (c.args.lib.now, c.args.imports.now)
    c.args.caches.now.levels all))
    c.share-kept.ensures

pub returns-clause-all : goal.returns-clause-all
returns-clause-all g c = λ all.
    all_current (c.args.lib.now, c.args.imports.now) c.args.caches.now.levels c.keep.new.self.levels c.keep.ensures.below
    (c.keep.ensures.current (c.args.lib.now, c.args.imports.now) c.count-extent.ensures (c.in_ok-kept.ensures
    ∙ ap (λ lib. kept_of (lib, c.as_slice-2.result.now) (function_key_of c.args.key.now)) c.as_slice.ensures
    ∙ ap (λ imports. kept_of (c.args.lib.now, imports) (function_key_of c.args.key.now)) c.as_slice-2.ensures)
    (newest_fits (c.args.lib.now, c.args.imports.now) c.args.caches.now.levels all)) all
