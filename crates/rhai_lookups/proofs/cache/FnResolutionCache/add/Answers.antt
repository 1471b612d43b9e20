use Rattle.std.proofs.Common.{sym, ap, ◌∙◌}
use Rattle.std.proofs.lemmas.List.Elements.{All-push}
use Rattle.rhai_lookups.specs.Fits.{IsRight}
use Rattle.rhai_lookups.proofs.cache.FnResolutionCache.add.Goals as goal

pub returns-clause-right : goal.returns-clause-right
returns-clause-right g c = λ finds is right.
    rw c.in_ok-push.ensures.ok (All-push (IsRight finds) c.args.self.now.entries _ right
    (c.in_ok-shared.ensures ∙ is ∙ ap finds (sym c.in_ok-key_of_entry.ensures)))
