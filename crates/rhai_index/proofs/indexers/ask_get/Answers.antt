use Rattle.std.proofs.Common.{◌≡◌, ap, ◌∙◌, ◌∷◌, []}
use Rattle.rhai_index.proofs.Reached.{may_stay}
use Rattle.rhai_index.proofs.indexers.ask_get.Goals as goal

pub returns-in-Ok-clause-asked : goal.returns-in-Ok-clause-asked
returns-in-Ok-clause-asked g c =
    let lent = c.as_slice-args.ensures ∙ c.in-Ok.ensures.ok ∙ ap (λ v. v ∷ []) c.replace.ensures.value in
    let first : c.index-args-0.result ≡ c.args.index.now = rw lent at c.index-args-0.is in
    rw (c.is_barred-barred.ensures, c.is_pure_on-is_pure.ensures, first, lent) at c.call_indexer-result.ensures.leaves

pub returns-in-Ok-clause-reached : goal.returns-in-Ok-clause-reached
returns-in-Ok-clause-reached g c =
    let lent = c.as_slice-args.ensures ∙ c.in-Ok.ensures.ok ∙ ap (λ v. v ∷ []) c.replace.ensures.value in
    rw lent at c.call_indexer-result.ensures.reached

pub returns-in-Err-clause-reached : goal.returns-in-Err-clause-reached
returns-in-Err-clause-reached g c = may_stay _ _ _ _ _ _ _ _ c.requires
