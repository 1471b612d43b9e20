use Rattle.std.proofs.Common.{◌≡◌, ◌∙◌, ap, arith, [], ◌∷◌, ◌++◌, ◌+◌, take}
use Rattle.std.proofs.lemmas.Grind.{common_steps}
use Rattle.rhai_check.specs.declared.check.declared.Declared.{Declared}
use Rattle.rhai_check.proofs.check.function.check_def.Goals as goal

pub each-preserved : goal.each-preserved
each-preserved c =
    let before : c.each.declared.names ≡ take c.each.param-index c.args.def.now.params = ap (λ (d : Declared). d.names) c.each.invariant in
    let next : c.each.declared.names ++ c.param-item.result ∷ [] ≡ take (c.each.param-index + 1) c.args.def.now.params =
    grind (arith, common_steps) in
    c.in_ok-declare.ensures.added ∙ (λ i. record { names = next i; imports = (c.each.invariant i).imports })
