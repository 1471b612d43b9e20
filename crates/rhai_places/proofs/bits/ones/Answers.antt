use Rattle.std.proofs.Common.{ap, ◌≡◌, ◌∙◌, ◌-◌, ◌^◌, arith}
use Rattle.std.proofs.lemmas.Nat.Bits.{ones_shr}
use Rattle.rhai_places.proofs.bits.ones.Goals as goal

pub returns-else-width-eq0 : goal.returns-else-width-eq0
returns-else-width-eq0 c =
    ones_shr 64 (64 - c.args.width) (omega arith) ∙ ap (λ n. 2 ^ n - 1) (let back :
    64 - (64 - c.args.width) ≡ c.args.width = omega arith in back)
