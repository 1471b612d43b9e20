use Rattle.std.proofs.Common.{ap, sym, ◌∙◌, ◌==◌}
use Rattle.std.specs.Int.{w64, bit_at, cast_unsigned}
use Rattle.std.proofs.lemmas.Nat.Bits.{shr_and_one}
use Rattle.std.proofs.lemmas.Int.{to_z-of_z}
use Rattle.rhai_places.proofs.BitsLemmas.{digit_at}
use Rattle.rhai_places.proofs.bits.bit.Goals as goal

pub returns : goal.returns
returns c =
    ap (λ x. x == 1) (shr_and_one c.cast_unsigned.result c.args.at
    ∙ ap (λ n. bit_at n c.args.at) (c.cast_unsigned.ensures ∙ ap (cast_unsigned w64) (to_z-of_z w64 c.args.number c.ranges.number)))
    ∙ sym (digit_at 64 (cast_unsigned w64 c.args.number) c.args.at _ c.requires)
