use Rattle.std.proofs.Common.{sym, ap, ◌∙◌, set}
use Rattle.std.specs.Int.{w64, cast_signed}
use Rattle.rhai_spots.specs.Bits.{integer, digits}
use Rattle.rhai_places.proofs.BitsLemmas.{set_on, set_off, set_on_fits, set_off_fits, stored, read}
use Rattle.rhai_places.proofs.bits.with_bit.Goals as goal

pub returns-then-on : goal.returns-then-on
returns-then-on c =
    let u = c.cast_unsigned-bits.result in
    stored _ _ c.cast_signed.ensures (set_on_fits u c.args.at c.cast_unsigned-bits.type_inv c.requires)
    ∙ ap (cast_signed w64) (set_on u c.args.at c.cast_unsigned-bits.type_inv c.requires)
    ∙ (λ i. integer (set (digits 64 (read c.args.number u c.ranges.number c.cast_unsigned-bits.ensures i)) c.args.at (sym c.if-on.true i)))

pub returns-else-on : goal.returns-else-on
returns-else-on c =
    let u = c.cast_unsigned-bits.result in
    stored _ _ c.cast_signed-else-on.ensures (set_off_fits u c.args.at c.cast_unsigned-bits.type_inv c.requires)
    ∙ ap (cast_signed w64) (set_off u c.args.at c.cast_unsigned-bits.type_inv c.requires)
    ∙ (λ i. integer (set (digits 64 (read c.args.number u c.ranges.number c.cast_unsigned-bits.ensures i)) c.args.at (sym c.if-on.false i)))
