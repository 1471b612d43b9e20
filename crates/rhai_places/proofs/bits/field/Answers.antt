use Rattle.std.proofs.Common.{ap, ◌∙◌, ◌/◌, ◌^◌, bit_and, arith}
use Rattle.std.specs.Int.{w64, cast_signed}
use Rattle.std.proofs.lemmas.Int.{to_z-of_z}
use Rattle.rhai_places.proofs.BitsLemmas.{field-some, field-all, masked-fits, stored, read}
use Rattle.rhai_places.proofs.bits.field.Goals as goal

pub returns-then-width-eq64 : goal.returns-then-width-eq64
returns-then-width-eq64 c =
    to_z-of_z w64 c.args.number c.ranges.number ∙ field-all c.args.number c.args.start c.args.end c.requires.within c.if-width-eq64.true
    c.ranges.number

pub returns-else-width-eq64 : goal.returns-else-width-eq64
returns-else-width-eq64 c =
    let u = c.cast_unsigned.result in
    stored _ _ (c.cast_signed.ensures ∙ ap (λ m. cast_signed w64 (bit_and (u / 2 ^ c.args.start) m)) c.ones.ensures)
    (masked-fits u c.args.start c.args.end c.requires.ordered c.requires.within)
    ∙ field-some c.args.number u c.args.start c.args.end c.requires.ordered c.requires.within (omega arith)
    (read c.args.number u c.ranges.number c.cast_unsigned.ensures)
