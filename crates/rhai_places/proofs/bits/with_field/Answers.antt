use Rattle.std.proofs.Common.{◌≡◌, ◌<◌, ◌≤◌, ◌-◌, ◌*◌, ◌%◌, ◌^◌, sym, ap, ◌∙◌, arith, take, bit_and, bit_or, pow_pos}
use Rattle.std.specs.Int.{w64, bit_not, cast_signed, cast_unsigned}
use Rattle.std.specs.List.{replace_range}
use Rattle.std.proofs.Math.Facts.{Fits-of_z}
use Rattle.std.proofs.Math.Pow.{pow_mono}
use Rattle.rhai_spots.specs.Bits.{digits, bits, number, integer}
use Rattle.rhai_places.proofs.BitsLemmas.{stored, read, number-digits}
use Rattle.rhai_places.proofs.FieldLemmas.{merged_is, merged-fits, replaced-none}
use Rattle.rhai_places.proofs.bits.with_field.Goals as goal

pub returns-then-start-end : goal.returns-then-start-end
returns-then-start-end c =
    ap (cast_signed w64) (sym (number-digits 64 (cast_unsigned w64 c.args.number) (Fits-of_z c.ranges.number).fits)
    ∙ ap number (sym (replaced-none (bits c.args.number) c.args.start c.args.end (bits c.args.value) c.if-start-end.true)))

pub overflow_sub-mask : goal.overflow_sub-mask
overflow_sub-mask c =
    let grows : 2 ^ c.args.start ≤ 2 ^ c.args.end = pow_mono c.requires.ordered in
    rw (c.ones.ensures, c.ones-2.ensures) (omega arith)

pub returns : goal.returns
returns c =
    let u = c.cast_unsigned-2.result in
    let v = c.cast_unsigned.result in
    let s = c.args.start in
    let e = c.args.end in
    let grows : 2 ^ s ≤ 2 ^ e = pow_mono c.requires.ordered in
    let some : 0 < 2 ^ s = pow_pos s in
    let mask : c.ones.result - c.ones-2.result ≡ 2 ^ e - 2 ^ s = rw (c.ones.ensures, c.ones-2.ensures) (omega arith) in
    stored _ _ (c.cast_signed.ensures ∙ ap (λ m. cast_signed w64 (bit_or (bit_and u (bit_not w64 m)) (bit_and (v * 2 ^ s % 2 ^ 64) m)))
    mask)
    (merged-fits u v s e c.requires.ordered c.requires.within c.cast_unsigned-2.type_inv)
    ∙ ap (cast_signed w64) (merged_is u v s e c.requires.ordered c.requires.within c.cast_unsigned-2.type_inv)
    ∙ (λ i. integer (replace_range (digits 64 (read c.args.number u c.ranges.number c.cast_unsigned-2.ensures i)) s e
    (take (e - s) (digits 64 (read c.args.value v c.ranges.value c.cast_unsigned.ensures i)))))
