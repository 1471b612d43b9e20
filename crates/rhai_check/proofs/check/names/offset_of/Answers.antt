use Rattle.std.proofs.Common.{◌≡◌, false, sym, ap, ◌∙◌, arith, take}
use Rattle.std.specs.Str.{bytes_eq}
use Rattle.rhai_tree.specs.Names.{offset_of}
use Rattle.rhai_check.proofs.Offsets.{moved, offset-next, moved_up, moved_none}
use Rattle.rhai_check.proofs.check.names.offset_of.Goals as goal
use Rattle.rhai_check.proofs.check.names.offset_of.Goals.{then-eq, else-eq+then-offset-gt0, else-eq+else-offset-gt0}

pub each-preserved : goal.each-preserved
each-preserved c =
    let next = offset-next c.args.name.now c.args.names.now c.each.other-index c.other-item.result c.each-test.true c.other-item.is in
    let same : bytes_eq c.other-item.result c.args.name.now ≡ c.eq.result = cc in
    elim c.if-eq.branch [
      | then-eq w ↦
          let tested : moved (offset_of c.args.name.now (take c.each.other-index c.args.names.now))
          (bytes_eq c.other-item.result c.args.name.now) ≡ 1 = ap (moved _) (same ∙ w.if-eq.true) in
          record { offset = w.offset-is ∙ sym (next ∙ tested); within = omega arith }
      | else-eq+then-offset-gt0 w ↦
          let tested : moved (offset_of c.args.name.now (take c.each.other-index c.args.names.now))
          (bytes_eq c.other-item.result c.args.name.now) ≡ moved c.each.offset false = cc in
          record { offset = w.offset-is ∙ sym (next ∙ tested ∙ moved_up c.each.offset (omega arith)); within = omega arith }
      | else-eq+else-offset-gt0 w ↦
          let tested : moved (offset_of c.args.name.now (take c.each.other-index c.args.names.now))
          (bytes_eq c.other-item.result c.args.name.now) ≡ moved c.each.offset false = cc in
          record { offset = w.offset-is ∙ sym (next ∙ tested ∙ moved_none c.each.offset (omega arith)); within = omega arith }
    ]
