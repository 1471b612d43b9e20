use Rattle.std.proofs.Common.{◌≡◌, ◌∙◌, ◌++◌, true}
use Rattle.rhai_tree.specs.Names.{is_good}
use Rattle.rhai_tree.specs.Reading.{faulty, sound}
use Rattle.rhai_check.proofs.Offsets.{good_above}
use Rattle.rhai_check.proofs.Shared.{shared_next}
use Rattle.rhai_check.proofs.check.names.check_shared.Goals as goal

pub each-preserved : goal.each-preserved
each-preserved c =
    let good : is_good c.variable-item.result.offset c.variable-item.result.ident.name c.args.names.now ≡ true = cc in
    record {
      faults = c.each.invariant.faults ∙ shared_next faulty c.args.variables.now c.each.variable-index c.variable-item.result
          c.args.names.now c.each-test.true c.variable-item.is good;
      resolved = λ base. c.each.invariant.resolved base ∙ shared_next sound c.args.variables.now c.each.variable-index
          c.variable-item.result (base ++ c.args.names.now) c.each-test.true c.variable-item.is
          (good_above base c.variable-item.result.offset c.variable-item.result.ident.name c.args.names.now good);
    }
