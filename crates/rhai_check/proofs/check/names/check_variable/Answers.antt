use Rattle.std.proofs.Common.{◌≡◌, [], true, if◌then◌else◌}
use Rattle.rhai_tree.specs.Forms.{is_unqualified}
use Rattle.rhai_tree.specs.Names.{is_good, is_good_root}
use Rattle.rhai_check.proofs.Offsets.{variable_above}
use Rattle.rhai_check.proofs.check.names.check_variable.Goals as goal

pub returns-then-has_good_offset-clause-resolved : goal.returns-then-has_good_offset-clause-resolved
returns-then-has_good_offset-clause-resolved c base =
    let good : is_good c.args.offset c.args.name.now
    (if is_unqualified c.args.namespace.now.path then c.args.declared.now.names else []) ≡ true = cc in
    let root : is_good_root c.args.namespace.now.index c.args.namespace.now.path c.args.declared.now.imports ≡ true = cc in
    variable_above base c.args.namespace.now c.args.declared.now root c.args.offset c.args.name.now c.args.pos good
