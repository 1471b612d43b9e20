use Rattle.std.proofs.Common.{◌≡◌, true, refl}
use Rattle.rhai_tree.specs.Names.{is_good}
use Rattle.rhai_check.proofs.Offsets.{good_above}
use Rattle.rhai_check.proofs.check.stmt.check_declaration.Goals as goal

pub returns-then-is_good-clause-resolved : goal.returns-then-is_good-clause-resolved
returns-then-is_good-clause-resolved c base value =
    let good : is_good c.args.index c.args.ident.now.name c.args.declared.now.names ≡ true = cc in
    rw (good_above base.names c.args.index c.args.ident.now.name c.args.declared.now.names good) refl
