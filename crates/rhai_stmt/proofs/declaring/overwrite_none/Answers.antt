use Rattle.std.proofs.Common.{◌≡◌, false, true, sym, ◌∙◌}
use Rattle.rhai_steps.specs.States.{local_of}
use Rattle.rhai_stmt.proofs.Declared.{exports_none, overwrites_none, then_err, then_ok}
use Rattle.rhai_stmt.proofs.declaring.overwrite_none.Goals as goal

pub returns-then-not-is_exported-clause-declares : goal.returns-then-not-is_exported-clause-declares
returns-then-not-is_exported-clause-declares g c offset scope held none =
    then_ok c.enter_constant.result
    (λ entered k. overwrites_none c.args.value.now c.args.declaration.now.ident.now offset c.args.declaration.now.options
    c.args.declaration.now.restoring
    (local_of c.args.global.now scope held) (local_of c.enter_constant.new.global scope held) entered none k
    (sym c.is_exported.ensures ∙ c.if-not-is_exported.true)) (c.enter_constant.ensures.entered scope held)

pub returns-then-not-is_exported-clause-misses : goal.returns-then-not-is_exported-clause-misses
returns-then-not-is_exported-clause-misses g c offset scope held none =
    then_err c.enter_constant.result (λ e is_out told k. let never : true ≡ false = sym is_out ∙ told in
    cc) c.enter_constant.ensures.refused

pub returns-in-Err-clause-misses : goal.returns-in-Err-clause-misses
returns-in-Err-clause-misses g c offset scope held none told k = let never : true ≡ false = sym c.in-Err.ensures.refused ∙ told in cc

pub returns-in-Ok-enter_constant-clause-misses : goal.returns-in-Ok-enter_constant-clause-misses
returns-in-Ok-enter_constant-clause-misses g c offset scope held none told k =
    rw c.in-Ok.ensures (exports_none c.args.value.now c.args.declaration.now.ident.now offset c.args.declaration.now.options
    c.args.declaration.now.restoring
    (local_of c.args.global.now scope held) (local_of c.enter_constant-2.new.global scope held)
    (c.in-Ok-enter_constant.ensures.entered scope held) none k
    (sym c.is_exported.ensures ∙ c.if-not-is_exported.false))
