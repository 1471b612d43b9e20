use Rattle.std.proofs.Common.{◌≡◌, ◌∙◌, None, ap, sym}
use Rattle.rhai_values.specs.Cells.{cells_of}
use Rattle.rhai_values.specs.declared.base.value.Dynamic.{Dynamic}
use Rattle.rhai_machine.proofs.Places.{put_names}
use Rattle.rhai_machine.specs.language.Places.{InEntry}
use Rattle.rhai_machine.specs.language.Values.{is_handle}
use Rattle.rhai_steps.specs.States.{holding, local_of}
use Rattle.rhai_stmt.proofs.Cells.{stands_shared, the_same}
use Rattle.rhai_stmt.proofs.sharing.share_value.Goals as goal

pub returns-clause-shared : goal.returns-clause-shared
returns-clause-shared g c held =
    let l = local_of c.args.global.now c.args.scope.now held in
    let v = c.replace_value-value.result in
    let one : c.value_at.result.now ≡ v = the_same _ _ (sym c.value_at.ensures ∙ c.replace_value-value.ensures.before) in
    let other : c.value_at-2.result.now ≡ v = the_same _ _ (sym c.value_at-2.ensures ∙ c.replace_value-value.ensures.before) in
    rw c.replace_value-value.ensures.before (rw (c.replace_value-value.ensures.after, c.put_back.ensures) (stands_shared c.args.index v l
    c.in-Ok.id.number c.access_mode-mode.result c.handle_of.result _ (cells_of c.add.new.self)
    (ap (λ (x : Dynamic _). is_handle x.value) (sym one) ∙ sym c.is_handle.ensures ∙ c.if-is_handle.false)
    c.in-Ok.ensures.number c.handle_of.ensures (c.access_mode-mode.ensures ∙ ap (λ (x : Dynamic _). x.mode) other) c.in-Ok.ensures.ok))

pub returns-clause-names : goal.returns-clause-names
returns-clause-names g c =
    let l = local_of c.args.global.now c.args.scope.now (holding None) in
    rw c.replace_value-value.ensures.after (put_names (InEntry c.args.index) c.handle_of.result l)
