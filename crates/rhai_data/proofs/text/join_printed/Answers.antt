use Rattle.std.proofs.Common.{sym, ◌∙◌}
use Rattle.rhai_values.specs.Cells.{cells_of}
use Rattle.rhai_calls.proofs.Lent.{own_named}
use Rattle.rhai_data.proofs.text.join_printed.Goals as goal

pub join_typed-requires : goal.join_typed-requires
join_typed-requires g c =
    c.own_type_name-name.ensures
    ∙ sym (own_named g.H.Host.name_of (cells_of c.args.global.now.cells) c.args.value.now.value
    (sym c.is_bare_handle.ensures ∙ c.if-is_bare_handle.false))
