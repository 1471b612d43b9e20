use Rattle.rhai_check.proofs.Offsets.{none_behind}
use Rattle.rhai_check.proofs.check.names.has_good_offset.Goals as goal

pub returns-else-is_empty : goal.returns-else-is_empty
returns-else-is_empty c =
    none_behind c.args.namespace.now.path c.args.names.now c.args.offset c.args.name.now c.is_empty.result c.is_none.result
    c.is_empty.ensures.1 c.if-is_empty.false c.is_none.ensures
