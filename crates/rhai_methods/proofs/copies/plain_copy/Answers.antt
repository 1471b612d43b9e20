use Rattle.std.proofs.Common.{ap, ◌∙◌, Ok}
use Rattle.rhai_methods.proofs.CopyLemmas.{copied_found}
use Rattle.rhai_methods.proofs.copies.plain_copy.Goals as goal

pub returns-in_ok-copy-in-FnPtr : goal.returns-in_ok-copy-in-FnPtr
returns-in_ok-copy-in-FnPtr g c _ =
    ap Ok (c.move_pointer.ensures
    ∙ copied_found c.args.value.now c.in_ok-copy-in-FnPtr.field-0 c.in-FnPtr.field-0 (c.in_ok-copy-in-FnPtr.ensures tt) c.in-FnPtr.is)
