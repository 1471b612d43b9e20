use Rattle.std.proofs.Common.{◌≡◌, ℕ, sym, subst}
use Rattle.std.proofs.lemmas.List.{length-append}
use Rattle.std.specs.Prelude.{IfOk}
use Rattle.rhai_values.specs.declared.base.value.FnPtr.{out-FnPtr}
use Rattle.rhai_machine.specs.language.Arguments.{linked_to}
use Rattle.rhai_methods.proofs.methods.linked_with.Goals as goal

pub returns-clause-found : goal.returns-clause-found
returns-clause-found g c =
    subst (λ (n : ℕ). IfOk c.function_linked.result (λ found. found ≡ linked_to c.args.pointer.now n c.args.lists.now.0))
    (sym (length-append (out-FnPtr _ c.args.pointer.now).curry c.args.args.now)) c.function_linked.ensures.found
