use Rattle.std.proofs.Common.{Bool, ◌&&◌, ap, refl, sym, ◌∙◌}
use Rattle.rhai_errors.specs.Native.{reply_of}
use Rattle.rhai_calls.specs.ToldChanges.{gives}
use Rattle.rhai_calls.proofs.native.ask_native.Goals as goal

pub returns-then-is_barred-clause-barred : goal.returns-then-is_barred-clause-barred
returns-then-is_barred-clause-barred g c =
    (sym c.is_barred.ensures ∙ c.if-is_barred.true, refl, refl, c.non_pure.ensures)

pub returns-clause-asked : goal.returns-clause-asked
returns-clause-asked g c = (
  sym c.is_barred.ensures ∙ c.if-is_barred.false,
  (
    c.answer_of-answer.ensures.obeys,
    record {
      no_handle = c.answer_of-answer.ensures.no_handle;
      leaves = c.answer_of-answer.ensures.leaves;
    },
  ),
  c.has_changed-changed.ensures
      ∙ ap (λ (m : Bool). m && gives (reply_of c.answer_of-answer.result)) c.may_change-changes.ensures,
)
