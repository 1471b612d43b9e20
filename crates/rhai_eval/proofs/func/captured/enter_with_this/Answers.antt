use Rattle.std.proofs.Common.{false, None, Some, refl, ap, ◌∙◌}
use Rattle.std.specs.Option.{option_copied}
use Rattle.rhai_machine.specs.language.Activations.{OwnThis, TheFocus}
use Rattle.rhai_machine.specs.language.Calls.{entry_of}
use Rattle.rhai_machine.specs.language.Frames.{EnterFunction, ended}
use Rattle.rhai_machine.specs.language.State.{Held}
use Rattle.rhai_steps.specs.OnFocus.{lending}
use Rattle.rhai_steps.specs.States.{local_of}
use Rattle.rhai_laws.proofs.KeptLaws.{kept}
use Rattle.rhai_eval_core.specs.States.{under}
use Rattle.rhai_eval_steps.proofs.BodyLemmas.{captured_ends}
use Rattle.rhai_eval.proofs.func.captured.enter_with_this.Goals as goal

pub returns : goal.returns
returns g c = record {
  runs = λ held.
      let rules = under g.H.Host.name_of c.args.evaluator.now g.T.NativeTable.natives in
      let focus = c.args.focus.now in
      let scope = c.args.run.now.scope in
      let global = c.args.run.now.global in
      let stands = c.replace-outer.ensures.after ∙ ap Some c.replace-this.ensures.value in
      let runs = captured_ends rules c.args.function TheFocus c.args.args c.args.pos global scope (lending held focus) c.get-def.result.now
      (option_copied c.environ_in-environ.result) c.level_below-level.result (g.T.NativeTable.state c.args.table.now)
      (g.T.NativeTable.state c.run_body-done.new.table) c.run_body-done.new.run c.finish-result.result c.get-def.ensures
      c.environ_in-environ.ensures c.level_below-level.ensures
      (rw c.as_mut_slice-values.ensures.value at
      ((rw (← c.finish-result.ensures.came) at c.run_body-done.ensures.runs) scope (lending held focus) TheFocus false refl stands))
      c.rewind.new.self c.len-length.result c.len-length.ensures c.rewind.ensures c.replace-left.result c.replace-left.ensures.value in
      let owned : Held _ = record { this = Some focus; focus = None } in
      let owns = captured_ends rules c.args.function OwnThis c.args.args c.args.pos global scope owned c.get-def.result.now
      (option_copied c.environ_in-environ.result) c.level_below-level.result (g.T.NativeTable.state c.args.table.now)
      (g.T.NativeTable.state c.run_body-done.new.table) c.run_body-done.new.run c.finish-result.result c.get-def.ensures
      c.environ_in-environ.ensures c.level_below-level.ensures
      (rw c.as_mut_slice-values.ensures.value at (
      (rw (← c.finish-result.ensures.came) at c.run_body-done.ensures.runs) scope owned OwnThis false refl stands))
      c.rewind.new.self c.len-length.result c.len-length.ensures c.rewind.ensures c.replace-left.result c.replace-left.ensures.value in
      let bound = (kept rules (EnterFunction (entry_of c.args.function OwnThis false c.args.args c.args.pos (local_of global scope owned)))
      (ended c.finish-result.result) _ _ tt owns).bound in
      rw (c.put_this.ensures bound) at runs;
}
