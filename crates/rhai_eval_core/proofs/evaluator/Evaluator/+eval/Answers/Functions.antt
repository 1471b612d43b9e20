use Rattle.std.proofs.Common.{◌∷◌, [], false, length, true, refl, sym, ap, ◌∙◌, arith}
use Rattle.std.specs.Option.{option_copied, option_map}
use Rattle.rhai_state.specs.Scope.{entries_of, names_in}
use Rattle.rhai_lookups.specs.declared.run.RunState.{RunState}
use Rattle.rhai_machine.specs.machine.Point.{after}
use Rattle.rhai_machine.specs.machine.Memory.{here, next, out_before_step, ◌⨾◌}
use Rattle.rhai_machine.specs.language.Frames as machine
use Rattle.rhai_machine.specs.language.Frames.{KeywordArgument, CallArgument, ToCall, ToCallOn, ToCallOnThis}
use Rattle.rhai_machine.specs.language.Calls.{plainly}
use Rattle.rhai_machine.specs.language.Arguments.{arguments_core, is_captured, keyword_of}
use Rattle.rhai_machine.specs.language.Runs.{Goes}
use Rattle.rhai_machine.specs.language.Language.{machine}
use Rattle.rhai_steps.specs.Operations.{operation_of}
use Rattle.rhai_steps.proofs.Agreeing.{brings, leads_then, same, stays, still}
use Rattle.rhai_steps.proofs.Pieces.{told, step_by}
use Rattle.rhai_operands.proofs.Names.{good_name}
use Rattle.rhai_call_forms.specs.Keywords.{word_of}
use Rattle.rhai_call_forms.specs.Leading.{all_args, leading_seen, variable_read}
use Rattle.rhai_call_forms.proofs.LeadingLemmas.{lent_leads, this_goes, values_go, variable_goes}
use Rattle.rhai_eval_steps.specs.Agreement.{ChangesNames, KeepsNames, RestoresNames, SuitsNames}
use Rattle.rhai_callees.specs.Pointers.{purpose_of}
use Rattle.rhai_eval_steps.specs.Calls.{Collects}
use Rattle.rhai_eval_core.specs.States.{under}
use Rattle.rhai_eval_steps.proofs.NameLemmas.{first_resolves, part_resolves, this_resolves}
use Rattle.rhai_eval_steps.proofs.Chain.{drop_item, drop_all}
use Rattle.rhai_eval_steps.proofs.CallSteps.{calls_itself, calls_linked, by_name, by_number, charged_on, counted, named_alone}
use Rattle.rhai_eval_steps.proofs.CallSteps.{kept_as_they_are, named_so, refused_on, taken_fails, taken_on, worded, calls_fails, calls_goes}
use Rattle.rhai_eval_steps.proofs.CallSteps.{curries_fails, curries_goes, defined_fails, defined_goes, made_fails, made_goes, kept_longer}
use Rattle.rhai_eval_core.proofs.evaluator.Evaluator.+eval.Goals as goal
use Rattle.rhai_context.specs.Ends.{error_in}

-- a call by name, or of a keyword

pub run_call-run_named-requires : goal.run_call-run_named-requires
unfolding ChangesNames KeepsNames RestoresNames SuitsNames
run_call-run_named-requires g t c = λ κs lives. (omega arith, (lives.0, (lives.1, c.requires)))

pub run_call-run_keyword-requires : goal.run_call-run_keyword-requires
unfolding ChangesNames KeepsNames RestoresNames SuitsNames
run_call-run_keyword-requires g t c =
    let args = all_args (option_copied c.args.first) c.args.rest.now in
    let leads = ap (λ o. all_args (option_copied o) c.args.rest.now) c.in-Some.is in
    λ κs lives. (
      omega arith,
      (
        lives.0,
        (
          lives.1,
          (
            brings (λ frame h. (first_resolves args c.in-Some.arg.now c.args.rest.now frame leads h).0) c.requires,
            brings (λ frame h. (first_resolves args c.in-Some.arg.now c.args.rest.now frame leads h).1) c.requires,
          ),
        ),
      ),
    )

pub run_call-run_named-requires-in-None-keyword_of : goal.run_call-run_named-requires-in-None-keyword_of
unfolding ChangesNames KeepsNames RestoresNames SuitsNames
run_call-run_named-requires-in-None-keyword_of g t c = λ κs lives. (omega arith, (lives.0, (lives.1, c.requires)))

pub run_call-returns-in-None-clause-runs : goal.run_call-returns-in-None-clause-runs
unfolding Goes
run_call-returns-in-None-clause-runs g t c k =
    let rules = under g.H.Host.name_of c.args.self.now g.T.NativeTable.natives in
    let operation : machine.Operation = operation_of c.args.operation.now in
    rw (c.in-None.is, named_alone rules operation c.args.captures k _ _)
    ((rw (c.in-None.is, c.new-curried.ensures) at c.run_named.ensures.runs) k)

pub run_call-returns-in-Some-keyword_of-clause-runs : goal.run_call-returns-in-Some-keyword_of-clause-runs
unfolding Goes
run_call-returns-in-Some-keyword_of-clause-runs g t c k =
    let rules = under g.H.Host.name_of c.args.self.now g.T.NativeTable.natives in
    let operation : machine.Operation = operation_of c.args.operation.now in
    let arg = c.in-Some.arg.now in
    rw (
      c.in-Some.is,
      worded rules operation c.args.captures k _
          (keyword_of c.args.operation.now.token c.args.operation.now.name.now (length (arg ∷ c.args.rest.now)))
          (word_of c.in-Some-keyword_of.word) arg c.args.rest.now
          (counted c.args.operation.now.token c.args.operation.now.name.now c.args.rest.now ∙ sym c.keyword_of.ensures
          ∙ ap (option_map word_of) c.in-Some-keyword_of.is),
    )
    (c.run_keyword.ensures.runs k)

pub run_call-returns-in-None-keyword_of-clause-runs : goal.run_call-returns-in-None-keyword_of-clause-runs
unfolding Goes
run_call-returns-in-None-keyword_of-clause-runs g t c k =
    let rules = under g.H.Host.name_of c.args.self.now g.T.NativeTable.natives in
    let operation : machine.Operation = operation_of c.args.operation.now in
    let arg = c.in-Some.arg.now in
    rw (
      c.in-Some.is,
      named_so rules operation c.args.captures k _
          (keyword_of c.args.operation.now.token c.args.operation.now.name.now (length (arg ∷ c.args.rest.now))) (arg ∷ c.args.rest.now)
          (counted c.args.operation.now.token c.args.operation.now.name.now c.args.rest.now ∙ sym c.keyword_of.ensures
          ∙ ap (option_map word_of) c.in-None-keyword_of.is),
    )
    ((rw (c.in-Some.is, c.new-curried-in-None-keyword_of.ensures) at c.run_named-in-None-keyword_of.ensures.runs) k)

-- a keyword, from its first argument on

pub run_keyword-run_pointer-requires : goal.run_keyword-run_pointer-requires
unfolding ChangesNames KeepsNames RestoresNames SuitsNames
run_keyword-run_pointer-requires g t c =
    λ κs lives. (
      omega (arith, c.if-not-run_arg.ensures.charges refl),
      (lives.0, (lives.1, still (c.if-not-run_arg.ensures.names refl) c.requires.resolves_rest)),
    )

pub run_keyword-run_pointer-requires-in-Ok-Some : goal.run_keyword-run_pointer-requires-in-Ok-Some
unfolding ChangesNames KeepsNames RestoresNames SuitsNames
run_keyword-run_pointer-requires-in-Ok-Some g t c =
    rw c.linked_function.ensures.same (λ κs lives. (
      omega (arith, c.if-not-run_arg.ensures.charges refl),
      (lives.0, (lives.1, still (c.if-not-run_arg.ensures.names refl) c.requires.resolves_rest)),
    ))

pub run_keyword-run_pointer-requires-in-Some : goal.run_keyword-run_pointer-requires-in-Some
unfolding ChangesNames KeepsNames RestoresNames SuitsNames
run_keyword-run_pointer-requires-in-Some g t c =
    rw c.linked_function.ensures.same (λ κs lives. (
      omega (arith, c.if-not-run_arg.ensures.charges refl),
      (lives.0, (lives.1, still (c.if-not-run_arg.ensures.names refl) c.requires.resolves_rest)),
    ))

pub run_keyword-run_named-requires : goal.run_keyword-run_named-requires
unfolding ChangesNames KeepsNames RestoresNames SuitsNames
run_keyword-run_named-requires g t c =
    rw c.linked_function.ensures.same (λ κs lives. (
      omega (arith, c.if-not-run_arg.ensures.charges refl),
      (lives.0, (lives.1, rw (← c.split_first.ensures) (still (c.if-not-run_arg.ensures.names refl) c.requires.resolves_rest))),
    ))

pub run_keyword-returns-then-not-run_arg-clause-runs : goal.run_keyword-returns-then-not-run_arg-clause-runs
unfolding after Goes
run_keyword-returns-then-not-run_arg-clause-runs g t c k =
    c.if-not-run_arg.ensures.runs (KeywordArgument _ _ _ _ _ ∷ k) ⨾ next here

pub run_keyword-returns-in-IsShared-clause-runs : goal.run_keyword-returns-in-IsShared-clause-runs
unfolding after Goes
run_keyword-returns-in-IsShared-clause-runs g t c k =
    rw (c.in-IsShared.is, c.put.ensures, c.is_shared.ensures, c.take_value-value.ensures.taken)
    (c.if-not-run_arg.ensures.runs (KeywordArgument _ _ _ _ _ ∷ k) ⨾ next here)

pub run_keyword-returns-in-Err-clause-runs : goal.run_keyword-returns-in-Err-clause-runs
unfolding Goes
run_keyword-returns-in-Err-clause-runs g t c k =
    let rules = under g.H.Host.name_of c.args.self.now g.T.NativeTable.natives in
    rw (c.in-IsDefinedVariable.is, c.stop.ensures.stopped, c.stop.ensures.told)
    (c.if-not-run_arg.ensures.runs (KeywordArgument _ _ _ _ _ ∷ k)
    ⨾ defined_fails rules _ c.args.pos _ c.args.rest.now c.args.captures k _ _
    (rw (c.take_value-value.ensures.taken, c.start_position-start.ensures) at c.in-Err.ensures))

pub run_keyword-returns-in-Ok-clause-runs : goal.run_keyword-returns-in-Ok-clause-runs
unfolding Goes
run_keyword-returns-in-Ok-clause-runs g t c k =
    let rules = under g.H.Host.name_of c.args.self.now g.T.NativeTable.natives in
    rw (c.in-IsDefinedVariable.is, c.put-in-Ok.ensures, c.is_defined.ensures)
    (c.if-not-run_arg.ensures.runs (KeywordArgument _ _ _ _ _ ∷ k)
    ⨾ defined_goes rules _ c.args.pos _ c.args.rest.now c.args.captures k _ _
    ((rw (c.take_value-value.ensures.taken, c.start_position-start.ensures) at c.in-Ok.ensures) tt) here)

pub run_keyword-returns-in-Err-text_of-clause-runs : goal.run_keyword-returns-in-Err-text_of-clause-runs
unfolding Goes
run_keyword-returns-in-Err-text_of-clause-runs g t c k =
    let rules = under g.H.Host.name_of c.args.self.now g.T.NativeTable.natives in
    rw (c.in-MakePointer.is, c.stop-in-Err-text_of.ensures.stopped, c.stop-in-Err-text_of.ensures.told)
    (c.if-not-run_arg.ensures.runs (KeywordArgument _ _ _ _ _ ∷ k)
    ⨾ made_fails rules _ c.args.pos _ c.args.rest.now c.args.captures k _ _
    (rw (c.take_value-value.ensures.taken, c.start_position-start.ensures) at c.in-Err-text_of.ensures))

pub run_keyword-returns-in-Ok-text_of-clause-runs : goal.run_keyword-returns-in-Ok-text_of-clause-runs
unfolding Goes
run_keyword-returns-in-Ok-text_of-clause-runs g t c k =
    let rules = under g.H.Host.name_of c.args.self.now g.T.NativeTable.natives in
    rw (c.in-MakePointer.is, c.settle.ensures)
    (c.if-not-run_arg.ensures.runs (KeywordArgument _ _ _ _ _ ∷ k)
    ⨾ made_goes rules _ c.args.pos _ c.args.rest.now c.args.captures k _ _
    ((rw (c.take_value-value.ensures.taken, c.start_position-start.ensures) at c.in-Ok-text_of.ensures) tt)
    (told rules _ _ (rw c.start_position-start.ensures at c.make_pointer-made.ensures) k _))

pub run_keyword-returns-in-Err-pointer_of-clause-runs : goal.run_keyword-returns-in-Err-pointer_of-clause-runs
unfolding Goes
run_keyword-returns-in-Err-pointer_of-clause-runs g t c k =
    let rules = under g.H.Host.name_of c.args.self.now g.T.NativeTable.natives in
    rw (c.in-Curry.is, c.stop-in-Err-pointer_of.ensures.stopped, c.stop-in-Err-pointer_of.ensures.told)
    (c.if-not-run_arg.ensures.runs (KeywordArgument _ _ _ _ _ ∷ k)
    ⨾ curries_fails rules _ c.args.pos _ c.args.rest.now c.args.captures k _ _
    (rw (c.take_value-value.ensures.taken, c.start_position-start.ensures) at c.in-Err-pointer_of.ensures))

pub run_keyword-returns-in-Ok-pointer_of-clause-runs : goal.run_keyword-returns-in-Ok-pointer_of-clause-runs
unfolding Goes
run_keyword-returns-in-Ok-pointer_of-clause-runs g t c k =
    let rules = under g.H.Host.name_of c.args.self.now g.T.NativeTable.natives in
    rw c.in-Curry.is
    (c.if-not-run_arg.ensures.runs (KeywordArgument _ _ _ _ _ ∷ k)
    ⨾ curries_goes rules _ c.args.pos _ c.args.rest.now c.args.captures k _ _
    ((rw (c.take_value-value.ensures.taken, c.start_position-start.ensures) at c.in-Ok-pointer_of.ensures) tt)
    (c.run_pointer.ensures.runs k))

pub run_keyword-returns-in-Err-pointer_of-2-clause-runs : goal.run_keyword-returns-in-Err-pointer_of-2-clause-runs
unfolding Goes
run_keyword-returns-in-Err-pointer_of-2-clause-runs g t c k =
    let rules = under g.H.Host.name_of c.args.self.now g.T.NativeTable.natives in
    rw (c.in-CallPointer.is, c.stop-in-Err-pointer_of-2.ensures.stopped, c.stop-in-Err-pointer_of-2.ensures.told)
    (c.if-not-run_arg.ensures.runs (KeywordArgument _ _ _ _ _ ∷ k)
    ⨾ calls_fails rules _ c.args.pos _ c.args.rest.now c.args.captures k _ _
    (rw (c.take_value-value.ensures.taken, c.start_position-start.ensures) at c.in-Err-pointer_of-2.ensures))

pub run_keyword-returns-in-Ok-Some-clause-runs : goal.run_keyword-returns-in-Ok-Some-clause-runs
unfolding Goes
run_keyword-returns-in-Ok-Some-clause-runs g t c k =
    let rules = under g.H.Host.name_of c.args.self.now g.T.NativeTable.natives in
    let pointer = c.in-Ok-pointer_of-2.pointer in
    let linked = sym c.in-Ok-Some.ensures.found ∙ c.in-Ok-Some.field-0-is in
    rw c.in-CallPointer.is
    (c.if-not-run_arg.ensures.runs (KeywordArgument _ _ _ _ _ ∷ k)
    ⨾ calls_goes rules _ c.args.pos _ c.args.rest.now c.args.captures k _ pointer
    ((rw (c.take_value-value.ensures.taken, c.start_position-start.ensures) at c.in-Ok-pointer_of-2.ensures) tt)
    (calls_linked rules pointer c.args.pos c.args.rest.now c.args.captures k _ _ c.in-Ok-Some.function linked
    ((rw (c.linked_function.ensures.same, c.parts_of-name.ensures.curried) at c.run_pointer-in-Ok-Some.ensures.runs) k)))

pub run_keyword-returns-in-Some-clause-runs : goal.run_keyword-returns-in-Some-clause-runs
unfolding Goes
run_keyword-returns-in-Some-clause-runs g t c k =
    let rules = under g.H.Host.name_of c.args.self.now g.T.NativeTable.natives in
    let pointer = c.in-Ok-pointer_of-2.pointer in
    let unlinked = sym c.in-Ok-None.ensures.found ∙ c.in-Ok-None.field-0-is in
    let numbered = sym c.parts_of-name-in-Ok-None.ensures.number ∙ c.in-Some.is in
    rw c.in-CallPointer.is
    (c.if-not-run_arg.ensures.runs (KeywordArgument _ _ _ _ _ ∷ k)
    ⨾ calls_goes rules _ c.args.pos _ c.args.rest.now c.args.captures k _ pointer
    ((rw (c.take_value-value.ensures.taken, c.start_position-start.ensures) at c.in-Ok-pointer_of-2.ensures) tt)
    (calls_itself rules pointer c.args.pos c.args.rest.now c.args.captures k _ _ unlinked
    (rw (by_number rules pointer c.args.pos c.args.rest.now c.args.captures k _ _ c.in-Some.id numbered)
    ((rw (c.linked_function.ensures.same, c.parts_of-name-in-Ok-None.ensures.curried) at c.run_pointer-in-Some.ensures.runs) k))))

pub run_keyword-returns-in-None-clause-runs : goal.run_keyword-returns-in-None-clause-runs
unfolding Goes
run_keyword-returns-in-None-clause-runs g t c k =
    let rules = under g.H.Host.name_of c.args.self.now g.T.NativeTable.natives in
    let pointer = c.in-Ok-pointer_of-2.pointer in
    let unlinked = sym c.in-Ok-None.ensures.found ∙ c.in-Ok-None.field-0-is in
    let unnumbered = sym c.parts_of-name-in-Ok-None.ensures.number ∙ c.in-None.is in
    rw c.in-CallPointer.is
    (c.if-not-run_arg.ensures.runs (KeywordArgument _ _ _ _ _ ∷ k)
    ⨾ calls_goes rules _ c.args.pos _ c.args.rest.now c.args.captures k _ pointer
    ((rw (c.take_value-value.ensures.taken, c.start_position-start.ensures) at c.in-Ok-pointer_of-2.ensures) tt)
    (calls_itself rules pointer c.args.pos c.args.rest.now c.args.captures k _ _ unlinked
    (rw (by_name rules pointer c.args.pos c.args.rest.now c.args.captures k _ _ unnumbered)
    ((rw (
      c.linked_function.ensures.same,
      ← c.split_first.ensures,
      c.natives_alone-alone.ensures,
      c.as_str-name.ensures,
      c.get.ensures,
      c.parts_of-name-in-Ok-None.ensures.name,
      c.parts_of-name-in-Ok-None.ensures.curried,
    ) at c.run_named.ensures.runs) k))))

-- memory runs out at the keyword's own frame
pub run_keyword-returns-in-Err-linked_function-clause-runs : goal.run_keyword-returns-in-Err-linked_function-clause-runs
unfolding after Goes
run_keyword-returns-in-Err-linked_function-clause-runs g t c k =
    rw (c.linked_function.ensures.same, c.stop-in-Err-linked_function.ensures.stopped, c.stop-in-Err-linked_function.ensures.told)
    (c.if-not-run_arg.ensures.runs (KeywordArgument _ _ _ _ _ ∷ k) ⨾ out_before_step {at = c.args.pos} (next here))

-- a pointer that is called

-- a pointer's arguments, and what they are for

pub run_pointer-run_more_args-requires : goal.run_pointer-run_more_args-requires
unfolding ChangesNames KeepsNames RestoresNames SuitsNames
run_pointer-run_more_args-requires g t c =
    λ κs lives. (
      omega arith,
      (lives.0, (lives.1, (omega arith, c.requires))),
    )

pub run_pointer-returns-then-not-run_more_args-clause-runs : goal.run_pointer-returns-then-not-run_more_args-clause-runs
unfolding Goes Collects
run_pointer-returns-then-not-run_more_args-clause-runs g t c k =
    ((rw c.new-values.ensures at c.if-not-run_more_args.ensures.collects)
    (purpose_of c.args.pointer c.args.pos) (kept_as_they_are c.args.pointer c.args.pos) k)

pub run_pointer-returns-clause-runs : goal.run_pointer-returns-clause-runs
unfolding Goes Collects
run_pointer-returns-clause-runs g t c k =
    (rw c.new-values.ensures at c.if-not-run_more_args.ensures.collects)
    (purpose_of c.args.pointer c.args.pos) (kept_as_they_are c.args.pointer c.args.pos) k
    ⨾ c.use_pointer-called.ensures.runs k ⨾ c.finish_call-done.ensures.runs k

-- a call by name

pub run_named-run_more_args-requires : goal.run_named-run_more_args-requires
unfolding ChangesNames KeepsNames RestoresNames SuitsNames
run_named-run_more_args-requires g t c =
    let found = sym c.this_first.ensures ∙ c.in-Some.is in
    λ κs lives. (
      omega (
        arith,
        ap (λ (global : RunState _). global.num_operations) (c.if-not-charge.ensures.charged refl),
      ),
      (
        lives.0,
        (
          lives.1,
          (
            omega arith,
            same c.if-not-charge.ensures.sight refl (brings (λ frame h. this_resolves _ (option_copied c.args.first) c.args.rest.now
                c.args.run.now.this c.in-Some.this_at frame found h) c.requires),
          ),
        ),
      ),
    )

pub run_named-run_more_args-requires-in-Some-first_variable : goal.run_named-run_more_args-requires-in-Some-first_variable
unfolding ChangesNames KeepsNames RestoresNames SuitsNames
run_named-run_more_args-requires-in-Some-first_variable g t c =
    let args = all_args (option_copied c.args.first) c.args.rest.now in
    let found = sym c.first_variable.ensures ∙ ap (option_map leading_seen) c.in-Some-first_variable.is in
    let leading = leading_seen c.in-Some-first_variable.variable in
    let first = lent_leads _ args leading found in
    λ κs lives. (
      omega (
        arith,
        ap (λ (global : RunState _). global.num_operations) (c.if-not-charge-2.ensures.charged refl),
      ),
      (
        lives.0,
        (
          lives.1,
          (
            omega arith,
            same c.if-not-charge-2.ensures.sight refl (brings (λ frame h. (first_resolves args first.arg leading.rest frame
                first.comes_first h).1) c.requires),
          ),
        ),
      ),
    )

pub run_named-call_with_variable-called-requires : goal.run_named-call_with_variable-called-requires
unfolding ChangesNames KeepsNames RestoresNames SuitsNames
run_named-call_with_variable-called-requires g t c =
    let args = all_args (option_copied c.args.first) c.args.rest.now in
    let found = sym c.first_variable.ensures ∙ ap (option_map leading_seen) c.in-Some-first_variable.is in
    let leading = leading_seen c.in-Some-first_variable.variable in
    let first = lent_leads _ args leading found in (
      omega arith,
      still (c.if-not-run_more_args-2.ensures.names refl)
          (same c.if-not-charge-2.ensures.sight refl (brings (λ frame h. good_name first.arg
          leading.offset leading.name leading.namespace leading.at frame first.is_variable
          (first_resolves args first.arg leading.rest frame first.comes_first h).0) c.requires)),
    )

pub run_named-returns-then-not-charge-clause-runs : goal.run_named-returns-then-not-charge-clause-runs
unfolding Goes
run_named-returns-then-not-charge-clause-runs g t c k =
    let rules = under g.H.Host.name_of c.args.self.now g.T.NativeTable.natives in
    let operation : machine.Operation = operation_of c.args.operation.now in
    let purpose : machine.Purpose g.row.H.Denot = ToCallOnThis operation c.in-Some.this_at (plainly c.args.natives_alone false) in
    let found = sym (rw c.as_slice.ensures at c.this_first.ensures) ∙ c.in-Some.is in
    let charges = this_goes rules.setting operation c.args.curried (option_copied c.args.first) c.args.rest.now c.args.captures
    c.args.natives_alone k _ c.in-Some.this_at found in
    refused_on rules _ c.args.run.now.global c.charge.new.global _ _ _ _ k
    (λ l. arguments_core rules.setting purpose [] c.args.rest.now k l) charges _ (c.if-not-charge.ensures.full refl)
    (c.if-not-charge.ensures.refused refl) (c.if-not-charge.ensures.same refl)

pub run_named-returns-then-not-run_more_args-clause-runs : goal.run_named-returns-then-not-run_more_args-clause-runs
unfolding Goes Collects
run_named-returns-then-not-run_more_args-clause-runs g t c k =
    let rules = under g.H.Host.name_of c.args.self.now g.T.NativeTable.natives in
    let operation : machine.Operation = operation_of c.args.operation.now in
    let purpose : machine.Purpose g.row.H.Denot = ToCallOnThis operation c.in-Some.this_at (plainly c.args.natives_alone false) in
    let found = sym (rw c.as_slice.ensures at c.this_first.ensures) ∙ c.in-Some.is in
    let charges = this_goes rules.setting operation c.args.curried (option_copied c.args.first) c.args.rest.now c.args.captures
    c.args.natives_alone k _ c.in-Some.this_at found in
    (charged_on rules _ c.args.run.now.global c.charge.new.global _ _ _ _ k
    (λ l. arguments_core rules.setting purpose [] c.args.rest.now k l) charges (c.if-not-charge.ensures.room refl)
    (c.if-not-charge.ensures.charged refl)
    ⨾ (rw c.new-values.ensures at c.if-not-run_more_args.ensures.collects) purpose refl k)

pub run_named-returns-in-Some-clause-runs : goal.run_named-returns-in-Some-clause-runs
unfolding Goes Collects
run_named-returns-in-Some-clause-runs g t c k =
    let rules = under g.H.Host.name_of c.args.self.now g.T.NativeTable.natives in
    let operation : machine.Operation = operation_of c.args.operation.now in
    let purpose : machine.Purpose g.row.H.Denot = ToCallOnThis operation c.in-Some.this_at (plainly c.args.natives_alone false) in
    let found = sym (rw c.as_slice.ensures at c.this_first.ensures) ∙ c.in-Some.is in
    let charges = this_goes rules.setting operation c.args.curried (option_copied c.args.first) c.args.rest.now c.args.captures
    c.args.natives_alone k _ c.in-Some.this_at found in
    charged_on rules _ c.args.run.now.global c.charge.new.global _ _ _ _ k
    (λ l. arguments_core rules.setting purpose [] c.args.rest.now k l) charges (c.if-not-charge.ensures.room refl)
    (c.if-not-charge.ensures.charged refl)
    ⨾ (rw c.new-values.ensures at c.if-not-run_more_args.ensures.collects) purpose refl k
    ⨾ c.call_with_this-called.ensures.runs k
    ⨾ c.finish_call-done.ensures.runs k

pub run_named-returns-then-not-charge-2-clause-runs : goal.run_named-returns-then-not-charge-2-clause-runs
unfolding Goes
run_named-returns-then-not-charge-2-clause-runs g t c k =
    let rules = under g.H.Host.name_of c.args.self.now g.T.NativeTable.natives in
    let operation : machine.Operation = operation_of c.args.operation.now in
    let variable = leading_seen c.in-Some-first_variable.variable in
    let purpose : machine.Purpose g.row.H.Denot =
    ToCallOn operation (variable_read variable) (plainly c.args.natives_alone false) in
    let found = sym (rw c.as_slice-2.ensures at c.first_variable.ensures) ∙ ap (option_map leading_seen) c.in-Some-first_variable.is in
    let charges = variable_goes rules.setting operation c.args.curried (all_args (option_copied c.args.first) c.args.rest.now)
    c.args.captures c.args.natives_alone k _ variable found in
    refused_on rules _ c.args.run.now.global c.charge-in-Some-first_variable.new.global _ _ _ _ k
    (λ l. arguments_core rules.setting purpose [] variable.rest k l) charges _ (c.if-not-charge-2.ensures.full refl)
    (c.if-not-charge-2.ensures.refused refl) (c.if-not-charge-2.ensures.same refl)

pub run_named-returns-then-not-run_more_args-2-clause-runs : goal.run_named-returns-then-not-run_more_args-2-clause-runs
unfolding Goes Collects
run_named-returns-then-not-run_more_args-2-clause-runs g t c k =
    let rules = under g.H.Host.name_of c.args.self.now g.T.NativeTable.natives in
    let operation : machine.Operation = operation_of c.args.operation.now in
    let variable = leading_seen c.in-Some-first_variable.variable in
    let purpose : machine.Purpose g.row.H.Denot =
    ToCallOn operation (variable_read variable) (plainly c.args.natives_alone false) in
    let found = sym (rw c.as_slice-2.ensures at c.first_variable.ensures) ∙ ap (option_map leading_seen) c.in-Some-first_variable.is in
    let charges = variable_goes rules.setting operation c.args.curried (all_args (option_copied c.args.first) c.args.rest.now)
    c.args.captures c.args.natives_alone k _ variable found in
    (charged_on rules _ c.args.run.now.global c.charge-in-Some-first_variable.new.global _ _ _ _ k
    (λ l. arguments_core rules.setting purpose [] variable.rest k l) charges (c.if-not-charge-2.ensures.room refl)
    (c.if-not-charge-2.ensures.charged refl)
    ⨾ (rw c.new-values-in-Some-first_variable.ensures
    at c.if-not-run_more_args-2.ensures.collects) purpose refl k)

pub run_named-returns-else-not-run_more_args-2-clause-runs : goal.run_named-returns-else-not-run_more_args-2-clause-runs
unfolding Goes Collects
run_named-returns-else-not-run_more_args-2-clause-runs g t c k =
    let rules = under g.H.Host.name_of c.args.self.now g.T.NativeTable.natives in
    let operation : machine.Operation = operation_of c.args.operation.now in
    let variable = leading_seen c.in-Some-first_variable.variable in
    let purpose : machine.Purpose g.row.H.Denot =
    ToCallOn operation (variable_read variable) (plainly c.args.natives_alone false) in
    let found = sym (rw c.as_slice-2.ensures at c.first_variable.ensures) ∙ ap (option_map leading_seen) c.in-Some-first_variable.is in
    let charges = variable_goes rules.setting operation c.args.curried (all_args (option_copied c.args.first) c.args.rest.now)
    c.args.captures c.args.natives_alone k _ variable found in
    charged_on rules _ c.args.run.now.global c.charge-in-Some-first_variable.new.global _ _ _ _ k
    (λ l. arguments_core rules.setting purpose [] variable.rest k l) charges (c.if-not-charge-2.ensures.room refl)
    (c.if-not-charge-2.ensures.charged refl)
    ⨾ (rw c.new-values-in-Some-first_variable.ensures
    at c.if-not-run_more_args-2.ensures.collects) purpose refl k
    ⨾ c.call_with_variable-called.ensures.runs k
    ⨾ c.finish_call-done-in-Some-first_variable.ensures.runs k

pub run_named-returns-in-None-clause-runs : goal.run_named-returns-in-None-clause-runs
unfolding Goes
run_named-returns-in-None-clause-runs g t c k =
    let rules = under g.H.Host.name_of c.args.self.now g.T.NativeTable.natives in
    let none = sym (rw c.as_slice-2.ensures at c.first_variable.ensures) ∙ ap (option_map leading_seen) c.in-None.is in
    let unlent = sym (rw c.as_slice.ensures at c.this_first.ensures) ∙ c.in_default.is in
    step_by rules _ _ _ (values_go rules.setting _ c.args.curried (option_copied c.args.first) c.args.rest.now c.args.captures
    c.args.natives_alone k _ none unlent)
    (c.run_on_values.ensures.runs k)

-- with all arguments by their values

pub run_on_values-run_all_args-requires : goal.run_on_values-run_all_args-requires
unfolding ChangesNames KeepsNames RestoresNames SuitsNames
run_on_values-run_all_args-requires g t c =
    λ κs lives. (
      omega arith,
      (lives.0, (lives.1, (omega arith, c.requires))),
    )

pub run_on_values-returns-then-not-run_all_args-clause-runs : goal.run_on_values-returns-then-not-run_all_args-clause-runs
unfolding Goes Collects
run_on_values-returns-then-not-run_all_args-clause-runs g t c k =
    let operation : machine.Operation = operation_of c.args.operation.now in
    let on_scope = is_captured c.args.captures (entries_of c.args.run.now.scope) in
    let purpose : machine.Purpose g.row.H.Denot = ToCall operation c.args.curried (plainly c.args.natives_alone on_scope) in
    ((rw c.new-values.ensures at c.if-not-run_all_args.ensures.collects) purpose refl k)

pub run_on_values-returns-clause-runs : goal.run_on_values-returns-clause-runs
unfolding Goes Collects
run_on_values-returns-clause-runs g t c k =
    let operation : machine.Operation = operation_of c.args.operation.now in
    let on_scope = is_captured c.args.captures (entries_of c.args.run.now.scope) in
    let purpose : machine.Purpose g.row.H.Denot = ToCall operation c.args.curried (plainly c.args.natives_alone on_scope) in
    (rw c.new-values.ensures at c.if-not-run_all_args.ensures.collects) purpose refl k
    ⨾ c.call_with-called.ensures.runs on_scope k
    ⨾ (rw c.captures_some-on_scope.ensures at c.finish_call-done.ensures.runs) k

-- arguments

pub run_more_args-run_arg-requires : goal.run_more_args-run_arg-requires
unfolding ChangesNames KeepsNames RestoresNames SuitsNames
run_more_args-run_arg-requires g t c =
    λ κs lives. (
      omega arith,
      (
        lives.0,
        (
          lives.1,
          brings (λ frame. part_resolves c.args.args.now c.each_arg.arg-index c.arg-item.result frame c.each_arg-test.true c.arg-item.is)
              (still c.each_arg.invariant.names c.requires),
        ),
      ),
    )

pub run_more_args-each_arg-init : goal.run_more_args-each_arg-init
unfolding ChangesNames KeepsNames RestoresNames SuitsNames
run_more_args-each_arg-init g t c = record { counts = omega arith; names = stays refl refl; more = refl; steps = λ purpose is k. here }

pub run_more_args-each_arg-preserved : goal.run_more_args-each_arg-preserved
unfolding Goes ChangesNames KeepsNames RestoresNames SuitsNames
run_more_args-each_arg-preserved g t c =
    let rules = under g.H.Host.name_of c.args.self.now g.T.NativeTable.natives in
    record {
      counts = omega (arith, c.each_arg.invariant.counts, c.if-not-run_arg.ensures.charges refl);
      names = leads_then c.each_arg.invariant.names (c.if-not-run_arg.ensures.names refl);
      more = omega (
        arith,
        c.each_arg.invariant.more,
        kept_longer _ c.each_arg.values c.push_argument.new.made (c.if-not-push_argument.ensures.kept refl),
        ap length (drop_item _ _ _ c.each_arg-test.true c.arg-item.is),
      );
      steps = λ purpose is k. c.each_arg.invariant.steps purpose is k ⨾ rw (drop_item _ _ _ c.each_arg-test.true c.arg-item.is)
          (c.if-not-run_arg.ensures.runs (CallArgument _ _ _ _ ∷ k)
          ⨾ taken_on rules purpose c.each_arg.values c.run_arg.new.run.value _ _ k _
          c.args.flattened c.push_argument.new.made is (c.if-not-push_argument.ensures.kept refl));
    }

pub run_more_args-returns-then-not-run_arg-clause-collects : goal.run_more_args-returns-then-not-run_arg-clause-collects
unfolding after Goes Collects
run_more_args-returns-then-not-run_arg-clause-collects g t c purpose is k =
    c.each_arg.invariant.steps purpose is k ⨾ rw (drop_item _ _ _ c.each_arg-test.true c.arg-item.is)
    (c.if-not-run_arg.ensures.runs (CallArgument _ _ _ _ ∷ k) ⨾ next here)

pub run_more_args-returns-then-not-push_argument-clause-collects : goal.run_more_args-returns-then-not-push_argument-clause-collects
unfolding Goes Collects
run_more_args-returns-then-not-push_argument-clause-collects g t c purpose is k =
    let rules = under g.H.Host.name_of c.args.self.now g.T.NativeTable.natives in
    c.each_arg.invariant.steps purpose is k ⨾ rw (drop_item _ _ _ c.each_arg-test.true c.arg-item.is)
    (c.if-not-run_arg.ensures.runs (CallArgument _ _ _ _ ∷ k)
    ⨾ taken_fails rules purpose c.each_arg.values c.run_arg.new.run.value _ _ k _
    c.args.flattened (error_in c.push_argument.new.place) is (c.if-not-push_argument.ensures.refused refl))

pub run_more_args-returns-clause-collects : goal.run_more_args-returns-clause-collects
unfolding Collects Goes
run_more_args-returns-clause-collects g t c purpose is k =
    c.each_arg.invariant.steps purpose is k ⨾ rw (drop_all _ _ c.each_arg-test.false) here

pub run_more_args-returns-clause-more : goal.run_more_args-returns-clause-more
run_more_args-returns-clause-more g t c done =
    omega (arith, c.each_arg.invariant.more, ap length (drop_all c.args.args.now c.each_arg.arg-index c.each_arg-test.false))

pub run_all_args-run_arg-requires : goal.run_all_args-run_arg-requires
unfolding ChangesNames KeepsNames RestoresNames SuitsNames
run_all_args-run_arg-requires g t c =
    let args = all_args (option_copied c.args.first) c.args.rest.now in
    let leads = ap (λ o. all_args (option_copied o) c.args.rest.now) c.in-Some.is in
    λ κs lives. (
      omega arith,
      (
        lives.0,
        (
          lives.1,
          brings (λ frame h. (first_resolves args c.in-Some.arg.now c.args.rest.now frame leads h).0) c.requires,
        ),
      ),
    )

pub run_all_args-returns-then-not-run_arg-clause-collects : goal.run_all_args-returns-then-not-run_arg-clause-collects
unfolding after Goes Collects
run_all_args-returns-then-not-run_arg-clause-collects g t c purpose is k =
    rw c.in-Some.is (c.if-not-run_arg.ensures.runs (CallArgument _ _ _ _ ∷ k) ⨾ next here)

pub run_all_args-returns-then-not-push_argument-clause-collects : goal.run_all_args-returns-then-not-push_argument-clause-collects
unfolding Goes Collects
run_all_args-returns-then-not-push_argument-clause-collects g t c purpose is k =
    let rules = under g.H.Host.name_of c.args.self.now g.T.NativeTable.natives in
    rw c.in-Some.is
    (c.if-not-run_arg.ensures.runs (CallArgument _ _ _ _ ∷ k)
    ⨾ taken_fails rules purpose c.args.values.now c.run_arg.new.run.value _ c.args.rest.now k _
    true (error_in c.push_argument.new.place) is (c.if-not-push_argument.ensures.refused refl))

pub run_all_args-run_more_args-requires : goal.run_all_args-run_more_args-requires
unfolding ChangesNames KeepsNames RestoresNames SuitsNames
run_all_args-run_more_args-requires g t c =
    let args = all_args (option_copied c.args.first) c.args.rest.now in
    let leads = ap (λ o. all_args (option_copied o) c.args.rest.now) c.in-Some.is in
    λ κs lives. (
      omega (arith, c.if-not-run_arg.ensures.charges refl),
      (
        lives.0,
        (
          lives.1,
          (
            omega arith,
            still (c.if-not-run_arg.ensures.names refl) (brings (λ frame h. (first_resolves args c.in-Some.arg.now c.args.rest.now
                frame leads h).1) c.requires),
          ),
        ),
      ),
    )

pub run_all_args-returns-in_default-clause-collects : goal.run_all_args-returns-in_default-clause-collects
unfolding Collects Goes
run_all_args-returns-in_default-clause-collects g t c purpose is k = rw c.in_default.is here

pub run_all_args-returns-clause-counts : goal.run_all_args-returns-clause-counts
run_all_args-returns-clause-counts g t c done =
    omega (arith, c.if-not-run_arg.ensures.charges refl, c.run_more_args.ensures.counts done)

pub run_all_args-returns-clause-names : goal.run_all_args-returns-clause-names
unfolding ChangesNames KeepsNames RestoresNames SuitsNames
run_all_args-returns-clause-names g t c done = leads_then (c.if-not-run_arg.ensures.names refl) (c.run_more_args.ensures.names done)

pub run_all_args-returns-clause-collects : goal.run_all_args-returns-clause-collects
unfolding Goes Collects
run_all_args-returns-clause-collects g t c purpose is k =
    let rules = under g.H.Host.name_of c.args.self.now g.T.NativeTable.natives in
    rw c.in-Some.is
    (c.if-not-run_arg.ensures.runs (CallArgument _ _ _ _ ∷ k)
    ⨾ taken_on rules purpose c.args.values.now c.run_arg.new.run.value _ c.args.rest.now k _ true
    c.push_argument.new.made is (c.if-not-push_argument.ensures.kept refl)
    ⨾ c.run_more_args.ensures.collects purpose is k)

pub run_keyword-returns-in-Ok-pointer_of-clause-names : goal.run_keyword-returns-in-Ok-pointer_of-clause-names
unfolding ChangesNames KeepsNames RestoresNames SuitsNames
run_keyword-returns-in-Ok-pointer_of-clause-names g t c done =
    leads_then (c.if-not-run_arg.ensures.names refl) (c.run_pointer.ensures.names done)

pub run_keyword-returns-in-Ok-Some-clause-names : goal.run_keyword-returns-in-Ok-Some-clause-names
unfolding ChangesNames KeepsNames RestoresNames SuitsNames
run_keyword-returns-in-Ok-Some-clause-names g t c done =
    leads_then (c.if-not-run_arg.ensures.names refl) (rw c.linked_function.ensures.same at (c.run_pointer-in-Ok-Some.ensures.names done))

pub run_keyword-returns-in-Some-clause-names : goal.run_keyword-returns-in-Some-clause-names
unfolding ChangesNames KeepsNames RestoresNames SuitsNames
run_keyword-returns-in-Some-clause-names g t c done =
    leads_then (c.if-not-run_arg.ensures.names refl) (rw c.linked_function.ensures.same at (c.run_pointer-in-Some.ensures.names done))

pub run_keyword-returns-in-None-clause-names : goal.run_keyword-returns-in-None-clause-names
unfolding ChangesNames KeepsNames RestoresNames SuitsNames
run_keyword-returns-in-None-clause-names g t c done =
    leads_then (c.if-not-run_arg.ensures.names refl) (rw c.linked_function.ensures.same at (c.run_named.ensures.names done))

pub run_pointer-returns-clause-names : goal.run_pointer-returns-clause-names
unfolding ChangesNames KeepsNames RestoresNames SuitsNames
run_pointer-returns-clause-names g t c done = leads_then (c.if-not-run_more_args.ensures.names refl)
    (leads_then (stays c.use_pointer-called.ensures.sight (ap names_in c.use_pointer-called.ensures.scope))
    (c.finish_call-done.ensures.names done))

pub run_named-returns-in-Some-clause-names : goal.run_named-returns-in-Some-clause-names
unfolding ChangesNames KeepsNames RestoresNames SuitsNames
run_named-returns-in-Some-clause-names g t c done =
    leads_then (leads_then (stays c.if-not-charge.ensures.sight refl) (c.if-not-run_more_args.ensures.names refl))
    (leads_then (stays c.call_with_this-called.ensures.sight (ap names_in c.call_with_this-called.ensures.scope))
    (c.finish_call-done.ensures.names done))

pub run_named-returns-else-not-run_more_args-2-clause-names : goal.run_named-returns-else-not-run_more_args-2-clause-names
unfolding ChangesNames KeepsNames RestoresNames SuitsNames
run_named-returns-else-not-run_more_args-2-clause-names g t c done =
    leads_then (leads_then (stays c.if-not-charge-2.ensures.sight refl) (c.if-not-run_more_args-2.ensures.names refl))
    (leads_then (stays c.call_with_variable-called.ensures.sight c.call_with_variable-called.ensures.names)
    (c.finish_call-done-in-Some-first_variable.ensures.names done))

pub run_on_values-returns-clause-names : goal.run_on_values-returns-clause-names
unfolding ChangesNames KeepsNames RestoresNames SuitsNames
run_on_values-returns-clause-names g t c done = leads_then (c.if-not-run_all_args.ensures.names refl)
    (leads_then (stays c.call_with-called.ensures.sight (ap names_in c.call_with-called.ensures.scope))
    (c.finish_call-done.ensures.names done))

pub run_all_args-returns-in_default-clause-names : goal.run_all_args-returns-in_default-clause-names
unfolding KeepsNames
run_all_args-returns-in_default-clause-names g t c done = stays refl refl

pub run_keyword-returns-in-IsShared-clause-names : goal.run_keyword-returns-in-IsShared-clause-names
unfolding KeepsNames
run_keyword-returns-in-IsShared-clause-names g t c done = c.if-not-run_arg.ensures.names refl

pub run_keyword-returns-in-Ok-clause-names : goal.run_keyword-returns-in-Ok-clause-names
unfolding KeepsNames
run_keyword-returns-in-Ok-clause-names g t c done = c.if-not-run_arg.ensures.names refl

pub run_keyword-returns-in-Ok-text_of-clause-names : goal.run_keyword-returns-in-Ok-text_of-clause-names
unfolding KeepsNames
run_keyword-returns-in-Ok-text_of-clause-names g t c done = c.if-not-run_arg.ensures.names refl
