use Rattle.rhai_steps.proofs.Agreeing.{brings}
use Rattle.rhai_operands.proofs.Names.{operands_of_call, path_of_call}
use Rattle.rhai_bench.proofs.entering.parts.enter_call.Goals as goal

pub make_function_call-requires : goal.make_function_call-requires
make_function_call-requires c = record {
  fit = c.clear.ensures.fit _;
  resolves = rw (← c.split_first.ensures, c.as_slice.ensures)
      (brings (λ frame h. operands_of_call c.args.call.now c.args.pos frame h) c.requires);
}

pub make_qualified_function_call-requires-clause-resolves : goal.make_qualified_function_call-requires-clause-resolves
make_qualified_function_call-requires-clause-resolves c = rw c.as_slice-in-QualifiedCall.ensures
    (brings (λ frame h. path_of_call c.args.call.now c.args.pos frame h) c.requires)
