use Rattle.std.specs.Prelude.{option_map}
use Rattle.rhai_natives.specs.Arguments.{values_of}
use Rattle.rhai_natives.specs.Responses.{response_of}
use Rattle.rhai_twins.proofs.Responses.{response_once}
use Rattle.rhai_twins.proofs.natives.called.Goals as goal

pub returns-clause-response : goal.returns-clause-response
returns-clause-response g c = response_once
    (λ x. option_map response_of (g.N.ListedNatives.does x c.args.native (values_of c.args.arguments.now))) _ _ c.call.result
    c.call-2.result c.requires c.call.ensures.response c.call-2.ensures.response
