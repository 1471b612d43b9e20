use Rattle.std.proofs.Common.{Some, length}
use Rattle.rhai_spots.specs.Targets.{is_shared, shown}
use Rattle.rhai_calls.specs.Targets.{value_walked_on}
use Rattle.rhai_eval.specs.States.{under}
use Rattle.rhai_fits_eval.proofs.Targets.{method_again, method_shows}
use Rattle.rhai_fits_eval.proofs.calls.make_method_call.Goals as goal

pub returns-clause-fits : goal.returns-clause-fits
returns-clause-fits g c scope this = let a = c.args in
    let after = c.make_method_call.new.target in
    method_again (under g.H.Host.name_of a.engine.now g.T.NativeTable.natives) _ _ _ g.met.T.NativeTable.lawful
    c.requires.sealed (c.make_method_call.ensures.kept scope this).around
    a.target.now.part a.target.now.at.now (value_walked_on after.part after.at.now)
    (record {
      name = a.fn_name.now;
      at = a.pos;
      first_at = Some a.first_arg_pos;
      was_handle = is_shared a.target.now.part a.target.now.at.now;
    }) a.call_args.now c.make_method_call.result (length a.call_args.now) c.make_method_call.new.call_args
    c.make_method_call.ensures.args (c.make_method_call.ensures.ends scope this)

pub returns-clause-shown : goal.returns-clause-shown
returns-clause-shown g c scope this memory = let a = c.args in
    let after = c.make_method_call.new.target in
    method_shows (under g.H.Host.name_of a.engine.now g.T.NativeTable.natives) _ _ _ g.met.T.NativeTable.lawful
    c.requires.sealed (c.make_method_call.ensures.kept scope this).around
    a.target.now.part a.target.now.at.now (shown after.part after.at.now)
    (record {
      name = a.fn_name.now;
      at = a.pos;
      first_at = Some a.first_arg_pos;
      was_handle = is_shared a.target.now.part a.target.now.at.now;
    }) a.call_args.now (c.make_method_call.ensures.shows scope this memory)
