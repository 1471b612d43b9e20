use Rattle.std.proofs.Common.{◌≡◌, ◌+◌, ◌++◌, drop, length, replicate, slice_set, suc, ap, ◌∙◌, arith}
use Rattle.rhai_machine.specs.language.Values.{unit_value as unit}
use Rattle.rhai_eval.proofs.Emptied.{all_empty, empty_next}
use Rattle.rhai_eval.proofs.func.arguments.empty.Goals as goal

pub each_place-preserved : goal.each_place-preserved
each_place-preserved g c =
    let step : c.each_place.at + 1 ≡ suc c.each_place.at = omega arith in
    record {
      within = omega arith;
      length = c.empty_at.ensures.length ∙ c.each_place.invariant.length;
      left = rw step (c.empty_at.ensures.empty ∙ ap (λ xs. slice_set xs c.each_place.at unit) c.each_place.invariant.left
          ∙ empty_next unit c.args.places.now c.each_place.at (omega (arith, c.each_place.invariant.length)));
    }

pub returns : goal.returns
returns g c =
    let all : c.each_place.at ≡ length c.args.places.now = omega (arith, c.each_place.invariant.within, c.each_place.invariant.length) in
    c.each_place.invariant.left ∙ ap (λ n. replicate n unit ++ drop n c.args.places.now) all ∙ all_empty unit c.args.places.now
