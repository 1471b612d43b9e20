use Rattle.std.specs.Prelude.{None}
use Rattle.rhai_fits.specs.Contents.{Nothing, of_result}
use Rattle.rhai_eval.specs.States.{under}
use Rattle.rhai_fits_eval.proofs.Together.{fits_is_sealed, fits_together_again}
use Rattle.rhai_fits_eval.proofs.host.fits_before_and_behind.Goals as goal

pub eval_global_statements-outcome-requires : goal.eval_global_statements-outcome-requires
eval_global_statements-outcome-requires g c =
    record { fit = c.requires.fit; sealed = fits_is_sealed c.args.global.now c.args.scope.now (c.fits.ensures.0 c.if-not-fits.false) }

pub returns : goal.returns
returns g c =
    let again = fits_together_again (under g.H.Host.name_of c.args.engine.now g.T.NativeTable.natives) Nothing
    (of_result c.eval_global_statements-outcome.result) _ _ c.args.global.now c.eval_global_statements-outcome.new.global c.args.scope.now
    c.eval_global_statements-outcome.new.scope None None c.eval_global_statements-outcome.ensures.fits
    (c.fits.ensures.0 c.if-not-fits.false) c.requires.others in
    record { again = c.fits-2.ensures.1 again.0 }
