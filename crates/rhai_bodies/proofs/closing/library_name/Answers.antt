use Rattle.std.proofs.Common.{None, Some, ap, refl}
use Rattle.std.specs.Option.{option_copied}
use Rattle.rhai_bodies.proofs.Ends.{last_library}
use Rattle.rhai_bodies.proofs.closing.library_name.Goals as goal

pub returns-in-Some : goal.returns-in-Some
returns-in-Some g c = last_library _ c.in_ok-environ.field-0.now c.in_ok-environ.field-0.now _ _ _ (Some c.in-Some.id)
    (ap option_copied c.in_ok-environ.was) refl c.as_slice.ensures c.in_ok-last.ensures.value c.get.ensures c.in-Some.is

pub returns-in-None : goal.returns-in-None
returns-in-None g c = last_library _ c.in_ok-environ.field-0.now c.in_ok-environ.field-0.now _ _ _ None
    (ap option_copied c.in_ok-environ.was) refl c.as_slice.ensures c.in_ok-last.ensures.value c.get.ensures c.in-None.is
