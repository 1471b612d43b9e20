-- What the rules read of an engine's modules is what the code has of them.
use Rattle.std.proofs.Common.{◌≡◌, refl}
use Rattle.rhai_state.specs.declared.session.Offered.{Offered}
use Rattle.rhai_machine.specs.language.Setting.{Offer, globals_of}
use Rattle.rhai_steps.specs.Offers.{Offers, globals_in}

module _ {H : Type 0} where
  pub globals_same : (offer : Offer H) (offered : Offered H) → Offers offer offered → globals_of offer ≡ globals_in offered
  globals_same offer offered is = rw (is.0, is.1) refl
