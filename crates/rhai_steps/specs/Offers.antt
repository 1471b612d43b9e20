-- The modules of an engine in code as the rules have them.
use Rattle.std.specs.Prelude.{◌≡◌}
use Rattle.rhai_state.specs.declared.session.Offered.{Offered}
use Rattle.rhai_machine.specs.language.Setting.{Globals, Offer}

module _ {H : Type 0} where
  -- the engine's modules, as the rules read them
  abbrev pub globals_in : Offered H → Globals H
  globals_in offered = record { modules = offered.global_modules.now; named = offered.global_sub_modules.now }

  -- the modules of an engine are these
  abbrev pub Offers : Offer H → Offered H → Type 0
  Offers offer offered =
      (offer.global_modules ≡ offered.global_modules.now) × (offer.global_sub_modules ≡ offered.global_sub_modules.now)
