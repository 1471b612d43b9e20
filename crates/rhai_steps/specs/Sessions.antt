-- What a run has from its engine, as the rules of the machine have it.
use Rattle.std.specs.Prelude.{ℕ, List}
use Rattle.rhai_errors.specs.Native.{Natives}
use Rattle.rhai_state.specs.declared.session.Session.{Session}
use Rattle.rhai_machine.specs.language.Setting.{Offer, Rules, rules_of}

module _ {H : Type 0} where
  -- the switches and the modules of a session
  abbrev pub offer_of : Session H → Offer H
  offer_of session = record {
    fast_operators = session.fast_operators;
    allow_shadowing = session.allow_shadowing;
    fail_on_invalid_map_property = session.fail_on_invalid_map_property;
    global_modules = session.offered.global_modules.now;
    global_sub_modules = session.offered.global_sub_modules.now;
    modules = session.modules.now.modules;
  }

  -- the rules of a run: under a host's type names, a session and a table of natives
  abbrev pub under : {S : Type 0} → (H → List ℕ) → Session H → Natives S H → Rules S H
  under host session natives = rules_of session.limits host (offer_of session) natives
