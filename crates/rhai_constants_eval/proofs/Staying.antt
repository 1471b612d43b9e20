-- Constants stay at a call that ends as the machine does: from a control, a whole script, or a call whose arguments are told.
use Rattle.std.proofs.Common.{ℕ, Bool, List, [], ◌∷◌, length}
use Rattle.std.specs.Prelude.{Option, Some, None, Result}
use Rattle.rhai_machine.specs.Types.{Dynamic, EvalAltResult, Expr, Stmt}
use Rattle.rhai_errors.specs.Native.{Lawful}
use Rattle.rhai_machine.specs.language.Setting.{Rules}
use Rattle.rhai_machine.specs.language.State.{Local, State}
use Rattle.rhai_machine.specs.language.Arguments.{function_core, keyword_of}
use Rattle.rhai_machine.specs.language.Frames.{Keyword, Operation, Control, Frame, Core, ended}
use Rattle.rhai_machine.specs.language.Memory.{UpToMemory}
use Rattle.rhai_machine.specs.language.Runs.{at, with_core}
use Rattle.rhai_machine.specs.language.Script.{end_of_script, start_of_script}
use Rattle.rhai_fits.specs.Sealed.{AreSealed, ControlSealed, Sealed}
use Rattle.rhai_constants.specs.Constants.{IsConstant, Spares}
use Rattle.rhai_constants.proofs.Calls.{function_keeps}
use Rattle.rhai_constants.proofs.Keeping.{Keeps, calm}
use Rattle.rhai_constants.proofs.Runs.{told, core_stays, constants_stay}
use Rattle.rhai_constants.proofs.Settling.{same}
use Rattle.rhai_eval_steps.specs.Calls.{called}
use Rattle.rhai_eval.specs.Ends.{EndsAs, EndsFrom}
use Rattle.rhai_constants_eval.specs.Staying.{script, Stays, StaysAs, StaysFrom}
use Rattle.rhai_constants_eval.specs.Laws.{PartsStay, ScriptsStay, CallsStay}

module _ {S H : Type 0} (rules : Rules S H) (lawful : Lawful rules.setting.host_type rules.natives) (old new : State S H) where
  abbrev Answer : Type 0
  Answer = Result (Dynamic H) (EvalAltResult H)

  -- what a call keeps where it begins
  abbrev Begins : (List (Frame H) → Local H → Core H) → Type 0
  Begins begins = (index : ℕ) (v : Dynamic H) (constant : IsConstant v) →
      Keeps (told rules lawful index v constant old.table) (calm [] old.local) (begins [] old.local)

  pub stays_by : (begins : List (Frame H) → Local H → Core H) (end : Control H) → Sealed (begins [] old.local) → Begins begins →
      UpToMemory rules (with_core (begins [] old.local) old) (at end [] new) → Stays rules begins old end new
  stays_by begins end sealed keeps run = record {
    run = run;
    constants = λ index v constant has.
        core_stays rules lawful index v constant (begins [] old.local) end old new sealed has (keeps index v constant) run;
  }

  module _ (s : AreSealed old.local.around.cells) where
    -- a control that writes no entry
    pub control_stays : (c : Control H) (r : Answer) → ControlSealed c → ((index : ℕ) → Spares index c) → EndsAs rules c old r new →
        StaysAs rules c old r new
    control_stays c r z spares ends = record {
      run = ends.up_to [];
      constants = λ index v constant has.
          constants_stay rules lawful index v c (ended r) old new constant has (spares index) z s (ends.up_to []);
    }

    -- a whole script
    pub script_stays : (statements : List Stmt) (map_exit : Bool) (r : Answer) →
        UpToMemory rules (start_of_script statements map_exit old) (end_of_script r new) →
        StaysFrom rules (script statements map_exit) old r new
    script_stays statements map_exit r run = stays_by (script statements map_exit) (ended r)
        (record { control = tt; stack = (tt, tt); goes_back = tt; cells = s })
        (λ index v constant. same (told rules lawful index v constant old.table) tt (λ h. h.1)) run

    -- a call whose arguments are told
    called_sealed : (keyword : Option Keyword) (operation : Operation) (args : List Expr) (captures : Bool) →
        Sealed (function_core keyword operation args captures [] old.local)
    called_sealed (Some keyword) operation [] captures = record { control = tt; stack = tt; goes_back = tt; cells = s }
    called_sealed (Some keyword) operation (arg ∷ args) captures =
        record { control = tt; stack = (tt, tt); goes_back = tt; cells = s }
    called_sealed None operation args captures = record { control = tt; stack = tt; goes_back = tt; cells = s }

    pub called_stays : (operation : Operation) (args : List Expr) (captures : Bool) (r : Answer) →
        EndsFrom rules (called operation args captures) old r new → StaysFrom rules (called operation args captures) old r new
    called_stays operation args captures r ends = stays_by (called operation args captures) (ended r)
        (called_sealed (keyword_of operation.token operation.name (length args)) operation args captures)
        (λ index v constant. function_keeps (told rules lawful index v constant old.table)
        (keyword_of operation.token operation.name (length args)) operation args captures [] old.local) (ends.up_to [])

-- ---- the laws

module _ {S H : Type 0} (rules : Rules S H) (lawful : Lawful rules.setting.host_type rules.natives) where
  pub parts_stay : PartsStay rules
  parts_stay old new c r s z spares ends = control_stays rules lawful old new s c r z spares ends

  pub scripts_stay : ScriptsStay rules
  scripts_stay old new statements map_exit r s run = script_stays rules lawful old new s statements map_exit r run

  pub calls_stay : CallsStay rules
  calls_stay old new operation args captures r s ends = called_stays rules lawful old new s operation args captures r ends
