-- What a sample says: how a script that starts with nothing ends, cut at the setting's limit.
use Rattle.std.specs.Prelude.{◌≡◌, ℕ, Bool, true, false, List, [], Some, None, Result, Ok, Err, pos, ◌^◌, ◌-◌}
use Rattle.rhai_machine.specs.Types.{Dynamic, EvalAltResult, Limits, ScopeEntry, Stmt}
use Rattle.rhai_values.specs.declared.base.value.AccessMode.TheVariants.{ReadWrite, ReadOnly}
use Rattle.rhai_values.specs.declared.base.value.Union.TheVariants as value
use Rattle.rhai_errors.specs.Native.{Request, Reply, Natives, Purity, effect}
use Rattle.rhai_machine.specs.machine.Machine.{Run}
use Rattle.rhai_machine.specs.machine.Point.{with_calls}
use Rattle.rhai_machine.specs.language.Setting.{Setting, Rules, cut, over}
use Rattle.rhai_machine.specs.language.State.{Local, State}
use Rattle.rhai_machine.specs.language.Language.{machine}
use Rattle.rhai_machine.specs.language.Frames.{Control, Frame}
use Rattle.rhai_machine.specs.language.Runs.{at}
use Rattle.rhai_machine.specs.language.Script.{start_of_script, end_of_script}

-- a table of natives in a state
pub record Table (S H : Type 0) : Type 0 where
  pub natives : Natives S H
  pub state : S

-- a setting over a table
abbrev pub under : {S H : Type 0} → Setting H → Table S H → Rules S H
under s table = over s table.natives

-- a table whose natives all reply so, and change nothing
abbrev pub Replies : {S H : Type 0} → Table S H → Reply H → Type 0
Replies {S} {H} table reply = (s : S) (q : Request H) → table.natives.gives s q ≡ effect reply q.first s

-- a table that replies so to this one call, and leaves this first argument
abbrev pub Answers : {S H : Type 0} → Table S H → Request H → Reply H → Dynamic H → Type 0
Answers table q reply left = table.natives.gives table.state q ≡ effect reply (Some left) table.state

-- a native of the table that is not pure
abbrev pub IsImpure : {S H : Type 0} → Table S H → Purity → Type 0
IsImpure table q = table.natives.pure table.state q ≡ false

-- no limit of operations or of data, and a thousand variables
abbrev pub usual_limits : Limits
usual_limits = record {
  max_operations = 2 ^ 64 - 1;
  max_variables = 1000;
  max_modules = 100;
  max_call_levels = 64;
  max_array_size = 0;
  max_map_size = 0;
  max_string_size = 0;
}

module _ {H : Type 0} where
  -- the usual setting: those limits, fast operators, and shadowing
  abbrev pub usual : (H → List ℕ) → Setting H
  usual host = record {
    limits = usual_limits;
    offer = record {
      fast_operators = true;
      allow_shadowing = true;
      fail_on_invalid_map_property = false;
      global_modules = [];
      global_sub_modules = ([], []);
      modules = ([], []);
    };
    host_type = host;
  }

  -- the usual setting under a limit of operations
  abbrev pub limited : (H → List ℕ) → ℕ → Setting H
  limited host limit = record (usual host) { limits = record usual_limits { max_operations = limit } }

  -- an integer that is not negative, and that may be written
  abbrev pub integer : ℕ → Dynamic H
  integer n = record { value = value.Int (pos n); mode = ReadWrite }

  -- an integer that is not negative, and that may not be written
  abbrev pub fixed : ℕ → Dynamic H
  fixed n = record { value = value.Int (pos n); mode = ReadOnly }

  -- a truth value, which may be written
  abbrev pub truth : Bool → Dynamic H
  truth b = record { value = value.Bool b; mode = ReadWrite }

  -- the value `()`, which may be written
  abbrev pub unit : Dynamic H
  unit = record { value = value.Unit; mode = ReadWrite }

  -- a variable of the scope
  abbrev pub entry : List ℕ → Dynamic H → ScopeEntry H
  entry name v = record { name = name; value = v; aliases = [] }

  -- a local state with these variables and nothing else
  abbrev pub nothing_but : List (ScopeEntry H) → Local H
  nothing_but scope = record {
    scope = scope;
    this = None;
    focus = None;
    scope_level = 0;
    around = record {
      lib = [];
      imports = [];
      constants = 0;
      constant_tables = [];
      level = 0;
      num_modules_loaded = 0;
      source = None;
      cells = [];
    };
  }

module _ {S H : Type 0} (table : Table S H) where
  -- all that a run changes, in the table's state
  abbrev pub state : ℕ → Local H → State S H
  state count local = record { table = table.state; count = count; local = local }

  -- from this count and what is there before the script comes to this result, leaves this count and what is there after, and makes
  -- these calls
  abbrev pub EndsScript : Setting H → (map_exit : Bool) → List Stmt → (start : ℕ) → Local H → Result (Dynamic H) (EvalAltResult H) →
      (count : ℕ) → Local H → List (Request H) → Type 0
  EndsScript s map_exit script start before result count after calls =
      Run (machine (under s table)) (cut (under s table)) (with_calls (start_of_script script map_exit (state start before)) [])
      (with_calls (end_of_script result (state count after)) calls)

  -- from this count and no variable the script comes to this result, leaves this count and these variables, and makes these calls
  abbrev pub EndsFrom : ℕ → Setting H → List Stmt → Result (Dynamic H) (EvalAltResult H) → ℕ → List (ScopeEntry H) → List (Request H) →
      Type 0
  EndsFrom start s script result count scope calls =
      EndsScript s false script start (nothing_but []) result count (nothing_but scope) calls

  -- the script returns this value and calls no native
  abbrev pub Returns : Setting H → List Stmt → Dynamic H → (count : ℕ) → List (ScopeEntry H) → Type 0
  Returns s script v count scope = EndsFrom 0 s script (Ok v) count scope []

  -- the script fails with this error and calls no native
  abbrev pub Fails : Setting H → List Stmt → EvalAltResult H → (count : ℕ) → List (ScopeEntry H) → Type 0
  Fails s script e count scope = EndsFrom 0 s script (Err e) count scope []

  -- over what is there before, the script comes to this result, leaves this count and what is there after, and calls no native
  abbrev pub Ends : Setting H → Local H → List Stmt → Result (Dynamic H) (EvalAltResult H) → (count : ℕ) → Local H → Type 0
  Ends s before script result count after = EndsScript s false script 0 before result count after []

  -- from a control over these frames and what is there before, a run comes to this result, leaves what is there after, and calls no native
  abbrev pub EndsFromFrames : Setting H → Local H → Control H → List (Frame H) → Result (Dynamic H) (EvalAltResult H) → (count : ℕ) →
      Local H → Type 0
  EndsFromFrames s before c k result count after = Run (machine (under s table)) (cut (under s table))
      (with_calls (at c k (state 0 before)) []) (with_calls (end_of_script result (state count after)) [])
