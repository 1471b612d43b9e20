-- The end of a call: what is taken back of the state, and what becomes of the body's outcome.
use Rattle.std.specs.Prelude.{◌≡◌, ℕ, Bool, false, not, List, Option, Result, Ok, Err, take}
use Rattle.rhai_tree.specs.declared.position.Position.{Position}
use Rattle.rhai_values.specs.declared.base.value.Dynamic.{Dynamic}
use Rattle.rhai_errors.specs.declared.error.EvalAltResult.{EvalAltResult}
use Rattle.rhai_errors.specs.declared.error.EvalAltResult.TheVariants as error
use Rattle.rhai_errors.specs.declared.error.FunctionCallError.{FunctionCallError, roll-FunctionCallError}
use Rattle.rhai_lookups.specs.declared.run.RunState.{RunState}
use Rattle.rhai_errors.specs.Errors.{is_system}
use Rattle.rhai_values.specs.declared.base.value.EncapsulatedEnviron.{EncapsulatedEnviron}
use Rattle.rhai_machine.specs.language.Activations as machine
use Rattle.rhai_machine.specs.language.Bodies.{library_name, returned, source_of}
use Rattle.rhai_bodies.specs.declared.opening.CallExit.{CallExit}

module _ {H : Type 0} where
  -- libraries and imports are cut to their lengths of before the call, and the constants and the level are those of then
  abbrev pub taken_back : CallExit → RunState H → RunState H
  taken_back exit global = record global {
    lists = (take exit.lib_length global.lists.0, take exit.imports_length global.lists.1);
    constants = exit.constants;
    level = exit.level;
  }

  -- the source that an error of a function comes from, under a state's source
  abbrev pub source_under : Option (List ℕ) → Option (EncapsulatedEnviron H) → List ℕ
  source_under source environ = source_of (library_name environ) source

  -- an error of a function, under its name and its source
  abbrev pub wrapped : Option (List ℕ) → (name : List ℕ) → Option (EncapsulatedEnviron H) → EvalAltResult H → FunctionCallError H
  wrapped source name environ e = roll-FunctionCallError H (record {
    name = name;
    source = source_under source environ;
    error = e;
  })

  -- an end of the machine is that of a call of a function of this name and environment, under a state's source, at a position
  pub record Ends (name : List ℕ) (environ : Option (EncapsulatedEnviron H)) (source : Option (List ℕ)) (at : Position)
      (exit : machine.CallExit H) : Type 0 where
    pub is_name : exit.name ≡ name
    pub is_source : exit.source ≡ source_under source environ
    pub is_at : exit.at ≡ at

  -- what the end of a call makes of a body's outcome: a value stays
  abbrev pub outcome_of : machine.CallExit H → Result (Dynamic H) (EvalAltResult H) → Result (Dynamic H) (EvalAltResult H)
  outcome_of exit (Ok v) = Ok v
  outcome_of exit (Err e) = returned exit e

  -- whether an error would be wrapped, which takes memory
  abbrev pub is_wrapped : EvalAltResult H → Bool
  is_wrapped (error.Return v at) = false
  is_wrapped (error.Exit v at) = false
  is_wrapped e = not (is_system e)
