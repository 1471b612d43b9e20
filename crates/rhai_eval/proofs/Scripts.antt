-- A whole script: its statements over the frame of its end.
use Rattle.std.proofs.Common.{◌≡◌, Bool, true, false, List, [], ◌∷◌, Result, Ok, Err, IfOk, IfErr}
use Rattle.rhai_tree.specs.declared.expr.Stmt.{Stmt}
use Rattle.rhai_values.specs.declared.base.value.Dynamic.{Dynamic}
use Rattle.rhai_errors.specs.declared.error.EvalAltResult.{EvalAltResult}
use Rattle.rhai_errors.specs.declared.error.EvalAltResult.TheVariants as error
use Rattle.rhai_errors.specs.Errors.{is_out_of_memory}
use Rattle.rhai_machine.specs.machine.Memory.{here, next, ◌⨾◌, Leads}
use Rattle.rhai_machine.specs.machine.Point.{after}
use Rattle.rhai_machine.specs.language.Setting.{Rules, cut}
use Rattle.rhai_laws.proofs.ScriptMemory.{with_memory}
use Rattle.rhai_machine.specs.language.State.{State}
use Rattle.rhai_machine.specs.language.Frames.{Enter, Top}
use Rattle.rhai_machine.specs.language.Unwinding.{script_ended}
use Rattle.rhai_machine.specs.language.Runs.{Runs, Goes}
use Rattle.rhai_machine.specs.language.Script.{EndsAsMachine, AgreesWithHigherLimits, start_of_script, end_of_script}
use Rattle.rhai_machine.proofs.LanguageLaws.{limits_agree_from}
use Rattle.rhai_machine.specs.language.Language.{machine}

-- where a script ends out of memory, its statements did
module _ {H : Type 0} (P : Type 0) where
  topped_memory : (map_exit : Bool) (e : EvalAltResult H) → (is_out_of_memory e ≡ true → P) →
      IfErr (script_ended map_exit e) (λ x. is_out_of_memory x ≡ true → P)
  topped_memory map_exit (error.Return v at) kept = tt
  topped_memory true (error.Exit v at) kept = tt
  topped_memory false (error.Exit v at) kept = kept
  topped_memory map_exit _ kept = kept

  pub script_memory : (map_exit : Bool) (outcome r : Result (Dynamic H) (EvalAltResult H)) →
      IfErr outcome (λ e. is_out_of_memory e ≡ true → P) → IfOk outcome (λ v. r ≡ Ok v) → IfErr outcome (λ e. r ≡ script_ended map_exit e) →
      IfErr r (λ x. is_out_of_memory x ≡ true → P)
  script_memory map_exit (Ok v) r kept value fault = rw value tt
  script_memory map_exit (Err e) r kept value fault = rw fault (topped_memory map_exit e kept)

module _ {S H : Type 0} (rules : Rules S H)
    (statements : List Stmt) (map_exit : Bool) (old new : State S H) where
  -- the statements, and then the frame of the script's end
  pub script_goes : (outcome r : Result (Dynamic H) (EvalAltResult H)) → Runs rules (Enter statements false) old outcome new →
      IfOk outcome (λ v. r ≡ Ok v) → IfErr outcome (λ e. r ≡ script_ended map_exit e) →
      Leads (machine rules) (cut rules) (start_of_script statements map_exit old) (end_of_script r new)
  unfolding after Goes
  script_goes (Ok v) r runs value fault = rw value (runs (Top map_exit ∷ []) ⨾ next here)
  script_goes (Err e) r runs value fault = rw fault (runs (Top map_exit ∷ []) ⨾ next here)

  pub script_ends : (r : Result (Dynamic H) (EvalAltResult H)) →
      Leads (machine rules) (cut rules) (start_of_script statements map_exit old) (end_of_script r new) →
      EndsAsMachine rules statements map_exit old r new
  script_ends r goes memory = with_memory rules r new memory goes

  pub script_agrees : (r : Result (Dynamic H) (EvalAltResult H)) → EndsAsMachine rules statements map_exit old r new →
      AgreesWithHigherLimits rules statements map_exit old r new
  script_agrees r ends memory = limits_agree_from rules r new (ends memory)
