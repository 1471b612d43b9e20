-- A module that is imported.
use Rattle.std.proofs.Common.{◌≡◌, Bool, true, false, ◌∷◌, List, Option, Result, Ok, Err, refl, sym, ap, ◌∙◌, nat_le}
use Rattle.std.specs.Prelude.{IsTrue}
use Rattle.rhai_tree.specs.declared.expr.Expr.{Expr}
use Rattle.rhai_tree.specs.declared.expr.Expr.TheOpen as layer
use Rattle.rhai_tree.specs.declared.expr.Ident.{Ident}
use Rattle.rhai_tree.specs.declared.position.Position.{Position}
use Rattle.rhai_tree.specs.Positions.{position_of, start_of}
use Rattle.rhai_values.specs.Cells.{cells_of}
use Rattle.rhai_values.specs.declared.base.value.Dynamic.{Dynamic}
use Rattle.rhai_values.specs.declared.base.value.Module.{Module}
use Rattle.rhai_errors.specs.declared.error.EvalAltResult.{EvalAltResult}
use Rattle.rhai_state.specs.declared.scope.Scope.{Scope}
use Rattle.rhai_lookups.specs.declared.run.RunState.{RunState}
use Rattle.rhai_errors.specs.Errors.{is_out_of_memory}
use Rattle.rhai_machine.specs.machine.Machine.{Go}
use Rattle.rhai_machine.specs.machine.Memory.{here, Leads}
use Rattle.rhai_machine.specs.language.Imports.{import_core, importing, module_meant, name_asked}
use Rattle.rhai_machine.specs.language.Setting.{Rules, cut}
use Rattle.rhai_machine.specs.language.State.{Held, Local, State}
use Rattle.rhai_machine.specs.language.Values.{unit_value}
use Rattle.rhai_machine.specs.language.Frames.{Frame, core, ended, on_value, Back, Eval, Fail, ImportPath, OpenStmt}
use Rattle.rhai_machine.specs.language.Runs.{at}
use Rattle.rhai_machine.specs.language.Language.{machine}
use Rattle.rhai_steps.specs.States.{local_of, state_of}
use Rattle.rhai_steps.proofs.Pieces.{or_runs_out, step_by}
use Rattle.rhai_context.specs.Ends.{came, error_in}
use Rattle.rhai_stmt.specs.Imports.{Imports, importable}
use Rattle.rhai_eval_steps.proofs.Chain.{fails_on}

module _ {S H : Type 0} (rules : Rules S H) (path : Expr) (alias : Option Ident) (pos : Position) (restoring : Bool) (k : List (Frame H))
    (l : State S H) where
  -- as many modules are loaded as may be
  abbrev full : Bool
  full = nat_le rules.setting.limits.max_modules l.local.around.num_modules_loaded

  refused_core : (full : Bool) (e : EvalAltResult H) → Err e ≡ importable pos full →
      import_core full path alias pos k l.local ≡ core (Fail e) k l.local
  refused_core true e is = let same : e ≡ _ = cc in ap (λ (x : EvalAltResult H). core (Fail x) k l.local) (sym same)
  refused_core false e is = cc

  evaluated_core : (full : Bool) → Ok tt ≡ importable {H = H} pos full →
      import_core full path alias pos k l.local ≡ core (Eval path) (ImportPath alias (position_of path) (start_of path) ∷ k) l.local
  evaluated_core true is = cc
  evaluated_core false is = refl

  pub not_imported : (e : EvalAltResult H) → (is_out_of_memory e ≡ false → Err e ≡ importable pos full) →
      Leads (machine rules) (cut rules) (at (OpenStmt (layer.Import path alias pos) restoring) k l) (at (Fail e) k l)
  not_imported e is = or_runs_out rules (OpenStmt (layer.Import path alias pos) restoring) k l e (λ m.
      step_by rules _ _ (Go (core (Fail e) k l.local)) (ap Go (refused_core full e (is m))) here)

  pub begins_path : Ok tt ≡ importable {H = H} pos full →
      Leads (machine rules) (cut rules) (at (OpenStmt (layer.Import path alias pos) restoring) k l)
      (at (Eval path) (ImportPath alias (position_of path) (start_of path) ∷ k) l)
  begins_path is = step_by rules _ _ (Go (core (Eval path) (ImportPath alias (position_of path) (start_of path) ∷ k) l.local))
      (ap Go (evaluated_core full is)) here

module _ {S H : Type 0} (rules : Rules S H) (t : S) (g entered : RunState H) (scope : Scope H) (held : Held H)
    (alias : Option Ident) (path_at starts_at : Position) (given : Dynamic H) (k : List (Frame H)) where
  abbrev frame : Frame H
  frame = ImportPath alias path_at starts_at

  -- the module that is meant
  abbrev meant : Result (Module H) (EvalAltResult H)
  meant = module_meant rules.setting.host_type (cells_of g.cells) rules.setting.offer.modules given path_at starts_at

  imported : (m : Result (Module H) (EvalAltResult H)) → meant ≡ m → entered.num_operations ≡ g.num_operations →
      Imports m alias (local_of g scope held) (local_of entered scope held) →
      Leads (machine rules) (cut rules) (at (Back given) (frame ∷ k) (state_of t g scope held))
      (at (Back unit_value) k (state_of t entered scope held))
  imported (Ok m) is counts imports =
      step_by rules _ _ (Go (core (Back unit_value) k (local_of entered scope held)))
      (ap (λ (r : Result (Module H) (EvalAltResult H)). Go (on_value r (λ x. core (Back unit_value) k (importing (name_asked alias) x
      (local_of g scope held))) k (local_of g scope held))) is ∙ ap (λ (l : Local H). Go (core (Back unit_value) k l)) (sym imports))
      (rw counts here)
  imported (Err e) is counts imports = absurd imports

  -- it is imported, or the run stops
  pub imports : (done : Bool) (out : Dynamic H) (place : Option (EvalAltResult H)) → (IsTrue done → out ≡ unit_value) →
      (IsTrue done → Imports meant alias (local_of g scope held) (local_of entered scope held)) →
      entered.num_operations ≡ g.num_operations →
      (done ≡ false → is_out_of_memory (error_in place) ≡ false → Err (error_in place) ≡ meant) → (done ≡ false → entered ≡ g) →
      Leads (machine rules) (cut rules) (at (Back given) (frame ∷ k) (state_of t g scope held))
      (at (ended (came done out place)) k (state_of t entered scope held))
  imports true out place value is counts refused same = rw (value refl) (imported meant refl counts (is refl))
  imports false out place value is counts refused same = rw (same refl)
      (fails_on rules given frame k (state_of t g scope held) (error_in place) (λ x. refl) (λ told.
      ap (λ (r : Result (Module H) (EvalAltResult H)). on_value r (λ x. core (Back unit_value) k (importing (name_asked alias) x
      (local_of g scope held))) k (local_of g scope held)) (sym (refused refl told))))
