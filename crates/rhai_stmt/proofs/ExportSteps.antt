-- What an `export` leads to.
use Rattle.std.proofs.Common.{◌≡◌, ℕ, Bool, List, Option, Some, None, false, map, refl, sym, ap, slice_get}
use Rattle.std.proofs.lemmas.Option.{get_or_from_slice_get}
use Rattle.std.proofs.Math.Seq.{map-set_same}
use Rattle.rhai_tree.specs.declared.expr.Expr.TheOpen as layer
use Rattle.rhai_tree.specs.declared.expr.Ident.{Ident}
use Rattle.rhai_tree.specs.declared.position.Position.{Position}
use Rattle.rhai_errors.specs.declared.error.EvalAltResult.{EvalAltResult}
use Rattle.rhai_errors.specs.declared.error.EvalAltResult.TheVariants as error
use Rattle.rhai_state.specs.declared.scope.ScopeEntry.{ScopeEntry}
use Rattle.rhai_errors.specs.Errors.{is_out_of_memory}
use Rattle.rhai_state.specs.Scope.{aliased, index_of, name_of, with_alias}
use Rattle.rhai_machine.specs.machine.Machine.{Go}
use Rattle.rhai_machine.specs.machine.Memory.{here, Leads}
use Rattle.rhai_machine.specs.language.Exports.{alias_or, exported}
use Rattle.rhai_machine.specs.language.Frames.{Back, Fail, Frame, OpenStmt, core}
use Rattle.rhai_machine.specs.language.Runs.{at}
use Rattle.rhai_machine.specs.language.Setting.{Rules, cut}
use Rattle.rhai_machine.specs.language.State.{State}
use Rattle.rhai_machine.specs.language.Values.{unit_value}
use Rattle.rhai_machine.specs.language.Language.{machine}
use Rattle.rhai_steps.proofs.Pieces.{or_runs_out, step_by}

-- an alias is no name
pub aliased_names : {H : Type 0} (entries : List (ScopeEntry H)) (at : ℕ) (there : Option (ScopeEntry H)) (alias : List ℕ) →
    slice_get entries at ≡ there → map name_of (aliased entries at there alias) ≡ map name_of entries
aliased_names entries at None alias is = refl
aliased_names entries at (Some entry) alias is =
    map-set_same name_of entries at (record entry { aliases = with_alias alias entry.aliases }) entry
    (sym (ap name_of (get_or_from_slice_get entries at entry entry is)))

module _ {S H : Type 0} (rules : Rules S H) (ident : Ident) (alias : Option Ident) (pos : Position) (restoring : Bool) (k : List (Frame H))
    (l : State S H) where
  -- no variable has the name
  pub not_found : (e : EvalAltResult H) → index_of ident.name l.local.scope ≡ None →
      (is_out_of_memory e ≡ false → e ≡ error.ErrorVariableNotFound ident.name ident.pos) →
      Leads (machine rules) (cut rules) (at (OpenStmt (layer.Export ident alias pos) restoring) k l) (at (Fail e) k l)
  not_found e none told = or_runs_out rules (OpenStmt (layer.Export ident alias pos) restoring) k l e (λ memory.
      step_by rules _ _ (Go (core (Fail e) k l.local))
      (rw none (ap (λ (x : EvalAltResult H). Go (core (Fail x) k l.local)) (sym (told memory)))) here)

  -- there is no memory for the alias
  pub no_memory : (where_ : Position) →
      Leads (machine rules) (cut rules) (at (OpenStmt (layer.Export ident alias pos) restoring) k l)
      (at (Fail (error.ErrorOutOfMemory where_)) k l)
  no_memory where_ = or_runs_out rules (OpenStmt (layer.Export ident alias pos) restoring) k l (error.ErrorOutOfMemory where_)
      (λ memory. cc)

  -- its newest variable has the alias
  pub exports : (i : ℕ) → index_of ident.name l.local.scope ≡ Some i →
      Leads (machine rules) (cut rules) (at (OpenStmt (layer.Export ident alias pos) restoring) k l)
      (at (Back unit_value) k (record l { local = exported i (alias_or ident.name alias) l.local }))
  exports i found =
      step_by rules _ _ (Go (core (Back unit_value) k (exported i (alias_or ident.name alias) l.local))) (rw found refl) here
