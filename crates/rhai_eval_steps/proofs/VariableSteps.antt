-- A variable that is declared, or that overwrites another.
use Rattle.std.proofs.Common.{◌≡◌, Bool, true, false, List, ◌∷◌, Option, Result, Ok, refl, sym, ap, ◌∙◌}
use Rattle.std.specs.Prelude.{IsTrue}
use Rattle.std.specs.declared.num.NonZeroUsize.{NonZeroUsize}
use Rattle.rhai_tree.specs.declared.expr.Ident.{Ident}
use Rattle.rhai_tree.specs.declared.flags.ASTFlags.{ASTFlags}
use Rattle.rhai_tree.specs.declared.position.Position.{Position}
use Rattle.rhai_values.specs.Cells.{cells_of}
use Rattle.rhai_values.specs.declared.base.value.Dynamic.{Dynamic}
use Rattle.rhai_errors.specs.declared.error.EvalAltResult.{EvalAltResult}
use Rattle.rhai_state.specs.declared.scope.Scope.{Scope}
use Rattle.rhai_lookups.specs.declared.run.RunState.{RunState}
use Rattle.rhai_errors.specs.Errors.{is_out_of_memory}
use Rattle.rhai_state.specs.Scope.{entries_of}
use Rattle.rhai_machine.specs.machine.Machine.{Go}
use Rattle.rhai_machine.specs.machine.Memory.{here, Leads}
use Rattle.rhai_machine.specs.language.Setting.{Rules, cut}
use Rattle.rhai_machine.specs.language.State.{Held}
use Rattle.rhai_machine.specs.language.Statements.{defined_core}
use Rattle.rhai_machine.specs.language.Values.{flat, unit_value}
use Rattle.rhai_machine.specs.language.Frames.{Frame, core, ended, on_value, Back, DefineValue, Fail}
use Rattle.rhai_machine.specs.language.Runs.{at}
use Rattle.rhai_machine.specs.language.Language.{machine}
use Rattle.rhai_steps.specs.States.{local_of, state_of}
use Rattle.rhai_steps.proofs.Pieces.{step_by}
use Rattle.rhai_context.specs.Ends.{came, error_in}
use Rattle.rhai_stmt.specs.Declares.{Declares, Misses}
use Rattle.rhai_eval_steps.proofs.Chain.{fails_on}

module _ {S H : Type 0} (rules : Rules S H) (t : S) (g entered : RunState H) (old new : Scope H) (held : Held H) (ident : Ident)
    (index : Option NonZeroUsize) (options : ASTFlags) (restoring : Bool) (given v : Dynamic H) (value_at : Position)
    (k : List (Frame H)) where
  abbrev frame : Frame H
  frame = DefineValue ident index options restoring value_at

  -- the variable is there, and entered where it has to be
  defines : Ok v ≡ flat (cells_of g.cells) given value_at → entered.num_operations ≡ g.num_operations →
      Declares v ident index options restoring (local_of g old held) (local_of entered new held) →
      Leads (machine rules) (cut rules) (at (Back given) (frame ∷ k) (state_of t g old held))
      (at (Back unit_value) k (state_of t entered new held))
  defines flattened counts is =
      step_by rules _ _ (Go (core (Back unit_value) k (local_of entered new held)))
      (ap (λ (r : Result (Dynamic H) (EvalAltResult H)). Go (on_value r (λ x. defined_core x ident index options restoring k
      (local_of g old held)) k (local_of g old held))) (sym flattened) ∙ ap Go (is k)) (rw counts here)

  -- or there was no memory for that
  defines_not : (e : EvalAltResult H) → is_out_of_memory e ≡ true → entries_of new ≡ entries_of old →
      Leads (machine rules) (cut rules) (at (Back given) (frame ∷ k) (state_of t g old held)) (at (Fail e) k (state_of t g new held))
  defines_not e is_out same = rw same (fails_on rules given frame k (state_of t g old held) e (λ x. refl)
      (λ told. let never : true ≡ false = sym is_out ∙ told in cc))

  -- or it is to be exported, and no variable has its name
  misses : (e : EvalAltResult H) → Ok v ≡ flat (cells_of g.cells) given value_at → entered.num_operations ≡ g.num_operations →
      Misses v ident index options restoring e (local_of g old held) (local_of entered new held) →
      Leads (machine rules) (cut rules) (at (Back given) (frame ∷ k) (state_of t g old held)) (at (Fail e) k (state_of t entered new held))
  misses e flattened counts is =
      step_by rules _ _ (Go (core (Fail e) k (local_of entered new held)))
      (ap (λ (r : Result (Dynamic H) (EvalAltResult H)). Go (on_value r (λ x. defined_core x ident index options restoring k
      (local_of g old held)) k (local_of g old held))) (sym flattened) ∙ ap Go (is k)) (rw counts here)

  -- where there was memory, or not
  declared_not : (e : EvalAltResult H) (is_out : Bool) → is_out_of_memory e ≡ is_out → Ok v ≡ flat (cells_of g.cells) given value_at →
      entered.num_operations ≡ g.num_operations →
      (is_out ≡ false → Misses v ident index options restoring e (local_of g old held) (local_of entered new held)) →
      (is_out ≡ true → entered ≡ g) → entries_of new ≡ entries_of old →
      Leads (machine rules) (cut rules) (at (Back given) (frame ∷ k) (state_of t g old held)) (at (Fail e) k (state_of t entered new held))
  declared_not e true is flattened counts missed same same_scope = rw (same refl) (defines_not e is same_scope)
  declared_not e false is flattened counts missed same same_scope = misses e flattened counts (missed refl)

  -- it is there, or the run stops by that error or as memory ran out
  pub declared : (done : Bool) (out : Dynamic H) (place : Option (EvalAltResult H)) → Ok v ≡ flat (cells_of g.cells) given value_at →
      (IsTrue done → out ≡ unit_value) →
      (IsTrue done → Declares v ident index options restoring (local_of g old held) (local_of entered new held)) →
      entered.num_operations ≡ g.num_operations →
      (done ≡ false → is_out_of_memory (error_in place) ≡ false →
      Misses v ident index options restoring (error_in place) (local_of g old held) (local_of entered new held)) →
      (done ≡ false → is_out_of_memory (error_in place) ≡ true → entered ≡ g) → (done ≡ false → entries_of new ≡ entries_of old) →
      Leads (machine rules) (cut rules) (at (Back given) (frame ∷ k) (state_of t g old held))
      (at (ended (came done out place)) k (state_of t entered new held))
  declared true out place flattened value is counts missed same same_scope = rw (value refl) (defines flattened counts (is refl))
  declared false out place flattened value is counts missed same same_scope =
      declared_not (error_in place) (is_out_of_memory (error_in place)) refl flattened counts (missed refl) (same refl) (same_scope refl)
