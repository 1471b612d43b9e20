-- How a `for` leads on.
use Rattle.std.proofs.Common.{◌≡◌, ◌<◌, ◌≤◌, ◌+◌, ℕ, Bool, true, false, List, [], ◌∷◌, ◌++◌, Option, Some, None, Result, Ok, Err, length}
use Rattle.std.proofs.Common.{refl, take}
use Rattle.std.proofs.lemmas.Bool.{lt-ltb, le-ltb}
use Rattle.std.specs.Prelude.{IfSome, IsTrue, OnOk}
use Rattle.rhai_tree.specs.declared.expr.Expr.TheOpen as layer
use Rattle.rhai_tree.specs.declared.position.Position.{Position}
use Rattle.rhai_tree.specs.Positions.{position_of, start_of}
use Rattle.rhai_values.specs.declared.base.value.Dynamic.{Dynamic}
use Rattle.rhai_values.specs.Layers.{layer_of}
use Rattle.rhai_errors.specs.declared.error.EvalAltResult.{EvalAltResult}
use Rattle.rhai_errors.specs.declared.error.EvalAltResult.TheVariants as error
use Rattle.rhai_state.specs.declared.scope.Scope.{Scope}
use Rattle.rhai_lookups.specs.declared.run.RunState.{RunState}
use Rattle.rhai_state.specs.Scope.{entries_of}
use Rattle.rhai_values.specs.Cells.{cells_of}
use Rattle.rhai_errors.specs.Errors.{is_out_of_memory}
use Rattle.rhai_machine.specs.machine.Machine.{Go}
use Rattle.rhai_machine.specs.machine.Point.{after}
use Rattle.rhai_machine.specs.machine.Memory.{here, next, Leads}
use Rattle.rhai_machine.specs.language.Frames.{Back, core, ended, Eval, Fail, ForBody, ForItems, ForTurn, Frame, OpenStmt, RestoreScope}
use Rattle.rhai_machine.specs.language.Runs.{at}
use Rattle.rhai_machine.specs.language.Setting.{Rules, limit_under, cut}
use Rattle.rhai_machine.specs.language.State.{Held, State}
use Rattle.rhai_machine.specs.language.Turns.{ForLoop, Turns, next_turn, turns_of}
use Rattle.rhai_machine.specs.language.Values.{flat, unit_value}
use Rattle.rhai_machine.specs.language.Walks.{for_core, has_no_room, loop_entries}
use Rattle.rhai_machine.specs.language.Language.{machine}
use Rattle.rhai_steps.specs.Loops.{after_body, after_turn, turn_in}
use Rattle.rhai_steps.specs.States.{state_of}
use Rattle.rhai_steps.proofs.Pieces.{step_by}
use Rattle.rhai_context.specs.Ends.{came_turn}
use Rattle.rhai_eval_steps.proofs.Chain.{fails_on}

module _ {S H : Type 0} (rules : Rules S H) (loop : ForLoop) (k : List (Frame H)) where
  -- ---- the start

  module _ (pos : Position) (restoring : Bool) (l : State S H) where
    pub has_none : has_no_room rules.setting.limits loop l.local ≡ true →
        Leads (machine rules) (cut rules) (at (OpenStmt (layer.For loop.variable loop.counter loop.items loop.body pos) restoring) k l)
        (at (Fail (error.ErrorTooManyVariables loop.variable.pos)) k l)
    has_none is = step_by rules _ _ (Go (for_core true loop k l.local)) (rw is refl) here

    pub has_room : has_no_room rules.setting.limits loop l.local ≡ false →
        Leads (machine rules) (cut rules) (at (OpenStmt (layer.For loop.variable loop.counter loop.items loop.body pos) restoring) k l)
        (at (Eval loop.items) (ForItems loop ∷ k) l)
    has_room is = step_by rules _ _ (Go (for_core false loop k l.local)) (rw is refl) here

  -- what it walks cannot be walked
  pub starts_not : (v w : Dynamic H) (e : EvalAltResult H) (l : State S H) →
      Ok w ≡ flat l.local.around.cells v (position_of loop.items) → (is_out_of_memory e ≡ false → turns_of (layer_of w) ≡ None) →
      (is_out_of_memory e ≡ false → e ≡ error.ErrorFor (start_of loop.items)) →
      Leads (machine rules) (cut rules) (at (Back v) (ForItems loop ∷ k) l) (at (Fail e) k l)
  starts_not v w e l is none told = fails_on rules v (ForItems loop) k l e (λ y. refl) (λ m. rw (← is, none m, told m) refl)

  -- its variables are there, and its turns
  pub starts : (v w : Dynamic H) (turns : Turns H) (t : S) (global : RunState H) (old new : Scope H) (held : Held H)
      (base : ℕ) →
      Ok w ≡ flat (cells_of global.cells) v (position_of loop.items) → turns_of (layer_of w) ≡ Some turns →
      entries_of new ≡ entries_of old ++ loop_entries loop → base ≡ length (entries_of old) →
      Leads (machine rules) (cut rules) (at (Back v) (ForItems loop ∷ k) (state_of t global old held))
      (at (ForTurn loop turns 0 base) (RestoreScope base ∷ k) (state_of t global new held))
  unfolding after
  starts v w turns t global old new held base is some same there = next (rw (← is, some, same, there) here)

  -- ---- the end

  -- its variables are gone
  pub leaves_scope : (r : Result (Dynamic H) (EvalAltResult H)) (base : ℕ) (t : S) (global : RunState H) (old new : Scope H)
      (held : Held H) → entries_of new ≡ take base (entries_of old) →
      Leads (machine rules) (cut rules) (at (ended r) (RestoreScope base ∷ k) (state_of t global old held))
      (at (ended r) k (state_of t global new held))
  unfolding after
  leaves_scope (Ok v) base t global old new held is = next (rw is here)
  leaves_scope (Err e) base t global old new held is = next (rw is here)

  module _ (turn base : ℕ) where
    -- no turn is left
    pub turns_end : (left : Turns H) (l : State S H) → next_turn left ≡ None →
        Leads (machine rules) (cut rules) (at (ForTurn loop left turn base) k l) (at (Back unit_value) k l)
    turns_end left l is = step_by rules _ _ (Go (core (Back unit_value) k l.local)) (rw is refl) here

    module _ (left rest : Turns H) (item : Dynamic H) (is : next_turn left ≡ Some (item, rest)) (empty : loop.body.statements ≡ []) where
      -- an empty body is charged, or its charge is refused
      pub empty_charged : (t : S) (old mid : RunState H) (scope : Scope H) (held : Held H) →
          old.num_operations < limit_under rules → mid ≡ record old { num_operations = old.num_operations + 1 } →
          Leads (machine rules) (cut rules) (at (ForTurn loop left turn base) k (state_of t old scope held))
          (at (ForTurn loop rest (turn + 1) base) k (state_of t mid scope held))
      unfolding after
      empty_charged t old mid scope held room charged = next (rw (is, empty, lt-ltb _ _ room, charged) here)

      pub empty_refused : (t : S) (old new : RunState H) (scope : Scope H) (held : Held H) (x : EvalAltResult H) →
          limit_under rules ≤ old.num_operations → x ≡ error.ErrorTooManyOperations loop.body.position → new ≡ old →
          Leads (machine rules) (cut rules) (at (ForTurn loop left turn base) k (state_of t old scope held))
          (at (Fail x) k (state_of t new scope held))
      unfolding after
      empty_refused t old new scope held x full refused same = next (rw (is, empty, le-ltb _ _ full, refused, same) here)

    -- a body's end
    pub body_ends : (r : Result (Dynamic H) (EvalAltResult H)) (rest : Turns H) (l : State S H) →
        Leads (machine rules) (cut rules) (at (ended r) (ForBody loop rest turn base ∷ k) l)
        (at (after_turn (after_body (turn_in r)) (ForTurn loop rest (turn + 1) base)) k l)
    unfolding after
    body_ends (Ok v) rest l = next here
    body_ends (Err (error.LoopBreak v false pos)) rest l = next here
    body_ends (Err (error.LoopBreak v true pos)) rest l = next here
    body_ends (Err e) rest l = next here

  -- where another turn follows what holds of a turn that went well holds
  pub on_turn : (well : Option Bool) (v : Dynamic H) (e : Option (EvalAltResult H)) (r : Result (Option (Dynamic H)) (EvalAltResult H))
      (P : Type 0) → came_turn well v e ≡ r → well ≡ None → OnOk r P → P
  on_turn None v e (Ok x) P is none p = p
  on_turn None v e (Err x) P is none p = cc
  on_turn (Some done) v e r P is none p = cc

-- what holds holds of an end that went well
pub if_well : {P : Type 0} (well : Option Bool) → P → IfSome well (λ done. IsTrue done → P)
if_well None p = tt
if_well (Some done) p = λ _. p
