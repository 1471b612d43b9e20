-- A condition that compares operands which stand, over the frame that asks for its truth value.
use Rattle.std.proofs.Common.{◌≡◌, ◌<◌, ◌≤◌, ◌+◌, ℕ, Bool, true, List, [], ◌∷◌, Some, Result, Ok, Err, refl, ap}
use Rattle.std.proofs.Common.{arith, subst, ◌∙◌}
use Rattle.rhai_tree.specs.declared.position.Position.{Position}
use Rattle.rhai_tree.specs.declared.token.Token.{Token}
use Rattle.rhai_tree.specs.declared.expr.Expr.{Expr, out-Expr}
use Rattle.rhai_tree.specs.declared.expr.Expr.TheOpen as layer
use Rattle.rhai_tree.specs.declared.expr.FnCallExpr.{FnCallExpr}
use Rattle.rhai_tree.specs.Positions.{position_of}
use Rattle.rhai_values.specs.declared.base.value.Dynamic.{Dynamic}
use Rattle.rhai_state.specs.declared.scope.Scope.{Scope}
use Rattle.rhai_lookups.specs.declared.run.RunState.{RunState}
use Rattle.rhai_errors.specs.declared.error.EvalAltResult.{EvalAltResult}
use Rattle.rhai_errors.specs.declared.error.EvalAltResult.TheVariants as error
use Rattle.rhai_state.specs.Scope.{entries_of}
use Rattle.rhai_operators.specs.Answers.{binary_of}
use Rattle.rhai_machine.specs.machine.Machine.{Go}
use Rattle.rhai_machine.specs.machine.Memory.{here, next, ◌⨾◌, Leads}
use Rattle.rhai_machine.specs.machine.Point.{after}
use Rattle.rhai_machine.specs.language.Setting.{Rules, limit_under, cut}
use Rattle.rhai_machine.specs.language.State.{Held, Local, State}
use Rattle.rhai_machine.specs.language.Values.{bool_value}
use Rattle.rhai_machine.specs.language.Unwinding.{down_core}
use Rattle.rhai_machine.specs.language.Frames.{Frame, core, Eval, OpenExpr, Fail, IfCondition}
use Rattle.rhai_machine.specs.language.Frames.{AndPart, OrPart, WhileCondition, DoCondition, SwitchCondition}
use Rattle.rhai_machine.specs.language.Runs.{at, Goes}
use Rattle.rhai_machine.specs.language.Language.{machine}
use Rattle.rhai_steps.specs.States.{state_of}
use Rattle.rhai_steps.proofs.Pieces.{charged, refused, step_by}
use Rattle.rhai_operands.specs.Standing.{standing}
use Rattle.rhai_operands.specs.Tests.{Tests, asks_truth}
use Rattle.rhai_operands.proofs.InPlace.{compares, left_refused, right_refused}

module _ {S H : Type 0} (rules : Rules S H) where
  -- an error passes a frame that asks for a truth value
  pub truth_passes : (f : Frame H) (pos : Position) → asks_truth f ≡ Some pos → (x : EvalAltResult H) (k : List (Frame H)) (l : Local H) →
      down_core rules.setting f x k l ≡ core (Fail x) k l
  truth_passes (IfCondition test_at body branch) pos is x k l = refl
  truth_passes (AndPart part_at rest) pos is x k l = refl
  truth_passes (OrPart part_at rest) pos is x k l = refl
  truth_passes (WhileCondition test body) pos is x k l = refl
  truth_passes (DoCondition test body options) pos is x k l = refl
  truth_passes (SwitchCondition candidate rest default) pos is x k l = refl
  truth_passes _ pos is x k l = cc

  pub passes_on : (f : Frame H) (pos : Position) → asks_truth f ≡ Some pos → (x : EvalAltResult H) (k : List (Frame H)) (l : State S H) →
      Leads (machine rules) (cut rules) (at (Fail x) (f ∷ k) l) (at (Fail x) k l)
  passes_on f pos is x k l = step_by rules _ _ (Go (core (Fail x) k l.local)) (ap Go (truth_passes f pos is x k l.local)) here

  module _ (t : S) (scope : Scope H) (held : Held H) (test : Expr) (call : FnCallExpr) (token : Token) (left right : Expr)
      (pos : Position) (x y : Dynamic H) (fast : rules.setting.offer.fast_operators ≡ true)
      (form : out-Expr test ≡ layer.Expr::FnCall call pos) (is_token : call.op_token ≡ Some token) (args : call.args ≡ left ∷ right ∷ [])
      (left_stands : standing (out-Expr left) (entries_of scope) ≡ Some x)
      (right_stands : standing (out-Expr right) (entries_of scope) ≡ Some y) where
    -- the condition is refused
    pub test_refused : (old new : RunState H) (e : EvalAltResult H) → limit_under rules ≤ old.num_operations →
        e ≡ error.ErrorTooManyOperations pos → new ≡ old →
        Tests rules test (state_of t old scope held) (Err e) (state_of t new scope held)
    unfolding Tests Goes
    test_refused old new e full is same f asks k =
        refused rules t old new scope held (Eval test) (OpenExpr (out-Expr test)) (position_of test) (λ k. refl) e full (rw form is) same
        (f ∷ k)
        ⨾ passes_on f (position_of test) asks e k (state_of t new scope held)

    module _ (old first : RunState H) (room : old.num_operations < limit_under rules)
        (is : first ≡ record old { num_operations = old.num_operations + 1 }) where
      -- or begins
      test_begins : (k : List (Frame H)) →
          Leads (machine rules) (cut rules) (at (Eval test) k (state_of t old scope held))
          (at (OpenExpr (layer.Expr::FnCall call pos)) k (state_of t first
          scope held))
      test_begins k = charged rules t old first scope held (Eval test) (OpenExpr (layer.Expr::FnCall call pos)) (position_of test)
          (λ k. rw form refl) room is k

      -- an operand is refused
      pub test_left_refused : (new : RunState H) (e : EvalAltResult H) → limit_under rules ≤ first.num_operations →
          e ≡ error.ErrorTooManyOperations (position_of left) → new ≡ first →
          Tests rules test (state_of t old scope held) (Err e) (state_of t new scope held)
      unfolding Tests Goes
      test_left_refused new e full refusal same f asks k =
          test_begins (f ∷ k)
          ⨾ left_refused rules t scope held call token left right pos x y (f ∷ k) fast is_token args
          left_stands
          right_stands first new e full refusal same
          ⨾ passes_on f (position_of test) asks e k (state_of t new scope held)

      module _ (second : RunState H) (more : first.num_operations < limit_under rules)
          (then : second ≡ record first { num_operations = first.num_operations + 1 }) where
        pub test_right_refused : (new : RunState H) (e : EvalAltResult H) → limit_under rules ≤ second.num_operations →
            e ≡ error.ErrorTooManyOperations (position_of right) → new ≡ second →
            Tests rules test (state_of t old scope held) (Err e) (state_of t new scope held)
        unfolding Tests Goes
        test_right_refused new e full refusal same f asks k =
            test_begins (f ∷ k)
            ⨾ right_refused rules t scope held call token left right pos x y (f ∷ k) fast is_token args
            left_stands right_stands first second new more then e full refusal same
            ⨾ passes_on f (position_of test) asks e k (state_of t new scope held)

        -- or the operator says whether it holds
        pub test_holds : (new : RunState H) → second.num_operations < limit_under rules →
            new ≡ record second { num_operations = second.num_operations + 1 } →
            (holds : Bool) → binary_of token x y ≡ Some (Ok (bool_value holds)) →
            Tests rules test (state_of t old scope held) (Ok holds) (state_of t new scope held)
        unfolding after Tests Goes
        test_holds new most last holds is f asks k =
            test_begins (f ∷ k)
            ⨾ compares rules t scope held call token left right pos x y (f ∷ k) fast is_token args
            left_stands right_stands first second new more then most last holds is
            ⨾ next here

    -- the operator says whether it holds, and its charge and those of its operands are taken at once
    pub test_holds_at_once : (old new : RunState H) → old.num_operations + 3 ≤ limit_under rules →
        new ≡ record old { num_operations = old.num_operations + 3 } → (holds : Bool) → binary_of token x y ≡ Some (Ok (bool_value holds)) →
        Tests rules test (state_of t old scope held) (Ok holds) (state_of t new scope held)
    test_holds_at_once old new room is holds says =
        let first = record old { num_operations = old.num_operations + 1 } in
        let second = record first { num_operations = first.num_operations + 1 } in
        test_holds old first (omega arith) refl second (omega arith) refl new (omega arith)
        (is ∙ ap (λ (n : ℕ). record old { num_operations = n }) (omega arith)) holds says

  -- what starts in a state that is the same
  pub from_same : (t : S) (scope : Scope H) (held : Held H) (test : Expr) (old mid new : RunState H) (r : Result Bool
      (EvalAltResult H)) →
      mid ≡ old → Tests rules test (state_of t mid scope held) r (state_of t new scope held) →
      Tests rules test (state_of t old scope held) r (state_of t new scope held)
  from_same t scope held test old mid new r is tests =
      subst (λ (g : RunState H). Tests rules test (state_of t g scope held) r (state_of t new scope held)) is tests
