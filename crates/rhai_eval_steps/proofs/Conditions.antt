-- A condition whose value came up, and what its frame does with it.
use Rattle.std.proofs.Common.{◌≡◌, Bool, true, false, List, ◌∷◌, Option, Some, None, Result, Ok, Err, refl, ap, if◌then◌else◌}
use Rattle.rhai_tree.specs.declared.position.Position.{Position}
use Rattle.rhai_tree.specs.declared.expr.Expr.{Expr}
use Rattle.rhai_tree.specs.declared.expr.StmtBlock.{StmtBlock}
use Rattle.rhai_tree.specs.Positions.{position_of}
use Rattle.rhai_values.specs.declared.base.value.Dynamic.{Dynamic}
use Rattle.rhai_errors.specs.declared.error.EvalAltResult.{EvalAltResult}
use Rattle.rhai_machine.specs.machine.Machine.{Go}
use Rattle.rhai_machine.specs.machine.Point.{Point}
use Rattle.rhai_machine.specs.machine.Memory.{here, ◌⨾◌, Leads}
use Rattle.rhai_machine.specs.language.Setting.{Rules, cut}
use Rattle.rhai_machine.specs.language.State.{State, Answers}
use Rattle.rhai_machine.specs.language.Values.{bool_value, truth, unit_value}
use Rattle.rhai_machine.specs.language.Statements.{chosen_core}
use Rattle.rhai_machine.specs.language.Loops.{goes_on, if_goes_on}
use Rattle.rhai_machine.specs.language.Unwinding.{up_core}
use Rattle.rhai_machine.specs.language.Frames.{Control, Frame, core, Eval, Enter, Back, Fail, IfCondition, AndPart, OrPart}
use Rattle.rhai_machine.specs.language.Frames.{DoCondition, SwitchCondition, WhileCondition}
use Rattle.rhai_machine.specs.language.Runs.{at, with_core, Runs, Goes}
use Rattle.rhai_machine.specs.language.Language.{machine}
use Rattle.rhai_steps.proofs.Pieces.{step_by}
use Rattle.rhai_steps.specs.Loops.{after_test, after_turn}
use Rattle.rhai_operands.specs.Tests.{Tests, asks_truth, told_truth}
use Rattle.rhai_operands.proofs.Conditions.{passes_on, truth_passes}
use Rattle.rhai_eval_steps.proofs.Chain.{fails_on}

module _ {S H : Type 0} (rules : Rules S H) where
  module _ (v : Dynamic H) (pos : Position) (k : List (Frame H)) (l : State S H) where
    -- an error is made of a value that is no truth value, and a truth value is taken as it is
    truth_core : (e : EvalAltResult H) (f : Frame H) → asks_truth f ≡ Some pos → Err e ≡ truth rules.setting.host_type
        l.local.around.cells v pos →
        up_core rules.setting f v k l.local ≡ core (Fail e) k l.local
    truth_core e (IfCondition test_at body branch) is told = let same : test_at ≡ pos = cc in rw (same, ← told) refl
    truth_core e (AndPart part_at rest) is told = let same : part_at ≡ pos = cc in rw (same, ← told) refl
    truth_core e (OrPart part_at rest) is told = let same : part_at ≡ pos = cc in rw (same, ← told) refl
    truth_core e (WhileCondition test body) is told = let same : position_of test ≡ pos = cc in rw (same, ← told) refl
    truth_core e (DoCondition test body options) is told = let same : position_of test ≡ pos = cc in rw (same, ← told) refl
    truth_core e (SwitchCondition candidate rest default) is told = let same : position_of candidate.condition ≡ pos = cc in
        rw (same, ← told) refl
    truth_core e _ is told = cc

    holds_core : (holds : Bool) (f : Frame H) → asks_truth f ≡ Some pos → Ok holds ≡ truth rules.setting.host_type l.local.around.cells
        v pos →
        up_core rules.setting f v k l.local ≡ up_core rules.setting f (bool_value holds) k l.local
    holds_core holds (IfCondition test_at body branch) is told = let same : test_at ≡ pos = cc in rw (same, ← told) refl
    holds_core holds (AndPart part_at rest) is told = let same : part_at ≡ pos = cc in rw (same, ← told) refl
    holds_core holds (OrPart part_at rest) is told = let same : part_at ≡ pos = cc in rw (same, ← told) refl
    holds_core holds (WhileCondition test body) is told = let same : position_of test ≡ pos = cc in rw (same, ← told) refl
    holds_core holds (DoCondition test body options) is told = let same : position_of test ≡ pos = cc in rw (same, ← told) refl
    holds_core holds (SwitchCondition candidate rest default) is told = let same : position_of candidate.condition ≡ pos = cc in
        rw (same, ← told) refl
    holds_core holds _ is told = cc

    truth_told : (r : Result Bool (EvalAltResult H)) (f : Frame H) → asks_truth f ≡ Some pos →
        Answers r (truth rules.setting.host_type l.local.around.cells v pos) →
        Leads (machine rules) (cut rules) (at (Back v) (f ∷ k) l) (with_core (told_truth rules.setting f r k l.local) l)
    truth_told (Ok holds) f is told = step_by rules _ _ (Go (up_core rules.setting f (bool_value holds) k l.local))
        (ap Go (holds_core holds f is (told tt))) here
    truth_told (Err e) f is told = fails_on rules v f k l e (λ x. truth_passes rules f pos is x k l.local) (λ m. truth_core e f is
        (told m))

  -- a condition whose value came up
  pub tests_by : (test : Expr) (v : Dynamic H) (old new : State S H) (r : Result Bool (EvalAltResult H)) →
      Runs rules (Eval test) old (Ok v) new → Answers r (truth rules.setting.host_type new.local.around.cells v (position_of test)) →
      Tests rules test old r new
  unfolding Goes Tests
  tests_by test v old new r runs told f asks k = runs (f ∷ k) ⨾ truth_told v (position_of test) k new r f asks told

  -- or that failed
  pub tests_fail : (test : Expr) (old new : State S H) (e : EvalAltResult H) → Runs rules (Eval test) old (Err e) new →
      Tests rules test old (Err e) new
  unfolding Goes Tests
  tests_fail test old new e runs f asks k = runs (f ∷ k) ⨾ passes_on rules f (position_of test) asks e k new

  -- a condition chooses a list
  pub chooses : (holds : Bool) (body branch : StmtBlock) (k : List (Frame H)) (l : State S H) {q : Point S _} →
      Leads (machine rules) (cut rules) (at (Enter (if holds then body.statements else branch.statements) true) k l) q →
      Leads (machine rules) (cut rules) (with_core (chosen_core holds body branch k l.local) l) q
  chooses true body branch k l goes = goes
  chooses false body branch k l goes = goes

  -- after its condition a `do` goes on, or ends
  test_turn : (goes : Bool) (turn : Control H) → if_goes_on goes turn ≡ after_turn (Ok (if goes then None else Some unit_value)) turn
  test_turn true turn = refl
  test_turn false turn = refl

  pub do_tested : (o : Option (Dynamic H)) (until holds : Bool) (turn : Control H) (k : List (Frame H)) (l : State S H) →
      o ≡ after_test until holds →
      Leads (machine rules) (cut rules) (at (if_goes_on (goes_on until holds) turn) k l) (at (after_turn (Ok o) turn) k l)
  do_tested o until holds turn k l is = rw (is, ← test_turn (goes_on until holds) turn) here
