-- Each move of a `switch`, a `for`, a `try` and of shared variables makes a core smaller.
use Rattle.std.proofs.Common.{arith}
use Rattle.std.proofs.lemmas.List.{length-append}
use Rattle.std.specs.Prelude.{◌≡◌, ◌<◌, ◌≤◌, ℕ, ℤ, ◌+◌, nat_le, length, Bool, true, false, List, [], ◌∷◌, ◌++◌, Option, Some, None}
use Rattle.std.specs.Prelude.{slice_get}
use Rattle.std.specs.Prelude.{if◌then◌else◌, ◌^◌}
use Rattle.rhai_tree.specs.declared.expr.ConditionalExpr.{ConditionalExpr}
use Rattle.rhai_tree.specs.declared.expr.Expr.{Expr, out-Expr}
use Rattle.rhai_tree.specs.declared.expr.Ident.{Ident}
use Rattle.rhai_tree.specs.declared.expr.RangeCase.{RangeCase}
use Rattle.rhai_tree.specs.declared.expr.SharedVariable.{SharedVariable}
use Rattle.rhai_tree.specs.declared.expr.Stmt.{Stmt}
use Rattle.rhai_tree.specs.declared.expr.StmtBlock.{StmtBlock}
use Rattle.rhai_tree.specs.declared.expr.SwitchCase.{SwitchCase}
use Rattle.rhai_tree.specs.Positions.{position_of}
use Rattle.rhai_values.specs.declared.base.value.Dynamic.{Dynamic}
use Rattle.rhai_values.specs.declared.base.value.Union.{Union}
use Rattle.rhai_values.specs.declared.base.value.Union.TheVariants as value
use Rattle.rhai_values.specs.Hashable.{is_hashable}
use Rattle.rhai_values.specs.LiteralEquals.{equals}
use Rattle.rhai_errors.specs.declared.error.EvalAltResult.{EvalAltResult}
use Rattle.rhai_state.specs.Scope.{found, index_of}
use Rattle.rhai_machine.specs.machine.Settling.{Falls}
use Rattle.rhai_machine.specs.language.Setting.{Setting}
use Rattle.rhai_machine.specs.language.State.{Local}
use Rattle.rhai_machine.specs.language.Values.{flat}
use Rattle.rhai_machine.specs.language.Cases.{Cases, is_within, number_of, in_ranges, by_ranges, by_cases, if_hashable, numbers_for}
use Rattle.rhai_machine.specs.language.Cases.{with_result}
use Rattle.rhai_machine.specs.language.Cases.{results_of, candidates}
use Rattle.rhai_machine.specs.language.Turns.{ForLoop, Turns}
use Rattle.rhai_machine.specs.language.Frames.{Frame, Core, core, Enter, ForTurn, ForItem}
use Rattle.rhai_machine.specs.language.Choices.{truth_literal, met_core, tested_core, choose_core}
use Rattle.rhai_machine.specs.language.Walks.{counters, for_core, started_core, place_of_entry, counted_core, turn_core, for_move}
use Rattle.rhai_machine.specs.language.Walks.{entered_core}
use Rattle.rhai_machine.specs.language.Walks.{item_core}
use Rattle.rhai_machine.specs.language.Caught.{caught_value, thrown}
use Rattle.rhai_machine.specs.language.Tries.{branch_with, branch_core, tried_core}
use Rattle.rhai_machine.specs.language.Sharing.{shared_core, share_core}
use Rattle.rhai_machine.proofs.Sizes.{numbers_in, all_numbers, item_size, control_size, stack_size, size, enter_size, on_below}

-- ---- the results that a `switch` may have are no more than its numbers

length_if : (b : Bool) (xs ys : List ℕ) (n : ℕ) → length xs ≤ n → length ys ≤ n → length (if b then xs else ys) ≤ n
length_if true xs ys n first second = first
length_if false xs ys n first second = second

ranges_length : (n : ℤ) (ranges : List RangeCase) → length (in_ranges n ranges) ≤ length ranges
ranges_length n [] = omega arith
ranges_length n (range ∷ ranges) = length_if (is_within n range) (number_of range ∷ in_ranges n ranges) (in_ranges n ranges)
    (length (range ∷ ranges)) (omega (arith, ranges_length n ranges)) (omega (arith, ranges_length n ranges))

with_result_length : (r : Option ConditionalExpr) (rest : List ConditionalExpr) → length (with_result r rest) ≤ 1 + length rest
with_result_length (Some r) rest = omega arith
with_result_length None rest = omega arith

results_length : (results : List ConditionalExpr) (numbers : List ℕ) → length (results_of results numbers) ≤ length numbers
results_length results [] = omega arith
results_length results (n ∷ numbers) =
    omega (arith, with_result_length (slice_get results n) (results_of results numbers), results_length results numbers)

hashable_length : (b : Bool) (numbers : List ℕ) → length (if_hashable b numbers) ≤ length numbers
hashable_length true numbers = omega arith
hashable_length false numbers = omega arith

-- an item of a `for` leads on to its body
item_least : (stmts : List Stmt) → 11 < item_size stmts
item_least [] = omega arith
item_least (stmt ∷ stmts) = omega arith

entered_size : (H : Type 0) (stmts : List Stmt) → control_size {H = H} (Enter stmts true) + 6 < item_size stmts
entered_size H [] = omega arith
entered_size H (stmt ∷ stmts) = omega arith

module _ {H : Type 0} where
  by_ranges_length : (u : Union H) (ranges : List RangeCase) → length (by_ranges u ranges) ≤ length ranges
  by_ranges_length (value.Int n) ranges = ranges_length n ranges
  by_ranges_length _ ranges = omega arith

  by_cases_length : (v : Dynamic H) (cases : List SwitchCase) → length (by_cases v cases) ≤ numbers_in cases
  by_cases_length v [] = omega arith
  by_cases_length v (case ∷ cases) = length_if (equals case.value v) case.blocks (by_cases v cases) (numbers_in (case ∷ cases))
      (omega arith) (omega (arith, by_cases_length v cases))

  pub candidates_size : (choice : Cases) (v : Dynamic H) → length (candidates choice v) ≤ all_numbers choice.cases choice.ranges
  candidates_size choice v = omega (
    arith,
    results_length choice.results (numbers_for choice v),
    hashable_length (is_hashable v) (by_cases v choice.cases ++ by_ranges v.value choice.ranges),
    length-append (by_cases v choice.cases) (by_ranges v.value choice.ranges),
    by_cases_length v choice.cases,
    by_ranges_length v.value choice.ranges,
  )

  -- ---- `switch`

  pub met_falls : (holds : Bool) (candidate : ConditionalExpr) (rest : List ConditionalExpr) (default : Option Expr) (k : List (Frame H))
      (l : Local H) → size (met_core holds candidate rest default k l) ≤ length rest + 10 + stack_size k
  met_falls true candidate rest default k l = omega arith
  met_falls false candidate rest default k l = omega arith

  tested_falls : (literal : Option Bool) (candidate : ConditionalExpr) (rest : List ConditionalExpr) (default : Option Expr)
      (k : List (Frame H)) (l : Local H) → size (tested_core literal candidate rest default k l) ≤ length rest + 10 + stack_size k
  tested_falls (Some holds) candidate rest default k l = met_falls holds candidate rest default k l
  tested_falls None candidate rest default k l = omega arith

  pub choose_falls : (candidates : List ConditionalExpr) (default : Option Expr) (k : List (Frame H)) (l : Local H) →
      size (choose_core candidates default k l) < length candidates + 10 + stack_size k
  choose_falls [] None k l = omega arith
  choose_falls [] (Some result) k l = omega arith
  choose_falls (candidate ∷ rest) default k l =
      omega (arith, tested_falls (truth_literal (out-Expr candidate.condition)) candidate rest default k l)

  -- ---- `for`

  pub for_falls : (full : Bool) (loop : ForLoop) (k : List (Frame H)) (l : Local H) → size (for_core full loop k l) < 12 + stack_size k
  for_falls true loop k l = omega arith
  for_falls false loop k l = omega arith

  pub started_falls : (turns : Option (Turns H)) (loop : ForLoop) (k : List (Frame H)) (l : Local H) →
      size (started_core turns loop k l) ≤ 14 + stack_size k
  started_falls (Some turns) loop k l = omega arith
  started_falls None loop k l = omega arith

  module _ (loop : ForLoop) (rest : Turns H) (turn base : ℕ) (k : List (Frame H)) (stmts : List Stmt) (body : loop.body.statements ≡ stmts)
    where
      counted_falls : (counter : Option Ident) (item : Dynamic H) (l : Local H) → item_size stmts < 13 →
          size (counted_core counter loop turn base (λ m. core (ForItem loop item rest turn base) k m) k l) < 13 + stack_size k
      counted_falls None item l less = rw body (omega (arith, less))
      counted_falls (Some counter) item l less = on_below (place_of_entry counter.name loop.variable.pos base l) _ k l (13 + stack_size k)
          (omega arith) (λ place. rw body (omega (arith, less)))

      turn_falls : (overflows : Bool) (item : Dynamic H) (l : Local H) → item_size stmts < 13 →
          size (turn_core overflows loop item rest turn base k l) < 13 + stack_size k
      turn_falls true item l less = omega arith
      turn_falls false item l less = counted_falls loop.counter item l less

  entered_falls : (loop : ForLoop) (v : Dynamic H) (rest : Turns H) (turn base : ℕ) (k : List (Frame H)) (l : Local H) →
      size (entered_core loop v rest turn base k l) < item_size loop.body.statements + stack_size k
  entered_falls loop v rest turn base k l = on_below
      (place_of_entry loop.variable.name loop.variable.pos (base + counters loop.counter) l) _ k l
      (item_size loop.body.statements + stack_size k) (omega (arith, item_least loop.body.statements))
      (λ place. omega (arith, entered_size H loop.body.statements))

  pub for_turn_falls : (next : Option (Dynamic H × Turns H)) (stmts : List Stmt) (loop : ForLoop) (left : Turns H) (turn base : ℕ)
      (k : List (Frame H)) (l : Local H) → loop.body.statements ≡ stmts →
      Falls size (core (ForTurn loop left turn base) k l) (for_move next stmts loop turn base k l)
  for_turn_falls None stmts loop left turn base k l body = omega arith
  for_turn_falls (Some (item, rest)) [] loop left turn base k l body = tt
  for_turn_falls (Some (item, rest)) (stmt ∷ stmts) loop left turn base k l body =
      turn_falls loop rest turn base k (stmt ∷ stmts) body (nat_le (2 ^ 63) turn) item l (omega arith)

  pub item_falls : (loop : ForLoop) (item : Dynamic H) (rest : Turns H) (turn base : ℕ) (k : List (Frame H)) (l : Local H) →
      size (item_core loop item rest turn base k l) < item_size loop.body.statements + stack_size k
  item_falls loop item rest turn base k l = on_below (flat l.around.cells item (position_of loop.items)) _ k l
      (item_size loop.body.statements + stack_size k) (omega (arith, item_least loop.body.statements))
      (λ v. entered_falls loop v rest turn base k l)

  -- ---- `try`

  branch_with_falls : (full : Bool) (variable : Ident) (v : Dynamic H) (caught : EvalAltResult H) (branch : StmtBlock) (k : List (Frame H))
      (l : Local H) → size (branch_with full variable v caught branch k l) ≤ 11 + stack_size k
  branch_with_falls true variable v caught branch k l = omega arith
  branch_with_falls false variable v caught branch k l = omega (arith, enter_size branch.statements true k)

  module _ (s : Setting H) where
    branch_falls : (variable : Option Ident) (caught : EvalAltResult H) (branch : StmtBlock) (k : List (Frame H)) (l : Local H) →
        size (branch_core s variable caught branch k l) ≤ 11 + stack_size k
    branch_falls None caught branch k l = omega (arith, enter_size branch.statements true k)
    branch_falls (Some variable) caught branch k l = branch_with_falls (nat_le s.limits.max_variables (length l.scope)) variable
        (caught_value (thrown caught) l.around.source caught) caught branch k l

    pub tried_falls : (catches : Bool) (variable : Option Ident) (e : EvalAltResult H) (branch : StmtBlock) (k : List
        (Frame H)) (l : Local H)
        → size (tried_core s catches variable e branch k l) ≤ 11 + stack_size k
    tried_falls true variable e branch k l = branch_falls variable e branch k l
    tried_falls false variable e branch k l = omega arith

  -- ---- shared variables

  shared_falls : (ident : Ident) (index : Option ℕ) (there : Option (Dynamic H)) (rest : List SharedVariable) (k : List (Frame H))
      (l : Local H) → size (shared_core ident index there rest k l) ≤ length rest + 12 + stack_size k
  shared_falls ident (Some index) (Some v) rest k l = omega arith
  shared_falls ident (Some index) None rest k l = omega arith
  shared_falls ident None there rest k l = omega arith

  pub share_falls : (variables : List SharedVariable) (k : List (Frame H)) (l : Local H) →
      size (share_core variables k l) < length variables + 12 + stack_size k
  share_falls [] k l = omega arith
  share_falls (variable ∷ rest) k l = omega (
    arith,
    shared_falls variable.ident (index_of variable.ident.name l.scope) (found variable.ident.name l.scope) rest k l,
  )
