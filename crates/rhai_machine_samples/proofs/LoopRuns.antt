-- The sample runs of loops, of the ways out of them, and of the operators that stop early.
use Rattle.std.proofs.Common.{refl}
use Rattle.std.specs.Prelude.{ℕ, true, false, List, [], ◌∷◌, ◌++◌, drop, codes}
use Rattle.rhai_tree.specs.declared.flags.ASTFlags.{ASTFlags}
use Rattle.rhai_tree.specs.declared.expr.Stmt.{Stmt}
use Rattle.rhai_machine.specs.machine.Machine.{Config}
use Rattle.rhai_machine.specs.language.Frames.{Control, Frame, Core, core, Eval, Run as RunList, WhileTurn, DoTurn, RestOfList}
use Rattle.rhai_machine.specs.language.Frames.{RestoreList, DoCondition, DoBody, Top}
use Rattle.rhai_machine_samples.specs.Runs.{Table, nothing_but, entry, integer, unit}
use Rattle.rhai_machine_samples.specs.Loops.{Loops, WaysOut, counted, broken, counted_test, counted_body, continued, continued_test}
use Rattle.rhai_machine_samples.specs.Loops.{continued_body, waits_test}
use Rattle.rhai_machine_samples.specs.Trees.{braces, unit_at}
use Rattle.rhai_machine_samples.specs.Choices.{Choices}
use Rattle.rhai_machine_samples.proofs.SampleRuns.{opened, placed, by_steps, stretch, script_at}

module _ {S H : Type 0} (table : Table S H) (host : H → List ℕ) where
  pub choices : Choices table host
  choices = record {
    or_stops = by_steps _ _ 30 (simp opened) refl;
    or_goes_on = by_steps _ _ 30 (simp opened) refl;
    and_stops = by_steps _ _ 30 (simp opened) refl;
    mismatched = by_steps _ _ 30 (simp opened) refl;
    all_of_none = by_steps _ _ 30 (simp opened) refl;
    any_of_none = by_steps _ _ 30 (simp opened) refl;
    coalesces = by_steps _ _ 30 (simp opened) refl;
    all_unit = by_steps _ _ 30 (simp opened) refl;
    as_it_is = by_steps _ _ 40 (simp opened) refl;
  }

  abbrev until : ASTFlags
  until = record { 0 = 1 }

  -- where the rest of a script begins, over one variable
  abbrev rest_at : List Stmt → List ℕ → ℕ → ℕ → Config S H (Core H)
  rest_at rest name n count = script_at table (RunList rest false unit) [] (entry name (integer n) ∷ []) count

  -- where a loop does this in a script, over the variable `n`
  abbrev loop_at : Control H → List (Frame H) → List Stmt → ℕ → ℕ → Config S H (Core H)
  loop_at c k rest n count = script_at table c (k ++ RestOfList rest false ∷ []) (entry (codes "n") (integer n) ∷ []) count

  -- where a turn of the `while` begins
  abbrev counts_at : ℕ → ℕ → Config S H (Core H)
  counts_at n count = loop_at (WhileTurn counted_test counted_body) [] (drop 2 counted) n count

  -- where a turn of the `do` begins, and its condition at last
  abbrev continues_at : ℕ → ℕ → Config S H (Core H)
  continues_at n count = loop_at (DoTurn continued_test continued_body until) [] (drop 2 continued) n count

  -- inside a turn, where its `if` begins
  abbrev chooses_at : ℕ → ℕ → Config S H (Core H)
  chooses_at n count = record {
    core = core
        (RunList (drop 1 continued_body.statements) true unit)
        (RestoreList (record { scope_length = 1; imports_length = 0; scope_level = 0 }) ∷ DoBody continued_test continued_body
        until ∷ RestOfList (drop 2 continued) false ∷ Top false ∷ [])
        (record (nothing_but (entry (codes "n") (integer n) ∷ [])) { scope_level = 1 });
    table = table.state;
    count = count;
    calls = [];
  }

  -- where a turn of a `while` begins that is all of its script
  abbrev turn_at : Control H → ℕ → Config S H (Core H)
  turn_at turn count = script_at table turn (RestOfList [] false ∷ []) [] count

  abbrev endless_at : ℕ → Config S H (Core H)
  endless_at count = turn_at (WhileTurn (unit_at 1) (braces 6 7 [])) count

  abbrev waits_at : ℕ → Config S H (Core H)
  waits_at count = turn_at (WhileTurn waits_test (braces 14 15 [])) count

  pub loops : Loops table host
  loops = record {
    counts = stretch _ _ 8 _ (rest_at (drop 1 counted) (codes "n") 0 2) (simp opened)
        (stretch _ _ 3 _ (counts_at 0 3) (simp opened)
        (stretch _ _ 23 _ (counts_at 1 9) (simp opened)
        (stretch _ _ 23 _ (counts_at 2 15) (simp opened)
        (stretch _ _ 23 _ (counts_at 3 21) (simp opened)
        (by_steps _ _ 30 (simp opened) refl)))));
    cut = stretch _ _ 8 _ (rest_at (drop 1 counted) (codes "n") 0 2) (simp opened)
        (stretch _ _ 3 _ (counts_at 0 3) (simp opened)
        (stretch _ _ 23 _ (counts_at 1 9) (simp opened)
        (stretch _ _ 23 _ (counts_at 2 15) (simp opened)
        (stretch _ _ 23 _ (counts_at 3 21) (simp opened)
        (by_steps _ _ 30 (simp placed) refl)))));
    continues = stretch _ _ 8 _ (rest_at (drop 1 continued) (codes "n") 0 2) (simp opened)
        (stretch _ _ 3 _ (continues_at 0 3) (simp opened)
        (stretch _ _ 11 _ (chooses_at 1 6) (simp opened)
        (stretch _ _ 21 _ (continues_at 1 11) (simp opened)
        (stretch _ _ 11 _ (chooses_at 2 14) (simp opened)
        (stretch _ _ 21 _ (continues_at 2 19) (simp opened)
        (stretch _ _ 11 _ (chooses_at 3 22) (simp opened)
        (stretch _ _ 21 _ (continues_at 3 27) (simp opened)
        (stretch _ _ 11 _ (chooses_at 4 30) (simp opened)
        (stretch _ _ 21 _ (continues_at 4 35) (simp opened)
        (stretch _ _ 11 _ (chooses_at 5 38) (simp opened)
        (stretch _ _ 17 _ (loop_at (Eval continued_test) (DoCondition continued_test continued_body until ∷ []) (drop 2 continued) 5 42)
        (simp opened)
        (by_steps _ _ 30 (simp opened) refl))))))))))));
    goes_once = by_steps _ _ 30 (simp opened) refl;
    empty = stretch _ _ 4 _ (endless_at 1) (simp opened)
        (stretch _ _ 4 _ (endless_at 5) (simp opened)
        (stretch _ _ 4 _ (endless_at 9) (simp opened)
        (by_steps _ _ 10 (simp placed) refl)));
    waiting = stretch _ _ 4 _ (waits_at 1) (simp opened)
        (stretch _ _ 8 _ (waits_at 3) (simp opened)
        (stretch _ _ 8 _ (waits_at 5) (simp opened)
        (by_steps _ _ 10 (simp placed) refl)));
  }

  pub ways_out : WaysOut table host
  ways_out = record {
    breaks = stretch _ _ 26 _ (rest_at (drop 1 broken) (codes "x") 7 5) (simp opened) (by_steps _ _ 30 (simp opened) refl);
    takes_back = by_steps _ _ 40 (simp opened) refl;
    inner_loop = by_steps _ _ 60 (simp opened) refl;
    as_it_is = by_steps _ _ 40 (simp opened) refl;
    returns = by_steps _ _ 40 (simp opened) refl;
    flattened = by_steps _ _ 40 (simp opened) refl;
  }
