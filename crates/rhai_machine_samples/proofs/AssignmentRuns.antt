-- The sample runs of assignment.
use Rattle.std.proofs.Common.{refl}
use Rattle.std.specs.Prelude.{ℕ, true, false, List, [], ◌∷◌, Some, drop, codes}
use Rattle.rhai_tree.specs.declared.expr.Stmt.{Stmt}
use Rattle.rhai_tree.specs.declared.token.Token.TheVariants.{Plus}
use Rattle.rhai_values.specs.declared.base.value.Dynamic.{Dynamic}
use Rattle.rhai_machine.specs.machine.Machine.{Config}
use Rattle.rhai_machine.specs.language.Places.{InEntry, InCell}
use Rattle.rhai_machine.specs.language.Frames.{InPlace, Core, core, Run as RunList, FireUpdate, RestOfList, Top}
use Rattle.rhai_machine_samples.specs.Trees.{column}
use Rattle.rhai_machine_samples.specs.Runs.{Table, entry, integer, truth, unit}
use Rattle.rhai_machine_samples.specs.Handles.{one_cell}
use Rattle.rhai_machine_samples.specs.Assignments.{Assignments, Updates, hidden, reached}
use Rattle.rhai_machine_samples.proofs.SampleRuns.{opened, placed, measured, by_steps, stretch, script_at}

module _ {S H : Type 0} (table : Table S H) (host : H → List ℕ) where
  -- a script over the variable that its first statement defined
  abbrev begun : List Stmt → Config S H (Core H)
  begun rest = script_at table (RunList rest false unit) [] (entry (codes "x") (integer 1) ∷ []) 2

  pub assignments : Assignments table host
  assignments = record {
    plain = by_steps _ _ 40 (simp opened) refl;
    cut = by_steps _ _ 40 (simp placed) refl;
    in_block = stretch _ _ 8 _ (begun (drop 1 hidden)) (simp opened) (by_steps _ _ 30 (simp opened) refl);
    from_block = stretch _ _ 8 _ (begun (drop 1 reached)) (simp opened) (by_steps _ _ 30 (simp opened) refl);
    constant = by_steps _ _ 40 (simp placed) refl;
    unknown = by_steps _ _ 40 (simp placed) refl;
    value_first = by_steps _ _ 40 (simp placed) refl;
    too_great = by_steps _ _ 40 (simp placed) refl;
    too_long = by_steps _ _ 40 (simp (placed, measured)) refl;
    in_cell = by_steps _ _ 40 (simp placed) refl;
    locked = by_steps _ _ 40 (simp placed) refl;
    held = by_steps _ _ 40 (simp placed) refl;
  }

  -- the native `+=` of an update is about to be called
  abbrev update_fires : Dynamic H → Config S H (Core H)
  update_fires operand =
      script_at table
      (FireUpdate (record {
        attempt = InPlace;
        operator = Plus;
        at = column 14;
        place = InEntry 0;
        target = integer 1;
        operand = operand;
        target_at = column 12;
      }))
      (RestOfList [] false ∷ []) (entry (codes "x") (integer 1) ∷ []) 6

  -- the same of an update of a cell
  abbrev cell_fires : Config S H (Core H)
  cell_fires = record {
    core = core
        (FireUpdate (record {
          attempt = InPlace;
          operator = Plus;
          at = column 3;
          place = InCell 0;
          target = integer 5;
          operand = truth true;
          target_at = column 1;
        }))
        (RestOfList [] false ∷ Top false ∷ [])
        (one_cell table host (Some (integer 5)) []);
    table = table.state;
    count = 4;
    calls = [];
  }

  pub updates : Updates table host
  updates = record {
    missing = λ replies. stretch _ _ 18 _ (update_fires (truth true)) (simp opened) (by_steps _ _ 9 (simp replies) refl);
    refused = λ replies. stretch _ _ 18 _ (update_fires (truth true)) (simp opened) (by_steps _ _ 9 (simp replies) refl);
    in_place = λ replies. stretch _ _ 18 _ (update_fires (truth true)) (simp opened) (by_steps _ _ 9 (simp replies) refl);
    faults = λ replies. stretch _ _ 18 _ (update_fires (truth true)) (simp opened) (by_steps _ _ 9 (simp replies) refl);
    by_value = λ first second. stretch _ _ 18 _ (update_fires (truth true)) (simp opened) (by_steps _ _ 9 (simp (first, second)) refl);
    by_fault = λ first second. stretch _ _ 18 _ (update_fires (truth true)) (simp opened) (by_steps _ _ 9 (simp (first, second)) refl);
    barred = λ first impure. stretch _ _ 18 _ (update_fires (truth true)) (simp opened) (by_steps _ _ 9 (simp (first, impure)) refl);
    answer_long = λ replies. stretch _ _ 18 _ (update_fires (truth true)) (simp opened) (by_steps _ _ 9 (simp (replies, measured)) refl);
    target_long = λ replies. stretch _ _ 18 _ (update_fires (truth true)) (simp opened) (by_steps _ _ 9 (simp (replies, measured)) refl);
    lent = λ replies. stretch _ _ 11 _ cell_fires (simp opened) (by_steps _ _ 9 (simp replies) refl);
    slow = λ replies. stretch _ _ 18 _ (update_fires (integer 2)) (simp opened) (by_steps _ _ 9 (simp replies) refl);
  }
