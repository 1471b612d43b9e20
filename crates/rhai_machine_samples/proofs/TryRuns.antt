-- The sample runs of `try` and `throw`.
use Rattle.std.proofs.Common.{refl}
use Rattle.std.specs.Prelude.{ℕ, true, false, List, [], ◌∷◌, ◌++◌, Option, Some, None, codes}
use Rattle.rhai_tree.specs.declared.expr.Stmt.TheVariants as stmt
use Rattle.rhai_values.specs.declared.base.value.Union.TheVariants as kind
use Rattle.rhai_errors.specs.declared.error.EvalAltResult.TheFolds.{fold_out-EvalAltResult, fold_out-FunctionCallError}
use Rattle.rhai_errors.specs.declared.error.EvalAltResult.TheVariants as error
use Rattle.rhai_errors.specs.declared.error.FunctionCallError.{out-roll-FunctionCallError}
use Rattle.rhai_values.proofs.CopyLemmas.{copy-Map}
use Rattle.rhai_values.proofs.ModeLemmas.{mode-Map}
use Rattle.rhai_machine.specs.Types.{Dynamic, EvalAltResult, ScopeEntry}
use Rattle.rhai_machine.specs.machine.Machine.{Config}
use Rattle.rhai_machine.specs.language.State.{Local}
use Rattle.rhai_machine.specs.language.Variables.{no_path}
use Rattle.rhai_machine.specs.language.Frames.{Control, Frame, Core, core, Assign, Enter, RestoreList, Fail, RestOfList, Top, TryBody}
use Rattle.rhai_machine.specs.language.Frames.{CatchBranch, RestoreScope}
use Rattle.rhai_machine_samples.specs.Trees.{braces, column, loop_, var, value}
use Rattle.rhai_machine_samples.specs.Runs.{Table, entry, integer, nothing_but, unit}
use Rattle.rhai_machine_samples.specs.Data.{word}
use Rattle.rhai_machine_samples.specs.Functions.{wrapped}
use Rattle.rhai_machine_samples.specs.Tries.{Throws, Tries, TryEnds, call_map, keeping, nope_map}
use Rattle.rhai_machine_samples.proofs.SampleRuns.{opened, placed, measured, by_steps, stretch}

-- what an error is
ruleset trying = (
  opened,
  measured,
  stmt.outs-TryCatch,
  kind.outs-Int,
  kind.outs-Cell,
  fold_out-EvalAltResult,
  fold_out-FunctionCallError,
  out-roll-FunctionCallError,
  error.outs-ErrorRuntime,
  error.outs-ErrorVariableNotFound,
  error.outs-ErrorInFunctionCall,
  error.outs-ErrorUnboundThis,
)

ruleset refused = (trying, placed)

-- no error is looked into
ruleset catching = (opened, stmt.outs-TryCatch)

-- a map of an error as a variable, which is copied and assigned
ruleset mapping = (opened, copy-Map, mode-Map)

module _ {S H : Type 0} (table : Table S H) (host : H → List ℕ) where
  -- a `try` of these samples does this with its frames on top, over these variables
  abbrev tried_at : Control H → List (Frame H) → (source : Option (List ℕ)) → List (ScopeEntry H) → (count : ℕ) → Config S H (Core H)
  tried_at control k source scope count =
      let l : Local H = nothing_but scope in
      record {
        core = core control (k ++ RestOfList [] false ∷ Top false ∷ []) (record l { around = record l.around { source = source } });
        table = table.state;
        count = count;
        calls = [];
      }

  -- what the `try` of `kept_map` catches, and what its branch keeps
  abbrev unknown : EvalAltResult H
  unknown = error.ErrorVariableNotFound (codes "nope") (column 7)

  abbrev nope_raised : (source : Option (List ℕ)) → Config S H (Core H)
  nope_raised source = tried_at (Fail unknown) (TryBody (var 21 (codes "e")) keeping ∷ []) source (entry (codes "r") unit ∷ []) 3

  abbrev nope_caught : (source : Option (List ℕ)) → Dynamic H → Config S H (Core H)
  nope_caught source v = tried_at (Enter keeping.statements true) (CatchBranch unknown ∷ RestoreScope 1 ∷ []) source
      (entry (codes "r") unit ∷ entry (codes "e") v ∷ []) 3

  -- the branch of `kept_map` assigns a map, over the frames below
  abbrev map_assigned : EvalAltResult H → (below : List (Frame H)) → (source : Option (List ℕ)) → Dynamic H → (count : ℕ) →
      Config S H (Core H)
  map_assigned caught below source v count =
      let l : Local H = nothing_but (entry (codes "r") unit ∷ entry (codes "e") v ∷ []) in
      record {
        core = core (Assign (record {
          path = no_path;
          name = codes "r";
          at = column 26;
          op = record {
            op = None;
            position =
                column 28;
          };
        }) v)
            (RestOfList [] true ∷ RestoreList (record { scope_length = 2; imports_length = 0; scope_level = 0 }) ∷ CatchBranch caught
            ∷ RestoreScope 1 ∷ below)
            (record l { scope_level = 1; around = record l.around { source = source } });
        table = table.state;
        count = count;
        calls = [];
      }

  abbrev script_end : List (Frame H)
  script_end = RestOfList [] false ∷ Top false ∷ []

  -- the branch of `caught` begins
  abbrev value_caught : Config S H (Core H)
  value_caught = tried_at (Enter (value (var 31 (codes "e")) ∷ []) true)
      (CatchBranch (error.ErrorRuntime (integer 42) (column 7)) ∷ RestoreScope 0 ∷ []) None (entry (codes "e") (integer 42) ∷ []) 3

  -- that of `endless_branch` does
  abbrev endless_caught : Config S H (Core H)
  endless_caught = tried_at (Enter (loop_ 26 (braces 31 32 []) ∷ []) true) (CatchBranch (error.ErrorRuntime (integer 1) (column 7)) ∷ [])
      None [] 3

  -- an error of a call, which has nothing below it but its `try`
  abbrev of_f : EvalAltResult H
  of_f = wrapped (codes "f") (error.ErrorUnboundThis (column 9)) (column 5)

  abbrev call_caught : Config S H (Core H)
  call_caught = record {
    core = core (Enter keeping.statements true) (CatchBranch of_f ∷ RestoreScope 1 ∷ [])
        (nothing_but (entry (codes "r") unit ∷ entry (codes "e") (call_map table host) ∷ []));
    table = table.state;
    count = 0;
    calls = [];
  }

  pub throws : Throws table host
  throws = record {
    flattened = by_steps _ _ 20 (simp trying) refl;
    nothing = by_steps _ _ 20 (simp trying) refl;
    refused = by_steps _ _ 20 (simp refused) refl;
    value_refused = by_steps _ _ 20 (simp refused) refl;
  }

  pub tries : Tries table host
  tries = record {
    passes = by_steps _ _ 30 (simp trying) refl;
    catches = by_steps _ _ 40 (simp trying) refl;
    value = by_steps _ _ 40 (simp trying) refl;
    map_of_error = stretch _ _ 13 _ (nope_raised None) (simp catching)
        (stretch _ _ 1 _ (nope_caught None (nope_map table host [] [])) (simp (trying, mode-Map))
        (stretch _ _ 7 _ (map_assigned unknown script_end None (nope_map table host [] []) 5) (simp mapping) (by_steps _ _ 20
        (simp mapping) refl)));
    with_a_source = stretch _ _ 13 _ (nope_raised (Some (codes "s"))) (simp catching)
        (stretch _ _ 1 _ (nope_caught (Some (codes "s")) (nope_map table host (codes "source" ∷ []) (word (codes "s") ∷ [])))
        (simp (trying, mode-Map))
        (stretch _ _ 7 _ (map_assigned unknown script_end (Some (codes "s"))
        (nope_map table host (codes "source" ∷ []) (word (codes "s") ∷ [])) 5) (simp mapping) (by_steps _ _ 20 (simp mapping) refl)));
    again = by_steps _ _ 40 (simp trying) refl;
    innermost = by_steps _ _ 50 (simp trying) refl;
    other = by_steps _ _ 40 (simp trying) refl;
    taken_back = by_steps _ _ 40 (simp trying) refl;
    full = by_steps _ _ 30 (simp trying) refl;
    full_inside = by_steps _ _ 40 (simp trying) refl;
  }

  pub try_ends : TryEnds table host
  try_ends = record {
    body_cut = by_steps _ _ 40 (simp refused) refl;
    branch_cut = stretch _ _ 14 _ endless_caught (simp catching) (by_steps _ _ 20 (simp (catching, placed)) refl);
    branch_refused = stretch _ _ 14 _ value_caught (simp trying) (by_steps _ _ 20 (simp refused) refl);
    breaks = by_steps _ _ 40 (simp trying) refl;
    branch_breaks = by_steps _ _ 50 (simp trying) refl;
    returns = by_steps _ _ 40 (simp trying) refl;
    through = by_steps _ _ 20 refl refl;
    held = by_steps _ _ 20 refl refl;
    from_call = by_steps _ _ 30 (simp trying) refl;
    of_call = stretch _ _ 1 _ call_caught (simp (trying, mode-Map))
        (stretch _ _ 7 _ (map_assigned of_f [] None (call_map table host) 2) (simp mapping) (by_steps _ _ 20 (simp mapping) refl));
    in_call = by_steps _ _ 20 refl refl;
  }
