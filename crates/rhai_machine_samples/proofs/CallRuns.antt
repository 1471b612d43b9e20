-- The sample runs of calls by name.
use Rattle.std.proofs.Common.{refl}
use Rattle.std.specs.Prelude.{ℕ, true, false, List, [], ◌∷◌, Some, codes}
use Rattle.rhai_tree.specs.declared.token.Token.TheVariants.{Plus}
use Rattle.rhai_tree.specs.declared.expr.Expr.{Expr}
use Rattle.rhai_tree.specs.declared.expr.Expr.TheVariants as expr
use Rattle.rhai_tree.specs.declared.expr.Stmt.TheVariants as stmt
use Rattle.rhai_values.specs.declared.base.value.Dynamic.{Dynamic}
use Rattle.rhai_values.specs.declared.base.value.FnPtr.{roll-FnPtr, out-roll-FnPtr}
use Rattle.rhai_values.specs.declared.base.value.FnPtrKind.TheVariants as leads
use Rattle.rhai_values.specs.declared.base.value.Union.TheVariants as kind
use Rattle.rhai_values.specs.Copy.{plain}
use Rattle.rhai_values.proofs.CopyLemmas.{copy-pointer, copy-FnPtr}
use Rattle.rhai_machine.specs.machine.Machine.{Config}
use Rattle.rhai_machine.specs.language.Frames.{FromEntry, Call, Frame, Core, core, Fire, Back, StatementValue, RestOfList, KeywordArgument}
use Rattle.rhai_machine.specs.language.Frames.{Top}
use Rattle.rhai_machine.specs.language.Frames.{CallPointer, Curry}
use Rattle.rhai_machine.specs.language.Calls.{call_at, call_of}
use Rattle.rhai_machine.specs.language.Arguments.{operation_named, pointer_named}
use Rattle.rhai_machine_samples.specs.Trees.{column, int, var}
use Rattle.rhai_machine_samples.specs.Runs.{Table, entry, fixed, integer}
use Rattle.rhai_machine_samples.specs.Handles.{one_cell}
use Rattle.rhai_machine_samples.specs.Calls.{Calls, Keywords, Pointers, number_pointer}
use Rattle.rhai_machine_samples.proofs.SampleRuns.{opened, placed, measured, by_steps, stretch, script_at}

ruleset forms = (
  placed,
  measured,
  kind.outs-Int,
  expr.outs-StringConstant,
  stmt.outs-FnCall,
)

-- what a pointer is
ruleset pointing = (kind.outs-FnPtr, out-roll-FnPtr)

ruleset copied = (forms, copy-FnPtr, copy-pointer, out-roll-FnPtr)

module _ {S H : Type 0} (table : Table S H) (host : H → List ℕ) where
  -- the native of a call is about to be called, the rest of the script behind it
  abbrev fires : List ℕ → List (Dynamic H) → ℕ → Config S H (Core H)
  fires name args count = script_at table (Fire (call_of (operation_named name (column 1)) args))
      (StatementValue (column 1) ∷ RestOfList [] false ∷ []) [] count

  abbrev captured_fires : Config S H (Core H)
  captured_fires =
      script_at table (Fire (call_of (operation_named (codes "inc") (column 1)) (integer 1 ∷ [])))
      (StatementValue (column 1) ∷ RestOfList [] false ∷ [])
      (entry (codes "x") (integer 1) ∷ []) 4

  -- of the variable `x`, lent or by its value
  abbrev x_fires : Call H → Dynamic H → Config S H (Core H)
  x_fires call x = script_at table (Fire call) (StatementValue (column 1) ∷ RestOfList [] false ∷ []) (entry (codes "x") x ∷ []) 4

  abbrev lent_fires : Config S H (Core H)
  lent_fires = x_fires (record (call_of (operation_named (codes "inc") (column 1)) (integer 1 ∷ [])) {
    lender = Some (FromEntry 0);
    guarded = true;
  }) (integer 1)

  abbrev constant_fires : Config S H (Core H)
  constant_fires = x_fires (call_of (operation_named (codes "inc") (column 1)) (integer 1 ∷ [])) (fixed 1)

  abbrev cell_fires : Config S H (Core H)
  cell_fires = record {
    core = core (Fire (call_of (operation_named (codes "inc") (column 1)) (integer 5 ∷ [])))
        (StatementValue (column 1) ∷ RestOfList [] false ∷ Top false ∷ []) (one_cell table host (Some (integer 5)) []);
    table = table.state;
    count = 4;
    calls = [];
  }

  abbrev sum_fires : Config S H (Core H)
  sum_fires =
      script_at table (Fire (call_at (codes "+") Plus (column 4) (integer 40 ∷ integer 2 ∷ [])))
      (StatementValue (column 4) ∷ RestOfList [] false ∷ []) [] 5

  pub calls : Calls table host
  calls = record {
    lent = λ replies. stretch _ _ 9 _ lent_fires (simp forms) (by_steps _ _ 9 (simp replies) refl);
    as_statement = λ replies. by_steps _ _ 40 (simp (replies, forms)) refl;
    faults = λ replies. stretch _ _ 9 _ lent_fires (simp forms) (by_steps _ _ 9 (simp replies) refl);
    constant = λ replies. stretch _ _ 9 _ constant_fires (simp forms) (by_steps _ _ 9 (simp replies) refl);
    by_value = λ replies. stretch _ _ 13 _ captured_fires (simp opened) (by_steps _ _ 9 (simp replies) refl);
    by_copy = λ replies. stretch _ _ 9 _ cell_fires (simp forms) (by_steps _ _ 9 (simp replies) refl);
    held = by_steps _ _ 40 (simp forms) refl;
    unknown = by_steps _ _ 40 (simp forms) refl;
    cut = by_steps _ _ 40 (simp forms) refl;
    missing = λ replies. stretch _ _ 11 _ (fires (codes "nope") (integer 1 ∷ []) 4) (simp forms) (by_steps _ _ 9
        (simp (replies, forms)) refl);
    no_arguments = λ replies. by_steps _ _ 40 (simp (replies, forms)) refl;
    slow = λ replies. stretch _ _ 13 _ sum_fires (simp opened) (by_steps _ _ 9 (simp replies) refl);
  }

  pub keywords : Keywords table host
  keywords = record {
    type = by_steps _ _ 40 (simp forms) refl;
    no_compiler = by_steps _ _ 40 (simp forms) refl;
    no_script_function = by_steps _ _ 40 (simp forms) refl;
    shared_handle = by_steps _ _ 40 (simp forms) refl;
    defined_variable = by_steps _ _ 40 (simp forms) refl;
    undefined_variable = by_steps _ _ 40 (simp forms) refl;
    no_function = by_steps _ _ 40 (simp forms) refl;
    no_word = by_steps _ _ 40 (simp forms) refl;
  }

  -- a pointer comes up to the call of it
  abbrev waiting : (rest : List Expr) → List (Frame H)
  waiting rest = KeywordArgument CallPointer (column 1) (column 6) rest false ∷ StatementValue (column 1) ∷ RestOfList [] false ∷ []

  abbrev pointer_made : Config S H (Core H)
  pointer_made = script_at table (Back (pointer_named (codes "f"))) (waiting (int 15 4 ∷ [])) [] 4

  abbrev curry_waits : Config S H (Core H)
  curry_waits = script_at table (Back (pointer_named (codes "f")))
      (KeywordArgument Curry (column 6) (column 12) (int 21 5 ∷ []) false ∷ waiting (int 25 4 ∷ [])) [] 5

  abbrev curried_pointer : Dynamic H
  curried_pointer = plain (kind.FnPtr {X1 = H} (roll-FnPtr H (record { name = codes "f"; curry = integer 5 ∷ []; kind = leads.Name })))

  abbrev curry_made : Config S H (Core H)
  curry_made = script_at table (Back curried_pointer) (waiting (int 25 4 ∷ [])) [] 6

  abbrev number_waits : Config S H (Core H)
  number_waits = record {
    core = core (Back number_pointer)
        (KeywordArgument CallPointer (column 1) (column 6) (var 9 (codes "h") ∷ []) false ∷ StatementValue (column 1) ∷ RestOfList [] false
        ∷ Top false ∷ [])
        (one_cell table host (Some (integer 5)) (entry (codes "p") number_pointer ∷ []));
    table = table.state;
    count = 3;
    calls = [];
  }

  pub pointers : Pointers table host
  pointers = record {
    called = λ replies. stretch _ _ 11 _ pointer_made (simp forms) (stretch _ _ 6 _ (fires (codes "f") (integer 4 ∷ []) 6)
        (simp (forms, pointing)) (by_steps _ _ 9 (simp replies) refl));
    with_curried = λ replies. stretch _ _ 14 _ curry_waits (simp forms) (stretch _ _ 3 _ curry_made (simp (forms, pointing))
        (stretch _ _ 6 _ (fires (codes "f") (integer 5 ∷ integer 4 ∷ []) 8) (simp (forms, pointing)) (by_steps _ _ 9 (simp replies) refl)));
    mismatch = by_steps _ _ 40 (simp forms) refl;
    numbered_native = λ replies. stretch _ _ 9 _ number_waits (simp copied) (by_steps _ _ 40 (simp (replies, forms, pointing)) refl);
  }
