-- The sample runs. A run computes as far as the tree is a known layer, so it is rewritten by what each form of the tree opens to.
use Rattle.std.proofs.Common.{refl, zero, suc, sym, subst}
use Rattle.std.specs.Prelude.{◌≡◌, ℕ, Bool, false, true, List, [], ◌∷◌, ◌++◌, drop, codes, Option, Some, None}
use Rattle.rhai_tree.specs.declared.expr.Expr.TheFolds.{fold_out-Expr, fold_out-FnCallExpr}
use Rattle.rhai_tree.specs.declared.expr.Expr.TheVariants as expr
use Rattle.rhai_tree.specs.declared.expr.Stmt.TheVariants as stmt
use Rattle.rhai_machine.specs.machine.Machine.{Machine, Config, Run, ended, next, step}
use Rattle.rhai_state.specs.declared.scope.ScopeEntry.{ScopeEntry}
use Rattle.rhai_tree.specs.declared.expr.Stmt.{Stmt}
use Rattle.rhai_tree.specs.declared.token.Token.TheVariants.{Plus}
use Rattle.rhai_machine.specs.language.Frames.{Control, Frame, Core, core, Fire, StatementValue, Enter, RestOfList, Run as RunList}
use Rattle.rhai_machine.specs.language.Frames.{Top}
use Rattle.rhai_machine.specs.language.Calls.{call_at}
use Rattle.rhai_machine_samples.specs.Trees.{column, int, var, op, value}
use Rattle.rhai_machine_samples.specs.Runs.{Table, nothing_but, entry, integer, truth, unit}
use Rattle.rhai_machine_samples.specs.Operators.{Sums, Operands}
use Rattle.rhai_machine_samples.specs.Variables.{Blocks, Variables, scopes}
use Rattle.rhai_machine_samples.specs.Limits.{Limits}
use Rattle.rhai_machine_samples.specs.Called.{Called}
use Rattle.rhai_machine_samples.specs.Handles.{Handles}
use Rattle.rhai_values.specs.declared.base.value.FnPtrKind.TheFolds.{fold_out-Dynamic, fold_out-Union}
use Rattle.rhai_values.specs.declared.base.value.Union.TheVariants.{outs-Unit, outs-Str}

-- what the forms of a tree open to
pub ruleset opened = (
  stmt.outs-Expr,
  stmt.outs-Block,
  stmt.outs-Assignment,
  stmt.outs-Var,
  stmt.outs-If,
  stmt.outs-While,
  stmt.outs-Do,
  stmt.outs-BreakLoop,
  stmt.outs-Return,
  expr.outs-BoolConstant,
  expr.outs-IntegerConstant,
  expr.outs-Unit,
  expr.outs-Variable,
  expr.outs-FnCall,
  expr.outs-Stmt,
  expr.outs-And,
  expr.outs-Or,
  expr.outs-Coalesce,
)

-- and where they start, for a charge that is refused
pub ruleset placed = (opened, fold_out-Expr, fold_out-FnCallExpr)

-- how much data `()` and a text are
pub ruleset measured = (fold_out-Dynamic, fold_out-Union, outs-Unit, outs-Str)

module _ {S H Core : Type 0} (M : Machine S H Core) (allows : ℕ → Bool) where
  abbrev goes_on : Config S H Core → Option (Config S H Core) → (Config S H Core → Config S H Core) → Config S H Core
  goes_on c None further = c
  goes_on c (Some d) further = further d

  -- so many steps, or fewer where the run ends before
  abbrev after : ℕ → Config S H Core → Config S H Core
  after zero c = c
  after (suc n) c = goes_on c (step M allows c) (after n)

  step_on : (n : ℕ) (c a : Config S H Core) (found : Option (Config S H Core)) → step M allows c ≡ found →
      ((d : Config S H Core) → after n d ≡ a → Run M allows d a) → goes_on c found (after n) ≡ a → Run M allows c a
  step_on n c a None is rest same = subst (λ x. Run M allows c x) same (ended is)
  step_on n c a (Some d) is rest same = next is (rest d same)

  -- a run, from the steps that lead to its end
  pub by_steps : (n : ℕ) {c a : Config S H Core} → after n c ≡ a → step M allows a ≡ None → Run M allows c a
  by_steps zero {c} {a} same halts = subst (λ x. Run M allows c x) same (ended (rw same halts))
  by_steps (suc n) {c} {a} same halts = step_on n c a (step M allows c) refl (λ d same. by_steps n same halts) same

  stretch_on : (n : ℕ) (c d a : Config S H Core) (found : Option (Config S H Core)) → step M allows c ≡ found →
      ((b : Config S H Core) → after n b ≡ d → Run M allows b a) → Run M allows d a → goes_on c found (after n) ≡ d → Run M allows c a
  stretch_on n c d a None is rest run same = subst (λ x. Run M allows x a) (sym same) run
  stretch_on n c d a (Some b) is rest run same = next is (rest b same)

  -- a long run goes in stretches
  pub stretch : (n : ℕ) (c d : Config S H Core) {a : Config S H Core} → after n c ≡ d → Run M allows d a → Run M allows c a
  stretch zero c d {a} same run = subst (λ x. Run M allows x a) (sym same) run
  stretch (suc n) c d {a} same run = stretch_on n c d a (step M allows c) refl (λ b same. stretch n b d same run) run same

-- where a script stands that does this over these variables
abbrev pub standing : {S H : Type 0} → Table S H → Control H → List (Frame H) → List (ScopeEntry H) → ℕ → Config S H (Core H)
standing table control k scope count =
    record { core = core control k (nothing_but scope); table = table.state; count = count; calls = [] }

abbrev pub script_at : {S H : Type 0} → Table S H → Control H → List (Frame H) → List (ScopeEntry H) → ℕ → Config S H (Core H)
script_at table control k scope count = standing table control (k ++ Top false ∷ []) scope count

module _ {S H : Type 0} (table : Table S H) (host : H → List ℕ) where
  pub sums : Sums table host
  sums = record {
    within = by_steps _ _ 30 (simp opened) refl;
    no_right = by_steps _ _ 30 (simp placed) refl;
    no_left = by_steps _ _ 30 (simp placed) refl;
    no_operator = by_steps _ _ 30 (simp placed) refl;
    unlimited = by_steps _ _ 30 (simp opened) refl;
  }

  pub operands : Operands table host
  operands = record {
    order = by_steps _ _ 30 (simp opened) refl;
    unknown = by_steps _ _ 30 (simp opened) refl;
    too_great = by_steps _ _ 30 (simp opened) refl;
    negated = by_steps _ _ 30 (simp opened) refl;
    equal = by_steps _ _ 30 (simp opened) refl;
    different = by_steps _ _ 30 (simp opened) refl;
  }

  -- where the statements of `scopes` begin, over the variable that they leave
  abbrev with_x : List (ScopeEntry H)
  with_x = entry (codes "x") (integer 40) ∷ []

  abbrev scopes_at : List Stmt → ℕ → Config S H (Core H)
  scopes_at stmts count = script_at table (RunList stmts false unit) [] with_x count

  -- the condition of its `if` holds
  abbrev scopes_chosen : Config S H (Core H)
  scopes_chosen = script_at table (Enter (value (op 43 Plus (var 41 (codes "x") ∷ int 45 2 ∷ [])) ∷ []) true) (RestOfList [] false ∷ [])
      with_x 9

  pub blocks : Blocks table host
  blocks = record {
    restored = stretch _ _ 8 _ (scopes_at (drop 1 scopes) 2) (simp opened)
        (stretch _ _ 14 _ (scopes_at (drop 2 scopes) 5) (simp opened)
        (stretch _ _ 12 _ scopes_chosen (simp opened) (by_steps _ _ 30 (simp opened) refl)));
    cut = stretch _ _ 8 _ (scopes_at (drop 1 scopes) 2) (simp opened)
        (stretch _ _ 14 _ (scopes_at (drop 2 scopes) 5) (simp opened)
        (stretch _ _ 12 _ scopes_chosen (simp opened) (by_steps _ _ 30 (simp placed) refl)));
    inside = by_steps _ _ 30 (simp opened) refl;
    outside = by_steps _ _ 30 (simp opened) refl;
    as_value = by_steps _ _ 30 (simp opened) refl;
    empty = by_steps _ _ 30 (simp opened) refl;
  }

  pub variables : Variables table host
  variables = record {
    newest = by_steps _ _ 30 (simp opened) refl;
    once = by_steps _ _ 30 (simp opened) refl;
    full = by_steps _ _ 30 (simp opened) refl;
    kept = by_steps _ _ 30 (simp opened) refl;
    condition = by_steps _ _ 30 (simp opened) refl;
  }

  pub limits : Limits table host
  limits = record {
    first = by_steps _ _ 30 (simp placed) refl;
    past = by_steps _ _ 30 (simp placed) refl;
    further = by_steps _ _ 30 (simp opened) refl;
    greatest = by_steps _ _ 30 (simp placed) refl;
    nothing = by_steps _ _ 30 refl refl;
  }

  -- the native of `mixed_sum` is about to be called, under a name
  abbrev sum_fires : List ℕ → (map_exit : Bool) → Config S H (Core H)
  sum_fires name map_exit = standing table
      (Fire (call_at name Plus (column 3) (integer 1 ∷ truth true ∷ [])))
      (StatementValue (column 3) ∷ RestOfList [] false ∷ Top map_exit ∷ []) [] 5

  abbrev mixed_fires : (map_exit : Bool) → Config S H (Core H)
  mixed_fires map_exit = sum_fires (codes "+") map_exit

  pub called : Called table host
  called = record {
    missing = λ replies. stretch _ _ 12 _ (mixed_fires false) (simp opened) (by_steps _ _ 9 (simp replies) refl);
    no_property = λ replies. stretch _ _ 12 _ (sum_fires (codes "get$a") false) (simp opened) (by_steps _ _ 9 (simp replies) refl);
    no_index = λ replies. stretch _ _ 12 _ (sum_fires (codes "index$get$") false) (simp opened) (by_steps _ _ 9 (simp replies) refl);
    gives = λ replies. stretch _ _ 12 _ (mixed_fires false) (simp opened) (by_steps _ _ 9 (simp replies) refl);
    faults = λ replies. stretch _ _ 12 _ (mixed_fires false) (simp opened) (by_steps _ _ 9 (simp replies) refl);
    placed = λ replies. stretch _ _ 12 _ (mixed_fires false) (simp opened) (by_steps _ _ 9 (simp replies) refl);
    fits = λ replies. stretch _ _ 12 _ (mixed_fires false) (simp opened) (by_steps _ _ 9 (simp (replies, measured)) refl);
    too_long = λ replies. stretch _ _ 12 _ (mixed_fires false) (simp opened) (by_steps _ _ 9 (simp (replies, measured)) refl);
    exits = λ replies. stretch _ _ 12 _ (mixed_fires false) (simp opened) (by_steps _ _ 9 (simp replies) refl);
    exits_with_value = λ replies. stretch _ _ 12 _ (mixed_fires true) (simp opened) (by_steps _ _ 9 (simp replies) refl);
    refused = by_steps _ _ 30 (simp opened) refl;
  }

  pub handles : Handles table host
  handles = record {
    statement = by_steps _ _ 30 (simp opened) refl;
    left = by_steps _ _ 30 (simp opened) refl;
    right = by_steps _ _ 30 (simp opened) refl;
    kept = by_steps _ _ 30 (simp opened) refl;
    tested = by_steps _ _ 30 (simp opened) refl;
    held = by_steps _ _ 30 (simp opened) refl;
  }
