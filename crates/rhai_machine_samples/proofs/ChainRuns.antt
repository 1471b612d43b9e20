-- Where the sample runs of chains stand on their way: a long run goes in stretches.
use Rattle.std.specs.Prelude.{ℕ, Bool, true, false, List, [], ◌∷◌, ◌++◌, Option, Some, None, codes}
use Rattle.rhai_tree.specs.declared.expr.Expr.TheVariants as expr
use Rattle.rhai_values.specs.declared.base.value.Union.TheVariants as kind
use Rattle.rhai_machine.specs.Types.{Dynamic, Expr, out-Expr, ScopeEntry, Token}
use Rattle.rhai_errors.specs.Native.{Request}
use Rattle.rhai_machine.specs.machine.Machine.{Config}
use Rattle.rhai_machine.specs.language.State.{Local}
use Rattle.rhai_machine.specs.language.Frames.{FromEntry, NewValue, Chain, Control, Frame, Core, core, ChainArguments, Walk, ChainEnd}
use Rattle.rhai_machine.specs.language.Frames.{AssignedChain}
use Rattle.rhai_machine.specs.language.Frames.{StatementValue}
use Rattle.rhai_machine.specs.language.Frames.{RestOfList, Top, chain_on}
use Rattle.rhai_machine_samples.specs.Trees.{column, var}
use Rattle.rhai_machine_samples.specs.Runs.{Table, nothing_but, entry}
use Rattle.rhai_machine_samples.specs.Handles.{one_cell}
use Rattle.rhai_machine_samples.proofs.SampleRuns.{placed, measured}

pub ruleset chained = (
  placed,
  measured,
  kind.outs-Int,
  kind.outs-Bool,
  kind.outs-Char,
  kind.outs-Array,
  kind.outs-Map,
  expr.outs-Array,
  expr.outs-StringConstant,
  expr.outs-Index,
  expr.outs-Dot,
  expr.outs-Property,
  expr.outs-MethodCall,
  expr.outs-CharConstant,
)

module _ {H : Type 0} where
  -- what waits below the chain of an expression statement, and of an assignment
  abbrev pub below : (at : ℕ) → List (Frame H)
  below c = StatementValue (column c) ∷ RestOfList [] false ∷ Top false ∷ []

  abbrev pub assigned : List (Frame H)
  assigned = AssignedChain ∷ RestOfList [] false ∷ Top false ∷ []

  -- a value that a chain is assigned, by an operator or not, which stands at a column
  abbrev pub new_at : (at : ℕ) → Option Token → Dynamic H → Option (NewValue H)
  new_at c token v = Some (record { op = record { op = token; position = column c }; value = v })

  -- a chain whose focus is somebody's place, or a temporary
  abbrev pub on_its_way : (in_place : Bool) → (root chain : Expr) → Option (NewValue H) → List (Dynamic H) → Chain H
  on_its_way in_place root chain new args = record (chain_on root (out-Expr chain) new) { args = args; in_place = in_place }

  -- the variables with a focus
  abbrev pub focused : List (ScopeEntry H) → Dynamic H → Local H
  focused scope focus = record (nothing_but scope) { focus = Some focus }

module _ {S H : Type 0} (table : Table S H) where
  -- a run that has called no native
  abbrev pub standing_at : Core H → ℕ → Config S H (Core H)
  standing_at c count = record { core = c; table = table.state; count = count; calls = [] }

  -- a chain over this variable is at its first link
  abbrev pub walks : List ℕ → Dynamic H → (chain : Expr) → Option (NewValue H) → List (Dynamic H) → List (Frame H) → ℕ →
      Config S H (Core H)
  walks name v chain new args k count = standing_at (core (Walk (on_its_way true (var 1 name) chain new args))
      (ChainEnd (Some (FromEntry 0)) None ∷ k) (focused (entry name v ∷ []) v)) count

  -- it is read, and its operator stands at the second column; or it is assigned to
  abbrev pub reads : List ℕ → Dynamic H → (chain : Expr) → List (Dynamic H) → ℕ → Config S H (Core H)
  reads name v chain args count = walks name v chain None args (below 2) count

  abbrev pub sets : List ℕ → Dynamic H → (chain : Expr) → Option (NewValue H) → List (Dynamic H) → ℕ → Config S H (Core H)
  sets name v chain new args count = walks name v chain new args assigned count

  -- the arguments of what is left of it are asked for, after those that are there
  abbrev pub asks : List ℕ → Dynamic H → (chain rest : Expr) → Option (NewValue H) → List (Dynamic H) → List (Frame H) → ℕ →
      Config S H (Core H)
  asks name v chain rest new made k count = standing_at
      (core (ChainArguments (chain_on (var 1 name) (out-Expr chain) new) (out-Expr rest) made) k (nothing_but (entry name v ∷ []))) count

  -- a chain over the variable `x` works on this focus, after these calls
  abbrev pub on_x : (x focus : Dynamic H) → Control H → List (Frame H) → List (Frame H) → ℕ → List (Request H) → Config S H (Core H)
  on_x x focus control k below count calls = record {
    core = core control (k ++ ChainEnd (Some (FromEntry 0)) None ∷ below) (focused (entry (codes "x") x ∷ []) focus);
    table = table.state;
    count = count;
    calls = calls;
  }

module _ {S H : Type 0} (table : Table S H) (host : H → List ℕ) where
  -- a chain over a variable beside the handle of the one cell is at its first link, or one over the handle itself
  abbrev pub walks_in : Option (Dynamic H) → List (ScopeEntry H) → (name : List ℕ) → (entry : ℕ) → Dynamic H → (chain : Expr) →
      Option (NewValue H) → List (Dynamic H) → List (Frame H) → ℕ → Config S H (Core H)
  walks_in cell others name entry focus chain new args k count = standing_at table
      (core (Walk (on_its_way true (var 1 name) chain new args)) (ChainEnd (Some (FromEntry entry)) None ∷ k)
      (record (one_cell table host cell others) { focus = Some focus })) count
