-- The rules of statements and of their lists.
use Rattle.std.specs.Prelude.{ℕ, ◌+◌, nat_lt, Bool, true, false, not, ◌&&◌, List, [], ◌∷◌, ◌++◌, Option, Some, None}
use Rattle.std.specs.Prelude.{length, is_some, is_none, nat_le, nat_eq, if◌then◌else◌, bit_and, take, slice_get, slice_set}
use Rattle.std.specs.List.{list_any}
use Rattle.std.specs.declared.num.NonZeroUsize.{NonZeroUsize}
use Rattle.rhai_machine.specs.Types.{ASTFlags, AccessMode, Dynamic, out-Expr, Expr, Ident, Module, out-Module, Position, Stmt, StmtBlock}
use Rattle.rhai_tree.specs.declared.expr.Expr.TheOpen as layer
use Rattle.rhai_tree.specs.Layers.{StmtLayer}
use Rattle.rhai_tree.specs.Positions.{position_of}
use Rattle.rhai_tree.specs.Forms.{is_exported}
use Rattle.rhai_tree.specs.Lookup.{with_entry}
use Rattle.rhai_values.specs.Copy.{copy_of}
use Rattle.rhai_values.specs.Modes.{with_mode}
use Rattle.rhai_values.specs.declared.base.value.AccessMode.TheVariants.{ReadWrite, ReadOnly}
use Rattle.rhai_errors.specs.declared.error.EvalAltResult.TheVariants as error
use Rattle.rhai_state.specs.Scope.{index_of, new_entry}
use Rattle.rhai_machine.specs.machine.Machine.{Move, Go}
use Rattle.rhai_machine.specs.language.Setting.{Setting}
use Rattle.rhai_machine.specs.language.State.{Local, Surroundings}
pub use Rattle.rhai_machine.specs.language.State.{deeper}
use Rattle.rhai_machine.specs.language.Values.{unit_value}
use Rattle.rhai_machine.specs.language.Turns.{ForLoop}
use Rattle.rhai_machine.specs.language.Places.{InEntry, put}
use Rattle.rhai_machine.specs.language.Frames.{Saved, Frame, Core, core, Eval, Exec, OpenExpr, Enter, Run, WhileTurn}
use Rattle.rhai_machine.specs.language.Frames.{DoTurn, Back, Fail, StatementValue, DefineValue, IfCondition, RestOfList, RestoreList}
use Rattle.rhai_machine.specs.language.Frames.{Share, SwitchValue, TryBody, BreakValue, ReturnValue, ThrowValue}
use Rattle.rhai_machine.specs.language.Exports.{export_core}
use Rattle.rhai_machine.specs.language.Imports.{import_core}
use Rattle.rhai_machine.specs.language.Walks.{for_core, has_no_room}
use Rattle.rhai_machine.specs.language.Assignment.{assignment_move}

-- whether an option is among the options
abbrev pub has_option : ℕ → ASTFlags → Bool
has_option option options = nat_eq (bit_and options.0 option) option

-- the mode that a `let` or a `const` asks for
abbrev pub mode_of : ASTFlags → AccessMode
mode_of options = if has_option 4 options then ReadOnly else ReadWrite

-- the tables with a value under a name in one of them
abbrev pub with_entry_at : {T : Type 0} → List ℕ → T → List (List (List ℕ) × List T) → (at : ℕ) → Option (List (List ℕ) × List T) →
    List (List (List ℕ) × List T)
with_entry_at name v tables at (Some table) = slice_set tables at (with_entry name v table)
with_entry_at name v tables at None = tables

-- a `for` as it stands in the tree
abbrev pub loop_of : Ident → (counter : Option Ident) → Expr → StmtBlock → ForLoop
loop_of variable counter items body = record { variable = variable; counter = counter; items = items; body = body }

module _ {H : Type 0} where
  -- what a restoring list keeps of the local state until its end
  abbrev pub saved_by : Local H → Saved
  saved_by l = record { scope_length = length l.scope; imports_length = length l.around.imports; scope_level = l.scope_level }

  -- a list is entered: an empty one gives `()` at once, and a restoring one keeps what it takes back at its end
  abbrev pub enter_core : List Stmt → Bool → List (Frame H) → Local H → Core H
  enter_core [] restoring k l = core (Back unit_value) k l
  enter_core (stmt ∷ stmts) true k l = core (Run (stmt ∷ stmts) true unit_value) (RestoreList (saved_by l) ∷ k)
      (record l { scope_level = deeper l.scope_level })
  enter_core (stmt ∷ stmts) false k l = core (Run (stmt ∷ stmts) false unit_value) k l

  -- the statements of a list one after the other; the value of the last one is the list's
  abbrev pub run_core : List Stmt → Bool → Dynamic H → List (Frame H) → Local H → Core H
  run_core [] restoring last k l = core (Back last) k l
  run_core (stmt ∷ stmts) restoring last k l = core (Exec stmt restoring) (RestOfList stmts restoring ∷ k) l

  -- the local state after a restoring list: scope, imports and depth as they were kept
  abbrev pub restored_by : Saved → Local H → Local H
  restored_by saved l = record l {
    scope = take saved.scope_length l.scope;
    scope_level = saved.scope_level;
    around = record l.around { imports = take saved.imports_length l.around.imports };
  }

  -- after the condition of an `if`: the list that it chose is entered
  abbrev pub chosen_core : Bool → StmtBlock → StmtBlock → List (Frame H) → Local H → Core H
  chosen_core true body branch k l = core (Enter body.statements true) k l
  chosen_core false body branch k l = core (Enter branch.statements true) k l

  -- whether a library has a function, a constant or a module
  abbrev pub has_some : Module H → Bool
  has_some m =
      let shown = out-Module H m in
      nat_lt 0 (length shown.functions + (length shown.constants.1 + length shown.sub_modules.1))

  -- whether a `const` is entered into the table of constants: it stands at the top of a script, and a library has anything in it
  abbrev pub enters : ASTFlags → (restoring : Bool) → Local H → Bool
  enters options restoring l =
      has_option 4 options && (not restoring && (nat_eq l.scope_level 0 && list_any has_some l.around.lib))

  -- the surroundings with a copy of a value as a constant in the current table
  abbrev pub with_constant : List ℕ → Dynamic H → Surroundings H → Surroundings H
  with_constant name v around = record around {
    constant_tables = with_entry_at name (copy_of v) around.constant_tables around.constants
        (slice_get around.constant_tables around.constants);
  }

  -- the local state once a `const` is entered into the table of constants, if it is
  abbrev pub constant_core : (enters : Bool) → List ℕ → Dynamic H → Local H → Local H
  constant_core true name v l = record l { around = with_constant name v l.around }
  constant_core false name v l = l

  -- the scope with a new variable, in the mode that is asked for
  abbrev pub added : Dynamic H → Ident → ASTFlags → Local H → Local H
  added v ident options l = record l { scope = l.scope ++ new_entry ident.name (mode_of options) v ∷ [] }

  -- the entry at an index gets this value, in the mode that is asked for, whatever it had, a constant or a handle too
  abbrev pub overwritten : (at : Option ℕ) → Dynamic H → ASTFlags → Local H → Local H
  overwritten None v options l = l
  overwritten (Some at) v options l = put (InEntry at) (with_mode (mode_of options) v) l

  -- a variable that is defined: a new one, or, with an index, the newest one of its name, which is overwritten
  abbrev pub written : (index : Option NonZeroUsize) → Dynamic H → Ident → ASTFlags → Local H → Local H
  written None v ident options l = added v ident options l
  written (Some offset) v ident options l = overwritten (index_of ident.name l.scope) v options l

  -- a variable that is defined, and exported under its own name where that is asked
  abbrev pub declared_core : (exported : Bool) → Ident → List (Frame H) → Local H → Core H
  declared_core false ident k l = core (Back unit_value) k l
  declared_core true ident k l = export_core ident None k l

  -- a `let` or a `const`, once its value is there
  abbrev pub defined_core : Dynamic H → Ident → (index : Option NonZeroUsize) → ASTFlags → (restoring : Bool) → List (Frame H) →
      Local H → Core H
  defined_core v ident index options restoring k l = declared_core (is_exported options) ident k
      (written index v ident options (constant_core (enters options restoring l) ident.name v l))

  -- a `break` or a `continue` is an error on its way to its loop, with its value as it is
  abbrev pub break_core : Option Expr → (is_break : Bool) → Position → List (Frame H) → Local H → Core H
  break_core None is_break pos k l = core (Fail (error.LoopBreak unit_value is_break pos)) k l
  break_core (Some value) is_break pos k l = core (Eval value) (BreakValue is_break pos ∷ k) l

  -- a `return` is an error on its way to the end of its function or script, and a `throw` one on its way to a `try`
  abbrev pub return_move : (throws : Bool) → Option Expr → Position → List (Frame H) → Local H → Move H (Core H)
  return_move true None pos k l = Go (core (Fail (error.ErrorRuntime unit_value pos)) k l)
  return_move true (Some value) pos k l = Go (core (Eval value) (ThrowValue (position_of value) pos ∷ k) l)
  return_move false None pos k l = Go (core (Fail (error.Return unit_value pos)) k l)
  return_move false (Some value) pos k l = Go (core (Eval value) (ReturnValue (position_of value) pos ∷ k) l)

  module _ (s : Setting H) where
    -- a `let` or a `const`: without shadowing a name is declared once, and a new variable needs room; then the value is evaluated
    abbrev pub define_core : (shadows full : Bool) → Ident → Expr → (index : Option NonZeroUsize) → ASTFlags → (restoring : Bool) →
        Position → List (Frame H) → Local H → Core H
    define_core true full ident value index options restoring pos k l = core (Fail (error.ErrorVariableExists ident.name pos)) k l
    define_core false true ident value index options restoring pos k l = core (Fail (error.ErrorTooManyVariables pos)) k l
    define_core false false ident value index options restoring pos k l =
        core (Eval value) (DefineValue ident index options restoring (position_of value) ∷ k) l

    -- a statement by its form, after its charge
    abbrev pub stmt_move : StmtLayer → Bool → List (Frame H) → Local H → Move H (Core H)
    stmt_move (layer.Noop pos) restoring k l = Go (core (Back unit_value) k l)
    stmt_move (layer.Expr value) restoring k l = Go (core (Eval value) (StatementValue (position_of value) ∷ k) l)
    stmt_move (layer.Stmt::FnCall call pos) restoring k l = Go (core (OpenExpr (layer.Expr::FnCall call pos)) k l)
    stmt_move (layer.Block block) restoring k l = Go (core (Enter block.statements true) k l)
    stmt_move (layer.Assignment op lhs rhs) restoring k l = assignment_move (out-Expr lhs) op rhs k l
    stmt_move (layer.Var ident value index options pos) restoring k l = Go
        (define_core (not s.offer.allow_shadowing && is_some (index_of ident.name l.scope))
        (is_none index && nat_le s.limits.max_variables (length l.scope)) ident value index options restoring pos k l)
    stmt_move (layer.If test body branch pos) restoring k l = Go (core (Eval test) (IfCondition (position_of test) body branch ∷ k) l)
    stmt_move (layer.Switch value results cases ranges default pos) restoring k l = Go (core (Eval value)
        (SwitchValue (position_of value) (record { results = results; cases = cases; ranges = ranges; default = default }) ∷ k) l)
    stmt_move (layer.While test body pos) restoring k l = Go (core (WhileTurn test body) k l)
    stmt_move (layer.Do test body options pos) restoring k l = Go (core (DoTurn test body options) k l)
    stmt_move (layer.For variable counter items body pos) restoring k l =
        Go (for_core (has_no_room s.limits (loop_of variable counter items body) l) (loop_of variable counter items body) k l)
    stmt_move (layer.BreakLoop value options pos) restoring k l = Go (break_core value (has_option 2 options) pos k l)
    stmt_move (layer.TryCatch body variable branch pos) restoring k l =
        Go (core (Enter body.statements true) (TryBody variable branch ∷ k) l)
    stmt_move (layer.Export ident alias pos) restoring k l = Go (export_core ident alias k l)
    stmt_move (layer.Import path alias pos) restoring k l =
        Go (import_core (nat_le s.limits.max_modules l.around.num_modules_loaded) path alias pos k l)
    stmt_move (layer.Share variables) restoring k l = Go (core (Share variables) k l)
    stmt_move (layer.Return value options pos) restoring k l = return_move (has_option 2 options) value pos k l
