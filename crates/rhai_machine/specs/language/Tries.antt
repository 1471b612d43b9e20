-- The rules of `try`.
use Rattle.std.specs.Prelude.{nat_le, length, Bool, true, false, List, [], ◌∷◌, ◌++◌, Option, Some, None}
use Rattle.rhai_machine.specs.Types.{Dynamic, EvalAltResult, Ident, StmtBlock}
use Rattle.rhai_tree.specs.declared.expr.Expr.TheOpen as layer
use Rattle.rhai_tree.specs.Layers.{ExprLayer}
use Rattle.rhai_values.specs.declared.base.value.AccessMode.TheVariants.{ReadWrite}
use Rattle.rhai_errors.specs.declared.error.EvalAltResult.TheVariants as error
use Rattle.rhai_state.specs.Scope.{new_entry}
use Rattle.rhai_machine.specs.language.Setting.{Setting}
use Rattle.rhai_machine.specs.language.State.{Local}
use Rattle.rhai_machine.specs.language.Frames.{Frame, Core, core, Enter, Fail, CatchBranch, RestoreScope}
use Rattle.rhai_machine.specs.language.Caught.{caught_value, thrown}

-- the variable of a `catch`, if it has one
abbrev pub catch_variable : ExprLayer → Option Ident
catch_variable (layer.Variable offset name namespace pos) = Some (record { name = name; pos = pos })
catch_variable _ = None

module _ {H : Type 0} where
  -- a branch with a variable is entered, which leaves the scope on every way out; where the scope has no room for it, that is the error
  abbrev pub branch_with : (full : Bool) → Ident → Dynamic H → (caught : EvalAltResult H) → StmtBlock → List (Frame H) → Local H → Core H
  branch_with true variable v caught branch k l = core (Fail (error.ErrorTooManyVariables variable.pos)) k l
  branch_with false variable v caught branch k l =
      core (Enter branch.statements true) (CatchBranch caught ∷ RestoreScope (length l.scope) ∷ k)
      (record l { scope = l.scope ++ new_entry variable.name ReadWrite v ∷ [] })

  module _ (s : Setting H) where
    -- a branch is entered for the error that was caught, with a variable or without
    abbrev pub branch_core : Option Ident → (caught : EvalAltResult H) → StmtBlock → List (Frame H) → Local H → Core H
    branch_core None caught branch k l = core (Enter branch.statements true) (CatchBranch caught ∷ k) l
    branch_core (Some variable) caught branch k l =
        branch_with (nat_le s.limits.max_variables (length l.scope)) variable (caught_value (thrown caught) l.around.source caught) caught
        branch k l

    -- an error that a script may catch leads to the branch, and any other comes down
    abbrev pub tried_core : (catches : Bool) → Option Ident → EvalAltResult H → StmtBlock → List (Frame H) → Local H → Core H
    tried_core true variable e branch k l = branch_core variable e branch k l
    tried_core false variable e branch k l = core (Fail e) k l
