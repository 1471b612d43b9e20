-- What a variable's name finds in a scope, and beside it.
use Rattle.std.specs.Prelude.{ℕ, Bool, true, false, List, [], ◌∷◌, Option, Some, None, Result, Ok, Err}
use Rattle.std.specs.declared.num.NonZeroUsize.{NonZeroUsize}
use Rattle.rhai_tree.specs.declared.expr.Expr.TheOpen as layer
use Rattle.rhai_tree.specs.declared.position.Position.{Position}
use Rattle.rhai_tree.specs.Forms.{is_unqualified}
use Rattle.rhai_tree.specs.Layers.{ExprLayer}
use Rattle.rhai_values.specs.declared.base.value.Dynamic.{Dynamic}
use Rattle.rhai_state.specs.declared.scope.ScopeEntry.{ScopeEntry}
use Rattle.rhai_errors.specs.declared.error.EvalAltResult.{EvalAltResult}
use Rattle.rhai_state.specs.Scope.{variable_value, in_use}
use Rattle.rhai_spots.specs.declared.part.Part.{Part}
use Rattle.rhai_spots.specs.declared.part.Part.TheVariants as part
use Rattle.rhai_machine.specs.language.Setting.{Globals}
use Rattle.rhai_machine.specs.language.State.{Answers, Surroundings}
use Rattle.rhai_machine.specs.language.Values.{Cells, unit_value}
use Rattle.rhai_machine.specs.language.Variables.{Variable, variable_named}
use Rattle.rhai_machine.specs.language.Names.{value_beside, variable_of}
use Rattle.rhai_names.specs.Roots.{path_searched}

-- a variable, behind a path or not
abbrev pub names_variable : ExprLayer → Bool
names_variable (layer.Variable offset name namespace pos) = true
names_variable _ = false

-- one without a path
abbrev pub is_variable : ExprLayer → Bool
is_variable (layer.Variable offset name namespace pos) = is_unqualified namespace.path
is_variable _ = false

module _ {H : Type 0} where
  -- the variable at its offset, or the newest of the name where variables are searched for or it has none; or that there is none, or
  -- that it is another's; nothing for other expressions
  abbrev pub variable_searched : Bool → ExprLayer → Cells H → List (ScopeEntry H) → Option (Result (Dynamic H) (EvalAltResult H))
  variable_searched searches (layer.Variable offset name namespace pos) cells entries =
      Some (variable_of cells name pos (variable_value (in_use searches offset) name entries))
  variable_searched searches _ cells entries = None

  -- what is found of a variable: its place, all of which is shown
  abbrev pub in_place : Result (Dynamic H) (EvalAltResult H) → Result (Dynamic H × Part H) (EvalAltResult H)
  in_place (Ok v) = Ok (v, part.Whole)
  in_place (Err e) = Err e

  -- and of what no variable is: a value that stands in no place, beside a place that has `()`
  abbrev pub beside : Result (Dynamic H) (EvalAltResult H) → Result (Dynamic H × Part H) (EvalAltResult H)
  beside (Ok v) = Ok (unit_value, part.Temporary v)
  beside (Err e) = Err e

  -- what a name means: a variable of the scope, or else what it means beside those
  abbrev pub named : Globals H → Surroundings H → Variable → Option (Dynamic H) → Result (Dynamic H × Part H) (EvalAltResult H)
  named globals around variable (Some v) = in_place (variable_of around.cells variable.name variable.at (Some v))
  named globals around variable None = beside (value_beside globals around variable)

  -- what the search for a variable's name finds, by its offset where it has one that is in use
  abbrev pub searched : Bool → ExprLayer → Globals H → Surroundings H → List (ScopeEntry H) →
      Option (Result (Dynamic H × Part H) (EvalAltResult H))
  searched searches (layer.Variable offset name namespace pos) globals around entries = Some
      (named globals around (variable_named name namespace pos) (variable_value (in_use searches offset) name entries))
  searched searches _ globals around entries = None

  -- what a variable means, by its path: without one an entry or what its name means beside those, and behind one a constant of the
  -- module that the path leads to, whose root is found by its index where one is in use, and else by its name
  abbrev pub found_by_path : (path : List (List ℕ)) → Globals H → Surroundings H → Variable → (index : Option NonZeroUsize) →
      Option (Dynamic H) → Result (Dynamic H × Part H) (EvalAltResult H)
  found_by_path [] globals around variable index there = named globals around variable there
  found_by_path (root ∷ path) globals around variable index there =
      beside (path_searched globals around index (root ∷ path) variable.name variable.path.at)

  -- what the search for any variable finds
  abbrev pub found_behind : Bool → ExprLayer → Globals H → Surroundings H → List (ScopeEntry H) →
      Option (Result (Dynamic H × Part H) (EvalAltResult H))
  found_behind searches (layer.Variable offset name namespace pos) globals around entries = Some
      (found_by_path namespace.path globals around (variable_named name namespace pos) (in_use searches namespace.index)
      (variable_value (in_use searches offset) name entries))
  found_behind searches _ globals around entries = None

  -- the value of the variable, if a scope has it
  abbrev pub value_there : Bool → ExprLayer → List (ScopeEntry H) → Option (Dynamic H)
  value_there searches (layer.Variable offset name namespace pos) entries = variable_value (in_use searches offset) name entries
  value_there searches _ entries = None

  -- what comes of reading what a name means that no variable of the scope has
  abbrev pub IsBeside : Globals H → Surroundings H → ExprLayer → Result (Dynamic H) (EvalAltResult H) → Type 0
  IsBeside globals around (layer.Variable offset name namespace pos) result =
      Answers result (value_beside globals around (variable_named name namespace pos))
  IsBeside globals around _ result = ⊥

  -- what comes of reading a name behind a path, whose root is found by its index where one is in use
  abbrev pub IsBehind : Bool → Globals H → Surroundings H → ExprLayer → Result (Dynamic H) (EvalAltResult H) → Type 0
  IsBehind searches globals around (layer.Variable offset name namespace pos) result =
      Answers result (path_searched globals around (in_use searches namespace.index) namespace.path name namespace.position)
  IsBehind searches globals around _ result = ⊥
