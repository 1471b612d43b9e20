-- What a part of a run relies on of the frame that its tree was checked above, and what it makes of it.
use Rattle.std.specs.Prelude.{◌≡◌, ⊤, List}
use Rattle.rhai_tree.specs.declared.expr.Expr.TheOpen as layer
use Rattle.rhai_tree.specs.Frame.{var_names}
use Rattle.rhai_tree.specs.Layers.{StmtLayer}
use Rattle.rhai_tree.specs.Names.{Frame, Name}
use Rattle.rhai_steps.specs.Agreement.{AgreesAt, Leads, Restores, Sight, Test, framed, sight_of}
use Rattle.rhai_context.specs.declared.Context.{Context}
use Rattle.rhai_eval_steps.specs.States.{names}

-- behind a statement that declares a variable its name is there, where its value added none
abbrev pub Declared : StmtLayer → (old new : List Name) → Type 0
Declared (layer.Var ident value index options pos) old new = new ≡ var_names index ident.name old
Declared _ old new = ⊤

module _ {H : Type 0} where
  -- what a checker knows of a run: whether variables are searched for, and the names of the imports
  abbrev pub sight_in : Context H → Sight
  sight_in run = sight_of run.global

  -- a test holds of the frame that a checker knew, which is that of the run, or variables are searched for
  unfoldable pub SuitsNames : Context H → Test → Type 0
  SuitsNames run test = AgreesAt run.global run.scope test

  -- where variables are not searched for after a part, they were not before it, and the frame is what a change makes of that before
  unfoldable pub ChangesNames : (old : Context H) → (Frame → Frame) → (new : Context H) → Type 0
  ChangesNames old change new = Leads (sight_in old) (change (framed (sight_in old) (names old))) (sight_in new) (names new)

  -- or it is as it was
  unfoldable pub KeepsNames : (old new : Context H) → Type 0
  KeepsNames old new = Leads (sight_in old) (framed (sight_in old) (names old)) (sight_in new) (names new)

  -- the frame is put back, and so is whether variables are searched for
  unfoldable pub RestoresNames : (old new : Context H) → Type 0
  RestoresNames old new = Restores (sight_in old) (names old) (sight_in new) (names new)
