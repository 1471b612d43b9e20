-- What a run relies on of the frame that its tree was checked above: its variables and imports are those, or variables are searched for.
use Rattle.std.specs.declared.num.NonZeroUsize.{NonZeroUsize}
use Rattle.std.specs.Prelude.{◌≡◌, ◌++◌, ◌∷◌, [], ◌&&◌, if◌then◌else◌, Bool, false, IsTrue, List, Option, map}
use Rattle.rhai_tree.specs.Forms.{is_unqualified}
use Rattle.rhai_tree.specs.Frame.{all_resolve_exprs, tests_of}
use Rattle.rhai_tree.specs.Names.{Frame, Name, is_good, is_good_root}
use Rattle.rhai_tree.specs.declared.expr.Expr.{Expr}
use Rattle.rhai_tree.specs.declared.expr.Namespace.{Namespace}
use Rattle.rhai_values.specs.declared.base.value.Import.{Import}
use Rattle.rhai_state.specs.declared.scope.Scope.{Scope}
use Rattle.rhai_lookups.specs.declared.run.RunState.{RunState}
use Rattle.rhai_state.specs.Scope.{names_in, in_use}
use Rattle.rhai_state.specs.State.{import_name}

-- what a form asks of its frame
abbrev pub Test : Type 0
Test = Frame → Bool

-- what a statement asks of its frame, with the frame that it makes of it
abbrev pub Verdict : Type 0
Verdict = Frame → Bool × Frame

-- whether a frame passes what a statement asks of it
abbrev pub passes : Verdict → Test
passes verdict frame = (verdict frame).0

-- the frame that a statement makes of its frame
abbrev pub changes : Verdict → Frame → Frame
changes verdict frame = (verdict frame).1

-- what is asked of the frame that a change makes
abbrev pub above : (Frame → Frame) → Test → Test
above change test frame = test (change frame)

-- a variable has no offset, or that of the newest of its name, and behind a path it has none
abbrev pub variable_is_good : Option NonZeroUsize → Name → (path : List Name) → Test
variable_is_good offset name path frame = is_good offset name (if is_unqualified path then frame.names else [])

-- a path has no index, or that of the newest import of its root's name
abbrev pub root_is_good : Namespace → Test
root_is_good namespace frame = is_good_root namespace.index namespace.path frame.imports

-- a variable behind a path, or by itself: its offset is good, and so is the index of the path
abbrev pub variable_leads : Option NonZeroUsize → Name → Namespace → Test
variable_leads offset name namespace frame = variable_is_good offset name namespace.path frame && root_is_good namespace frame

-- a call behind a path: the index of the path is good, and each of the arguments may run
abbrev pub call_leads : Namespace → (args : List Expr) → Test
call_leads namespace args frame = root_is_good namespace frame && all_resolve_exprs (map tests_of args) frame

-- what a checker knows of a state: whether variables are searched for, and the names of the imports, oldest first
pub record Sight : Type 0 where
  pub searched : Bool
  pub imports : List Name

-- the frame of what a checker knows of a state and of the names of its variables
abbrev pub framed : Sight → (names : List Name) → Frame
framed sight names = record { names = names; imports = sight.imports }

-- a test holds of the frame that a checker knew, which is this one, or variables are searched for
pub record Agrees (sight : Sight) (names : List Name) (test : Test) : Type 0 where
  pub known : Frame
  pub holds : IsTrue (test known)
  pub stands : sight.searched ≡ false → framed sight names ≡ known

-- where variables are not searched for after a part, they were not before it, and the frame is then the one that is known
pub record Leads (was : Sight) (known : Frame) (sight : Sight) (names : List Name) : Type 0 where
  pub off : sight.searched ≡ false → was.searched ≡ false
  pub leads : sight.searched ≡ false → framed sight names ≡ known

-- the frame is as it was before a part, and so is whether variables are searched for
pub record Restores (was : Sight) (known : List Name) (now : Sight) (left : List Name) : Type 0 where
  pub sight : now ≡ was
  pub names : left ≡ known

module _ {H : Type 0} where
  -- the names of imports, oldest first
  abbrev pub imports_in : List (Import H) → List Name
  imports_in imports = map import_name imports

  -- what a checker knows of this state
  abbrev pub sight_of : RunState H → Sight
  sight_of global = record { searched = global.always_search_scope; imports = imports_in global.lists.1 }

  -- the frame of a state and a scope
  abbrev pub frame_of : RunState H → Scope H → Frame
  frame_of global scope = framed (sight_of global) (names_in scope)

  -- a test agrees with the frame of a state and a scope
  abbrev pub AgreesAt : RunState H → Scope H → Test → Type 0
  AgreesAt global scope test = Agrees (sight_of global) (names_in scope) test

  -- the index of a path is not in use, or it is that of the newest import of its root's name
  abbrev pub RootStands : RunState H → Namespace → Type 0
  RootStands global namespace =
      IsTrue (is_good_root (in_use global.always_search_scope namespace.index) namespace.path (imports_in global.lists.1))

  -- what neither imports nor searches leaves what a checker knows of the state
  abbrev pub KeepsSight : (old new : RunState H) → Type 0
  KeepsSight old new = sight_of new ≡ sight_of old

  -- what imports under a name adds that name to what a checker knows of the state
  abbrev pub AddsImport : Name → (old new : RunState H) → Type 0
  AddsImport name old new = sight_of new ≡ record (sight_of old) { imports = imports_in old.lists.1 ++ name ∷ [] }
