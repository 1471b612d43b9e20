-- What every run of the language keeps, whatever its end, also where memory runs out.
use Rattle.std.specs.Prelude.{◌≡◌, ◌≤◌, ⊤, ℕ, Bool, true, false, not, ◌&&◌, List, ◌++◌, length, map, replicate, Option, Some, None, is_some}
use Rattle.rhai_tree.specs.Names.{Name}
use Rattle.rhai_tree.specs.declared.expr.Expr.TheOpen as layer
use Rattle.rhai_tree.specs.declared.expr.Stmt.{out-Stmt}
use Rattle.rhai_tree.specs.Layers.{StmtLayer}
use Rattle.rhai_values.specs.declared.base.value.Dynamic.{Dynamic}
use Rattle.rhai_values.specs.declared.base.value.Import.{Import}
use Rattle.rhai_values.specs.Cells.{value_of_cell}
use Rattle.rhai_state.specs.Scope.{name_of}
use Rattle.rhai_machine.specs.language.Setting.{Rules, limit_under}
use Rattle.rhai_machine.specs.language.State.{Surroundings, Local, State}
use Rattle.rhai_machine.specs.language.Values.{Cells, unit_value}
use Rattle.rhai_machine.specs.language.Places.{Place, InEntry, InCell, InThis, InFocus}
use Rattle.rhai_machine.specs.language.Activations.{Entered}
use Rattle.rhai_machine.specs.language.Frames.{Control, Exec, EnterFunction, AskUpdate, QuestionUpdate, FireUpdate, OpenStmt, Enter, Run}

-- a `let` without an index adds its name
abbrev pub declares : StmtLayer → Bool
declares (layer.Var ident value None options pos) = true
declares _ = false

-- an `import` adds one
abbrev pub is_import : StmtLayer → Bool
is_import (layer.Import path alias pos) = true
is_import _ = false

module _ {H : Type 0} where
  -- a cell without its value: it is free, or it is held
  abbrev pub forgotten_cell : Option (Dynamic H) → Option (Dynamic H)
  forgotten_cell (Some v) = Some unit_value
  forgotten_cell None = None

  -- cells are only added: those that were there are free or held as they were, and so many new ones are free
  abbrev pub CellsAdded : (old new : Cells H) → Type 0
  CellsAdded old new = (count : ℕ) × (map forgotten_cell new ≡ map forgotten_cell old ++ replicate count (Some unit_value))

  -- imports are only added, behind those that were there
  abbrev pub ImportsAdded : (old new : List (Import H)) → Type 0
  ImportsAdded old new = (added : List (Import H)) × (new ≡ old ++ added)

  -- What is around only grows: cells and imports may be added, and modules loaded. Libraries, the current table of constants, the number of
  -- these tables, the level and the source's name stay.
  pub record Around (old new : Surroundings H) : Type 0 where
    pub lib : new.lib ≡ old.lib
    pub imports : ImportsAdded old.imports new.imports
    pub constants : new.constants ≡ old.constants
    pub constant_tables : length new.constant_tables ≡ length old.constant_tables
    pub level : new.level ≡ old.level
    pub num_modules_loaded : old.num_modules_loaded ≤ new.num_modules_loaded
    pub source : new.source ≡ old.source
    pub cells : CellsAdded old.cells new.cells

  -- a place that may be written to: a cell has to be free
  abbrev pub Stands : Place → Local H → Type 0
  Stands (InEntry index) l = ⊤
  Stands (InCell number) l = is_some (value_of_cell l.around.cells number) ≡ true
  Stands InThis l = ⊤
  Stands InFocus l = ⊤

  -- in the midst of an update its place may be written to
  abbrev pub Sound : Control H → Local H → Type 0
  Sound (AskUpdate u) l = Stands u.place l
  Sound (QuestionUpdate u) l = Stands u.place l
  Sound (FireUpdate u) l = Stands u.place l
  Sound _ l = ⊤

  -- the names of the variables, the newest last
  abbrev pub names_of : Local H → List Name
  names_of l = map name_of l.scope

  -- a function whose list does not restore may add variables to the caller's
  abbrev pub adds_names : Entered H → Bool
  adds_names e = not e.restores && not e.is_fresh

  -- a control that leaves no variable behind: any but a `let` and the rest of a list, a list that does not restore, or a function that may
  -- add some
  abbrev pub AddsNone : Control H → Type 0
  AddsNone (EnterFunction e) = adds_names e ≡ false
  AddsNone (Exec stmt restoring) = declares (out-Stmt stmt) ≡ false
  AddsNone (OpenStmt form restoring) = declares form ≡ false
  AddsNone (Run stmts restoring last) = ⊥
  AddsNone (Enter stmts false) = ⊥
  AddsNone _ = ⊤

  -- a control that takes back the imports that it adds, any but an `import` and the rest of a list, and a list that does not restore; in
  -- the midst of an update its place may be written to
  abbrev pub Restores : Control H → Local H → Type 0
  Restores (Exec stmt restoring) l = is_import (out-Stmt stmt) ≡ false
  Restores (OpenStmt form restoring) l = is_import form ≡ false
  Restores (Run stmts restoring last) l = ⊥
  Restores (Enter stmts false) l = ⊥
  Restores c l = Sound c l

  -- what every run leaves: the count grows up to the limit, what is around only grows, and `this` stays bound or unbound
  pub record Grown {S : Type 0} (rules : Rules S H) (old new : State S H) : Type 0 where
    pub counts : old.count ≤ new.count
    pub within : old.count ≤ limit_under rules → new.count ≤ limit_under rules
    pub around : Around old.local.around new.local.around
    pub scope_level : new.local.scope_level ≡ old.local.scope_level
    pub bound : is_some new.local.this ≡ is_some old.local.this

  -- the same where imports are taken back, which stay then
  pub record Kept {S : Type 0} (rules : Rules S H) (old new : State S H) : Type 0 where
    pub counts : old.count ≤ new.count
    pub within : old.count ≤ limit_under rules → new.count ≤ limit_under rules
    pub around : Around old.local.around new.local.around
    pub imports : new.local.around.imports ≡ old.local.around.imports
    pub scope_level : new.local.scope_level ≡ old.local.scope_level
    pub bound : is_some new.local.this ≡ is_some old.local.this
