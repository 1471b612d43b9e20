-- How a chain goes down a path, one frame a step, and what it writes on the way up: step by step it is one write at the path.
use Rattle.std.specs.Prelude.{◌≡◌, ℕ, true, List, [], ◌∷◌, ◌++◌, Option, Some}
use Rattle.std.specs.Option.{unwrap_or}
use Rattle.rhai_machine.specs.Types.{Dynamic, EvalAltResult}
use Rattle.rhai_tree.specs.Layers.{ExprLayer}
use Rattle.rhai_values.specs.declared.base.value.Union.TheVariants as value
use Rattle.rhai_values.specs.declared.base.value.CellId.{CellId}
use Rattle.rhai_values.specs.Cells.{value_of_cell, with_held}
use Rattle.rhai_spots.specs.declared.spot.Spot.{Spot}
use Rattle.rhai_spots.specs.Parts.{value_at}
use Rattle.rhai_spots.specs.Paths.{Cells, IsSimple, Rooted, Step, ToPlace, ToCell, next, read, write}
use Rattle.rhai_machine.specs.machine.Point.{Reaches}
use Rattle.rhai_machine.specs.language.Setting.{Rules, cut}
use Rattle.rhai_machine.specs.language.State.{Local, State}
use Rattle.rhai_machine.specs.language.Links.{Link}
use Rattle.rhai_machine.specs.language.Frames.{Lender, Chain, Control, Frame, Core, core, Walk, Back, Changed, Fail, ChainEnd, StepDown}
use Rattle.rhai_machine.specs.language.Chains.{behind_link, descend, entered}
use Rattle.rhai_machine.specs.language.Unwinding.{ended_chain, gone_up}
use Rattle.rhai_machine.specs.language.Language.{machine}
use Rattle.rhai_machine.specs.language.Runs.{at}

module _ {H : Type 0} where
  -- the cells after a step: one that leads into a cell holds it
  abbrev pub held_by : Cells H → Step → Cells H
  held_by cells (ToPlace spot) = cells
  held_by cells (ToCell number) = with_held cells number

  -- where a step leads, with its cell held
  abbrev pub gone_down : Rooted H → Step → Rooted H
  gone_down root step = record {
    value = unwrap_or (next root.cells root.value step) root.value;
    cells = held_by root.cells step;
  }

  -- where a path leads, with the cells on it held
  abbrev pub end_of : Rooted H → List Step → Rooted H
  end_of root [] = root
  end_of root (step ∷ path) = end_of (gone_down root step) path

  -- the frames of the way down a path, each with the value above its step, the deepest on top
  abbrev pub frames_of : Rooted H → List Step → List (Frame H) → List (Frame H)
  frames_of root [] k = k
  frames_of root (step ∷ path) k = frames_of (gone_down root step) path (StepDown root.value step ∷ k)

  -- where a path leads, with another value there; the cells on it are still held
  abbrev pub left_at : Rooted H → List Step → Dynamic H → Rooted H
  left_at root path w = record (end_of root path) { value = w }

module _ {S H : Type 0} where
  -- a state in which this value is the focus, with these cells
  abbrev pub works_on : Rooted H → State S H → State S H
  works_on root s = record s { local = gone_up root s.local }

  -- a state as a chain's end leaves it
  abbrev pub chain_ended : (lender : Option Lender) → (outer : Option (Dynamic H)) → State S H → State S H
  chain_ended lender outer s = record s { local = ended_chain lender outer s.local }

module _ {S H : Type 0} (rules : Rules S H) where
  -- From the end of a path, where a value has been left, the machine goes up through the path's frames without a charge: the value is
  -- written at the path then, and no cell on it is held any more.
  abbrev pub WritesAtOnce : Control H → Type 0
  WritesAtOnce control = (root : Rooted H) (path : List Step) (w : Dynamic H) (k : List (Frame H)) (s : State S H) → IsSimple path →
      Reaches (machine rules) (cut rules) (at control (frames_of root path k) (works_on (left_at root path w) s))
      (at control k (works_on (write root path w) s))

  -- and so it does over a chain's end: who lent the root gets it with that value written at the path, and the focus before comes back
  abbrev pub EndsWritten : (control end : Control H) → Type 0
  EndsWritten control end = (root : Rooted H) (path : List Step) (w : Dynamic H) (lender : Option Lender) (outer : Option (Dynamic H))
      (k : List (Frame H)) (s : State S H) → IsSimple path →
      Reaches (machine rules) (cut rules)
      (at control (frames_of root path (ChainEnd lender outer ∷ k)) (works_on (left_at root path w) s))
      (at end k (chain_ended lender outer (works_on (write root path w) s)))

  -- a chain that is at the end of a path goes on at a place there, which is the end of a longer path
  abbrev pub EntersPlace : Type 0
  EntersPlace = (root : Rooted H) (path : List Step) (spot : Spot) (v : Dynamic H) → value_at (end_of root path).value spot ≡ Some v →
      (link : Link) (rest : ExprLayer) (index : Dynamic H) (chain : Chain H) (k : List (Frame H)) (l : Local H) →
      descend rules.setting true spot link rest index chain (end_of root path).value (frames_of root path k) (gone_up (end_of root path) l)
      ≡ core (Walk (behind_link link rest true chain)) (frames_of root (path ++ ToPlace spot ∷ []) k)
      (gone_up (end_of root (path ++ ToPlace spot ∷ [])) l)

  -- a chain that is at the end of a path, where there is a handle, goes on in its cell, which is the end of a longer path
  abbrev pub EntersCell : Type 0
  EntersCell = (root : Rooted H) (path : List Step) (id : CellId) (v : Dynamic H) → (end_of root path).value.value ≡ value.Cell id →
      value_of_cell (end_of root path).cells id.number ≡ Some v →
      (go : List (Frame H) → Local H → Core H) (k : List (Frame H)) (l : Local H) →
      entered v go (frames_of root path k) (gone_up (end_of root path) l)
      ≡ go (frames_of root (path ++ ToCell id.number ∷ []) k) (gone_up (end_of root (path ++ ToCell id.number ∷ [])) l)

  -- A path that goes through no cell twice leads to what it reads, and one step more goes through none twice, since its cells are held. The
  -- walk pushes its frames. With a value, a change or an error on its way up, what was left there is written at once; a chain's end forgets
  -- a change.
  pub record DescentLaws : Type 0 where
    pub leads : (root : Rooted H) (path : List Step) (u : Dynamic H) → IsSimple path → read root path ≡ Some u →
        (end_of root path).value ≡ u
    pub stays_simple : (root : Rooted H) (path : List Step) (step : Step) (v : Dynamic H) → IsSimple path →
        next (end_of root path).cells (end_of root path).value step ≡ Some v → IsSimple (path ++ step ∷ [])
    pub enters_place : EntersPlace
    pub enters_cell : EntersCell
    pub by_value : (v : Dynamic H) → WritesAtOnce (Back v)
    pub by_changed : (v : Dynamic H) → WritesAtOnce (Changed v)
    pub by_error : (e : EvalAltResult H) → WritesAtOnce (Fail e)
    pub ends_by_value : (v : Dynamic H) → EndsWritten (Back v) (Back v)
    pub ends_by_changed : (v : Dynamic H) → EndsWritten (Changed v) (Back v)
    pub ends_by_error : (e : EvalAltResult H) → EndsWritten (Fail e) (Fail e)
