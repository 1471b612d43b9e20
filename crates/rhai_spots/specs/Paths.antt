-- Paths into a value: places of arrays and maps, and cells that handles lead to.
use Rattle.std.specs.Prelude.{◌≡◌, ◌⊎◌, ⊤, ℕ, Bool, false, List, [], ◌∷◌, Option, Some, None, nat_eq, if◌then◌else◌}
use Rattle.std.specs.Option.{unwrap_or}
use Rattle.rhai_values.specs.declared.base.value.Dynamic.{Dynamic}
use Rattle.rhai_values.specs.declared.base.value.Union.{Union}
use Rattle.rhai_values.specs.declared.base.value.Union.TheVariants as value
use Rattle.rhai_values.specs.Cells.{value_of_cell, with_value as with_cell}
use Rattle.rhai_spots.specs.declared.spot.Spot.{Spot}
use Rattle.rhai_spots.specs.Parts.{value_at, with_value}

-- one step into a value: to a place in it, or from a handle to its cell
pub data Step : Type 0 where
  ToPlace : (at : Spot) → Step
  ToCell : (number : ℕ) → Step

-- a path does not go through a cell
abbrev pub Avoids : ℕ → List Step → Type 0
Avoids number [] = ⊤
Avoids number (ToPlace at ∷ path) = Avoids number path
Avoids number (ToCell other ∷ path) = (number ≡ other → ⊥) × Avoids number path

-- a path goes through no cell twice
abbrev pub IsSimple : List Step → Type 0
IsSimple [] = ⊤
IsSimple (ToPlace at ∷ path) = IsSimple path
IsSimple (ToCell number ∷ path) = Avoids number path × IsSimple path

-- a path goes through no cell
abbrev pub IsPlain : List Step → Type 0
IsPlain [] = ⊤
IsPlain (ToPlace at ∷ path) = IsPlain path
IsPlain (ToCell number ∷ path) = ⊥

-- two paths part at two places of one value
abbrev pub Parts : List Step → List Step → Type 0
Parts (ToPlace at ∷ path) (ToPlace other ∷ others) = (at ≡ other → ⊥) ⊎ ((at ≡ other) × Parts path others)
Parts _ _ = ⊥

-- the cells by their numbers: the value of each, None where it is held
abbrev pub Cells : Type 0 → Type 0
Cells H = List (Option (Dynamic H))

-- a value with the cells that its handles lead to
pub record Rooted (H : Type 0) : Type 0 where
  pub value : Dynamic H
  pub cells : Cells H

module _ {H : Type 0} where
  -- whether a value is the handle of a cell
  abbrev pub leads_to : Union H → ℕ → Bool
  leads_to (value.Cell id) number = nat_eq id.number number
  leads_to _ number = false

  -- the value that one step leads to
  abbrev pub next : Cells H → Dynamic H → Step → Option (Dynamic H)
  next cells v (ToPlace at) = value_at v at
  next cells v (ToCell number) = if leads_to v.value number then value_of_cell cells number else None

  -- the value that one step leads to from a value, if there is one
  abbrev pub next_of : Cells H → Option (Dynamic H) → Step → Option (Dynamic H)
  next_of cells None step = None
  next_of cells (Some v) step = next cells v step

  -- the value that a path leads to from a value, if there is one
  abbrev pub read_from : Cells H → Option (Dynamic H) → List Step → Option (Dynamic H)
  read_from cells v [] = v
  read_from cells v (step ∷ path) = read_from cells (next_of cells v step) path

  -- the value that a path leads to from a root
  abbrev pub read : Rooted H → List Step → Option (Dynamic H)
  read root path = read_from root.cells (Some root.value) path

  -- a value, once what a step leads to has gone back there
  abbrev pub gone_back : Dynamic H → Step → Rooted H → Rooted H
  gone_back v (ToPlace at) below = record { value = with_value v at below.value; cells = below.cells }
  gone_back v (ToCell number) below = record { value = v; cells = with_cell below.cells number below.value }

  -- a root with another value where a path leads
  abbrev pub write : Rooted H → List Step → Dynamic H → Rooted H
  write root [] w = record root { value = w }
  write root (step ∷ path) w = gone_back root.value step
      (write (record root { value = unwrap_or (next root.cells root.value step) root.value }) path w)
