-- The laws of steps on which memory may run out, of every machine.
use Rattle.std.specs.Prelude.{◌≡◌, ◌⊎◌, ◌≤◌, ℕ, Bool}
use Rattle.rhai_machine.specs.machine.Machine.{Machine, below}
use Rattle.rhai_machine.specs.machine.Point.{Point, Reaches}
use Rattle.rhai_machine.specs.machine.Memory.{Leads, RunsOut, MemoryUnwinds}
use Rattle.rhai_laws.specs.Steady.{Steady}

-- the count and the table's state of another point
pub record IsLeft {S Core : Type 0} (p q : Point S Core) : Type 0 where
  pub count : q.count ≡ p.count
  pub table : q.table ≡ p.table

module _ {S H Core : Type 0} (M : Machine S H Core) where
  module _ (W : Core → Type 0) where
    -- steps that do not end out of memory are the machine's own
    abbrev pub IsStraight : Type 0
    IsStraight = MemoryUnwinds M W → (allows : ℕ → Bool) (p q : Point S Core) → Leads M allows p q → (W q.core → ⊥) → Reaches M allows p q

    -- the machine takes the steps by itself, or up to where memory runs out
    abbrev pub IsUpTo : Type 0
    IsUpTo = MemoryUnwinds M W → (allows : ℕ → Bool) (p q : Point S Core) → Leads M allows p q →
        Reaches M allows p q ⊎ RunsOut M allows W p q

    -- where memory ran out, count and table stay as they were there
    abbrev pub LeavesAll : Type 0
    LeavesAll = MemoryUnwinds M W → (allows : ℕ → Bool) (p q : Point S Core) → (o : RunsOut M allows W p q) → IsLeft o.since q

  -- charges are only added
  abbrev pub Counts : Type 0
  Counts = (allows : ℕ → Bool) (p q : Point S Core) → Leads M allows p q → p.count ≤ q.count

  -- a count within the limit stays within it
  abbrev pub CountsWithin : Type 0
  CountsWithin = (limit : ℕ) (p q : Point S Core) → p.count ≤ limit → Leads M (below limit) p q → q.count ≤ limit

  -- what each step keeps is kept, whatever the end
  abbrev pub IsKept : (Core → Core → Type 0) → Type 0
  IsKept R = Steady M R → (allows : ℕ → Bool) (p q : Point S Core) → Leads M allows p q → R p.core q.core
