-- After a refused charge: an error is on its way down the stack, and nothing else happens.
use Rattle.std.specs.Prelude.{◌≡◌, ⊤}
use Rattle.rhai_machine.specs.Types.{Position}
use Rattle.rhai_machine.specs.machine.Machine.{Move, Halt, Go, Charge, Native, AskPure, Machine, Config}

-- a move that only unwinds: the end of the run, or a plain step after which the error is still on its way
abbrev pub Passes : {H Core : Type 0} → (Core → Type 0) → Move H Core → Type 0
Passes R Halt = ⊤
Passes R (Go d) = R d
Passes R (Charge at d) = ⊥
Passes R (Native q f) = ⊥
Passes R (AskPure p f) = ⊥

module _ {S H Core : Type 0} (M : Machine S H Core) (R : Core → Type 0) where
  -- a refused charge only unwinds; R says of a core that the error of a refused charge is on its way down
  pub record Unwinds : Type 0 where
    pub refuses : (at : Position) (c : Core) → R (M.refuse at c)
    pub stays : (c : Core) → R c → Passes R (M.move c)

-- what unwinding leaves: the error, with table, count and calls as they were
pub record Unwound {S H Core : Type 0} (R : Core → Type 0) (c a : Config S H Core) : Type 0 where
  pub refused : R a.core
  pub table : a.table ≡ c.table
  pub count : a.count ≡ c.count
  pub calls : a.calls ≡ c.calls
