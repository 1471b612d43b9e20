-- A machine that knows no language: what one step does to the count, the table and the list of calls, and when a run ends.
use Rattle.std.specs.Prelude.{◌≡◌, ℕ, ◌+◌, nat_lt, Bool, true, false, List, ◌∷◌, Option, Some, None}
use Rattle.rhai_machine.specs.Types.{Dynamic, Position}
use Rattle.rhai_errors.specs.Native.{Request, Reply, Effect, Natives, Purity}

-- what a core does next; a core is all that a language works on: control, stack, scope and the rest of its state
pub data Move (H Core : Type 0) : Type 0 where
  -- the end of the run
  Halt : Move H Core
  -- a step that charges nothing and asks nothing of the table
  Go : Core → Move H Core
  -- a charge of one operation at a position, and the core that goes on once it is let through
  Charge : Position → Core → Move H Core
  -- a call of a native, and the core that goes on from its reply and from the first argument as it leaves it
  Native : Request H → (Reply H → Option (Dynamic H) → Core) → Move H Core
  -- a question whether a native is pure, and the core that goes on from the answer
  AskPure : Purity → (Bool → Core) → Move H Core

-- a language over a table: its moves, the cores after a refused charge and without memory, the natives, and the type names of host values
pub record Machine (S H Core : Type 0) : Type 0 where
  pub move : Core → Move H Core
  pub refuse : Position → Core → Core
  pub without_memory : Position → Core → Core
  pub natives : Natives S H
  pub host : H → List ℕ

-- where a run stands: the core, the state of the table, the count of charges, and the calls of natives, newest first
pub record Config (S H Core : Type 0) : Type 0 where
  pub core : Core
  pub table : S
  pub count : ℕ
  pub calls : List (Request H)

module _ {S H Core : Type 0} (M : Machine S H Core) where
  -- a charge that is let through adds one to the count and goes on; a refused one adds nothing, and leaves the core of the refusal
  abbrev pub charged : Bool → Position → Core → Config S H Core → Config S H Core
  charged true at d c = record c { core = d; count = c.count + 1 }
  charged false at d c = record c { core = M.refuse at c.core }

-- a call is added to the list, the table's state is the one that it leaves, and the core goes on from its reply
abbrev pub called : {S H Core : Type 0} → Request H → (Reply H → Option (Dynamic H) → Core) → Effect S H → Config S H Core → Config S H Core
called q f e c = record c { core = f e.reply e.first; table = e.state; calls = q ∷ c.calls }

-- A test `allows` says at which counts a charge is let through.
module _ {S H Core : Type 0} (M : Machine S H Core) (allows : ℕ → Bool) where
  -- what a move makes of a configuration; none at the end of the run
  abbrev pub act : Move H Core → Config S H Core → Option (Config S H Core)
  act Halt c = None
  act (Go d) c = Some (record c { core = d })
  act (Charge at d) c = Some (charged M (allows c.count) at d c)
  act (Native q f) c = Some (called q f (M.natives.gives c.table q) c)
  act (AskPure p f) c = Some (record c { core = f (M.natives.pure c.table p) })

  -- one step: what the move of the core makes of the configuration; none at the end of the run
  abbrev pub step : Config S H Core → Option (Config S H Core)
  step c = act (M.move c.core) c

  -- a run: step after step, up to a configuration from which there is no step
  pub data Run : Config S H Core → Config S H Core → Type 0 where
    ended : {c : Config S H Core} → step c ≡ None → Run c c
    next : {c d e : Config S H Core} → step c ≡ Some d → Run d e → Run c e

-- the run cut at a limit: a charge is let through while the count is below it
abbrev pub below : ℕ → ℕ → Bool
below limit count = nat_lt count limit

-- the run without a limit: every charge is let through
abbrev pub always : ℕ → Bool
always count = true
