-- Steps without the list of calls, which no step reads: the form in which a piece of a run is told.
use Rattle.std.specs.Prelude.{ℕ, ◌+◌, Bool, true, false, List, Option}
use Rattle.rhai_machine.specs.Types.{Dynamic, Position}
use Rattle.rhai_errors.specs.Native.{Request, Reply, Effect}
use Rattle.rhai_machine.specs.machine.Machine.{Move, Halt, Go, Charge, Native, AskPure, Machine, Config, Run}

-- a configuration without its list of calls
pub record Point (S Core : Type 0) : Type 0 where
  pub core : Core
  pub table : S
  pub count : ℕ

-- the configuration of a point, with this list of calls
abbrev pub with_calls : {S H Core : Type 0} → Point S Core → List (Request H) → Config S H Core
with_calls p calls = record { core = p.core; table = p.table; count = p.count; calls = calls }

-- what a native's call makes of a point: the core goes on from its reply, with the table's state that it leaves
abbrev pub answered : {S H Core : Type 0} → (Reply H → Option (Dynamic H) → Core) → Effect S H → Point S Core → Point S Core
answered f e p = record p { core = f e.reply e.first; table = e.state }

module _ {S H Core : Type 0} (M : Machine S H Core) where
  -- a charge that is let through adds one to the count and goes on; a refused one adds nothing, and leaves the core of the refusal
  abbrev pub paid : Bool → Position → Core → Point S Core → Point S Core
  paid true at d p = record p { core = d; count = p.count + 1 }
  paid false at d p = record p { core = M.refuse at p.core }

module _ {S H Core : Type 0} (M : Machine S H Core) (allows : ℕ → Bool) where
  -- what a move makes of a point; at the end of the run it stays
  abbrev pub moved : Move H Core → Point S Core → Point S Core
  moved Halt p = p
  moved (Go d) p = record p { core = d }
  moved (Charge at d) p = paid M (allows p.count) at d p
  moved (Native q f) p = answered f (M.natives.gives p.table q) p
  moved (AskPure q f) p = record p { core = f (M.natives.pure p.table q) }

  -- the point after one step
  unfoldable pub after : Point S Core → Point S Core
  after p = moved (M.move p.core) p

  -- some number of steps leads from one point to another
  pub data Reaches : Point S Core → Point S Core → Type 0 where
    here : {p : Point S Core} → Reaches p p
    next : {p q : Point S Core} → Reaches (after p) q → Reaches p q

  -- from one point, with these calls so far, a run ends at the other point, with some list of calls
  abbrev pub Logged : Point S Core → Point S Core → List (Request H) → Type 0
  Logged p q calls = (all : List (Request H)) × Run M allows (with_calls p calls) (with_calls q all)

infixr 5 ◌⨾◌
-- one piece of a run after another
pub ◌⨾◌ : {S H Core : Type 0} {M : Machine S H Core} {allows : ℕ → Bool} {a b c : Point S Core} → Reaches M allows a b →
    Reaches M allows b c → Reaches M allows a c
here ⨾ q = q
next p ⨾ q = next (p ⨾ q)
