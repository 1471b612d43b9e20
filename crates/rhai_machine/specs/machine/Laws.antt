-- The laws of every machine, whatever its language and its table.
use Rattle.std.specs.Prelude.{◌≡◌, ◌⊎◌, ◌<◌, ◌≤◌, ℕ, Bool, false, List, ◌++◌, Some}
use Rattle.rhai_machine.specs.Types.{Position}
use Rattle.rhai_errors.specs.Native.{Request}
use Rattle.rhai_machine.specs.machine.Machine.{Halt, Charge, Machine, Config, step, Run, below, always}
use Rattle.rhai_machine.specs.machine.Point.{Point, with_calls, Reaches, Logged}
use Rattle.rhai_machine.specs.machine.Unwinding.{Unwinds, Unwound}
use Rattle.rhai_machine.specs.machine.Settling.{Settles, Falls}

-- the first list of calls is the older part of the second; the newest call stands first in both
abbrev pub Begins : {H : Type 0} → List (Request H) → List (Request H) → Type 0
Begins {H} earlier all = (later : List (Request H)) × (all ≡ later ++ earlier)

-- two ends: they are the same, or at the first a charge was refused, and its calls begin the other's
abbrev pub SameOrRefused : {S H Core : Type 0} → (Core → Type 0) → Config S H Core → Config S H Core → Type 0
SameOrRefused R a b = (a ≡ b) ⊎ (R a.core × Begins a.calls b.calls)

module _ {S H Core : Type 0} (M : Machine S H Core) where
  -- two runs from one configuration end at the same one
  abbrev pub OneEnd : Type 0
  OneEnd = (allows : ℕ → Bool) (c a b : Config S H Core) → Run M allows c a → Run M allows c b → a ≡ b

  -- the calls that were made before a run are the oldest of those after it
  abbrev pub CallsAreAdded : Type 0
  CallsAreAdded = (allows : ℕ → Bool) (c a : Config S H Core) → Run M allows c a → Begins c.calls a.calls

  -- the count never falls
  abbrev pub ChargesAreAdded : Type 0
  ChargesAreAdded = (allows : ℕ → Bool) (c a : Config S H Core) → Run M allows c a → c.count ≤ a.count

  -- a count that is within the limit as a cut run starts is within it as the run ends
  abbrev pub StaysWithin : Type 0
  StaysWithin = (limit : ℕ) (c a : Config S H Core) → c.count ≤ limit → Run M (below limit) c a → a.count ≤ limit

  -- a run without a limit that ends with its count within a limit is the run cut at that limit
  abbrev pub IsEnough : Type 0
  IsEnough = (limit : ℕ) (c a : Config S H Core) → Run M always c a → a.count ≤ limit → Run M (below limit) c a

  -- steps told without the list of calls are a run with it, whatever calls were made before
  abbrev pub HasLog : Type 0
  HasLog = (allows : ℕ → Bool) (p q : Point S Core) → Reaches M allows p q → M.move q.core ≡ Halt → (calls : List (Request H)) →
      Logged M allows p q calls

  -- some steps that are the same under two tests of the count
  pub data Together (lower higher : ℕ → Bool) : Config S H Core → Config S H Core → Type 0 where
    none : {c : Config S H Core} → Together lower higher c c
    also : {c d e : Config S H Core} → step M lower c ≡ Some d → step M higher c ≡ Some d → Together lower higher d e →
        Together lower higher c e

  module _ (R : Core → Type 0) where
    -- once a charge is refused the run only unwinds: table, count and calls stay as they were
    abbrev pub OnlyUnwinds : Type 0
    OnlyUnwinds = Unwinds M R → (allows : ℕ → Bool) (c a : Config S H Core) → R c.core → Run M allows c a → Unwound R c a

    -- The run from c to a is the run under the higher test up to a charge that the lower test refuses. That charge is not counted, and
    -- from there the run unwinds.
    pub record PartsAt (lower higher : ℕ → Bool) (c a : Config S H Core) : Type 0 where
      pub point : Config S H Core
      pub position : Position
      pub core : Core
      pub together : Together lower higher c point
      pub charges : M.move point.core ≡ Charge position core
      pub refused : lower point.count ≡ false
      pub goes_on : Run M lower (record point { core = M.refuse position point.core }) a
      pub unwound : Unwound R point a

    -- the cut run is the run without a limit, or it follows that run up to the first charge that is refused
    abbrev pub Follows : Type 0
    Follows = Unwinds M R → (limit : ℕ) (c a : Config S H Core) → Run M (below limit) c a →
        Run M always c a ⊎ PartsAt (below limit) always c a

    -- where the run without a limit ends too, the cut run has the same end, or it refused a charge and its calls begin the other's
    abbrev pub WithoutLimit : Type 0
    WithoutLimit = Unwinds M R → (limit : ℕ) (c a b : Config S H Core) → Run M (below limit) c a → Run M always c b → SameOrRefused R a b

    -- the cut run always ends, where no run goes on for ever without a charge
    abbrev pub AlwaysEnds : Type 0
    AlwaysEnds = Unwinds M R → ((c : Core) → Settles M c) → (limit : ℕ) (c : Config S H Core) →
        (a : Config S H Core) × Run M (below limit) c a

    -- under a higher limit the run ends too, and at the same end, or the lower limit refused a charge and its calls begin the other's
    abbrev pub TwoLimits : Type 0
    TwoLimits = Unwinds M R → ((c : Core) → Settles M c) → (m n : ℕ) → m < n → (c a : Config S H Core) → Run M (below m) c a
        → (b : Config S H Core) × Run M (below n) c b × SameOrRefused R a b

    -- After any calls, the run from p cut at m ends at q. Under each higher limit it ends too, and at the same end, or at q a charge
    -- was refused and the calls so far begin the others.
    abbrev pub LimitsAgree : ℕ → Point S Core → Point S Core → Type 0
    LimitsAgree m p q = (calls : List (Request H)) → (all : List (Request H)) × Run M (below m) (with_calls p calls) (with_calls q all)
        × ((n : ℕ) → m < n → (b : Config S H Core) × Run M (below n) (with_calls p calls) b × SameOrRefused R (with_calls q all) b)

    -- where the steps from p, cut at m, come to an end at q, the limits agree so
    abbrev pub TwoLimitsOfSteps : Type 0
    TwoLimitsOfSteps = Unwinds M R → ((c : Core) → Settles M c) → (m : ℕ) (p q : Point S Core) → Reaches M (below m) p q →
        M.move q.core ≡ Halt → LimitsAgree m p q

  -- where a size falls at each move without a charge, no run goes on for ever without one
  abbrev pub SizeSettles : Type 0
  SizeSettles = (size : Core → ℕ) → ((c : Core) → Falls size c (M.move c)) → (c : Core) → Settles M c
