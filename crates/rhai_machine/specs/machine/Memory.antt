-- Steps on which memory may run out: the form in which a part of an evaluator tells what it did.
use Rattle.std.specs.Prelude.{◌≡◌, ℕ, Bool, Option}
use Rattle.rhai_machine.specs.Types.{Dynamic, EvalAltResult, Position}
use Rattle.rhai_errors.specs.Native.{MayLeave, Request, Reply, Faults}
use Rattle.rhai_machine.specs.machine.Machine.{Native, Machine}
use Rattle.rhai_machine.specs.machine.Unwinding.{Passes}
use Rattle.rhai_machine.specs.machine.Point.{Point, Reaches, after}

module _ {S H Core : Type 0} (M : Machine S H Core) where
  -- memory runs out at a point before its step is done: the core becomes the one after memory ran out, and nothing else changes
  abbrev pub out_of_memory : Position → Point S Core → Point S Core
  out_of_memory at p = record p { core = M.without_memory at p.core }

  -- a native that finds no memory counts as one that fails, with what it leaves of its first argument and of the table's state
  abbrev pub out_of_memory_in_native : Position → (Reply H → Option (Dynamic H) → Core) → EvalAltResult H → Option (Dynamic H) → S →
      Point S Core →
      Point S Core
  out_of_memory_in_native at f e first state p = record p { core = M.without_memory at (f (Faults e) first); table = state }

module _ {S H Core : Type 0} (M : Machine S H Core) (allows : ℕ → Bool) where
  -- steps lead from one point to another, and at any point on the way memory may run out, within a native too
  pub data Leads : Point S Core → Point S Core → Type 0 where
    -- no step
    here : {p : Point S Core} → Leads p p
    -- one step of the machine, and then on
    next : {p q : Point S Core} → Leads (after M allows p) q → Leads p q
    -- memory runs out before a step is done, and then on
    out_before_step : {p q : Point S Core} {at : Position} → Leads (out_of_memory M at p) q → Leads p q
    -- memory runs out within a native, which leaves only what its law lets it, and then on
    out_in_native : {p q : Point S Core} {call : Request H} {f : Reply H → Option (Dynamic H) → Core} {at : Position} →
        M.move p.core ≡ Native call f →
        (e : EvalAltResult H) (first : Option (Dynamic H)) (state : S) → MayLeave M.host M.natives p.table call first state →
        Leads (out_of_memory_in_native M at f e first state p) q → Leads p q

  -- what a point is once memory has run out there: before its step is done, or within its native, which leaves only what its law lets it
  pub data OutOfMemory (p : Point S Core) : Point S Core → Type 0 where
    -- before the step is done
    before_step : (at : Position) → OutOfMemory p (out_of_memory M at p)
    -- within the native that the step calls
    in_native : {call : Request H} {f : Reply H → Option (Dynamic H) → Core} → M.move p.core ≡ Native call f →
        (at : Position) (e : EvalAltResult H) (first : Option (Dynamic H)) (state : S) →
        MayLeave M.host M.natives p.table call first state →
        OutOfMemory p (out_of_memory_in_native M at f e first state p)

  -- The machine comes by itself to a point, and memory runs out there. W says of a core that the error of that is on its way down, so from
  -- there the run only unwinds: it charges nothing and calls nothing.
  pub record RunsOut (W : Core → Type 0) (p q : Point S Core) : Type 0 where
    pub before : Point S Core
    pub since : Point S Core
    pub steps : Reaches M allows p before
    pub runs_out : OutOfMemory before since
    pub is_out : W since.core
    pub unwinds : Leads since q

infixr 5 ◌⨾◌
-- one piece of a run after another
pub ◌⨾◌ : {S H Core : Type 0} {M : Machine S H Core} {allows : ℕ → Bool} {a b c : Point S Core} → Leads M allows a b →
    Leads M allows b c → Leads M allows a c
here ⨾ q = q
next p ⨾ q = next (p ⨾ q)
out_before_step p ⨾ q = out_before_step (p ⨾ q)
out_in_native is e first state left p ⨾ q = out_in_native is e first state left (p ⨾ q)

-- once memory has run out a run only unwinds; W says of a core that the error of that is on its way down
pub record MemoryUnwinds {S H Core : Type 0} (M : Machine S H Core) (W : Core → Type 0) : Type 0 where
  pub begins : (at : Position) (c : Core) → W (M.without_memory at c)
  pub stays : (c : Core) → W c → Passes W (M.move c)
