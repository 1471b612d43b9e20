-- Cores from which no run goes on for ever without a charge.
use Rattle.std.specs.Prelude.{◌≡◌, ◌<◌, ⊤, ℕ, Bool, Option}
use Rattle.rhai_machine.specs.Types.{Dynamic, Position}
use Rattle.rhai_errors.specs.Native.{Request, Reply, Purity}
use Rattle.rhai_machine.specs.machine.Machine.{Move, Halt, Go, Charge, Native, AskPure, Machine}

module _ {S H Core : Type 0} (M : Machine S H Core) where
  -- from this core the run halts or charges after finitely many steps, whatever the table answers on the way
  pub data Settles : Core → Type 0 where
    at_end : {c : Core} → M.move c ≡ Halt → Settles c
    at_charge : {c d : Core} {at : Position} → M.move c ≡ Charge at d → Settles c
    by_step : {c d : Core} → M.move c ≡ Go d → Settles d → Settles c
    by_call : {c : Core} {q : Request H} {f : Reply H → Option (Dynamic H) → Core} → M.move c ≡ Native q f →
        ((reply : Reply H) (first : Option (Dynamic H)) → Settles (f reply first)) → Settles c
    by_question : {c : Core} {p : Purity} {f : Bool → Core} → M.move c ≡ AskPure p f → ((answer : Bool) → Settles (f answer)) → Settles c

-- a size of cores falls at this move, unless it is the end or a charge
abbrev pub Falls : {H Core : Type 0} → (Core → ℕ) → Core → Move H Core → Type 0
Falls size c Halt = ⊤
Falls size c (Go d) = size d < size c
Falls {H} size c (Native q f) = (reply : Reply H) (first : Option (Dynamic H)) → size (f reply first) < size c
Falls size c (Charge at d) = ⊤
Falls size c (AskPure p f) = (answer : Bool) → size (f answer) < size c
