-- A run told in steps without the list of calls is a run with it.
use Rattle.std.proofs.Common.{refl, ap}
use Rattle.std.specs.Prelude.{◌≡◌, ℕ, Bool, true, false, List, ◌∷◌, Some}
use Rattle.rhai_tree.specs.declared.position.Position.{Position}
use Rattle.rhai_errors.specs.Native.{Request}
use Rattle.rhai_machine.specs.machine.Machine.{Move, Halt, Go, Charge, Native, AskPure, Machine, ended, next as further, charged}
use Rattle.rhai_machine.specs.machine.Point.{Point, with_calls, paid, moved, after, Reaches, here, next, Logged}
use Rattle.rhai_machine.specs.machine.Laws.{HasLog}

module _ {S H Core : Type 0} (M : Machine S H Core) (allows : ℕ → Bool) where
  -- a charge does the same with the list of calls and without it
  charge_step : (b : Bool) (at : Position) (d : Core) (p : Point S Core) (calls : List (Request H)) →
      charged M b at d (with_calls p calls) ≡ with_calls (paid M b at d p) calls
  charge_step true at d p calls = refl
  charge_step false at d p calls = refl

  -- a step is put before a logged run
  first_step : (v : Move H Core) (p q : Point S Core) (calls : List (Request H)) → M.move p.core ≡ v →
      ((calls : List (Request H)) → Logged M allows (moved M allows v p) q calls) → Logged M allows p q calls
  first_step Halt p q calls is rest = rest calls
  first_step (Go d) p q calls is rest = let run = rest calls in (run.0, further (rw is refl) run.1)
  first_step (Charge at d) p q calls is rest =
      let run = rest calls in
      (run.0, further (rw is (ap Some (charge_step (allows p.count) at d p calls))) run.1)
  first_step (Native r f) p q calls is rest = let run = rest (r ∷ calls) in (run.0, further (rw is refl) run.1)
  first_step (AskPure a f) p q calls is rest = let run = rest calls in (run.0, further (rw is refl) run.1)

  -- steps that end where the language halts are a run, whatever calls were made before
  pub logged : {p q : Point S Core} → Reaches M allows p q → M.move q.core ≡ Halt → (calls : List (Request H)) → Logged M allows p q calls
  unfolding after
  logged (here {p = p}) halts calls = (calls, ended (rw halts refl))
  logged (next {p = p} {q = q} steps) halts calls = first_step (M.move p.core) p q calls refl (logged steps halts)

module _ {S H Core : Type 0} (M : Machine S H Core) where
  pub logged_law : HasLog M
  logged_law allows p q steps halts calls = logged M allows steps halts calls
