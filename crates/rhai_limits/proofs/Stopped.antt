-- A run that is stopped stays so; charges are only added; and what follows a charge.
use Rattle.std.proofs.Common.{refl, inl, inr, arith}
use Rattle.std.specs.Prelude.{◌≡◌, ◌≤◌, ℕ, Bool, true, false, List, [], ◌∷◌}
use Rattle.rhai_tree.specs.declared.position.Position.{Position}
use Rattle.rhai_errors.specs.declared.error.EvalAltResult.TheVariants as error
use Rattle.rhai_machine.specs.machine.Machine.{Move, Halt, Go, Charge, Native, AskPure, Machine}
use Rattle.rhai_machine.specs.machine.Point.{Point, paid, moved, after}
use Rattle.rhai_machine.specs.machine.Memory.{Leads, here, next, out_before_step, out_in_native}
use Rattle.rhai_machine.specs.machine.Unwinding.{Passes}
use Rattle.rhai_machine.specs.language.Setting.{Rules}
use Rattle.rhai_machine.specs.language.State.{Local}
use Rattle.rhai_machine.specs.language.Frames.{Control, Frame, Core, Fail, CallEnd, Top}
use Rattle.rhai_machine.specs.language.Unwinding.{down_core}
use Rattle.rhai_machine.specs.language.Language.{move_at, move, machine}
use Rattle.rhai_machine.specs.language.Limits.{IsRefused}
use Rattle.rhai_machine.specs.language.Memory.{IsOutOfMemory}
use Rattle.rhai_machine.proofs.LanguageLaws.{unwinds}
use Rattle.rhai_limits.specs.Charging.{IsStopped, FollowsCharge}

module _ {S H Core : Type 0} (M : Machine S H Core) (allows : ℕ → Bool) where
  charge_counts : (b : Bool) (at : Position) (d : Core) (p : Point S Core) → p.count ≤ (paid M b at d p).count
  charge_counts true at d p = omega arith
  charge_counts false at d p = omega arith

  move_counts : (v : Move H Core) (p : Point S Core) → p.count ≤ (moved M allows v p).count
  move_counts Halt p = omega arith
  move_counts (Go d) p = omega arith
  move_counts (Charge at d) p = charge_counts (allows p.count) at d p
  move_counts (Native q f) p = omega arith
  move_counts (AskPure q f) p = omega arith

  -- charges are only added
  pub counts : {p q : Point S Core} → Leads M allows p q → p.count ≤ q.count
  unfolding after
  counts here = omega arith
  counts (next {p = p} run) = omega (arith, move_counts (M.move p.core) p, counts run)
  counts (out_before_step run) = counts run
  counts (out_in_native is e first state left run) = counts run

module _ {S H : Type 0} (rules : Rules S H) where
  -- the out-of-memory error passes each frame
  frame_passes : (frame : Frame H) (at : Position) (k : List (Frame H)) (l : Local H) →
      IsOutOfMemory (down_core rules.setting frame (error.ErrorOutOfMemory at) k l)
  frame_passes (Top true) at k l = (at, refl)
  frame_passes (Top false) at k l = (at, refl)
  frame_passes (CallEnd exit) at k l = (exit.at, refl)
  frame_passes _ at k l = (at, refl)

  passes : (at : Position) (k : List (Frame H)) (l : Local H) →
      Passes IsOutOfMemory (move_at rules.setting (Fail (error.ErrorOutOfMemory at)) k l)
  passes at [] l = tt
  passes at (frame ∷ k) l = frame_passes frame at k l

  run_out_passes : (c : Control H) (at : Position) → c ≡ Fail (error.ErrorOutOfMemory at) → (k : List (Frame H)) (l : Local H) →
      Passes IsOutOfMemory (move_at rules.setting c k l)
  run_out_passes c at is k l = rw is (passes at k l)

  widened : (R : Core H → Type 0) → ((d : Core H) → R d → IsStopped d) → (v : Move H (Core H)) → Passes R v → Passes IsStopped v
  widened R wider Halt h = tt
  widened R wider (Go d) h = wider d h
  widened R wider (Charge at d) h = absurd h
  widened R wider (Native q f) h = absurd h
  widened R wider (AskPure q f) h = absurd h

  stopped_passes : (c : Core H) → IsStopped c → Passes IsStopped (move rules.setting c)
  stopped_passes c (inl refused) =
      widened IsRefused (λ d h. inl h) (move rules.setting c) ((unwinds rules).stays c refused)
  stopped_passes c (inr is_out) =
      widened IsOutOfMemory (λ d h. inr h) (move rules.setting c) (run_out_passes c.control is_out.0 is_out.1 c.stack c.local)

  module _ (allows : ℕ → Bool) where
    passed : (v : Move H (Core H)) (p : Point S (Core H)) → IsStopped p.core → Passes IsStopped v →
        IsStopped (moved (machine rules) allows v p).core
    passed Halt p h passes = h
    passed (Go d) p h passes = passes
    passed (Charge at d) p h passes = absurd passes
    passed (Native q f) p h passes = absurd passes
    passed (AskPure q f) p h passes = absurd passes

    -- what is stopped stays so
    pub stays_stopped : {p q : Point S (Core H)} → Leads (machine rules) allows p q → IsStopped p.core → IsStopped q.core
    unfolding after
    stays_stopped here h = h
    stays_stopped (next {p = p} run) h =
        stays_stopped run (passed (move rules.setting p.core) p h (stopped_passes p.core h))
    stays_stopped (out_before_step {at = at} run) h = stays_stopped run (inr (at, refl))
    stays_stopped (out_in_native {at = at} is e first state left run) h = stays_stopped run (inr (at, refl))

    -- what follows a charge
    pub follows_charge : (b : Bool) (at : Position) (d : Core H) (p q : Point S (Core H)) →
        Leads (machine rules) allows (paid (machine rules) b at d p) q → FollowsCharge b p.count q
    follows_charge true at d p q run = omega (arith, counts (machine rules) allows run)
    follows_charge false at d p q run = stays_stopped run (inl (at, refl))
