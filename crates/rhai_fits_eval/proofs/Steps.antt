-- Steps that the machine takes by itself, or up to where memory ran out, are steps on which memory may run out.
use Rattle.std.proofs.Common.{ℕ, Bool, inl, inr}
use Rattle.rhai_machine.specs.machine.Machine.{Machine}
use Rattle.rhai_machine.specs.machine.Point.{Point, Reaches, here as stop, next as step}
use Rattle.rhai_machine.specs.machine.Memory.{Leads, here, next, out_before_step, out_in_native, OutOfMemory, before_step, in_native, ◌⨾◌}
use Rattle.rhai_machine.specs.language.Setting.{Rules, cut}
use Rattle.rhai_machine.specs.language.Frames.{Core}
use Rattle.rhai_machine.specs.language.Language.{machine}
use Rattle.rhai_machine.specs.language.Memory.{UpToMemory}

module _ {S H C : Type 0} (M : Machine S H C) (allows : ℕ → Bool) where
  leads : {p q : Point S C} → Reaches M allows p q → Leads M allows p q
  leads stop = here
  leads (step r) = next (leads r)

  -- where memory has run out at a point, a run may go on
  goes_on : {p q r : Point S C} → OutOfMemory M allows p q → Leads M allows q r → Leads M allows p r
  goes_on (before_step at) r = out_before_step r
  goes_on (in_native is at e first state may) r = out_in_native is e first state may r

module _ {S H : Type 0} (rules : Rules S H) where
  pub goes : {p q : Point S (Core H)} → Reaches (machine rules) (cut rules) p q → Leads (machine rules) (cut rules) p q
  goes r = leads (machine rules) (cut rules) r

  pub goes_up_to : {p q : Point S (Core H)} → UpToMemory rules p q → Leads (machine rules) (cut rules) p q
  goes_up_to (inl r) = goes r
  goes_up_to (inr out) = goes out.steps ⨾ goes_on (machine rules) (cut rules) out.runs_out out.unwinds
