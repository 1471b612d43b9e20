-- A run comes to one halt.
use Rattle.std.proofs.Common.{◌≡◌, ◌⊎◌, ℕ, Bool, refl, sym, ◌∙◌, ap, subst, inl, inr}
use Rattle.rhai_machine.specs.machine.Machine.{Machine, Halt}
use Rattle.rhai_machine.specs.machine.Point.{Point, Reaches, here, next, after, moved}

module _ {S H Core : Type 0} (M : Machine S H Core) (allows : ℕ → Bool) where
  -- from a halt there is no step
  halt_stays : {p : Point S Core} → M.move p.core ≡ Halt → after M allows p ≡ p
  unfolding after
  halt_stays {p} halts = ap (λ m. moved M allows m p) halts

  -- so it leads to itself alone
  pub from_halt : {p q : Point S Core} → M.move p.core ≡ Halt → Reaches M allows p q → q ≡ p
  from_halt halts here = refl
  from_halt {p} halts (next run) =
      let stays = halt_stays {p = p} halts in
      let P : Point S Core → Type 0 = λ x. M.move x.core ≡ Halt in
      from_halt (subst P (sym stays) halts) run ∙ stays

  -- two halts that one start leads to are one
  pub one_halt : {p q r : Point S Core} → Reaches M allows p q → Reaches M allows p r → M.move q.core ≡ Halt → M.move r.core ≡ Halt →
      q ≡ r
  one_halt here run first second = sym (from_halt first run)
  one_halt (next run) here first second = from_halt second (next run)
  one_halt (next run) (next other) first second = one_halt run other first second

  -- of two points that one start leads to, one leads to the other
  pub either_way : {p q r : Point S Core} → Reaches M allows p q → Reaches M allows p r → Reaches M allows q r ⊎ Reaches M allows r q
  either_way here run = inl run
  either_way (next run) here = inr (next run)
  either_way (next run) (next other) = either_way run other

  -- a run has no step or a first one
  pub first_step : {p q : Point S Core} → Reaches M allows p q → (q ≡ p) ⊎ Reaches M allows (after M allows p) q
  first_step here = inl refl
  first_step (next run) = inr run
