-- The cut run always ends, where no run goes on for ever without a charge.
use Rattle.std.proofs.Common.{refl, subst, arith, suc, zero}
use Rattle.std.proofs.lemmas.Bool.Decides.{nat_tests}
use Rattle.std.specs.Prelude.{◌≡◌, ◌<◌, ◌≤◌, ◌+◌, ℕ, Bool, true, false, List, ◌∷◌, nat_lt}
use Rattle.rhai_tree.specs.declared.position.Position.{Position}
use Rattle.rhai_errors.specs.Native.{Request}
use Rattle.rhai_machine.specs.machine.Machine.{Move, Halt, Go, Charge, Native, AskPure, Machine, Config, Run, ended, next, charged, below}
use Rattle.rhai_machine.specs.machine.Unwinding.{Passes, Unwinds}
use Rattle.rhai_machine.specs.machine.Settling.{Settles, at_end, at_charge, by_step, by_call, by_question, Falls}
use Rattle.rhai_machine.specs.machine.Laws.{AlwaysEnds, TwoLimits, LimitsAgree, TwoLimitsOfSteps, SizeSettles}
use Rattle.rhai_machine.specs.machine.Point.{Point, with_calls, Reaches}
use Rattle.rhai_machine.proofs.Points.{logged}
use Rattle.rhai_machine.proofs.Limits.{same_or_refused, wider_below}

module _ {S H Core : Type 0} (M : Machine S H Core) where
  abbrev config : Core → S → ℕ → List (Request H) → Config S H Core
  config c t n qs = record { core = c; table = t; count = n; calls = qs }

  abbrev Ended : ℕ → Core → S → ℕ → List (Request H) → Type 0
  Ended limit c t n qs = (a : Config S H Core) × Run M (below limit) (config c t n qs) a

  -- a refused charge unwinds to an end
  unwinds_to_end : (R : Core → Type 0) (u : Unwinds M R) (limit : ℕ) {c : Core} → Settles M c → R c →
      (t : S) (n : ℕ) (qs : List (Request H)) → Ended limit c t n qs
  unwinds_to_end R u limit (at_end is) r t n qs = (_, ended (rw is refl))
  unwinds_to_end R u limit {c} (by_step {d = d} is s) r t n qs =
      let passes : R d = subst (λ v. Passes R v) is (u.stays c r) in
      let end = unwinds_to_end R u limit s passes t n qs in
      (end.0, next (rw is refl) end.1)
  unwinds_to_end R u limit {c} (at_charge {d = d} {at = at} is) r t n qs =
      let passes : ⊥ = subst (λ v. Passes R v) is (u.stays c r) in absurd passes
  unwinds_to_end R u limit {c} (by_call {q = q} {f = f} is s) r t n qs =
      let passes : ⊥ = subst (λ v. Passes R v) is (u.stays c r) in absurd passes
  unwinds_to_end R u limit {c} (by_question {p = p} {f = f} is s) r t n qs =
      let passes : ⊥ = subst (λ v. Passes R v) is (u.stays c r) in absurd passes

  module _ (R : Core → Type 0) (u : Unwinds M R) (settles : (c : Core) → Settles M c) (limit : ℕ) where
    -- with so many charges left, a run ends
    abbrev EndsWith : ℕ → Type 0
    EndsWith k = (c : Core) (t : S) (n : ℕ) (qs : List (Request H)) → limit ≤ n + k → Ended limit c t n qs

    -- with one charge fewer, a run ends
    abbrev EndsWithFewer : ℕ → Type 0
    EndsWithFewer k = (j : ℕ) → suc j ≡ k → EndsWith j

    by_charge : (k : ℕ) (b : Bool) (at : Position) (d c : Core) (t : S) (n : ℕ) (qs : List (Request H)) → nat_lt n limit ≡ b →
        limit ≤ n + k → EndsWithFewer k
        → (a : Config S H Core) × Run M (below limit) (charged M b at d (config c t n qs)) a
    by_charge zero true at d c t n qs is le fewer = let lt : n < limit = grind (arith, nat_tests) in absurd (omega arith)
    by_charge (suc k) true at d c t n qs is le fewer = fewer k refl d t (n + 1) qs (omega arith)
    by_charge k false at d c t n qs is le fewer = unwinds_to_end R u limit (settles (M.refuse at c)) (u.refuses at c) t n qs

    in_steps : (k : ℕ) → EndsWithFewer k → {c : Core} → Settles M c → (t : S) (n : ℕ) (qs : List (Request H)) → limit ≤ n + k →
        Ended limit c t n qs
    in_steps k fewer (at_end is) t n qs le = (_, ended (rw is refl))
    in_steps k fewer (by_step is s) t n qs le = let end = in_steps k fewer s t n qs le in (end.0, next (rw is refl) end.1)
    in_steps k fewer {c} (at_charge {d = d} {at = at} is) t n qs le =
        let end = by_charge k (nat_lt n limit) at d c t n qs refl le fewer in
        (end.0, next (rw is refl) end.1)
    in_steps k fewer (by_call {q = q} is s) t n qs le =
        let e = M.natives.gives t q in
        let end = in_steps k fewer (s e.reply e.first) e.state n (q ∷ qs) le in
        (end.0, next (rw is refl) end.1)
    in_steps k fewer (by_question {p = p} is s) t n qs le =
        let end = in_steps k fewer (s (M.natives.pure t p)) t n qs le in
        (end.0, next (rw is refl) end.1)

    by_room : (k : ℕ) → EndsWith k
    by_room zero c t n qs le = in_steps zero (λ j e. cc) (settles c) t n qs le
    by_room (suc k) c t n qs le = in_steps (suc k) (λ j e d t n qs more. by_room k d t n qs (omega (arith, e, more))) (settles c) t n qs le

  -- the cut run always ends
  pub ends : (R : Core → Type 0) → Unwinds M R → ((c : Core) → Settles M c) → (limit : ℕ) (c : Config S H Core) →
      (a : Config S H Core) × Run M (below limit) c a
  ends R u settles limit c = by_room R u settles limit limit c.core c.table c.count c.calls (omega arith)

  pub always_ends_law : (R : Core → Type 0) → AlwaysEnds M R
  always_ends_law R u settles limit c = ends R u settles limit c

  -- under a higher limit the run ends too, and at the same end, or the lower limit refused a charge
  pub two_limits_law : (R : Core → Type 0) → TwoLimits M R
  two_limits_law R u settles m n lt c a run =
      let other = ends R u settles n c in
      (other.0, other.1, same_or_refused M R u (below m) (below n) (wider_below m n lt) run other.1)

  -- two limits, of steps told without the list of calls
  pub limits_agree : (R : Core → Type 0) → Unwinds M R → ((c : Core) → Settles M c) → (m : ℕ) {p q : Point S Core} →
      Reaches M (below m) p q → M.move q.core ≡ Halt → LimitsAgree M R m p q
  limits_agree R u settles m {p} {q} steps done calls =
      let log = logged M (below m) steps done calls in
      (log.0, log.1, λ n lt. two_limits_law R u settles m n lt (with_calls p calls) (with_calls q log.0) log.1)

  pub two_limits_of_steps_law : (R : Core → Type 0) → TwoLimitsOfSteps M R
  two_limits_of_steps_law R u settles m p q steps done = limits_agree R u settles m steps done

  -- a falling size shows that a core settles
  module _ (size : Core → ℕ) where
    by_move : (v : Move H Core) (c : Core) → M.move c ≡ v → Falls size c v → ((d : Core) → size d < size c → Settles M d) → Settles M c
    by_move Halt c is falls smaller = at_end is
    by_move (Go d) c is falls smaller = by_step is (smaller d falls)
    by_move (Charge at d) c is falls smaller = at_charge is
    by_move (Native q f) c is falls smaller = by_call is (λ reply first. smaller (f reply first) (falls reply first))
    by_move (AskPure p f) c is falls smaller = by_question is (λ answer. smaller (f answer) (falls answer))

    by_size : ((c : Core) → Falls size c (M.move c)) → (k : ℕ) (c : Core) → size c < k → Settles M c
    by_size falls zero c lt = absurd (omega arith)
    by_size falls (suc k) c lt = by_move (M.move c) c refl (falls c) (λ d less. by_size falls k d (omega arith))

    pub settles_by : ((c : Core) → Falls size c (M.move c)) → (c : Core) → Settles M c
    settles_by falls c = by_size falls (suc (size c)) c (omega arith)

  pub size_settles_law : SizeSettles M
  size_settles_law size falls c = settles_by size falls c
