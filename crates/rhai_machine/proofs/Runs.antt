-- A run has one end, and adds to its calls and its count alone.
use Rattle.std.proofs.Common.{refl, sym, ◌∙◌, ap, subst, append_assoc, arith}
use Rattle.std.proofs.lemmas.Bool.Decides.{nat_tests}
use Rattle.std.specs.Prelude.{◌≡◌, ◌≤◌, ◌<◌, ◌+◌, ℕ, Bool, true, false, List, [], ◌∷◌, ◌++◌, Some, None, nat_lt}
use Rattle.rhai_tree.specs.declared.position.Position.{Position}
use Rattle.rhai_errors.specs.Native.{Request}
use Rattle.rhai_machine.specs.machine.Machine.{Move, Halt, Go, Charge, Native, AskPure, Machine, Config, Run, ended, next, act, charged}
use Rattle.rhai_machine.specs.machine.Machine.{below, always}
use Rattle.rhai_machine.specs.machine.Laws.{Begins, OneEnd, CallsAreAdded, ChargesAreAdded, StaysWithin, IsEnough}

-- what begins a beginning begins the whole
begins_through : {H : Type 0} (a b c : List (Request H)) → Begins a b → Begins b c → Begins a c
begins_through a b c (xs, e) (ys, f) = (ys ++ xs, f ∙ ap (λ v. ys ++ v) e ∙ sym (append_assoc ys xs a))

module _ {S H Core : Type 0} (M : Machine S H Core) where
  -- a run has one end
  pub one_end : (allows : ℕ → Bool) {c a b : Config S H Core} → Run M allows c a → Run M allows c b → a ≡ b
  one_end allows (ended h) (ended k) = refl
  one_end allows (ended h) (next k s) = cc
  one_end allows (next h r) (ended k) = cc
  one_end allows {a = a} (next {d = d} h r) (next {d = e} k s) =
      let same : d ≡ e = cc in
      one_end allows (subst (λ x. Run M allows x a) same r) s

  charge_calls : (b : Bool) (at : Position) (d : Core) (c : Config S H Core) → (charged M b at d c).calls ≡ c.calls
  charge_calls true at d c = refl
  charge_calls false at d c = refl

  -- a step adds at most one call
  step_calls : (allows : ℕ → Bool) (v : Move H Core) (c d : Config S H Core) → act M allows v c ≡ Some d → Begins c.calls d.calls
  step_calls allows Halt c d h = cc
  step_calls allows (Go e) c d h = ([], cc)
  step_calls allows (Charge at e) c d h = let same = charge_calls (allows c.count) at e c in ([], cc)
  step_calls allows (Native q f) c d h = (q ∷ [], cc)
  step_calls allows (AskPure p f) c d h = ([], cc)

  -- calls are only added
  pub calls_added : (allows : ℕ → Bool) {c a : Config S H Core} → Run M allows c a → Begins c.calls a.calls
  calls_added allows (ended h) = ([], refl)
  calls_added allows {c} {a} (next {d = d} h r) =
      begins_through c.calls d.calls a.calls (step_calls allows (M.move c.core) c d h) (calls_added allows r)

  charge_count : (b : Bool) (at : Position) (d : Core) (c : Config S H Core) → c.count ≤ (charged M b at d c).count
  charge_count true at d c = omega arith
  charge_count false at d c = omega arith

  step_count : (allows : ℕ → Bool) (v : Move H Core) (c d : Config S H Core) → act M allows v c ≡ Some d → c.count ≤ d.count
  step_count allows Halt c d h = cc
  step_count allows (Go e) c d h = let same : c.count ≡ d.count = cc in omega (arith, same)
  step_count allows (Charge at e) c d h =
      let same : (charged M (allows c.count) at e c).count ≡ d.count = cc in
      omega (arith, same, charge_count (allows c.count) at e c)
  step_count allows (Native q f) c d h = let same : c.count ≡ d.count = cc in omega (arith, same)
  step_count allows (AskPure p f) c d h = let same : c.count ≡ d.count = cc in omega (arith, same)

  -- charges are only added
  pub charges_added : (allows : ℕ → Bool) {c a : Config S H Core} → Run M allows c a → c.count ≤ a.count
  charges_added allows (ended h) = omega arith
  charges_added allows {c} {a} (next {d = d} h r) =
      omega (arith, step_count allows (M.move c.core) c d h, charges_added allows r)

  charge_within : (limit : ℕ) (b : Bool) (at : Position) (d : Core) (c : Config S H Core) → nat_lt c.count limit ≡ b → c.count ≤ limit →
      (charged M b at d c).count ≤ limit
  charge_within limit true at d c is le = let lt : c.count < limit = grind (arith, nat_tests) in omega (arith, lt)
  charge_within limit false at d c is le = le

  step_within : (limit : ℕ) (v : Move H Core) (c d : Config S H Core) → act M (below limit) v c ≡ Some d → c.count ≤ limit → d.count ≤ limit
  step_within limit Halt c d h le = cc
  step_within limit (Go e) c d h le = let same : c.count ≡ d.count = cc in omega (arith, same)
  step_within limit (Charge at e) c d h le =
      let same : (charged M (nat_lt c.count limit) at e c).count ≡ d.count = cc in
      omega (arith, same, charge_within limit (nat_lt c.count limit) at e c refl le)
  step_within limit (Native q f) c d h le = let same : c.count ≡ d.count = cc in omega (arith, same)
  step_within limit (AskPure p f) c d h le = let same : c.count ≡ d.count = cc in omega (arith, same)

  -- a count within the limit stays within it
  pub stays_within : (limit : ℕ) {c a : Config S H Core} → c.count ≤ limit → Run M (below limit) c a → a.count ≤ limit
  stays_within limit le (ended h) = le
  stays_within limit {c} le (next {d = d} h r) = stays_within limit (step_within limit (M.move c.core) c d h le) r

  -- the end under one test is the end under another
  pub ends_alike : (m n : ℕ → Bool) (v : Move H Core) (c : Config S H Core) → act M m v c ≡ None → act M n v c ≡ None
  ends_alike m n Halt c h = refl
  ends_alike m n (Go e) c h = cc
  ends_alike m n (Charge at e) c h = cc
  ends_alike m n (Native q f) c h = cc
  ends_alike m n (AskPure p f) c h = cc

  -- a step without a limit after which the count is within one is a step below it
  step_below : (limit : ℕ) (v : Move H Core) (c d : Config S H Core) → act M always v c ≡ Some d → d.count ≤ limit →
      act M (below limit) v c ≡ Some d
  step_below limit Halt c d h le = cc
  step_below limit (Go e) c d h le = h
  step_below limit (Charge at e) c d h le =
      let same : c.count + 1 ≡ d.count = cc in
      let room : nat_lt c.count limit ≡ true = grind (arith, nat_tests, same) in
      rw room h
  step_below limit (Native q f) c d h le = h
  step_below limit (AskPure p f) c d h le = h

  -- a limit that a run does not pass changes nothing
  pub enough : (limit : ℕ) {c a : Config S H Core} → Run M always c a → a.count ≤ limit → Run M (below limit) c a
  enough limit {c} (ended h) le = ended (ends_alike always (below limit) (M.move c.core) c h)
  enough limit {c} (next {d = d} h r) le =
      next (step_below limit (M.move c.core) c d h (omega (arith, charges_added always r))) (enough limit r le)

  pub one_end_law : OneEnd M
  one_end_law allows c a b r s = one_end allows r s

  pub calls_added_law : CallsAreAdded M
  calls_added_law allows c a r = calls_added allows r

  pub charges_added_law : ChargesAreAdded M
  charges_added_law allows c a r = charges_added allows r

  pub stays_within_law : StaysWithin M
  stays_within_law limit c a le r = stays_within limit le r

  pub enough_law : IsEnough M
  enough_law limit c a r le = enough limit r le
