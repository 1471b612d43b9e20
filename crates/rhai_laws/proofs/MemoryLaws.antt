-- Steps on which memory may run out, of any machine: their counts, what they keep, and up to where the machine takes them by itself.
use Rattle.std.proofs.Common.{refl, inl, inr, arith, ◌∙◌}
use Rattle.std.proofs.lemmas.Bool.Decides.{nat_tests}
use Rattle.std.specs.Prelude.{◌≡◌, ◌⊎◌, ◌≤◌, ◌<◌, ℕ, Bool, true, false, Option, nat_lt}
use Rattle.rhai_tree.specs.declared.position.Position.{Position}
use Rattle.rhai_values.specs.declared.base.value.Dynamic.{Dynamic}
use Rattle.rhai_errors.specs.Native.{Request, Reply, Faults}
use Rattle.rhai_machine.specs.machine.Machine.{Move, Halt, Go, Charge, Native, AskPure, Machine, below}
use Rattle.rhai_machine.specs.machine.Unwinding.{Passes}
use Rattle.rhai_machine.specs.machine.Point.{Point, Reaches, here as stop, next as step, paid, moved, after}
use Rattle.rhai_machine.specs.machine.Memory.{Leads, here, next, out_before_step, out_in_native, out_of_memory, out_of_memory_in_native}
use Rattle.rhai_machine.specs.machine.Memory.{before_step, in_native, RunsOut, MemoryUnwinds}
use Rattle.rhai_laws.specs.Steady.{Moves, Steady}
use Rattle.rhai_laws.specs.Memory.{IsStraight, IsUpTo, IsLeft, LeavesAll, Counts, CountsWithin, IsKept}

module _ {S H Core : Type 0} (M : Machine S H Core) (allows : ℕ → Bool) where
  module _ (W : Core → Type 0) (w : MemoryUnwinds M W) where
    passed : (v : Move H Core) (p : Point S Core) → W p.core → Passes W v → W (moved M allows v p).core
    passed Halt p h s = h
    passed (Go d) p h s = s
    passed (Charge at d) p h s = absurd s
    passed (Native q f) p h s = absurd s
    passed (AskPure q f) p h s = absurd s

    -- where memory has run out it stays so
    pub stays_out : {p q : Point S Core} → Leads M allows p q → W p.core → W q.core
    unfolding after
    stays_out here h = h
    stays_out (next {p = p} r) h = stays_out r (passed (M.move p.core) p h (w.stays p.core h))
    stays_out (out_before_step {p = p} {at = at} r) h = stays_out r (w.begins at p.core)
    stays_out (out_in_native {f = f} {at = at} is e first state may r) h = stays_out r (w.begins at (f (Faults e) first))

    -- steps that do not end out of memory are the machine's own
    pub straight : {p q : Point S Core} → Leads M allows p q → (W q.core → ⊥) → Reaches M allows p q
    straight here has = stop
    straight (next r) has = step (straight r has)
    straight (out_before_step {p = p} {at = at} r) has = absurd (has (stays_out r (w.begins at p.core)))
    straight (out_in_native {f = f} {at = at} is e first state may r) has = absurd (has (stays_out r (w.begins at (f (Faults e) first))))

    later : {p q : Point S Core} → Reaches M allows (after M allows p) q ⊎ RunsOut M allows W (after M allows p) q →
        Reaches M allows p q ⊎ RunsOut M allows W p q
    later (inl r) = inl (step r)
    later (inr o) =
        inr (record {
          before = o.before;
          since = o.since;
          steps = step o.steps;
          runs_out = o.runs_out;
          is_out = o.is_out;
          unwinds = o.unwinds;
        })

    -- the machine takes the steps by itself, or up to where memory runs out
    pub up_to : {p q : Point S Core} → Leads M allows p q → Reaches M allows p q ⊎ RunsOut M allows W p q
    up_to here = inl stop
    up_to (next r) = later (up_to r)
    up_to (out_before_step {p = p} {at = at} r) =
        inr (record {
          before = p;
          since = out_of_memory M at p;
          steps = stop;
          runs_out = before_step at;
          is_out = w.begins at p.core;
          unwinds = r;
        })
    up_to (out_in_native {p = p} {f = f} {at = at} is e first state may r) =
        inr (record {
          before = p;
          since = out_of_memory_in_native M at f e first state p;
          steps = stop;
          runs_out = in_native is at e first state may;
          is_out = w.begins at (f (Faults e) first);
          unwinds = r;
        })

    no_native : (v : Move H Core) (q : Request H) (f : Reply H → Option (Dynamic H) → Core) → v ≡ Native q f → Passes W v → ⊥
    no_native v q f is s = rw is at s

    left_moved : (v : Move H Core) (p : Point S Core) → Passes W v → IsLeft p (moved M allows v p)
    left_moved Halt p s = record { count = refl; table = refl }
    left_moved (Go d) p s = record { count = refl; table = refl }
    left_moved (Charge at d) p s = absurd s
    left_moved (Native q f) p s = absurd s
    left_moved (AskPure q f) p s = absurd s

    left_through : {p m q : Point S Core} → IsLeft p m → IsLeft m q → IsLeft p q
    left_through a b = record { count = b.count ∙ a.count; table = b.table ∙ a.table }

    -- the out-of-memory error charges nothing and calls nothing on its way down
    pub left : {p q : Point S Core} → Leads M allows p q → W p.core → IsLeft p q
    unfolding after
    left here h = record { count = refl; table = refl }
    left (next {p = p} r) h = left_through (left_moved (M.move p.core) p (w.stays p.core h))
        (left r (passed (M.move p.core) p h (w.stays p.core h)))
    left (out_before_step {p = p} {at = at} r) h =
        let on = left r (w.begins at p.core) in record { count = on.count; table = on.table }
    left (out_in_native {p = p} {call = call} {f = f} is e first state may r) h =
        absurd (no_native (M.move p.core) call f is (w.stays p.core h))

  charge_counts : (b : Bool) (at : Position) (d : Core) (p : Point S Core) → p.count ≤ (paid M b at d p).count
  charge_counts true at d p = omega arith
  charge_counts false at d p = omega arith

  move_counts : (v : Move H Core) (p : Point S Core) → p.count ≤ (moved M allows v p).count
  move_counts Halt p = omega arith
  move_counts (Go d) p = omega arith
  move_counts (Charge at d) p = charge_counts (allows p.count) at d p
  move_counts (Native q f) p = omega arith
  move_counts (AskPure q f) p = omega arith

  -- charges are only added
  pub counts : {p q : Point S Core} → Leads M allows p q → p.count ≤ q.count
  unfolding after
  counts here = omega arith
  counts (next {p = p} r) = omega (arith, move_counts (M.move p.core) p, counts r)
  counts (out_before_step r) = counts r
  counts (out_in_native is e first state may r) = counts r

module _ {S H Core : Type 0} (M : Machine S H Core) (limit : ℕ) where
  charge_within : (b : Bool) (at : Position) (d : Core) (p : Point S Core) → nat_lt p.count limit ≡ b → p.count ≤ limit →
      (paid M b at d p).count ≤ limit
  charge_within true at d p is le = let lt : p.count < limit = grind (arith, nat_tests) in omega (arith, lt)
  charge_within false at d p is le = le

  move_within : (v : Move H Core) (p : Point S Core) → p.count ≤ limit → (moved M (below limit) v p).count ≤ limit
  move_within Halt p le = le
  move_within (Go d) p le = le
  move_within (Charge at d) p le = charge_within (nat_lt p.count limit) at d p refl le
  move_within (Native q f) p le = le
  move_within (AskPure q f) p le = le

  -- a count within the limit stays within it
  pub within : {p q : Point S Core} → Leads M (below limit) p q → p.count ≤ limit → q.count ≤ limit
  unfolding after
  within here le = le
  within (next {p = p} r) le = within r (move_within (M.move p.core) p le)
  within (out_before_step r) le = within r le
  within (out_in_native is e first state may r) le = within r le

module _ {S H Core : Type 0} (M : Machine S H Core) (allows : ℕ → Bool) (R : Core → Core → Type 0) (kept : Steady M R) where
  kept_charge : (b : Bool) (at : Position) (d : Core) (p : Point S Core) → R p.core d → R p.core (paid M b at d p).core
  kept_charge true at d p h = h
  kept_charge false at d p h = kept.refuses at p.core

  kept_move : (v : Move H Core) (p : Point S Core) → Moves R p.core v → R p.core (moved M allows v p).core
  kept_move Halt p h = kept.same p.core
  kept_move (Go d) p h = h
  kept_move (Charge at d) p h = kept_charge (allows p.count) at d p h
  kept_move (Native q f) p h = h (M.natives.gives p.table q).reply (M.natives.gives p.table q).first
  kept_move (AskPure q f) p h = h (M.natives.pure p.table q)

  kept_reply : (v : Move H Core) (c : Core) (q : Request H) (f : Reply H → Option (Dynamic H) → Core)
      (reply : Reply H) (first : Option (Dynamic H)) →
      v ≡ Native q f → Moves R c v → R c (f reply first)
  kept_reply v c q f reply first is h = (rw is at h) reply first

  -- such a relation is kept by all steps, also where memory runs out
  pub keeps : {p q : Point S Core} → Leads M allows p q → R p.core q.core
  unfolding after
  keeps (here {p = p}) = kept.same p.core
  keeps (next {p = p} r) = kept.through (kept_move (M.move p.core) p (kept.moves p.core)) (keeps r)
  keeps (out_before_step {p = p} {at = at} r) = kept.through (kept.is_out at p.core) (keeps r)
  keeps (out_in_native {p = p} {call = call} {f = f} {at = at} is e first state may r) =
      kept.through (kept_reply (M.move p.core) p.core call f (Faults e) first is (kept.moves p.core))
      (kept.through (kept.is_out at (f (Faults e) first)) (keeps r))

module _ {S H Core : Type 0} (M : Machine S H Core) where
  pub straight_law : (W : Core → Type 0) → IsStraight M W
  straight_law W w allows p q steps has = straight M allows W w steps has

  pub up_to_law : (W : Core → Type 0) → IsUpTo M W
  up_to_law W w allows p q steps = up_to M allows W w steps

  pub leaves_law : (W : Core → Type 0) → LeavesAll M W
  leaves_law W w allows p q o = left M allows W w o.unwinds o.is_out

  pub counts_law : Counts M
  counts_law allows p q steps = counts M allows steps

  pub within_law : CountsWithin M
  within_law limit p q le steps = within M limit steps le

  pub keeps_law : (R : Core → Core → Type 0) → IsKept M R
  keeps_law R kept allows p q steps = keeps M allows R kept steps
