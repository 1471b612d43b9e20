-- Two tests of the count: a run is the same under both up to the first charge that one of them refuses, and then it unwinds.
use Rattle.std.proofs.Common.{refl, sym, ◌∙◌, subst, inl, inr, arith}
use Rattle.std.proofs.lemmas.Bool.Decides.{nat_tests}
use Rattle.std.specs.Prelude.{◌≡◌, ◌⊎◌, ◌<◌, ℕ, Bool, true, false, Some}
use Rattle.rhai_tree.specs.declared.position.Position.{Position}
use Rattle.rhai_machine.specs.machine.Machine.{Move, Halt, Go, Charge, Native, AskPure, Machine, Config, Run, ended, next, act, step}
use Rattle.rhai_machine.specs.machine.Machine.{charged, below, always}
use Rattle.rhai_machine.specs.machine.Unwinding.{Passes, Unwinds, Unwound}
use Rattle.rhai_machine.specs.machine.Laws.{SameOrRefused, Together, none, also, PartsAt, OnlyUnwinds, Follows, WithoutLimit}
use Rattle.rhai_machine.proofs.Runs.{one_end, calls_added, ends_alike}

-- each charge that one test lets through is let through by the other
abbrev pub Wider : (ℕ → Bool) → (ℕ → Bool) → Type 0
Wider lower higher = (count : ℕ) → lower count ≡ true → higher count ≡ true

pub wider_below : (m n : ℕ) → m < n → Wider (below m) (below n)
wider_below m n lt count is = grind (arith, nat_tests)

pub wider_always : (lower : ℕ → Bool) → Wider lower always
wider_always lower count is = refl

module _ {S H Core : Type 0} (M : Machine S H Core) (R : Core → Type 0) (u : Unwinds M R) where
  -- a step of a core that unwinds leaves one, and table, count and calls
  unwinding_step : (allows : ℕ → Bool) (v : Move H Core) (c d : Config S H Core) → Passes R v → act M allows v c ≡ Some d → Unwound R c d
  unwinding_step allows Halt c d p h = cc
  unwinding_step allows (Go e) c d p h =
      let same : record c { core = e } ≡ d = cc in
      subst (λ x. Unwound R c x) same (record { refused = p; table = refl; count = refl; calls = refl })
  unwinding_step allows (Charge at e) c d p h = absurd p
  unwinding_step allows (Native q f) c d p h = absurd p
  unwinding_step allows (AskPure q f) c d p h = absurd p

  unwound_through : (c d a : Config S H Core) → Unwound R c d → Unwound R d a → Unwound R c a
  unwound_through c d a first rest =
      record {
        refused = rest.refused;
        table = rest.table ∙ first.table;
        count = rest.count ∙ first.count;
        calls = rest.calls
            ∙ first.calls;
      }

  -- once a charge is refused, the run only unwinds
  pub only_unwinds : (allows : ℕ → Bool) {c a : Config S H Core} → R c.core → Run M allows c a → Unwound R c a
  only_unwinds allows r (ended h) = record { refused = r; table = refl; count = refl; calls = refl }
  only_unwinds allows {c} {a} r (next {d = d} h s) =
      let first = unwinding_step allows (M.move c.core) c d (u.stays c.core r) h in
      unwound_through c d a first (only_unwinds allows first.refused s)

  module _ (lower higher : ℕ → Bool) (wide : Wider lower higher) where
    -- a step is the same under both tests, or its charge is refused by the lower one
    record Refuses (v : Move H Core) (c d : Config S H Core) : Type 0 where
      position : Position
      core : Core
      charges : v ≡ Charge position core
      refused : lower c.count ≡ false
      left : record c { core = M.refuse position c.core } ≡ d

    charge_alike : (x y : Bool) (at : Position) (e : Core) (c d : Config S H Core) → lower c.count ≡ x → (x ≡ true → y ≡ true) →
        Some (charged M x at e c) ≡ Some d
        → (Some (charged M y at e c) ≡ Some d) ⊎ Refuses (Charge at e) c d
    charge_alike true true at e c d is le h = inl h
    charge_alike true false at e c d is le h = let no : false ≡ true = le refl in cc
    charge_alike false y at e c d is le h = inr (record { position = at; core = e; charges = refl; refused = is; left = cc })

    step_alike : (v : Move H Core) (c d : Config S H Core) → act M lower v c ≡ Some d → (act M higher v c ≡ Some d) ⊎ Refuses v c d
    step_alike Halt c d h = cc
    step_alike (Go e) c d h = inl h
    step_alike (Charge at e) c d h = charge_alike (lower c.count) (higher c.count) at e c d refl (wide c.count) h
    step_alike (Native q f) c d h = inl h
    step_alike (AskPure p f) c d h = inl h

    -- a step that is the same is put before
    before : (c d a : Config S H Core) → step M lower c ≡ Some d → step M higher c ≡ Some d →
        Run M higher d a ⊎ PartsAt M R lower higher d a
        → Run M higher c a ⊎ PartsAt M R lower higher c a
    before c d a h k (inl run) = inl (next k run)
    before c d a h k (inr parts) =
        inr (record {
          point = parts.point;
          position = parts.position;
          core = parts.core;
          together = also h k parts.together;
          charges = parts.charges;
          refused = parts.refused;
          goes_on = parts.goes_on;
          unwound = parts.unwound;
        })

    parts_here : (c d a : Config S H Core) → Refuses (M.move c.core) c d → Run M lower d a → PartsAt M R lower higher c a
    parts_here c d a off run =
        let rest = subst (λ x. Run M lower x a) (sym off.left) run in
        let unwound = only_unwinds lower (u.refuses off.position c.core) rest in
        record {
          point = c;
          position = off.position;
          core = off.core;
          together = none;
          charges = off.charges;
          refused = off.refused;
          goes_on = rest;
          unwound = record {
            refused = unwound.refused;
            table = unwound.table;
            count = unwound.count;
            calls = unwound.calls;
          };
        }

    -- the run of a test is that of a wider one, or follows it up to the first charge that is refused
    pub follows : {c a : Config S H Core} → Run M lower c a → Run M higher c a ⊎ PartsAt M R lower higher c a
    follows {c} (ended h) = inl (ended (ends_alike M lower higher (M.move c.core) c h))
    follows {c} {a} (next {d = d} h run) =
        elim (step_alike (M.move c.core) c d h) [
          | inl k ↦ before c d a h k (follows run)
          | inr off ↦ inr (parts_here c d a off run)
        ]

    -- a run that goes on from the steps that two runs share
    goes_on : {c d b : Config S H Core} → Together M lower higher c d → Run M higher c b → Run M higher d b
    goes_on none run = run
    goes_on (also h k together) (ended e) = cc
    goes_on {b = b} (also {d = d} h k together) (next {d = e} l run) =
        let same : e ≡ d = cc in
        goes_on together (subst (λ x. Run M higher x b) same run)

    ends_of : {c a b : Config S H Core} → Run M higher c b → Run M higher c a ⊎ PartsAt M R lower higher c a → SameOrRefused R a b
    ends_of run (inl same) = inl (one_end M higher same run)
    ends_of run (inr parts) =
        inr (parts.unwound.refused, rw parts.unwound.calls (calls_added M higher (goes_on parts.together run)))

    -- two ends under two tests: the same, or the lower one refused a charge, and its calls begin the other's
    pub same_or_refused : {c a b : Config S H Core} → Run M lower c a → Run M higher c b → SameOrRefused R a b
    same_or_refused run other = ends_of other (follows run)

module _ {S H Core : Type 0} (M : Machine S H Core) (R : Core → Type 0) where
  pub only_unwinds_law : OnlyUnwinds M R
  only_unwinds_law u allows c a r run = only_unwinds M R u allows r run

  pub follows_law : Follows M R
  follows_law u limit c a run = follows M R u (below limit) always (wider_always (below limit)) run

  pub without_limit_law : WithoutLimit M R
  without_limit_law u limit c a b run other = same_or_refused M R u (below limit) always (wider_always (below limit)) run other
