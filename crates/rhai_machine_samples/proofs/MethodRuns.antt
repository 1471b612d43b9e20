-- The sample runs of methods.
use Rattle.std.proofs.Common.{refl, zero, suc, subst}
use Rattle.std.specs.Prelude.{◌≡◌, ℕ, Bool, List}
use Rattle.rhai_values.specs.declared.base.value.FnPtr.{out-roll-FnPtr}
use Rattle.rhai_values.specs.declared.base.value.Union.TheVariants as kind
use Rattle.rhai_machine.specs.machine.Machine.{Machine}
use Rattle.rhai_machine.specs.machine.Point.{Point, after, moved, Reaches, here, next}
use Rattle.rhai_machine_samples.specs.Runs.{Table}
use Rattle.rhai_machine_samples.specs.Methods.{Methods}
use Rattle.rhai_machine_samples.proofs.SampleRuns.{measured}

ruleset pointing = (measured, kind.outs-Int, kind.outs-Map, kind.outs-FnPtr, out-roll-FnPtr)

module _ {S H Core : Type 0} (M : Machine S H Core) (allows : ℕ → Bool) where
  -- so many steps
  abbrev times : ℕ → Point S Core → Point S Core
  times zero p = p
  times (suc n) p = times n (moved M allows (M.move p.core) p)

  -- a point is reached by the steps that lead to it
  by_times : (n : ℕ) {p q : Point S Core} → times n p ≡ q → Reaches M allows p q
  unfolding after
  by_times zero {p} same = subst (λ x. Reaches M allows p x) same here
  by_times (suc n) same = next (by_times n same)

module _ {S H : Type 0} (table : Table S H) (host : H → List ℕ) where
  pub methods : Methods table host
  methods = record {
    changed = λ replies impure. by_times _ _ 3 (simp (replies, impure, pointing));
    unchanged = λ replies pure. by_times _ _ 3 (simp (replies, pure, pointing));
    curried = by_times _ _ 0 (simp pointing);
    barred = λ impure. by_times _ _ 1 (simp (impure, pointing));
    mismatch = by_times _ _ 0 (simp pointing);
    own = λ replies impure. by_times _ _ 3 (simp (replies, impure, pointing));
    shared = by_times _ _ 0 refl;
    entered = by_times _ _ 0 refl;
    races = by_times _ _ 0 refl;
    called_race = by_times _ _ 0 refl;
  }
