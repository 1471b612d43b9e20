-- Which tables the law lets through: one that keeps an argument, but none that makes up a cell, reads one that it does not reach, or
-- is pure and changes its first argument.
use Rattle.std.proofs.Common.{ℕ, Bool, true, false, List, [], ◌∷◌, Option, Some, None, refl, ap, arith}
use Rattle.std.proofs.lemmas.Bool.{false≢true}
use Rattle.rhai_tree.specs.declared.position.Position.{Position}
use Rattle.rhai_values.specs.declared.base.value.Dynamic.{Dynamic}
use Rattle.rhai_values.specs.declared.base.value.Union.TheVariants as value
use Rattle.rhai_values.specs.Cells.{value_of_cell}
use Rattle.rhai_values.specs.Copy.{plain}
use Rattle.rhai_errors.specs.declared.error.EvalAltResult.TheVariants as error
use Rattle.rhai_errors.specs.Native.{Request, Reply, Missing, Gives, Faults, Natives, Lawful, IsReached, ByState, ByFirst, ByOthers, ByCell}
use Rattle.rhai_errors.specs.Native.{Named, effect, request}
use Rattle.rhai_values.specs.ValueContents.{Reached, Cell, Holdings, first_contents}
use Rattle.rhai_errors.proofs.ContentLemmas.{contents-handle, contents-runtime}

module _ {H : Type 0} (names : H → List ℕ) (own : H → List Reached) where
  -- a table that keeps the first argument, and gives it back in the next call's fault
  abbrev pub kept : Option (Dynamic H) → Position → Reply H
  kept None at = Missing
  kept (Some v) at = Faults (error.ErrorRuntime v at)

  abbrev pub keeps : Holdings (Option (Dynamic H)) H
  keeps = record { of_state = first_contents own; of_host = own }

  abbrev pub keeper : Natives (Option (Dynamic H)) H
  keeper = record { gives = λ s q. effect (kept s q.at) q.first q.first; pure = λ s p. true; holds = keeps }

  pub keeper_is_lawful : Lawful names keeper
  keeper_is_lawful None q h = record {
    allowed = tt;
    first_no_handle = h;
    missing_keeps = refl;
    leaves = record { pure_keeps = λ p. refl; first_reached = λ r held. ByFirst held; state_reached = λ r held. ByFirst held };
    answer_reached = λ r held. ByState held;
    reads_reached = λ cells agrees. refl;
  }
  keeper_is_lawful (Some v) q h = record {
    allowed = tt;
    first_no_handle = h;
    missing_keeps = tt;
    leaves = record { pure_keeps = λ p. refl; first_reached = λ r held. ByFirst held; state_reached = λ r held. ByFirst held };
    answer_reached = λ r held. ByState (rw contents-runtime at held);
    reads_reached = λ cells agrees. refl;
  }

  -- the state of a table that has none, in which nothing stands
  abbrev pub nothing : Holdings (Unit {0}) H
  nothing = record { of_state = λ s. []; of_host = own }

module _ {H : Type 0} (names : H → List ℕ) (own : H → List Reached) (at : Position) where
  -- a call without arguments
  abbrev pub bare : Request H
  bare = request [] (Named []) None [] at

  reaches_nothing : {r : Reached} → IsReached (nothing names own) tt bare r → ⊥
  reaches_nothing (ByState (k, below, is)) = absurd (omega (arith, below))
  reaches_nothing (ByFirst (k, below, is)) = absurd (omega (arith, below))
  reaches_nothing (ByOthers (k, below, is)) = absurd (omega (arith, below))
  reaches_nothing (ByCell number v cell is held) = reaches_nothing cell

  -- a table that makes up a cell
  abbrev pub inventor : Natives (Unit {0}) H
  inventor = record {
    gives = λ s q. effect (Faults (error.ErrorRuntime (plain (value.Cell (record { number = 0 }))) q.at)) q.first s;
    pure = λ s p. true;
    holds = nothing names own;
  }

  pub inventor_is_unlawful : Lawful names inventor → ⊥
  inventor_is_unlawful lawful =
      reaches_nothing ((lawful tt bare tt).answer_reached (Cell 0) (rw (contents-runtime, contents-handle) (0, omega arith, refl)))

  -- a table that answers by what stands in a cell that the call does not reach
  abbrev pub seen : Option (Dynamic H) → Reply H
  seen None = Missing
  seen (Some v) = Gives (plain value.Unit)

  abbrev pub peeper : Natives (Unit {0}) H
  peeper = record { gives = λ s q. effect (seen (value_of_cell q.cells 0)) q.first s; pure = λ s p. true; holds = nothing names own }

  abbrev is_missing : Reply H → Bool
  is_missing Missing = true
  is_missing _ = false

  pub peeper_is_unlawful : Lawful names peeper → ⊥
  peeper_is_unlawful lawful =
      let same = (lawful tt bare tt).reads_reached (Some (plain value.Unit) ∷ []) (λ number cell. absurd (reaches_nothing cell)) in
      false≢true (ap (λ e. is_missing e.reply) same)

  -- a table whose natives are pure and take the first argument away
  abbrev pub taker : Natives (Unit {0}) H
  taker = record { gives = λ s q. effect (Gives (plain value.Unit)) None s; pure = λ s p. true; holds = nothing names own }

  abbrev is_there : Option (Dynamic H) → Bool
  is_there None = false
  is_there (Some v) = true

  pub taker_is_unlawful : Lawful names taker → ⊥
  taker_is_unlawful lawful =
      let call = request [] (Named []) (Some (plain value.Unit)) [] at in
      false≢true (ap is_there ((lawful tt call tt).leaves.pure_keeps refl))
