-- What every way of following an index leaves: the state but for its count, which does not fall and stays within the limit.
use Rattle.std.proofs.Common.{◌≡◌, ◌≤◌, ◌<◌, ◌+◌, inl, inr, ℕ, List, Bool, true, false, Result, refl, sym, ap, ◌∙◌, arith}
use Rattle.std.proofs.lemmas.Bool.{cases_lt}
use Rattle.std.proofs.Math.Nat.{eq-or-lt_of_le}
use Rattle.rhai_errors.specs.declared.error.EvalAltResult.{EvalAltResult}
use Rattle.rhai_values.specs.declared.base.value.Dynamic.{Dynamic}
use Rattle.rhai_state.specs.declared.limits.Limits.{Limits}
use Rattle.rhai_state.specs.declared.state.GlobalRuntimeState.{GlobalRuntimeState}
use Rattle.rhai_values.specs.Layers.{layer_of}
use Rattle.rhai_errors.specs.Native.{Natives}
use Rattle.rhai_spots.specs.declared.spot.Access.{Access}
use Rattle.rhai_places.specs.declared.target.Target.{Target}
use Rattle.rhai_index.specs.Indexers.{asks_indexer}
use Rattle.rhai_index.specs.Indexes.{Indexes}

-- a state after another, below a limit
pub record Counts {H : Type 0} (limit : ℕ) (g g' : GlobalRuntimeState H) : Type 0 where
  pub rest : g' ≡ record g { num_operations = g'.num_operations }
  pub counts : g.num_operations ≤ g'.num_operations
  pub within : g.num_operations ≤ limit → g'.num_operations ≤ limit

module _ {H : Type 0} (limit : ℕ) (g g' : GlobalRuntimeState H) where
  -- a count that was charged
  counts_at : (n : ℕ) → g' ≡ record g { num_operations = n } → g.num_operations ≤ n → (g.num_operations ≤ limit → n ≤ limit) →
      Counts limit g g'
  counts_at n is above within =
      let same : g'.num_operations ≡ n = ap (λ (h : GlobalRuntimeState H). h.num_operations) is in
      record {
        rest = is ∙ ap (λ m. record g { num_operations = m }) (sym same);
        counts = omega arith;
        within = λ below. rw same (within below);
      }

module _ {S H T : Type 0} (limits : Limits) (host : H → List ℕ) (natives : Natives S H) (state_of : T → S)
    (how : Access) (use_indexers : Bool) (g : GlobalRuntimeState H) (t : T) (x i : Dynamic H)
    (g' : GlobalRuntimeState H) (t' : T) (i' : Dynamic H) (r : Result (Target H) (EvalAltResult H))
    (does : Indexes limits host natives state_of how use_indexers g t x i g' t' i' r) where
  abbrev limit : ℕ
  limit = limits.max_operations

  below_limit : (asked : Bool) → asks_indexer use_indexers (layer_of x) ≡ asked → g.num_operations < limit → Counts limit g g'
  below_limit false asked below =
      counts_at limit g g' (g.num_operations + 1) (does.charged below asked) (omega arith) (λ within. omega arith)
  below_limit true asked below =
      let next : g.num_operations + 1 ≤ limit = omega arith in
      elim (eq-or-lt_of_le next) as (λ _. Counts limit g g') [
        | inl last ↦ counts_at limit g g' (g.num_operations + 1) (does.indexer_refused last asked).1.0 (omega arith) (λ within. omega arith)
        | inr more ↦ counts_at limit g g' (g.num_operations + 2) (does.indexer_charged more asked) (omega arith) (λ within. omega arith)
      ]

  pub index_counts : Counts limit g g'
  index_counts = elim (cases_lt g.num_operations limit) as (λ _. Counts limit g g') [
    | inl below ↦ below_limit (asks_indexer use_indexers (layer_of x)) refl below
    | inr above ↦ counts_at limit g g' g.num_operations (does.same above).0 (omega arith) (λ within. within)
  ]
