-- The bench's table is lawful, as either of the two is.
use Rattle.std.proofs.Common.{◌≡◌, ℕ, ℤ, List, Option, Some, None, ap}
use Rattle.rhai_values.specs.declared.base.value.Dynamic.{Dynamic}
use Rattle.rhai_values.specs.ValueContents.{Reached}
use Rattle.rhai_errors.specs.Native.{Effect, Reply, Request, Leaves, Lawful, LawfulCall, Obeys}
use Rattle.rhai_errors.specs.Native.{IsReached, ByState, ByFirst, ByOthers, ByCell}
use Rattle.rhai_natives.specs.Law.{lawful_list}
use Rattle.rhai_tables.specs.declared.host.Pair.{Pair}
use Rattle.rhai_tables.specs.Bench.{State, OfCounting, OfOdd, counting, holds, natives, within}
use Rattle.rhai_tables.specs.Counting.{answering, listing}
use Rattle.rhai_tables.specs.Odd as odd
use Rattle.rhai_tables.specs.OddLaw.{odd_lawful}

-- what is reached in one of them is reached in either
reached_by_counting : {counter : ℤ} {q : Request Pair} {r : Reached} → IsReached counting.holds counter q r →
    IsReached holds (OfCounting counter) q r
reached_by_counting (ByState held) = ByState held
reached_by_counting (ByFirst held) = ByFirst held
reached_by_counting (ByOthers held) = ByOthers held
reached_by_counting (ByCell number v cell is held) = ByCell number v (reached_by_counting cell) is held

reached_by_odd : {kept : odd.Kept} {q : Request Pair} {r : Reached} → IsReached odd.holds kept q r → IsReached holds (OfOdd kept) q r
reached_by_odd (ByState held) = ByState held
reached_by_odd (ByFirst held) = ByFirst held
reached_by_odd (ByOthers held) = ByOthers held
reached_by_odd (ByCell number v cell is held) = ByCell number v (reached_by_odd cell) is held

-- what a call on one of them does is done on either
pub obeys_within : {S : Type 0} (f : S → State) (e : Effect S Pair) (reply : Option (Reply Pair)) (first : Option (Dynamic Pair)) (s : S) →
    Obeys e reply first s → Obeys (within f e) reply first (f s)
obeys_within f e None first s h = tt
obeys_within f e (Some reply) first s h = ap (within f) h

module _ (host : Pair → List ℕ) (q : Request Pair) where
  pub counting_leaves : (before after : ℤ) (first : Option (Dynamic Pair)) → Leaves host counting before q first after →
      Leaves host natives (OfCounting before) q first (OfCounting after)
  counting_leaves before after first h = record {
    pure_keeps = h.pure_keeps;
    first_reached = λ r held. reached_by_counting (h.first_reached r held);
    state_reached = λ r held. reached_by_counting (h.state_reached r held);
  }

  pub odd_leaves : (before after : odd.Kept) (first : Option (Dynamic Pair)) → Leaves host odd.natives before q first after →
      Leaves host natives (OfOdd before) q first (OfOdd after)
  odd_leaves before after first h = record {
    pure_keeps = h.pure_keeps;
    first_reached = λ r held. reached_by_odd (h.first_reached r held);
    state_reached = λ r held. reached_by_odd (h.state_reached r held);
  }

  counting_call : (counter : ℤ) → LawfulCall host counting counter q → LawfulCall host natives (OfCounting counter) q
  counting_call counter l = record {
    allowed = l.allowed;
    first_no_handle = l.first_no_handle;
    missing_keeps = l.missing_keeps;
    leaves = counting_leaves counter _ _ l.leaves;
    answer_reached = λ r held. reached_by_counting (l.answer_reached r held);
    reads_reached = λ cells agrees.
        ap (within OfCounting) (l.reads_reached cells (λ number there. agrees number (reached_by_counting there)));
  }

  odd_call : (kept : odd.Kept) → LawfulCall host odd.natives kept q → LawfulCall host natives (OfOdd kept) q
  odd_call kept l = record {
    allowed = l.allowed;
    first_no_handle = l.first_no_handle;
    missing_keeps = l.missing_keeps;
    leaves = odd_leaves kept _ _ l.leaves;
    answer_reached = λ r held. reached_by_odd (l.answer_reached r held);
    reads_reached = λ cells agrees.
        ap (within OfOdd) (l.reads_reached cells (λ number there. agrees number (reached_by_odd there)));
  }

pub bench_lawful : (host : Pair → List ℕ) → Lawful host natives
bench_lawful host (OfCounting counter) q h = counting_call host q counter (lawful_list listing answering host counter q h)
bench_lawful host (OfOdd kept) q h = odd_call host q kept (odd_lawful host kept q h)
